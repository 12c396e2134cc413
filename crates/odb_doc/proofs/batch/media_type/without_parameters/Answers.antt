use Rattle.std.proofs.Common.{◌≡◌, ◌≤◌, ℕ, List, length, subst, sym, arith}
use Rattle.std.specs.List.{before_first, position_or_len}
use Rattle.std.proofs.lemmas.List.{take_all}
use Rattle.odb_names.specs.Runs.{SplitsRun}
use Rattle.odb_doc.specs.batch.MediaTypes.{is_in_type}
use Rattle.odb_doc.proofs.TypeLemmas.{ends_type, type_before}
use Rattle.odb_doc.proofs.batch.media_type.without_parameters.Goals as goal

pub returns-in-Some : goal.returns-in-Some
returns-in-Some c =
    let value = c.args.value.now in
    let is : c.in-Some.name.now ≡ before_first ends_type value = (c.in-Some.ensures.byte (omega arith) (λ w o finds. finds)).0 in
    subst (λ (name : List ℕ). (rest : List ℕ) × SplitsRun is_in_type value name rest) (sym is) (type_before value)

pub returns-in-None : goal.returns-in-None
returns-in-None c =
    let value = c.args.value.now in
    let none : position_or_len ends_type value ≡ length value = c.in-None.ensures.byte (omega arith) (λ w o finds. finds) in
    let all : length value ≤ position_or_len ends_type value = omega (arith, none) in
    subst (λ (name : List ℕ). (rest : List ℕ) × SplitsRun is_in_type value name rest) (take_all (position_or_len ends_type value) value all) (type_before value)

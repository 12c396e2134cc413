use Rattle.std.proofs.Common.{◌≡◌, ◌<◌, ◌∙◌, Option, Some, None, false, inl, inr, refl, ap, sym, subst, arith}
use Rattle.std.specs.Prelude.{is_some}
use Rattle.std.proofs.lemmas.Bool.{cases_lt, false≢true, le-leb}
use Rattle.odb_check.specs.Positions.{group_at}
use Rattle.odb_check.specs.Resolved.{batch_of}
use Rattle.odb_check.proofs.AnyLemmas.{Decides-none, copied_some}
use Rattle.odb_check.proofs.NameLemmas.{plain_one, plain_group}
use Rattle.odb_check.proofs.NeedLemmas.{is_meant}
use Rattle.odb_check.proofs.names.Resolved.may_break.Goals as goal

nothing : {X : Type 0} (found : Option X) → is_some found ≡ false → found ≡ None
nothing None e = refl
nothing (Some x) e = absurd (false≢true (sym e))

pub returns-else-self-position : goal.returns-else-self-position
returns-else-self-position c = λ plain name means.
    let j = c.args.self.now in
    let p = c.in-One.position in
    let less : p < j.i = omega (arith, c.if-self-position.false) in
    let free : group_at (batch_of j) p ≡ None = nothing (group_at (batch_of j) p) (ap is_some c.group.ensures ∙ sym (copied_some c.group.result) ∙ sym c.is_some.ensures ∙ plain) in
    Decides-none (plain_one j p name (is_meant _ name _ (means ∙ ap Some c.in-One.is)) less free)

pub returns-in-Group : goal.returns-in-Group
returns-in-Group c = λ plain name means.
    let j = c.args.self.now in
    let u = c.in-Group.unit in
    let less : u < c.unit_of.result = elim (cases_lt u c.unit_of.result) [ inl less ↦ less | inr more ↦ absurd (false≢true (sym plain ∙ le-leb c.unit_of.result u more)) ] in
    Decides-none (plain_group j u name (is_meant _ name _ (means ∙ ap Some c.in-Group.is)) (subst (λ v. u < v) c.unit_of.ensures.value less))

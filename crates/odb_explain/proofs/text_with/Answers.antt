-- The explanation that was found, as its text.
use Rattle.std.proofs.Common.{List, ℕ, Bor}
use Rattle.odb_explain.specs.Explanations.{has_code, with_code}
use Rattle.odb_explain.proofs.FindLemmas.{found-as}
use Rattle.odb_explain.proofs.text_with.Goals as goal

pub returns : goal.returns
unfolding with_code
returns c = found-as (λ (text : Bor (List ℕ)). text.now) (has_code c.args.code.now) c.args.texts.now c.first_with.result c.first_with.ensures

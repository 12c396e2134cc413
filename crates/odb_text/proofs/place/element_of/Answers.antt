use Rattle.std.proofs.Common.{◌∙◌, ◌++◌, List, ℕ, codes, ap, Some}
use Rattle.std.proofs.lemmas.Bool.Decides.{Decides-eqb}
use Rattle.std.proofs.lemmas.Slice.Eq.{strip_prefix_is}
use Rattle.odb_text.proofs.place.element_of.Goals as goal

pub returns-in-Some-strip_prefix-2-clause-some : goal.returns-in-Some-strip_prefix-2-clause-some
returns-in-Some-strip_prefix-2-clause-some c =
    strip_prefix_is Decides-eqb c.args.text.now (codes "/responses/") (Some c.in-Some-strip_prefix-2.digits) c.in-Some-strip_prefix-2.ensures.cases
    ∙ ap (λ (ds : List ℕ). codes "/responses/" ++ ds) c.in_ok-number_of-3.ensures.some

use Rattle.std.proofs.Common.{List, Contains, slice_index_or, subst}
use Rattle.std.proofs.lemmas.List.Elements.{Contains-get_or}
use Rattle.odb_check.specs.Plans.{plan_records}
use Rattle.odb_check.specs.declared.need.Need.{Need}
use Rattle.odb_check.specs.declared.need.Need.TheVariants.{One}
use Rattle.odb_tests_text.proofs.ArrowLemmas.{begins}
use Rattle.odb_tests_text.proofs.laws.texts.needed.Goals as goal

pub returns : goal.returns
returns c =
    let rs = plan_records c.args.plan.now in
    let law = c.every_arrow.ensures in
    let needs = c.needs-needs.result.now in
    let need = slice_index_or needs c.args.number (One 0) in
    let has = Contains-get_or needs c.args.number (One 0) c.if-number-needs.false in
    begins rs c.args.i (law.one rs c.args.i) (law.group rs c.args.i) need (subst (λ (ns : List Need). Contains ns need) c.needs-needs.ensures.value has)

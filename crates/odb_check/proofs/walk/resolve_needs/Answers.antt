use Rattle.std.proofs.Common.{[], ◌∙◌, sym, refl, append-nil}
use Rattle.odb_check.specs.declared.fault.NameRule.TheVariants.{UnknownReference}
use Rattle.odb_check.specs.Requests.{requests}
use Rattle.odb_check.proofs.WalkLemmas.{needs_are}
use Rattle.odb_check.proofs.walk.resolve_needs.Goals as goal

pub further_need-requires : goal.further_need-requires
further_need-requires c = λ broken_here. c.in_default.ensures.none UnknownReference (refl, broken_here)

pub returns-in_default-further_need-clause-needs : goal.returns-in_default-further_need-clause-needs
returns-in_default-further_need-clause-needs c =
    sym (append-nil c.resolve_names.new.row.items)
    ∙ needs_are (requests c.args.tables.now) c.args.i c.resolve_names.new.row.items [] c.in_ok-has_unknown.ensures.row (c.in_default-further_need.ensures.none refl)

use Rattle.std.proofs.Common.{ap}
use Rattle.std.proofs.lemmas.Option.{get_or_from_slice_get}
use Rattle.odb_text.specs.declared.rows.Row.{Row}
use Rattle.odb_text.proofs.drawing.end_of.Goals as goal

pub returns : goal.returns
returns c = ap (λ (row : Row). row.number) (get_or_from_slice_get c.args.ends.now c.args.level _ _ (c.requires.ends c.args.level c.requires.within))

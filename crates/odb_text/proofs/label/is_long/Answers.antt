use Rattle.std.proofs.Common.{ap, nat_lt}
use Rattle.std.proofs.lemmas.Iterator.{YieldsList-from_chars}
use Rattle.std.proofs.lemmas.Iterator.Consumers.{count_from_yields_List}
use Rattle.odb_text.proofs.label.is_long.Goals as goal

pub returns : goal.returns
returns c = ap (nat_lt 40) (count_from_yields_List c.chars.result _ c.count.ensures.ran (YieldsList-from_chars c.args.piece.now c.utf8.piece (cc)))

use Rattle.std.proofs.Common.{arith}
use Rattle.std.proofs.lemmas.Str.Pattern.{strip_prefix_char}
use Rattle.odb_send.proofs.UrlLemmas.{tag_from}
use Rattle.odb_send.proofs.changes.tag_id.Goals as goal

pub returns : goal.returns
returns c = tag_from c.args.value.now c.strip_prefix.result (strip_prefix_char 36 c.args.value.now c.strip_prefix.result c.strip_prefix.ensures.cases (omega arith))

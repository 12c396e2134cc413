use Rattle.std.proofs.Common.{rules}
use Rattle.odb_text.proofs.ResultLemmas.{counts-parts}
use Rattle.odb_text.proofs.results.counts_json.Goals as goal

pub returns : goal.returns
returns c = rw (← counts-parts c.args.requests c.args.groups) (search rules)

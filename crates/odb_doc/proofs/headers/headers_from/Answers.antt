use Rattle.std.proofs.Common.{option_map, rules}
use Rattle.serde_json.specs.View.{view}
use Rattle.odb_doc.proofs.HeaderLemmas.{HoldsHeaders-absent}
use Rattle.odb_doc.proofs.headers.headers_from.Goals as goal

pub returns-in_default-clause-has : goal.returns-in_default-clause-has
returns-in_default-clause-has g c =
    HoldsHeaders-absent (option_map view c.args.member) c.new.result (search rules) c.new.ensures.empty

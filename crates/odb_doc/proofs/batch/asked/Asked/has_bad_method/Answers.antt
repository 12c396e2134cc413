use Rattle.std.proofs.Common.{rules}
use Rattle.std.specs.Prelude.{IsSome}
use Rattle.serde_json.specs.Find.{as_object}
use Rattle.odb_doc.specs.Asked.{asked}
use Rattle.odb_doc.proofs.BodyLemmas.{method_missing}
use Rattle.odb_doc.proofs.batch.asked.Asked.has_bad_method.Goals as goal

pub returns-then-is_object : goal.returns-then-is_object
returns-then-is_object c =
    let object : IsSome (as_object (asked c.args.self.now)) = search rules in
    method_missing (asked c.args.self.now) c.method_of.result c.is_none.result c.is_none.ensures (c.method_of.ensures (asked c.args.self.now) c.requires) object

use Rattle.std.proofs.Common.{◌≡◌, ◌∙◌, Option, List, ℕ, Some, ap, subst, option_and_then}
use Rattle.std.specs.Prelude.{◌↔◌, IfOk, IsTrue, IsSomeAnd}
use Rattle.serde_json.specs.Find.{as_str}
use Rattle.odb_names.specs.Segments.{IsNestedBatch}
use Rattle.odb_doc.specs.Asked.{asked}
use Rattle.odb_doc.specs.batch.Shapes.{url_of}
use Rattle.odb_doc.proofs.batch.asked.Asked.has_nested_batch.Goals as goal

pub returns-in-Some : goal.returns-in-Some
returns-in-Some c =
    let url : Some c.in-Some.url.now ≡ url_of (asked c.args.self.now) = c.in-Some.ensures ∙ ap (option_and_then as_str) c.requires.url in
    subst (λ (o : Option (List ℕ)). IfOk c.is_nested_batch.result (λ nested. IsTrue nested ↔ IsSomeAnd o IsNestedBatch)) url c.is_nested_batch.ensures.nested

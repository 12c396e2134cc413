-- The rest of a URL, as a text of its own.
use Rattle.std.proofs.Common.{◌∙◌, ℕ, List, Option, ap, option_map, string_bytes, sym}
use Rattle.odb_doc.specs.batch.UrlRests.{rest_after}
use Rattle.odb_doc.proofs.UrlRestLemmas.{cut-there, ends-with, past-segment}
use Rattle.odb_doc.proofs.batch.request.Request.url_rest.Goals as goal

pub range_from-requires : goal.range_from-requires
range_from-requires c = λ some. cut-there c.args.self.now.url.now c.after_first_segment-length.result.now c.after_first_segment-length.ensures

pub returns-in-Some : goal.returns-in-Some
returns-in-Some c =
    let url = c.args.self.now.url.now in
    let rest = c.after_first_segment-length.result.now in
    let after = c.after_first_segment-length.ensures in
    let refers = ap (option_map string_bytes) c.in-Some.is in
    c.range_from.ensures.value ∙ ends-with after.segment url rest after.splits.whole ∙ sym (past-segment url rest after) ∙ ap (λ (reference : Option (List ℕ)). rest_after reference url) (sym refers)

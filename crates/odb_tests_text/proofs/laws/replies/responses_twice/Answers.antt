use Rattle.std.proofs.Common.{IsSome}
use Rattle.std.specs.List.{AllZip}
use Rattle.serde_json.specs.View.{view}
use Rattle.odb_reply.specs.ResponseDocuments.{IsResponseDocument, RefusesResponses, ReadsAs, entries, responses_in, responses_row}
use Rattle.odb_testing.proofs.ReadingLemmas.{one_reading}
use Rattle.odb_tests_text.proofs.laws.replies.responses_twice.Goals as goal

pub returns : goal.returns
returns c =
    let law = c.one_document.ensures in
    one_reading entries IsResponseDocument (λ d es. AllZip ReadsAs (responses_in d) es) (λ f. IsSome (responses_row f)) RefusesResponses (λ d x y. law.entries (responses_in d) x y) law.one law.none (view c.args.value.now) c.responses_of.result c.responses_of-2.result c.responses_of.ensures c.responses_of-2.ensures

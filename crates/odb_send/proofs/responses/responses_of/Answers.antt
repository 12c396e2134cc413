-- There are as many headers and bodies as responses, and they are theirs.
use Rattle.std.proofs.Common.{◌≡◌, ◌∙◌, List, Option, ap, codes, length, string_bytes, subst, sym}
use Rattle.std.specs.List.{AllZip}
use Rattle.serde_json.specs.Data.{Data}
use Rattle.odb_doc.specs.Documents.{IsJson}
use Rattle.odb_reply.specs.ResponseDocuments.{ReadsAs, entries, responses_in}
use Rattle.odb_spans.specs.Spans.{HasMemberAt}
use Rattle.odb_spans.specs.declared.span.Span.{Span}
use Rattle.odb_send.specs.Places.{AreMembers}
use Rattle.odb_send.specs.ResponseParts.{AreResponsesOf, HasResponseParts, bodies_of, headers_of}
use Rattle.odb_send.proofs.PairLemmas.{as_many}
use Rattle.odb_send.proofs.ResponseLemmas.{all-ok}
use Rattle.odb_send.proofs.responses.responses_of.Goals as goal

pub with_members-requires-clause-headers : goal.with_members-requires-clause-headers
with_members-requires-clause-headers c =
    let d = c.requires.0 in
    ap (λ (spans : List (Option Span)). length spans) c.deref.ensures.value
    ∙ as_many ReadsAs (HasMemberAt (codes "headers") c.args.document.now) (responses_in d) (entries c.args.responses.now) c.in_ok-headers.headers.items c.requires.2 (c.in_ok-headers.ensures.members d c.requires.1)

pub with_members-requires-clause-bodies : goal.with_members-requires-clause-bodies
with_members-requires-clause-bodies c =
    let d = c.requires.0 in
    ap (λ (spans : List (Option Span)). length spans) c.deref-2.ensures.value
    ∙ as_many ReadsAs (HasMemberAt (codes "body") c.args.document.now) (responses_in d) (entries c.args.responses.now) c.in_ok-bodies.bodies.items c.requires.2 (c.in_ok-bodies.ensures.members d c.requires.1)

pub returns : goal.returns
returns c =
    let document = c.args.document.now in
    let all = entries c.args.responses.now in
    all-ok (λ found. AllZip (HasResponseParts (string_bytes found.text)) all found.parts.items) (λ found. headers_of found.parts.items ≡ c.deref.result.now) (λ found. bodies_of found.parts.items ≡ c.deref-2.result.now)
    (λ found. (d : Data) → IsJson document d → AllZip ReadsAs (responses_in d) all → AreResponsesOf document d all found) c.with_members.result
    (λ found parts headers bodies d json read. record {
      read = read;
      parts = parts;
      headers = subst (AreMembers (codes "responses") (codes "headers") document d) (sym (headers ∙ c.deref.ensures.value)) (record { values = c.in_ok-headers.ensures.members d json; places = c.in_ok-headers.ensures.places d json });
      bodies = subst (AreMembers (codes "responses") (codes "body") document d) (sym (bodies ∙ c.deref-2.ensures.value)) (record { values = c.in_ok-bodies.ensures.members d json; places = c.in_ok-bodies.ensures.places d json });
    })
    c.with_members.ensures.parts c.with_members.ensures.headers c.with_members.ensures.bodies

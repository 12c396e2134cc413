-- A full plan as JSON: its text is that of its parts.
use Rattle.std.proofs.Common.{◌≡◌, ◌∙◌, ℕ, List, ◌++◌, false, nat_lt, Option, Some, None, get_or, option_map, slice_get, codes, ap, append_assoc, Result, Ok, Err, OnOk, sym}
use Rattle.serde_json.specs.Data.{Data, string, number, unsigned, array, object, put, no_members}
use Rattle.serde_json.specs.View.{items_of}
use Rattle.serde_json.specs.Written.{compact_text, comma_if, items_text}
use Rattle.serde_json.proofs.OnLiterals.{serde_json_on_literals}
use Rattle.odb_names.specs.Methods.{http_name}
use Rattle.odb_doc.specs.batch.Records.{Record}
use Rattle.odb_doc.specs.canonical.Canonical.{header_members, with_some}
use Rattle.odb_check.specs.Levels.{level_at}
use Rattle.odb_check.specs.Needs.{needs_at}
use Rattle.odb_spans.specs.declared.span.Span.{Span}
use Rattle.odb_text.specs.FullPlans.{full_planned, full_some, span_value}
use Rattle.odb_text.specs.Results.{need_values}
use Rattle.odb_text.specs.ResultParts.{body_part, element, before_needs_part, group_part, id_part, reference_part, string_part, url_part}

-- the text of a request by its members
abbrev text_of : Option Span → Option (List ℕ) → Data → List ℕ → ℕ → List ℕ → List Data → Option (List ℕ) → List ℕ → List ℕ → List ℕ
text_of body group headers id level method needs reference rest url =
    codes "{" ++ ((body_part body ++ (group_part group ++ ((codes "\"headers\":" ++ (compact_text headers ++ codes ",")) ++ (id_part id level ++ string_part (codes "\"method\":") method))))
    ++ (codes ",\"needs\":[" ++ (items_text false (items_of needs) ++ (reference_part reference ++ (string_part (codes ",\"rest\":") rest ++ (string_part (codes ",\"url\":") url ++ codes "}"))))))

-- its value by its members
abbrev value_of : Option Span → Option (List ℕ) → Data → List ℕ → ℕ → List ℕ → List Data → Option (List ℕ) → List ℕ → List ℕ → Data
value_of body group headers id level method needs reference rest url =
    object (
    with_some (codes "body") (option_map span_value body) (
    with_some (codes "group") (option_map string group) (
    put (codes "headers") headers (
    put (codes "id") (string id) (
    put (codes "level") (number (unsigned level)) (
    put (codes "method") (string method) (
    put (codes "needs") (array (items_of needs)) (
    with_some (codes "reference") (option_map string reference) (
    put (codes "rest") (string rest) (
    put (codes "url") (string url) no_members))))))))))

full-text : (body : Option Span) (group : Option (List ℕ)) (headers : Data) (id : List ℕ) (level : ℕ) (method : List ℕ) (needs : List Data) (reference : Option (List ℕ)) (rest url : List ℕ)
    → compact_text (value_of body group headers id level method needs reference rest url) ≡ text_of body group headers id level method needs reference rest url
unfolding serde_json_on_literals
full-text None None headers id level method needs None rest url = simp append_assoc
full-text None None headers id level method needs (Some reference) rest url = simp append_assoc
full-text None (Some group) headers id level method needs None rest url = simp append_assoc
full-text None (Some group) headers id level method needs (Some reference) rest url = simp append_assoc
full-text (Some body) None headers id level method needs None rest url = simp append_assoc
full-text (Some body) None headers id level method needs (Some reference) rest url = simp append_assoc
full-text (Some body) (Some group) headers id level method needs None rest url = simp append_assoc
full-text (Some body) (Some group) headers id level method needs (Some reference) rest url = simp append_assoc

-- the text of the request at a position, after its opening brace
abbrev request_text : List Record → ℕ → Option Span → Record → List ℕ
request_text batch i body r = before_needs_part body (level_at batch i) r ++ (codes ",\"needs\":[" ++ (items_text false (items_of (need_values batch (needs_at batch i))) ++ url_part r))

full-at : (batch : List Record) (i : ℕ) (body : Option Span) (found : Option Record) (r : Record) → found ≡ Some r → compact_text (full_some batch i body found) ≡ codes "{" ++ request_text batch i body r
full-at batch i body found r is = rw is (full-text body r.group (object (header_members r.headers)) r.id (level_at batch i) (http_name r.method) (need_values batch (needs_at batch i)) r.reference _ r.url)

pub full-parts : (batch : List Record) (bodies : List (Option Span)) (i : ℕ) (r : Record) (body : Option Span) → slice_get batch i ≡ Some r → body ≡ get_or bodies i None
    → element (full_planned batch bodies) i ≡ (comma_if (nat_lt 0 i) ++ codes "{") ++ request_text batch i body r
unfolding element full_planned
full-parts batch bodies i r body is so =
    rw so (ap (λ text. comma_if (nat_lt 0 i) ++ text) (full-at batch i (get_or bodies i None) (slice_get batch i) r is) ∙ sym (append_assoc (comma_if (nat_lt 0 i)) (codes "{") (request_text batch i (get_or bodies i None) r)))

-- ---- steps that append

-- what five steps have appended, if the last of them succeeds
pub five_steps : {E : Type 0} (result : Result (Unit {0}) E) (start first second third fourth last a b c d e : List ℕ)
    → first ≡ start ++ a → second ≡ first ++ b → third ≡ second ++ c → fourth ≡ third ++ d → OnOk result (last ≡ fourth ++ e) → OnOk result (last ≡ start ++ (a ++ (b ++ (c ++ (d ++ e)))))
five_steps (Ok done) start first second third fourth last a b c d e one two three four five = rw (five, four, three, two, one) (simp append_assoc)
five_steps (Err fault) start first second third fourth last a b c d e one two three four five = tt

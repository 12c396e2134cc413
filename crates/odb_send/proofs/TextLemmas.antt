-- The text of the rest, request by request.
use Rattle.std.proofs.Common.{◌≡◌, ◌∙◌, ◌+◌, ◌++◌, ◌<◌, ◌≤◌, ℕ, zero, suc, Bool, true, false, cond, List, [], ◌∷◌, length, drop, Option, None, Some, option_map, option_and_then, slice_get, refl, ap, sym, arith, append_assoc, codes, get_or, map}
use Rattle.std.specs.Prelude.{IfSome}
use Rattle.std.specs.List.{AllZip, filter}
use Rattle.std.proofs.lemmas.Option.{slice_get-map, slice_get-get_or}
use Rattle.serde_json.specs.Data.{Data, string}
use Rattle.serde_json.specs.Written.{comma_if}
use Rattle.odb_doc.proofs.ElementLemmas.{drop_at}
use Rattle.odb_doc.specs.batch.Records.{Record}
use Rattle.odb_doc.specs.canonical.Canonical.{headers_value, names_value}
use Rattle.odb_doc.specs.Texts.{member_part, request_end}
use Rattle.odb_reply.specs.BodyTexts.{text_at}
use Rattle.odb_send.specs.declared.rest.Rest.{Rest}
use Rattle.odb_send.specs.Marks.{AreTexts, IsTextIn, texts_left, url_in}
use Rattle.odb_doc.specs.Headers.{Header}
use Rattle.odb_send.specs.Rests.{Change, changes, is_kept, is_kept_name, kept, rest_header, rest_record, select, with_url}
use Rattle.odb_send.specs.Texts.{bodies_in, body_part, joined, request_text, text_of, text_of_request}
use Rattle.odb_spans.specs.Spans.{HasBodyAt, bytes_of}
use Rattle.odb_spans.specs.declared.span.Span.{Span}

-- the text of a request of the rest by its parts
parts_moved : (url : Option (List ℕ)) (r : Record) (names : List (List ℕ)) (headers : List Header) (body : Option (List ℕ)) → request_text (with_url url (record r { names = names; headers = headers })) body
    ≡ codes "{" ++ (member_part (codes "\"atomicityGroup\":") (option_map string r.group) ++ (body_part body ++ (member_part (codes "\"dependsOn\":") (names_value names) ++ (member_part (codes "\"headers\":") (headers_value headers) ++ request_end r.id r.method (url_in url r)))))
parts_moved None r names headers body = refl
parts_moved (Some url) r names headers body = refl

pub request_parts : (rs : List Record) (units : List Bool) (change : Change) (r : Record) (body : Option (List ℕ)) → request_text (rest_record rs units change r) body
    ≡ codes "{" ++ (member_part (codes "\"atomicityGroup\":") (option_map string r.group) ++ (body_part body ++ (member_part (codes "\"dependsOn\":") (names_value (filter (is_kept_name rs units) r.names)) ++ (member_part (codes "\"headers\":") (headers_value (map (rest_header change) r.headers)) ++ request_end r.id r.method (url_in change.url r)))))
request_parts rs units change r body = parts_moved change.url r (filter (is_kept_name rs units) r.names) (map (rest_header change) r.headers) body

-- ---- the requests from a position on

-- the next request is in the rest
pub texts_left-kept : (rs : List Record) (units : List Bool) (changes : List Change) (bodies : List (Option (List ℕ))) (later : Bool) (i : ℕ) (r : Record) → slice_get rs i ≡ Some r → is_kept rs units i ≡ true
    → texts_left rs units changes bodies later i ≡ comma_if later ++ (text_of_request rs units changes bodies i r ++ texts_left rs units changes bodies true (i + 1))
unfolding texts_left
texts_left-kept rs units changes bodies later i r here stays =
    let make = text_of_request rs units changes bodies in
    ap (λ xs. joined later (select (is_kept rs units) make i xs)) (drop_at rs i r here)
    ∙ ap (λ b. joined later (cond b (make i r ∷ select (is_kept rs units) make (i + 1) (drop (i + 1) rs)) (select (is_kept rs units) make (i + 1) (drop (i + 1) rs)))) stays

-- the next request is not in the rest
pub texts_left-other : (rs : List Record) (units : List Bool) (changes : List Change) (bodies : List (Option (List ℕ))) (later : Bool) (i : ℕ) (r : Record) → slice_get rs i ≡ Some r → is_kept rs units i ≡ false
    → texts_left rs units changes bodies later i ≡ texts_left rs units changes bodies later (i + 1)
unfolding texts_left
texts_left-other rs units changes bodies later i r here leaves =
    let make = text_of_request rs units changes bodies in
    ap (λ xs. joined later (select (is_kept rs units) make i xs)) (drop_at rs i r here)
    ∙ ap (λ b. joined later (cond b (make i r ∷ select (is_kept rs units) make (i + 1) (drop (i + 1) rs)) (select (is_kept rs units) make (i + 1) (drop (i + 1) rs)))) leaves

drop_past : {X : Type 0} (xs : List X) (i : ℕ) → length xs ≤ i → drop i xs ≡ []
drop_past [] zero past = refl
drop_past [] (suc i) past = refl
drop_past (x ∷ xs) zero past = absurd (omega arith)
drop_past (x ∷ xs) (suc i) past = drop_past xs i (omega arith)

-- no request is left
pub texts_left-none : (rs : List Record) (units : List Bool) (changes : List Change) (bodies : List (Option (List ℕ))) (later : Bool) (i : ℕ) → length rs ≤ i → texts_left rs units changes bodies later i ≡ []
unfolding texts_left
texts_left-none rs units changes bodies later i past = ap (λ xs. joined later (select (is_kept rs units) (text_of_request rs units changes bodies) i xs)) (drop_past rs i past)

-- the whole text
pub text_of-all : (rs : List Record) (rest : Rest) (bodies : List (Option (List ℕ))) → text_of rs rest bodies ≡ codes "{\"requests\":[" ++ (texts_left rs (kept rest) (changes rest) bodies false 0 ++ codes "]}")
unfolding texts_left text_of
text_of-all rs rest bodies = refl

-- one request more
pub request_pushed : (rs : List Record) (units : List Bool) (changes : List Change) (bodies : List (Option (List ℕ))) (later : Bool) (i : ℕ) (r : Record) (old new : List ℕ) → slice_get rs i ≡ Some r → is_kept rs units i ≡ true
    → new ≡ old ++ (comma_if later ++ text_of_request rs units changes bodies i r) → new ++ texts_left rs units changes bodies true (i + 1) ≡ old ++ texts_left rs units changes bodies later i
request_pushed rs units changes bodies later i r old new here stays is =
    let left = texts_left rs units changes bodies true (i + 1) in
    let text = text_of_request rs units changes bodies i r in
    ap (λ (t : List ℕ). t ++ left) is ∙ append_assoc old (comma_if later ++ text) left ∙ ap (λ (t : List ℕ). old ++ t) (append_assoc (comma_if later) text left) ∙ ap (λ (t : List ℕ). old ++ t) (sym (texts_left-kept rs units changes bodies later i r here stays))

-- ---- bodies

-- the bytes of the body at a position
pub body_there : (document : List ℕ) (spans : List (Option Span)) (i : ℕ) → i < length spans → text_at (bodies_in document spans) i ≡ option_map (bytes_of document) (get_or spans i None)
body_there document spans i within = ap (option_and_then (λ text. text)) (slice_get-map (option_map (bytes_of document)) spans i ∙ ap (option_map (option_map (bytes_of document))) (slice_get-get_or spans i None within))

-- a span of a body is one of a text
body_text : (document : List ℕ) (d : Data) (span : Option Span) → HasBodyAt document d span → IfSome span (IsTextIn document)
body_text document d None has = tt
body_text document d (Some span) (body, is, reads) = record { order = reads.order; within = reads.within; utf8 = reads.reads.0 }

pub bodies_texts : (document : List ℕ) (ds : List Data) (spans : List (Option Span)) → AllZip (HasBodyAt document) ds spans → AreTexts document spans
bodies_texts document [] [] zip = λ k d less. absurd (omega arith)
bodies_texts document [] (span ∷ spans) zip = absurd zip
bodies_texts document (d ∷ ds) [] zip = absurd zip
bodies_texts document (d ∷ ds) (span ∷ spans) zip = each (bodies_texts document ds spans zip.1)
  where
    each : AreTexts document spans → (k : ℕ) (e : Option Span) → k < length (span ∷ spans) → IfSome (get_or (span ∷ spans) k e) (IsTextIn document)
    each more zero e less = body_text document d span zip.0
    each more (suc k) e less = more k e (omega arith)

-- The text of the rest is read as the canonical value of its requests.
use Rattle.std.proofs.Common.{◌≡◌, ◌∙◌, ◌+◌, ◌++◌, ◌≤◌, ℕ, zero, suc, Bool, true, false, cond, List, [], ◌∷◌, map, Option, None, Some, option_map, slice_get, codes, refl, sym, ap, subst, arith, append_assoc, append-nil}
use Rattle.std.specs.List.{AllZip}
use Rattle.json.specs.Json as json
use Rattle.json.specs.Lex.{between, lex, punctuate}
use Rattle.json.specs.Tree as tree
use Rattle.serde_json.proofs.OnLiterals.{serde_json_on_literals}
use Rattle.serde_json.specs.Data.{Data, string, no_members, put}
use Rattle.serde_json.specs.Read.{of_json, of_members, read}
use Rattle.serde_json.specs.View.{items_of}
use Rattle.serde_json.specs.Written.{comma_if, compact_text}
use Rattle.odb_names.specs.Methods.{method_name}
use Rattle.odb_names.specs.declared.method.Method.{Method}
use Rattle.odb_names.specs.declared.method.Method.TheVariants.{Delete, Get, Patch, Post, Put}
use Rattle.odb_doc.proofs.CanonicalReads.{safe-names}
use Rattle.odb_doc.proofs.SafeLemmas.{safe-group, safe-headers, safe-string}
use Rattle.odb_doc.specs.batch.Records.{Record, ReadsAs}
use Rattle.odb_doc.specs.batch.Shapes.{elements}
use Rattle.odb_doc.specs.canonical.Canonical.{canonical_value, headers_value, names_value, request_value, with_some}
use Rattle.odb_doc.specs.Headers.{IsInOrder}
use Rattle.odb_doc.specs.Nesting.{NestsWithin}
use Rattle.odb_doc.specs.Texts.{member_part, request_end}
use Rattle.odb_reply.proofs.SpliceLemmas.{AreObjectTexts, BeginsArray, EndsObject, IsName, IsObjectText, IsPart, IsPiece, Tree, body-name, document-read, group-name, headers-name, id-name, last-member, member-before, member-then, no-objects, no-part, object-text, one-object-more, piece-text, piece-value, some-part, value-part, with-tree-depth, with_tree}
use Rattle.odb_reply.specs.BodyTexts.{text_at}
use Rattle.odb_send.specs.declared.rest.Rest.{Rest}
use Rattle.odb_send.specs.Rests.{Change, change_at, changes, is_kept, kept, records_in, rest_record, select, with_url}
use Rattle.odb_send.proofs.HeaderLemmas.{in-order}
use Rattle.odb_send.specs.Texts.{IsTextOf, bodies_in, body_part, joined, request_text, text_of, text_of_request}
use Rattle.odb_send.specs.Parts.{IsBatchIn}
use Rattle.odb_spans.specs.Spans.{HasBodyAt, bytes_of}
use Rattle.odb_spans.specs.declared.span.Span.{Span}

-- ---- one request

names-name : IsName (codes "\"dependsOn\":") (codes "dependsOn")
unfolding lex serde_json_on_literals
names-name rest = refl

method-name : IsName (codes "\"method\":") (codes "method")
unfolding lex serde_json_on_literals
method-name rest = refl

url-name : IsName (codes "\"url\":") (codes "url")
unfolding lex serde_json_on_literals
url-name rest = refl

-- the text is that of the body, or there is neither
abbrev HasText : Option Data → Option (List ℕ) → Type 0
HasText body None = body ≡ None
HasText body (Some text) = (d : Data) × (body ≡ Some d) × (read text ≡ Some d) × NestsWithin 124 text

of-body : (body : Option Data) (text : Option (List ℕ)) → HasText body text → IsPart (body_part text) (codes "body") body
of-body body None is = subst (IsPart [] (codes "body")) (sym is) (no-part (codes "body"))
of-body body (Some text) (d, is, reads, nests) = subst (IsPart (body_part (Some text)) (codes "body")) (sym is) (some-part (codes "\"body\":") (codes "body") text d body-name (piece-text text d reads nests))

-- what is read of the members of a request
members-read : (group body names headers : Option Data) (first : Tree group) (second : Tree body) (third : Tree names) (fourth : Tree headers) (id method url : Data) (i m u : json.Json) → of_json i ≡ Some id → of_json m ≡ Some method → of_json u ≡ Some url
    → of_members (with_tree (codes "atomicityGroup") group first (with_tree (codes "body") body second (with_tree (codes "dependsOn") names third (with_tree (codes "headers") headers fourth (json.member (codes "id") i (json.member (codes "method") m (json.member (codes "url") u json.no_members))))))) no_members
    ≡ Some (with_some (codes "atomicityGroup") group (with_some (codes "body") body (with_some (codes "dependsOn") names (with_some (codes "headers") headers (put (codes "id") id (put (codes "method") method (put (codes "url") url no_members)))))))
unfolding serde_json_on_literals
members-read None None None None first second third fourth id method url i m u a b c = rw (a, b, c) refl
members-read None None None (Some h) first second third fourth id method url i m u a b c = rw (fourth.1, a, b, c) refl
members-read None None (Some n) None first second third fourth id method url i m u a b c = rw (third.1, a, b, c) refl
members-read None None (Some n) (Some h) first second third fourth id method url i m u a b c = rw (third.1, fourth.1, a, b, c) refl
members-read None (Some d) None None first second third fourth id method url i m u a b c = rw (second.1, a, b, c) refl
members-read None (Some d) None (Some h) first second third fourth id method url i m u a b c = rw (second.1, fourth.1, a, b, c) refl
members-read None (Some d) (Some n) None first second third fourth id method url i m u a b c = rw (second.1, third.1, a, b, c) refl
members-read None (Some d) (Some n) (Some h) first second third fourth id method url i m u a b c = rw (second.1, third.1, fourth.1, a, b, c) refl
members-read (Some g) None None None first second third fourth id method url i m u a b c = rw (first.1, a, b, c) refl
members-read (Some g) None None (Some h) first second third fourth id method url i m u a b c = rw (first.1, fourth.1, a, b, c) refl
members-read (Some g) None (Some n) None first second third fourth id method url i m u a b c = rw (first.1, third.1, a, b, c) refl
members-read (Some g) None (Some n) (Some h) first second third fourth id method url i m u a b c = rw (first.1, third.1, fourth.1, a, b, c) refl
members-read (Some g) (Some d) None None first second third fourth id method url i m u a b c = rw (first.1, second.1, a, b, c) refl
members-read (Some g) (Some d) None (Some h) first second third fourth id method url i m u a b c = rw (first.1, second.1, fourth.1, a, b, c) refl
members-read (Some g) (Some d) (Some n) None first second third fourth id method url i m u a b c = rw (first.1, second.1, third.1, a, b, c) refl
members-read (Some g) (Some d) (Some n) (Some h) first second third fourth id method url i m u a b c = rw (first.1, second.1, third.1, fourth.1, a, b, c) refl

-- the last three members, each by its name and its value
end-members : (id : List ℕ) (method : Method) (url : List ℕ) → request_end id method url
    ≡ codes "\"id\":" ++ (compact_text (string id) ++ 44 ∷ (codes "\"method\":" ++ (compact_text (string (method_name method)) ++ 44 ∷ (codes "\"url\":" ++ (compact_text (string url) ++ 125 ∷ [])))))
unfolding serde_json_on_literals
end-members id Delete url = refl
end-members id Get url = refl
end-members id Patch url = refl
end-members id Post url = refl
end-members id Put url = refl

abbrev Quoted : List ℕ → Type 0
Quoted s = IsPiece (compact_text (string s)) (string s)

quoted : (s : List ℕ) → Quoted s
quoted s = piece-value (string s) (safe-string 124 s)

abbrev last_members : (id method url : json.Json) → json.Members
last_members id method url = json.member (codes "id") id (json.member (codes "method") method (json.member (codes "url") url json.no_members))

ends-request : (id : List ℕ) (method : Method) (url : List ℕ) (first : Quoted id) (second : Quoted (method_name method)) (third : Quoted url) → EndsObject (request_end id method url) (last_members first.parsed second.parsed third.parsed)
ends-request id method url first second third =
    let last = codes "\"url\":" ++ (compact_text (string url) ++ 125 ∷ []) in
    let one = json.member (codes "url") third.parsed json.no_members in
    subst (λ text. EndsObject text (last_members first.parsed second.parsed third.parsed)) (sym (end-members id method url))
    (member-then (codes "\"id\":") (codes "id") (compact_text (string id)) (string id) id-name first (codes "\"method\":" ++ (compact_text (string (method_name method)) ++ 44 ∷ last)) (json.member (codes "method") second.parsed one)
    (member-then (codes "\"method\":") (codes "method") (compact_text (string (method_name method))) (string (method_name method)) method-name second last one
    (last-member (codes "\"url\":") (codes "url") (compact_text (string url)) (string url) url-name third)))

of-request : (r : Record) (text : Option (List ℕ)) → HasText r.body text → IsInOrder r.headers → IsObjectText (request_text r text) (request_value r)
unfolding serde_json_on_literals
of-request r text has ordered =
    let group = option_map string r.group in
    let names = names_value r.names in
    let headers = headers_value r.headers in
    let first = quoted r.id in
    let second = quoted (method_name r.method) in
    let third = quoted r.url in
    let last = last_members first.parsed second.parsed third.parsed in
    let of_group = value-part (codes "\"atomicityGroup\":") (codes "atomicityGroup") group-name group (safe-group 124 r.group) in
    let of_text = of-body r.body text has in
    let of_names = value-part (codes "\"dependsOn\":") (codes "dependsOn") names-name names (safe-names 124 r.names (omega arith)) in
    let of_headers = value-part (codes "\"headers\":") (codes "headers") headers-name headers (safe-headers 124 r.headers (omega arith) ordered) in
    let headed = with_tree (codes "headers") headers of_headers.parsed last in
    let named = with_tree (codes "dependsOn") names of_names.parsed headed in
    let bodied = with_tree (codes "body") r.body of_text.parsed named in
    let grouped = with_tree (codes "atomicityGroup") group of_group.parsed bodied in
    let end = request_end r.id r.method r.url in
    let after_names = member_part (codes "\"headers\":") headers ++ end in
    let after_body = member_part (codes "\"dependsOn\":") names ++ after_names in
    let whole = member_part (codes "\"atomicityGroup\":") group ++ (body_part text ++ after_body) in
    let ends : EndsObject whole grouped =
    member-before (member_part (codes "\"atomicityGroup\":") group) (codes "atomicityGroup") group of_group (body_part text ++ after_body) bodied
    (member-before (body_part text) (codes "body") r.body of_text after_body named
    (member-before (member_part (codes "\"dependsOn\":") names) (codes "dependsOn") names of_names after_names headed
    (member-before (member_part (codes "\"headers\":") headers) (codes "headers") headers of_headers end last (ends-request r.id r.method r.url first second third)))) in
    let shallow : tree.members_depth grouped ≤ 124 =
    with-tree-depth (codes "atomicityGroup") group of_group.parsed bodied
    (with-tree-depth (codes "body") r.body of_text.parsed named
    (with-tree-depth (codes "dependsOn") names of_names.parsed headed
    (with-tree-depth (codes "headers") headers of_headers.parsed last (omega (arith, first.shallow, second.shallow, third.shallow))))) in
    object-text whole grouped _ ends
    (members-read group r.body names headers of_group.parsed of_text.parsed of_names.parsed of_headers.parsed (string r.id) (string (method_name r.method)) (string r.url) first.parsed second.parsed third.parsed first.reads second.reads third.reads) shallow

-- ---- the requests

-- each text is that of the request that is made of the record
abbrev AreTextsOf : (ℕ → Record → List ℕ) → (ℕ → Record → Record) → ℕ → List Record → Type 0
AreTextsOf text made i rs = (k : ℕ) (r : Record) → slice_get rs k ≡ Some r → IsObjectText (text (i + k) r) (request_value (made (i + k) r))

are-requests : (passes : ℕ → Bool) (text : ℕ → Record → List ℕ) (made : ℕ → Record → Record) (i : ℕ) (rs : List Record) → AreTextsOf text made i rs
    → (later : Bool) → AreObjectTexts later (joined later (select passes text i rs) ++ codes "]") (items_of (map request_value (select passes made i rs)))
are-requests passes text made i [] each later = no-objects later
are-requests passes text made i (r ∷ rs) each later = by_first (passes i) first (are-requests passes text made (i + 1) rs others)
  where
    first : IsObjectText (text i r) (request_value (made i r))
    first = let here : i + 0 ≡ i = omega arith in subst (λ j. IsObjectText (text j r) (request_value (made j r))) here (each 0 r refl)

    others : AreTextsOf text made (i + 1) rs
    others k q is = let next : i + suc k ≡ i + 1 + k = omega arith in subst (λ j. IsObjectText (text j q) (request_value (made j q))) next (each (suc k) q is)

    by_first : (b : Bool) → IsObjectText (text i r) (request_value (made i r)) → ((after : Bool) → AreObjectTexts after (joined after (select passes text (i + 1) rs) ++ codes "]") (items_of (map request_value (select passes made (i + 1) rs))))
        → AreObjectTexts later (joined later (cond b (text i r ∷ select passes text (i + 1) rs) (select passes text (i + 1) rs)) ++ codes "]") (items_of (map request_value (cond b (made i r ∷ select passes made (i + 1) rs) (select passes made (i + 1) rs))))
    by_first true one more =
        let texts = select passes text (i + 1) rs in
        let left = select passes made (i + 1) rs in
        let split : joined later (text i r ∷ texts) ++ codes "]" ≡ comma_if later ++ (text i r ++ (joined true texts ++ codes "]")) =
        append_assoc (comma_if later) (text i r ++ joined true texts) (codes "]") ∙ ap (λ l. comma_if later ++ l) (append_assoc (text i r) (joined true texts) (codes "]")) in
        subst (λ l. AreObjectTexts later l (items_of (map request_value (made i r ∷ left)))) (sym split)
        (one-object-more later (text i r) (joined true texts ++ codes "]") (request_value (made i r)) (items_of (map request_value left)) one (more true))
    by_first false one more = more later

-- ---- the bodies in the document

body-there : (document : List ℕ) (d : Data) (r : Record) (span : Option Span) → ReadsAs d r → HasBodyAt document d span → HasText r.body (option_map (bytes_of document) span)
body-there document d r None says has = sym says.body ∙ has
body-there document d r (Some span) says (body, is, reads) = (body, sym says.body ∙ is, reads.reads.1, reads.nests)

-- what is known of a request of the batch and of the text of its body
abbrev IsGiven : Record → Option (List ℕ) → Type 0
IsGiven r text = HasText r.body text × IsInOrder r.headers

are-given : (document : List ℕ) (ds : List Data) (rs : List Record) (spans : List (Option Span)) → AllZip ReadsAs ds rs → AllZip (HasBodyAt document) ds spans
    → (k : ℕ) (r : Record) → slice_get rs k ≡ Some r → IsGiven r (text_at (bodies_in document spans) k)
are-given document ds [] spans says has k r is = absurd (cc (is))
are-given document [] (q ∷ rs) spans says has k r is = absurd says
are-given document (d ∷ ds) (q ∷ rs) [] says has k r is = absurd has
are-given document (d ∷ ds) (q ∷ rs) (span ∷ spans) says has zero r is =
    let same : q ≡ r = cc (is) in
    subst (λ s. IsGiven s (option_map (bytes_of document) span)) same (body-there document d q span says.0 has.0, says.0.headers.ordered)
are-given document (d ∷ ds) (q ∷ rs) (span ∷ spans) says has (suc k) r is = are-given document ds rs spans says.1 has.1 k r is

of-moved : (url : Option (List ℕ)) (r : Record) (text : Option (List ℕ)) → IsGiven r text → IsObjectText (request_text (with_url url r) text) (request_value (with_url url r))
of-moved None r text is = of-request (with_url None r) text is.0 is.1
of-moved (Some url) r text is = of-request (with_url (Some url) r) text is.0 is.1

of-rest : (rs : List Record) (units : List Bool) (change : Change) (r : Record) (text : Option (List ℕ)) → IsGiven r text → IsObjectText (request_text (rest_record rs units change r) text) (request_value (rest_record rs units change r))
of-rest rs units change r text is = of-moved change.url _ text (is.0, in-order change r.headers is.1)

-- ---- the whole text

begun : BeginsArray (codes "{\"requests\":[") (codes "requests")
unfolding lex punctuate serde_json_on_literals
begun rest = refl

-- the text, and after it maybe blanks, is read as the canonical value
whole-read : (rs : List Record) (rest : Rest) (bodies : List (Option (List ℕ))) (tail : List ℕ) → lex between tail ≡ [] → ((k : ℕ) (r : Record) → slice_get rs k ≡ Some r → IsGiven r (text_at bodies k))
    → read (text_of rs rest bodies ++ tail) ≡ Some (canonical_value (records_in rs rest))
unfolding text_of serde_json_on_literals
whole-read rs rest bodies tail none given =
    let units = kept rest in
    let text = text_of_request rs units (changes rest) bodies in
    let made : ℕ → Record → Record = λ i r. rest_record rs units (change_at (changes rest) i) r in
    let all = joined false (select (is_kept rs units) text 0 rs) in
    let each : AreTextsOf text made 0 rs = λ k r is.
    let here : k ≡ 0 + k = omega arith in
    subst (λ i. IsObjectText (text i r) (request_value (made i r))) here (of-rest rs units (change_at (changes rest) k) r (text_at bodies k) (given k r is)) in
    let are = are-requests (is_kept rs units) text made 0 rs each false in
    ap (λ l. read ((codes "{\"requests\":[" ++ l) ++ tail)) (sym (append_assoc all (codes "]") (codes "}")))
    ∙ document-read (codes "{\"requests\":[") (codes "requests") (all ++ codes "]") tail _ begun none are

module _ (document : List ℕ) (d : Data) (rs : List Record) (rest : Rest) (text : List ℕ) (batch : IsBatchIn document d rs) (is : IsTextOf document d rs rest text) where
  given-all : (k : ℕ) (r : Record) → slice_get rs k ≡ Some r → IsGiven r (text_at (bodies_in document is.spans) k)
  given-all = are-given document (elements d) rs is.spans batch.is is.bodies.values

  -- the text is read as the canonical value of the requests of the rest
  pub rest-read : read text ≡ Some (canonical_value (records_in rs rest))
  unfolding lex
  rest-read = ap read (is.is ∙ sym (append-nil (text_of rs rest (bodies_in document is.spans)))) ∙ whole-read rs rest (bodies_in document is.spans) [] refl given-all

  -- also with a newline at its end
  pub rest-line : read (text ++ codes "\n") ≡ Some (canonical_value (records_in rs rest))
  unfolding lex serde_json_on_literals
  rest-line = ap (λ t. read (t ++ codes "\n")) is.is ∙ whole-read rs rest (bodies_in document is.spans) (10 ∷ []) refl given-all

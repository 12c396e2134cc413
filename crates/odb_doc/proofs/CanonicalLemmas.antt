-- The canonical text, request by request and member by member.
use Rattle.std.proofs.Common.{◌≡◌, ◌∙◌, ℕ, ◌+◌, ◌≤◌, List, ◌++◌, length, Option, Some, None, option_map, nat_lt, true, refl, ap, codes, arith, append_assoc, lt-ltb, Result, Ok, Err, is_ok, if◌then◌else◌}
use Rattle.std.proofs.lemmas.List.{drop_all}
use Rattle.std.specs.Prelude.{slice_get, OnOk}
use Rattle.serde_json.specs.Data.{Data, string, object, put, no_members}
use Rattle.serde_json.specs.Written.{compact_text, comma_if}
use Rattle.serde_json.proofs.OnLiterals.{serde_json_on_literals}
use Rattle.odb_names.specs.Methods.{method_name}
use Rattle.odb_names.specs.declared.method.Method.{Method}
use Rattle.odb_names.specs.declared.method.Method.TheVariants.{Delete, Get, Patch, Post, Put}
use Rattle.odb_doc.specs.canonical.Canonical.{with_some, names_value, headers_value, request_value, canonical_text}
use Rattle.odb_doc.specs.canonical.CanonicalParts.{requests_left}
use Rattle.odb_doc.specs.Texts.{member_part, request_end}
use Rattle.odb_doc.specs.batch.Records.{Record}
use Rattle.odb_doc.proofs.ElementLemmas.{drop_at}

-- three pieces that were appended one by one, the last one if it was taken
pub pushed : {A E : Type 0} (r : Result A E) (old first second third mid new : List ℕ) → mid ≡ (old ++ first) ++ second → new ≡ (if is_ok r then mid ++ third else mid) → OnOk r (new ≡ old ++ (first ++ (second ++ third)))
pushed (Ok x) old first second third mid new begun ended = ended ∙ ap (λ text. text ++ third) begun ∙ simp append_assoc
pushed (Err e) old first second third mid new begun ended = tt

members_text_of : (group body names headers : Option Data) (id method url : Data)
    → compact_text (object (with_some (codes "atomicityGroup") group (with_some (codes "body") body (with_some (codes "dependsOn") names (with_some (codes "headers") headers (put (codes "id") id (put (codes "method") method (put (codes "url") url no_members))))))))
    ≡ codes "{" ++ (member_part (codes "\"atomicityGroup\":") group ++ (member_part (codes "\"body\":") body ++ (member_part (codes "\"dependsOn\":") names ++ (member_part (codes "\"headers\":") headers
    ++ (codes "\"id\":" ++ (compact_text id ++ (codes ",\"method\":" ++ (compact_text method ++ (codes ",\"url\":" ++ (compact_text url ++ codes "}"))))))))))
unfolding serde_json_on_literals
members_text_of None None None None id method url = refl
members_text_of None None None (Some headers) id method url = simp append_assoc
members_text_of None None (Some names) None id method url = simp append_assoc
members_text_of None None (Some names) (Some headers) id method url = simp append_assoc
members_text_of None (Some body) None None id method url = simp append_assoc
members_text_of None (Some body) None (Some headers) id method url = simp append_assoc
members_text_of None (Some body) (Some names) None id method url = simp append_assoc
members_text_of None (Some body) (Some names) (Some headers) id method url = simp append_assoc
members_text_of (Some group) None None None id method url = simp append_assoc
members_text_of (Some group) None None (Some headers) id method url = simp append_assoc
members_text_of (Some group) None (Some names) None id method url = simp append_assoc
members_text_of (Some group) None (Some names) (Some headers) id method url = simp append_assoc
members_text_of (Some group) (Some body) None None id method url = simp append_assoc
members_text_of (Some group) (Some body) None (Some headers) id method url = simp append_assoc
members_text_of (Some group) (Some body) (Some names) None id method url = simp append_assoc
members_text_of (Some group) (Some body) (Some names) (Some headers) id method url = simp append_assoc

last_members : (id : List ℕ) (method : Method) (url : List ℕ)
    → codes "\"id\":" ++ (compact_text (string id) ++ (codes ",\"method\":" ++ (compact_text (string (method_name method)) ++ (codes ",\"url\":" ++ (compact_text (string url) ++ codes "}"))))) ≡ request_end id method url
unfolding serde_json_on_literals
last_members id Delete url = simp append_assoc
last_members id Get url = simp append_assoc
last_members id Patch url = simp append_assoc
last_members id Post url = simp append_assoc
last_members id Put url = simp append_assoc

-- the text of a request is that of its parts
pub request-parts : (r : Record) → compact_text (request_value r)
    ≡ codes "{" ++ (member_part (codes "\"atomicityGroup\":") (option_map string r.group) ++ (member_part (codes "\"body\":") r.body ++ (member_part (codes "\"dependsOn\":") (names_value r.names) ++ (member_part (codes "\"headers\":") (headers_value r.headers) ++ request_end r.id r.method r.url))))
request-parts r =
    members_text_of (option_map string r.group) r.body (names_value r.names) (headers_value r.headers) (string r.id) (string (method_name r.method)) (string r.url)
    ∙ rw (last_members r.id r.method r.url) refl

-- the whole text is its start, and then the requests
pub canonical_text-front : (rs : List Record) → canonical_text rs ≡ codes "{\"requests\":[" ++ requests_left rs 0
unfolding canonical_text requests_left serde_json_on_literals
canonical_text-front rs = refl

-- after the last request comes the end
pub requests_left-none : (rs : List Record) (i : ℕ) → length rs ≤ i → requests_left rs i ≡ codes "]}"
unfolding requests_left
requests_left-none rs i end = rw (drop_all i rs end) refl

-- the text of a request, and then the rest
requests_left-more : (rs : List Record) (i : ℕ) (r : Record) → slice_get rs i ≡ Some r → requests_left rs i ≡ (comma_if (nat_lt 0 i) ++ compact_text (request_value r)) ++ requests_left rs (i + 1)
unfolding requests_left
requests_left-more rs i r is =
    let later : nat_lt 0 (i + 1) ≡ true = lt-ltb 0 (i + 1) (omega arith) in
    rw (drop_at rs i r is, later) (simp append_assoc)

-- the same in parts
pub requests_left-parts : (rs : List Record) (i : ℕ) (r : Record) → slice_get rs i ≡ Some r → requests_left rs i
    ≡ (comma_if (nat_lt 0 i) ++ (codes "{" ++ (member_part (codes "\"atomicityGroup\":") (option_map string r.group) ++ (member_part (codes "\"body\":") r.body ++ (member_part (codes "\"dependsOn\":") (names_value r.names) ++ (member_part (codes "\"headers\":") (headers_value r.headers) ++ request_end r.id r.method r.url)))))) ++ requests_left rs (i + 1)
requests_left-parts rs i r is = requests_left-more rs i r is ∙ ap (λ text. (comma_if (nat_lt 0 i) ++ text) ++ requests_left rs (i + 1)) (request-parts r)

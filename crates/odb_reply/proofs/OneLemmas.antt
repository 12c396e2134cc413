-- Each id of a batch is that of exactly one response.
use Rattle.std.proofs.Common.{◌≡◌, ◌∙◌, ◌≢◌, ℕ, zero, suc, ◌+◌, ◌<◌, List, [], ◌∷◌, length, Option, Some, None, option_map, Bool, true, false, cond, codes, refl, sym, ap, arith, count_by, get_or, unwrap_or, bytes_eq}
use Rattle.std.specs.Option.{IsSomeAnd}
use Rattle.std.proofs.lemmas.List.Sums.{sum_by-cons}
use Rattle.std.proofs.lemmas.Slice.Eq.{bytes_eq-Decides}
use Rattle.serde_json.specs.Data.{Data, string, number, unsigned, object, put, no_members}
use Rattle.odb_doc.specs.Members.{text_at}
use Rattle.odb_doc.specs.batch.Records.{Record}
use Rattle.odb_doc.specs.declared.recorded.outcome.Outcome.{Outcome}
use Rattle.odb_check.specs.Positions.{id_at, IsId}
use Rattle.odb_sched.specs.run.Answers.{status_of}
use Rattle.odb_doc.specs.canonical.Canonical.{headers_value, with_some}
use Rattle.odb_reply.specs.Responses.{LabelValue, label_of, labels_of, answer_body, answer_headers, response, responses_from, value_of}
use Rattle.odb_reply.specs.Places.{IsOnce}
use Rattle.odb_reply.specs.OnePerId.{has_id, HasOnePerId}
use Rattle.odb_reply.specs.ResponseDocuments.{Entry, ReadsAs, responses_in}
use Rattle.odb_doc.proofs.ElementLemmas.{list_of-items_of}

-- what a response says, whatever other members there are
says_members : (group : Option (List ℕ)) (body headers : Option Data) (id : List ℕ) (status : ℕ)
    → ReadsAs (object (with_some (codes "atomicityGroup") (option_map string group) (with_some (codes "body") body (with_some (codes "headers") headers (put (codes "id") (string id) (put (codes "status") (number (unsigned status)) no_members))))))
    (record { id = id; group = group; status = status })
says_members None None None id status = record { id = refl; status = refl; group = refl }
says_members None None (Some headers) id status = record { id = refl; status = refl; group = refl }
says_members None (Some body) None id status = record { id = refl; status = refl; group = refl }
says_members None (Some body) (Some headers) id status = record { id = refl; status = refl; group = refl }
says_members (Some group) None None id status = record { id = refl; status = refl; group = refl }
says_members (Some group) None (Some headers) id status = record { id = refl; status = refl; group = refl }
says_members (Some group) (Some body) None id status = record { id = refl; status = refl; group = refl }
says_members (Some group) (Some body) (Some headers) id status = record { id = refl; status = refl; group = refl }

-- the entry of a request with this id and group, and with this answer
abbrev pub entry_for : LabelValue → Option Outcome → Entry
entry_for label answered = record { id = label.id; group = label.group; status = status_of answered }

pub says_entry : (label : LabelValue) (answered : Option Outcome) → ReadsAs (response label answered) (entry_for label answered)
says_entry label answered = says_members label.group (answer_body answered) (headers_value (answer_headers answered)) label.id (status_of answered)

id_of_response : (request : Record) (answer : Option Outcome) → text_at (codes "id") (response (label_of request) answer) ≡ Some request.id
id_of_response request answer = (says_entry (label_of request) answer).id

pub responses_in-value : (labels : List LabelValue) (answers : ℕ → Option Outcome) → responses_in (value_of labels answers) ≡ responses_from answers 0 labels
responses_in-value labels answers = list_of-items_of (responses_from answers 0 labels)

has_id-response : (id : List ℕ) (request : Record) (answer : Option Outcome) → has_id id (response (label_of request) answer) ≡ bytes_eq id request.id
has_id-response id request answer = ap (λ found. unwrap_or (option_map (bytes_eq id) found) false) (id_of_response request answer)

-- as many responses have an id as requests
count_by-responses : (id : List ℕ) (answers : ℕ → Option Outcome) (i : ℕ) (requests : List Record) → count_by (has_id id) (responses_from answers i (labels_of requests)) ≡ count_by (λ request. bytes_eq id request.id) requests
count_by-responses id answers i [] = refl
count_by-responses id answers i (request ∷ requests) =
    let named : List ℕ → ℕ = λ other. cond (bytes_eq id other) 1 0 in
    sum_by-cons (λ d. cond (has_id id d) 1 0) (response (label_of request) (answers i)) (responses_from answers (i + 1) (labels_of requests))
    ∙ rw (has_id-response id request (answers i), count_by-responses id answers (i + 1) requests) (sym (sum_by-cons (λ (r : Record). named r.id) request requests))

unlike : (id other : List ℕ) (same : Bool) → bytes_eq id other ≡ same → id ≢ other → same ≡ false
unlike id other true is apart = absurd (apart ((bytes_eq-Decides id other).0 is))
unlike id other false is apart = refl

count_none : (requests : List Record) (id : List ℕ) → ((i : ℕ) → id_at requests i ≢ Some id) → count_by (λ request. bytes_eq id request.id) requests ≡ 0
count_none [] id none = refl
count_none (request ∷ requests) id none =
    let other : bytes_eq id request.id ≡ false = unlike id request.id _ refl (λ same. none 0 (ap Some (sym same))) in
    sum_by-cons (λ (r : Record). cond (bytes_eq id r.id) 1 0) request requests ∙ rw (other, count_none requests id (λ i. none (suc i))) refl

count_one : (requests : List Record) (i : ℕ) (id : List ℕ) → IsOnce requests → id_at requests i ≡ Some id → count_by (λ request. bytes_eq id request.id) requests ≡ 1
count_one [] i id once is = absurd cc
count_one (request ∷ requests) zero id once is =
    let same : request.id ≡ id = cc in
    let here : bytes_eq id request.id ≡ true = rw same ((bytes_eq-Decides id id).1 refl) in
    let none = count_none requests id (λ i later. absurd (omega (arith, once 0 (suc i) id is later))) in
    sum_by-cons (λ (r : Record). cond (bytes_eq id r.id) 1 0) request requests ∙ rw (here, none) refl
count_one (request ∷ requests) (suc i) id once is =
    let other : bytes_eq id request.id ≡ false = unlike id request.id _ refl (λ same. absurd (omega (arith, once 0 (suc i) id (ap Some (sym same)) is))) in
    let later : IsOnce requests = λ j k name first second. omega (arith, once (suc j) (suc k) name first second) in
    sum_by-cons (λ (r : Record). cond (bytes_eq id r.id) 1 0) request requests ∙ rw (other, count_one requests i id later is) refl

some_further : (found : Option (List ℕ)) (request : Record) (requests : List Record) → IsSomeAnd found (IsId requests) → IsSomeAnd found (IsId (request ∷ requests))
some_further None request requests known = known
some_further (Some id) request requests known = (suc known.0, known.1)

known_from : (answers : ℕ → Option Outcome) (i : ℕ) (requests : List Record) (k : ℕ) (d : Data) → k < length (responses_from answers i (labels_of requests)) → get_or (responses_from answers i (labels_of requests)) k d ≡ d
    → IsSomeAnd (text_at (codes "id") d) (IsId requests)
known_from answers i [] k d within is = absurd (omega arith)
known_from answers i (request ∷ requests) zero d within is =
    let named : text_at (codes "id") d ≡ Some request.id = ap (λ e. text_at (codes "id") e) (sym is) ∙ id_of_response request (answers i) in
    rw named (0, refl)
known_from answers i (request ∷ requests) (suc k) d within is = some_further (text_at (codes "id") d) request requests (known_from answers (i + 1) requests k d (omega arith) is)

pub one_per_id : (requests : List Record) (answers : ℕ → Option Outcome) → IsOnce requests → HasOnePerId requests (value_of (labels_of requests) answers)
one_per_id requests answers once = record {
  one = λ i id is. rw (responses_in-value (labels_of requests) answers, count_by-responses id answers 0 requests) (count_one requests i id once is);
  known = λ d among. let found = rw (responses_in-value (labels_of requests) answers) at among in known_from answers 0 requests found.0 d found.1 found.2;
}

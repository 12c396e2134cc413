-- What the response to a finished run lists, and that it fits the batch.
use Rattle.std.proofs.Common.{◌≡◌, ◌∙◌, ◌+◌, ◌<◌, ℕ, zero, suc, true, List, [], ◌∷◌, length, Option, Some, None, option_map, option_and_then, slice_get, get_or, refl, ap, ap₂, sym, subst, arith, ◌≤◌, nat_le, nat_lt, leb-true, ltb-true, Contains, IfSome, IsSome, All}
use Rattle.std.proofs.lemmas.List.Elements.{All-nil, All-cons}
use Rattle.std.specs.List.{AllZip}
use Rattle.std.proofs.lemmas.Bool.{true≢false, and_parts}
use Rattle.std.proofs.lemmas.Option.{slice_get-get_or}
use Rattle.serde_json.specs.Find.{as_str}
use Rattle.serde_json.specs.Data.{Data, string, unsigned}
use Rattle.odb_doc.specs.declared.recorded.outcome.Outcome.{Outcome}
use Rattle.odb_doc.specs.batch.Records.{Record}
use Rattle.odb_check.specs.declared.need.Need.{Need}
use Rattle.odb_check.specs.declared.need.Need.TheVariants.{One, Group}
use Rattle.odb_check.specs.Needs.{needs_at}
use Rattle.odb_check.specs.Positions.{id_at, group_at}
use Rattle.odb_check.specs.PlanGraph.{IsPlanGraphOf, needs_of, unit_of}
use Rattle.odb_check.specs.Units.{unit_at}
use Rattle.odb_sched.specs.run.Answers.{answer, status_of, is_answered_2xx}
use Rattle.odb_sched.specs.run.Laws.{RestsOnSuccesses}
use Rattle.odb_sched.specs.run.State.{State, size}
use Rattle.odb_doc.specs.Statuses.{is_success, is_status}
use Rattle.odb_reply.specs.Fits.{id_in, IsRow, IsTableOf, Responds, Succeeds, IsSatisfied, Fits, ListsFit}
use Rattle.odb_reply.specs.ResponseDocuments.{Entry, IsResponse, IsResponseDocument, IsStatus, ReadsAs, responses_in}
use Rattle.odb_reply.specs.BodyTexts.{text_at, valued, value_with, values_of}
use Rattle.odb_reply.specs.Responses.{LabelValue, label_of, labels_of, response, responses_from, response_value, value_of}
use Rattle.odb_check.proofs.PositionLemmas.{id_within}
use Rattle.odb_reply.specs.Places.{IsOnce}
use Rattle.odb_reply.proofs.OneFaultLemmas.{one_list}
use Rattle.odb_reply.proofs.OneLemmas.{entry_for, says_entry, responses_in-value}
use Rattle.odb_reply.proofs.SliceLemmas.{map_some}

-- ---- what the responses say

-- the entries of these requests, of which the first is at a position
abbrev entries_from : (ℕ → Option Outcome) → ℕ → List Record → List Entry
entries_from answers i [] = []
entries_from answers i (request ∷ requests) = entry_for (label_of request) (answers i) ∷ entries_from answers (i + 1) requests

says_entries : (answers : ℕ → Option Outcome) (i : ℕ) (requests : List Record) → AllZip ReadsAs (responses_from answers i (labels_of requests)) (entries_from answers i requests)
says_entries answers i [] = tt
says_entries answers i (request ∷ requests) = (says_entry (label_of request) (answers i), says_entries answers (i + 1) requests)

-- the entry at a place is that of the request at the position
entry_at : (answers : ℕ → Option Outcome) (i : ℕ) (requests : List Record) (k : ℕ) → slice_get (entries_from answers i requests) k ≡ option_map (λ request. entry_for (label_of request) (answers (i + k))) (slice_get requests k)
entry_at answers i [] k = refl
entry_at answers i (request ∷ requests) zero = let same : i ≡ i + 0 = omega arith in ap (λ j. Some (entry_for (label_of request) (answers j))) same
entry_at answers i (request ∷ requests) (suc k) =
    let same : i + 1 + k ≡ i + suc k = omega arith in
    entry_at answers (i + 1) requests k ∙ ap (λ j. option_map (λ r. entry_for (label_of r) (answers j)) (slice_get requests k)) same

-- ---- bodies that were reported as text

-- the status is that of the answer
same-status : (answered : Option Outcome) (text : Option (List ℕ)) → status_of (valued answered text) ≡ status_of answered
same-status None None = refl
same-status None (Some text) = refl
same-status (Some outcome) None = refl
same-status (Some outcome) (Some text) = refl

same-entries : (texts : List (Option (List ℕ))) (answers : ℕ → Option Outcome) (i : ℕ) (requests : List Record) → entries_from (values_of texts answers) i requests ≡ entries_from answers i requests
same-entries texts answers i [] = refl
same-entries texts answers i (request ∷ requests) =
    ap₂ (λ (status : ℕ) (es : List Entry). record { id = request.id; group = request.group; status = status } ∷ es) (same-status (answers i) (text_at texts i)) (same-entries texts answers (i + 1) requests)

pub texted-statuses : (texts : List (Option (List ℕ))) (answers : ℕ → Option Outcome) → ((i : ℕ) → is_status (status_of (answers i)) ≡ true) → (i : ℕ) → is_status (status_of (values_of texts answers i)) ≡ true
texted-statuses texts answers statuses i = ap is_status (same-status (answers i) (text_at texts i)) ∙ statuses i

-- ---- whether they fit

success_of : (answered : Option Outcome) → is_success (status_of answered) ≡ true → is_answered_2xx answered ≡ true
success_of None success = absurd (true≢false (sym success))
success_of (Some outcome) success = success

answered_success : (answered : Option Outcome) → is_answered_2xx answered ≡ true → is_success (status_of answered) ≡ true
answered_success None success = absurd (true≢false (sym success))
answered_success (Some outcome) success = success

-- all entries
abbrev listed : State → List Entry
listed state = entries_from (answer state) 0 state.requests

-- the entry at a place, by its request
record IsEntryOf (state : State) (k : ℕ) (e : Entry) : Type 0 where
  request : Record
  at_place : slice_get state.requests k ≡ Some request
  same : entry_for (label_of request) (answer state k) ≡ e

entry_of_place : (state : State) (k : ℕ) (e : Entry) → slice_get (listed state) k ≡ Some e → IsEntryOf state k e
entry_of_place state k e is =
    let found = map_some (λ request. entry_for (label_of request) (answer state (0 + k))) (slice_get state.requests k) e (sym (entry_at (answer state) 0 state.requests k) ∙ is) in
    let place : 0 + k ≡ k = omega arith in
    record { request = found.0; at_place = found.1; same = ap (λ j. entry_for (label_of found.0) (answer state j)) (sym place) ∙ found.2 }

-- a response to a request shows its answer, and its group
record ShowsAnswer (state : State) (i : ℕ) (e : Entry) : Type 0 where
  status : e.status ≡ status_of (answer state i)
  group : e.group ≡ group_at state.requests i

shows_answer : (state : State) (i : ℕ) (e : Entry) → IsOnce state.requests → Responds state.requests (listed state) i e → ShowsAnswer state i e
shows_answer state i e once responds =
    let rs = state.requests in
    let here = entry_of_place state responds.place e responds.given in
    let named : id_at rs responds.place ≡ Some e.id = ap (option_map (λ (r : Record). r.id)) here.at_place ∙ ap (λ (x : Entry). Some x.id) here.same in
    let same : responds.place ≡ i = once responds.place i e.id named responds.id in
    record {
      status = ap (λ (x : Entry). x.status) (sym here.same) ∙ ap (λ j. status_of (answer state j)) same;
      group = ap (λ (x : Entry). x.group) (sym here.same) ∙ sym (ap (option_and_then (λ (r : Record). r.group)) here.at_place) ∙ ap (group_at rs) same;
    }

id_of_place : (state : State) (k : ℕ) (id : List ℕ) → id_in (listed state) k ≡ Some id → id_at state.requests k ≡ Some id
id_of_place state k id is =
    let found = map_some (λ (e : Entry). e.id) (slice_get (listed state) k) id is in
    let here = entry_of_place state k found.0 found.1 in
    ap (option_map (λ (r : Record). r.id)) here.at_place ∙ ap (λ (x : Entry). Some x.id) here.same ∙ ap Some found.2

place_of_id : (state : State) (i : ℕ) (id : List ℕ) → id_at state.requests i ≡ Some id → id_in (listed state) i ≡ Some id
place_of_id state i id is =
    let found = map_some (λ (r : Record). r.id) (slice_get state.requests i) id is in
    let entry = entry_at (answer state) 0 state.requests i in
    ap (option_map (λ (e : Entry). e.id)) (entry ∙ ap (option_map (λ (request : Record). entry_for (label_of request) (answer state (0 + i)))) found.1) ∙ ap Some found.2

-- what is answered with a success succeeds
succeeds_answered : (state : State) (r : ℕ) → IsOnce state.requests → is_answered_2xx (answer state r) ≡ true → Succeeds state.requests (listed state) r
succeeds_answered state r once answered e responds =
    let shows = shows_answer state r e once responds in
    ap is_success shows.status ∙ answered_success (answer state r) answered

-- the needs and the units of the run are those of the requests
needs_there : (state : State) (i : ℕ) (need : Need) → IsPlanGraphOf state.requests state.plan_graph → i < length state.requests → Contains (needs_at state.requests i) need → Contains (needs_of state.plan_graph i) need
needs_there state i need same within needed = subst (λ (needs : List Need). Contains needs need) (sym (same.needs i within)) needed

unit_there : (state : State) (i : ℕ) → IsPlanGraphOf state.requests state.plan_graph → i < length state.requests → unit_of state.plan_graph i ≡ unit_at state.requests i
unit_there state i same within = same.units i within

-- a response to a member of the unit is to a request of the run
satisfied_answered : (state : State) (i : ℕ) (need : Need) → IsOnce state.requests → RestsOnSuccesses state → IsPlanGraphOf state.requests state.plan_graph → size state ≡ length state.requests
    → i < length state.requests → is_answered_2xx (answer state i) ≡ true → Contains (needs_at state.requests i) need → IsSatisfied state.requests (listed state) need
satisfied_answered state i (One r) once sound same count within answered needed =
    let inside : i < size state = omega (arith, count) in
    succeeds_answered state r once ((sound i inside answered).0 r (needs_there state i (One r) same within needed))
satisfied_answered state i (Group u) once sound same count within answered needed = λ r unit e responds.
    let inside : i < size state = omega (arith, count) in
    let member : r < length state.requests = id_within state.requests r e.id responds.id in
    let here : r < size state = omega (arith, count) in
    succeeds_answered state r once ((sound i inside answered).1 u r (needs_there state i (Group u) same within needed) here (unit_there state r same member ∙ unit)) e responds

fits_answered : (state : State) → IsOnce state.requests → RestsOnSuccesses state → IsPlanGraphOf state.requests state.plan_graph → size state ≡ length state.requests → Fits state.requests (listed state)
fits_answered state once sound same count = record {
  one = λ i id is. (i, record { has = place_of_id state i id is; only = λ j has. once j i id (id_of_place state j id has) is });
  known = λ k id has. (k, id_of_place state k id has);
  groups = λ i e responds. (shows_answer state i e once responds).group;
  rests_on_successes = λ i e need responds success needed.
      let rs = state.requests in
      let shows = shows_answer state i e once responds in
      let answered = success_of (answer state i) (ap is_success (sym shows.status) ∙ success) in
      satisfied_answered state i need once sound same count (id_within rs i e.id responds.id) answered needed;
}

-- the responses list the answers, whatever bodies were reported as text
says_texted : (texts : List (Option (List ℕ))) (state : State) → AllZip ReadsAs (responses_in (value_with (labels_of state.requests) texts (answer state))) (listed state)
says_texted texts state = rw (responses_in-value (labels_of state.requests) (values_of texts (answer state)))
    (subst (λ (es : List Entry). AllZip ReadsAs (responses_from (values_of texts (answer state)) 0 (labels_of state.requests)) es) (same-entries texts (answer state) 0 state.requests) (says_entries (values_of texts (answer state)) 0 state.requests))

-- the statuses in a table of them are those of the answers
pub table-texted : (texts : List (Option (List ℕ))) (state : State) → IsOnce state.requests → (entries : List Entry) → AllZip ReadsAs (responses_in (value_with (labels_of state.requests) texts (answer state))) entries
    → (places statuses : List ℕ) → IsTableOf state.requests entries places statuses → (i : ℕ) → i < length state.requests → get_or statuses i 0 ≡ status_of (answer state i)
table-texted texts state once entries says places statuses table i within =
    let same : entries ≡ listed state = one_list (responses_in (value_with (labels_of state.requests) texts (answer state))) entries (listed state) says (says_texted texts state) in
    let row : IsRow state.requests entries i (get_or places i 0) (get_or statuses i 0) = table.each i (get_or places i 0) (get_or statuses i 0)
    (slice_get-get_or places i 0 (omega (arith, within, table.places_count))) (slice_get-get_or statuses i 0 (omega (arith, within, table.statuses_count))) in
    let responds : Responds state.requests entries i row.entry = record { place = get_or places i 0; given = row.given; id = row.id } in
    sym row.status_is ∙ (shows_answer state i row.entry once (subst (λ (es : List Entry). Responds state.requests es i row.entry) same responds)).status

pub ListsFit-texted : (texts : List (Option (List ℕ))) (state : State) → IsOnce state.requests → RestsOnSuccesses state → IsPlanGraphOf state.requests state.plan_graph → size state ≡ length state.requests
    → ListsFit state.requests (value_with (labels_of state.requests) texts (answer state))
ListsFit-texted texts state once sound same count =
    record { listed = listed state; says = says_texted texts state; fits = fits_answered state once sound same count }

pub ListsFit-answered : (state : State) → IsOnce state.requests → RestsOnSuccesses state → IsPlanGraphOf state.requests state.plan_graph → size state ≡ length state.requests
    → ListsFit state.requests (response_value state)
ListsFit-answered state once sound same count = ListsFit-texted [] state once sound same count

-- ---- the response is a response document

group_is_text : (group : Option (List ℕ)) → IfSome (option_map string group) (λ d. IsSome (as_str d))
group_is_text None = tt
group_is_text (Some group) = refl

response_of : (d : Data) (entry : Entry) → ReadsAs d entry → IsStatus (unsigned entry.status) → IsResponse d
response_of d entry says status = record {
  id = rw says.id refl;
  status = rw says.status status;
  group = rw says.group (group_is_text entry.group);
}

all_responses : (answers : ℕ → Option Outcome) (i : ℕ) (labels : List LabelValue) → ((k : ℕ) → IsStatus (unsigned (status_of (answers k)))) → All IsResponse (responses_from answers i labels)
all_responses answers i [] statuses = All-nil IsResponse
all_responses answers i (label ∷ labels) statuses =
    All-cons IsResponse (response label (answers i)) (responses_from answers (i + 1) labels)
    (response_of (response label (answers i)) (entry_for label (answers i)) (says_entry label (answers i)) (statuses i))
    (all_responses answers (i + 1) labels statuses)

-- a status from 200 to 599 is one that a response may have
in_range : (n : ℕ) → is_status n ≡ true → IsStatus (unsigned n)
in_range n e =
    let (low, high) = and_parts (nat_le 200 n) (nat_lt n 600) e in
    let least : 200 ≤ n = leb-true 200 n low in
    let below : n < 600 = ltb-true n 600 high in
    (omega arith, omega arith)

pub IsResponseDocument-answered : (labels : List LabelValue) (answers : ℕ → Option Outcome) → ((i : ℕ) → is_status (status_of (answers i)) ≡ true) → IsResponseDocument (value_of labels answers)
IsResponseDocument-answered labels answers statuses = record {
  array = refl;
  each = rw (responses_in-value labels answers) (all_responses answers 0 labels (λ k. in_range (status_of (answers k)) (statuses k)));
}

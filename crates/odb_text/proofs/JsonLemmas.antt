-- The results as JSON are values that are written without loss: each number has 64 bits, and they nest at most 4 deep.
use Rattle.std.proofs.Common.{◌≤◌, ◌<◌, ◌+◌, ◌-◌, ◌^◌, ℕ, zero, suc, Bool, true, false, cond, List, [], ◌∷◌, ◌++◌, Option, None, Some, IfSome, get_or, map, option_map, slice_get, refl, arith, length, codes}
use Rattle.std.specs.Prelude.{◌==◌, slice_index}
use Rattle.std.proofs.lemmas.Bool.{or_from, or_parts}
use Rattle.serde_json.specs.Data.{Data, unsigned, number, string, array, object, Items, Members, put, no_members}
use Rattle.serde_json.specs.View.{items_of}
use Rattle.serde_json.specs.Written.{has_float, items_have_float}
use Rattle.odb_doc.specs.Refusals.{Printed}
use Rattle.std.specs.List.{AllZip}
use Rattle.odb_names.specs.Methods.{http_name}
use Rattle.odb_doc.specs.Headers.{Header, IsInOrder}
use Rattle.odb_doc.specs.batch.Records.{IsBatchOf, ReadsAs, Record}
use Rattle.odb_doc.specs.batch.Shapes.{elements}
use Rattle.odb_doc.specs.batch.UrlRests.{url_rest}
use Rattle.odb_doc.specs.canonical.Canonical.{header_members}
use Rattle.odb_doc.proofs.SafeLemmas.{IsSafe, AreSafe, AreItemsSafe, safe-headers, safe-put, safe-string, safe-none, safe-with_some, safe-group}
use Rattle.odb_check.specs.declared.need.Need.{Need}
use Rattle.odb_check.specs.declared.need.Need.TheVariants.{One, Group}
use Rattle.odb_check.specs.Firsts.{list_below}
use Rattle.odb_check.specs.Levels.{greatest_of, greatest_below, unit_level, level_needed, next_level, levels_below, level_at}
use Rattle.odb_check.specs.Needs.{needs_at}
use Rattle.odb_check.specs.Positions.{group_at}
use Rattle.odb_check.specs.Units.{unit_at}
use Rattle.odb_spans.specs.declared.span.Span.{Span}
use Rattle.odb_text.specs.FullPlans.{full_plan_value, full_planned, full_some, span_value}
use Rattle.odb_text.specs.Lines.{id_text, place_text, unlocated}
use Rattle.odb_text.specs.Results.{counts_value, fault_object, fault_value, faults_value, match_value, matched, need_values, object_at, plan_value, planned}

-- ---- levels are low

greatest_of-low : {X : Type 0} (value : X → ℕ) (m : ℕ) (xs : List X) → ((x : X) → value x ≤ m) → greatest_of value xs ≤ m
greatest_of-low value m [] low = omega arith
greatest_of-low value m (x ∷ xs) low = omega (arith, low x, greatest_of-low value m xs low)

greatest_below-low : (n : ℕ) (value : ℕ → ℕ) (m : ℕ) → ((j : ℕ) → value j ≤ m) → greatest_below n value ≤ m
greatest_below-low zero value m low = omega arith
greatest_below-low (suc n) value m low = omega (arith, low n, greatest_below-low n value m low)

cond-low : (b : Bool) (a m : ℕ) → a ≤ m → cond b a 0 ≤ m
cond-low true a m low = low
cond-low false a m low = omega arith

needed-low : (level group_level : ℕ → ℕ) (n : ℕ) → ((r : ℕ) → level r ≤ n) → ((u : ℕ) → group_level u ≤ n) → (need : Need) → level_needed level group_level need + 1 ≤ suc n
needed-low level group_level n one group (One r) = omega (arith, one r)
needed-low level group_level n one group (Group u) = omega (arith, group u)

more-low : (levels : List ℕ) (level n k : ℕ) → level ≤ suc n → ((j : ℕ) → slice_index levels j ≤ n) → slice_index (levels ++ level ∷ []) k ≤ suc n
more-low [] level n zero here low = here
more-low [] level n (suc k) here low = omega arith
more-low (x ∷ xs) level n zero here low = omega (arith, low 0)
more-low (x ∷ xs) level n (suc k) here low = more-low xs level n k here (λ j. low (suc j))

pub levels-low : (rs : List Record) (n k : ℕ) → slice_index (levels_below rs n) k ≤ n
levels-low rs zero k = omega arith
levels-low rs (suc n) k =
    let levels = levels_below rs n in
    let low = levels-low rs n in
    let units = λ (u : ℕ). greatest_below-low n (λ j. cond (unit_at rs j == u) (slice_index levels j) 0) n (λ j. cond-low (unit_at rs j == u) (slice_index levels j) n (low j)) in
    more-low levels (next_level (slice_index levels) (unit_level rs n levels) (needs_at rs n)) n k
    (greatest_of-low _ (suc n) (needs_at rs n) (needed-low (slice_index levels) (unit_level rs n levels) n low units)) low

-- ---- values

safe-number : (n k : ℕ) → k < 2 ^ 64 → IsSafe n (number (unsigned k))
safe-number n k small = record { held = small; whole = refl; shallow = omega arith }

safe-object : (n : ℕ) (ms : Members) → AreSafe n ms → IsSafe (suc n) (object ms)
safe-object n ms are = record { held = (are.ordered, are.held); whole = are.whole; shallow = omega (arith, are.shallow) }

safe-array : (n : ℕ) (ds : Items) → AreItemsSafe n ds → IsSafe (suc n) (array ds)
safe-array n ds are = record { held = are.held; whole = are.whole; shallow = omega (arith, are.shallow) }

safe-append : (n : ℕ) (ds : List Data) (d : Data) → AreItemsSafe n (items_of ds) → IsSafe n d → AreItemsSafe n (items_of (ds ++ d ∷ []))
safe-append n [] d rest new = record { held = (new.held, tt); whole = or_from (has_float d) false new.whole refl; shallow = omega (arith, new.shallow) }
safe-append n (x ∷ ds) d rest new =
    let parts = or_parts (has_float x) (items_have_float (items_of ds)) rest.whole in
    let more = safe-append n ds d (record { held = rest.held.1; whole = parts.1; shallow = omega (arith, rest.shallow) }) new in
    record { held = (rest.held.0, more.held); whole = or_from (has_float x) _ parts.0 more.whole; shallow = omega (arith, rest.shallow, more.shallow) }

safe-below : (n count : ℕ) (value : ℕ → Data) → ((i : ℕ) → IsSafe n (value i)) → AreItemsSafe n (items_of (list_below count value))
safe-below n zero value each = record { held = tt; whole = refl; shallow = omega arith }
safe-below n (suc count) value each = safe-append n (list_below count value) (value count) (safe-below n count value each) (each count)

-- an object with one member
safe-only : (n : ℕ) (name : List ℕ) (d : Data) → IsSafe n d → IsSafe (suc n) (object (put name d no_members))
safe-only n name d is = safe-object n _ (safe-put n name d no_members is (safe-none n))

-- ---- results

safe-listed : (refusal : Printed) → IsSafe 1 (fault_object (unlocated refusal))
unfolding object_at
safe-listed refusal = safe-object 0 _ (
    safe-put 0 (codes "code") (string refusal.code) _ (safe-string 0 refusal.code) (
    safe-put 0 (codes "name") (string refusal.name) _ (safe-string 0 refusal.name) (
    safe-put 0 (codes "place") (string (place_text refusal.place)) no_members (safe-string 0 (place_text refusal.place)) (safe-none 0))))

pub safe-fault : (refusal : Printed) → IsSafe 2 (fault_value (unlocated refusal))
safe-fault refusal = safe-only 1 (codes "fault") _ (safe-listed refusal)

pub safe-counts : (requests groups : ℕ) → requests < 2 ^ 64 → groups < 2 ^ 64 → IsSafe 1 (counts_value requests groups)
safe-counts requests groups few some = safe-object 0 _ (
    safe-put 0 (codes "groups") (number (unsigned groups)) _ (safe-number 0 groups some) (
    safe-put 0 (codes "requests") (number (unsigned requests)) no_members (safe-number 0 requests few) (safe-none 0)))

safe-needs : (batch : List Record) (needs : List Need) → AreItemsSafe 0 (items_of (need_values batch needs))
safe-needs batch [] = record { held = tt; whole = refl; shallow = omega arith }
safe-needs batch (need ∷ needs) = let rest = safe-needs batch needs in record { held = (tt, rest.held); whole = rest.whole; shallow = omega (arith, rest.shallow) }

safe-planned : (batch : List Record) → length batch < 2 ^ 64 → (i : ℕ) → IsSafe 2 (planned batch i)
unfolding planned
safe-planned batch few i =
    let low : level_at batch i < 2 ^ 64 = omega (arith, levels-low batch (length batch) i, few) in
    safe-object 1 _ (
    safe-with_some 1 (codes "group") (option_map string (group_at batch i)) _ (safe-group 1 (group_at batch i)) (
    safe-put 1 (codes "id") (string (id_text batch i)) _ (safe-string 1 (id_text batch i)) (
    safe-put 1 (codes "level") (number (unsigned (level_at batch i))) _ (safe-number 1 (level_at batch i) low) (
    safe-put 1 (codes "needs") (array (items_of (need_values batch (needs_at batch i)))) no_members (safe-array 0 _ (safe-needs batch (needs_at batch i))) (safe-none 1)))))

pub safe-plan : (batch : List Record) → length batch < 2 ^ 64 → IsSafe 4 (plan_value batch)
safe-plan batch few = safe-only 3 (codes "requests") _ (safe-array 2 _ (safe-below 2 (length batch) (planned batch) (safe-planned batch few)))

safe-matched : (batch : List Record) (statuses : List ℕ) → ((i : ℕ) → slice_index statuses i < 2 ^ 64) → (i : ℕ) → IsSafe 1 (matched batch statuses i)
unfolding matched
safe-matched batch statuses small i = safe-object 0 _ (
    safe-put 0 (codes "id") (string (id_text batch i)) _ (safe-string 0 (id_text batch i)) (
    safe-put 0 (codes "status") (number (unsigned (slice_index statuses i))) no_members (safe-number 0 (slice_index statuses i) (small i)) (safe-none 0)))

pub safe-match : (batch : List Record) (statuses : List ℕ) → ((i : ℕ) → slice_index statuses i < 2 ^ 64) → IsSafe 3 (match_value batch statuses)
safe-match batch statuses small = safe-only 2 (codes "responses") _ (safe-array 1 _ (safe-below 1 (length batch) (matched batch statuses) (safe-matched batch statuses small)))

safe-all : (refusals : List Printed) → AreItemsSafe 1 (items_of (map fault_object (map unlocated refusals)))
safe-all [] = record { held = tt; whole = refl; shallow = omega arith }
safe-all (refusal ∷ refusals) =
    let one = safe-listed refusal in
    let rest = safe-all refusals in
    record { held = (one.held, rest.held); whole = or_from (has_float (fault_object (unlocated refusal))) _ one.whole rest.whole; shallow = omega (arith, one.shallow, rest.shallow) }

pub safe-faults : (refusals : List Printed) → IsSafe 3 (faults_value (map unlocated refusals))
safe-faults refusals = safe-only 2 (codes "faults") _ (safe-array 1 _ (safe-all refusals))

-- ---- a full plan

-- the numbers of a span have 64 bits
abbrev pub IsFew : Span → Type 0
IsFew span = (span.start < 2 ^ 64) × (span.end < 2 ^ 64)

safe-span : (body : Option Span) → IfSome body IsFew → IfSome (option_map span_value body) (IsSafe 1)
safe-span None few = tt
safe-span (Some span) few =
    let length : span.end - span.start < 2 ^ 64 = omega (arith, few.1) in
    safe-object 0 _ (
    safe-put 0 (codes "length") (number (unsigned (span.end - span.start))) _ (safe-number 0 (span.end - span.start) length) (
    safe-put 0 (codes "offset") (number (unsigned span.start)) no_members (safe-number 0 span.start few.0) (safe-none 0)))

safe-header : (headers : List Header) → IsInOrder headers → IsSafe 1 (object (header_members headers))
safe-header [] ordered = safe-object 0 no_members (safe-none 0)
safe-header (header ∷ headers) ordered = safe-headers 1 (header ∷ headers) (omega arith) ordered

safe-full : (batch : List Record) (i : ℕ) (body : Option Span) (found : Option Record) → length batch < 2 ^ 64 → IfSome body IsFew → IfSome found (λ r. IsInOrder r.headers) → IsSafe 2 (full_some batch i body found)
safe-full batch i body None small few ordered = safe-object 1 no_members (safe-none 1)
safe-full batch i body (Some r) small few ordered =
    let low : level_at batch i < 2 ^ 64 = omega (arith, levels-low batch (length batch) i, small) in
    safe-object 1 _ (
    safe-with_some 1 (codes "body") (option_map span_value body) _ (safe-span body few) (
    safe-with_some 1 (codes "group") (option_map string r.group) _ (safe-group 1 r.group) (
    safe-put 1 (codes "headers") (object (header_members r.headers)) _ (safe-header r.headers ordered) (
    safe-put 1 (codes "id") (string r.id) _ (safe-string 1 r.id) (
    safe-put 1 (codes "level") (number (unsigned (level_at batch i))) _ (safe-number 1 (level_at batch i) low) (
    safe-put 1 (codes "method") (string (http_name r.method)) _ (safe-string 1 (http_name r.method)) (
    safe-put 1 (codes "needs") (array (items_of (need_values batch (needs_at batch i)))) _ (safe-array 0 _ (safe-needs batch (needs_at batch i))) (
    safe-with_some 1 (codes "reference") (option_map string r.reference) _ (safe-group 1 r.reference) (
    safe-put 1 (codes "rest") (string (url_rest r)) _ (safe-string 1 (url_rest r)) (
    safe-put 1 (codes "url") (string r.url) no_members (safe-string 1 r.url) (safe-none 1)))))))))))

-- the headers of each request are in the order of their names
in-order : (ds : List Data) (rs : List Record) (i : ℕ) → AllZip ReadsAs ds rs → IfSome (slice_get rs i) (λ r. IsInOrder r.headers)
in-order [] [] i says = tt
in-order [] (r ∷ rs) i says = absurd says
in-order (d ∷ ds) [] i says = absurd says
in-order (d ∷ ds) (r ∷ rs) zero says = says.0.headers.ordered
in-order (d ∷ ds) (r ∷ rs) (suc i) says = in-order ds rs i says.1

safe-requests : (value : Data) (batch : List Record) (bodies : List (Option Span)) → IsBatchOf value batch → length batch < 2 ^ 64 → ((i : ℕ) → IfSome (get_or bodies i None) IsFew) → (i : ℕ) → IsSafe 2 (full_planned batch bodies i)
unfolding full_planned
safe-requests value batch bodies is small few i = safe-full batch i (get_or bodies i None) (slice_get batch i) small (few i) (in-order (elements value) batch i is)

pub safe-full_plan : (value : Data) (batch : List Record) (bodies : List (Option Span)) → IsBatchOf value batch → length batch < 2 ^ 64 → ((i : ℕ) → IfSome (get_or bodies i None) IsFew) → IsSafe 4 (full_plan_value batch bodies)
safe-full_plan value batch bodies is small few = safe-only 3 (codes "requests") _ (safe-array 2 _ (safe-below 2 (length batch) (full_planned batch bodies) (safe-requests value batch bodies is small few)))

-- The canonical value of a batch is written without loss.
use Rattle.std.proofs.Common.{◌≡◌, ℕ, zero, suc, ◌<◌, ◌≤◌, false, length, List, [], ◌∷◌, map, Option, None, Some, option_map, option_and_then, unwrap_or, codes, refl, subst, arith}
use Rattle.std.specs.Prelude.{IfSome}
use Rattle.std.specs.Cmp.Lexicographic.{slice_cmp}
use Rattle.std.specs.List.{AllZip, AllByRecursion}
use Rattle.std.specs.List.Sorted.{IsStrictlySortedBy}
use Rattle.std.specs.Map.{keys_of}
use Rattle.std.specs.Ordering.{nat_cmp}
use Rattle.std.proofs.lemmas.Bool.{or_from}
use Rattle.serde_json.specs.Data.{Data, null, boolean, number, string, array, object, Items, no_items, item, Members, no_members, member, depth, items_depth, members_depth}
use Rattle.serde_json.specs.Find.{get, get_member, as_array}
use Rattle.serde_json.specs.View.{items_of}
use Rattle.serde_json.specs.Written.{items_have_float, members_have_float}
use Rattle.odb_names.specs.Methods.{method_name}
use Rattle.odb_doc.specs.canonical.Canonical.{HasWholeBodies, HasHeldBodies, body_at, names_value, headers_value, request_members, request_value, canonical_value}
use Rattle.odb_doc.specs.canonical.HeldValues.{IsHeld, AreItemsHeld, AreMembersHeld}
use Rattle.odb_doc.specs.batch.Bodies.{body_of}
use Rattle.odb_doc.specs.Members.{elements_at, list_of, given}
use Rattle.odb_doc.specs.batch.Records.{Record, ReadsAs, IsBatchOf}
use Rattle.odb_doc.specs.batch.Shapes.{elements}
use Rattle.odb_doc.proofs.ReadBackLemmas.{by_order}
use Rattle.odb_doc.proofs.SafeLemmas.{IsSafe, AreSafe, safe-put, safe-string, safe-none, safe-with_some, safe-group, safe-headers, safe-body, AreItemsSafe}

-- ---- the value of a request

names-held : (names : List (List ℕ)) → AreItemsHeld (items_of (map string names))
names-held [] = tt
names-held (name ∷ names) = (tt, names-held names)

names-whole : (names : List (List ℕ)) → items_have_float (items_of (map string names)) ≡ false
names-whole [] = refl
names-whole (name ∷ names) = names-whole names

names-shallow : (names : List (List ℕ)) → items_depth (items_of (map string names)) ≤ 0
names-shallow [] = omega arith
names-shallow (name ∷ names) = omega (arith, names-shallow names)

pub safe-names : (n : ℕ) (names : List (List ℕ)) → 1 ≤ n → IfSome (names_value names) (IsSafe n)
safe-names n [] some = tt
safe-names n (name ∷ names) some = record {
  held = names-held (name ∷ names);
  whole = names-whole (name ∷ names);
  shallow = omega (arith, some, names-shallow (name ∷ names));
}

safe-request : (n : ℕ) (r : Record) → 1 ≤ n → IfSome r.body (IsSafe n) → IsStrictlySortedBy (slice_cmp nat_cmp) (keys_of r.headers) → AreSafe n (request_members r)
safe-request n r some body ordered =
    safe-with_some n (codes "atomicityGroup") (option_map string r.group) _ (safe-group n r.group) (
    safe-with_some n (codes "body") r.body _ body (
    safe-with_some n (codes "dependsOn") (names_value r.names) _ (safe-names n r.names some) (
    safe-with_some n (codes "headers") (headers_value r.headers) _ (safe-headers n r.headers some ordered) (
    safe-put n (codes "id") (string r.id) _ (safe-string n r.id) (
    safe-put n (codes "method") (string (method_name r.method)) _ (safe-string n (method_name r.method)) (
    safe-put n (codes "url") (string r.url) no_members (safe-string n r.url) (safe-none n)))))))

-- ---- what holds of a value holds of the bodies in it

module _ (P : ℕ → Data → Type 0)
    (members : (n : ℕ) (k : List ℕ) (ms : Members) → P (suc n) (object ms) → IfSome (get_member k ms) (P n))
    (items : (n : ℕ) (ds : Items) → P (suc n) (array ds) → AllByRecursion (P n) (list_of ds)) where
  at-get : (n : ℕ) (k : List ℕ) (d : Data) → P (suc n) d → IfSome (get k d) (P n)
  at-get n k null holds = tt
  at-get n k (boolean b) holds = tt
  at-get n k (number x) holds = tt
  at-get n k (string s) holds = tt
  at-get n k (array ds) holds = tt
  at-get n k (object ms) holds = members n k ms holds

  at-array : (n : ℕ) (d : Data) → P (suc n) d → IfSome (as_array d) (λ ds. AllByRecursion (P n) (list_of ds))
  at-array n null holds = tt
  at-array n (boolean b) holds = tt
  at-array n (number x) holds = tt
  at-array n (string s) holds = tt
  at-array n (array ds) holds = items n ds holds
  at-array n (object ms) holds = tt

  at-given : (n : ℕ) (o : Option Data) → IfSome o (P n) → IfSome (given o) (P n)
  at-given n None holds = tt
  at-given n (Some null) holds = tt
  at-given n (Some (boolean b)) holds = holds
  at-given n (Some (number x)) holds = holds
  at-given n (Some (string s)) holds = holds
  at-given n (Some (array ds)) holds = holds
  at-given n (Some (object ms)) holds = holds

  at-listed : (n : ℕ) (o : Option Items) → IfSome o (λ ds. AllByRecursion (P n) (list_of ds)) → AllByRecursion (P n) (unwrap_or (option_map list_of o) [])
  at-listed n None holds = tt
  at-listed n (Some ds) holds = holds

  at-elements_of : (n : ℕ) (o : Option Data) → IfSome o (P (suc n)) → AllByRecursion (P n) (unwrap_or (option_map list_of (option_and_then as_array o)) [])
  at-elements_of n None holds = tt
  at-elements_of n (Some d) holds = at-listed n (as_array d) (at-array n d holds)

  at-elements : (n : ℕ) (d : Data) → P (suc (suc n)) d → AllByRecursion (P n) (elements d)
  at-elements n d holds = at-elements_of n (get (codes "requests") d) (at-get (suc n) (codes "requests") d holds)

  at-bodies : (n : ℕ) (ds : List Data) (rs : List Record) → AllZip ReadsAs ds rs → AllByRecursion (P (suc n)) ds → (i : ℕ) → i < length rs → IfSome (body_at rs i) (P n)
  at-bodies n [] [] says holds i within = absurd (omega (arith, within))
  at-bodies n [] (r ∷ rs) says holds i within = absurd says
  at-bodies n (d ∷ ds) [] says holds i within = absurd says
  at-bodies n (d ∷ ds) (r ∷ rs) says holds zero within =
      subst (λ (o : Option Data). IfSome o (P n)) says.0.body (at-given n (get (codes "body") d) (at-get n (codes "body") d holds.0))
  at-bodies n (d ∷ ds) (r ∷ rs) says holds (suc i) within = at-bodies n ds rs says.1 holds.1 i (omega (arith, within))

  at-batch : (n : ℕ) (value : Data) (rs : List Record) → P (suc (suc (suc n))) value → IsBatchOf value rs → (i : ℕ) → i < length rs → IfSome (body_at rs i) (P n)
  at-batch n value rs holds says = at-bodies n (elements value) rs says (at-elements (suc n) value holds)

  pub at-list : (n : ℕ) (name : List ℕ) (d : Data) → P (suc (suc n)) d → AllByRecursion (P n) (elements_at name d)
  at-list n name d holds = at-elements_of n (get name d) (at-get (suc n) name d holds)

  pub at-body : (n : ℕ) (d : Data) → P (suc n) d → IfSome (body_of d) (P n)
  at-body n d holds = at-given n (get (codes "body") d) (at-get n (codes "body") d holds)

abbrev pub Nests : ℕ → Data → Type 0
Nests n d = depth d ≤ n

nests-member : (n : ℕ) (k : List ℕ) (ms : Members) → members_depth ms ≤ n → IfSome (get_member k ms) (Nests n)
nests-member n k no_members shallow = tt
nests-member n k (member l e ms) shallow =
    let rest = nests-member n k ms (omega arith) in
    by_order (λ found. IfSome found (Nests n)) (slice_cmp nat_cmp k l) (get_member k ms) (Some e) (get_member k ms) rest (omega arith) rest

nests-list : (n : ℕ) (ds : Items) → items_depth ds ≤ n → AllByRecursion (Nests n) (list_of ds)
nests-list n no_items shallow = tt
nests-list n (item d ds) shallow = (omega arith, nests-list n ds (omega arith))

pub nests-list_at : (n : ℕ) (name : List ℕ) (d : Data) → depth d ≤ suc (suc n) → AllByRecursion (Nests n) (elements_at name d)
nests-list_at = at-list Nests (λ n k ms shallow. nests-member n k ms (omega (arith, shallow))) (λ n ds shallow. nests-list n ds (omega (arith, shallow)))

pub nests-body : (n : ℕ) (d : Data) → depth d ≤ suc n → IfSome (body_of d) (Nests n)
nests-body = at-body Nests (λ n k ms shallow. nests-member n k ms (omega (arith, shallow))) (λ n ds shallow. nests-list n ds (omega (arith, shallow)))

nests-bodies : (value : Data) (rs : List Record) → depth value ≤ 127 → IsBatchOf value rs → (i : ℕ) → i < length rs → IfSome (body_at rs i) (Nests 124)
nests-bodies = at-batch Nests (λ n k ms shallow. nests-member n k ms (omega (arith, shallow))) (λ n ds shallow. nests-list n ds (omega (arith, shallow))) 124

abbrev Holds : ℕ → Data → Type 0
Holds n d = IsHeld d

held-member : (k : List ℕ) (ms : Members) → AreMembersHeld ms → IfSome (get_member k ms) IsHeld
held-member k no_members held = tt
held-member k (member l e ms) held =
    let rest = held-member k ms held.1 in
    by_order (λ found. IfSome found IsHeld) (slice_cmp nat_cmp k l) (get_member k ms) (Some e) (get_member k ms) rest held.0 rest

held-list : (ds : Items) → AreItemsHeld ds → AllByRecursion IsHeld (list_of ds)
held-list no_items held = tt
held-list (item d ds) held = (held.0, held-list ds held.1)

pub held-bodies : (value : Data) (rs : List Record) → IsHeld value → IsBatchOf value rs → HasHeldBodies rs
held-bodies = at-batch Holds (λ n k ms held. held-member k ms held.1) (λ n ds held. held-list ds held) 0

pub held-list_at : (name : List ℕ) (d : Data) → IsHeld d → AllByRecursion IsHeld (elements_at name d)
held-list_at = at-list Holds (λ n k ms held. held-member k ms held.1) (λ n ds held. held-list ds held) 0

pub held-body : (d : Data) → IsHeld d → IfSome (body_of d) IsHeld
held-body = at-body Holds (λ n k ms held. held-member k ms held.1) (λ n ds held. held-list ds held) 0

-- ---- the whole

safe-requests : (n : ℕ) (ds : List Data) (rs : List Record) → 1 ≤ n → AllZip ReadsAs ds rs → ((i : ℕ) → i < length rs → IfSome (body_at rs i) (IsSafe n)) → AreItemsSafe (suc n) (items_of (map request_value rs))
safe-requests n [] [] some says bodies = record { held = tt; whole = refl; shallow = omega arith }
safe-requests n [] (r ∷ rs) some says bodies = absurd says
safe-requests n (d ∷ ds) [] some says bodies = absurd says
safe-requests n (d ∷ ds) (r ∷ rs) some says bodies =
    let first = safe-request n r some (bodies 0 (omega arith)) says.0.headers.ordered in
    let rest = safe-requests n ds rs some says.1 (λ i within. bodies (suc i) (omega (arith, within))) in
    record {
      held = ((first.ordered, first.held), rest.held);
      whole = or_from (members_have_float (request_members r)) _ first.whole rest.whole;
      shallow = omega (arith, first.shallow, rest.shallow);
    }

-- the canonical value of a batch of a value that nests so deep is written without loss
pub canonical-safe : (value : Data) (rs : List Record) → depth value ≤ 127 → IsBatchOf value rs → HasHeldBodies rs → HasWholeBodies rs → IsSafe 127 (canonical_value rs)
canonical-safe value rs shallow says held whole =
    let bodies = λ (i : ℕ) (within : i < length rs). safe-body 124 (body_at rs i) (held i within) (whole i within) (nests-bodies value rs shallow says i within) in
    let items = safe-requests 124 (elements value) rs (omega arith) says bodies in
    record {
      held = ((tt, tt), (items.held, tt));
      whole = or_from (items_have_float (items_of (map request_value rs))) false items.whole refl;
      shallow = omega (arith, items.shallow);
    }

-- Values that are written without loss, and objects made of them.
use Rattle.std.proofs.Common.{◌≡◌, ℕ, ◌≤◌, false, List, [], ◌∷◌, Option, None, Some, option_map, IfSome, Less, refl, arith}
use Rattle.std.specs.List.{AllByRecursion}
use Rattle.std.specs.List.Sorted.{IsStrictlySortedBy}
use Rattle.std.specs.Map.{keys_of}
use Rattle.std.specs.Cmp.Lexicographic.{slice_cmp}
use Rattle.std.specs.Ordering.{nat_cmp}
use Rattle.std.proofs.lemmas.Bool.{or_from, or_parts}
use Rattle.serde_json.specs.Data.{Data, string, Items, Members, no_members, member, put, depth, items_depth, members_depth}
use Rattle.serde_json.specs.Written.{has_float, items_have_float, members_have_float}
use Rattle.odb_doc.specs.canonical.Canonical.{header_members, headers_value, with_some}
use Rattle.odb_doc.specs.Headers.{Header}
use Rattle.odb_doc.specs.canonical.HeldValues.{AreOrdered, IsBelow, IsHeld, AreItemsHeld, AreMembersHeld}
use Rattle.odb_doc.specs.WholeNumbers.{IsWhole}
use Rattle.odb_doc.proofs.ReadBackLemmas.{by_order, ordered-put, held-put}

-- the value can be held, each number in it is whole, and it nests at most so deep
pub record IsSafe (n : ℕ) (d : Data) : Type 0 where
  pub held : IsHeld d
  pub whole : has_float d ≡ false
  pub shallow : depth d ≤ n

-- the same of the values of members, whose names are in order
pub record AreSafe (n : ℕ) (ms : Members) : Type 0 where
  pub ordered : AreOrdered ms
  pub held : AreMembersHeld ms
  pub whole : members_have_float ms ≡ false
  pub shallow : members_depth ms ≤ n

whole-put : (k : List ℕ) (d : Data) (ms : Members) → has_float d ≡ false → members_have_float ms ≡ false → members_have_float (put k d ms) ≡ false
whole-put k d no_members new rest = or_from (has_float d) false new refl
whole-put k d (member l e ms) new rest =
    let parts = or_parts (has_float e) (members_have_float ms) rest in
    by_order (λ all. members_have_float all ≡ false) (slice_cmp nat_cmp k l) _ _ _
    (or_from (has_float d) _ new rest) (or_from (has_float d) _ new parts.1) (or_from (has_float e) _ parts.0 (whole-put k d ms new parts.1))

shallow-put : (n : ℕ) (k : List ℕ) (d : Data) (ms : Members) → depth d ≤ n → members_depth ms ≤ n → members_depth (put k d ms) ≤ n
shallow-put n k d no_members new rest = omega arith
shallow-put n k d (member l e ms) new rest =
    by_order (λ all. members_depth all ≤ n) (slice_cmp nat_cmp k l) _ _ _ (omega arith) (omega arith) (omega (arith, shallow-put n k d ms new (omega arith)))

pub safe-put : (n : ℕ) (k : List ℕ) (d : Data) (ms : Members) → IsSafe n d → AreSafe n ms → AreSafe n (put k d ms)
safe-put n k d ms new rest = record {
  ordered = ordered-put k d ms rest.ordered;
  held = held-put k d ms new.held rest.held;
  whole = whole-put k d ms new.whole rest.whole;
  shallow = shallow-put n k d ms new.shallow rest.shallow;
}

pub safe-string : (n : ℕ) (s : List ℕ) → IsSafe n (string s)
safe-string n s = record { held = tt; whole = refl; shallow = omega arith }

pub safe-none : (n : ℕ) → AreSafe n no_members
safe-none n = record { ordered = tt; held = tt; whole = refl; shallow = omega arith }

pub safe-with_some : (n : ℕ) (k : List ℕ) (o : Option Data) (ms : Members) → IfSome o (IsSafe n) → AreSafe n ms → AreSafe n (with_some k o ms)
safe-with_some n k None ms new rest = rest
safe-with_some n k (Some d) ms new rest = safe-put n k d ms new rest

pub safe-group : (n : ℕ) (group : Option (List ℕ)) → IfSome (option_map string group) (IsSafe n)
safe-group n None = tt
safe-group n (Some group) = safe-string n group

headers-below : (name : List ℕ) (headers : List Header) → AllByRecursion (λ other. slice_cmp nat_cmp name other ≡ Less) (keys_of headers) → IsBelow name (header_members headers)
headers-below name [] below = tt
headers-below name (header ∷ headers) below = (below.0, headers-below name headers below.1)

headers-ordered : (headers : List Header) → IsStrictlySortedBy (slice_cmp nat_cmp) (keys_of headers) → AreOrdered (header_members headers)
unfolding IsStrictlySortedBy
headers-ordered [] ordered = tt
headers-ordered (header ∷ headers) ordered = (headers-below header.0 headers ordered.0, headers-ordered headers ordered.1)

headers-held : (headers : List Header) → AreMembersHeld (header_members headers)
headers-held [] = tt
headers-held (header ∷ headers) = (tt, headers-held headers)

headers-whole : (headers : List Header) → members_have_float (header_members headers) ≡ false
headers-whole [] = refl
headers-whole (header ∷ headers) = headers-whole headers

headers-shallow : (headers : List Header) → members_depth (header_members headers) ≤ 0
headers-shallow [] = omega arith
headers-shallow (header ∷ headers) = omega (arith, headers-shallow headers)

pub safe-headers : (n : ℕ) (headers : List Header) → 1 ≤ n → IsStrictlySortedBy (slice_cmp nat_cmp) (keys_of headers) → IfSome (headers_value headers) (IsSafe n)
safe-headers n [] some ordered = tt
safe-headers n (header ∷ headers) some ordered = record {
  held = (headers-ordered (header ∷ headers) ordered, headers-held (header ∷ headers));
  whole = headers-whole (header ∷ headers);
  shallow = omega (arith, some, headers-shallow (header ∷ headers));
}

pub safe-body : (n : ℕ) (o : Option Data) → IfSome o IsHeld → IfSome o IsWhole → IfSome o (λ d. depth d ≤ n) → IfSome o (IsSafe n)
safe-body n None held whole shallow = tt
safe-body n (Some d) held whole shallow = record { held = held; whole = whole; shallow = shallow }

-- the same of items
pub record AreItemsSafe (n : ℕ) (ds : Items) : Type 0 where
  pub held : AreItemsHeld ds
  pub whole : items_have_float ds ≡ false
  pub shallow : items_depth ds ≤ n

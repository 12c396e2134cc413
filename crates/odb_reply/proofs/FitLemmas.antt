-- The responses fit if and only if no rule is broken, and a fault of the last phase is the least if none comes before it.
use Rattle.std.proofs.Common.{◌≡◌, ◌≢◌, ◌⊎◌, ◌<◌, ◌≤◌, ℕ, zero, suc, Bool, true, false, List, [], ◌∷◌, length, Option, Some, None, IsSome, option_map, slice_get, bytes_eq, inl, inr, refl, ap, arith}
use Rattle.std.proofs.lemmas.Bool.{cases_lt, cases_order, both_ways, false≢true}
use Rattle.std.proofs.lemmas.Slice.Eq.{bytes_eq-Decides}
use Rattle.odb_doc.proofs.OneLeast.{by_phase}
use Rattle.odb_doc.specs.batch.Records.{Record}
use Rattle.odb_check.specs.declared.need.Need.{Need}
use Rattle.odb_check.specs.declared.need.Need.TheVariants.{One, Group}
use Rattle.odb_check.specs.Positions.{id_at, group_at}
use Rattle.odb_doc.specs.Statuses.{is_success}
use Rattle.odb_reply.specs.declared.match_fault.MatchRule.TheVariants.{UnknownResponse, ResponseTwice, ResponseMissing, GroupDiffers, UnsoundSuccess}
use Rattle.odb_reply.specs.MatchFaults.{MatchFault, Breaks, HasFailed, match_row, number}
use Rattle.odb_doc.specs.declared.rule_fault.RuleFault.TheVariants as faults
use Rattle.odb_reply.specs.ResponseDocuments.{Entry}
use Rattle.odb_reply.specs.Fits.{id_in, IsOnlyOne, IsSatisfied, Fits}
use Rattle.odb_reply.specs.LeastMatchFault.{phase, HasNoMisfit, RefusesMatch}
use Rattle.odb_reply.specs.Places.{HasAllPlaces, IsFirstOfLast, NoneIn}
use Rattle.odb_check.proofs.PositionLemmas.{id_within}
use Rattle.odb_reply.proofs.PlaceLemmas.{some_phase}
use Rattle.odb_reply.proofs.SliceLemmas.{some_and}

same_texts : (a b : List ℕ) → (a ≡ b) ⊎ (a ≢ b)
same_texts a b = at_answer (bytes_eq a b) refl
  where
    at_answer : (answer : Bool) → bytes_eq a b ≡ answer → (a ≡ b) ⊎ (a ≢ b)
    at_answer true is = inl ((bytes_eq-Decides a b).0 is)
    at_answer false is = inr (λ same. both_ways (bytes_eq a b) is ((bytes_eq-Decides a b).1 same))

-- a group is the other, or it is not
same_groups : (a b : Option (List ℕ)) → (a ≡ b) ⊎ (a ≢ b)
same_groups None None = inl refl
same_groups None (Some b) = inr (λ same. absurd (cc (same)))
same_groups (Some a) None = inr (λ same. absurd (cc (same)))
same_groups (Some a) (Some b) = elim (same_texts a b) [
  | inl same ↦ inl (ap Some same)
  | inr apart ↦ inr (λ same. apart (cc (same)))
]

-- some element has the id, or none has
find_id : {X : Type 0} (name : X → List ℕ) (xs : List X) (id : List ℕ) → ((k : ℕ) × (option_map name (slice_get xs k) ≡ Some id)) ⊎ ((k : ℕ) → ¬ (option_map name (slice_get xs k) ≡ Some id))
find_id name [] id = inr (λ k is. absurd (cc (is)))
find_id {X = X} name (x ∷ xs) id = elim (same_texts (name x) id) [
  | inl same ↦ inl (0, ap Some same)
  | inr apart ↦ elim (find_id name xs id) [
    | inl later ↦ inl (suc later.0, later.1)
    | inr none ↦ inr (not_here apart none)
  ]
]
  where
    not_here : name x ≢ id → ((k : ℕ) → ¬ (option_map name (slice_get xs k) ≡ Some id)) → (k : ℕ) → ¬ (option_map name (slice_get (x ∷ xs) k) ≡ Some id)
    not_here apart none zero is = apart (cc (is))
    not_here apart none (suc k) is = none k is

-- ---- if no rule is broken, the responses fit

only_one : (rs : List Record) (es : List Entry) (id : List ℕ) (k : ℕ) → HasNoMisfit rs es → id_in es k ≡ Some id → IsOnlyOne es id k
only_one rs es id k none has = record {
  has = has;
  only = λ j also. elim (cases_order j k) [
    | inl same ↦ same
    | inr (inl before) ↦ absurd (none ResponseTwice k (rw has (j, before, also)))
    | inr (inr after) ↦ absurd (none ResponseTwice j (rw also (k, after, has)))
  ];
}

succeeds_or_fails : (rs : List Record) (es : List Entry) (r : ℕ) (e : Entry) → ((failed : ¬ (is_success e.status ≡ true)) → ⊥) → is_success e.status ≡ true
succeeds_or_fails rs es r e never = at_answer (is_success e.status) refl
  where
    at_answer : (answer : Bool) → is_success e.status ≡ answer → is_success e.status ≡ true
    at_answer true is = is
    at_answer false is = absurd (never (λ passes. both_ways (is_success e.status) is passes))

satisfied_or_failed : (rs : List Record) (es : List Entry) (need : Need) → ¬ HasFailed rs es need → IsSatisfied rs es need
satisfied_or_failed rs es (One r) never = λ e responds. succeeds_or_fails rs es r e (λ failed. never (e, responds, failed))
satisfied_or_failed rs es (Group u) never = λ r unit e responds. succeeds_or_fails rs es r e (λ failed. never (r, unit, (e, responds, failed)))

pub Fits-from : (rs : List Record) (es : List Entry) → HasNoMisfit rs es → Fits rs es
Fits-from rs es none = record {
  one = λ i id is. elim (find_id (λ (e : Entry). e.id) es id) [
    | inl found ↦ (found.0, only_one rs es id found.0 none found.1)
    | inr missing ↦ absurd (none ResponseMissing i (rw is missing))
  ];
  known = λ k id has. elim (find_id (λ (r : Record). r.id) rs id) [
    | inl known ↦ known
    | inr unknown ↦ absurd (none UnknownResponse k (rw has (λ known. unknown known.0 known.1)))
  ];
  groups = λ i e responds. elim (same_groups e.group (group_at rs i)) [
    | inl same ↦ same
    | inr differs ↦ absurd (none GroupDiffers i (record { response = e; responds = responds; differs = differs }))
  ];
  rests_on_successes = λ i e need responds success needed.
      satisfied_or_failed rs es need (λ failing. none UnsoundSuccess i (record { response = e; responds = responds; success = success; need = need; needed = needed; fails = failing }));
}

-- ---- if they fit, none is broken

satisfied_not_failed : (rs : List Record) (es : List Entry) (need : Need) → IsSatisfied rs es need → ¬ HasFailed rs es need
satisfied_not_failed rs es (One r) satisfied failing = failing.2 (satisfied failing.0 failing.1)
satisfied_not_failed rs es (Group u) satisfied failing = let failed = failing.2 in failed.2 (satisfied failing.0 failing.1 failed.0 failed.1)

pub HasNoMisfit-Fits : (rs : List Record) (es : List Entry) → Fits rs es → HasNoMisfit rs es
HasNoMisfit-Fits rs es fits UnknownResponse k broken = let (id, has, unknown) = some_and (id_in es k) _ broken in unknown (fits.known k id has)
HasNoMisfit-Fits rs es fits ResponseTwice k broken =
    let (id, has, twice) = some_and (id_in es k) _ broken in
    let known = fits.known k id has in
    let one = fits.one known.0 id known.1 in
    let first : twice.0 ≡ one.0 = one.1.only twice.0 twice.2 in
    let second : k ≡ one.0 = one.1.only k has in
    omega (arith, twice.1, first, second)
HasNoMisfit-Fits rs es fits ResponseMissing i broken = let (id, at, missing) = some_and (id_at rs i) _ broken in let one = fits.one i id at in missing one.0 one.1.has
HasNoMisfit-Fits rs es fits GroupDiffers i broken = broken.differs (fits.groups i broken.response broken.responds)
HasNoMisfit-Fits rs es fits UnsoundSuccess i broken =
    satisfied_not_failed rs es broken.need (fits.rests_on_successes i broken.response broken.need broken.responds broken.success broken.needed) broken.fails

-- if a fault is reported, the responses do not fit
pub no_fit : (rs : List Record) (es : List Entry) (fault : MatchFault) → IsSome (match_row fault) → RefusesMatch fault rs es → ¬ Fits rs es
no_fit rs es (faults.Broken at_place rule) numbered refused fits = HasNoMisfit-Fits rs es fits rule at_place refused.first.here.broken.1
no_fit rs es faults.OutOfMemory numbered refused fits = false≢true numbered

-- ---- the last phase

last_past : (rs : List Record) (es : List Entry) (i : ℕ) → length rs ≤ i → NoneIn 3 rs es i
last_past rs es i past GroupDiffers (of_phase, broken) = omega (arith, past, id_within rs i broken.response.id broken.responds.id)
last_past rs es i past UnsoundSuccess (of_phase, broken) = omega (arith, past, id_within rs i broken.response.id broken.responds.id)
last_past rs es i past rule (of_phase, broken) = omega (arith, of_phase)

pub HasNoMisfit-from : (rs : List Record) (es : List Entry) → HasAllPlaces rs es → ((i : ℕ) → i < length rs → NoneIn 3 rs es i) → HasNoMisfit rs es
HasNoMisfit-from rs es before last rule i broken = elim (cases_lt (phase rule) 3) [
  | inl early ↦ before (phase rule) early rule i (refl, broken)
  | inr late ↦
      let third : phase rule ≡ 3 = grind (arith, some_phase rule, late) in
      elim (cases_lt i (length rs)) [ inl within ↦ last i within rule (third, broken) | inr past ↦ last_past rs es i past rule (third, broken) ]
]

pub RefusesMatch-last : (rs : List Record) (es : List Entry) (fault : MatchFault) → HasAllPlaces rs es → IsFirstOfLast rs es fault → RefusesMatch fault rs es
RefusesMatch-last rs es (faults.Broken at_place rule) before first = by_phase phase number (Breaks rs es) 3 at_place rule before first
RefusesMatch-last rs es faults.OutOfMemory before first = tt

-- The places of the responses to requests, while they are noted.
use Rattle.std.proofs.Common.{◌≡◌, ◌≢◌, ◌∙◌, ◌⊎◌, ◌+◌, ◌<◌, ◌≤◌, ℕ, List, length, replicate, Some, None, slice_get, inl, inr, refl, ap, sym, subst, arith, rules}
use Rattle.std.proofs.lemmas.Bool.{cases_eq}
use Rattle.std.proofs.lemmas.List.{length-set, length-replicate}
use Rattle.std.proofs.lemmas.Option.{slice_get_within}
use Rattle.odb_doc.proofs.OneLeast.{by_phase}
use Rattle.odb_doc.specs.batch.Records.{Record}
use Rattle.odb_check.specs.Positions.{id_at}
use Rattle.odb_reply.specs.declared.match_fault.MatchRule.{MatchRule}
use Rattle.odb_reply.specs.declared.match_fault.MatchRule.TheVariants.{UnknownResponse, ResponseTwice, ResponseMissing, GroupDiffers, UnsoundSuccess}
use Rattle.odb_doc.specs.declared.rule_fault.RuleFault.TheVariants as faults
use Rattle.odb_reply.specs.ResponseDocuments.{Entry}
use Rattle.odb_reply.specs.Fits.{id_in}
use Rattle.odb_reply.specs.LeastMatchFault.{phase, RefusesMatch}
use Rattle.odb_reply.specs.MatchFaults.{Breaks, number}
use Rattle.odb_reply.specs.Places.{Places, AreNoted, IsOnce, IsNoted, IsNotedAt, IsMisplaced, NoneIn}
use Rattle.odb_reply.proofs.SliceLemmas.{slice_get-set_same, slice_get-set_other, slice_get-replicate, map_some, some_and}

pub AreNoted-none : (rs : List Record) (es : List Entry) → AreNoted rs es 0 (replicate (length rs) None)
AreNoted-none rs es = record {
  count = length-replicate (length rs) None;
  noted = λ i k is. absurd (cc (slice_get-replicate (length rs) i None (Some k) is));
  each = λ k id less has. absurd (omega arith);
}

pub length-noted : (rs : List Record) (id : List ℕ) (n : ℕ) (found new : Places) → IsNoted rs id n found new → length new ≡ length found
length-noted rs id n found new noted = ap length noted.noted ∙ length-set found noted.position (Some n)

-- one response more
pub AreNoted-more : (rs : List Record) (es : List Entry) (n : ℕ) (id : List ℕ) (found new : Places) → AreNoted rs es n found → id_in es n ≡ Some id → IsNoted rs id n found new → AreNoted rs es (n + 1) new
AreNoted-more rs es n id found new before has noted = record {
  count = length-noted rs id n found new noted ∙ before.count;
  noted = more_noted;
  each = more_each;
}
  where
    i : ℕ
    i = noted.position

    within : i < length found
    within = slice_get_within found i None noted.free

    here : slice_get new i ≡ Some (Some n)
    here = ap (λ xs. slice_get xs i) noted.noted ∙ slice_get-set_same found i (Some n) within

    other : (j : ℕ) → j ≢ i → slice_get new j ≡ slice_get found j
    other j apart = ap (λ xs. slice_get xs j) noted.noted ∙ slice_get-set_other found i j (Some n) apart

    more_noted : (j k : ℕ) → slice_get new j ≡ Some (Some k) → (k < n + 1) × IsNotedAt rs es j k
    more_noted j k is = elim (cases_eq j i) [
      | inl same ↦
          let last : n ≡ k = cc (here, is) in
          (omega arith, record { id = id; has = subst (λ (m : ℕ). id_in es m ≡ Some id) last has; is = rw same noted.is })
      | inr apart ↦ let old = before.noted j k (sym (other j apart) ∙ is) in (omega (arith, old.0), old.1)
    ]

    more_each : (k : ℕ) (name : List ℕ) → k < n + 1 → id_in es k ≡ Some name → (j : ℕ) × (id_at rs j ≡ Some name) × (slice_get new j ≡ Some (Some k))
    more_each k name less named = elim (cases_eq k n) [
      | inl last ↦
          let same : id ≡ name = cc (has, named, ap (id_in es) last) in
          (i, subst (λ (t : List ℕ). id_at rs i ≡ Some t) same noted.is, rw last here)
      | inr early ↦
          let old = before.each k name (omega arith) named in
          let apart : old.0 ≢ i = λ same. absurd (cc (old.2, noted.free, ap (slice_get found) same)) in
          (old.0, old.1, other old.0 apart ∙ old.2)
    ]

-- a response that is noted is neither unknown nor repeated
none_noted : (rs : List Record) (es : List Entry) (n : ℕ) (found : Places) → IsOnce rs → AreNoted rs es n found → (k : ℕ) → ((id : List ℕ) → id_in es k ≡ Some id → k < n) → NoneIn 1 rs es k
none_noted rs es n found once noted k within UnknownResponse (of_phase, broken) =
    let (id, has, unknown) = some_and (id_in es k) _ broken in
    let here = noted.each k id (within id has) has in
    unknown (here.0, here.1)
none_noted rs es n found once noted k within ResponseTwice (of_phase, broken) =
    let (id, has, twice) = some_and (id_in es k) _ broken in
    let inside : k < n = within id has in
    let here = noted.each k id inside has in
    let there = noted.each twice.0 id (omega (arith, twice.1)) twice.2 in
    let position : here.0 ≡ there.0 = once here.0 there.0 id here.1 there.1 in
    let same : k ≡ twice.0 = cc (here.2, there.2, ap (slice_get found) position) in
    omega (arith, twice.1)
none_noted rs es n found once noted k within rule (of_phase, broken) = omega (arith, of_phase)

-- once all are noted, no response is unknown or repeated
pub none_of_responses : (rs : List Record) (es : List Entry) (found : Places) → IsOnce rs → AreNoted rs es (length es) found → (k : ℕ) → NoneIn 1 rs es k
none_of_responses rs es found once noted k =
    none_noted rs es (length es) found once noted k (λ id has. let e = map_some (λ (e : Entry). e.id) (slice_get es k) id has in slice_get_within es k e.0 e.1)

-- a response that cannot be noted breaks the rule, and none with a smaller number
misplaced_breaks : (rs : List Record) (es : List Entry) (n : ℕ) (id : List ℕ) (found : Places) (rule : MatchRule) → AreNoted rs es n found → id_in es n ≡ Some id → IsMisplaced rs id found rule
    → (phase rule ≡ 1) × Breaks rs es rule n
misplaced_breaks rs es n id found UnknownResponse noted has misplaced = (refl, rw has misplaced)
misplaced_breaks rs es n id found ResponseTwice noted has misplaced =
    let before = noted.noted misplaced.position misplaced.other misplaced.taken in
    let same : before.1.id ≡ id = cc (before.1.is, misplaced.is) in
    (refl, rw has (misplaced.other, before.0, before.1.has ∙ ap Some same))
misplaced_breaks rs es n id found rule noted has misplaced = absurd misplaced

number_71 : (rule : MatchRule) → 71 ≤ number rule
number_71 UnknownResponse = omega arith
number_71 rule = omega arith

misplaced_first : (rs : List Record) (es : List Entry) (n : ℕ) (id : List ℕ) (found : Places) (rule other : MatchRule) → id_in es n ≡ Some id → IsMisplaced rs id found rule
    → number other < number rule → phase other ≡ 1 → ¬ Breaks rs es other n
misplaced_first rs es n id found UnknownResponse other has misplaced less of_phase broken = omega (arith, less, number_71 other)
misplaced_first rs es n id found ResponseTwice UnknownResponse has misplaced less of_phase broken =
    let (name, named, unknown) = some_and (id_in es n) _ broken in
    let same : id ≡ name = cc (has, named) in
    unknown (misplaced.position, misplaced.is ∙ ap Some same)
misplaced_first rs es n id found ResponseTwice other has misplaced less of_phase broken = omega (arith, less, of_phase)
misplaced_first rs es n id found ResponseMissing other has misplaced less of_phase broken = misplaced
misplaced_first rs es n id found GroupDiffers other has misplaced less of_phase broken = misplaced
misplaced_first rs es n id found UnsoundSuccess other has misplaced less of_phase broken = misplaced

-- each rule belongs to one of three phases
pub some_phase : (rule : MatchRule) → (phase rule ≡ 1) ⊎ ((phase rule ≡ 2) ⊎ (phase rule ≡ 3))
some_phase rule = search rules

pub RefusesMatch-misplaced : (rs : List Record) (es : List Entry) (n : ℕ) (id : List ℕ) (found : Places) (rule : MatchRule) → IsOnce rs → AreNoted rs es n found → id_in es n ≡ Some id
    → IsMisplaced rs id found rule → RefusesMatch (faults.Broken n rule) rs es
RefusesMatch-misplaced rs es n id found rule once noted has misplaced = by_phase phase number (Breaks rs es) 1 n rule (λ p less other j broken. grind (arith, some_phase other, less, broken.0)) (record {
  here = record {
    broken = misplaced_breaks rs es n id found rule noted has misplaced;
    least = λ other less broken. misplaced_first rs es n id found rule other has misplaced less broken.0 broken.1;
  };
  before = λ other j less. none_noted rs es n found once noted j (λ _ _. less) other;
})

-- The tests of a phase against each other.
use Rattle.std.proofs.Common.{◌≡◌, ℕ, sym, refl, Bool, true, false, not, List, length, get_or, set, inl, inr, ◌⊎◌, get_or-set_other, get_or-set_same, replicate}
use Rattle.std.proofs.lemmas.Bool.{cases_eq, cases_lt, true≢false, not-true}
use Rattle.std.proofs.lemmas.List.{get_or_past, set_past, get_or-replicate, length-replicate}
use Rattle.odb_doc.specs.declared.recorded.outcome.Outcome.{Outcome}
use Rattle.odb_sched.specs.declared.phase.Phase.{Phase}
use Rattle.odb_sched.specs.declared.phase.Phase.TheVariants.{Unstarted, Running, Reported}
use Rattle.odb_doc.specs.Statuses.{is_success}
use Rattle.odb_sched.specs.run.State.{is_unstarted, is_running, is_reported, has_succeeded, has_failed}

pub is_unstarted-from : (phase : Phase) → is_reported phase ≡ false → is_running phase ≡ false → is_unstarted phase ≡ true
is_unstarted-from Unstarted a b = refl
is_unstarted-from phase a b = cc

pub is_unstarted-reported : (phase : Phase) → is_unstarted phase ≡ true → is_reported phase ≡ false
is_unstarted-reported Unstarted e = refl
is_unstarted-reported phase e = cc

pub has_succeeded-from : (phase : Phase) → is_reported phase ≡ true → has_failed phase ≡ false → has_succeeded phase ≡ true
has_succeeded-from Unstarted a b = absurd (true≢false (sym a))
has_succeeded-from Running a b = absurd (true≢false (sym a))
has_succeeded-from (Reported outcome) a b = at (is_success outcome.status) b
  where
    at : (t : Bool) → not t ≡ false → t ≡ true
    at true e = refl
    at false e = absurd (true≢false e)

pub Unstarted-from : (phase : Phase) → is_unstarted phase ≡ true → phase ≡ Unstarted
Unstarted-from Unstarted e = refl
Unstarted-from phase e = cc

pub Running-from : (phase : Phase) → is_running phase ≡ true → phase ≡ Running
Running-from Running e = refl
Running-from phase e = cc

-- what has succeeded is an outcome with a success
pub Reported-from : (phase : Phase) → has_succeeded phase ≡ true → (outcome : Outcome) × (phase ≡ Reported outcome) × (is_success outcome.status ≡ true)
Reported-from (Reported outcome) e = (outcome, refl, e)
Reported-from phase e = absurd (cc)

-- what has failed is an outcome without success
pub Failed-from : (phase : Phase) → has_failed phase ≡ true → (outcome : Outcome) × (phase ≡ Reported outcome) × (not (is_success outcome.status) ≡ true)
Failed-from (Reported outcome) e = (outcome, refl, e)
Failed-from phase e = absurd (cc)

pub succeeded_idle : (phase : Phase) → has_succeeded phase ≡ true → is_running phase ≡ false
succeeded_idle phase e = rw (Reported-from phase e).1 refl

pub failed_idle : (phase : Phase) → has_failed phase ≡ true → is_running phase ≡ false
failed_idle phase e = rw (Failed-from phase e).1 refl

-- what has reported has started
pub succeeded_begun : (phase : Phase) → has_succeeded phase ≡ true → is_unstarted phase ≡ false
succeeded_begun phase e = rw (Reported-from phase e).1 refl

pub failed_begun : (phase : Phase) → has_failed phase ≡ true → is_unstarted phase ≡ false
failed_begun phase e = rw (Failed-from phase e).1 refl

pub succeeded_not_failed : (phase : Phase) → has_succeeded phase ≡ true → has_failed phase ≡ false
succeeded_not_failed phase e = let (outcome, is, good) = Reported-from phase e in rw (is, good) refl

pub failed_not_succeeded : (phase : Phase) → has_failed phase ≡ true → has_succeeded phase ≡ false
failed_not_succeeded phase e = let (outcome, is, bad) = Failed-from phase e in rw is (not-true _ bad)

-- after a write each place has what was written, or what it had
pub get_or-set_cases : (phases : List Phase) (i j : ℕ) (phase : Phase) → ((j ≡ i) × (get_or (set phases i phase) j Unstarted ≡ phase)) ⊎ (get_or (set phases i phase) j Unstarted ≡ get_or phases j Unstarted)
get_or-set_cases phases i j phase = elim (cases_eq j i) [
  | inl same ↦ elim (cases_lt i (length phases)) [
    | inl within ↦ inl (same, rw same (get_or-set_same phases i phase Unstarted within))
    | inr past ↦ inr (rw (set_past phases i phase past) refl)
  ]
  | inr other ↦ inr (get_or-set_other phases i j phase Unstarted other)
]

-- before any event each place is unstarted, those past the end too
pub get_or-replicate_Unstarted : (n i : ℕ) → get_or (replicate n Unstarted) i Unstarted ≡ Unstarted
get_or-replicate_Unstarted n i = elim (cases_lt i n) [
  | inl within ↦ get_or-replicate n i Unstarted Unstarted within
  | inr past ↦ get_or_past (replicate n Unstarted) i Unstarted (rw (length-replicate n Unstarted) past)
]

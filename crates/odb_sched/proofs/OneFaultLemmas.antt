-- A list of events that is no run has one refusal, and named events have one first that names no request.
use Rattle.std.proofs.Common.{◌≡◌, ◌⊎◌, ◌∙◌, ℕ, zero, suc, ◌<◌, false, List, [], ◌∷◌, ◌++◌, take, length, slice_get, All, IsSomeAnd, inl, inr, refl, sym, ap, subst, arith, rules}
use Rattle.std.proofs.lemmas.Bool.{cases_order, both_ways}
use Rattle.std.proofs.lemmas.List.Elements.{All-head, All-tail}
use Rattle.odb_doc.specs.batch.Records.{Record}
use Rattle.odb_doc.specs.recorded.Events.{EventValue}
use Rattle.odb_sched.specs.declared.event.Event.{Event}
use Rattle.odb_sched.specs.declared.event.Event.TheVariants as event
use Rattle.odb_sched.specs.declared.refusal.RunRefusal.{RunRefusal}
use Rattle.odb_sched.specs.declared.refusal.RunRefusal.TheVariants as refusal
use Rattle.odb_sched.specs.run.Refusals.{ResolveFault}
use Rattle.odb_doc.specs.declared.rule_fault.RuleFault.TheVariants.{Broken, OutOfMemory}
use Rattle.odb_sched.specs.declared.event.ResolveRule.TheVariants.{UnknownEvent}
use Rattle.odb_sched.specs.run.State.{State, after}
use Rattle.odb_sched.specs.run.Steps.{may_come}
use Rattle.odb_sched.specs.run.Runs.{after_all, IsRunFrom, RefusesEvent, StopsAt, Refuses}
use Rattle.odb_sched.specs.run.Refusals as refusals
use Rattle.odb_sched.specs.run.Resolving.{IsKnown, IsFirstUnknown, RefusesNamed}
use Rattle.odb_sched.proofs.CauseLemmas.{one_start, one_report}

-- ---- events that may not come

-- the events before one that may not come, and that event
same_stop : (state : State) (xs ys : List Event) (e f : Event) (later others : List Event) → xs ++ e ∷ later ≡ ys ++ f ∷ others → IsRunFrom state xs → IsRunFrom state ys
    → may_come (after_all state xs) e ≡ false → may_come (after_all state ys) f ≡ false → (xs ≡ ys) × (e ≡ f)
same_stop state [] [] e f later others same run walk barred closed = (refl, (cc))
same_stop state [] (y ∷ ys) e f later others same run walk barred closed =
    let head : e ≡ y = cc in absurd (both_ways _ barred (ap (λ z. may_come state z) head ∙ walk.1))
same_stop state (x ∷ xs) [] e f later others same run walk barred closed =
    let head : f ≡ x = cc in absurd (both_ways _ closed (ap (λ z. may_come state z) head ∙ run.1))
same_stop state (x ∷ xs) (y ∷ ys) e f later others same run walk barred closed =
    let head : x ≡ y = cc in
    let tail : xs ++ e ∷ later ≡ ys ++ f ∷ others = cc in
    let (front, last) = same_stop (after state x) xs ys e f later others tail run.2 (subst (λ z. IsRunFrom (after state z) ys) (sym head) walk.2)
    barred (subst (λ z. may_come (after_all (after state z) ys) f ≡ false) (sym head) closed) in
    (ap (λ z. z ∷ xs) head ∙ ap (λ zs. y ∷ zs) front, last)

one_event : (state : State) (at : ℕ) (e : Event) (a b : RunRefusal) → RefusesEvent state at e a → RefusesEvent state at e b → a ≡ b
one_event state at (event.Start i) (refusal.Start p c) (refusal.Start q d) x y = ap (λ k. refusal.Start k c) (x.0 ∙ sym y.0) ∙ ap (refusal.Start q) (one_start state i c d x.1 y.1)
one_event state at (event.Report i o) (refusal.Report p c) (refusal.Report q d) x y = ap (λ k. refusal.Report k c) (x.0 ∙ sym y.0) ∙ ap (refusal.Report q) (one_report state i o c d x.1 y.1)
one_event state at e a b x y = absurd (search rules)

one_stop : (state : State) (events : List Event) (a b : RunRefusal) → StopsAt state events a → StopsAt state events b → a ≡ b
one_stop state events a b x y =
    let (front, last) = same_stop state x.before y.before x.event y.event x.later y.later (sym x.whole ∙ y.whole) x.run y.run x.barred y.barred in
    one_event (after_all state y.before) (length y.before) y.event a b
    (subst (λ e. RefusesEvent (after_all state y.before) (length y.before) e a) last (subst (λ (xs : List Event). RefusesEvent (after_all state xs) (length xs) x.event a) front x.refused)) y.refused

stops : (state : State) (events : List Event) (cause : RunRefusal) → refusals.IsNumberedRefusal cause → Refuses state events cause → StopsAt state events cause
stops state events refusal.OutOfMemory numbered x = absurd (numbered refl)
stops state events cause numbered x = x

pub one_refusal : (state : State) (events : List Event) (cause other : RunRefusal) → refusals.IsNumberedRefusal cause → refusals.IsNumberedRefusal other → Refuses state events cause → Refuses state events other → cause ≡ other
one_refusal state events cause other numbered also x y = one_stop state events cause other (stops state events cause numbered x) (stops state events other also y)

-- ---- events that name no request

known_before : (batch : List Record) (ns : List EventValue) (a b : ℕ) → a < b → All (IsKnown batch) (take b ns) → IsSomeAnd (slice_get ns a) (λ n. ¬ IsKnown batch n) → ⊥
known_before batch [] zero b less all un = un
known_before batch [] (suc a) b less all un = un
known_before batch (n ∷ ns) a zero less all un = omega (arith, less)
known_before batch (n ∷ ns) zero (suc b) less all un = un (All-head (IsKnown batch) n (take b ns) all)
known_before batch (n ∷ ns) (suc a) (suc b) less all un = known_before batch ns a b (omega (arith, less)) (All-tail (IsKnown batch) n (take b ns) all) un

one_place : (batch : List Record) (ns : List EventValue) (a b : ℕ) → IsFirstUnknown batch ns a → IsFirstUnknown batch ns b → a ≡ b
one_place batch ns a b x y = at (cases_order a b)
  where
    at : (a ≡ b) ⊎ ((a < b) ⊎ (b < a)) → a ≡ b
    at (inl same) = same
    at (inr (inl less)) = absurd (known_before batch ns a b less y.before x.unknown)
    at (inr (inr less)) = absurd (known_before batch ns b a less x.before y.unknown)

pub one_unknown : (batch : List Record) (ns : List EventValue) (fault other : ResolveFault) → refusals.IsNumberedResolve fault → refusals.IsNumberedResolve other → RefusesNamed fault batch ns → RefusesNamed other batch ns → fault ≡ other
one_unknown batch ns (Broken a UnknownEvent) (Broken b UnknownEvent) numbered also x y = ap (λ k. Broken k UnknownEvent) (one_place batch ns a b x y)
one_unknown batch ns (Broken a UnknownEvent) OutOfMemory numbered also x y = absurd (also refl)
one_unknown batch ns OutOfMemory other numbered also x y = absurd (numbered refl)

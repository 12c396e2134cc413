-- A live run after one live event more.
use Rattle.std.proofs.Common.{◌≡◌, ◌∙◌, ◌++◌, ◌↔◌, ap, sym, subst, refl, true, List, [], ◌∷◌, Result, Ok, Err, IsOk, IsTrue, OnOk, OnErr}
use Rattle.odb_doc.specs.batch.Records.{Record}
use Rattle.odb_sched.specs.declared.policy.Policy.{Policy}
use Rattle.odb_sched.specs.run.State.{State}
use Rattle.odb_sched.specs.run.LiveEvents.{LiveEvent, IsKnownTo, IsLiveRun, IsLiveRunFrom, after_live, after_all_live, may_take, live_state}
use Rattle.odb_tests_exec.specs.LiveRuns.{IsLiveState}

abbrev pub GoesOn : List Record → Type 0
GoesOn requests = (policy : Policy) (events more : List LiveEvent) → IsLiveRun requests policy events → IsLiveRunFrom (live_state requests policy events) more
    → IsLiveRun requests policy (events ++ more) × (live_state requests policy (events ++ more) ≡ after_all_live (live_state requests policy events) more)

pub one_more : (requests : List Record) (policy : Policy) (old new : State) (event : LiveEvent) → GoesOn requests → IsLiveState requests policy old → IsKnownTo old event → may_take old event ≡ true → new ≡ after_live old event → IsLiveState requests policy new
one_more requests policy old new event goes_on is known may same =
    let next = goes_on policy is.events (event ∷ []) is.live (subst (λ (s : State). IsLiveRunFrom s (event ∷ [])) is.after (known, may, tt)) in
    record { events = is.events ++ event ∷ []; live = next.0; after = same ∙ ap (λ (s : State). after_live s event) is.after ∙ sym next.1 }

-- after a call that takes the event, or is refused and changes nothing
pub by_result : {E : Type 0} (result : Result (Unit {0}) E) (requests : List Record) (policy : Policy) (old new : State) (event : LiveEvent) → GoesOn requests → IsKnownTo old event
    → IsOk result ↔ IsTrue (may_take old event) → OnOk result (new ≡ after_live old event) → OnErr result (new ≡ old) → IsLiveState requests policy old → IsLiveState requests policy new
by_result (Ok done) requests policy old new event goes_on known allowed ok err is = one_more requests policy old new event goes_on is known (allowed.0 refl) ok
by_result (Err cause) requests policy old new event goes_on known allowed ok err is = subst (IsLiveState requests policy) (sym err) is

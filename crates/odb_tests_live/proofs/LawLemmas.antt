-- The premises of the laws of a live run: recorded events that a reader gives, and one event.
use Rattle.std.proofs.Common.{◌≡◌, ℕ, List, [], ◌∷◌, length, slice_get, Option, Some, None, IfSome, inl, inr, sym}
use Rattle.odb_doc.specs.batch.Records.{Record}
use Rattle.odb_doc.specs.recorded.Events.{EventValue}
use Rattle.odb_doc.specs.recorded.Events as named
use Rattle.odb_check.specs.Laws.{HasPositions}
use Rattle.odb_check.specs.Positions.{id_at}
use Rattle.odb_check.specs.Units.{position_of}
use Rattle.odb_sched.specs.declared.policy.Policy.{Policy}
use Rattle.odb_engine.specs.Cascade.{Answers}
use Rattle.odb_engine.specs.Inputs.{IsDocumentOf}
use Rattle.odb_engine.specs.Runs.{Runs, RunsBatch}
use Rattle.odb_engine.specs.declared.ending.Ended.{Ended}
use Rattle.odb_engine.specs.declared.form.Form.{Form}
use Rattle.odb_engine.proofs.EngineLemmas.{answers-weaker}

-- what a run writes by events in memory is what it writes by a reader that gives just these
pub by-reader : (policy : Policy) (batch events : List ℕ) (form : Form) (ended : Ended) (text : List ℕ) → IsDocumentOf events events → Answers (λ requests. RunsBatch policy requests events) batch form ended text
    → Answers (Runs policy (Some events)) batch form ended text
by-reader policy batch events form ended text gives (inl x) = inl x
by-reader policy batch events form ended text gives (inr x) = inr (record {
  value = x.value;
  document = x.document;
  holds = answers-weaker (λ requests. RunsBatch policy requests events) (Runs policy (Some events)) x.value form ended text (λ requests so. (events, gives, so)) x.holds;
})

-- the one element of a list
pub only : {X : Type 0} (xs : List X) (x : X) → length xs ≡ 1 → slice_get xs 0 ≡ Some x → xs ≡ x ∷ []
only [] x one first = absurd (cc one)
only (y ∷ []) x one first = cc first
only (y ∷ z ∷ zs) x one first = absurd (cc one)

-- the position that is found for the id of the one event
pub starts_one : (rs : List Record) (events : List EventValue) (id : List ℕ) → events ≡ named.Start id ∷ [] → HasPositions rs → (found : Option ℕ) → found ≡ position_of rs id
    → IfSome found (λ i. (id : List ℕ) × (events ≡ named.Start id ∷ []) × (id_at rs i ≡ Some id))
starts_one rs events id one positions None is = tt
starts_one rs events id one positions (Some i) is = (id, one, (positions.found id i).0 (sym is))

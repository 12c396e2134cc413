-- The prefix of a list of named events that is resolved.
use Rattle.std.proofs.Common.{◌≡◌, ℕ, ◌<◌, ◌∙◌, sym, refl, subst, arith, List, [], ◌∷◌, ◌++◌, length, All, append_assoc, append-nil}
use Rattle.std.specs.List.{AllZip}
use Rattle.std.proofs.lemmas.List.Elements.{All-push}
use Rattle.std.proofs.Math.Seq.{take-append_seam}
use Rattle.std.proofs.lemmas.Slice.Zip.{all_zipped_more, AllZip-long}
use Rattle.odb_doc.specs.batch.Records.{Record}
use Rattle.odb_doc.specs.recorded.Events.{EventValue}
use Rattle.odb_doc.specs.recorded.Events as named
use Rattle.odb_sched.specs.declared.event.Event.{Event}
use Rattle.odb_sched.specs.declared.event.Event.TheVariants as at
use Rattle.odb_sched.specs.run.Resolving.{IsKnown, IsResolved, IsFirstUnknown}
use Rattle.odb_sched.specs.run.Runs.{event_position}
use Rattle.odb_doc.proofs.ElementLemmas.{slice_get-seam}

-- the events before the rest are these by their positions
pub record HasResolved (rs : List Record) (events rest : List EventValue) (found : List Event) : Type 0 where
  pub before : List EventValue
  pub whole : events ≡ before ++ rest
  pub known : All (IsKnown rs) before
  pub resolved : AllZip (IsResolved rs) before found
  pub within : All (λ event. event_position event < length rs) found

pub resolved_none : (rs : List Record) (events : List EventValue) → HasResolved rs events events []
resolved_none rs events = record { before = []; whole = refl; known = λ k event less. absurd (omega arith); resolved = tt; within = λ k event less. absurd (omega arith) }

-- an event with a position names a request of the batch
pub known-from : (rs : List Record) (event : EventValue) (found : Event) → IsResolved rs event found → IsKnown rs event
known-from rs (named.Start id) (at.Start i) is = (i, is)
known-from rs (named.Report id outcome) (at.Report i reported) is = (i, is.0)
known-from rs event found is = absurd is

pub resolved_more : (rs : List Record) (events : List EventValue) (event : EventValue) (later : List EventValue) (found : List Event) (next : Event) → HasResolved rs events (event ∷ later) found
    → IsResolved rs event next → event_position next < length rs → HasResolved rs events later (found ++ next ∷ [])
resolved_more rs events event later found next so_far is within = record {
  before = so_far.before ++ event ∷ [];
  whole = so_far.whole ∙ sym (append_assoc so_far.before (event ∷ []) later);
  known = All-push (IsKnown rs) so_far.before event so_far.known (known-from rs event next is);
  resolved = all_zipped_more (IsResolved rs) so_far.before found event next so_far.resolved is;
  within = All-push (λ event. event_position event < length rs) found next so_far.within within;
}

-- all events are resolved
pub resolved_all : (rs : List Record) (events : List EventValue) (found : List Event) → HasResolved rs events [] found
    → All (IsKnown rs) events × AllZip (IsResolved rs) events found × All (λ event. event_position event < length rs) found
resolved_all rs events found so_far =
    let whole : events ≡ so_far.before = so_far.whole ∙ append-nil so_far.before in
    (subst (All (IsKnown rs)) (sym whole) so_far.known, subst (λ (all : List EventValue). AllZip (IsResolved rs) all found) (sym whole) so_far.resolved, so_far.within)

-- the next event names no request, so it is the first that does not
pub unknown_next : (rs : List Record) (events : List EventValue) (event : EventValue) (later : List EventValue) (found : List Event) (place : ℕ) → HasResolved rs events (event ∷ later) found
    → place ≡ length found → ¬ IsKnown rs event → IsFirstUnknown rs events place
unknown_next rs events event later found place so_far is unknown =
    let here : place ≡ length so_far.before = is ∙ AllZip-long (IsResolved rs) so_far.before found so_far.resolved in
    rw (here, so_far.whole) (record {
      unknown = rw (slice_get-seam so_far.before event later) unknown;
      before = rw (take-append_seam so_far.before (event ∷ later)) so_far.known;
    })

-- the same rest, written otherwise
pub resolved_as : (rs : List Record) (events rest other : List EventValue) (found : List Event) → rest ≡ other → HasResolved rs events rest found → HasResolved rs events other found
resolved_as rs events rest other found same so_far = rw (← same) so_far

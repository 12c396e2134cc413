-- The calls of events, as a log of the service has them.
use Rattle.std.proofs.Common.{◌≡◌, ◌∙◌, ap, sym, refl, List, [], ◌∷◌, ◌++◌, map, append-nil, append_assoc}
use Rattle.odb_doc.specs.batch.Records.{Record}
use Rattle.odb_sched.specs.declared.event.Event.{Event}
use Rattle.odb_sched.specs.declared.event.Event.TheVariants.{Start, Report}
use Rattle.odb_exec.specs.Courses.{step_of}
use Rattle.odb_exec.specs.Calls.{Performing, AsksAll, Call, call_at, calls_of, reported_by, Writes}

module _ {S : Type 0} (performs : Performing S) (requests : List Record) where
  -- if each call writes one entry, events write those of their calls
  pub logged : {X : Type 0} (log : S → List X) (entry : Call → X) → Writes performs log entry
      → (events : List Event) (old new : S) → AsksAll performs requests events old new → log new ≡ log old ++ map entry (calls_of requests events)
  logged log entry writes [] old new asked = ap log asked ∙ sym (append-nil _)
  logged log entry writes (Start i ∷ es) old new (next, same, rest) =
      logged log entry writes es next new rest ∙ ap (λ s. log s ++ map entry (calls_of requests es)) same
  logged log entry writes (Report i outcome ∷ es) old new (next, (request, here, did), rest) =
      logged log entry writes es next new rest
      ∙ ap (λ xs. xs ++ map entry (calls_of requests es)) (writes old next i request outcome did)
      ∙ append_assoc (log old) (entry (i, request, outcome) ∷ []) (map entry (calls_of requests es))
      ∙ ap (λ found. log old ++ map entry (call_at found i outcome ++ calls_of requests es)) (sym here)

  -- the calls are for the requests that are reported
  pub called : (events : List Event) (old new : S) → AsksAll performs requests events old new → map (λ call. call.0) (calls_of requests events) ≡ reported_by (map step_of events)
  called [] old new asked = refl
  called (Start i ∷ es) old new (next, same, rest) = called es next new rest
  called (Report i outcome ∷ es) old new (next, (request, here, did), rest) =
      ap (λ found. map (λ call. call.0) (call_at found i outcome ++ calls_of requests es)) here ∙ ap (λ positions. i ∷ positions) (called es next new rest)

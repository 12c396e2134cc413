-- Steps that are made for what is tried with answers, and the calls that they are.
use Rattle.std.proofs.Common.{◌≡◌, ◌∙◌, ◌⊎◌, ◌+◌, ◌<◌, ℕ, Bool, true, false, List, [], ◌∷◌, ◌++◌, Option, Some, slice_get, get_or, length, Result, Ok, Err, OnOk, refl, sym, subst, arith, add-one, append_assoc}
use Rattle.std.proofs.lemmas.List.{append-nil}
use Rattle.std.proofs.lemmas.List.Elements.{Contains-get_or}
use Rattle.std.proofs.lemmas.Option.{slice_get-get_or}
use Rattle.std.proofs.lemmas.Slice.Zip.{all_zipped_more}
use Rattle.odb_check.specs.Firsts.{joined_below}
use Rattle.odb_doc.specs.Refusals.{Printed, printed}
use Rattle.odb_doc.specs.declared.refusal.Refusal.{Refusal}
use Rattle.odb_doc.specs.declared.recorded.outcome.Outcome.{Outcome}
use Rattle.odb_engine.specs.declared.halt.Halt.{Halt}
use Rattle.odb_engine.specs.declared.halt.Halt.TheVariants as halts
use Rattle.odb_live.specs.declared.run.LiveRun.{LiveRun}
use Rattle.odb_live.specs.declared.run.replies.Reply.{Reply}
use Rattle.odb_engine.specs.Halts.{Halted}
use Rattle.odb_engine.proofs.EngineLemmas.{Halted-weaker}
use Rattle.odb_calls.specs.Follows.{FollowsAll, Tries}
use Rattle.odb_calls.specs.Live.Reports.{Taken as ReportTaken, NoRequest as ReportUnknown}
use Rattle.odb_calls.specs.Live.Takes.{Taken as OutcomeTaken, Refused as OutcomeRefused}
use Rattle.odb_calls.specs.Live.TakesAt.{Tried, NoRequest}
use Rattle.odb_calls.specs.Live.TakesBody.{Taken as BodyTaken}
use Rattle.odb_calls.specs.Live as calls
use Rattle.odb_calls.specs.Sessions.{Call, Does, IsSession}
use Rattle.odb_calls.specs.Sessions as session
use Rattle.odb_calls.specs.Refused.{RefusesBody, RefusesHeaders}
use Rattle.odb_calls.specs.Steps.{Adds, AreSteps, Attempt, IsBadResponse, IsStep, RefusesOne, RefusesReply, attempts_at, attempts_with, bytes_at, if_wanted, reports, starts_alone, starts_unit, undone_at}
use Rattle.odb_calls.specs.Steps as steps
use Rattle.odb_calls.specs.Takes.{Follows, IsTried}
use Rattle.odb_calls.specs.declared.steps.Pass.{Pass}
use Rattle.odb_calls.specs.declared.steps.Step.{Step}
use Rattle.odb_calls.specs.declared.steps.Step.TheVariants as made

-- ---- steps that are added

pub adds-none : (document : List ℕ) (old : List Step) → Adds document [] old old
adds-none document old tried are = subst (λ (l : List Attempt). AreSteps document l old) (sym (append-nil tried)) are

pub adds-both : (document : List ℕ) (first second : List Attempt) (old mid new : List Step) → Adds document first old mid → Adds document second mid new → Adds document (first ++ second) old new
adds-both document first second old mid new one two tried are = subst (λ (l : List Attempt). AreSteps document l new) (append_assoc tried first second) (two (tried ++ first) (one tried are))

pub adds-one : (document : List ℕ) (attempt : Attempt) (step : Step) (old new : List Step) → IsStep document attempt step → new ≡ old ++ step ∷ [] → Adds document (attempt ∷ []) old new
adds-one document attempt step old new is same tried are = subst (AreSteps document (tried ++ attempt ∷ [])) (sym same) (all_zipped_more (IsStep document) tried old attempt step are is)

pub adds-if : (document : List ℕ) (wanted : Bool) (attempt : Attempt) (step : Step) (old new : List Step) → IsStep document attempt step → new ≡ old ++ if_wanted wanted step → Adds document (if_wanted wanted attempt) old new
adds-if document true attempt step old new is same = adds-one document attempt step old new is same
adds-if document false attempt step old new is same = subst (Adds document [] old) (sym (same ∙ append-nil old)) (adds-none document old)

pub also-done : {T E : Type 0} (result : Result T E) (P Q : Type 0) → (P → Q) → OnOk result P → OnOk result Q
also-done (Ok x) P Q more is = more is
also-done (Err error) P Q more is = tt

-- what is tried with an answer, flag by flag
pub adds-attempts : (document : List ℕ) (pass : Pass) (reply : Reply) (unit alone told : Bool) (old first second new : List Step) → unit ≡ starts_unit pass → alone ≡ starts_alone pass → told ≡ reports pass
    → first ≡ old ++ if_wanted unit (made.StartUnit reply.position) → second ≡ first ++ if_wanted alone (made.Start reply.position) → Adds document (if_wanted told (steps.Report reply)) second new → Adds document (attempts_with pass reply) old new
adds-attempts document pass reply unit alone told old first second new is_unit is_alone is_told one two three =
    let A : Bool → List Attempt = λ b. if_wanted b (steps.StartUnit reply.position) in
    let B : Bool → List Attempt = λ b. if_wanted b (steps.Start reply.position) in
    let C : Bool → List Attempt = λ b. if_wanted b (steps.Report reply) in
    let a = subst (λ b. Adds document (A b) old first) is_unit (adds-if document unit (steps.StartUnit reply.position) (made.StartUnit reply.position) old first refl one) in
    let b = subst (λ b. Adds document (B b) first second) is_alone (adds-if document alone (steps.Start reply.position) (made.Start reply.position) first second refl two) in
    let c = subst (λ b. Adds document (C b) second new) is_told three in
    adds-both document (A (starts_unit pass)) (B (starts_alone pass) ++ C (reports pass)) old first new a (adds-both document (B (starts_alone pass)) (C (reports pass)) first second new b c)

-- the steps for one answer more
pub adds-more : (document : List ℕ) (pass : Pass) (replies : List Reply) (k : ℕ) (d : Reply) (first now new : List Step) → k < length replies → Adds document (joined_below k (λ j. attempts_at pass (slice_get replies j))) first now → Adds document (attempts_at pass (Some (get_or replies k d))) now new
    → Adds document (joined_below (k + 1) (λ j. attempts_at pass (slice_get replies j))) first new
adds-more document pass replies k d first now new within one two =
    let f : ℕ → List Attempt = λ j. attempts_at pass (slice_get replies j) in
    rw add-one (adds-both document (joined_below k f) (f k) first now new one (subst (λ (x : Option Reply). Adds document (attempts_at pass x) now new) (sym (slice_get-get_or replies k d within)) two))

-- the same of what was undone
pub adds-undone : (document : List ℕ) (replies : List Reply) (k : ℕ) (d : Reply) (first now new : List Step) → k < length replies → Adds document (joined_below k (λ j. undone_at (slice_get replies j))) first now → Adds document (undone_at (Some (get_or replies k d))) now new
    → Adds document (joined_below (k + 1) (λ j. undone_at (slice_get replies j))) first new
adds-undone document replies k d first now new within one two =
    let f : ℕ → List Attempt = λ j. undone_at (slice_get replies j) in
    rw add-one (adds-both document (joined_below k f) (f k) first now new one (subst (λ (x : Option Reply). Adds document (undone_at x) now new) (sym (slice_get-get_or replies k d within)) two))

pub refused-at : (document : List ℕ) (replies : List Reply) (k : ℕ) (d : Reply) (halt : Halt) → k < length replies → Halted (RefusesReply document (get_or replies k d)) halt → Halted (RefusesOne document replies) halt
refused-at document replies k d halt within = Halted-weaker (RefusesReply document (get_or replies k d)) (RefusesOne document replies) (λ refusal is. (get_or replies k d, Contains-get_or replies k d within, is)) halt

-- why a response is refused
pub bad-response : (document : List ℕ) (reply : Reply) (part : Printed → Type 0) → ((why : Printed) → part why → RefusesHeaders (bytes_at document reply.headers) why ⊎ RefusesBody (bytes_at document reply.body) why) → (halt made : Halt) → Halted part halt
    → Halted (λ refusal. IsBadResponse reply.place refusal × ((why : Refusal) × (halt ≡ halts.Refused why))) made → Halted (RefusesReply document reply) made
bad-response document reply part to halt made is = Halted-weaker (λ refusal. IsBadResponse reply.place refusal × ((why : Refusal) × (halt ≡ halts.Refused why))) (RefusesReply document reply)
    (λ refusal bad. record { why = printed bad.1.0; bad = to (printed bad.1.0) (subst (Halted part) bad.1.1 is); is = bad.0 }) made

-- ---- the calls that steps are

tried-report : (document : List ℕ) (reply : Reply) (i : ℕ) (outcome : Outcome) (body : Option (List ℕ)) (old new : LiveRun) (returned : ℕ) → IsStep document (steps.Report reply) (made.Report i outcome body) → calls.TakesAt old new i outcome body returned
    → (call : Call) × IsTried document (steps.Report reply) call × Does call old new
tried-report document reply i outcome body old new returned is (Tried within (OutcomeTaken may done same)) =
    (session.Report i reply.status (bytes_at document reply.headers) (bytes_at document reply.body) returned, (is.0, refl, refl, refl, (λ one. omega (arith, done, one)), (λ four. omega (arith, done, four))), ReportTaken outcome within is.1 (BodyTaken body is.2 (OutcomeTaken may done same)))
tried-report document reply i outcome body old new returned is (Tried within (OutcomeRefused cause first done same)) =
    (session.Report i reply.status (bytes_at document reply.headers) (bytes_at document reply.body) returned, (is.0, refl, refl, refl, (λ one. omega (arith, done, one)), (λ four. omega (arith, done, four))), ReportTaken outcome within is.1 (BodyTaken body is.2 (OutcomeRefused cause first done same)))
tried-report document reply i outcome body old new returned is (NoRequest past done same) =
    (session.Report i reply.status (bytes_at document reply.headers) (bytes_at document reply.body) returned, (is.0, refl, refl, refl, (λ one. omega (arith, done, one)), (λ four. omega (arith, done, four))), ReportUnknown past done same)

tried-one : (document : List ℕ) (attempt : Attempt) (step : Step) (old new : LiveRun) → IsStep document attempt step → Tries old step new → (call : Call) × IsTried document attempt call × Does call old new
tried-one document (steps.StartUnit position) (made.StartUnit i) old new is (returned, starts) = (session.StartUnit i returned, is, starts)
tried-one document (steps.Start position) (made.Start i) old new is (returned, starts) = (session.Start i returned, is, starts)
tried-one document (steps.Report reply) (made.Report i outcome body) old new is (returned, takes) = tried-report document reply i outcome body old new returned is takes
tried-one document (steps.StartUnit position) (made.Start i) old new is tries = absurd is
tried-one document (steps.StartUnit position) (made.Report i outcome body) old new is tries = absurd is
tried-one document (steps.Start position) (made.StartUnit i) old new is tries = absurd is
tried-one document (steps.Start position) (made.Report i outcome body) old new is tries = absurd is
tried-one document (steps.Report reply) (made.StartUnit i) old new is tries = absurd is
tried-one document (steps.Report reply) (made.Start i) old new is tries = absurd is

pub followed : (document : List ℕ) (tried : List Attempt) (made : List Step) (first last : LiveRun) → AreSteps document tried made → FollowsAll first made last → Follows first last document tried
followed document [] [] first last are same = record { calls = []; are = tt; session = same }
followed document [] (step ∷ made) first last are follows = absurd are
followed document (attempt ∷ tried) [] first last are follows = absurd are
followed document (attempt ∷ tried) (step ∷ made) first last are (next, tries, more) =
    let (call, is, does) = tried-one document attempt step first next are.0 tries in
    let rest = followed document tried made next last are.1 more in
    record { calls = call ∷ rest.calls; are = (is, rest.are); session = (next, does, rest.session) }

-- ---- a session after another

pub session-joined : (before after : List Call) (first middle last : LiveRun) → IsSession first before middle → IsSession middle after last → IsSession first (before ++ after) last
session-joined [] after first middle last same more = subst (λ (l : LiveRun). IsSession l after last) same more
session-joined (call ∷ before) after first middle last (next, does, rest) more = (next, does, session-joined before after next middle last rest more)

-- What holds of a state holds of it with other requests, since no event asks for them.
use Rattle.std.proofs.Common.{◌≡◌, ℕ, refl, subst, List, Result, Ok, Err, IsOk}
use Rattle.std.specs.Prelude.{OnOk, OnErr}
use Rattle.std.proofs.Math.Path.{fun_ext}
use Rattle.odb_doc.specs.LeastRules.{IsLeast}
use Rattle.odb_doc.specs.batch.Records.{Record}
use Rattle.odb_doc.specs.declared.recorded.outcome.Outcome.{Outcome}
use Rattle.odb_sched.specs.declared.refusal.StartRefusal.{StartRefusal}
use Rattle.odb_sched.specs.declared.refusal.StartRefusal.TheVariants as start
use Rattle.odb_sched.specs.declared.refusal.ReportRefusal.{ReportRefusal}
use Rattle.odb_sched.specs.declared.refusal.ReportRefusal.TheVariants as report
use Rattle.odb_sched.specs.declared.event.Step.{Step}
use Rattle.odb_sched.specs.declared.event.Step.TheVariants as step
use Rattle.odb_sched.specs.run.Choosing.{IsNext, MayTake, Allowance}
use Rattle.odb_sched.specs.run.Steps.{BarsStart, IsStartCause, start_number, BarsReport, IsReportCause, report_number}
use Rattle.odb_sched.specs.run.State.{State, with_requests}

bars_start : (requests : List Record) (state : State) (i : ℕ) (cause : StartRefusal) → BarsStart cause state i ≡ BarsStart cause (with_requests requests state) i
bars_start requests state i start.AlreadyStarted = refl
bars_start requests state i cause = refl

pub start_cause_with : (requests : List Record) (state : State) (i : ℕ) (cause : StartRefusal) → IsStartCause state i cause → IsStartCause (with_requests requests state) i cause
start_cause_with requests state i cause is = subst (λ (bars : StartRefusal → Type 0). IsLeast start_number bars cause) (fun_ext (bars_start requests state i)) is

bars_report : (requests : List Record) (state : State) (i : ℕ) (outcome : Outcome) (cause : ReportRefusal) → BarsReport cause state i outcome ≡ BarsReport cause (with_requests requests state) i outcome
bars_report requests state i outcome report.NotRunning = refl
bars_report requests state i outcome report.BadStatus = refl

pub report_cause_with : (requests : List Record) (state : State) (i : ℕ) (outcome : Outcome) (cause : ReportRefusal) → IsReportCause state i outcome cause → IsReportCause (with_requests requests state) i outcome cause
report_cause_with requests state i outcome cause is = subst (λ (bars : ReportRefusal → Type 0). IsLeast report_number bars cause) (fun_ext (bars_report requests state i outcome)) is

may_take : (requests : List Record) (state : State) (next : Step) → MayTake state next → MayTake (with_requests requests state) next
may_take requests state (step.Start i) may = may
may_take requests state (step.Report i) may = may

pub next_with : (allows : Allowance) (requests : List Record) (state : State) (next : Step) → IsNext allows state next → IsNext allows (with_requests requests state) next
next_with allows requests state next is = record { within = is.within; may = may_take requests state next is.may; allowed = is.allowed }

-- whatever the result, what is so in both cases is so
pub either_way : {T E A B C : Type 0} (result : Result T E) → OnOk result A → OnErr result B → (A → C) → (B → C) → C
either_way (Ok value) ok err if_ok if_err = if_ok ok
either_way (Err cause) ok err if_ok if_err = if_err err

-- what follows from success
pub ok_so : {T E A : Type 0} (result : Result T E) → (IsOk result → A) → OnOk result A
ok_so (Ok value) follows = follows refl
ok_so (Err cause) follows = tt

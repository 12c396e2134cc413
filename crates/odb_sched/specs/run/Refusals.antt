-- What is printed of a refusal of events, and of a fault of named events.
use Rattle.std.specs.Prelude.{◌≢◌, ℕ, List, Option, Some, None, codes}
use Rattle.odb_doc.specs.Refusals.{Printed, fault_at}
use Rattle.odb_doc.specs.declared.fault.Place.TheVariants as places
use Rattle.odb_sched.specs.declared.refusal.StartRefusal.{StartRefusal}
use Rattle.odb_sched.specs.declared.refusal.StartRefusal.TheVariants as start
use Rattle.odb_sched.specs.declared.refusal.ReportRefusal.{ReportRefusal}
use Rattle.odb_sched.specs.declared.refusal.ReportRefusal.TheVariants as report
use Rattle.odb_sched.specs.declared.refusal.RunRefusal.{RunRefusal}
use Rattle.odb_sched.specs.declared.refusal.RunRefusal.TheVariants as refusal
use Rattle.odb_doc.specs.RuleFaults.{fault_row}
use Rattle.odb_doc.specs.declared.rule_fault.RuleFault.{RuleFault}
use Rattle.odb_sched.specs.declared.event.ResolveRule.{ResolveRule}
use Rattle.odb_doc.specs.declared.rule_fault.RuleFault.TheVariants.{OutOfMemory}
use Rattle.odb_sched.specs.declared.event.ResolveRule.TheVariants.{UnknownEvent}

-- the code and the name of a cause against a start
abbrev pub start_row : StartRefusal → List ℕ × List ℕ
start_row start.AlreadyStarted = (codes "S1", codes "AlreadyStarted")
start_row start.Stopped = (codes "S2", codes "Stopped")
start_row start.UnitFailed = (codes "S3", codes "UnitFailed")
start_row (start.Waiting need) = (codes "S4", codes "Waiting")
start_row start.WidthReached = (codes "S5", codes "WidthReached")

-- the code and the name of a cause against a report
abbrev pub report_row : ReportRefusal → List ℕ × List ℕ
report_row report.NotRunning = (codes "P1", codes "NotRunning")
report_row report.BadStatus = (codes "P2", codes "BadStatus")

-- what is printed of a cause against the event at this place
abbrev pub row_at : List ℕ × List ℕ → ℕ → Printed
row_at row at = record { code = row.0; name = row.1; place = places.Event at }

-- any refusal but out of memory
abbrev pub IsNumberedRefusal : RunRefusal → Type 0
IsNumberedRefusal cause = cause ≢ refusal.OutOfMemory

abbrev pub run_row : RunRefusal → Option Printed
run_row (refusal.Start at cause) = Some (row_at (start_row cause) at)
run_row (refusal.Report at cause) = Some (row_at (report_row cause) at)
run_row refusal.OutOfMemory = None

abbrev pub resolve_rule_row : ResolveRule → ℕ → Printed
resolve_rule_row UnknownEvent at = fault_at 65 (codes "UnknownEvent") (places.Event at)

abbrev pub ResolveFault : Type 0
ResolveFault = RuleFault ResolveRule

-- any fault but out of memory
abbrev pub IsNumberedResolve : ResolveFault → Type 0
IsNumberedResolve fault = fault ≢ OutOfMemory

abbrev pub resolve_row : ResolveFault → Option Printed
resolve_row = fault_row resolve_rule_row

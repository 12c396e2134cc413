-- What is printed of a fault of an execution.
use Rattle.std.specs.Prelude.{◌≢◌, Option, Some, None, codes}
use Rattle.odb_doc.specs.Refusals.{Printed, fault_at}
use Rattle.odb_doc.specs.declared.fault.Place.TheVariants as places
use Rattle.odb_exec.specs.declared.execution.ExecFault.{ExecFault}
use Rattle.odb_exec.specs.declared.execution.ExecFault.TheVariants as fault

-- any fault but out of memory
abbrev pub IsNumberedExec : ExecFault → Type 0
IsNumberedExec cause = cause ≢ fault.OutOfMemory

abbrev pub exec_row : ExecFault → Option Printed
exec_row (fault.NoOutcome i) = Some (fault_at 80 (codes "NoOutcome") (places.Request i))
exec_row (fault.Service i) = Some (fault_at 81 (codes "Service") (places.Request i))
exec_row (fault.BadStatus i) = Some (fault_at 82 (codes "BadStatus") (places.Request i))
exec_row fault.OutOfMemory = None

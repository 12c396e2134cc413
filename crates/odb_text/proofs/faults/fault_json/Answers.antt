use Rattle.std.proofs.Common.{arith}
use Rattle.std.proofs.lemmas.Grind.{common_steps}
use Rattle.odb_doc.specs.Refusals.{printed}
use Rattle.odb_text.proofs.FaultLemmas.{fault-line}
use Rattle.odb_text.proofs.faults.fault_json.Goals as goal

pub returns : goal.returns
returns c = let parts = fault-line (printed c.args.fault.refusal) c.args.fault.position in grind (arith, common_steps, parts)

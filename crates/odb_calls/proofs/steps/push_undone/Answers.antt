use Rattle.std.proofs.Common.{◌==◌, ℕ, List, Some, refl}
use Rattle.odb_calls.specs.Live.IsReportedBody.{Absent}
use Rattle.odb_calls.specs.Steps as specs
use Rattle.odb_calls.proofs.StepLemmas.{adds-if, also-done}
use Rattle.odb_calls.proofs.steps.push_undone.Goals as goal

pub returns : goal.returns
returns c =
    let reply = c.args.reply in
    let old = c.args.steps.now.items in
    let new = c.push_if.new.steps.items in
    also-done c.push_if.result _ ((document : List ℕ) → specs.Adds document (specs.undone_at (Some reply)) old new)
    (λ same document. adds-if document (reply.status == 424) (specs.Report (specs.undone reply)) _ old new (refl, c.no_content.ensures, Absent refl refl) same) c.push_if.ensures

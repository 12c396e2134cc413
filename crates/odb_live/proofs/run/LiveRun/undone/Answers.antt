use Rattle.odb_live.proofs.run.LiveRun.undone.Goals as goal

pub returns-then-not-is_finished-clause-finished : goal.returns-then-not-is_finished-clause-finished
returns-then-not-is_finished-clause-finished c = tt

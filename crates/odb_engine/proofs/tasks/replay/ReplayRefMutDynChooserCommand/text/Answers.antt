use Rattle.odb_engine.proofs.tasks.replay.ReplayRefMutDynChooserCommand.text.Goals as goal

pub returns-clause-found : goal.returns-clause-found
returns-clause-found g c = c.replayed_by.ensures.found c.args.setup.form

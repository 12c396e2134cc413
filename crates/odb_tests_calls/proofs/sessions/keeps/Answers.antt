use Rattle.odb_tests_calls.specs.Calls.{answered}
use Rattle.odb_tests_calls.proofs.sessions.keeps.Goals as goal

pub returns : goal.returns
returns c =
    c.every_session.ensures.kept c.args.policy c.args.batch.now c.args.events.now c.args.live.now c.answers.new.live (answered c.answers.result) c.requires c.answers.ensures

use Rattle.odb_engine.specs.declared.form.Form.TheVariants.{Lines}
use Rattle.odb_tests_live.proofs.laws.live.live.Goals as goal

pub returns-in-Ok-response : goal.returns-in-Ok-response
returns-in-Ok-response c = (c.in-Ok.live, c.in-Ok.ensures.run, c.in-Ok-response.ensures.found Lines)

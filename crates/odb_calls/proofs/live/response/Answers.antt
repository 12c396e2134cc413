use Rattle.odb_engine.specs.declared.form.Form.TheVariants.{Lines}
use Rattle.odb_calls.specs.Live.{Responds}
use Rattle.odb_calls.proofs.AnswerLemmas.{answered-in, responds}
use Rattle.odb_calls.proofs.live.response.Goals as goal

pub returns : goal.returns
returns c = answered-in Lines (Responds c.args.live.now) c.response.result c.of.result (responds c.args.live.now Lines c.response.result (c.response.ensures.found Lines) c.response.ensures.reads_back) c.of.ensures

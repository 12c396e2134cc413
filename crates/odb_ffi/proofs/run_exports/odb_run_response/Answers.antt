use Rattle.std.proofs.Common.{subst}
use Rattle.odb_engine.specs.declared.form.Form.TheVariants.{Lines}
use Rattle.odb_live.specs.declared.run.LiveRun.{LiveRun}
use Rattle.odb_calls.specs.Live.{Responds}
use Rattle.odb_calls.specs.Returns.{Returns}
use Rattle.odb_ffi.proofs.run_exports.odb_run_response.Goals as goal

pub returns-clause-text : goal.returns-clause-text
returns-clause-text c =
    subst (λ (live : LiveRun). Returns (Responds live Lines) c.give_response.result c.give_response.new.text_length c.args.text.now c.give_response.new.text) c.live.ensures.value c.give_response.ensures.text

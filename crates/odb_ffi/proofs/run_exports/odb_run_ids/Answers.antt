use Rattle.std.proofs.Common.{subst}
use Rattle.odb_live.specs.declared.run.LiveRun.{LiveRun}
use Rattle.odb_engine.specs.Cascade.{Prints}
use Rattle.odb_live.specs.Labels.{id_lines}
use Rattle.odb_calls.specs.Returns.{Returns}
use Rattle.odb_calls.proofs.ReturnLemmas.{returned}
use Rattle.odb_ffi.proofs.run_exports.odb_run_ids.Goals as goal

pub returns-clause-text : goal.returns-clause-text
returns-clause-text c =
    let live = c.live.result.now in
    subst (λ (live : LiveRun). Returns (Prints (id_lines live.labels)) c.give.result c.give.new.text_length c.args.text.now c.give.new.buffer) c.live.ensures.value
    (returned (Prints (id_lines live.labels)) c.ids.result c.give.result c.give.new.text_length c.args.text.now c.give.new.buffer c.ids.ensures c.give.ensures.ok c.give.ensures.err)

use Rattle.std.proofs.Common.{string_bytes, sym}
use Rattle.odb_engine.specs.declared.ending.Ended.TheVariants.{Done}
use Rattle.odb_engine.specs.declared.form.Form.TheVariants.{Lines}
use Rattle.odb_engine.proofs.MemoryLemmas.{whole-document}
use Rattle.odb_tests_live.proofs.LawLemmas.{by-reader}
use Rattle.odb_tests_live.proofs.laws.live.live_and_recorded.Goals as goal

pub returns : goal.returns
returns c =
    let policy = c.args.policy in
    let batch = c.args.batch.now in
    let events = c.args.events.now in
    let written = c.in_ok-written.written in
    let (live, opens, shown) = c.in_ok-text.ensures in
    let gives = whole-document events _ opens.holds.holds.1.after.named_in in
    let one = c.one_live_run.ensures.text policy Lines batch events (string_bytes c.in_ok-text.text) written.1.items live Done written.0 opens shown
    (by-reader policy batch events Lines written.0 written.1.items gives c.in_ok-written.ensures) in
    (sym one.0, one.1)

use Rattle.std.proofs.Common.{◌≡◌, ◌∙◌, false, List, Option, IfSome, length, map, rules, subst, sym}
use Rattle.odb_doc.specs.batch.Records.{Record}
use Rattle.odb_sched.specs.run.LiveEvents.{Single}
use Rattle.odb_sched.specs.run.State.{State, is_running, phase_at, size}
use Rattle.odb_sched.specs.run.Steps.{is_finished}
use Rattle.odb_live.specs.Live.{IsOpened}
use Rattle.odb_live.specs.LiveParts.{IsPartIn}
use Rattle.odb_live.specs.declared.run.parts.Part.{Part}
use Rattle.odb_live.proofs.OpenedLemmas.{ListsOnce, idle-alone, opened-graph, same-requests}
use Rattle.odb_tests_live.proofs.laws.parts.next_alone.Goals as goal

pub returns-in-Ok-Some : goal.returns-in-Ok-Some
returns-in-Ok-Some c =
    let live = c.args.live.now in
    let policy = c.args.policy in
    let document = c.args.batch.now in
    let events = c.args.events.now in
    let opens = c.requires in
    let part : IsPartIn live document 1 c.in-Ok-Some.part = subst (λ (found : Option Part). IfSome found (IsPartIn live document 1)) c.in-Ok-Some.field-0-is c.in-Ok-Some.ensures.part in
    let batch = part.holds.batch in
    let good = part.holds.holds.0 in
    let short = part.holds.holds.1.0.1 in
    let same : opens.holds.batch ≡ batch = same-requests c.one_batch.ensures document _ _ opens part in
    let opened : IsOpened policy batch events live = subst (λ (requests : List Record). IsOpened policy requests events live) same opens.holds.holds.1 in
    let graph = opened-graph policy batch events live (c.every_batch.ensures.plan_graph batch) opened in
    let runs = c.every_live_run.ensures.recorded batch policy opened.after.events opened.after.may_come in
    let unfinished : is_finished live.run ≡ false = search rules in
    let running = c.running.result.now in
    let none : length running ≡ 0 = search rules in
    let once : ListsOnce (size live.run) (λ i. is_running (phase_at live.run i)) running = subst (λ (s : State). ListsOnce (size s) (λ i. is_running (phase_at s i)) running) c.run-else-is_finished.ensures c.running.ensures.listed in
    let idle = idle-alone batch live running (length batch) graph short none once opened.out in
    let order = c.every_batch.ensures.order part.value batch part.holds.shaped part.holds.is_batch good in
    c.every_part.ensures.goes_on policy (map Single opened.after.events) document batch live 1 c.in-Ok-Some.part order (c.every_batch.ensures.names batch good) runs.0 (opened.after.state ∙ sym runs.1) unfinished idle short part.holds.holds.1.1

use Rattle.std.proofs.Common.{◌≡◌, ◌∙◌, [], ◌∷◌, false, List, Option, IfSome, length, refl, rules, subst, sym}
use Rattle.odb_doc.specs.batch.Records.{Record}
use Rattle.odb_sched.specs.run.State.{State, is_running, phase_at, size}
use Rattle.odb_sched.specs.run.Steps.{is_finished}
use Rattle.odb_live.specs.Live.{IsOpened}
use Rattle.odb_live.specs.LiveParts.{IsPartIn}
use Rattle.odb_live.specs.declared.run.parts.Part.{Part}
use Rattle.odb_live.proofs.OpenedLemmas.{ListsOnce, idle-alone, opened-graph, same-requests}
use Rattle.odb_calls.specs.Sessions.{Ask}
use Rattle.odb_tests_calls.proofs.sessions.gives.Goals as goal

pub returns-in-Ok-Some : goal.returns-in-Ok-Some
returns-in-Ok-Some c =
    let live = c.args.live.now in
    let policy = c.args.policy in
    let document = c.args.batch.now in
    let events = c.args.events.now in
    let opens = c.requires in
    let part : IsPartIn live document 1 c.in-Ok-Some.part = subst (λ (found : Option Part). IfSome found (IsPartIn live document 1)) c.in-Ok-Some.field-0-is c.in-Ok-Some.ensures.part in
    let batch = part.holds.batch in
    let short = part.holds.holds.1.0.1 in
    let same : opens.holds.batch ≡ batch = same-requests c.one_batch.ensures document _ _ opens part in
    let opened : IsOpened policy batch events live = subst (λ (requests : List Record). IsOpened policy requests events live) same opens.holds.holds.1 in
    let graph = opened-graph policy batch events live (c.every_batch.ensures.plan_graph batch) opened in
    let unfinished : is_finished live.run ≡ false = search rules in
    let running = c.running.result.now in
    let none : length running ≡ 0 = search rules in
    let once : ListsOnce (size live.run) (λ i. is_running (phase_at live.run i)) running = subst (λ (s : State). ListsOnce (size s) (λ i. is_running (phase_at s i)) running) c.run-else-is_finished.ensures c.running.ensures.listed in
    let idle = idle-alone batch live running (length batch) graph short none once opened.out in
    c.every_session.ensures.gives policy document events live live (Ask ∷ []) 1 c.in-Ok-Some.part opens (live, refl, refl) unfinished idle part

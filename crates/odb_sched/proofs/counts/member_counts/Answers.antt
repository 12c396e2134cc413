-- The members of one unit more are counted.
use Rattle.std.proofs.Common.{◌<◌, ◌∙◌, arith}
use Rattle.std.proofs.lemmas.List.Elements.{All-push, All-same}
use Rattle.odb_sched.proofs.FirstLemmas.{members_of_span, counted_more}
use Rattle.odb_sched.proofs.counts.member_counts.Goals as goal

pub loop-u-preserved : goal.loop-u-preserved
loop-u-preserved c =
    let some : c.members-members.result.start < c.members-members.result.end = c.members-members.ensures.span.begins in
    record {
      counts = c.in_ok-push.ensures.items ∙ counted_more c.loop-u.u _ _ _ c.loop-u.invariant.counts (members_of_span c.args.graph.now.plan_graph c.loop-u.u _ _ c.members-members.ensures.span some);
      some = All-same (λ count. 0 < count) _ _ c.in_ok-push.ensures.items (All-push (λ count. 0 < count) _ _ c.loop-u.invariant.some (omega arith));
    }

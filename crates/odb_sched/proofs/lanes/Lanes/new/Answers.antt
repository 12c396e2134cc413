-- No report is awaited.
use Rattle.std.proofs.Common.{◌≤◌, subst, sym, arith}
use Rattle.std.proofs.lemmas.List.{length-replicate}
use Rattle.std.proofs.lemmas.List.Elements.{All-replicate}
use Rattle.odb_sched.proofs.LaneLemmas.{none_spare}
use Rattle.odb_sched.proofs.lanes.Lanes.new.Goals as goal

pub returns : goal.returns
returns c = record {
  same = c.in_ok-awaited.ensures.items_if_clones_equal (λ y same. same);
  spare = sym (none_spare c.args.count);
  few = subst (λ n. n ≤ 10000) (sym (length-replicate c.args.count 0)) c.requires;
  small = All-replicate (λ n. n ≤ 10000) c.args.count 0 (omega arith);
}

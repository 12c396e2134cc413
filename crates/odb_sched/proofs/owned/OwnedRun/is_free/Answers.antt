-- No need is unmet exactly when all are satisfied.
use Rattle.std.proofs.Common.{◌<◌, ◌==◌, ◌∙◌, ap, sym, subst, length}
use Rattle.std.proofs.lemmas.List.{get_or_read}
use Rattle.odb_sched.specs.invariants.Kept.{kept_state}
use Rattle.odb_sched.specs.run.State.{size}
use Rattle.odb_sched.specs.run.Steps.{all_satisfied}
use Rattle.odb_sched.proofs.CountedLemmas.{unmet_is}
use Rattle.odb_sched.proofs.owned.OwnedRun.is_free.Goals as goal

pub returns : goal.returns
returns c =
    let inside : c.args.i < size (kept_state c.self.inside) = subst (λ state. c.args.i < size state) (sym c.self.view_is) c.requires in
    let within : c.args.i < length c.self.inside.progress.counts.unmet.items = rw c.self.invariant.counts.counts.ready.entries.unmet inside in
    ap (λ n. n == 0) (get_or_read c.self.inside.progress.counts.unmet.items c.args.i c.index.result.now within c.index.ensures 0)
    ∙ unmet_is (kept_state c.self.inside) c.self.inside.progress c.args.i c.self.invariant.counts inside
    ∙ ap (λ state. all_satisfied state c.args.i) c.self.view_is

-- The spare ones grow by all members but one.
use Rattle.std.proofs.Common.{◌≡◌, ◌≤◌, ◌+◌, ◌-◌, refl, subst, sym, arith, set, get_or, length-set}
use Rattle.std.proofs.lemmas.List.Elements.{All-set}
use Rattle.odb_sched.specs.run.Steps.{spare_in}
use Rattle.odb_sched.proofs.LaneLemmas.{few_spare, spare-set}
use Rattle.odb_sched.proofs.lanes.Lanes.send.Goals as goal

pub overflow_add-self : goal.overflow_add-self
overflow_add-self c =
    let spare : c.args.self.now.spare ≡ spare_in c.args.self.now.awaited.items = c.requires.lanes.spare in
    let most : spare_in c.args.self.now.awaited.items ≤ 100000000 = few_spare c.args.self.now.awaited.items c.requires.lanes.few c.requires.lanes.small in
    omega (arith, spare, most, c.requires.small)

pub returns-clause-lanes : goal.returns-clause-lanes
returns-clause-lanes c =
    let before = c.args.self.now.awaited.items in
    let spare : c.args.self.now.spare ≡ spare_in before = c.requires.lanes.spare in
    let grown : spare_in (set before c.args.u c.args.count) + (get_or before c.args.u 0 - 1) ≡ spare_in before + (c.args.count - 1) = spare-set before c.args.u c.args.count c.requires.unit in
    let fresh : get_or before c.args.u 0 ≡ 0 = c.requires.fresh in
    record {
      same = refl;
      spare = omega (arith, spare, grown, fresh);
      few = subst (λ n. n ≤ 10000) (sym (length-set before c.args.u c.args.count)) c.requires.lanes.few;
      small = All-set (λ n. n ≤ 10000) before c.args.u c.args.count c.requires.small c.requires.lanes.small;
    }

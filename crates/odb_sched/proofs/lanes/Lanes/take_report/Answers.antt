-- One report less is awaited, and one less is spare if another is still awaited.
use Rattle.std.proofs.Common.{◌≡◌, ◌≤◌, ◌+◌, ◌-◌, ◌∙◌, ap, refl, subst, sym, arith, set, get_or, length-set}
use Rattle.std.proofs.lemmas.List.{get_or_read}
use Rattle.std.proofs.lemmas.List.Elements.{All-set, All-get_or}
use Rattle.odb_sched.specs.run.Steps.{spare_in}
use Rattle.odb_sched.proofs.LaneLemmas.{spare_of, spare-set}
use Rattle.odb_sched.proofs.lanes.Lanes.take_report.Goals as goal

pub returns-then-left-gt1-clause-awaited : goal.returns-then-left-gt1-clause-awaited
returns-then-left-gt1-clause-awaited c =
    let before = c.args.self.now.awaited.items in
    ap (set before c.args.u) (c.saturating_sub.ensures ∙ ap (λ n. n - 1) (get_or_read before c.args.u c.index-left.result.now c.requires.unit c.index-left.ensures 0))

pub returns-then-left-gt1-clause-lanes : goal.returns-then-left-gt1-clause-lanes
returns-then-left-gt1-clause-lanes c =
    let before = c.args.self.now.awaited.items in
    let left = c.index-left.result.now in
    let read : left ≡ get_or before c.args.u 0 = get_or_read before c.args.u left c.requires.unit c.index-left.ensures 0 in
    let less : c.saturating_sub.result ≡ left - 1 = c.saturating_sub.ensures in
    let spare : c.args.self.now.spare ≡ spare_in before = c.requires.lanes.spare in
    let some : get_or before c.args.u 0 - 1 ≤ spare_in before = spare_of before c.args.u c.requires.unit in
    let fallen : spare_in (set before c.args.u c.saturating_sub.result) + (get_or before c.args.u 0 - 1) ≡ spare_in before + (c.saturating_sub.result - 1) = spare-set before c.args.u c.saturating_sub.result c.requires.unit in
    record {
      same = refl;
      spare = omega (arith, less, spare, fallen, some, read, c.if-left-gt1.true);
      few = subst (λ n. n ≤ 10000) (sym (length-set before c.args.u c.saturating_sub.result)) c.requires.lanes.few;
      small = All-set (λ n. n ≤ 10000) before c.args.u c.saturating_sub.result (let most : get_or before c.args.u 0 ≤ 10000 = All-get_or (λ n. n ≤ 10000) before c.args.u 0 c.requires.unit c.requires.lanes.small in omega (arith, less, read, most)) c.requires.lanes.small;
    }

pub returns-else-left-gt1-clause-awaited : goal.returns-else-left-gt1-clause-awaited
returns-else-left-gt1-clause-awaited c =
    let before = c.args.self.now.awaited.items in
    ap (set before c.args.u) (c.saturating_sub.ensures ∙ ap (λ n. n - 1) (get_or_read before c.args.u c.index-left.result.now c.requires.unit c.index-left.ensures 0))

pub returns-else-left-gt1-clause-lanes : goal.returns-else-left-gt1-clause-lanes
returns-else-left-gt1-clause-lanes c =
    let before = c.args.self.now.awaited.items in
    let left = c.index-left.result.now in
    let read : left ≡ get_or before c.args.u 0 = get_or_read before c.args.u left c.requires.unit c.index-left.ensures 0 in
    let less : c.saturating_sub.result ≡ left - 1 = c.saturating_sub.ensures in
    let spare : c.args.self.now.spare ≡ spare_in before = c.requires.lanes.spare in
    let fallen : spare_in (set before c.args.u c.saturating_sub.result) + (get_or before c.args.u 0 - 1) ≡ spare_in before + (c.saturating_sub.result - 1) = spare-set before c.args.u c.saturating_sub.result c.requires.unit in
    record {
      same = refl;
      spare = omega (arith, less, spare, fallen, read, c.if-left-gt1.false);
      few = subst (λ n. n ≤ 10000) (sym (length-set before c.args.u c.saturating_sub.result)) c.requires.lanes.few;
      small = All-set (λ n. n ≤ 10000) before c.args.u c.saturating_sub.result (let most : get_or before c.args.u 0 ≤ 10000 = All-get_or (λ n. n ≤ 10000) before c.args.u 0 c.requires.unit c.requires.lanes.small in omega (arith, less, read, most)) c.requires.lanes.small;
    }

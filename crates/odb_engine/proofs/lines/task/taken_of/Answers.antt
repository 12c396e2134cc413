use Rattle.std.proofs.Common.{◌≡◌, [], false, refl, rules, subst, sym, true}
use Rattle.odb_spans.specs.Positions as spans
use Rattle.odb_engine.specs.Tasks.{IsTakenOf}
use Rattle.odb_engine.proofs.lines.task.taken_of.Goals as goal

pub returns-then-not-takes : goal.returns-then-not-takes
returns-then-not-takes c first second is =
    let no : c.args.takes ≡ false = search rules in
    subst (λ takes. IsTakenOf takes c.args.line.now (spans.pair first second) []) (sym no) refl

pub returns-in-Some : goal.returns-in-Some
returns-in-Some c first second is =
    let yes : c.args.takes ≡ true = search rules in
    subst (λ takes. IsTakenOf takes c.args.line.now (spans.pair first second) c.bytes_in.result.now) (sym yes)
    (record { first = c.in-Some.both.0; other = c.in-Some.both.1; parts = c.in-Some.ensures.found (spans.pair first second) is; is = c.bytes_in.ensures })

pub returns-in-None : goal.returns-in-None
returns-in-None c first second is = absurd (c.in-None.ensures.none refl first second is)

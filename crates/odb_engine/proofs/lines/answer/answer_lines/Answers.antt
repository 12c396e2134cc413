use Rattle.std.proofs.Common.{◌≡◌, ◌≢◌, ◌∙◌, ◌≤◌, ◌<◌, ℕ, List, [], length, Ok, Err, IsTrue, sym, ap, subst, arith}
use Rattle.std.proofs.lemmas.Bool.Decides.{nat_tests}
use Rattle.std.proofs.lemmas.List.{nil_from_length}
use Rattle.std.proofs.lemmas.Result.{err_from_is_err_and}
use Rattle.std.proofs.KnownBytes.{Keeps-refl}
use Rattle.std.specs.Io.KnownBytes.{IsAtEnd}
use Rattle.odb_engine.specs.declared.ending.EngineFault.TheVariants as faults
use Rattle.odb_engine.specs.Inputs.{most_read}
use Rattle.odb_engine.specs.lines.Answers.{both}
use Rattle.odb_engine.specs.lines.Sources.{left}
use Rattle.odb_engine.proofs.ByteLemmas.{length-cut}
use Rattle.odb_engine.proofs.EachLineLemmas.{IsAnswered, IsAnswered-none, IsAnswered-kept, EndsAs, advanced, ends-advance, ends-last, ends-look, ends-none, ends-unfinished, not_failed, ok≢err}
use Rattle.odb_engine.proofs.lines.answer.answer_lines.Goals as goal

filled : (held : List ℕ) → held ≡ [] → 0 < length held → ⊥
filled held none some = omega (arith, ap length none, some)

pub loop-held-init : goal.loop-held-init
loop-held-init g c =
    let contents = g.W.Write.contents in
    let Q = g.C.LineCommand.writes c.args.command.now in
    let from = left g.R.Read.remaining c.args.input.now in
    let old = contents c.args.output.now.writer in (
      c.requires.input,
      c.requires.output,
      subst (λ held. IsAnswered Q from from old old 0 held _) (sym c.new-held.ensures.items) (IsAnswered-none Q from old),
      omega arith,
    )

pub returns-in_err-look : goal.returns-in_err-look
returns-in_err-look g c =
    let Q = g.C.LineCommand.writes c.args.command.now in
    let error = err_from_is_err_and c.from_residual.result c.from_residual.ensures.1 in
    let ends = ends-look g.R.Read.remaining g.W.Write.contents Q c.args.input.now c.args.output.now c.loop-held.input c.look.new.input c.loop-held.output c.look.new.output c.loop-held.count c.loop-held.held.items c.loop-held.ended c.look.result _ c.loop-held.invariant.2
    c.look.ensures.left c.look.ensures.written c.look.ensures.read c.look.ensures.write c.look.ensures.memory c.in_err-look.was in
    record { ends = subst (EndsAs g.R.Read.remaining g.W.Write.contents Q c.args.input.now c.args.output.now c.look.new.input c.look.new.output) (sym (error.1 ∙ ap Err error.2)) ends }

pub advance-requires-clause-held : goal.advance-requires-clause-held
advance-requires-clause-held g c =
    let inv = c.loop-held.invariant.2 in
    subst (λ l. length l ≤ most_read) (sym inv.kept) (length-cut inv.begun)

pub returns-in_err-answered : goal.returns-in_err-answered
returns-in_err-answered g c =
    let Q = g.C.LineCommand.writes c.args.command.now in
    let fine = λ (t : IsTrue c.look.new.input.failed). ok≢err c.look.result _ faults.Read c.in_ok-look.was (c.look.ensures.read.1 t) in
    let sound = not_failed c.look.new.output.failed (λ t. ok≢err c.look.result _ faults.Write c.in_ok-look.was (c.look.ensures.write.1 t)) in
    let so = IsAnswered-kept Q _ _ _ _ _ _ c.loop-held.count c.loop-held.held.items c.loop-held.ended c.loop-held.invariant.2 c.look.ensures.left c.look.ensures.written in
    let error = err_from_is_err_and c.from_residual-in_err-answered.result c.from_residual-in_err-answered.ensures.1 in
    let ends = ends-advance g.R.Read.remaining g.W.Write.contents Q c.args.input.now c.args.output.now c.look.new.input c.advance.new.input c.look.new.output c.advance.new.output c.loop-held.count c.advance.new.count c.loop-held.held.items c.advance.new.held.items c.loop-held.ended c.advance.result _ so
    (λ t. fine (sym c.advance.ensures.failed ∙ t)) sound c.advance.ensures.advances c.in_err-answered.was in
    record { ends = subst (EndsAs g.R.Read.remaining g.W.Write.contents Q c.args.input.now c.args.output.now c.advance.new.input c.advance.new.output) (sym (error.1 ∙ ap Err error.2)) ends }

pub loop-held-preserved : goal.loop-held-preserved
loop-held-preserved g c =
    let Q = g.C.LineCommand.writes c.args.command.now in
    let fine = not_failed c.look.new.input.failed (λ t. ok≢err c.look.result _ faults.Read c.in_ok-look.was (c.look.ensures.read.1 t)) in
    let sound = not_failed c.look.new.output.failed (λ t. ok≢err c.look.result _ faults.Write c.in_ok-look.was (c.look.ensures.write.1 t)) in
    let so = IsAnswered-kept Q _ _ _ _ _ _ c.loop-held.count c.loop-held.held.items c.loop-held.ended c.loop-held.invariant.2 c.look.ensures.left c.look.ensures.written in
    let step = advanced g.R.Read.remaining g.W.Write.contents Q c.args.input.now c.args.output.now c.look.new.input c.advance.new.input c.look.new.output c.advance.new.output c.loop-held.count c.advance.new.count c.loop-held.held.items c.advance.new.held.items c.loop-held.ended _ c.advance.result so
    sound c.advance.ensures.advances c.in_ok-answered.was in
    (c.advance.ensures.failed ∙ fine, step.0, subst (IsAnswered Q _ _ _ _ c.advance.new.count c.advance.new.held.items) {x = both c.loop-held.ended c.in_ok-answered.answered} (sym c.both-ended.ensures) step.1, omega (arith, c.loop-held.invariant.3, c.in_ok-look.ensures.fills, c.advance.ensures.fills, c.advance.ensures.most))

pub returns-then-is_empty : goal.returns-then-is_empty
returns-then-is_empty g c =
    let Q = g.C.LineCommand.writes c.args.command.now in
    let end : IsAtEnd (left g.R.Read.remaining c.loop-held.input) = c.look.ensures.end (c.in_ok-look.was ∙ ap Ok c.if-branch.false) in
    let none : c.loop-held.held.items ≡ [] = nil_from_length c.loop-held.held.items (grind (arith, nat_tests, c.is_empty.ensures)) in
    record {
      ends = ends-none g.R.Read.remaining g.W.Write.contents Q c.args.input.now c.args.output.now c.loop-held.input c.look.new.input c.loop-held.output c.look.new.output c.loop-held.count c.loop-held.held.items c.loop-held.ended c.loop-held.invariant.2 none end
          c.look.ensures.left c.look.ensures.written (λ t. ok≢err c.look.result _ faults.Read c.in_ok-look.was (c.look.ensures.read.1 t)) (λ t. ok≢err c.look.result _ faults.Write c.in_ok-look.was (c.look.ensures.write.1 t));
    }

pub answer_line-requires-clause-held : goal.answer_line-requires-clause-held
answer_line-requires-clause-held g c =
    let inv = c.loop-held.invariant.2 in
    subst (λ l. length l ≤ most_read) (sym inv.kept) (length-cut inv.begun)

pub returns-in_err-last : goal.returns-in_err-last
returns-in_err-last g c =
    let Q = g.C.LineCommand.writes c.args.command.now in
    let some : c.loop-held.held.items ≢ [] = λ none. absurd (filled c.loop-held.held.items none (grind (arith, nat_tests, c.is_empty.ensures))) in
    let so = IsAnswered-kept Q _ _ _ _ _ _ c.loop-held.count c.loop-held.held.items c.loop-held.ended c.loop-held.invariant.2 (Keeps-refl (left g.R.Read.remaining c.loop-held.input)) c.look.ensures.written in
    let error = err_from_is_err_and c.from_residual-in_err-last.result c.from_residual-in_err-last.ensures.1 in
    let ends = ends-unfinished g.R.Read.remaining g.W.Write.contents Q c.args.input.now c.args.output.now c.loop-held.input c.look.new.input c.look.new.output c.answer_line.new.output c.loop-held.count c.loop-held.held.items c.loop-held.ended c.answer_line.result _ so some
    c.look.ensures.left (λ t. ok≢err c.look.result _ faults.Read c.in_ok-look.was (c.look.ensures.read.1 t)) c.answer_line.ensures.ends c.in_err-last.was in
    record { ends = subst (EndsAs g.R.Read.remaining g.W.Write.contents Q c.args.input.now c.args.output.now c.look.new.input c.answer_line.new.output) (sym (error.1 ∙ ap Err error.2)) ends }

pub returns : goal.returns
returns g c =
    let Q = g.C.LineCommand.writes c.args.command.now in
    let end : IsAtEnd (left g.R.Read.remaining c.loop-held.input) = c.look.ensures.end (c.in_ok-look.was ∙ ap Ok c.if-branch.false) in
    let some : c.loop-held.held.items ≢ [] = λ none. absurd (filled c.loop-held.held.items none (grind (arith, nat_tests, c.is_empty.ensures))) in
    let so = IsAnswered-kept Q _ _ _ _ _ _ c.loop-held.count c.loop-held.held.items c.loop-held.ended c.loop-held.invariant.2 (Keeps-refl (left g.R.Read.remaining c.loop-held.input)) c.look.ensures.written in
    let ends = ends-last g.R.Read.remaining g.W.Write.contents Q c.args.input.now c.args.output.now c.loop-held.input c.look.new.input c.look.new.output c.answer_line.new.output c.loop-held.count c.loop-held.held.items c.loop-held.ended _ c.answer_line.result so some end
    c.look.ensures.left (λ t. ok≢err c.look.result _ faults.Read c.in_ok-look.was (c.look.ensures.read.1 t)) c.answer_line.ensures.ends c.in_ok-last.was in
    record { ends = subst (λ ended. EndsAs g.R.Read.remaining g.W.Write.contents Q c.args.input.now c.args.output.now c.look.new.input c.answer_line.new.output (Ok ended)) {x = both c.loop-held.ended c.in_ok-last.last} (sym c.both.ensures) ends }

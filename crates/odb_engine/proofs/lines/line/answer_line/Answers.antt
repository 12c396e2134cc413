use Rattle.std.proofs.Common.{◌≡◌, ◌∙◌, [], ◌++◌, min, take, length, sym, ap, subst, arith}
use Rattle.std.proofs.lemmas.Bool.Decides.{nat_tests}
use Rattle.std.proofs.lemmas.List.{take_min, nil_from_length}
use Rattle.odb_engine.specs.Inputs.{most_read}
use Rattle.odb_engine.specs.lines.Steps.{EndsAnswer, cut}
use Rattle.odb_engine.proofs.lines.line.answer_line.Goals as goal

pub returns-then-is_empty-clause-ends : goal.returns-then-is_empty-clause-ends
returns-then-is_empty-clause-ends g c =
    let end = c.args.end.now in
    let none : c.args.held.now.items ≡ [] = nil_from_length c.args.held.now.items (grind (arith, nat_tests)) in
    let least : c.min.result ≡ min most_read (length end) = omega (arith, c.min.ensures) in
    let same : take c.min.result end ≡ cut (c.args.held.now.items ++ end) =
    ap (λ n. take n end) least ∙ take_min most_read end ∙ ap (λ l. cut (l ++ end)) (sym none) in
    subst (λ line. EndsAnswer g.W.Write.contents (g.C.LineCommand.writes c.args.command.now c.args.number line) c.args.output.now c.answer.new.output c.answer.result) same
    (record { ends = c.answer.ensures.ends; memory = c.answer.ensures.memory })

use Rattle.std.proofs.Common.{Ok}
use Rattle.odb_engine.proofs.AllFaultLemmas.{ends-answered}
use Rattle.odb_engine.specs.lines.Numbers.{OfNumbered}
use Rattle.odb_engine.proofs.lines.each.EachLineLineCommand.answer.Goals as goal

pub returns-clause-ends : goal.returns-clause-ends
returns-clause-ends g c =
    let self = c.args.self.now in
    ends-answered g.W.Write.contents (OfNumbered self.setup.faults.numbered self.setup.faults.located self.name.now self.task c.args.number c.args.line.now self.setup.form) ⊥ c.args.output.now c.end.new.output (Ok c.in_ok-answer.answer) c.end.result
    c.in_ok-answer.ensures ((λ e. absurd (cc e)), (λ none. absurd none)) c.end.ensures.ends

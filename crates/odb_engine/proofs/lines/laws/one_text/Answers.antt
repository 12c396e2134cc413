use Rattle.odb_engine.specs.lines.Answers.{OfAnyLine}
use Rattle.odb_engine.proofs.EachLineLawLemmas.{OfAnyLine-one, answers-one}
use Rattle.odb_engine.proofs.lines.laws.one_text.Goals as goal

pub returns : goal.returns
returns g c =
    let P = g.C.LineCommand.writes c.args.command.now in
    answers-one (OfAnyLine P) (OfAnyLine-one P c.requires) 1

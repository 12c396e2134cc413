use Rattle.odb_text.proofs.DrawnLineLemmas.{arrows-drawn, clusters-drawn, nodes-drawn, plan-lines, ranks-drawn, trace-lines}
use Rattle.odb_text.proofs.laws.every_line.Goals as goal

pub returns : goal.returns
returns c = record { plan = plan-lines; trace = trace-lines; nodes = nodes-drawn; clusters = clusters-drawn; ranks = ranks-drawn; arrows = arrows-drawn }

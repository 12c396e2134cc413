use Rattle.odb_sched.proofs.openings.Openings.ask.Goals as goal

pub returns-clause-free : goal.returns-clause-free
returns-clause-free c = λ skipped. let are = c.find_free.ensures.free skipped in record { sound = are.sound; among = are.among }

use Rattle.std.proofs.Common.{Bool, IfOk, map, subst, sym}
use Rattle.odb_doc.specs.Refusals.{printed}
use Rattle.odb_engine.specs.Answered.{PrintsFound}
use Rattle.odb_engine.proofs.tasks.located.pair.print_found.Goals as goal

pub returns-then-setup-clause-prints : goal.returns-then-setup-clause-prints
returns-then-setup-clause-prints c =
    let documents = c.args.documents in
    subst (λ (located : Bool). IfOk c.locate_found.result (λ answer. PrintsFound located c.args.all c.args.two documents.number documents.is_pair c.args.setup.form documents.names.batch.now documents.batch.now documents.names.second.now documents.second.now
    (map printed c.args.faults.now) c.args.found answer.ended answer.text.items)) (sym c.if-setup.true) c.locate_found.ensures.located

pub returns-else-setup-clause-prints : goal.returns-else-setup-clause-prints
returns-else-setup-clause-prints c =
    let documents = c.args.documents in
    subst (λ (located : Bool). IfOk c.listed.result (λ answer. PrintsFound located c.args.all c.args.two documents.number documents.is_pair c.args.setup.form documents.names.batch.now documents.batch.now documents.names.second.now documents.second.now
    (map printed c.args.faults.now) c.args.found answer.ended answer.text.items)) (sym c.if-setup.false) c.listed.ensures.listed

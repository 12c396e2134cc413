use Rattle.std.proofs.Common.{IsSome, rules}
use Rattle.odb_doc.proofs.PartLemmas.{at, at-writes}
use Rattle.odb_doc.proofs.recorded.outcome.moved.Goals as goal

pub returns-clause-others : goal.returns-clause-others
returns-clause-others c other apart =
    let name = c.args.name.now in
    let whole = c.args.members.now in
    let value = c.take.new.self in
    let there : IsSome (at name whole) = search rules in
    at-writes name whole (c.get_mut.follows.lender value) value (c.get_mut.follows.holds value) there other apart

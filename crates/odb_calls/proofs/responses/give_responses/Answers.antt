use Rattle.std.proofs.Common.{rules}
use Rattle.odb_calls.specs.Responses.{response_of}
use Rattle.odb_calls.proofs.responses.give_responses.Goals as goal

pub returns : goal.returns
returns c = rw (c.as_str.ensures.value, c.deref.ensures.value) at (c.give_made.ensures response_of (λ item t post. search rules))

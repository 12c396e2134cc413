use Rattle.std.proofs.Common.{rules}
use Rattle.odb_calls.specs.Requests.{request_of}
use Rattle.odb_calls.proofs.requests.give_requests.Goals as goal

pub returns : goal.returns
returns c = rw (c.as_str.ensures.value, c.deref.ensures.value) at (c.give_made.ensures request_of (λ item t post. search rules))

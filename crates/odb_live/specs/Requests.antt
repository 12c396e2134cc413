-- What is to be sent of each request of the batch in a document.
use Rattle.std.specs.Prelude.{ℕ, List}
use Rattle.odb_engine.specs.Cascade.{AcceptsValue, HasValue}
use Rattle.odb_send.specs.Parts.{AreRequestsOf}
use Rattle.odb_send.specs.declared.requests.Requests.{Requests}

-- the bytes are a batch that the check accepts, and this is to be sent of its requests
abbrev pub Sends : List ℕ → Requests → Type 0
Sends bytes found = HasValue bytes (λ value. AcceptsValue value (λ batch. AreRequestsOf bytes value batch found))

-- A result that a task has written of a reader's document, and that may be a document.
use Rattle.std.proofs.Common.{List, None, Option, Some, IfSome, ℕ}
use Rattle.odb_engine.specs.Inputs.{SomeDocument}
use Rattle.odb_engine.specs.Written.{Allows}
use Rattle.odb_reply.specs.declared.strictness.Strictness.{Strictness}
use Rattle.odb_reply.specs.declared.strictness.Strictness.TheVariants.{Requests, Units}

-- what holds of each short result of a document holds of what a call returned
pub of-short : {X : Type 0} (IsShort : X → Type 0) (left : List ℕ) (P Q : List ℕ → X → Type 0) → ((bytes : List ℕ) (x : X) → IsShort x → P bytes x → Q bytes x) → (found : Option X)
    → IfSome found IsShort → IfSome found (λ x. SomeDocument (Some left) (λ bytes. P bytes x)) → IfSome found (λ x. SomeDocument (Some left) (λ bytes. Q bytes x))
of-short IsShort left P Q so None short is = tt
of-short IsShort left P Q so (Some x) short (bytes, gives, is) = (bytes, gives, so bytes x short is)

-- what runs by requests may answer is accepted by each match
pub allowed : (strict : Option Strictness) → Allows Requests strict
allowed None = tt
allowed (Some Requests) = tt
allowed (Some Units) = tt

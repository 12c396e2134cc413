-- The parts of responses in a text that grows.
use Rattle.std.proofs.Common.{ℕ, List}
use Rattle.std.specs.Prelude.{Result, Ok, Err, IfOk}
use Rattle.odb_reply.specs.ResponseDocuments.{Entry}
use Rattle.odb_send.specs.Pieces.{Extends}
use Rattle.odb_send.specs.ResponseParts.{HasResponseParts}
use Rattle.odb_send.specs.declared.responses.ResponseParts.{ResponseParts}
use Rattle.odb_send.proofs.PartLemmas.{kept-part, kept-part-if}

pub kept-parts : (old new : List ℕ) (entry : Entry) (parts : ResponseParts) → Extends old new → HasResponseParts old entry parts → HasResponseParts new entry parts
kept-parts old new entry parts grows held = record {
  id = kept-part old new _ _ grows held.id;
  group = kept-part-if old new _ _ grows held.group;
  status = held.status;
}

-- what follows from three things that hold of a result
pub all-ok : {T E : Type 0} (P Q R S : T → Type 0) (result : Result T E) → ((x : T) → P x → Q x → R x → S x) → IfOk result P → IfOk result Q → IfOk result R → IfOk result S
all-ok P Q R S (Ok x) more p q r = more x p q r
all-ok P Q R S (Err error) more p q r = tt

-- The responses in the document of a service, whatever batch they are of (OData JSON Format 4.01, section 19.5).
use Rattle.std.specs.Prelude.{ℕ, List}
use Rattle.serde_json.specs.Data.{Data}
use Rattle.odb_doc.specs.Refusals.{Printed}
use Rattle.odb_doc.specs.declared.fault.Place.TheVariants.{Responses}
use Rattle.odb_reply.specs.ResponseDocuments.{Entry, IsResponseDocument}
use Rattle.odb_send.specs.ResponseParts.{AreResponsesOf}
use Rattle.odb_send.specs.declared.responses.ResponseList.{ResponseList}
use Rattle.odb_engine.specs.Cascade.{HasValue, IsLeastOf}
use Rattle.odb_engine.specs.Matches.{IsFaultOfResponses}

-- the least fault of the bytes of a response document: of the bytes, or else of the value
abbrev pub IsLeastOfResponses : List ℕ → Printed → Type 0
IsLeastOfResponses = IsLeastOf Responses IsFaultOfResponses

-- the value is a response document, and these are its responses
abbrev pub HasResponsesIn : List ℕ → ResponseList → Data → Type 0
HasResponsesIn bytes found value = IsResponseDocument value × (entries : List Entry) × AreResponsesOf bytes value entries found

-- the bytes are a response document, and these are its responses
abbrev pub HasResponses : List ℕ → ResponseList → Type 0
HasResponses bytes found = HasValue bytes (HasResponsesIn bytes found)

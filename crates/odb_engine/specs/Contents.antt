-- What a document comes from, the document that it gives, and what is written of it.
use Rattle.std.specs.Prelude.{◌≡◌, ◌⊎◌, ℕ, List, [], Option, None, Some, Result, Ok, Err}
use Rattle.serde_json.specs.Data.{Data}
use Rattle.serde_json.specs.View.{view}
use Rattle.serde_json.specs.declared.value.Value.TheVariants.{Null}
use Rattle.odb_io.specs.Devices.{Reading}
use Rattle.odb_doc.specs.declared.fault.Place.{Place}
use Rattle.odb_doc.specs.declared.fault.Place.TheVariants as places
use Rattle.odb_doc.specs.Documents.{IsDocument}
use Rattle.odb_doc.specs.Refusals.{Printed}
use Rattle.odb_doc.specs.batch.Records.{Record}
use Rattle.odb_engine.specs.AllFaults.{AreFaultsIn, AreFaultsOf}
use Rattle.odb_engine.specs.Cascade.{WritesIn, Accepts, AcceptsValue, AnswersValue, OfDocument, RefusesBytes}
use Rattle.odb_engine.specs.Halts.{Halted}
use Rattle.odb_engine.specs.Inputs.{SomeDocument, WasRead}
use Rattle.odb_engine.specs.declared.halt.Halt.{Halt}

-- the bytes of a document, or its value
pub data Content : Type 0 where
  Bytes : List ℕ → Content
  Held : Data → Content

-- what a source gives: the document of a reader that has this left, the document in these bytes, or this value
pub data Given : Type 0 where
  ByReader : Option (List ℕ) → Given
  InMemory : List ℕ → Given
  InHand : Data → Given

-- the document that is given has the property
abbrev pub SomeContent : Given → (Content → Type 0) → Type 0
SomeContent (ByReader left) P = SomeDocument left (λ bytes. P (Bytes bytes))
SomeContent (InMemory bytes) P = P (Bytes bytes)
SomeContent (InHand value) P = P (Held value)

-- the bytes of the document; a value has none
abbrev pub bytes_in : Content → List ℕ
bytes_in (Bytes bytes) = bytes
bytes_in (Held value) = []

-- these are the bytes of the document
abbrev pub IsBytesOf : Content → List ℕ → Type 0
IsBytesOf (Bytes bytes) found = found ≡ bytes
IsBytesOf (Held value) found = ⊥

-- this is the value of the document
abbrev pub IsValueOf : Content → Data → Type 0
IsValueOf (Bytes bytes) value = IsDocument bytes value
IsValueOf (Held held) value = value ≡ held

-- the bytes of the document at this place have this refusal; a value has none
abbrev pub RefusesContent : Place → Content → Printed → Type 0
RefusesContent place (Bytes bytes) refusal = RefusesBytes place bytes refusal
RefusesContent place (Held value) refusal = ⊥

-- what is written of the document at a place: the fault of its bytes, or what P writes of its value
abbrev pub OfContent : Place → (Data → WritesIn) → Content → WritesIn
OfContent place P (Bytes bytes) form ended text = OfDocument place P bytes form ended text
OfContent place P (Held value) form ended text = P value form ended text

-- what is written of the document that is given at a place
abbrev pub OfGiven : Given → Place → (Data → WritesIn) → WritesIn
OfGiven given place P form ended text = SomeContent given (λ content. OfContent place P content form ended text)

-- the value of a second document where there is none
abbrev pub nothing : Data
nothing = view Null

-- the same if a document is taken; if none is, what P writes of nothing
abbrev pub OfTaken : Option Place → (Data → WritesIn) → Given → WritesIn
OfTaken None P given = P nothing
OfTaken (Some place) P given = OfGiven given place P

-- just this document is given
abbrev pub given_of : Content → Given
given_of (Bytes bytes) = InMemory bytes
given_of (Held value) = InHand value

-- what a command writes of a batch document and of the second document that is given, by their values and the bytes of the first
abbrev pub OfBatch : Option Place → (List ℕ → Data → List Record → WritesIn) → Given → Content → WritesIn
OfBatch place writes given content = OfContent places.Batch (AnswersValue (λ batch. OfTaken place (λ second. writes (bytes_in content) second batch) given)) content

-- the document is a batch that the check accepts, and its requests have this property
abbrev pub AcceptsContent : Content → (List Record → Type 0) → Type 0
AcceptsContent (Bytes bytes) P = Accepts bytes P
AcceptsContent (Held value) P = AcceptsValue value P

-- the list has all faults of the batch document
abbrev pub AreFaultsOfContent : Content → List Printed → Type 0
AreFaultsOfContent (Bytes bytes) refusals = AreFaultsIn bytes refusals
AreFaultsOfContent (Held value) refusals = AreFaultsOf value refusals

-- The second source is as it was, unless the first was read to the end of this document, and it is a batch that the check
-- accepts.
abbrev pub IsAskedFor : {S : Type 0} → Type 0 → Content → S → S → Type 0
IsAskedFor was_read content old new = (new ≡ old) ⊎ (was_read × AcceptsContent content (λ _. Unit {0}))

-- The same of two inputs: the first was read to the end of these bytes.
abbrev pub AskedFor : {R S : Type 0} → (R → Option (List ℕ)) → Reading R → Reading R → List ℕ → Reading S → Reading S → Type 0
AskedFor remaining first read bytes old new = IsAskedFor (WasRead remaining first read bytes) (Bytes bytes) old new

-- the input was read to the end of this document
abbrev pub WasReadAs : {R : Type 0} → (R → Option (List ℕ)) → Reading R → Reading R → Content → Type 0
WasReadAs remaining old new (Bytes bytes) = WasRead remaining old new bytes
WasReadAs remaining old new (Held value) = ⊥

-- this is so if the document was read, and either has a value or is refused
abbrev pub IfRead : {T : Type 0} → Type 0 → Result T Halt → Type 0
IfRead So (Ok value) = So
IfRead So (Err halt) = Halted (λ _. So) halt

-- What a call returns that gives all faults of a batch with where they are.
use Rattle.std.specs.Prelude.{◌≡◌, ℕ, List, [], ◌∷◌, ◌++◌, length}
use Rattle.std.specs.List.{AllZip}
use Rattle.odb_doc.specs.Refusals.{Printed}
use Rattle.odb_spans.specs.Positions.{Stands}
use Rattle.odb_spans.specs.declared.position.Position as spans
use Rattle.odb_text.specs.Lines.{fault_lines, place_text}
use Rattle.odb_engine.specs.AllFaults.{AreFaultsIn}
use Rattle.odb_calls.specs.declared.fault.Fault.{Fault}
use Rattle.odb_calls.specs.declared.request.Part.{Part}
use Rattle.odb_calls.specs.Lists.{Gives}
use Rattle.odb_calls.specs.Places.{position_in}
use Rattle.odb_calls.specs.Returns.{IsOutOfMemory}

-- the part of the text is this word
pub record IsWord (text word : List ℕ) (part : Part) : Type 0 where
  pub before : List ℕ
  pub after : List ℕ
  pub whole : text ≡ before ++ (word ++ after)
  pub starts : part.start ≡ length before
  pub long : part.length ≡ length word

-- where the words of the line of a fault lie in the text
pub record HasWords (text : List ℕ) (refusal : Printed) (fault : Fault) : Type 0 where
  pub code : IsWord text refusal.code fault.code
  pub name : IsWord text refusal.name fault.name
  pub place : IsWord text (place_text refusal.place) fault.place

-- the element of the fault's place begins at its position in the document
pub record IsPlaced (document : List ℕ) (refusal : Printed) (fault : Fault) : Type 0 where
  pub found : spans.Position
  pub stands : Stands document refusal.place found
  pub is : fault.position ≡ position_in found

-- both
abbrev pub IsFault : List ℕ → List ℕ → Printed → Fault → Type 0
IsFault document text refusal fault = HasWords text refusal fault × IsPlaced document refusal fault

-- the text has a line for each of these faults of the document, and the list has each of them
pub record AreFaults (document : List ℕ) (refusals : List Printed) (text : List ℕ) (faults : List Fault) : Type 0 where
  pub lines : text ≡ fault_lines refusals
  pub each : AllZip (IsFault document text) refusals faults

-- they are all faults of the batch in these bytes
pub record ListsFaults (bytes text : List ℕ) (faults : List Fault) : Type 0 where
  pub refusals : List Printed
  pub all : AreFaultsIn bytes refusals
  pub are : AreFaults bytes refusals text faults

-- the batch is refused if it has a fault
abbrev pub status_by : List Fault → ℕ
status_by [] = 0
status_by (fault ∷ faults) = 1

-- what the call returns
pub data GivesFaults (bytes : List ℕ) (status text_length count : ℕ) (text new_text : List ℕ) (faults new_faults : List Fault) : Type 0 where
  Given : (lines : List ℕ) (found : List Fault) → ListsFaults bytes lines found → Gives lines found (status_by found) status text_length count text new_text faults new_faults → GivesFaults bytes status text_length count text new_text faults new_faults
  OutOfMemory : IsOutOfMemory status text_length text new_text → count ≡ 0 → new_faults ≡ faults → GivesFaults bytes status text_length count text new_text faults new_faults

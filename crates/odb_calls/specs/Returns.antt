-- What a call from C returns, and what it leaves in the buffer of its caller.
use Rattle.std.specs.Prelude.{◌≡◌, ◌<◌, ◌≤◌, ℕ, List, ◌++◌, length, drop}
use Rattle.odb_engine.specs.declared.ending.Ended.{Ended}
use Rattle.odb_engine.specs.declared.ending.Ended.TheVariants.{Done, Refused}
use Rattle.odb_engine.specs.declared.form.Form.{Form}
use Rattle.odb_engine.specs.declared.halt.Halt.{Halt}
use Rattle.odb_engine.specs.declared.halt.Halt.TheVariants as halts
use Rattle.odb_engine.specs.Cascade.{Writes}
use Rattle.odb_engine.specs.Contents.Given.{InMemory}
use Rattle.odb_engine.specs.Tasks.{OfDocuments}
use Rattle.odb_engine.specs.declared.tasks.task.Task.{Task}

-- the status of an end
abbrev pub status_of : Ended → ℕ
status_of Done = 0
status_of Refused = 1

-- the status of a halt, which no read of memory fails
abbrev pub halt_status : Halt → ℕ
halt_status (halts.Refused refusal) = 1
halt_status halts.Read = 4
halt_status halts.OutOfMemory = 4

-- what a task writes of the documents in these bytes, in a form; the second is one only if the task takes one
abbrev pub Does : Task → Form → List ℕ → List ℕ → Writes
Does task form batch second = OfDocuments task (InMemory second) batch form

-- The items are at the start of the buffer, and the rest of it is as it was; or there is no room for them, and all of it is as it
-- was. How many there are is returned in both cases.
pub data Fills (items : List ℕ) (done status count : ℕ) (old new : List ℕ) : Type 0 where
  Whole : length items ≤ length old → status ≡ done → count ≡ length items → new ≡ items ++ drop (length items) old → Fills items done status count old new
  TooLong : length old < length items → status ≡ 5 → count ≡ length items → new ≡ old → Fills items done status count old new

-- an allocation failed, and nothing is written
pub record IsOutOfMemory (status text_length : ℕ) (old new : List ℕ) : Type 0 where
  pub is : status ≡ 4
  pub none : text_length ≡ 0
  pub same : new ≡ old

-- an option is a number that it may not be, and nothing is written
pub record IsWrongOption (status text_length : ℕ) (old new : List ℕ) : Type 0 where
  pub is : status ≡ 2
  pub none : text_length ≡ 0
  pub same : new ≡ old

-- what a call returns
pub data Returns (P : Writes) (status text_length : ℕ) (old new : List ℕ) : Type 0 where
  Given : (ended : Ended) (text : List ℕ) → P ended text → Fills text (status_of ended) status text_length old new → Returns P status text_length old new
  OutOfMemory : IsOutOfMemory status text_length old new → Returns P status text_length old new

-- no option is named
abbrev pub NamesNone : {O : Type 0} → (O → Type 0) → Type 0
NamesNone {O} Names = (options : O) → ¬ Names options

-- what a call with options returns: what it does by the options that its numbers name, or that they name none
pub data ReturnsBy {O : Type 0} (Names : O → Type 0) (R : O → ℕ → ℕ → List ℕ → List ℕ → Type 0) (status text_length : ℕ) (old new : List ℕ) : Type 0 where
  Named : (options : O) → Names options → R options status text_length old new → ReturnsBy Names R status text_length old new
  WrongOption : NamesNone Names → IsWrongOption status text_length old new → ReturnsBy Names R status text_length old new

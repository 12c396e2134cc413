-- What is written of the lines of an input.
use Rattle.std.specs.Prelude.{◌≡◌, ◌↔◌, ℕ, suc, List, [], ◌∷◌, ◌++◌, Option, Some, Result, Err, IfOk, IfSome, IsTrue, take}
use Rattle.std.specs.Io.KnownBytes.{Consumes}
use Rattle.odb_io.specs.Devices.{Writing}
use Rattle.odb_engine.specs.declared.ending.Ended.{Ended}
use Rattle.odb_engine.specs.declared.ending.Ended.TheVariants.{Done, Refused}
use Rattle.odb_engine.specs.declared.ending.EngineFault.{EngineFault}
use Rattle.odb_engine.specs.declared.ending.EngineFault.TheVariants as faults
use Rattle.odb_engine.specs.Cascade.{Writes}
use Rattle.odb_engine.specs.Engines.{WritesText, WritesPrefix}
use Rattle.odb_engine.specs.Inputs.{SomeDocument}
use Rattle.odb_engine.specs.lines.Lines.{lines_of, ended_lines}
use Rattle.odb_engine.specs.lines.Sources.{LineReading, left}

-- What a command writes of a line: what it writes of the bytes that are read of a document, if the line is all that a reader
-- has left.
abbrev pub OfAnyLine : (ℕ → List ℕ → Writes) → ℕ → List ℕ → Writes
OfAnyLine P number line ended text = SomeDocument (Some line) (λ bytes. P number bytes ended text)

-- refused if one of the two is
abbrev pub both : Ended → Ended → Ended
both Done ended = ended
both Refused ended = Refused

-- what is written of lines from this number on, if this is written of each: their answers in order, refused if one of them is
pub data AnswersFrom (P : ℕ → List ℕ → Writes) : ℕ → List (List ℕ) → Ended → List ℕ → Type 0 where
  NoLine : (number : ℕ) → AnswersFrom P number [] Done []
  Line : (number : ℕ) (line answer texts : List ℕ) (lines : List (List ℕ)) (ended others : Ended) → P number line ended answer → AnswersFrom P (suc number) lines others texts
      → AnswersFrom P number (line ∷ lines) (both ended others) (answer ++ texts)

-- the same of all lines of an input, which are counted from 1
abbrev pub AnswersEach : (ℕ → List ℕ → Writes) → List (List ℕ) → Writes
AnswersEach P = AnswersFrom P 1

-- the writer has received the answers to these lines, whatever their end
abbrev pub HasAnswered : Option (List ℕ) → Option (List ℕ) → (ℕ → List ℕ → Writes) → List (List ℕ) → Type 0
HasAnswered old new P lines = (ended : Ended) × WritesText old new (AnswersEach P lines ended)

-- How the lines of an input are answered, if this is written of each, and what was read then. Read means exactly that a read
-- failed, and each line that a newline ends was answered then; Write means exactly that the output failed, and it has received a
-- prefix of the answers to some first lines. Out of memory it has received the answers to some first lines, each of them whole.
pub record AnswersLines {R W : Type 0} (remaining : R → Option (List ℕ)) (contents : W → Option (List ℕ))
    (P : ℕ → List ℕ → Writes) (before after : LineReading R) (old new : Writing W) (result : Result Ended EngineFault) : Type 0 where
  pub bytes : List ℕ
  pub given : Consumes (left remaining before) (left remaining after) bytes
  pub all : IfOk result (λ _. IfSome (left remaining before) (λ known. bytes ≡ known))
  pub ended : IfOk result (λ ended. WritesText (contents old.writer) (contents new.writer) (AnswersEach P (lines_of bytes) ended))
  pub read : (result ≡ Err faults.Read) ↔ IsTrue after.failed
  pub unread : result ≡ Err faults.Read → HasAnswered (contents old.writer) (contents new.writer) P (ended_lines bytes)
  pub write : (result ≡ Err faults.Write) ↔ IsTrue new.failed
  pub part : result ≡ Err faults.Write → (n : ℕ) × WritesPrefix (contents old.writer) (contents new.writer) (AnswersEach P (take n (lines_of bytes)))
  pub memory : result ≡ Err faults.OutOfMemory
      → (n : ℕ) × HasAnswered (contents old.writer) (contents new.writer) P (take n (lines_of bytes))

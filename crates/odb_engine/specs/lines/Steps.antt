-- For private clauses: one step of the way through the lines.
use Rattle.std.specs.Prelude.{◌≡◌, ◌≢◌, ◌+◌, ℕ, List, [], ◌∷◌, ◌++◌, All, Option, Result, Ok, Err, OnOk, take}
use Rattle.std.specs.Io.Buffered.{reader_buffer}
use Rattle.std.specs.Io.KnownBytes.{Consumes}
use Rattle.odb_check.specs.Texts.{newline}
use Rattle.odb_io.specs.Devices.{Writing}
use Rattle.odb_engine.specs.declared.ending.Ended.{Ended}
use Rattle.odb_engine.specs.declared.ending.Ended.TheVariants.{Done}
use Rattle.odb_engine.specs.declared.ending.EngineFault.{EngineFault}
use Rattle.odb_engine.specs.declared.ending.EngineFault.TheVariants as faults
use Rattle.odb_engine.specs.Cascade.{Writes}
use Rattle.odb_engine.specs.Engines.{Ends}
use Rattle.odb_engine.specs.Inputs.{most_read}
use Rattle.odb_engine.specs.lines.Sources.{LineReading}

-- the bytes of an input that were read and not yet taken
abbrev pub ahead : {R : Type 0} → LineReading R → List ℕ
ahead input = reader_buffer input.reader

-- no newline is in it
abbrev pub IsOpen : List ℕ → Type 0
IsOpen bytes = All (λ byte. byte ≢ newline) bytes

-- the part of a line that is kept
abbrev pub cut : List ℕ → List ℕ
cut line = take most_read line

-- a command over a line ends as this is written, and out of memory it has written nothing
pub record EndsAnswer {W : Type 0} (contents : W → Option (List ℕ)) (P : Writes) (old new : Writing W) (result : Result Ended EngineFault) : Type 0 where
  pub ends : Ends contents P ⊥ old new result
  pub memory : result ≡ Err faults.OutOfMemory → new ≡ old

-- What is held of a line and a piece of the input: the piece is held too, or its newline ends the line, which is answered and
-- counted.
pub data Advances {W : Type 0} (contents : W → Option (List ℕ)) (P : ℕ → List ℕ → Writes) (left rest : Option (List ℕ)) (count counted : ℕ) (held kept : List ℕ) (old new : Writing W) (result : Result Ended EngineFault) : Type 0 where
  Holds : (piece : List ℕ) → IsOpen piece → Consumes left rest piece → new ≡ old → counted ≡ count → kept ≡ cut (held ++ piece) → result ≡ Ok Done → Advances contents P left rest count counted held kept old new result
  Lacks : (piece : List ℕ) → IsOpen piece → Consumes left rest piece → new ≡ old → result ≡ Err faults.OutOfMemory → Advances contents P left rest count counted held kept old new result
  Answers : (piece : List ℕ) → IsOpen piece → Consumes left rest (piece ++ newline ∷ []) → counted ≡ count + 1 → EndsAnswer contents (P (count + 1) (cut (held ++ piece))) old new result → OnOk result (kept ≡ [])
      → Advances contents P left rest count counted held kept old new result

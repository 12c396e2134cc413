-- What an input of lines shows: its reader, whether a read failed, and how often it was filled.
use Rattle.std.specs.Prelude.{ℕ, Bool, List, Option}
use Rattle.std.specs.Io.Buffered.{reader_remaining}
use Rattle.std.specs.declared.alloc.Global.{Global}
use Rattle.std.specs.declared.io.buffered.BufReader.{BufReader}

pub record LineReading (R : Type 0) : Type 0 where
  pub reader : BufReader R Global
  pub failed : Bool
  pub fills : ℕ

-- the bytes that it will still give, if the contract of its reader states them
abbrev pub left : {R : Type 0} → (R → Option (List ℕ)) → LineReading R → Option (List ℕ)
left remaining input = reader_remaining remaining input.reader

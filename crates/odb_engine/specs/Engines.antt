-- How an engine ends, and what it has written then.
use Rattle.std.specs.Prelude.{◌≡◌, ◌↔◌, ◌⊎◌, ℕ, List, Option, Result, Err, IsTrue, IfOk}
use Rattle.std.specs.Io.KnownBytes.{Appends}
use Rattle.odb_io.specs.Devices.{Writing, AppendsPrefix}
use Rattle.odb_engine.specs.declared.ending.Ended.{Ended}
use Rattle.odb_engine.specs.declared.ending.EngineFault.{EngineFault}
use Rattle.odb_engine.specs.declared.ending.EngineFault.TheVariants as faults
use Rattle.odb_engine.specs.Cascade.{Writes}

-- the writer has received such a text
pub record WritesText (old new : Option (List ℕ)) (P : List ℕ → Type 0) : Type 0 where
  pub text : List ℕ
  pub so : P text
  pub written : Appends old new text

-- the writer has received a prefix of the text of a command that ends somehow
pub record WritesPrefix (old new : Option (List ℕ)) (P : Writes) : Type 0 where
  pub ended : Ended
  pub text : List ℕ
  pub so : P ended text
  pub written : AppendsPrefix old new text

-- How an engine ends whose whole output is as P says. It returns Read if and only if an input failed, and Write if and only
-- if the output did. If it runs out of memory, it has written nothing, or a prefix.
pub record Ends {W : Type 0} (contents : W → Option (List ℕ)) (P : Writes) (ReadFailed : Type 0) (old new : Writing W) (result : Result Ended EngineFault) : Type 0 where
  pub ended : IfOk result (λ ended. WritesText (contents old.writer) (contents new.writer) (P ended))
  pub read : (result ≡ Err faults.Read) ↔ ReadFailed
  pub unread : result ≡ Err faults.Read → new ≡ old
  pub write : (result ≡ Err faults.Write) ↔ IsTrue new.failed
  pub part : result ≡ Err faults.Write → WritesPrefix (contents old.writer) (contents new.writer) P
  pub memory : result ≡ Err faults.OutOfMemory → (new ≡ old) ⊎ WritesPrefix (contents old.writer) (contents new.writer) P

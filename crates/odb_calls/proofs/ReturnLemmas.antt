-- What is given to the caller is what the command writes.
use Rattle.std.proofs.Common.{ℕ, List, Result, Ok, Err, IfOk, OnErr}
use Rattle.std.specs.declared.alloc.AllocError.{AllocError}
use Rattle.odb_engine.specs.Cascade.{Writes}
use Rattle.odb_engine.specs.declared.tasks.answer.Answer.{Answer}
use Rattle.odb_calls.specs.Returns.{Fills, IsOutOfMemory, Returns, status_of}
use Rattle.odb_calls.specs.Returns.Returns.{Given, OutOfMemory}

pub returned : (P : Writes) (answer : Result Answer AllocError) (status text_length : ℕ) (old new : List ℕ) → IfOk answer (λ a. P a.ended a.text.items)
    → IfOk answer (λ a. Fills a.text.items (status_of a.ended) status text_length old new) → OnErr answer (IsOutOfMemory status text_length old new) → Returns P status text_length old new
returned P (Err error) status text_length old new so ok err = OutOfMemory err
returned P (Ok a) status text_length old new so ok err = Given a.ended a.text.items so ok

-- A text that an engine has written, as a document of another.
use Rattle.std.specs.Prelude.{◌≤◌, ℕ, List, length, IsUtf8, Option, None, Some}
use Rattle.odb_doc.specs.Documents.{most_bytes}
use Rattle.odb_reply.specs.declared.strictness.Strictness.{Strictness}
use Rattle.odb_reply.specs.declared.strictness.Strictness.TheVariants.{Requests, Units}
use Rattle.odb_engine.specs.declared.ending.Ended.TheVariants.{Done}
use Rattle.odb_engine.specs.declared.form.Form.{Form}
use Rattle.odb_engine.specs.declared.tasks.task.Task.{Task}
use Rattle.odb_engine.specs.Contents.Given.{InMemory}
use Rattle.odb_engine.specs.Tasks.{OfDocuments}

-- the text is not too long for a document, and in UTF-8, as a `String` is
pub record MayBeDocument (text : List ℕ) : Type 0 where
  pub short : length text ≤ most_bytes
  pub utf8 : IsUtf8 text

-- in each form the task writes a result of these documents
abbrev pub IsDone : Task → List ℕ → List ℕ → Type 0
IsDone task batch second = (form : Form) → (text : List ℕ) × OfDocuments task (InMemory second) batch form Done text

-- a match that is so strict accepts statuses that are possible of such runs: what requests alone may answer units may too
abbrev pub Allows : Strictness → Option Strictness → Type 0
Allows by None = Unit {0}
Allows by (Some Units) = Unit {0}
Allows Requests (Some Requests) = Unit {0}
Allows Units (Some Requests) = ⊥

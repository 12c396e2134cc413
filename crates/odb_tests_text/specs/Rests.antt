-- The text of the rest of a batch, or why there is none.
use Rattle.std.specs.Prelude.{ℕ, Bool, List, IsSome}
use Rattle.serde_json.specs.Data.{Data}
use Rattle.odb_doc.specs.batch.Records.{Record}
use Rattle.odb_send.specs.declared.rest.Rest.{Rest}
use Rattle.odb_send.specs.Answers.{Answer}
use Rattle.odb_send.specs.Faults.{RefusesRest, RestFault, rest_row}
use Rattle.odb_send.specs.Rests.{IsRestOf}
use Rattle.odb_send.specs.Texts.{IsTextOf}
use Rattle.odb_send.specs.Units.{AreMarksOf, IsInRest}

-- the text is that of the rest of the batch in the document, by these statuses and answers
pub record HasRestText (document : List ℕ) (d : Data) (rs : List Record) (statuses : List ℕ) (answers : ℕ → Answer) (text : List ℕ) : Type 0 where
  pub rest : Rest
  pub rest_is : IsRestOf rs statuses answers rest
  pub text_is : IsTextOf document d rs rest text

-- by this fault the batch has no rest
pub record HasNoRest (rs : List Record) (statuses : List ℕ) (answers : ℕ → Answer) (fault : RestFault) : Type 0 where
  pub numbered : IsSome (rest_row fault)
  pub units : List Bool
  pub marks : AreMarksOf rs (IsInRest rs statuses) units
  pub refuses : (other : List Bool) → AreMarksOf rs (IsInRest rs statuses) other → RefusesRest fault rs other answers

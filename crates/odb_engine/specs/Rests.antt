-- What is written of the rest of a batch, by the response document of a service (OData JSON Format 4.01, sections 19.1 and
-- 19.4).
use Rattle.std.specs.Prelude.{◌≡◌, ◌⊎◌, ◌++◌, ◌∷◌, ℕ, List, [], Bool, Some}
use Rattle.serde_json.specs.Data.{Data}
use Rattle.odb_doc.specs.batch.Records.{Record}
use Rattle.odb_doc.specs.Refusals.{Printed}
use Rattle.odb_check.specs.Texts.{newline}
use Rattle.odb_sched.specs.declared.policy.Mode.{Mode}
use Rattle.odb_send.specs.Faults.{RestFault, RefusesRest, rest_row}
use Rattle.odb_send.specs.declared.rest.Rest.{Rest}
use Rattle.odb_send.specs.Answers.{recorded}
use Rattle.odb_send.specs.Rests.{IsRestOf}
use Rattle.odb_send.specs.Texts.{IsTextOf}
use Rattle.odb_send.specs.Units.{AreMarksOf, IsInRest}
use Rattle.odb_send.specs.Parts.{IsBatchIn}
use Rattle.odb_engine.specs.declared.ending.Ended.{Ended}
use Rattle.odb_engine.specs.declared.ending.Ended.TheVariants.{Done}
use Rattle.odb_engine.specs.Cascade.{Reports, WritesIn}
use Rattle.odb_engine.specs.Matches.{OfResponses}

-- a request of the rest lacks a Location or an ETag, by the marks of the units that are in it, and this is the least fault
pub record LacksHeaders (batch : List Record) (value : Data) (places statuses : List ℕ) (refusal : Printed) : Type 0 where
  pub fault : RestFault
  pub units : List Bool
  pub marks : AreMarksOf batch (IsInRest batch statuses) units
  pub least : RefusesRest fault batch units (recorded value places statuses)
  pub is : rest_row fault ≡ Some refusal

-- the text is that of the rest, and a newline
pub record PrintsRest (document : List ℕ) (batch : List Record) (value : Data) (places statuses : List ℕ) (ended : Ended) (text : List ℕ) : Type 0 where
  pub rest : Rest
  pub rest_is : IsRestOf batch statuses (recorded value places statuses) rest
  pub line : List ℕ
  pub line_is : (d : Data) → IsBatchIn document d batch → IsTextOf document d batch rest line
  pub ends : ended ≡ Done
  pub prints : text ≡ line ++ newline ∷ []

-- what is written of the rest of a batch, by the place and the status of the response to each request
abbrev pub WritesRest : List ℕ → List Record → Data → List ℕ → List ℕ → WritesIn
WritesRest document batch value places statuses form ended text = Reports (LacksHeaders batch value places statuses) form ended text ⊎ PrintsRest document batch value places statuses ended text

-- what is written of the batch in a document and the value of a response document, by whether an error stops the service
abbrev pub RestsValue : Mode → List ℕ → List Record → Data → WritesIn
RestsValue mode document batch value = OfResponses (WritesRest document batch value) mode batch value

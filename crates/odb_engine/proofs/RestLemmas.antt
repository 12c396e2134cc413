-- The exits of a rest, and its result.
use Rattle.std.proofs.Common.{◌≡◌, ◌++◌, ◌∷◌, ℕ, List, [], Bool, IsSome, is_some, inl, inr, refl, ap}
use Rattle.odb_check.specs.Texts.{newline}
use Rattle.serde_json.specs.Data.{Data}
use Rattle.odb_doc.specs.batch.Records.{Record}
use Rattle.odb_sched.specs.declared.policy.Mode.{Mode}
use Rattle.odb_send.specs.Faults.{RestFault, RefusesRest, rest_row}
use Rattle.odb_send.specs.declared.rest.Rest.{Rest}
use Rattle.odb_send.specs.Answers.{recorded}
use Rattle.odb_send.specs.Rests.{IsRestOf}
use Rattle.odb_send.specs.Texts.{IsTextOf}
use Rattle.odb_send.specs.Units.{AreMarksOf, IsInRest}
use Rattle.odb_send.specs.Parts.{IsBatchIn}
use Rattle.odb_engine.specs.declared.ending.Ended.TheVariants.{Done, Refused}
use Rattle.odb_engine.specs.declared.halt.Halt.{Halt}
use Rattle.odb_engine.specs.declared.form.Form.{Form}
use Rattle.odb_engine.specs.Forms.{fault_text}
use Rattle.odb_engine.specs.Halts.{Refuses, HaltsBy}
use Rattle.odb_engine.specs.Matches.{IsTableIn}
use Rattle.odb_engine.specs.Rests.{LacksHeaders, RestsValue, WritesRest}
use Rattle.odb_engine.proofs.EngineLemmas.{reports, halted-by}
use Rattle.odb_engine.proofs.MatchLemmas.{by-table}

-- a Location or an ETag is missing
pub rest-lacks : (mode : Mode) (form : Form) (document : List ℕ) (batch : List Record) (value : Data) (places statuses : List ℕ) (fault : RestFault) → IsTableIn mode batch value places statuses
    → ((units : List Bool) → AreMarksOf batch (IsInRest batch statuses) units → RefusesRest fault batch units (recorded value places statuses))
    → (IsSome (rest_row fault) → (units : List Bool) × AreMarksOf batch (IsInRest batch statuses) units) → (halt : Halt) → HaltsBy (rest_row fault) halt → Refuses (RestsValue mode document batch value) form halt
rest-lacks mode form document batch value places statuses fault table least marks = halted-by (λ refusal. RestsValue mode document batch value form Refused (fault_text form refusal)) _
    (λ refusal row.
    let units = marks (ap is_some row) in
    by-table (WritesRest document batch value) mode batch value places statuses form Refused (fault_text form refusal) table
    (inl (reports (LacksHeaders batch value places statuses) form refusal (record { fault = fault; units = units.0; marks = units.1; least = least units.0 units.1; is = row }))))

-- the text of the rest, and a newline
pub found-rest : (mode : Mode) (form : Form) (document : List ℕ) (batch : List Record) (value : Data) (places statuses line text : List ℕ) (rest : Rest) → IsTableIn mode batch value places statuses
    → IsRestOf batch statuses (recorded value places statuses) rest → ((d : Data) → IsBatchIn document d batch → IsTextOf document d batch rest line) → text ≡ line ++ newline ∷ [] → RestsValue mode document batch value form Done text
found-rest mode form document batch value places statuses line text rest table is written same =
    by-table (WritesRest document batch value) mode batch value places statuses form Done text table (inr (record { rest = rest; rest_is = is; line = line; line_is = written; ends = refl; prints = same }))

-- What is written of a line of a log, by how its faults are printed.
use Rattle.std.specs.Prelude.{◌≡◌, ◌+◌, ◌-◌, ◌++◌, ℕ, Bool, true, false, List, Option, None, Some, length, take, drop, codes}
use Rattle.std.specs.Fmt.{decimal}
use Rattle.memchr.specs.Find.{IsFirstByte, is_byte}
use Rattle.odb_engine.specs.Cascade.{WritesIn}
use Rattle.odb_engine.specs.declared.ending.Ended.TheVariants.{Done, Refused}
use Rattle.odb_engine.specs.declared.form.Form.{Form}
use Rattle.odb_engine.specs.declared.form.Form.TheVariants.{Lines, Json}
use Rattle.odb_engine.specs.declared.tasks.task.Task.{Task}
use Rattle.odb_engine.specs.Located.{LocatesLine}
use Rattle.odb_engine.specs.Tasks.{OfWholeLine}

-- what a task writes of the line of this number in the log of this name, with where its faults are if they are located
abbrev pub OfLocated : Bool → List ℕ → Task → ℕ → List ℕ → WritesIn
OfLocated false name task number line = OfWholeLine task line
OfLocated true name task number line = LocatesLine task name number line

-- the text of a fault with this number: before its words, which begin here, or as a member `line` beside the member `fault`
abbrev pub numbered_text : Form → ℕ → ℕ → List ℕ → List ℕ
numbered_text Lines number start fault = take start fault ++ decimal number ++ codes " " ++ drop start fault
numbered_text Json number start fault = take (length fault - 2) fault ++ codes ",\"line\":" ++ decimal number ++ codes "}\n"

-- where the words of a fault begin that is printed with where it is: after this blank, if there is one
abbrev pub after_blank : List ℕ → Option ℕ → ℕ
after_blank name None = 0
after_blank name (Some at) = length name + at + 1

-- the words of a fault begin here: at its beginning, or after the first blank that follows the name of the log
abbrev pub StartsWords : Bool → List ℕ → List ℕ → ℕ → Type 0
StartsWords false name fault start = start ≡ 0
StartsWords true name fault start = (found : Option ℕ) × IsFirstByte (is_byte 32) (drop (length name) fault) found × (start ≡ after_blank name found)

-- the text is that of the fault with the number
pub record HasNumber (located : Bool) (name : List ℕ) (form : Form) (number : ℕ) (fault text : List ℕ) : Type 0 where
  pub start : ℕ
  pub starts : StartsWords located name fault start
  pub is : text ≡ numbered_text form number start fault

-- the same with the number of the line in each fault, if that is asked
abbrev pub OfNumbered : Bool → Bool → List ℕ → Task → ℕ → List ℕ → WritesIn
OfNumbered false located name task number line form ended text = OfLocated located name task number line form ended text
OfNumbered true located name task number line form Done text = OfLocated located name task number line form Done text
OfNumbered true located name task number line form Refused text = (fault : List ℕ) × OfLocated located name task number line form Refused fault × HasNumber located name form number fault text

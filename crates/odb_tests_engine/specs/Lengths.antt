-- What the command of the tests of lines writes.
use Rattle.std.specs.Prelude.{◌≡◌, ◌==◌, ◌++◌, ◌∷◌, [], ℕ, List, length, if◌then◌else◌}
use Rattle.std.specs.Fmt.{decimal}
use Rattle.odb_check.specs.Texts.{newline}
use Rattle.odb_engine.specs.declared.ending.Ended.{Ended}
use Rattle.odb_engine.specs.declared.ending.Ended.TheVariants.{Done, Refused}
use Rattle.odb_engine.specs.Cascade.{Writes}

-- an empty line is refused
abbrev pub end_of : List ℕ → Ended
end_of line = if length line == 0 then Refused else Done

-- how long the line is
abbrev pub WritesLength : List ℕ → Writes
WritesLength line ended text = (ended ≡ end_of line) × (text ≡ decimal (length line) ++ newline ∷ [])

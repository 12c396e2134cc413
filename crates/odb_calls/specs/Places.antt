-- What the call returns that says where the element of a place begins and ends.
use Rattle.std.specs.Prelude.{◌≡◌, ◌≢◌, ◌<◌, ℕ, List, length}
use Rattle.odb_doc.specs.declared.fault.Place.{Place}
use Rattle.odb_spans.specs.declared.position.Position as spans
use Rattle.odb_spans.specs.Positions.{Stands}
use Rattle.odb_text.specs.Lines.{place_text}
use Rattle.odb_text.specs.Places.{FitsWord}
use Rattle.odb_calls.specs.declared.position.Position.{Position}

-- a position as numbers
abbrev pub position_in : spans.Position → Position
position_in found = record { line = found.line; column = found.column; offset = found.offset; end = found.end }

-- What is returned by the text of a place, and what is then in the position of the caller. Without a document no memory is
-- needed.
pub data GivesPlace (document text : List ℕ) (status : ℕ) (old new : Position) : Type 0 where
  Found : (place : Place) (found : spans.Position) → text ≡ place_text place → Stands document place found → status ≡ 0 → new ≡ position_in found → GivesPlace document text status old new
  NoPlace : ((place : Place) → FitsWord place → text ≢ place_text place) → status ≡ 2 → new ≡ old → GivesPlace document text status old new
  OutOfMemory : (place : Place) → text ≡ place_text place → 0 < length document → status ≡ 4 → new ≡ old → GivesPlace document text status old new

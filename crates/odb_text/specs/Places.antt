-- Of which places the texts are read.
use Rattle.std.specs.Prelude.{◌<◌, ◌^◌, ⊤}
use Rattle.odb_doc.specs.declared.fault.Place.{Place}
use Rattle.odb_doc.specs.declared.fault.Place.TheVariants.{Batch, Request, Outcomes, Outcome, Responses, Response, Events, Event}

-- the place is a document, or the position of an element that is a number of 64 bits
abbrev pub FitsWord : Place → Type 0
FitsWord Batch = ⊤
FitsWord (Request at) = at < 2 ^ 64
FitsWord Outcomes = ⊤
FitsWord (Outcome at) = at < 2 ^ 64
FitsWord Responses = ⊤
FitsWord (Response at) = at < 2 ^ 64
FitsWord Events = ⊤
FitsWord (Event at) = at < 2 ^ 64

-- the place is an element of a document
abbrev pub IsElement : Place → Type 0
IsElement Batch = ⊥
IsElement (Request at) = ⊤
IsElement Outcomes = ⊥
IsElement (Outcome at) = ⊤
IsElement Responses = ⊥
IsElement (Response at) = ⊤
IsElement Events = ⊥
IsElement (Event at) = ⊤

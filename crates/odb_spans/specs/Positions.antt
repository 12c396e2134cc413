-- Where the element that a place names begins in a document: what the public clauses cite.
use Rattle.std.specs.Prelude.{◌≡◌, ◌≤◌, ◌<◌, ◌+◌, ◌-◌, ◌==◌, ◌||◌, ℕ, Bool, true, false, cond, List, ◌++◌, length, take, get_or, set, slice_get, Option, Some, None, nat_lt, nat_le, count_by, codes}
use Rattle.std.specs.List.{after_last}
use Rattle.json.specs.Lex.{between, lex}
use Rattle.json.specs.Word.{is_space}
use Rattle.serde_json.specs.Data.{Data, null, boolean, array, item, no_items}
use Rattle.odb_doc.specs.Documents.{IsJson}
use Rattle.odb_doc.specs.Members.{elements_at}
use Rattle.odb_doc.specs.declared.fault.Place.{Place}
use Rattle.odb_doc.specs.declared.fault.Place.TheVariants.{Batch, Request, Outcomes, Outcome, Responses, Response, Events, Event}
use Rattle.odb_spans.specs.Spans.{bytes_of, replaced}
use Rattle.odb_spans.specs.declared.position.Position.{Position}
use Rattle.odb_spans.specs.declared.span.Span.{Span}

-- a line ends with this byte
abbrev pub is_newline : ℕ → Bool
is_newline byte = byte == 10

-- a character of UTF-8 begins with this byte (RFC 3629): it is not one of 128 to 191
abbrev pub begins_character : ℕ → Bool
begins_character byte = nat_lt byte 128 || nat_le 192 byte

-- The line is 1 and the lines that end before the offset. The column is 1 and the characters that begin before the offset in its line. The end does not come before the offset.
pub record IsPosition (document : List ℕ) (position : Position) : Type 0 where
  pub order : position.offset ≤ position.end
  pub within : position.end ≤ length document
  pub line : position.line ≡ 1 + count_by is_newline (take position.offset document)
  pub column : position.column ≡ 1 + count_by begins_character (after_last is_newline (take position.offset document))

-- two positions are at one line, one column and one offset
pub record BeginAlike (one other : Position) : Type 0 where
  pub line : one.line ≡ other.line
  pub column : one.column ≡ other.column
  pub offset : one.offset ≡ other.offset

-- the bytes from the position to its end
abbrev pub span_of : Position → Span
span_of position = record { start = position.offset; end = position.end }

-- the bytes of the span are the JSON text of the value, and do not begin with a blank (RFC 8259, section 2)
pub record IsTextAt (document : List ℕ) (span : Span) (d : Data) : Type 0 where
  pub some : span.start < span.end
  pub within : span.end ≤ length document
  pub reads : IsJson (bytes_of document span) d
  pub first : is_space (get_or document span.start 0) ≡ false

-- the JSON text of the document's value lies at the span, and before it are blanks alone
pub record IsWhole (document : List ℕ) (span : Span) (d : Data) : Type 0 where
  pub text : IsTextAt document span d
  pub blanks : (k : ℕ) → k < span.start → is_space (get_or document k 0) ≡ true

-- with this text in the place of the span, the array at the member of this name holds this value at this position, and its other elements as they were
pub record HoldsWith (text : List ℕ) (value : Data) (document : List ℕ) (d : Data) (name : List ℕ) (at : ℕ) (span : Span) : Type 0 where
  pub changed : Data
  pub reads : IsJson (replaced document span text) changed
  pub elements : elements_at name changed ≡ set (elements_at name d) at value

-- The element at this position of the array at the member of this name lies at the span: with `null` in its place the array holds null there, and with `true` it holds true. An element that is null differs from true. No token goes over its start: whatever comes there, the tokens before it are the same. It ends with no blank (RFC 8259, section 2).
pub record IsPlaceOfElement (document : List ℕ) (d : Data) (name : List ℕ) (at : ℕ) (span : Span) : Type 0 where
  pub with_null : HoldsWith (codes "null") null document d name at span
  pub with_true : HoldsWith (codes "true") (boolean true) document d name at span
  pub cut : (text : List ℕ) → lex between (take span.start document ++ text) ≡ lex between (take span.start document) ++ lex between text
  pub last : is_space (get_or document (span.end - 1) 0) ≡ false

-- the element, if any, lies at the span; else the whole value
abbrev pub ElementLiesAt : List ℕ → Span → List ℕ → ℕ → Data → Option Data → Type 0
ElementLiesAt document span name at d None = IsWhole document span d
ElementLiesAt document span name at d (Some element) = IsTextAt document span element × IsPlaceOfElement document d name at span

-- the element at this position of the array at the member of this name lies at the span
abbrev pub LiesIn : List ℕ → Span → List ℕ → ℕ → Data → Type 0
LiesIn document span name at d = ElementLiesAt document span name at d (slice_get (elements_at name d) at)

-- the value that the place names lies at the span
abbrev pub ValueLiesAt : List ℕ → Span → Data → Place → Type 0
ValueLiesAt document span d Batch = IsWhole document span d
ValueLiesAt document span d (Request at) = LiesIn document span (codes "requests") at d
ValueLiesAt document span d Outcomes = IsWhole document span d
ValueLiesAt document span d (Outcome at) = LiesIn document span (codes "outcomes") at d
ValueLiesAt document span d Responses = IsWhole document span d
ValueLiesAt document span d (Response at) = LiesIn document span (codes "responses") at d
ValueLiesAt document span d Events = IsWhole document span d
ValueLiesAt document span d (Event at) = LiesIn document span (codes "events") at d

-- The position is one of the document. If the document is JSON, the value that the place names lies from there to its end.
pub record Stands (document : List ℕ) (place : Place) (position : Position) : Type 0 where
  pub counts : IsPosition document position
  pub lies : (d : Data) → IsJson document d → ValueLiesAt document (span_of position) d place

-- ---- two documents in a line

-- an array of a batch and a second document
abbrev pub pair : Data → Data → Data
pair batch second = array (item batch (item second no_items))

-- A value of the line lies at the span, in the place that `filled` fills: with `null` there the line holds `filled null`, and so with `true`. Its text is there, and ends with no blank. No token goes over its start, whatever comes there.
pub record IsPlaceOfPart (line : List ℕ) (span : Span) (part : Data) (filled : Data → Data) : Type 0 where
  pub text : IsTextAt line span part
  pub with_null : IsJson (replaced line span (codes "null")) (filled null)
  pub with_true : IsJson (replaced line span (codes "true")) (filled (boolean true))
  pub cut : (text : List ℕ) → lex between (take span.start line ++ text) ≡ lex between (take span.start line) ++ lex between text
  pub last : is_space (get_or line (span.end - 1) 0) ≡ false

-- the value is a pair, whose two documents lie at these spans of the line, one after the other
pub record ArePartsOf (line : List ℕ) (first other : Span) (d : Data) : Type 0 where
  pub batch : Data
  pub second : Data
  pub is : d ≡ pair batch second
  pub order : first.end ≤ other.start
  pub first_place : IsPlaceOfPart line first batch (λ value. pair value second)
  pub other_place : IsPlaceOfPart line other second (λ value. pair batch value)

-- the place is in the batch, not in the second document
abbrev pub is_in_batch : Place → Bool
is_in_batch Batch = true
is_in_batch (Request at) = true
is_in_batch Outcomes = false
is_in_batch (Outcome at) = false
is_in_batch Responses = false
is_in_batch (Response at) = false
is_in_batch Events = false
is_in_batch (Event at) = false

-- the value that the place names in a part of the line lies at the span, which is one of the line
pub record LiesInPart (line : List ℕ) (part : Span) (span : Span) (d : Data) (place : Place) : Type 0 where
  pub after : part.start ≤ span.start
  pub lies : ValueLiesAt (bytes_of line part) (record { start = span.start - part.start; end = span.end - part.start }) d place

-- the value of the line is a pair, and what the place names in its document lies at the span
pub record LiesInPairOf (line : List ℕ) (span : Span) (place : Place) (d : Data) : Type 0 where
  pub first : Span
  pub other : Span
  pub parts : ArePartsOf line first other d
  pub lies : cond (is_in_batch place) (LiesInPart line first span parts.batch place) (LiesInPart line other span parts.second place)

-- The value that the place names in the pair lies there, or the line's value if that is not a pair. Only of a line that is JSON.
pub record LiesInPair (line : List ℕ) (span : Span) (place : Place) : Type 0 where
  pub pairs : (batch second : Data) → IsJson line (pair batch second) → LiesInPairOf line span place (pair batch second)
  pub others : (d : Data) → IsJson line d → ((batch second : Data) → ¬ (d ≡ pair batch second)) → IsWhole line span d

-- The position is one of the line. If the line is JSON, the value that the place names in the pair lies from there to its end.
pub record StandsInPair (line : List ℕ) (place : Place) (position : Position) : Type 0 where
  pub counts : IsPosition line position
  pub lies : LiesInPair line (span_of position) place

-- Where the members of the elements of a document lie, as the bodies of a batch: what the public clauses cite.
use Rattle.std.specs.Prelude.{◌≡◌, ◌≤◌, ◌-◌, ℕ, suc, List, [], ◌∷◌, ◌++◌, length, take, drop, get_or, set, map, true, false, Option, Some, None, ⊤, codes}
use Rattle.json.specs.Lex.{between, lex}
use Rattle.json.specs.Word.{is_space}
use Rattle.serde_json.specs.Data.{Data, boolean}
use Rattle.serde_json.specs.Find.{get}
use Rattle.odb_doc.specs.Documents.{IsJson}
use Rattle.odb_doc.specs.Nesting.{NestsWithin}
use Rattle.odb_doc.specs.Members.{elements_at, given}
use Rattle.odb_spans.specs.declared.span.Span.{Span}

-- the bytes of the span
abbrev pub bytes_of : List ℕ → Span → List ℕ
bytes_of document span = take (span.end - span.start) (drop span.start document)

-- the span, if any, lies within so many bytes
abbrev pub IsWithin : ℕ → Option Span → Type 0
IsWithin len None = ⊤
IsWithin len (Some span) = (span.start ≤ span.end) × (span.end ≤ len)

-- the bytes of the span are the JSON text of this value, and nest at most 124 deep
pub record IsSpanOf (document : List ℕ) (span : Span) (d : Data) : Type 0 where
  pub order : span.start ≤ span.end
  pub within : span.end ≤ length document
  pub reads : IsJson (bytes_of document span) d
  pub nests : NestsWithin 124 (bytes_of document span)

-- the value of an element's member of this name; null is treated as absent
abbrev pub member_of : List ℕ → Data → Option Data
member_of name element = given (get name element)

-- the span is that of the element's member of this name, or there is neither
abbrev pub HasMemberAt : List ℕ → List ℕ → Data → Option Span → Type 0
HasMemberAt name document element None = member_of name element ≡ None
HasMemberAt name document element (Some span) = (value : Data) × (member_of name element ≡ Some value) × IsSpanOf document span value

-- the members of this name of the elements of the array at a member of the document, in order
abbrev pub members_of : List ℕ → List ℕ → Data → List (Option Data)
members_of list name d = map (member_of name) (elements_at list d)

-- the document with this text in the place of the span
abbrev pub replaced : List ℕ → Span → List ℕ → List ℕ
replaced document span text = take span.start document ++ (text ++ drop span.end document)

-- with this text in the place of the span, the element at this position has this member of the name, or none, and the others have theirs
pub record HasMemberWith (text : List ℕ) (member : Option Data) (list name document : List ℕ) (d : Data) (at : ℕ) (span : Span) : Type 0 where
  pub changed : Data
  pub reads : IsJson (replaced document span text) changed
  pub members : members_of list name changed ≡ set (members_of list name d) at member

-- The span is where this member of the element at this position lies: with `null` in its place the element has no such member, and with `true` it is true. No token goes over its start: whatever comes there, the tokens before it are the same. It begins and ends with no blank (RFC 8259, section 2).
pub record IsPlaceOfMember (list name document : List ℕ) (d : Data) (at : ℕ) (span : Span) : Type 0 where
  pub with_null : HasMemberWith (codes "null") None list name document d at span
  pub with_true : HasMemberWith (codes "true") (Some (boolean true)) list name document d at span
  pub cut : (text : List ℕ) → lex between (take span.start document ++ text) ≡ lex between (take span.start document) ++ lex between text
  pub first : is_space (get_or document span.start 0) ≡ false
  pub last : is_space (get_or document (span.end - 1) 0) ≡ false

-- the span is that of the body of the request, or there is neither
abbrev pub HasBodyAt : List ℕ → Data → Option Span → Type 0
HasBodyAt document request span = HasMemberAt (codes "body") document request span

-- the span is where the body of the request at this position lies
abbrev pub IsPlaceOfBody : List ℕ → Data → ℕ → Span → Type 0
IsPlaceOfBody document d at span = IsPlaceOfMember (codes "requests") (codes "body") document d at span

-- P holds of each span that there is, with its position, from `at` on
abbrev pub EachSpan : (ℕ → Span → Type 0) → ℕ → List (Option Span) → Type 0
EachSpan P at [] = ⊤
EachSpan P at (None ∷ spans) = EachSpan P (suc at) spans
EachSpan P at (Some span ∷ spans) = P at span × EachSpan P (suc at) spans

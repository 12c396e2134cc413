-- What a scan finds of the parts of a document: for private clauses, nothing to believe.
use Rattle.std.specs.Prelude.{◌≡◌, ◌≤◌, ◌<◌, ◌+◌, ◌-◌, ℕ, suc, drop, ⊤, List, [], ◌∷◌, ◌++◌, length, slice_get, true, Bool, Option, Some, None, IsUtf8, bytes_eq, codes}
use Rattle.std.specs.Str.{IsCharBoundary}
use Rattle.std.specs.List.{All, AllZip}
use Rattle.json.specs.Token.{Token}
use Rattle.json.specs.Align.{is_good}
use Rattle.json.specs.Lex.{Place, fresh, after_value, may_begin, tokens}
use Rattle.json.specs.Json as json
use Rattle.json.specs.Find.{get, get_member, is_null, later_or}
use Rattle.json.specs.Tree.{json_tokens, items_tokens, members_tokens}
use Rattle.serde_json.specs.Data.{Data}
use Rattle.odb_doc.specs.Documents.{IsJson}
use Rattle.odb_spans.specs.Positions.{LiesIn}
use Rattle.odb_spans.specs.Spans.{IsWithin, bytes_of}
use Rattle.odb_spans.specs.Cuts.{IsCut, IsClear}
use Rattle.odb_spans.specs.Extents.{value_extent}
use Rattle.odb_spans.specs.Walks.{Faces, IsInside, IsSolidAt, tokens_from}
use Rattle.odb_spans.specs.declared.member.Member.{Member}
use Rattle.odb_spans.specs.declared.span.Span.{Span}

-- the member whose name begins there
pub record IsMemberAt (text : List ℕ) (at : ℕ) (member : Member) : Type 0 where
  pub starts : member.name.start ≡ at
  pub some : at < member.name.end
  pub order : member.name.end ≤ member.value
  pub within : member.value ≤ length text
  pub name : (k : List ℕ) (ts : List Token) → Faces text at (Token.key k) ts → tokens (bytes_of text member.name) ≡ Token.string k ∷ []
  pub value : (k : List ℕ) (t : Token) (ts : List Token) → is_good t ≡ true → Faces text at (Token.key k) (t ∷ ts) → tokens_from fresh text member.value ≡ t ∷ ts
  pub solid : IsSolidAt text member.value
  pub utf8 : IsUtf8 text → IsCharBoundary text at → IsUtf8 (bytes_of text member.name)
  pub boundary : IsUtf8 text → IsCharBoundary text member.value
  pub cut : IsCut text at → IsCut text member.value
  pub clear : (k : List ℕ) (t : Token) (ts : List Token) → is_good t ≡ true → Faces text at (Token.key k) (t ∷ ts) → IsCut text at → IsClear text member.value

-- whether the text is a string with this content
abbrev pub IsNamed : List ℕ → List ℕ → Bool → Type 0
IsNamed string name same = (k : List ℕ) → IsUtf8 string → tokens string ≡ Token.string k ∷ [] → same ≡ bytes_eq k name

abbrev pub IsNameIn : List ℕ → Span → List ℕ → Bool → Type 0
IsNameIn text span name same = IsNamed (bytes_of text span) name same

-- after an opening brace or a member, the others are ms, and then come ts
pub record HasMembers (text : List ℕ) (at : ℕ) (ms : json.Members) (ts : List Token) : Type 0 where
  pub place : Place
  pub inside : IsInside place
  pub spelled : tokens_from place text at ≡ members_tokens ms ++ ts
  pub utf8 : IsUtf8 text
  pub boundary : IsCharBoundary text at
  pub cut : IsCut text at

-- after an opening bracket or an item, the others are js, and then come ts
pub record HasItems (text : List ℕ) (at : ℕ) (js : json.Items) (ts : List Token) : Type 0 where
  pub place : Place
  pub inside : IsInside place
  pub spelled : tokens_from place text at ≡ items_tokens js ++ ts
  pub utf8 : IsUtf8 text
  pub boundary : IsCharBoundary text at
  pub cut : IsCut text at
  pub clear : place ≡ fresh → IsClear text at

-- the value j begins there, and then come ts
pub record HasValue (text : List ℕ) (at : ℕ) (j : json.Json) (ts : List Token) : Type 0 where
  pub place : Place
  pub begin : may_begin place ≡ true
  pub spelled : tokens_from place text at ≡ json_tokens j ++ ts
  pub solid : IsSolidAt text at
  pub utf8 : IsUtf8 text
  pub boundary : IsCharBoundary text at
  pub cut : IsCut text at

-- a value has ended there, and then come ts
pub record HasEnded (text : List ℕ) (at : ℕ) (ts : List Token) : Type 0 where
  pub follow : ts ≡ tokens_from after_value text at
  pub boundary : IsCharBoundary text at
  pub cut : IsCut text at

-- the bytes of the span are the text of j alone
pub record IsTextOf (text : List ℕ) (span : Span) (j : json.Json) : Type 0 where
  pub order : span.start ≤ span.end
  pub within : span.end ≤ length text
  pub utf8 : IsUtf8 (bytes_of text span)
  pub spelled : tokens (bytes_of text span) ≡ json_tokens j
  pub solid : IsSolidAt text span.start
  pub some : span.start < length text

abbrev pub IsValueSpan : List ℕ → Option Span → Option json.Json → Type 0
IsValueSpan text None o = o ≡ None
IsValueSpan text (Some span) o = (j : json.Json) × (o ≡ Some j) × IsTextOf text span j

-- the value, where null is treated as absent
abbrev pub given_json : Option json.Json → Option json.Json
given_json None = None
given_json (Some json.null) = None
given_json (Some (json.boolean b)) = Some (json.boolean b)
given_json (Some (json.number s)) = Some (json.number s)
given_json (Some (json.string s)) = Some (json.string s)
given_json (Some (json.array js)) = Some (json.array js)
given_json (Some (json.object ms)) = Some (json.object ms)

-- whether the span is that of null
abbrev pub IsNullAt : List ℕ → Span → Bool → Type 0
IsNullAt text span null = (j : json.Json) → IsTextOf text span j → null ≡ is_null j

-- the same span, or none if it is that of null
abbrev pub IsGiven : List ℕ → Option Span → Option Span → Type 0
IsGiven text span given = (o : Option json.Json) → IsValueSpan text span o → IsValueSpan text given (given_json o)

abbrev pub list_of : json.Items → List json.Json
list_of json.no_items = []
list_of (json.item j js) = j ∷ list_of js

-- the items of an array
abbrev pub items_in : Option json.Json → List json.Json
items_in None = []
items_in (Some json.null) = []
items_in (Some (json.boolean b)) = []
items_in (Some (json.number s)) = []
items_in (Some (json.string s)) = []
items_in (Some (json.array js)) = list_of js
items_in (Some (json.object ms)) = []

-- the span is that of the value of the member of this name, which is not null, or there is neither
abbrev pub HasMemberText : List ℕ → List ℕ → json.Json → Option Span → Type 0
HasMemberText name text element span = IsValueSpan text span (given_json (get name element))

abbrev pub HaveMemberTexts : List ℕ → List ℕ → List json.Json → List (Option Span) → Type 0
HaveMemberTexts name text elements spans = AllZip (HasMemberText name text) elements spans

-- ---- the place of a value

abbrev pub append_members : json.Members → json.Members → json.Members
append_members json.no_members others = others
append_members (json.member k j ms) others = json.member k j (append_members ms others)

abbrev pub append_items : json.Items → json.Items → json.Items
append_items json.no_items others = others
append_items (json.item j js) others = json.item j (append_items js others)

abbrev pub count_items : json.Items → ℕ
count_items json.no_items = 0
count_items (json.item j js) = suc (count_items js)

-- the value j lies at the span, and then come ts
pub record LiesAt (text : List ℕ) (span : Span) (j : json.Json) (ts : List Token) : Type 0 where
  pub some : span.start < span.end
  pub extent : span.end ≡ span.start + value_extent (drop span.start text)
  pub has : HasValue text span.start j ts
  pub clear : IsClear text span.start
  pub ended : HasEnded text span.end ts

abbrev pub LiesAtSome : List ℕ → Option Span → json.Json → List Token → Type 0
LiesAtSome text None j ts = ⊤
LiesAtSome text (Some span) j ts = LiesAt text span j ts

-- The value is that of a member of this name; R holds of it and of what comes after it. Of the members after it the last of this name has the value o.
pub record IsMemberOf (name : List ℕ) (ms : json.Members) (value : json.Json) (o : Option json.Json) (ts : List Token) (R : json.Json → List Token → Type 0) : Type 0 where
  pub earlier : json.Members
  pub key : List ℕ
  pub later : json.Members
  pub is : ms ≡ append_members earlier (json.member key value later)
  pub named : bytes_eq key name ≡ true
  pub rest : get_member name later ≡ o
  pub holds : R value (members_tokens later ++ ts)

abbrev pub IsSomeMemberOf : List ℕ → json.Members → Option json.Json → Option json.Json → List Token → (json.Json → List Token → Type 0) → Type 0
IsSomeMemberOf name ms None o ts R = ⊤
IsSomeMemberOf name ms (Some value) o ts R = IsMemberOf name ms value o ts R

-- the span is where the member of this name of the element lies
pub record LiesInElement (name text : List ℕ) (span : Span) (element : json.Json) (ts : List Token) : Type 0 where
  pub members : json.Members
  pub object : element ≡ json.object members
  pub value : json.Json
  pub member : IsMemberOf name members value None ts (LiesAt text span)

abbrev pub LiesInElementSome : List ℕ → List ℕ → Option Span → json.Json → List Token → Type 0
LiesInElementSome name text None element ts = ⊤
LiesInElementSome name text (Some span) element ts = LiesInElement name text span element ts

-- R holds of the item at this position, and of what comes after it
pub record HoldsOfItem (R : json.Json → List Token → Type 0) (at : ℕ) (js : json.Items) (ts : List Token) : Type 0 where
  pub earlier : json.Items
  pub item : json.Json
  pub later : json.Items
  pub is : js ≡ append_items earlier (json.item item later)
  pub count : count_items earlier ≡ at
  pub holds : R item (items_tokens later ++ ts)

-- so for the items of an array
pub record HoldsInArray (R : json.Json → List Token → Type 0) (at : ℕ) (j : json.Json) (ts : List Token) : Type 0 where
  pub items : json.Items
  pub array : j ≡ json.array items
  pub holds : HoldsOfItem R at items ts

-- ---- what is still to come

-- The others of the members ms are still to come; the span is that of the last value of this name before them.
pub record MembersLeft (name text : List ℕ) (at : ℕ) (span : Option Span) (ms : json.Members) (ts : List Token) : Type 0 where
  pub done : json.Members
  pub others : json.Members
  pub found : Option json.Json
  pub has : HasMembers text at others ts
  pub holds : IsValueSpan text span found
  pub same : get_member name ms ≡ later_or (get_member name others) found
  pub whole : ms ≡ append_members done others
  pub place : IsSomeMemberOf name ms found (get_member name others) ts (LiesAtSome text span)

-- the value of the last member of this name, and where it lies
pub record FindsMember (name text : List ℕ) (start : ℕ) (span : Option Span) : Type 0 where
  pub bounds : IsWithin (length text) span
  pub finds : (ms : json.Members) (ts : List Token) → HasMembers text start ms ts → IsValueSpan text span (get_member name ms) × IsSomeMemberOf name ms (get_member name ms) None ts (LiesAtSome text span)

-- the member of this name of the element there
pub record GivesMember (name text : List ℕ) (at : ℕ) (span : Option Span) : Type 0 where
  pub bounds : IsWithin (length text) span
  pub gives : (j : json.Json) (ts : List Token) → HasValue text at j ts → HasMemberText name text j span × LiesInElementSome name text span j ts

-- the members of this name of these elements
abbrev pub GiveMembers : List ℕ → List ℕ → List Span → List (Option Span) → Type 0
GiveMembers name text elements spans = AllZip (λ (element : Span). GivesMember name text element.start) elements spans

-- ---- one element

-- the next of the items js lies at the span, and the others come after it
pub record IsNextItem (text : List ℕ) (span : Span) (js : json.Items) (ts : List Token) : Type 0 where
  pub value : json.Json
  pub others : json.Items
  pub is : js ≡ json.item value others
  pub text_of : IsTextOf text span value
  pub lies : LiesAt text span value (items_tokens others ++ ts)
  pub has : HasItems text span.end others ts

-- the next item of an array, after its opening bracket or an item
abbrev pub GivesNext : List ℕ → ℕ → Option Span → Type 0
GivesNext text at None = (js : json.Items) (ts : List Token) → HasItems text at js ts → js ≡ json.no_items
GivesNext text at (Some span) = (at ≤ span.start) × (span.start < span.end) × (span.end ≤ length text) × ((js : json.Items) (ts : List Token) → HasItems text at js ts → IsNextItem text span js ts)

-- The others of the items js are still to come, and the item at this position of js is the one at `left` of them.
pub record ItemLeft (text : List ℕ) (at position left : ℕ) (js : json.Items) (ts : List Token) : Type 0 where
  pub done : json.Items
  pub others : json.Items
  pub has : HasItems text at others ts
  pub whole : js ≡ append_items done others
  pub count : count_items done + left ≡ position
  pub same : slice_get (list_of js) position ≡ slice_get (list_of others) left

-- the item at this position lies at the span, if there is a span
abbrev pub ItemLiesAt : List ℕ → Option Span → ℕ → json.Json → List Token → Type 0
ItemLiesAt text None position j ts = ⊤
ItemLiesAt text (Some span) position j ts = HoldsInArray (LiesAt text span) position j ts

-- the item at this position of js, if any, lies at the span
abbrev pub IsItemAt : List ℕ → ℕ → Option Span → json.Items → List Token → Type 0
IsItemAt text position span js ts = IsValueSpan text span (slice_get (list_of js) position) × ItemLiesAt text span position (json.array js) ts

-- The items of js before `at` lie at the spans, and the others are still to come.
pub record ItemsPassed (text : List ℕ) (at : ℕ) (spans : List Span) (js : json.Items) (ts : List Token) : Type 0 where
  pub here : (position : ℕ) → position < length spans → IsItemAt text position (slice_get spans position) js ts
  pub left : (position : ℕ) → length spans ≤ position → ItemLeft text at position (position - length spans) js ts

-- the items of an array, which begins after its opening bracket
pub record FindsItems (text : List ℕ) (start : ℕ) (spans : List Span) : Type 0 where
  pub bounds : All (λ span. IsWithin (length text) (Some span)) spans
  pub finds : (js : json.Items) (ts : List Token) → HasItems text start js ts → (position : ℕ) → IsItemAt text position (slice_get spans position) js ts

-- the item at a position of the value there
pub record GivesItem (text : List ℕ) (at position : ℕ) (span : Option Span) : Type 0 where
  pub bounds : IsWithin (length text) span
  pub gives : (j : json.Json) (ts : List Token) → HasValue text at j ts → IsValueSpan text span (slice_get (items_in (Some j)) position) × ItemLiesAt text span position j ts

-- the items of the value there
abbrev pub GivesItemsAt : List ℕ → ℕ → List Span → Type 0
GivesItemsAt text at spans = (position : ℕ) → GivesItem text at position (slice_get spans position)

-- the last member of this name has an array, whose item at this position lies at the span
pub record LiesInMember (text : List ℕ) (span : Span) (name : List ℕ) (position : ℕ) (j : json.Json) : Type 0 where
  pub members : json.Members
  pub object : j ≡ json.object members
  pub value : json.Json
  pub member : IsMemberOf name members value None [] (HoldsInArray (LiesAt text span) position)

abbrev pub LiesInMemberSome : List ℕ → Option Span → List ℕ → ℕ → json.Json → Type 0
LiesInMemberSome text None name position j = ⊤
LiesInMemberSome text (Some span) name position j = LiesInMember text span name position j

-- the element at a position of the array at a member of the document's object, which begins there
pub record FindsElement (name text : List ℕ) (start position : ℕ) (span : Option Span) : Type 0 where
  pub bounds : IsWithin (length text) span
  pub finds : (j : json.Json) → HasValue text start j [] → IsValueSpan text span (slice_get (items_in (get name j)) position) × LiesInMemberSome text span name position j

-- the elements of the array at a member of the document's object, which begins there
abbrev pub FindsElements : List ℕ → List ℕ → ℕ → List Span → Type 0
FindsElements name text start spans = (position : ℕ) → FindsElement name text start position (slice_get spans position)

-- the requests of the batch at these positions, if any, lie at the spans
abbrev pub LieRequests : List ℕ → List Span → Type 0
LieRequests text spans =
    (position : ℕ) (span : Span) → slice_get spans position ≡ Some span → IsWithin (length text) (Some span) × ((d : Data) → IsJson text d → LiesIn text span (codes "requests") position d)

-- the value is an array of two items, which lie at the spans
pub record IsPairOf (text : List ℕ) (first second : Span) (j : json.Json) : Type 0 where
  pub one : json.Json
  pub two : json.Json
  pub is : j ≡ json.array (json.item one (json.item two json.no_items))
  pub first_text : IsTextOf text first one
  pub second_text : IsTextOf text second two
  pub first_lies : LiesAt text first one (items_tokens (json.item two json.no_items) ++ [])
  pub second_lies : LiesAt text second two (items_tokens json.no_items ++ [])

-- the two documents of a pair whose array begins there
abbrev pub GivesPair : List ℕ → ℕ → Option (Span × Span) → Type 0
GivesPair text start None = (one two : json.Json) → HasValue text start (json.array (json.item one (json.item two json.no_items))) [] → ⊥
GivesPair text start (Some (first, second)) =
    IsWithin (length text) (Some first) × IsWithin (length text) (Some second) × (first.end ≤ second.start) × ((j : json.Json) → HasValue text start j [] → IsPairOf text first second j)

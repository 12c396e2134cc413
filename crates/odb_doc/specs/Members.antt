-- Looking into the objects of a batch document and of documents of outcomes and of events.
use Rattle.std.specs.Prelude.{◌≡◌, ◌==◌, ◌&&◌, ℕ, List, [], ◌∷◌, Option, Some, None, IsSome, option_and_then, option_map, unwrap_or, codes, bytes_eq, Bool, true, not}
use Rattle.std.specs.List.{list_any}
use Rattle.serde_json.specs.Data.{Data, null, object, Items, no_items, item, Members, no_members, member}
use Rattle.serde_json.specs.Find.{get, as_array, as_str}
use Rattle.odb_doc.specs.declared.member.Object.{Object}
use Rattle.odb_doc.specs.declared.member.Object.TheVariants.{Outcomes, Outcome, Events, Start, Report}

abbrev pub list_of : Items → List Data
list_of no_items = []
list_of (item d ds) = d ∷ list_of ds

abbrev pub names_of : Members → List (List ℕ)
names_of no_members = []
names_of (member name d ms) = name ∷ names_of ms

-- the names of an object's members
abbrev pub names_in : Data → List (List ℕ)
names_in (object ms) = names_of ms
names_in _ = []

-- the string at a member
abbrev pub text_at : List ℕ → Data → Option (List ℕ)
text_at name d = option_and_then as_str (get name d)

-- the value at a member, where null is treated as absent
abbrev pub given : Option Data → Option Data
given None = None
given (Some null) = None
given (Some d) = Some d

-- the array at a member
abbrev pub array_at : List ℕ → Data → Option Items
array_at name d = option_and_then as_array (get name d)

-- the elements of the array at a member
abbrev pub elements_at : List ℕ → Data → List Data
elements_at name d = unwrap_or (option_map list_of (array_at name d)) []

-- the names of the members that a batch document may have, and those that a request may have
abbrev pub document_names : List (List ℕ)
document_names = codes "requests" ∷ []

abbrev pub request_names : List (List ℕ)
request_names =
    codes "id" ∷ codes "method" ∷ codes "url" ∷ codes "atomicityGroup" ∷ codes "dependsOn" ∷ codes "if" ∷ codes "headers" ∷ codes "body" ∷ []

-- the names of the members of an outcome or a report, whose id is at this one
abbrev pub outcome_names : List ℕ → List (List ℕ)
outcome_names id_name = id_name ∷ codes "status" ∷ codes "headers" ∷ codes "body" ∷ []

-- the names of the members that an object of recorded outcomes or events may have
abbrev pub members_of : Object → List (List ℕ)
members_of Outcomes = codes "outcomes" ∷ []
members_of Outcome = outcome_names (codes "id")
members_of Events = codes "events" ∷ []
members_of Start = codes "start" ∷ []
members_of Report = outcome_names (codes "report")

-- the name contains `@`
abbrev pub is_annotation : List ℕ → Bool
is_annotation name = list_any (λ byte. byte == 64) name

abbrev pub is_one_of : List (List ℕ) → List ℕ → Bool
is_one_of names name = list_any (λ known. bytes_eq name known) names

-- the name is not an annotation, and not one of these
unfoldable pub is_unknown : List (List ℕ) → List ℕ → Bool
is_unknown known name = not (is_annotation name) && not (is_one_of known name)

-- some member is not an annotation, and not one of these
abbrev pub HasUnknown : List (List ℕ) → Data → Type 0
HasUnknown known d = list_any (is_unknown known) (names_in d) ≡ true

-- the name is not one of these
abbrev pub is_other : List (List ℕ) → List ℕ → Bool
is_other known name = not (is_one_of known name)

-- some member, even an annotation, is not one that the object may have
abbrev pub HasOther : Object → Data → Type 0
HasOther owner d = list_any (is_other (members_of owner)) (names_in d) ≡ true

-- an object whose one member is an array at this name
pub record IsListObject (owner : Object) (name : List ℕ) (d : Data) : Type 0 where
  pub one : ¬ HasOther owner d
  pub array : IsSome (array_at name d)

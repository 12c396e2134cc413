-- The shape of a batch document: where each fault applies (OData JSON Format 4.01, section 19.1).
use Rattle.std.specs.Prelude.{◌≡◌, ◌<◌, ℕ, false, List, [], ◌∷◌, length, Option, Some, None, IsSome, IsNone, IsSomeAnd, option_and_then, option_map, bytes_eq, codes}
use Rattle.std.specs.List.{IsDistinct}
use Rattle.serde_json.specs.Data.{Data, null, array, Items, no_items, item}
use Rattle.serde_json.specs.Find.{get, as_str, as_object}
use Rattle.odb_names.specs.Fronts.{HasFront, bad}
use Rattle.odb_names.specs.Identifiers.{IsRequestId}
use Rattle.odb_names.specs.Methods.{Names, takes_body}
use Rattle.odb_names.specs.Segments.{IsNestedBatch}
use Rattle.odb_names.specs.declared.method.Method.{Method}
use Rattle.odb_doc.specs.declared.fault.DocumentRule.{DocumentRule}
use Rattle.odb_doc.specs.declared.fault.DocumentRule.TheVariants as document
use Rattle.odb_doc.specs.declared.fault.RequestRule.{RequestRule}
use Rattle.odb_doc.specs.declared.fault.RequestRule.TheVariants as request
use Rattle.odb_doc.specs.batch.Bodies.{body_of, HasBadBody}
use Rattle.odb_doc.specs.Headers.{listed_headers, header_names}
use Rattle.odb_doc.specs.Members.{array_at, elements_at, text_at, given, document_names, request_names, HasUnknown}

-- the array at `requests`
abbrev pub requests_in : Data → Option Items
requests_in d = array_at (codes "requests") d

-- the elements of `requests`
abbrev pub elements : Data → List Data
elements d = elements_at (codes "requests") d

-- Where a rule of the document is broken. A value has been read, so the document is not too long, and is JSON.
abbrev pub BreaksDocument : DocumentRule → Data → Type 0
BreaksDocument document.TooLong d = ⊥
BreaksDocument document.NotJson d = ⊥
BreaksDocument document.NotObject d = IsNone (as_object d)
BreaksDocument document.NoRequests d = IsSome (as_object d) × IsNone (requests_in d)
BreaksDocument document.UnknownMember d = HasUnknown document_names d
BreaksDocument document.TooMany d = 10000 < length (elements d)

-- the member `id` is this identifier
pub record HasId (d : Data) (id : List ℕ) : Type 0 where
  pub text : text_at (codes "id") d ≡ Some id
  pub form : IsRequestId id

-- the member `method` names this method
pub record HasMethod (d : Data) (method : Method) : Type 0 where
  pub name : List ℕ
  pub text : text_at (codes "method") d ≡ Some name
  pub names : Names name method

-- the string at `url`
abbrev pub url_of : Data → Option (List ℕ)
url_of d = text_at (codes "url") d

-- the member `atomicityGroup` is this identifier, or none if it is absent or null
abbrev pub HasGroup : Data → Option (List ℕ) → Type 0
HasGroup d None = given (get (codes "atomicityGroup") d) ≡ None
HasGroup d (Some group) = (text_at (codes "atomicityGroup") d ≡ Some group) × IsRequestId group

-- the strings of an array that holds nothing else
abbrev pub texts_of : Items → Option (List (List ℕ))
texts_of no_items = Some []
texts_of (item d ds) = option_and_then (λ text. option_map (λ texts. text ∷ texts) (texts_of ds)) (as_str d)

-- the strings of an array, none if it is absent or null
abbrev pub texts_or_none : Option Data → Option (List (List ℕ))
texts_or_none None = Some []
texts_or_none (Some null) = Some []
texts_or_none (Some (array ds)) = texts_of ds
texts_or_none (Some _) = None

-- the strings of `dependsOn`
abbrev pub listed_names : Data → Option (List (List ℕ))
listed_names d = texts_or_none (get (codes "dependsOn") d)

-- there is a body, though the method takes none
pub record HasBodyNotAllowed (d : Data) : Type 0 where
  pub method : Method
  pub has : HasMethod d method
  pub none : takes_body method ≡ false
  pub body : IsSome (body_of d)

-- Where a rule of a request is broken. An element that is not an object breaks no other.
abbrev pub BreaksRequest : RequestRule → Data → Type 0
BreaksRequest request.NotRequestObject d = IsNone (as_object d)
BreaksRequest request.IfMember d = IsSome (get (codes "if") d)
BreaksRequest request.UnknownRequestMember d = HasUnknown request_names d
BreaksRequest request.BadId d = IsSome (as_object d) × ((id : List ℕ) → ¬ HasId d id)
BreaksRequest request.BadMethod d = IsSome (as_object d) × ((method : Method) → ¬ HasMethod d method)
BreaksRequest request.BadUrl d = IsSome (as_object d) × IsNone (url_of d)
BreaksRequest request.BadGroup d = IsSome (as_object d) × ((group : Option (List ℕ)) → ¬ HasGroup d group)
BreaksRequest request.BadDependsOn d = IsSome (as_object d) × IsNone (listed_names d)
BreaksRequest request.BadHeaders d = IsSome (as_object d) × IsNone (listed_headers d)
BreaksRequest request.HeaderTwice d = ¬ IsDistinct bytes_eq (header_names d)
BreaksRequest request.BodyNotAllowed d = HasBodyNotAllowed d
BreaksRequest request.BadBody d = HasBadBody d
BreaksRequest request.NestedBatch d = IsSomeAnd (url_of d) IsNestedBatch
BreaksRequest request.BadReference d = IsSomeAnd (url_of d) (λ url. HasFront url bad)

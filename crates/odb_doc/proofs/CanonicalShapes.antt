-- The canonical value of a batch has no fault of shape, and is that batch.
use Rattle.std.proofs.Common.{◌≡◌, ◌∙◌, ◌≤◌, ℕ, zero, suc, false, List, [], ◌∷◌, length, map, Option, None, Some, option_map, option_and_then, slice_get, codes, get_or, inl, inr, refl, ap, sym, subst, arith}
use Rattle.std.specs.Prelude.{IfSome, IsSome, IsNone, IsSomeAnd}
use Rattle.std.proofs.lemmas.Bool.{cases_lt}
use Rattle.std.specs.Char.{to_ascii_lowercase}
use Rattle.std.specs.List.{All, AllZip, list_any}
use Rattle.std.specs.List.Sorted.{IsPermutation}
use Rattle.std.specs.Str.{str_to_ascii_lowercase}
use Rattle.std.proofs.lemmas.List.{length-map}
use Rattle.std.proofs.lemmas.List.Elements.{All-map}
use Rattle.std.proofs.lemmas.List.Sorted.{IsPermutation-refl, All-permutation}
use Rattle.std.proofs.lemmas.Slice.Zip.{AllZip-long}
use Rattle.std.proofs.lemmas.Str.Ascii.{lowercase-lowercase}
use Rattle.std.proofs.lemmas.List.Folds.{map_fixed}
use Rattle.serde_json.specs.Data.{Data, null, boolean, number, string, array, object, put, no_members}
use Rattle.serde_json.specs.Find.{get, as_str}
use Rattle.serde_json.specs.View.{items_of}
use Rattle.odb_names.specs.Methods.{method_name, takes_body}
use Rattle.odb_names.specs.Fronts.{HasFront, bad}
use Rattle.odb_names.specs.Identifiers.{IsRequestId}
use Rattle.odb_names.specs.Segments.{IsNestedBatch}
use Rattle.odb_names.specs.declared.method.Method.{Method}
use Rattle.odb_names.specs.declared.method.Method.TheVariants.{Delete, Get, Patch, Post, Put}
use Rattle.odb_doc.specs.declared.fault.DocumentRule.TheVariants as document
use Rattle.odb_doc.specs.declared.fault.RequestRule.{RequestRule}
use Rattle.odb_doc.specs.declared.fault.RequestRule.TheVariants as rules
use Rattle.odb_doc.specs.batch.Bodies.{content_type}
use Rattle.odb_doc.specs.batch.MediaTypes.{AllowsBody}
use Rattle.odb_doc.specs.canonical.Canonical.{names_value, header_members, headers_value, with_some, request_value, canonical_value}
use Rattle.odb_doc.specs.Headers.{Header, IsInOrder, folded, text_members, listed_in, HasHeaders}
use Rattle.odb_doc.specs.batch.LeastFault.{IsBatchObject, IsWellShaped, BreaksRequestAt}
use Rattle.odb_doc.specs.BrokenRules.{IsRequestObject}
use Rattle.odb_doc.specs.LeastRules.{NoneBroken}
use Rattle.odb_doc.specs.Members.{given, names_in, is_unknown, request_names}
use Rattle.odb_doc.specs.Names.{distinct}
use Rattle.odb_doc.specs.batch.Records.{Record, ReadsAs, IsBatchOf, IsWellFormedRecord}
use Rattle.odb_doc.specs.batch.References.{RefersTo}
use Rattle.odb_doc.specs.batch.Shapes.{HasGroup, elements, listed_names, texts_of, texts_or_none}
use Rattle.odb_doc.proofs.BatchLemmas.{AreOneReading, one_method}
use Rattle.odb_doc.proofs.DistinctLemmas.{IsDistinct-listed}
use Rattle.odb_doc.proofs.ElementLemmas.{list_of-items_of}
use Rattle.odb_doc.proofs.OneHeaders.{one_headers}
use Rattle.odb_doc.proofs.RepeatLemmas.{distinct_same}
use Rattle.odb_doc.proofs.ApartLemmas.{HoldsHeaders-apart}

-- ---- the values at the members of a request's value

abbrev value_of : (group body names headers : Option Data) (id method url : Data) → Data
value_of group body names headers id method url =
    object (with_some (codes "atomicityGroup") group (with_some (codes "body") body (with_some (codes "dependsOn") names (with_some (codes "headers") headers (put (codes "id") id (put (codes "method") method (put (codes "url") url no_members)))))))

record HasMembers (d : Data) (group body names headers : Option Data) (id method url : Data) : Type 0 where
  at_group : get (codes "atomicityGroup") d ≡ group
  at_body : get (codes "body") d ≡ body
  at_names : get (codes "dependsOn") d ≡ names
  at_headers : get (codes "headers") d ≡ headers
  at_id : get (codes "id") d ≡ Some id
  at_method : get (codes "method") d ≡ Some method
  at_url : get (codes "url") d ≡ Some url
  at_if : get (codes "if") d ≡ None
  known : list_any (is_unknown request_names) (names_in d) ≡ false

has-members : (group body names headers : Option Data) (id method url : Data) → HasMembers (value_of group body names headers id method url) group body names headers id method url
unfolding is_unknown
has-members None None None None id method url = record { at_group = refl; at_body = refl; at_names = refl; at_headers = refl; at_id = refl; at_method = refl; at_url = refl; at_if = refl; known = refl }
has-members None None None (Some headers) id method url = record { at_group = refl; at_body = refl; at_names = refl; at_headers = refl; at_id = refl; at_method = refl; at_url = refl; at_if = refl; known = refl }
has-members None None (Some names) None id method url = record { at_group = refl; at_body = refl; at_names = refl; at_headers = refl; at_id = refl; at_method = refl; at_url = refl; at_if = refl; known = refl }
has-members None None (Some names) (Some headers) id method url = record { at_group = refl; at_body = refl; at_names = refl; at_headers = refl; at_id = refl; at_method = refl; at_url = refl; at_if = refl; known = refl }
has-members None (Some body) None None id method url = record { at_group = refl; at_body = refl; at_names = refl; at_headers = refl; at_id = refl; at_method = refl; at_url = refl; at_if = refl; known = refl }
has-members None (Some body) None (Some headers) id method url = record { at_group = refl; at_body = refl; at_names = refl; at_headers = refl; at_id = refl; at_method = refl; at_url = refl; at_if = refl; known = refl }
has-members None (Some body) (Some names) None id method url = record { at_group = refl; at_body = refl; at_names = refl; at_headers = refl; at_id = refl; at_method = refl; at_url = refl; at_if = refl; known = refl }
has-members None (Some body) (Some names) (Some headers) id method url = record { at_group = refl; at_body = refl; at_names = refl; at_headers = refl; at_id = refl; at_method = refl; at_url = refl; at_if = refl; known = refl }
has-members (Some group) None None None id method url = record { at_group = refl; at_body = refl; at_names = refl; at_headers = refl; at_id = refl; at_method = refl; at_url = refl; at_if = refl; known = refl }
has-members (Some group) None None (Some headers) id method url = record { at_group = refl; at_body = refl; at_names = refl; at_headers = refl; at_id = refl; at_method = refl; at_url = refl; at_if = refl; known = refl }
has-members (Some group) None (Some names) None id method url = record { at_group = refl; at_body = refl; at_names = refl; at_headers = refl; at_id = refl; at_method = refl; at_url = refl; at_if = refl; known = refl }
has-members (Some group) None (Some names) (Some headers) id method url = record { at_group = refl; at_body = refl; at_names = refl; at_headers = refl; at_id = refl; at_method = refl; at_url = refl; at_if = refl; known = refl }
has-members (Some group) (Some body) None None id method url = record { at_group = refl; at_body = refl; at_names = refl; at_headers = refl; at_id = refl; at_method = refl; at_url = refl; at_if = refl; known = refl }
has-members (Some group) (Some body) None (Some headers) id method url = record { at_group = refl; at_body = refl; at_names = refl; at_headers = refl; at_id = refl; at_method = refl; at_url = refl; at_if = refl; known = refl }
has-members (Some group) (Some body) (Some names) None id method url = record { at_group = refl; at_body = refl; at_names = refl; at_headers = refl; at_id = refl; at_method = refl; at_url = refl; at_if = refl; known = refl }
has-members (Some group) (Some body) (Some names) (Some headers) id method url = record { at_group = refl; at_body = refl; at_names = refl; at_headers = refl; at_id = refl; at_method = refl; at_url = refl; at_if = refl; known = refl }

-- ---- each member reads as what the request has

own-name : (method : Method) → map to_ascii_lowercase (method_name method) ≡ method_name method
own-name Delete = refl
own-name Get = refl
own-name Patch = refl
own-name Post = refl
own-name Put = refl

own-group : (d : Data) (group : Option (List ℕ)) → get (codes "atomicityGroup") d ≡ option_map string group → IfSome group IsRequestId → HasGroup d group
own-group d None at form = ap given at
own-group d (Some name) at form = (ap (option_and_then as_str) at, form)

texts_of-strings : (names : List (List ℕ)) → texts_of (items_of (map string names)) ≡ Some names
texts_of-strings [] = refl
texts_of-strings (name ∷ names) = ap (option_map (λ texts. name ∷ texts)) (texts_of-strings names)

own-names : (names : List (List ℕ)) → texts_or_none (names_value names) ≡ Some names
own-names [] = refl
own-names (name ∷ names) = texts_of-strings (name ∷ names)

text_members-own : (headers : List Header) → text_members (header_members headers) ≡ Some headers
text_members-own [] = refl
text_members-own (header ∷ headers) = ap (option_map (λ rest. header ∷ rest)) (text_members-own headers)

own-headers : (headers : List Header) → listed_in (headers_value headers) ≡ Some headers
own-headers [] = refl
own-headers (header ∷ headers) = text_members-own (header ∷ headers)

lower-text : (text : List ℕ) → str_to_ascii_lowercase (str_to_ascii_lowercase text) ≡ str_to_ascii_lowercase text
lower-text [] = refl
lower-text (byte ∷ text) = rw (lowercase-lowercase byte, lower-text text) refl

folded-again : (header : Header) → folded (folded header) ≡ folded header
folded-again header = ap (λ name. (name, header.1)) (lower-text header.0)

folded-twice : (headers : List Header) → All (λ h. folded h ≡ h) (map folded headers)
folded-twice headers = All-map (λ h. folded h ≡ h) folded headers (λ k header within. folded-again (get_or headers k header))

-- the names of the headers of a request are in lower case
folded-headers : (e : Data) (headers : List Header) → HasHeaders e headers → map folded headers ≡ headers
folded-headers e headers has = map_fixed folded headers (All-permutation (λ h. folded h ≡ h) (map folded has.listed) headers has.same (folded-twice has.listed))

given-twice : (o : Option Data) → given (given o) ≡ given o
given-twice None = refl
given-twice (Some null) = refl
given-twice (Some (boolean b)) = refl
given-twice (Some (number n)) = refl
given-twice (Some (string s)) = refl
given-twice (Some (array ds)) = refl
given-twice (Some (object ms)) = refl

abbrev HasOwn : Record → Type 0
HasOwn r = HasMembers (request_value r) (option_map string r.group) r.body (names_value r.names) (headers_value r.headers) (string r.id) (string (method_name r.method)) (string r.url)

own-members : (r : Record) → HasOwn r
own-members r = has-members (option_map string r.group) r.body (names_value r.names) (headers_value r.headers) (string r.id) (string (method_name r.method)) (string r.url)

own-listed : (r : Record) → listed_names (request_value r) ≡ Some r.names
own-listed r = ap texts_or_none (own-members r).at_names ∙ own-names r.names

own-text_members : (r : Record) → listed_in (get (codes "headers") (request_value r)) ≡ Some r.headers
own-text_members r = ap listed_in (own-members r).at_headers ∙ own-headers r.headers

-- ---- requests that elements read as, without the elements

-- what holds of a request that was read
pub record IsRead (r : Record) : Type 0 where
  pub form : IsWellFormedRecord r
  pub reference : RefersTo r.url r.reference
  pub lower : map folded r.headers ≡ r.headers
  pub ordered : IsInOrder r.headers
  pub body : given r.body ≡ r.body

group-form : (e : Data) (group : Option (List ℕ)) → HasGroup e group → IfSome group IsRequestId
group-form e None has = tt
group-form e (Some name) has = has.1

read-record : (e : Data) (r : Record) → ReadsAs e r → IsRead r
read-record e r says = record {
  form = record { id = says.id.form; group = group-form e r.group says.group; names = IsDistinct-listed r.names (listed_names e) (sym says.names) };
  reference = says.reference;
  lower = folded-headers e r.headers says.headers;
  ordered = says.headers.ordered;
  body = ap given (sym says.body) ∙ given-twice (get (codes "body") e) ∙ says.body;
}

own-holds : (r : Record) → IsRead r → HasHeaders (request_value r) r.headers
own-holds r is = record {
  listed = r.headers;
  are = own-text_members r;
  same = subst (λ (headers : List Header). IsPermutation headers r.headers) (sym is.lower) (IsPermutation-refl r.headers);
  ordered = is.ordered;
}

-- a request's value reads as the request
value-says : (r : Record) → IsRead r → ReadsAs (request_value r) r
value-says r is =
    let own = own-members r in
    record {
      id = record { text = ap (option_and_then as_str) own.at_id; form = is.form.id };
      method = record { name = method_name r.method; text = ap (option_and_then as_str) own.at_method; names = own-name r.method };
      url = ap (option_and_then as_str) own.at_url;
      group = own-group (request_value r) r.group own.at_group is.form.group;
      names = ap (option_map distinct) (own-listed r) ∙ ap Some (distinct_same r.names is.form.names);
      reference = is.reference;
      headers = own-holds r is;
      body = ap given own.at_body ∙ is.body;
    }

-- ---- it has no fault

-- what holds of a request that was read from an element without a fault
pub record IsSound (r : Record) : Type 0 where
  pub read : IsRead r
  pub takes : takes_body r.method ≡ false → ¬ IsSome r.body
  pub media : (body : Data) → r.body ≡ Some body → ¬ ¬ AllowsBody (content_type r.headers) body
  pub single : ¬ IsNestedBatch r.url
  pub front : ¬ HasFront r.url bad

sound-record : (e : Data) (r : Record) → IsRequestObject e → ReadsAs e r → IsSound r
sound-record e r sound says = record {
  read = read-record e r says;
  takes = λ none some. sound rules.BodyNotAllowed (record { method = r.method; has = says.method; none = none; body = subst IsSome (sym says.body) some });
  media = λ body is refused. sound rules.BadBody (record { headers = r.headers; has = says.headers; body = body; given = says.body ∙ is; bad = refused });
  single = λ nested. sound rules.NestedBatch (subst (λ (o : Option (List ℕ)). IsSomeAnd o IsNestedBatch) (sym says.url) nested);
  front = λ refused. sound rules.BadReference (subst (λ (o : Option (List ℕ)). IsSomeAnd o (λ url. HasFront url bad)) (sym says.url) refused);
}

-- a request's value breaks no rule
value-object : AreOneReading → (r : Record) → IsSound r → IsRequestObject (request_value r)
value-object texts r sound rules.NotRequestObject = λ broken. cc (broken)
value-object texts r sound rules.IfMember = λ broken. cc (subst IsSome (own-members r).at_if broken)
value-object texts r sound rules.UnknownRequestMember = λ broken. cc (broken, (own-members r).known)
value-object texts r sound rules.BadId = λ broken. broken.1 r.id (value-says r sound.read).id
value-object texts r sound rules.BadMethod = λ broken. broken.1 r.method (value-says r sound.read).method
value-object texts r sound rules.BadUrl = λ broken. cc (subst IsNone (value-says r sound.read).url broken.1)
value-object texts r sound rules.BadGroup = λ broken. broken.1 r.group (value-says r sound.read).group
value-object texts r sound rules.BadDependsOn = λ broken. cc (subst IsNone (own-listed r) broken.1)
value-object texts r sound rules.BadHeaders = λ broken. cc (subst IsNone (own-holds r sound.read).are broken.1)
value-object texts r sound rules.HeaderTwice = λ broken. broken (HoldsHeaders-apart (get (codes "headers") (request_value r)) r.headers (own-holds r sound.read))
value-object texts r sound rules.BodyNotAllowed = λ broken.
    let own = value-says r sound.read in
    let method = one_method texts (request_value r) broken.method r.method broken.has own.method in
    sound.takes (subst (λ (m : Method). takes_body m ≡ false) method broken.none) (subst IsSome own.body broken.body)
value-object texts r sound rules.BadBody = λ broken.
    let own = value-says r sound.read in
    let headers = one_headers (request_value r) r.headers broken.headers own.headers broken.has in
    sound.media broken.body (sym own.body ∙ broken.given) (subst (λ (hs : List Header). ¬ AllowsBody (content_type hs) broken.body) headers broken.bad)
value-object texts r sound rules.NestedBatch = λ broken. sound.single (subst (λ (o : Option (List ℕ)). IsSomeAnd o IsNestedBatch) (value-says r sound.read).url broken)
value-object texts r sound rules.BadReference = λ broken. sound.front (subst (λ (o : Option (List ℕ)). IsSomeAnd o (λ url. HasFront url bad)) (value-says r sound.read).url broken)

-- ---- the whole

-- each request has the property
abbrev pub Each : (Record → Type 0) → List Record → Type 0
Each P rs = (i : ℕ) (r : Record) → slice_get rs i ≡ Some r → P r

all-read : (ds : List Data) (rs : List Record) → AllZip ReadsAs ds rs → Each IsRead rs
all-read ds [] says i r is = absurd (cc (is))
all-read [] (q ∷ rs) says i r is = absurd says
all-read (d ∷ ds) (q ∷ rs) says zero r is = subst IsRead (cc (is)) (read-record d q says.0)
all-read (d ∷ ds) (q ∷ rs) says (suc i) r is = all-read ds rs says.1 i r is

all-sound : (ds : List Data) (rs : List Record) → AllZip ReadsAs ds rs → NoneBroken (BreaksRequestAt ds) → Each IsSound rs
all-sound ds [] says sound i r is = absurd (cc (is))
all-sound [] (q ∷ rs) says sound i r is = absurd says
all-sound (d ∷ ds) (q ∷ rs) says sound zero r is = subst IsSound (cc (is)) (sound-record d q (λ which broken. sound which 0 broken) says.0)
all-sound (d ∷ ds) (q ∷ rs) says sound (suc i) r is = all-sound ds rs says.1 (λ rule j broken. sound rule (suc j) broken) i r is

all-says : (rs : List Record) → Each IsRead rs → AllZip ReadsAs (map request_value rs) rs
all-says [] read = tt
all-says (r ∷ rs) read = (value-says r (read 0 r refl), all-says rs (λ i q is. read (suc i) q is))

sound-at : AreOneReading → (rs : List Record) → Each IsSound rs → (rule : RequestRule) (i : ℕ) → ¬ BreaksRequestAt (map request_value rs) rule i
sound-at texts [] sound rule i = λ broken. broken
sound-at texts (r ∷ rs) sound rule zero = value-object texts r (sound 0 r refl) rule
sound-at texts (r ∷ rs) sound rule (suc i) = sound-at texts rs (λ j q is. sound (suc j) q is) rule i

-- the elements of the canonical value
own-elements : (rs : List Record) → elements (canonical_value rs) ≡ map request_value rs
own-elements rs = list_of-items_of (map request_value rs)

own-document : (rs : List Record) → length rs ≤ 10000 → IsBatchObject (canonical_value rs)
unfolding is_unknown
own-document rs few document.TooLong = λ broken. broken
own-document rs few document.NotJson = λ broken. broken
own-document rs few document.NotObject = λ broken. cc (broken)
own-document rs few document.NoRequests = λ broken. cc (broken.1)
own-document rs few document.UnknownMember = λ broken. cc (broken)
own-document rs few document.TooMany = λ broken.
    let count : length (elements (canonical_value rs)) ≡ length rs = ap length (own-elements rs) ∙ length-map rs request_value in
    omega (arith, broken, count, few)

own-batch : (rs : List Record) → Each IsRead rs → IsBatchOf (canonical_value rs) rs
own-batch rs read = subst (λ (ds : List Data). AllZip ReadsAs ds rs) (sym (own-elements rs)) (all-says rs read)

-- what holds of the requests of a batch that has no fault of shape
pub record AreSound (rs : List Record) : Type 0 where
  pub few : length rs ≤ 10000
  pub each : Each IsSound rs

pub sound-batch : (value : Data) (rs : List Record) → IsWellShaped value → IsBatchOf value rs → AreSound rs
sound-batch value rs shaped says =
    let count : length (elements value) ≡ length rs = sym (AllZip-long ReadsAs (elements value) rs says) in
    record {
      few = elim (cases_lt 10000 (length rs)) [
        | inl more ↦ absurd (shaped.0 document.TooMany (omega (arith, more, count)))
        | inr few ↦ few
      ];
      each = all-sound (elements value) rs says shaped.1;
    }

-- the canonical value of such requests has no fault of shape, and is their batch
pub canonical-sound : AreOneReading → (rs : List Record) → AreSound rs → IsWellShaped (canonical_value rs) × IsBatchOf (canonical_value rs) rs
canonical-sound texts rs are = (
  (own-document rs are.few, subst (λ (ds : List Data). NoneBroken (BreaksRequestAt ds)) (sym (own-elements rs)) (sound-at texts rs are.each)),
  own-batch rs (λ i r is. (are.each i r is).read),
)

pub canonical-batch : (value : Data) (rs : List Record) → IsBatchOf value rs → IsBatchOf (canonical_value rs) rs
canonical-batch value rs says = own-batch rs (all-read (elements value) rs says)

pub canonical-shaped : AreOneReading → (value : Data) (rs : List Record) → IsWellShaped value → IsBatchOf value rs → IsWellShaped (canonical_value rs)
canonical-shaped texts value rs shaped says = (canonical-sound texts rs (sound-batch value rs shaped says)).0

-- The names of an object of strings in lower case are those of its headers.
use Rattle.std.proofs.Common.{◌≡◌, ℕ, Option, None, Some, option_map, option_and_then, List, [], ◌∷◌, ◌++◌, map, string_bytes, unwrap_or, refl, ap, subst}
use Rattle.std.specs.Str.{str_to_ascii_lowercase}
use Rattle.std.specs.Map.{keys_of}
use Rattle.serde_json.specs.Data.{Data, null, boolean, number, string, array, object, Members, no_members, member}
use Rattle.serde_json.specs.Find.{as_str, as_object}
use Rattle.serde_json.specs.View.{members_view}
use Rattle.odb_doc.specs.HeaderMaps.{Entry}
use Rattle.odb_doc.specs.Headers.{Header, folded, folded_names, text_members, text_members_in}
use Rattle.odb_doc.specs.Members.{names_of, names_in, given}

names_step : (name : List ℕ) (names : List (List ℕ)) (text : Option (List ℕ)) (rest : Option (List Header)) (headers : List Header)
    → ((more : List Header) → rest ≡ Some more → names ≡ keys_of (map folded more))
    → option_and_then (λ text. option_map (λ headers. (name, text) ∷ headers) rest) text ≡ Some headers
    → str_to_ascii_lowercase name ∷ names ≡ keys_of (map folded headers)
names_step name names None rest headers more is = absurd (cc (is))
names_step name names (Some text) None headers more is = absurd (cc (is))
names_step name names (Some text) (Some rest) headers more is =
    let same : (name, text) ∷ rest ≡ headers = cc (is) in
    subst (λ (hs : List Header). str_to_ascii_lowercase name ∷ names ≡ keys_of (map folded hs)) same (ap (λ others. str_to_ascii_lowercase name ∷ others) (more rest refl))

pub names_of-text_members : (ms : Members) (headers : List Header) → text_members ms ≡ Some headers → map str_to_ascii_lowercase (names_of ms) ≡ keys_of (map folded headers)
names_of-text_members no_members headers is = let same : [] ≡ headers = cc (is) in subst (λ (hs : List Header). [] ≡ keys_of (map folded hs)) same refl
names_of-text_members (member name d ms) headers is =
    names_step name (map str_to_ascii_lowercase (names_of ms)) (as_str d) (text_members ms) headers (λ more found. names_of-text_members ms more found) is

pub names_in-text_members_in : (o : Option Data) (headers : List Header) → text_members_in (given o) ≡ Some headers → map str_to_ascii_lowercase (names_in (unwrap_or o null)) ≡ keys_of (map folded headers)
names_in-text_members_in None headers is = let same : [] ≡ headers = cc (is) in subst (λ (hs : List Header). [] ≡ keys_of (map folded hs)) same refl
names_in-text_members_in (Some null) headers is = let same : [] ≡ headers = cc (is) in subst (λ (hs : List Header). [] ≡ keys_of (map folded hs)) same refl
names_in-text_members_in (Some (boolean b)) headers is = absurd (cc (is))
names_in-text_members_in (Some (number n)) headers is = absurd (cc (is))
names_in-text_members_in (Some (string s)) headers is = absurd (cc (is))
names_in-text_members_in (Some (array ds)) headers is = absurd (cc (is))
names_in-text_members_in (Some (object ms)) headers is = names_of-text_members ms headers is

-- the names of the members of an object, with one more, and of a value that is an object or none
pub names_of-more : (done : List Entry) (e : Entry) → names_of (members_view (done ++ e ∷ [])) ≡ names_of (members_view done) ++ string_bytes e.0 ∷ []
names_of-more [] e = refl
names_of-more (first ∷ done) e = ap (λ names. string_bytes first.0 ∷ names) (names_of-more done e)

pub folded_names-object : (d : Data) (ms : Members) → as_object d ≡ Some ms → folded_names (Some d) ≡ map str_to_ascii_lowercase (names_of ms)
folded_names-object null ms is = absurd (cc (is))
folded_names-object (boolean b) ms is = absurd (cc (is))
folded_names-object (number n) ms is = absurd (cc (is))
folded_names-object (string s) ms is = absurd (cc (is))
folded_names-object (array ds) ms is = absurd (cc (is))
folded_names-object (object others) ms is = let same : others ≡ ms = cc (is) in ap (λ found. map str_to_ascii_lowercase (names_of found)) same

pub folded_names-other : (d : Data) → as_object d ≡ None → folded_names (Some d) ≡ []
folded_names-other null is = refl
folded_names-other (boolean b) is = refl
folded_names-other (number n) is = refl
folded_names-other (string s) is = refl
folded_names-other (array ds) is = refl
folded_names-other (object others) is = absurd (cc (is))

-- Whether bytes are the JSON text of a body.
use Rattle.std.proofs.Common.{◌≡◌, ◌≢◌, ◌∙◌, ℕ, ◌≤◌, List, [], ◌∷◌, length, append-nil, Bool, true, false, cond, Option, Some, None, is_some, option_map, refl, ap, sym, subst, arith}
use Rattle.std.specs.Prelude.{IsUtf8}
use Rattle.std.proofs.lemmas.Bool.{true≢false}
use Rattle.std.proofs.lemmas.Option.{none-some}
use Rattle.json.specs.Json as json
use Rattle.json.specs.Lex.{lex, punctuate, tokens}
use Rattle.json.specs.Token.{Token}
use Rattle.json.specs.Tree as tree
use Rattle.json.proofs.Grammar.{value_is, value-begin_array, value-begin_object, left_some}
use Rattle.json.proofs.Nesting.{value-depth}
use Rattle.json.proofs.Unique.Spelling.{value-json_tokens_back}
use Rattle.serde_json.specs.Data.{Data, null, boolean, number, string, array, object, no_members}
use Rattle.serde_json.specs.Find.{as_null}
use Rattle.serde_json.specs.Read.{number_of, of_json, of_items, of_members, read}
use Rattle.odb_doc.specs.Documents.{IsDocument, most_bytes}
use Rattle.odb_doc.specs.Nesting.{NestsWithin}
use Rattle.odb_reply.specs.BodyTexts.{IsBody}
use Rattle.odb_reply.specs.BodyTexts.IsBody.{NoBody, Text}
use Rattle.odb_reply.specs.Parts.{IsValue}
use Rattle.odb_reply.specs.Passes.{is_null_token, has_numbers, left_if, pass_value}
use Rattle.odb_reply.proofs.SpliceLemmas.{read-tree}
use Rattle.odb_reply.proofs.PassLemmas.{passed, has-value}

null-is : (d : Data) → is_some (as_null d) ≡ true → d ≡ null
null-is null is = refl
null-is (boolean b) is = absurd (true≢false (sym is))
null-is (number n) is = absurd (true≢false (sym is))
null-is (string s) is = absurd (true≢false (sym is))
null-is (array ds) is = absurd (true≢false (sym is))
null-is (object ms) is = absurd (true≢false (sym is))

pub no-body : (bytes : List ℕ) (is_null : Bool) → length bytes ≤ most_bytes → IsUtf8 bytes → IsValue bytes is_null → is_null ≡ true → IsBody bytes None
no-body bytes is_null small utf8 has is = NoBody (subst (IsDocument bytes) (null-is has.value (sym has.null ∙ is)) (small, (utf8, has.reads)))

pub text-body : (bytes : List ℕ) (is_null : Bool) → length bytes ≤ most_bytes → IsUtf8 bytes → IsValue bytes is_null → is_null ≡ false → IsBody bytes (Some bytes)
text-body bytes is_null small utf8 has is = Text has.value (small, (utf8, has.reads)) (λ null. true≢false (sym (ap (λ d. is_some (as_null d)) null) ∙ sym has.null ∙ is)) has.shallow

-- ---- one pass over the text

-- what is read of a text that nests so deep at most is what its tree reads as
read-of : (text : List ℕ) (j : json.Json) → json.value 124 (tokens text) ≡ Some (j, []) → read text ≡ of_json j
read-of text j is =
    let shallow = value-depth 124 (tokens text) [] j is in
    read-tree text j (value-json_tokens_back 124 (tokens text) [] j is ∙ append-nil (tree.json_tokens j)) (omega (arith, shallow))

pub nested-passes : (text : List ℕ) (d : Data) → read text ≡ Some d → NestsWithin 124 text → pass_value 124 (tokens text) ≡ Some []
nested-passes text d reads nests =
    let (j, found) = left_some (json.value 124 (tokens text)) [] nests in
    let good : has_numbers j ≡ true = has-value j ∙ ap is_some (sym (read-of text j found) ∙ reads) in
    ap (left_if has_numbers) found ∙ ap (λ b. cond b (Some []) None) good

pub nothing-passes : (text : List ℕ) → tokens text ≡ [] → pass_value 124 (tokens text) ≡ None
nothing-passes text none = ap (pass_value 124) none ∙ ap (left_if has_numbers) (value_is 124 [])

-- ---- whether the value is null

abbrev is_null_tree : json.Json → Bool
is_null_tree json.null = true
is_null_tree (json.boolean b) = false
is_null_tree (json.number s) = false
is_null_tree (json.string s) = false
is_null_tree (json.array js) = false
is_null_tree (json.object ms) = false

abbrev reads_null : Option Data → Bool
reads_null None = false
reads_null (Some d) = is_some (as_null d)

abbrev begins_null : Option (json.Json × List Token) → Bool
begins_null None = false
begins_null (Some p) = is_null_tree p.0

never-null : {A : Type 0} (f : A → Data) → ((a : A) → is_some (as_null (f a)) ≡ false) → (o : Option A) → false ≡ reads_null (option_map f o)
never-null f never None = refl
never-null f never (Some a) = sym (never a)

null-tree : (j : json.Json) → is_null_tree j ≡ reads_null (of_json j)
null-tree json.null = refl
null-tree (json.boolean b) = refl
null-tree (json.number s) = never-null number (λ n. refl) (number_of s)
null-tree (json.string s) = refl
null-tree (json.array js) = never-null array (λ ds. refl) (of_items js)
null-tree (json.object ms) = never-null object (λ ms. refl) (of_members ms no_members)

nested-null : {A : Type 0} (f : A → json.Json) → ((a : A) → is_null_tree (f a) ≡ false) → (o : Option (A × List Token)) → false ≡ begins_null (json.parse_map f o)
nested-null f never None = refl
nested-null f never (Some p) = sym (never p.0)

null-token : (t : Token) (ts : List Token) → is_null_token t ≡ begins_null (json.value 124 (t ∷ ts))
null-token Token.begin_object ts = nested-null json.object (λ ms. refl) (json.members (json.value 123) (length ts) ts) ∙ sym (ap begins_null (value-begin_object 124 ts (omega arith)))
null-token Token.end_object ts = sym (ap begins_null (value_is 124 (Token.end_object ∷ ts)))
null-token Token.begin_array ts = nested-null json.array (λ js. refl) (json.items (json.value 123) (length ts) ts) ∙ sym (ap begins_null (value-begin_array 124 ts (omega arith)))
null-token Token.end_array ts = sym (ap begins_null (value_is 124 (Token.end_array ∷ ts)))
null-token (Token.key s) ts = sym (ap begins_null (value_is 124 (Token.key s ∷ ts)))
null-token (Token.string s) ts = sym (ap begins_null (value_is 124 (Token.string s ∷ ts)))
null-token (Token.number s) ts = sym (ap begins_null (value_is 124 (Token.number s ∷ ts)))
null-token (Token.boolean b) ts = sym (ap begins_null (value_is 124 (Token.boolean b ∷ ts)))
null-token Token.null ts = sym (ap begins_null (value_is 124 (Token.null ∷ ts)))
null-token Token.bad ts = sym (ap begins_null (value_is 124 (Token.bad ∷ ts)))

some-of : (o : Option Data) → is_some o ≡ true → (d : Data) × (o ≡ Some d)
some-of None is = absurd (true≢false (sym is))
some-of (Some d) is = (d, refl)

pub whole-text : (text : List ℕ) (t : Token) (ts : List Token) → tokens text ≡ t ∷ ts → pass_value 124 (t ∷ ts) ≡ Some [] → IsValue text (is_null_token t)
whole-text text t ts begins is =
    let (j, found, good) = passed has_numbers (json.value 124 (t ∷ ts)) [] is in
    let same : json.value 124 (tokens text) ≡ Some (j, []) = ap (json.value 124) begins ∙ found in
    let (d, is_data) = some-of (of_json j) (sym (has-value j) ∙ good) in
    record {
      value = d;
      reads = read-of text j same ∙ is_data;
      shallow = ap (option_map (λ p. p.1)) same;
      null = null-token t ts ∙ ap begins_null found ∙ null-tree j ∙ ap reads_null is_data;
    }

-- no value is read from no bytes
pub nothing_read : (bytes : List ℕ) (d : Data) → bytes ≡ [] → read bytes ≢ Some d
unfolding json.value lex punctuate
nothing_read bytes d empty is = none-some d (subst (λ (b : List ℕ). read b ≡ Some d) empty is)

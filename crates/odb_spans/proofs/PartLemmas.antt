-- A value, a name and the members of an object as parts of a text.
use Rattle.std.proofs.Common.{◌≡◌, ◌∙◌, ℕ, ◌+◌, ◌-◌, ◌<◌, ◌≤◌, List, [], ◌∷◌, ◌++◌, length, take, drop, get_or, Bool, true, false, Result, Ok, Err, IfOk, refl, sym, ap, arith, add-zero, lt_of_not-le}
use Rattle.std.specs.Str.{IsCharBoundary}
use Rattle.std.proofs.lemmas.Bool.{true≢false}
use Rattle.std.proofs.lemmas.List.{drop-drop, get_or-drop, get_or_default}
use Rattle.std.proofs.lemmas.Str.{IsUtf8-between}
use Rattle.json.specs.Token.{Token, begin_object, end_object, begin_array, end_array, key, string, number, boolean, null, bad}
use Rattle.json.specs.Word.{head}
use Rattle.json.specs.Align.{is_blank, is_good}
use Rattle.json.specs.Lex.{token, class, between, lex, Place, fresh, after_value, after_comma, after_key, begins_colon, may_begin, may_close, place_token, punctuate, tokens}
use Rattle.json.specs.Json as json
use Rattle.json.specs.Tree.{json_tokens, items_tokens, members_tokens}
use Rattle.odb_spans.specs.Extents.{closes, weight, value_extent}
use Rattle.odb_spans.specs.Walks.{Faces, tokens_from}
use Rattle.odb_spans.specs.Parts.{HasEnded, HasValue, IsTextOf}
use Rattle.odb_spans.proofs.CutLemmas.{cut-value}
use Rattle.odb_spans.proofs.ExtentLemmas.{stands}
use Rattle.odb_spans.proofs.LexLemmas.{first_taken, first_left, splits-value}
use Rattle.odb_spans.proofs.PlaceLemmas.{never-bad, no-token, is-allowed}
use Rattle.odb_spans.proofs.WalkLemmas.{flat≢closes, opens≢closes, none-past}

-- ---- the first token of a value

pub record BeginsWithToken (j : json.Json) : Type 0 where
  pub first : Token
  pub others : List Token
  pub is : json_tokens j ≡ first ∷ others
  pub good : is_good first ≡ true
  pub inner : weight first ≡ closes → ⊥
  pub begins : (p : Place) (u : Token) (b : Bool) (k : Place → List Token) (ts : List Token) → place_token p u b k ≡ first ∷ ts → may_begin p ≡ true

abbrev is_closing : Token → Bool
is_closing begin_object = false
is_closing end_object = true
is_closing begin_array = false
is_closing end_array = true
is_closing (key s) = true
is_closing (string s) = false
is_closing (number s) = false
is_closing (boolean b) = false
is_closing null = false
is_closing bad = true

-- what is neither a key nor closes may come only where a value may begin
begins-where : (t : Token) (ts : List Token) → is_good t ≡ true → is_closing t ≡ false → (p : Place) (u : Token) (b : Bool) (k : Place → List Token) → place_token p u b k ≡ t ∷ ts → may_begin p ≡ true
begins-where t ts good inner p begin_object b k e = (is-allowed (may_begin p) begin_object t k fresh ts e good).allowed
begins-where t ts good inner p end_object b k e = absurd (true≢false (ap is_closing (is-allowed (may_close p) end_object t k after_value ts e good).first ∙ inner))
begins-where t ts good inner p begin_array b k e = (is-allowed (may_begin p) begin_array t k fresh ts e good).allowed
begins-where t ts good inner p end_array b k e = absurd (true≢false (ap is_closing (is-allowed (may_close p) end_array t k after_value ts e good).first ∙ inner))
begins-where t ts good inner p (key s) b k e = never-bad t ts e good
begins-where t ts good inner p (string s) true k e = absurd (true≢false (ap is_closing (is-allowed (may_begin p) (key s) t k after_key ts e good).first ∙ inner))
begins-where t ts good inner p (string s) false k e = (is-allowed (may_begin p) (string s) t k after_value ts e good).allowed
begins-where t ts good inner p (number s) b k e = (is-allowed (may_begin p) (number s) t k after_value ts e good).allowed
begins-where t ts good inner p (boolean v) b k e = (is-allowed (may_begin p) (boolean v) t k after_value ts e good).allowed
begins-where t ts good inner p null b k e = (is-allowed (may_begin p) null t k after_value ts e good).allowed
begins-where t ts good inner p bad b k e = never-bad t ts e good

pub begins-with-token : (j : json.Json) → BeginsWithToken j
begins-with-token json.null = record { first = null; others = []; is = refl; good = refl; inner = flat≢closes; begins = λ p u b k ts. begins-where null ts refl refl p u b k }
begins-with-token (json.boolean v) = record { first = boolean v; others = []; is = refl; good = refl; inner = flat≢closes; begins = λ p u b k ts. begins-where (boolean v) ts refl refl p u b k }
begins-with-token (json.number s) = record { first = number s; others = []; is = refl; good = refl; inner = flat≢closes; begins = λ p u b k ts. begins-where (number s) ts refl refl p u b k }
begins-with-token (json.string s) = record { first = string s; others = []; is = refl; good = refl; inner = flat≢closes; begins = λ p u b k ts. begins-where (string s) ts refl refl p u b k }
begins-with-token (json.array js) = record { first = begin_array; others = items_tokens js; is = refl; good = refl; inner = opens≢closes; begins = λ p u b k ts. begins-where begin_array ts refl refl p u b k }
begins-with-token (json.object ms) = record { first = begin_object; others = members_tokens ms; is = refl; good = refl; inner = opens≢closes; begins = λ p u b k ts. begins-where begin_object ts refl refl p u b k }

-- ---- a value

no-tokens : {P : Type 0} (p : Place) (t : Token) (ts : List Token) → is_good t ≡ true → punctuate p [] ≡ t ∷ ts → P
unfolding punctuate
no-tokens fresh t ts good e = no-token t ts e
no-tokens after_value t ts good e = no-token t ts e
no-tokens after_comma t ts good e = never-bad t ts e good
no-tokens after_key t ts good e = never-bad t ts e good

-- where there are tokens the text has not ended
pub not-past : (text : List ℕ) (at : ℕ) (p : Place) (t : Token) (ts : List Token) → is_good t ≡ true → tokens_from p text at ≡ t ∷ ts → at < length text
not-past text at p t ts good e = lt_of_not-le (λ past. no-tokens {P = ⊥} p t ts good (sym (ap (punctuate p) (none-past text at past)) ∙ e))

head-at : (text : List ℕ) (at : ℕ) → at < length text → head (drop at text) ≡ get_or text at 0
head-at text at within = get_or-drop at text 0 32 ∙ ap (λ i. get_or text i 32) (add-zero at) ∙ get_or_default text at 32 0 within

pub value-within : (text : List ℕ) (at : ℕ) (j : json.Json) (ts : List Token) → HasValue text at j ts → at < length text
value-within text at j ts v =
    let b = begins-with-token j in
    not-past text at v.place b.first (b.others ++ ts) b.good (v.spelled ∙ ap (λ l. l ++ ts) b.is)

pub record ValuePart (text : List ℕ) (at end : ℕ) (j : json.Json) (ts : List Token) : Type 0 where
  pub text_of : IsTextOf text record { start = at; end = end } j
  pub ended : HasEnded text end ts

pub value-part : (text : List ℕ) (at end : ℕ) (j : json.Json) (ts : List Token) → HasValue text at j ts → end ≡ at + value_extent (drop at text) → end ≤ length text → IsCharBoundary text end → ValuePart text at end j ts
value-part text at end j ts v extent within boundary =
    let inside = value-within text at j ts v in
    let cut = splits-value (drop at text) (ap (λ x. is_blank (class x)) (head-at text at inside) ∙ v.solid inside) in
    let found = stands j v.place (lex between (drop at text)) ts v.begin v.spelled in
    let count : end - at ≡ value_extent (drop at text) = omega (arith, extent) in
    record {
      text_of = record {
        order = omega (arith, extent);
        within = within;
        utf8 = IsUtf8-between text at end v.utf8 (omega (arith, extent)) v.boundary boundary;
        spelled = ap (λ k. tokens (take k (drop at text))) count ∙ ap (punctuate fresh) cut.passed ∙ found.alone;
        solid = v.solid;
        some = inside;
      };
      ended = record {
        follow = found.others ∙ ap (punctuate after_value) (sym cut.after ∙ ap (lex between) (drop-drop (value_extent (drop at text)) at text ∙ ap (λ k. drop k text) (sym extent)));
        boundary = boundary;
        cut = cut-value text at end extent v.cut;
      };
    }

-- ---- a name

abbrev is_key : Token → Bool
is_key begin_object = false
is_key end_object = false
is_key begin_array = false
is_key end_array = false
is_key (key s) = true
is_key (string s) = false
is_key (number s) = false
is_key (boolean b) = false
is_key null = false
is_key bad = false

abbrev content_of : Token → List ℕ
content_of begin_object = []
content_of end_object = []
content_of begin_array = []
content_of end_array = []
content_of (key s) = s
content_of (string s) = s
content_of (number s) = s
content_of (boolean b) = []
content_of null = []
content_of bad = []

record IsKey (u : Token) (b : Bool) (k : List ℕ) (ts more : List Token) : Type 0 where
  pub string : u ≡ Token.string k
  pub colon : b ≡ true
  pub follow : more ≡ ts

no-key : {P : Type 0} (u : Token) (k : List ℕ) → is_key u ≡ false → u ≡ key k → P
no-key u k h e = absurd (true≢false (sym (ap is_key e) ∙ h))

placed-key : (p : Place) (u : Token) (b : Bool) (f : Place → List Token) (k : List ℕ) (ts : List Token) → place_token p u b f ≡ key k ∷ ts → IsKey u b k ts (f after_key)
placed-key p begin_object b f k ts e = no-key begin_object k refl (is-allowed (may_begin p) begin_object (key k) f fresh ts e refl).first
placed-key p end_object b f k ts e = no-key end_object k refl (is-allowed (may_close p) end_object (key k) f after_value ts e refl).first
placed-key p begin_array b f k ts e = no-key begin_array k refl (is-allowed (may_begin p) begin_array (key k) f fresh ts e refl).first
placed-key p end_array b f k ts e = no-key end_array k refl (is-allowed (may_close p) end_array (key k) f after_value ts e refl).first
placed-key p (key s) b f k ts e = never-bad (key k) ts e refl
placed-key p (string s) true f k ts e =
    let h = is-allowed (may_begin p) (key s) (key k) f after_key ts e refl in
    record { string = ap (λ t. string (content_of t)) h.first; colon = refl; follow = h.follow }
placed-key p (string s) false f k ts e = no-key (string s) k refl (is-allowed (may_begin p) (string s) (key k) f after_value ts e refl).first
placed-key p (number s) b f k ts e = no-key (number s) k refl (is-allowed (may_begin p) (number s) (key k) f after_value ts e refl).first
placed-key p (boolean v) b f k ts e = no-key (boolean v) k refl (is-allowed (may_begin p) (boolean v) (key k) f after_value ts e refl).first
placed-key p null b f k ts e = no-key null k refl (is-allowed (may_begin p) null (key k) f after_value ts e refl).first
placed-key p bad b f k ts e = never-bad (key k) ts e refl

alone-string : (k : List ℕ) → punctuate fresh (token (string k) ∷ []) ≡ string k ∷ []
unfolding punctuate
alone-string k = refl

pub record NamePart (text : List ℕ) (at end : ℕ) (k : List ℕ) (ts : List Token) : Type 0 where
  pub alone : tokens (take (end - at) (drop at text)) ≡ string k ∷ []
  pub follow : tokens_from after_key text end ≡ ts

pub name-part : (text : List ℕ) (at end : ℕ) (k : List ℕ) (ts : List Token) → at < length text → is_blank (class (get_or text at 0)) ≡ false → end ≡ at + value_extent (drop at text) → Faces text at (key k) ts → NamePart text at end k ts
name-part text at end k ts within solid extent faces =
    let cut = splits-value (drop at text) (ap (λ x. is_blank (class x)) (head-at text at within) ∙ solid) in
    let is = placed-key faces.place faces.first (begins_colon faces.rest) (λ next. punctuate next faces.rest) k ts faces.placed in
    let lexed : lex between (drop at text) ≡ token (string k) ∷ faces.rest = faces.lexed ∙ ap (λ t. token t ∷ faces.rest) is.string in
    let count : end - at ≡ value_extent (drop at text) = omega (arith, extent) in
    record {
      alone = ap (λ n. tokens (take n (drop at text))) count ∙ ap (punctuate fresh) (cut.passed ∙ ap first_taken lexed) ∙ alone-string k;
      follow = ap (λ n. tokens_from after_key text n) extent ∙ ap (λ l. punctuate after_key (lex between l)) (sym (drop-drop (value_extent (drop at text)) at text))
          ∙ ap (punctuate after_key) (cut.after ∙ ap first_left lexed) ∙ is.follow;
    }

-- what follows of a value that is returned
pub if-ok : {A E : Type 0} (P Q : A → Type 0) (r : Result A E) → ((a : A) → P a → Q a) → IfOk r P → IfOk r Q
if-ok P Q (Ok a) f h = f a h
if-ok P Q (Err e) f h = tt

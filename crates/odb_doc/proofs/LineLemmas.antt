-- What is written for a value, and a newline after it, is read back as that value.
use Rattle.std.proofs.Common.{◌≡◌, ◌∙◌, ℕ, ◌≤◌, Bool, true, false, cond, ◌&&◌, List, [], ◌∷◌, ◌++◌, Some, option_and_then, refl, sym, ap, ap₂, subst, append_assoc, codes}
use Rattle.json.specs.Json as json
use Rattle.json.specs.Lex.{Lexeme, token, comma, colon, string_token, lex, between, fresh, punctuate, tokens}
use Rattle.json.specs.Print.{escape, quoted, token_text, begins, ends, separator, print_from, IsPrintable, ArePrintable}
use Rattle.json.specs.Token.{Token, begin_object, end_object, begin_array, end_array, key, string, number, boolean, null, bad}
use Rattle.json.specs.Tree as tree
use Rattle.json.specs.Word.{ends_word, word}
use Rattle.json.proofs.Printed.Numbers.{lex-number, in_word-ended}
use Rattle.json.proofs.Printed.Strings.{content-escape, lex-escape}
use Rattle.json.proofs.Printed.Trees.{ArePrintable-json_tokens}
use Rattle.serde_json.specs.Data.{Data, depth}
use Rattle.serde_json.specs.Read.{of_json, max_depth, read}
use Rattle.serde_json.specs.Written.{outline, has_float, compact_text}
use Rattle.serde_json.proofs.Texts.{print-outline}
use Rattle.odb_doc.specs.canonical.HeldValues.{IsHeld}
use Rattle.odb_doc.proofs.ReadBackLemmas.{outline-numbers, read_back}

abbrev token_lexemes : Token → List Lexeme
token_lexemes begin_object = token begin_object ∷ []
token_lexemes end_object = token end_object ∷ []
token_lexemes begin_array = token begin_array ∷ []
token_lexemes end_array = token end_array ∷ []
token_lexemes (key s) = token (string s) ∷ colon ∷ []
token_lexemes (string s) = token (string s) ∷ []
token_lexemes (number s) = token (number s) ∷ []
token_lexemes (boolean b) = token (boolean b) ∷ []
token_lexemes null = token null ∷ []
token_lexemes bad = []

lex-quoted : (s rest : List ℕ) → lex between (quoted s ++ rest) ≡ token (string s) ∷ lex between rest
unfolding lex
lex-quoted s rest =
    ap (λ l. lex between (34 ∷ l)) (append_assoc (escape s) (34 ∷ []) rest) ∙ ap₂ (λ o l. token (string_token o) ∷ l) (content-escape s rest) (lex-escape s rest)

-- the lexemes of a token's text come before those of what follows it
lex-token : (t : Token) (rest : List ℕ) → IsPrintable t → (ends t ≡ true → ends_word rest ≡ true) → lex between (token_text t ++ rest) ≡ token_lexemes t ++ lex between rest
unfolding lex word
lex-token begin_object rest printable ended = refl
lex-token end_object rest printable ended = refl
lex-token begin_array rest printable ended = refl
lex-token end_array rest printable ended = refl
lex-token (key s) rest printable ended = ap (lex between) (append_assoc (quoted s) (58 ∷ []) rest) ∙ lex-quoted s (58 ∷ rest)
lex-token (string s) rest printable ended = lex-quoted s rest
lex-token (number s) rest printable ended = lex-number s rest printable (ended refl)
lex-token (boolean true) rest printable ended = ap₂ (λ b l. token (cond b (boolean true) bad) ∷ l) (ended refl) (in_word-ended rest (ended refl))
lex-token (boolean false) rest printable ended = ap₂ (λ b l. token (cond b (boolean false) bad) ∷ l) (ended refl) (in_word-ended rest (ended refl))
lex-token null rest printable ended = ap₂ (λ b l. token (cond b null bad) ∷ l) (ended refl) (in_word-ended rest (ended refl))
lex-token bad rest printable ended = absurd printable

lex-separator : (b : Bool) (rest : List ℕ) → lex between (cond b (44 ∷ []) [] ++ rest) ≡ cond b (comma ∷ []) [] ++ lex between rest
unfolding lex
lex-separator true rest = refl
lex-separator false rest = refl

-- after a value comes a comma, a closing bracket or the end
value-ended : (ts : List Token) → ends_word (print_from true ts) ≡ true
unfolding print_from
value-ended [] = refl
value-ended (begin_object ∷ ts) = refl
value-ended (end_object ∷ ts) = refl
value-ended (begin_array ∷ ts) = refl
value-ended (end_array ∷ ts) = refl
value-ended (key s ∷ ts) = refl
value-ended (string s ∷ ts) = refl
value-ended (number s ∷ ts) = refl
value-ended (boolean b ∷ ts) = refl
value-ended (null ∷ ts) = refl
value-ended (bad ∷ ts) = refl

-- a newline ends a word too
line-ended : (text : List ℕ) → ends_word text ≡ true → ends_word (text ++ 10 ∷ []) ≡ true
line-ended [] ended = refl
line-ended (x ∷ text) ended = ended

-- a newline after printed tokens has no lexeme
lex-line : (after : Bool) (ts : List Token) → ArePrintable ts → lex between (print_from after ts ++ 10 ∷ []) ≡ lex between (print_from after ts)
unfolding lex print_from ArePrintable
lex-line after [] printable = refl
lex-line after (t ∷ ts) printable =
    let rest = print_from (ends t) ts in
    let ended : ends t ≡ true → ends_word rest ≡ true = λ is. ap (λ b. ends_word (print_from b ts)) is ∙ value-ended ts in
    ap (lex between) (append_assoc (separator after t) (token_text t ++ rest) (10 ∷ []) ∙ ap (λ l. separator after t ++ l) (append_assoc (token_text t) rest (10 ∷ [])))
    ∙ lex-separator (after && begins t) (token_text t ++ (rest ++ 10 ∷ []))
    ∙ ap (λ l. cond (after && begins t) (comma ∷ []) [] ++ l)
    (lex-token t (rest ++ 10 ∷ []) printable.0 (λ is. line-ended rest (ended is)) ∙ ap (λ l. token_lexemes t ++ l) (lex-line (ends t) ts printable.1) ∙ sym (lex-token t rest printable.0 ended))
    ∙ sym (lex-separator (after && begins t) (token_text t ++ rest))

pub value_line : (d : Data) → IsHeld d → has_float d ≡ false → depth d ≤ max_depth → read (compact_text d ++ codes "\n") ≡ Some d
value_line d held whole shallow =
    let printable = ArePrintable-json_tokens (outline d) (outline-numbers d held whole) in
    let same : tokens (compact_text d ++ 10 ∷ []) ≡ tokens (compact_text d) =
    ap (punctuate fresh) (subst (λ (text : List ℕ). lex between (text ++ 10 ∷ []) ≡ lex between text) (print-outline d) (lex-line false (tree.json_tokens (outline d)) printable)) in
    ap (λ ts. option_and_then of_json (option_and_then (λ p. json.if_last p.0 p.1) (json.value max_depth ts))) same ∙ read_back d held whole shallow

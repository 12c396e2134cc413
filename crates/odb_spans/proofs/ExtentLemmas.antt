-- What the machine passes is the value that is read there, alone.
use Rattle.std.proofs.Common.{◌≡◌, ℕ, true, false, List, [], ◌∷◌, ◌++◌, take, drop, Some, refl, sym, ap, ◌∙◌, append-nil}
use Rattle.json.specs.Token.{Token}
use Rattle.json.specs.Word.{head}
use Rattle.json.specs.Align.{is_blank, is_good}
use Rattle.json.specs.Lex.{Lexeme, class, between, lex, Place, fresh, after_value, may_begin, punctuate, tokens}
use Rattle.json.specs.Json.{Json, null, boolean, number, string, array, object, value}
use Rattle.json.specs.Tree.{json_tokens, items_tokens, members_tokens}
use Rattle.json.proofs.Nesting.{value-depth}
use Rattle.json.proofs.Printed.Trees.{value-json_tokens}
use Rattle.odb_spans.specs.Extents.{weight, first_level, value_extent}
use Rattle.odb_spans.proofs.LexLemmas.{taken, left, first_taken, first_left, splits-value}
use Rattle.odb_spans.proofs.TokenLemmas.{value-spells, closes_all, items-close, members-close}
use Rattle.odb_spans.proofs.PlaceLemmas.{Colon, place_after, end_place, uncons, follows}

-- the lexemes of a value alone have its tokens, and the others come after a value
pub record Stands (p : Place) (ls : List Lexeme) (ts us : List Token) : Type 0 where
  pub alone : punctuate fresh (first_taken ls) ≡ ts
  pub others : us ≡ punctuate after_value (first_left ls)

-- a value begins with the token t
starts : (p : Place) (ls : List Lexeme) (t : Token) (ts us : List Token) → may_begin p ≡ true → is_good t ≡ true → closes_all (first_level (weight t)) ts ≡ true
    → end_place (first_level (weight t)) (place_after t) ≡ after_value → ((ms : List Lexeme) → Colon t (taken (first_level (weight t)) ms ++ [])) → punctuate p ls ≡ t ∷ (ts ++ us) → Stands p ls (t ∷ ts) us
unfolding punctuate
starts p ls t ts us begin good closed ends free e =
    let one = uncons p ls t (ts ++ us) e good in
    let later = follows ts (first_level (weight t)) (place_after t) one.rest us closed (sym one.follow) in
    record {
      alone = ap (punctuate fresh) (one.takes_first begin ∙ ap (λ l. one.front ++ l) (sym (append-nil (taken (first_level (weight t)) one.rest))))
          ∙ one.anew begin (taken (first_level (weight t)) one.rest ++ []) (free one.rest)
          ∙ ap (λ l. t ∷ l) (later.again [] ∙ ap (λ q. ts ++ punctuate q []) ends ∙ append-nil ts);
      others = later.follow ∙ ap (λ q. punctuate q (left (first_level (weight t)) one.rest)) ends ∙ ap (punctuate after_value) (sym (one.leaves_first begin));
    }

pub stands : (j : Json) (p : Place) (ls : List Lexeme) (us : List Token) → may_begin p ≡ true → punctuate p ls ≡ json_tokens j ++ us → Stands p ls (json_tokens j) us
stands null p ls us begin e = starts p ls Token.null [] us begin refl refl refl (λ ms. tt) e
stands (boolean b) p ls us begin e = starts p ls (Token.boolean b) [] us begin refl refl refl (λ ms. tt) e
stands (number s) p ls us begin e = starts p ls (Token.number s) [] us begin refl refl refl (λ ms. tt) e
stands (string s) p ls us begin e = starts p ls (Token.string s) [] us begin refl refl refl (λ ms. refl) e
stands (array js) p ls us begin e = starts p ls Token.begin_array (items_tokens js) us begin refl (items-close js) refl (λ ms. tt) e
stands (object ms) p ls us begin e = starts p ls Token.begin_object (members_tokens ms) us begin refl (members-close ms) refl (λ ls. tt) e

-- the value that is read at the front of the text t is read of its first bytes alone, and the others come after a value
pub record ReadsAlone (d : ℕ) (t : List ℕ) (j : Json) (us : List Token) : Type 0 where
  pub alone : value d (tokens (take (value_extent t) t)) ≡ Some (j, [])
  pub others : us ≡ punctuate after_value (lex between (drop (value_extent t) t))

pub reads-alone : (d : ℕ) (p : Place) (t : List ℕ) (j : Json) (us : List Token) → may_begin p ≡ true → is_blank (class (head t)) ≡ false → value d (punctuate p (lex between t)) ≡ Some (j, us) → ReadsAlone d t j us
reads-alone d p t j us begin solid e =
    let cut = splits-value t solid in
    let found = stands j p (lex between t) us begin (value-spells d (punctuate p (lex between t)) us j e) in
    let spelled : tokens (take (value_extent t) t) ≡ json_tokens j ++ [] = ap (punctuate fresh) cut.passed ∙ found.alone ∙ sym (append-nil (json_tokens j)) in
    record {
      alone = ap (value d) spelled ∙ value-json_tokens j d [] (value-depth d (punctuate p (lex between t)) us j e);
      others = found.others ∙ ap (punctuate after_value) (sym cut.after);
    }

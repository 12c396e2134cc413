-- A span in whose place null and true are read is where one value of the document's tree lies, and no other span lies there.
use Rattle.std.proofs.Common.{◌≡◌, ◌∙◌, ℕ, zero, suc, ◌+◌, ◌-◌, ◌<◌, ◌≤◌, Bool, true, false, cond, ◌==◌, List, [], ◌∷◌, ◌++◌, length, take, drop, get_or, codes, refl, sym, ap, ap₂, arith, append_assoc, append-nil, length-append}
use Rattle.std.proofs.lemmas.Bool.{true≢false, and_parts}
use Rattle.std.proofs.lemmas.List.{append_cancel_left, drop-drop, drop_more, get_or-drop, get_or-take, length-drop, length-take, take-append-drop}
use Rattle.json.specs.Token.{Token, bad, boolean, null}
use Rattle.json.specs.Word.{ends_word, is_operator, is_space, word}
use Rattle.json.specs.Align.{is_blank, is_good}
use Rattle.json.specs.Lex.{Lexeme, token, quote, backslash, operator, space, other, class, between, lex, Place, fresh, after_value, begins_colon, may_begin, if_allowed, place_token, punctuate, tokens}
use Rattle.json.specs.Json as json
use Rattle.json.specs.Tree.{json_tokens}
use Rattle.serde_json.specs.Data.{Data}
use Rattle.odb_doc.specs.Documents.{IsJson}
use Rattle.odb_spans.specs.Spans.{bytes_of, replaced}
use Rattle.odb_spans.specs.declared.span.Span.{Span}
use Rattle.odb_spans.proofs.AloneLemmas.{BeginsToken, all-blank, colon-front, lex-value, no-colon, none-left, same-token, value-again}
use Rattle.odb_spans.proofs.BracketLemmas.{begins}
use Rattle.odb_spans.proofs.FillLemmas.{null-at, true-at}
use Rattle.odb_spans.proofs.FrontLemmas.{SplitsAt, all_good, all_lexed, at-good, good-json, good-lexemes, good-rest, lex-null, lex-true, lexed-after, same-place, splits-at}
use Rattle.odb_spans.proofs.HoleLemmas.{Hole, fill, before, after, HoleIn, find-json, same-tree, spells}
use Rattle.odb_spans.proofs.PartLemmas.{begins-with-token}
use Rattle.odb_spans.proofs.PathLemmas.{SameHole}
use Rattle.odb_spans.proofs.PlaceLemmas.{at-token}
use Rattle.odb_spans.proofs.ReadLemmas.{IsTreeOf, tree-of}

-- ---- after a literal

ends-if : (b : Bool) → is_good (cond b null bad) ≡ true → b ≡ true
ends-if true h = refl
ends-if false h = absurd (true≢false (sym h))

null-ends : (ys : List ℕ) → all_lexed (lex between (codes "null" ++ ys)) ≡ true → ends_word ys ≡ true
unfolding lex word
null-ends ys h = ends-if (ends_word ys) (and_parts (is_good (cond (ends_word ys) null bad)) _ h).0

if-allowed : (c : Bool) (t : Token) (k : Place → List Token) (next : Place) → all_good (if_allowed c t k next) ≡ true → c ≡ true
if-allowed true t k next h = refl
if-allowed false t k next h = absurd (true≢false (sym h))

null-begins : (q : Place) (ls : List Lexeme) → all_good (punctuate q (token null ∷ ls)) ≡ true → may_begin q ≡ true
null-begins q ls h = if-allowed (may_begin q) null (λ next. punctuate next ls) after_value (sym (ap all_good (at-token q null ls)) ∙ h)

good-tree : (j : json.Json) → all_good (json_tokens j) ≡ true
good-tree j = ap all_good (sym (append-nil (json_tokens j))) ∙ good-json j [] refl

-- ---- the place in the tree of the document

-- the span's value is at the place, and the tokens before and after the span are those round the place
pub record HasHole (document : List ℕ) (tree : json.Json) (span : Span) (without with : Data) : Type 0 where
  pub hole : Hole
  pub null_tree : IsTreeOf (replaced document span (codes "null")) without
  pub null_is : null_tree.tree ≡ fill hole json.null
  pub true_tree : IsTreeOf (replaced document span (codes "true")) with
  pub true_is : true_tree.tree ≡ fill hole (json.boolean true)
  pub value : json.Json
  pub is : tree ≡ fill hole value
  pub spelled : tokens (bytes_of document span) ≡ json_tokens value
  pub next : Place
  pub front : (ms : List Lexeme) → begins_colon ms ≡ false → punctuate fresh (lex between (take span.start document) ++ ms) ≡ before hole ++ punctuate next ms
  pub begin : may_begin next ≡ true
  pub rest : punctuate after_value (lex between (drop span.end document)) ≡ after hole
  pub good : all_good (after hole) ≡ true
  pub ends : ends_word (drop span.end document) ≡ true

-- the span is one of the document, begins and ends with no blank, and no token goes over its start
pub record IsSolidSpan (document : List ℕ) (span : Span) : Type 0 where
  pub order : span.start ≤ span.end
  pub within : span.end ≤ length document
  pub first : is_space (get_or document span.start 0) ≡ false
  pub last : is_space (get_or document (span.end - 1) 0) ≡ false
  pub cut : (text : List ℕ) → lex between (take span.start document ++ text) ≡ lex between (take span.start document) ++ lex between text

-- what is read with null in its place, and with true
pub record IsFilled (document : List ℕ) (span : Span) (without with : Data) : Type 0 where
  pub null_reads : IsJson (replaced document span (codes "null")) without
  pub true_reads : IsJson (replaced document span (codes "true")) with

module _ (document : List ℕ) (span : Span) (without with v : Data) (filled : IsFilled document span without with) (place : IsSolidSpan document span) (own_reads : IsJson (bytes_of document span) v) where
  abbrev front : List Lexeme
  front = lex between (take span.start document)

  abbrev past : List ℕ
  past = drop span.end document

  abbrev rest : List Lexeme
  rest = lex between past

  null-tree : IsTreeOf (replaced document span (codes "null")) without
  null-tree = tree-of _ without filled.null_reads.1

  true-tree : IsTreeOf (replaced document span (codes "true")) with
  true-tree = tree-of _ with filled.true_reads.1

  null-cut : punctuate fresh (front ++ lex between (codes "null" ++ past)) ≡ json_tokens null-tree.tree
  null-cut = ap (punctuate fresh) (sym (place.cut (codes "null" ++ past))) ∙ null-tree.spelled ∙ append-nil (json_tokens null-tree.tree)

  ends-word : ends_word past ≡ true
  ends-word = null-ends past (lexed-after front _ (good-lexemes fresh (front ++ lex between (codes "null" ++ past)) (ap all_good null-cut ∙ good-tree null-tree.tree)))

  null-spelled : punctuate fresh (front ++ token null ∷ rest) ≡ json_tokens null-tree.tree
  null-spelled = ap (λ l. punctuate fresh (front ++ l)) (sym (lex-null past ends-word)) ∙ null-cut

  cut : SplitsAt fresh front (token null ∷ rest)
  cut = splits-at fresh front (token null ∷ rest) refl (ap all_good null-spelled ∙ good-tree null-tree.tree)

  good-next : all_good (punctuate cut.place (token null ∷ rest)) ≡ true
  good-next = good-rest cut.passed _ (sym (ap all_good cut.one) ∙ ap all_good null-spelled ∙ good-tree null-tree.tree)

  may-begin : may_begin cut.place ≡ true
  may-begin = null-begins cut.place rest good-next

  abbrev follow : List Token
  follow = punctuate after_value rest

  good-follow : all_good follow ≡ true
  good-follow = sym (ap all_good (null-at cut.place rest may-begin)) ∙ good-next

  with-null : json_tokens null-tree.tree ≡ cut.passed ++ null ∷ follow
  with-null = sym null-spelled ∙ cut.one ∙ ap (λ l. cut.passed ++ l) (null-at cut.place rest may-begin)

  with-true : json_tokens true-tree.tree ≡ cut.passed ++ boolean true ∷ follow
  with-true =
      sym (append-nil (json_tokens true-tree.tree)) ∙ sym true-tree.spelled ∙ ap (punctuate fresh) (place.cut (codes "true" ++ past)) ∙ ap (λ l. punctuate fresh (front ++ l)) (lex-true past ends-word)
      ∙ cut.two (token (boolean true) ∷ rest) refl ∙ ap (λ l. cut.passed ++ l) (true-at cut.place rest may-begin)

  found : HoleIn null-tree.tree cut.passed follow
  found = find-json null-tree.tree cut.passed follow with-null

  true-is : true-tree.tree ≡ fill found.hole (json.boolean true)
  true-is = same-tree _ _ (with-true ∙ ap₂ (λ f b. f ++ boolean true ∷ b) found.front_is found.back_is ∙ sym (spells found.hole (json.boolean true)))

  -- ---- with its own value

  own-tree : IsTreeOf (bytes_of document span) v
  own-tree = tree-of _ v own_reads.1

  own : tokens (bytes_of document span) ≡ json_tokens own-tree.tree
  own = own-tree.spelled ∙ append-nil (json_tokens own-tree.tree)

  abbrev own_lexemes : List Lexeme
  own_lexemes = lex between (bytes_of document span)

  from-start : bytes_of document span ++ past ≡ drop span.start document
  from-start =
      let order = place.order in
      let end : span.start + (span.end - span.start) ≡ span.end = omega (arith, order) in
      ap (λ l. bytes_of document span ++ l) (sym (drop-drop (span.end - span.start) span.start document ∙ ap (λ k. drop k document) end)) ∙ take-append-drop (span.end - span.start) (drop span.start document)

  lexed-own : lex between (drop span.start document) ≡ own_lexemes ++ rest
  lexed-own = ap (lex between) (sym from-start) ∙ lex-value own-tree.tree (bytes_of document span) past own ends-word

  lexed : lex between document ≡ front ++ (own_lexemes ++ rest)
  lexed = ap (lex between) (sym (take-append-drop span.start document)) ∙ place.cut (drop span.start document) ∙ ap (λ l. front ++ l) lexed-own

  first : BeginsToken own_lexemes
  first =
      let b = begins-with-token own-tree.tree in
      let f = begins fresh own_lexemes b.first b.others refl b.good (own ∙ b.is) in
      record { first = f.first; rest = f.rest; is = f.lexed }

  no-colon-own : begins_colon (own_lexemes ++ rest) ≡ false
  no-colon-own = ap (λ l. begins_colon (l ++ rest)) first.is

  alone : punctuate fresh (own_lexemes ++ rest) ≡ json_tokens own-tree.tree ++ follow
  alone = value-again own-tree.tree own_lexemes rest (no-colon rest good-follow) own

  pub begun : BeginsToken (lex between (drop span.start document))
  begun = record { first = first.first; rest = first.rest ++ rest; is = lexed-own ∙ ap (λ l. l ++ rest) first.is }

  module _ (d : Data) (top : IsTreeOf document d) where
    whole : json_tokens top.tree ≡ cut.passed ++ punctuate cut.place (own_lexemes ++ rest)
    whole = sym (append-nil (json_tokens top.tree)) ∙ sym top.spelled ∙ ap (punctuate fresh) lexed ∙ cut.two (own_lexemes ++ rest) no-colon-own

    same : punctuate cut.place (own_lexemes ++ rest) ≡ json_tokens own-tree.tree ++ follow
    same =
        let b = begins-with-token own-tree.tree in
        let ls = first.rest ++ rest in
        let k = λ (next : Place). punctuate next ls in
        let all : (p : Place) → punctuate p (own_lexemes ++ rest) ≡ place_token p first.first (begins_colon ls) k = λ p. ap (λ l. punctuate p (l ++ rest)) first.is ∙ at-token p first.first ls in
        let placed : place_token fresh first.first (begins_colon ls) k ≡ b.first ∷ (b.others ++ follow) = sym (all fresh) ∙ alone ∙ ap (λ l. l ++ follow) b.is in
        let fine : all_good (place_token cut.place first.first (begins_colon ls) k) ≡ true = ap all_good (sym (all cut.place)) ∙ good-rest cut.passed _ (ap all_good (sym whole) ∙ good-tree top.tree) in
        all cut.place ∙ (same-place cut.place fresh k b.first (b.others ++ follow) b.good b.inner refl first.first (begins_colon ls) placed fine).same ∙ sym (all fresh) ∙ alone

    pub has-hole : HasHole document top.tree span without with
    has-hole = record {
      hole = found.hole;
      null_tree = null-tree;
      null_is = found.is;
      true_tree = true-tree;
      true_is = true-is;
      value = own-tree.tree;
      is = same-tree _ _ (whole ∙ ap (λ l. cut.passed ++ l) same ∙ ap₂ (λ f b. f ++ (json_tokens own-tree.tree ++ b)) found.front_is found.back_is ∙ sym (spells found.hole own-tree.tree));
      spelled = own;
      next = cut.place;
      front = λ ms k. cut.two ms k ∙ ap (λ f. f ++ punctuate cut.place ms) found.front_is;
      begin = may-begin;
      rest = found.back_is;
      good = sym (ap all_good found.back_is) ∙ good-follow;
      ends = ends-word;
    }

-- ---- no two spans have the same place

no-blank : (q b o s : Bool) → s ≡ false → is_blank (cond q quote (cond b backslash (cond o operator (cond s space other)))) ≡ false
no-blank true b o s e = refl
no-blank false true o s e = refl
no-blank false false true s e = refl
no-blank false false false true e = absurd (true≢false e)
no-blank false false false false e = refl

solid : (x : ℕ) → is_space x ≡ false → is_blank (class x) ≡ false
solid x e = no-blank (x == 34) (x == 92) (is_operator x) (is_space x) e

no-take : (n : ℕ) → ◌≡◌ {A = List ℕ} (take n []) []
no-take zero = refl
no-take (suc n) = refl

take-split : (m n k : ℕ) (xs : List ℕ) → k ≡ m + n → take k xs ≡ take m xs ++ take n (drop m xs)
take-split zero n k xs e = let same : k ≡ n = omega (arith, e) in ap (λ i. take i xs) same
take-split (suc m) n zero xs e = absurd (omega (arith, e))
take-split (suc m) n (suc k) [] e = sym (no-take n)
take-split (suc m) n (suc k) (x ∷ xs) e = ap (λ l. x ∷ l) (take-split m n k xs (omega (arith, e)))

-- the same tokens cannot follow themselves
never-longer : (before after : List Token) (t : Token) → after ≡ before ++ t ∷ after → ⊥
never-longer before after t e = omega (arith, ap (λ (l : List Token). length l) e, length-append before (t ∷ after))

tail-of : (t u : Token) (ts us : List Token) → t ∷ ts ≡ u ∷ us → ts ≡ us
tail-of t u ts us e = cc (e)

-- after a token there is no place for the same value
module _ (next later : Place) (u : Token) (more rest : List Lexeme) (after : List Token) (good : all_good after ≡ true) (begin : may_begin later ≡ true) where
  no-place : punctuate next (token u ∷ (more ++ token null ∷ rest)) ≡ null ∷ after → punctuate after_value rest ≡ after → ⊥
  no-place e follow =
      let ls = more ++ token null ∷ rest in
      let one = at-good next u ls (ap all_good e ∙ good) in
      let here : punctuate one.next ls ≡ after = tail-of one.emits null _ after (sym (one.is (λ p. punctuate p ls)) ∙ sym (at-token next u ls) ∙ e) in
      let cut = splits-at one.next more (token null ∷ rest) refl (ap all_good here ∙ good) in
      let may = null-begins cut.place rest (good-rest cut.passed _ (sym (ap all_good cut.one) ∙ ap all_good here ∙ good)) in
      never-longer cut.passed after null (sym here ∙ cut.one ∙ ap (λ l. cut.passed ++ l) (null-at cut.place rest may ∙ ap (λ l. null ∷ l) follow))

module _ (document : List ℕ) (tree : json.Json) (one other : Span) (p : IsSolidSpan document one) (q : IsSolidSpan document other) (wa ta wb tb : Data) (a : HasHole document tree one wa ta) (b : HasHole document tree other wb tb) (same-place-of : SameHole a.hole b.hole a.value b.value)
    (begun : BeginsToken (lex between (drop one.start document))) where
  not-later : one.start < other.start → ⊥
  not-later later =
      let n = other.start - (one.start + 1) in
      let order = q.order in
      let end = q.within in
      let inside : one.start < length document = omega (arith, later, order, end) in
      let x = get_or document one.start 0 in
      let between_them = take n (drop (one.start + 1) document) in
      let count : other.start - one.start ≡ suc n = omega (arith, later) in
      let here : drop one.start document ≡ x ∷ drop (one.start + 1) document = drop_more document one.start 0 inside in
      let far : other.start ≡ one.start + (other.start - one.start) = omega (arith, later) in
      let split : take other.start document ≡ take one.start document ++ (x ∷ between_them) =
      take-split one.start (other.start - one.start) other.start document far ∙ ap (λ l. take one.start document ++ l) (ap₂ (λ k l. take k l) count here) in
      let token_here = same-token x (drop (one.start + 1) document) between_them begun.first begun.rest (solid x p.first) (sym (ap (lex between) here) ∙ begun.is) in
      let rest = lex between (drop other.end document) in
      let ls = token null ∷ rest in
      let lexed : lex between (take other.start document) ++ ls ≡ lex between (take one.start document) ++ (token token_here.first ∷ (token_here.rest ++ ls)) =
      ap (λ l. l ++ ls) (ap (lex between) split ∙ p.cut (x ∷ between_them) ∙ ap (λ l. lex between (take one.start document) ++ l) token_here.is) ∙ append_assoc (lex between (take one.start document)) (token token_here.first ∷ token_here.rest) ls in
      let there = b.front ls refl ∙ ap (λ l. before b.hole ++ l) (null-at b.next rest b.begin ∙ ap (λ l. null ∷ l) b.rest) ∙ ap (λ h. before h ++ null ∷ after h) (sym same-place-of.hole) in
      let both = sym (a.front (token token_here.first ∷ (token_here.rest ++ ls)) refl) ∙ ap (punctuate fresh) (sym lexed) ∙ there in
      no-place a.next b.next token_here.first token_here.rest rest (after a.hole) a.good b.begin (append_cancel_left (before a.hole) _ _ both) (b.rest ∙ ap after (sym same-place-of.hole))

  module _ (start : one.start ≡ other.start) where
    not-longer : one.end < other.end → ⊥
    not-longer longer =
        let first = p.order in
        let last = q.within in
        let n = other.end - (one.end + 1) in
        let own = bytes_of document one in
        let rest = drop one.end document in
        let y = get_or document one.end 0 in
        let added = take (suc n) rest in
        let inside : one.end < length document = omega (arith, longer, last) in
        let here : rest ≡ y ∷ drop (one.end + 1) document = drop_more document one.end 0 inside in
        let begins_with : added ≡ y ∷ take n (drop (one.end + 1) document) = ap (take (suc n)) here in
        let ends : ends_word added ≡ true = ap ends_word begins_with ∙ sym (ap ends_word here) ∙ a.ends in
        let count : other.end - other.start ≡ (one.end - one.start) + suc n = omega (arith, longer, start, first) in
        let past : one.start + (one.end - one.start) ≡ one.end = omega (arith, first) in
        let longer_text : bytes_of document other ≡ own ++ added =
        ap (λ k. take (other.end - other.start) (drop k document)) (sym start) ∙ take-split (one.end - one.start) (suc n) (other.end - other.start) (drop one.start document) count
        ∙ ap (λ l. own ++ take (suc n) l) (drop-drop (one.end - one.start) one.start document ∙ ap (λ k. drop k document) past) in
        let uncolon : begins_colon (lex between added) ≡ false =
        colon-front added (drop (suc n) rest) (ap (λ l. begins_colon (lex between l)) (take-append-drop (suc n) rest) ∙ no-colon (lex between rest) (ap all_good a.rest ∙ a.good)) in
        let all = sym b.spelled ∙ ap tokens longer_text ∙ ap (punctuate fresh) (lex-value a.value own added a.spelled ends) ∙ value-again a.value (lex between own) (lex between added) uncolon a.spelled in
        let none : punctuate after_value (lex between added) ≡ [] =
        append_cancel_left (json_tokens a.value) _ _ (sym all ∙ ap json_tokens (sym same-place-of.value) ∙ sym (append-nil (json_tokens a.value))) in
        let enough : n < length added = omega (arith, ap (λ (l : List ℕ). length l) begins_with, length-take (suc n) rest, length-drop one.end document, longer, last) in
        let blank = all-blank added (none-left (lex between added) none) n enough in
        let few : n < suc n = omega arith in
        let where_is : one.end + n ≡ other.end - 1 = omega (arith, longer) in
        let byte : get_or added n 0 ≡ get_or document (other.end - 1) 0 = get_or-take (suc n) rest n 0 few ∙ get_or-drop one.end document n 0 ∙ ap (λ k. get_or document k 0) where_is in
        true≢false (sym blank ∙ ap (λ c. is_blank (class c)) byte ∙ solid (get_or document (other.end - 1) 0) q.last)

-- ---- one span

pub eq_of_not-lt : (m n : ℕ) → (m < n → ⊥) → (n < m → ⊥) → m ≡ n
eq_of_not-lt m n f g = omega (arith, f, g)

module _ (document : List ℕ) (tree : json.Json) (one other : Span) (p : IsSolidSpan document one) (q : IsSolidSpan document other) (wa ta wb tb : Data) (a : HasHole document tree one wa ta) (b : HasHole document tree other wb tb) (same : SameHole a.hole b.hole a.value b.value)
    (begun : BeginsToken (lex between (drop one.start document))) (begins : BeginsToken (lex between (drop other.start document))) where
  back : SameHole b.hole a.hole b.value a.value
  back = record { hole = sym same.hole; value = sym same.value }

  start : one.start ≡ other.start
  start = eq_of_not-lt one.start other.start (not-later document tree one other p q wa ta wb tb a b same begun) (not-later document tree other one q p wb tb wa ta b a back begins)

  end : one.end ≡ other.end
  end = eq_of_not-lt one.end other.end (not-longer document tree one other p q wa ta wb tb a b same begun start) (not-longer document tree other one q p wb tb wa ta b a back begins (sym start))

  -- two spans of one place are one
  pub one-span : one ≡ other
  one-span = ap₂ (λ s e. record { start = s; end = e }) start end

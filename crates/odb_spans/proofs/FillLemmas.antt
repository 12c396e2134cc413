-- A document with a literal in the place of a value: its tokens, and what is read of it.
use Rattle.std.proofs.Common.{◌≡◌, ◌∙◌, ℕ, suc, ◌≤◌, ◌<◌, List, [], ◌∷◌, ◌++◌, true, false, cond, length, take, drop, get_or, Option, Some, None, option_map, option_and_then, unwrap_or, codes, bytes_eq, refl, sym, ap, ap₂, subst, arith, append_assoc, append-nil}
use Rattle.std.specs.Prelude.{IsUtf8, set}
use Rattle.std.proofs.lemmas.List.{append_cancel_right, take-append-drop}
use Rattle.std.proofs.lemmas.Str.{IsUtf8-append, IsUtf8-drop, IsUtf8-from_ascii, IsUtf8-take}
use Rattle.std.proofs.lemmas.Str.Ascii.{IsAscii-cons, IsAscii-nil}
use Rattle.std.specs.Str.{IsAscii}
use Rattle.json.specs.Token.{Token, begin_object, end_object, begin_array, end_array, key, boolean, null}
use Rattle.json.specs.Word.{ends_word}
use Rattle.json.specs.Align.{is_blank, is_good}
use Rattle.json.specs.Lex.{Lexeme, token, class, between, lex, Place, fresh, after_value, begins_colon, may_begin, if_allowed, place_token, punctuate, tokens}
use Rattle.json.specs.Json as json
use Rattle.json.specs.Find.{later_or}
use Rattle.json.specs.Find as tree
use Rattle.json.specs.Tree.{json_tokens, items_tokens, members_tokens, depth, items_depth, members_depth}
use Rattle.serde_json.specs.Data.{Data, array, Items, item, Members, no_members, put}
use Rattle.serde_json.specs.Data as values
use Rattle.serde_json.specs.Find.{get_member, as_array}
use Rattle.serde_json.specs.Read.{max_depth, of_json, of_items, of_members}
use Rattle.odb_doc.specs.Documents.{IsJson}
use Rattle.odb_doc.specs.Members.{list_of}
use Rattle.odb_spans.specs.Spans.{replaced}
use Rattle.odb_spans.specs.Walks.{lexemes_from}
use Rattle.odb_spans.specs.Parts.{LiesAt, append_items, append_members, count_items}
use Rattle.odb_spans.specs.declared.span.Span.{Span}
use Rattle.odb_spans.proofs.BracketLemmas.{Begins, begins}
use Rattle.odb_spans.proofs.DataLemmas.{item-read}
use Rattle.odb_spans.proofs.FrontLemmas.{SamePlace, SplitsAt, all_good, ends-after, good-json, good-rest, lex-front, lex-null, lex-true, same-place, splits-at}
use Rattle.odb_spans.proofs.LookupLemmas.{Corresponds, IsReadAs, get-read}
use Rattle.odb_spans.proofs.PartLemmas.{BeginsWithToken, begins-with-token, not-past, value-within}
use Rattle.odb_spans.proofs.PlaceLemmas.{at-token}
use Rattle.odb_spans.proofs.ReadLemmas.{IsTreeOf, read-tokens}

-- ---- the tokens round a value

-- whatever value is filled in, the same tokens come before and after it
pub record Around (fill : json.Json → json.Json) (after : List Token) : Type 0 where
  pub before : List Token
  pub spells : (i : json.Json) → json_tokens (fill i) ≡ before ++ (json_tokens i ++ after)

record AroundMember (earlier : json.Members) (k : List ℕ) (later : json.Members) : Type 0 where
  before : List Token
  spells : (i : json.Json) → members_tokens (append_members earlier (json.member k i later)) ≡ before ++ (json_tokens i ++ members_tokens later)

around-member : (earlier : json.Members) (k : List ℕ) (later : json.Members) → AroundMember earlier k later
around-member json.no_members k later = record { before = key k ∷ []; spells = λ i. refl }
around-member (json.member l j earlier) k later =
    let h = around-member earlier k later in
    record {
      before = key l ∷ (json_tokens j ++ h.before);
      spells = λ i. ap (λ ts. key l ∷ (json_tokens j ++ ts)) (h.spells i) ∙ ap (λ ts. key l ∷ ts) (sym (append_assoc (json_tokens j) h.before (json_tokens i ++ members_tokens later)));
    }

record AroundItem (earlier later : json.Items) : Type 0 where
  before : List Token
  spells : (i : json.Json) → items_tokens (append_items earlier (json.item i later)) ≡ before ++ (json_tokens i ++ items_tokens later)

around-item : (earlier later : json.Items) → AroundItem earlier later
around-item json.no_items later = record { before = []; spells = λ i. refl }
around-item (json.item j earlier) later =
    let h = around-item earlier later in
    record {
      before = json_tokens j ++ h.before;
      spells = λ i. ap (λ ts. json_tokens j ++ ts) (h.spells i) ∙ sym (append_assoc (json_tokens j) h.before (json_tokens i ++ items_tokens later));
    }

pub nested : (ts before us after vs : List Token) → ts ++ ((before ++ (us ++ after)) ++ vs) ≡ (ts ++ before) ++ (us ++ (after ++ vs))
nested ts before us after vs =
    ap (λ l. ts ++ l) (append_assoc before (us ++ after) vs ∙ ap (λ l. before ++ l) (append_assoc us after vs)) ∙ sym (append_assoc ts before (us ++ (after ++ vs)))

module _ (earlier : json.Members) (k : List ℕ) (later : json.Members) where
  abbrev pub in_object : json.Json → json.Json
  in_object i = json.object (append_members earlier (json.member k i later))

  pub in-object : (fill : json.Json → json.Json) (after : List Token) → Around fill after → Around (λ i. in_object (fill i)) (after ++ members_tokens later)
  in-object fill after inner =
      let h = around-member earlier k later in
      record {
        before = begin_object ∷ (h.before ++ inner.before);
        spells = λ i. ap (λ l. begin_object ∷ l) (h.spells (fill i) ∙ ap (λ l. h.before ++ (l ++ members_tokens later)) (inner.spells i) ∙ nested h.before inner.before (json_tokens i) after (members_tokens later));
      }

module _ (earlier later : json.Items) where
  abbrev pub in_array : json.Json → json.Json
  in_array i = json.array (append_items earlier (json.item i later))

  pub in-array : (fill : json.Json → json.Json) (after : List Token) → Around fill after → Around (λ i. in_array (fill i)) (after ++ items_tokens later)
  in-array fill after inner =
      let h = around-item earlier later in
      record {
        before = begin_array ∷ (h.before ++ inner.before);
        spells = λ i. ap (λ l. begin_array ∷ l) (h.spells (fill i) ∙ ap (λ l. h.before ++ (l ++ items_tokens later)) (inner.spells i) ∙ nested h.before inner.before (json_tokens i) after (items_tokens later));
      }

pub inside : (fill inner : json.Json → json.Json) (after more : List Token) → Around fill after → Around inner more → Around (λ i. fill (inner i)) (more ++ after)
inside fill inner after more a b = record { before = a.before ++ b.before; spells = λ i. a.spells (inner i) ∙ ap (λ l. a.before ++ (l ++ after)) (b.spells i) ∙ nested a.before b.before (json_tokens i) more after }

pub alone : Around (λ i. i) []
alone = record { before = []; spells = λ i. sym (append-nil (json_tokens i)) }

-- ---- a literal

-- its text, its token, and what is read of it
pub record Literal : Type 0 where
  pub word : List ℕ
  pub mark : Token
  pub tree : json.Json
  pub value : Data
  pub ascii : IsAscii word
  pub lexed : (ys : List ℕ) → ends_word ys ≡ true → lex between (word ++ ys) ≡ token mark ∷ lex between ys
  pub placed : (p : Place) (ls : List Lexeme) → may_begin p ≡ true → punctuate p (token mark ∷ ls) ≡ mark ∷ punctuate after_value ls
  pub spelled : json_tokens tree ≡ mark ∷ []
  pub flat : depth tree ≡ 0
  pub read : of_json tree ≡ Some value

pub null-ascii : IsAscii (codes "null")
null-ascii = IsAscii-cons 110 (117 ∷ 108 ∷ 108 ∷ []) (omega arith) (IsAscii-cons 117 (108 ∷ 108 ∷ []) (omega arith) (IsAscii-cons 108 (108 ∷ []) (omega arith) (IsAscii-cons 108 [] (omega arith) IsAscii-nil)))

pub true-ascii : IsAscii (codes "true")
true-ascii = IsAscii-cons 116 (114 ∷ 117 ∷ 101 ∷ []) (omega arith) (IsAscii-cons 114 (117 ∷ 101 ∷ []) (omega arith) (IsAscii-cons 117 (101 ∷ []) (omega arith) (IsAscii-cons 101 [] (omega arith) IsAscii-nil)))

pub null-at : (p : Place) (ls : List Lexeme) → may_begin p ≡ true → punctuate p (token null ∷ ls) ≡ null ∷ punctuate after_value ls
null-at p ls begin = at-token p null ls ∙ ap (λ b. if_allowed b null (λ next. punctuate next ls) after_value) begin

pub true-at : (p : Place) (ls : List Lexeme) → may_begin p ≡ true → punctuate p (token (boolean true) ∷ ls) ≡ boolean true ∷ punctuate after_value ls
true-at p ls begin = at-token p (boolean true) ls ∙ ap (λ b. if_allowed b (boolean true) (λ next. punctuate next ls) after_value) begin

abbrev pub null_literal : Literal
null_literal = record { word = codes "null"; mark = null; tree = json.null; value = values.null; ascii = null-ascii; lexed = lex-null; placed = null-at; spelled = refl; flat = refl; read = refl }

abbrev pub true_literal : Literal
true_literal = record { word = codes "true"; mark = boolean true; tree = json.boolean true; value = values.boolean true; ascii = true-ascii; lexed = lex-true; placed = true-at; spelled = refl; flat = refl; read = refl }

-- ---- the text with a literal in the place of a value

module _ (literal : Literal) (text : List ℕ) (span : Span) (j : json.Json) (t : Token) (ts before : List Token) (lies : LiesAt text span j (t ∷ ts)) (follows : is_good t ≡ true)
    (spelled : tokens text ≡ before ++ (json_tokens j ++ (t ∷ ts))) (good : all_good (before ++ (json_tokens j ++ (t ∷ ts))) ≡ true) where
  abbrev front : List Lexeme
  front = lex between (take span.start text)

  abbrev here : List Lexeme
  here = lexemes_from text span.start

  abbrev rest : List Lexeme
  rest = lexemes_from text span.end

  value-begins : BeginsWithToken j
  value-begins = begins-with-token j

  first : Begins lies.has.place here value-begins.first (value-begins.others ++ (t ∷ ts))
  first = begins lies.has.place here value-begins.first (value-begins.others ++ (t ∷ ts)) lies.has.begin value-begins.good (lies.has.spelled ∙ ap (λ l. l ++ (t ∷ ts)) value-begins.is)

  placed-here : (p : Place) → punctuate p here ≡ place_token p first.first (begins_colon first.rest) (λ next. punctuate next first.rest)
  placed-here p = ap (punctuate p) first.lexed ∙ at-token p first.first first.rest

  whole : punctuate fresh (front ++ here) ≡ before ++ (json_tokens j ++ (t ∷ ts))
  whole = sym (ap (punctuate fresh) (ap (lex between) (sym (take-append-drop span.start text)) ∙ lex-front between (take span.start text) (drop span.start text) lies.clear)) ∙ spelled

  changed : lex between (replaced text span literal.word) ≡ front ++ (token literal.mark ∷ rest)
  changed =
      lex-front between (take span.start text) (literal.word ++ drop span.end text) lies.clear
      ∙ ap (λ l. front ++ l) (literal.lexed (drop span.end text) (ends-after (drop span.end text) t ts follows (sym lies.ended.follow)))

  cut : SplitsAt fresh front here
  cut = splits-at fresh front here (ap begins_colon first.lexed) (ap all_good whole ∙ good)

  fine : all_good (punctuate cut.place here) ≡ true
  fine = good-rest cut.passed (punctuate cut.place here) (sym (ap all_good cut.one) ∙ ap all_good whole ∙ good)

  same : SamePlace cut.place lies.has.place first.first (begins_colon first.rest) (λ next. punctuate next first.rest)
  same =
      same-place cut.place lies.has.place (λ next. punctuate next first.rest) value-begins.first (value-begins.others ++ (t ∷ ts)) value-begins.good value-begins.inner lies.has.begin first.first (begins_colon first.rest) first.placed
      (sym (ap all_good (placed-here cut.place)) ∙ fine)

  shared : punctuate cut.place here ≡ json_tokens j ++ (t ∷ ts)
  shared = placed-here cut.place ∙ same.same ∙ sym (placed-here lies.has.place) ∙ lies.has.spelled

  passed : cut.passed ≡ before
  passed = append_cancel_right cut.passed before (json_tokens j ++ (t ∷ ts)) (ap (λ l. cut.passed ++ l) (sym shared) ∙ sym cut.one ∙ whole)

  literal-tokens : tokens (replaced text span literal.word) ≡ before ++ (literal.mark ∷ (t ∷ ts))
  literal-tokens = ap (punctuate fresh) changed ∙ cut.two (token literal.mark ∷ rest) refl ∙ ap₂ (λ l m. l ++ m) passed (literal.placed cut.place rest same.begins ∙ ap (λ l. literal.mark ∷ l) (sym lies.ended.follow))

-- ---- the last member of a name

pub last-member : (name : List ℕ) (earlier : json.Members) (k : List ℕ) (j : json.Json) (later : json.Members) → bytes_eq k name ≡ true → tree.get_member name later ≡ None
    → tree.get_member name (append_members earlier (json.member k j later)) ≡ Some j
last-member name json.no_members k j later named last = ap₂ (λ o b. later_or o (cond b (Some j) None)) last named
last-member name (json.member l i earlier) k j later named last = ap (λ o. later_or o (cond (bytes_eq l name) (Some i) None)) (last-member name earlier k j later named last)

pub read-last : (name : List ℕ) (j : json.Json) (ms : json.Members) (all : Members) → tree.get_member name ms ≡ Some j → of_members ms no_members ≡ Some all → IsReadAs j (get_member name all)
read-last name j ms all found reads = subst (λ o. Corresponds o (get_member name all) None) found (get-read name ms all reads)

-- ---- what is read of the changed values

abbrev pub ReadsMembers : json.Members → Members → Type 0
ReadsMembers ms found = (all : Members) × (of_members ms found ≡ Some all)

one-read : (k : List ℕ) (j : json.Json) (ms ns : json.Members) (found more all : Members) (o : Option Data) → of_json j ≡ o → option_and_then (λ d. of_members ms (put k d found)) o ≡ Some all
    → ((d : Data) → of_members ms (put k d found) ≡ Some all → ReadsMembers ns (put k d more)) → ReadsMembers (json.member k j ns) more
one-read k j ms ns found more all None reads e rest = absurd (cc (e))
one-read k j ms ns found more all (Some d) reads e rest = let h = rest d e in (h.0, ap (option_and_then (λ d. of_members ns (put k d more))) reads ∙ h.1)

members-read : (ms : json.Members) (found more all : Members) → of_members ms found ≡ Some all → ReadsMembers ms more
members-read json.no_members found more all e = (more, refl)
members-read (json.member k j ms) found more all e = one-read k j ms ms found more all (of_json j) refl e (λ d. members-read ms (put k d found) (put k d more) all)

swapped : (k : List ℕ) (i : json.Json) (later : json.Members) (found more all : Members) (d : Data) (o : Option Data) → of_json i ≡ Some d → option_and_then (λ c. of_members later (put k c found)) o ≡ Some all → ReadsMembers (json.member k i later) more
swapped k i later found more all d None reads e = absurd (cc (e))
swapped k i later found more all d (Some c) reads e =
    let h = members-read later (put k c found) (put k d more) all e in (h.0, ap (option_and_then (λ d. of_members later (put k d more))) reads ∙ h.1)

pub members-changed : (earlier : json.Members) (k : List ℕ) (j i : json.Json) (later : json.Members) (found more all : Members) (d : Data) → of_json i ≡ Some d → of_members (append_members earlier (json.member k j later)) found ≡ Some all
    → ReadsMembers (append_members earlier (json.member k i later)) more
members-changed json.no_members k j i later found more all d reads e = swapped k i later found more all d (of_json j) reads e
members-changed (json.member l x earlier) k j i later found more all d reads e =
    one-read l x (append_members earlier (json.member k j later)) (append_members earlier (json.member k i later)) found more all (of_json x) refl e (λ c. members-changed earlier k j i later (put l c found) (put l c more) all d reads)

-- the items with another in one place, of which d is read
pub record ItemsChanged (earlier : json.Items) (i : json.Json) (later : json.Items) (ds : Items) (d : Data) : Type 0 where
  pub all : Items
  pub reads : of_items (append_items earlier (json.item i later)) ≡ Some all
  pub list : list_of all ≡ set (list_of ds) (count_items earlier) d

read-item : (j : json.Json) (js : json.Items) (d : Data) (ds : Items) → of_json j ≡ Some d → of_items js ≡ Some ds → of_items (json.item j js) ≡ Some (item d ds)
read-item j js d ds first others = ap (option_and_then (λ d. option_map (item d) (of_items js))) first ∙ ap (option_map (item d)) others

pub items-changed : (earlier : json.Items) (j i : json.Json) (later : json.Items) (ds : Items) (d : Data) → of_json i ≡ Some d → of_items (append_items earlier (json.item j later)) ≡ Some ds → ItemsChanged earlier i later ds d
items-changed json.no_items j i later ds d reads e =
    let h = item-read j later ds (of_json j) refl e in
    record { all = item d h.others; reads = read-item i later d h.others reads h.more; list = sym (ap (λ x. set (list_of x) 0 d) h.is) }
items-changed (json.item x earlier) j i later ds d reads e =
    let h = item-read x (append_items earlier (json.item j later)) ds (of_json x) refl e in
    let more = items-changed earlier j i later h.others d reads h.more in
    record {
      all = item h.first more.all;
      reads = read-item x (append_items earlier (json.item i later)) h.first more.all h.reads more.reads;
      list = ap (λ l. h.first ∷ l) more.list ∙ sym (ap (λ y. set (list_of y) (suc (count_items earlier)) d) h.is);
    }

pub item-within : (earlier : json.Items) (j : json.Json) (later : json.Items) (ds : Items) → of_items (append_items earlier (json.item j later)) ≡ Some ds → (d : Data) × (of_json j ≡ Some d)
item-within json.no_items j later ds e = let h = item-read j later ds (of_json j) refl e in (h.first, h.reads)
item-within (json.item x earlier) j later ds e = let h = item-read x (append_items earlier (json.item j later)) ds (of_json x) refl e in item-within earlier j later h.others h.more

abbrev pub listed : Option Data → List Data
listed o = unwrap_or (option_map list_of (option_and_then as_array o)) []

-- the elements of an array that is the last member of a name
pub last-listed : (name : List ℕ) (j : json.Json) (ms : json.Members) (all : Members) (ds : Items) → tree.get_member name ms ≡ Some j → of_members ms no_members ≡ Some all → of_json j ≡ Some (array ds) → listed (get_member name all) ≡ list_of ds
last-listed name j ms all ds found reads value =
    let h = read-last name j ms all found reads in
    let same : array ds ≡ h.value = cc (h.read, value) in
    ap listed h.is ∙ ap (λ x. listed (Some x)) (sym same)

-- ---- the depth

-- how deep a member is, and that another as shallow may be in its place
pub members-shallow : (earlier : json.Members) (k : List ℕ) (j : json.Json) (later : json.Members) (n : ℕ) → members_depth (append_members earlier (json.member k j later)) ≤ n
    → (depth j ≤ n) × ((i : json.Json) → depth i ≤ n → members_depth (append_members earlier (json.member k i later)) ≤ n)
members-shallow json.no_members k j later n le = (omega (arith, le), λ i small. omega (arith, le, small))
members-shallow (json.member l x earlier) k j later n le =
    let more = members-shallow earlier k j later n (omega (arith, le)) in
    (more.0, λ i small. (let rest = more.1 i small in omega (arith, le, rest)))

pub items-shallow : (earlier : json.Items) (j : json.Json) (later : json.Items) (n : ℕ) → items_depth (append_items earlier (json.item j later)) ≤ n → (depth j ≤ n) × ((i : json.Json) → depth i ≤ n → items_depth (append_items earlier (json.item i later)) ≤ n)
items-shallow json.no_items j later n le = (omega (arith, le), λ i small. omega (arith, le, small))
items-shallow (json.item x earlier) j later n le =
    let more = items-shallow earlier j later n (omega (arith, le)) in
    (more.0, λ i small. (let rest = more.1 i small in omega (arith, le, rest)))

-- ---- a literal in the place of a value of the document

-- there is a next token, and it is good
pub record BeginsWell (ts : List Token) : Type 0 where
  pub first : Token
  pub rest : List Token
  pub is : ts ≡ first ∷ rest
  pub good : is_good first ≡ true

pub begins-well-members : (ms : json.Members) (ts : List Token) → BeginsWell (members_tokens ms ++ ts)
begins-well-members json.no_members ts = record { first = end_object; rest = ts; is = refl; good = refl }
begins-well-members (json.member k j ms) ts = record { first = key k; rest = (json_tokens j ++ members_tokens ms) ++ ts; is = refl; good = refl }

pub begins-well-items : (js : json.Items) (ts : List Token) → BeginsWell (items_tokens js ++ ts)
begins-well-items json.no_items ts = record { first = end_array; rest = ts; is = refl; good = refl }
begins-well-items (json.item j js) ts =
    let b = begins-with-token j in
    record { first = b.first; rest = b.others ++ (items_tokens js ++ ts); is = append_assoc (json_tokens j) (items_tokens js) ts ∙ ap (λ l. l ++ (items_tokens js ++ ts)) b.is; good = b.good }

module _ (text : List ℕ) (d : Data) (span : Span) (value : json.Json) (after : List Token) (part : LiesAt text span value after) (next : BeginsWell after) (utf8 : IsUtf8 text) where
  pub begins-solid : is_blank (class (get_or text span.start 0)) ≡ false
  begins-solid = part.has.solid (value-within text span.start value after part.has)

  pub ends-within : span.end < length text
  ends-within = not-past text span.end after_value next.first next.rest next.good (sym part.ended.follow ∙ next.is)

  pub is-utf8 : (literal : Literal) → IsUtf8 (replaced text span literal.word)
  is-utf8 literal =
      IsUtf8-append _ _ (IsUtf8-take text span.start utf8 part.has.boundary)
      (IsUtf8-append literal.word _ (IsUtf8-from_ascii literal.word literal.ascii) (IsUtf8-drop text span.end utf8 part.ended.boundary))

  module _ (filled : json.Json → json.Json) (around : Around filled after) (top : IsTreeOf text d) (in_document : top.tree ≡ filled value) where
    pub literal-tree : (literal : Literal) → tokens (replaced text span literal.word) ≡ json_tokens (filled literal.tree)
    literal-tree literal =
        let whole = around.before ++ (json_tokens value ++ after) in
        let all : all_good (json_tokens (filled value)) ≡ true = ap all_good (sym (append-nil (json_tokens (filled value)))) ∙ good-json (filled value) [] refl in
        let read : tokens text ≡ whole = top.spelled ∙ append-nil (json_tokens top.tree) ∙ ap json_tokens in_document ∙ around.spells value in
        literal-tokens literal text span value next.first next.rest around.before (subst (LiesAt text span value) next.is part) next.good (read ∙ ap (λ l. around.before ++ (json_tokens value ++ l)) next.is)
        (sym (ap (λ l. all_good (around.before ++ (json_tokens value ++ l))) next.is) ∙ sym (ap all_good (around.spells value)) ∙ all)
        ∙ ap (λ l. around.before ++ (literal.mark ∷ l)) (sym next.is)
        ∙ ap (λ l. around.before ++ (l ++ after)) (sym literal.spelled)
        ∙ sym (around.spells literal.tree)

    pub replaced-json : (literal : Literal) (r : Data) → depth (filled literal.tree) ≤ max_depth → of_json (filled literal.tree) ≡ Some r → IsJson (replaced text span literal.word) r
    replaced-json literal r shallow reads = (is-utf8 literal, read-tokens (replaced text span literal.word) (filled literal.tree) (literal-tree literal) shallow ∙ reads)

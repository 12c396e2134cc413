-- What is written for a value that was read is read back as that value.
use Rattle.std.proofs.Common.{◌≡◌, ◌∙◌, ℕ, zero, suc, ◌^◌, ◌<◌, ◌≤◌, ◌&&◌, ◌==◌, max, nat_lt, nat_le, List, [], ◌++◌, Bool, true, false, Option, Some, None, option_map, option_and_then, if◌then◌else◌, Ordering, Less, Equal, Greater, neg_ℤ, pos, negsuc, refl, sym, ap, ap₂, subst, arith, append-nil, slice_index, drop}
use Rattle.std.specs.Prelude.{⊤, IfSome}
use Rattle.std.specs.Cmp.Lexicographic.{slice_cmp}
use Rattle.std.specs.Ordering.{nat_cmp, match_ordering, ordering_reverse}
use Rattle.std.specs.Float.Numeral.{Parts, scan_numeral}
use Rattle.std.proofs.lemmas.Bool.{or_parts}
use Rattle.std.proofs.lemmas.Bool.Decides.{nat_tests}
use Rattle.std.proofs.lemmas.Cmp.{nat_list_cmp_total}
use Rattle.json.specs.Json as json
use Rattle.json.specs.Tree as tree
use Rattle.json.specs.Lex.{tokens}
use Rattle.json.specs.Print.{IsNumber}
use Rattle.json.proofs.Printed.Decimals.{IsNumber-decimal, IsNumber-signed_decimal}
use Rattle.json.proofs.Printed.Tokens.{tokens-print}
use Rattle.json.proofs.Printed.Trees.{value-json_tokens, ArePrintable-json_tokens}
use Rattle.serde_json.specs.Data.{Num, unsigned, negative, float, Data, null, boolean, number, string, array, object, Items, no_items, item, Members, no_members, member, put, depth, items_depth, members_depth}
use Rattle.serde_json.specs.Find.{is_float}
use Rattle.serde_json.specs.Read.{is_integer, number_from, number_of, of_json, of_items, of_members, max_depth, read}
use Rattle.serde_json.specs.Written.{number_text, outline, items_outline, members_outline, has_float, items_have_float, members_have_float, compact_text}
use Rattle.serde_json.proofs.Numbers.{number_of-decimal, number_of-negative}
use Rattle.serde_json.proofs.Texts.{print-outline}
use Rattle.odb_doc.specs.canonical.HeldValues.{IsHeldNumber, IsBelow, AreOrdered, IsHeld, AreItemsHeld, AreMembersHeld}

-- ---- one more member

-- what holds of each of three holds of the one that the order chooses
pub by_order : {X : Type 0} (P : X → Type 0) (o : Ordering) (less equal greater : X) → P less → P equal → P greater → P (match_ordering o less equal greater)
by_order P Less less equal greater first second third = first
by_order P Equal less equal greater first second third = second
by_order P Greater less equal greater first second third = third

below-put : (name k : List ℕ) (d : Data) (ms : Members) → slice_cmp nat_cmp name k ≡ Less → IsBelow name ms → IsBelow name (put k d ms)
below-put name k d no_members less below = (less, tt)
below-put name k d (member l e ms) less below = by_order (IsBelow name) (slice_cmp nat_cmp k l) _ _ _ (less, below) below (below.0, below-put name k d ms less below.1)

below-less : (k l : List ℕ) (ms : Members) → slice_cmp nat_cmp k l ≡ Less → IsBelow l ms → IsBelow k ms
below-less k l no_members less below = tt
below-less k l (member name d ms) less below = (nat_list_cmp_total.trans k l name less below.0, below-less k l ms less below.1)

-- the order of two names, reversed
turned : (k l : List ℕ) (o : Ordering) → slice_cmp nat_cmp k l ≡ o → slice_cmp nat_cmp l k ≡ ordering_reverse o
turned k l o is = nat_list_cmp_total.antisymm l k ∙ ap ordering_reverse is

ordered-at : (o : Ordering) (k l : List ℕ) (d e : Data) (ms : Members) → slice_cmp nat_cmp k l ≡ o → AreOrdered (member l e ms) → AreOrdered (put k d ms)
    → AreOrdered (match_ordering o (member k d (member l e ms)) (member l d ms) (member l e (put k d ms)))
ordered-at Less k l d e ms is ordered more = ((is, below-less k l ms is ordered.0), ordered)
ordered-at Equal k l d e ms is ordered more = ordered
ordered-at Greater k l d e ms is ordered more = (below-put l k d ms (turned k l Greater is) ordered.0, more)

pub ordered-put : (k : List ℕ) (d : Data) (ms : Members) → AreOrdered ms → AreOrdered (put k d ms)
ordered-put k d no_members ordered = (tt, tt)
ordered-put k d (member l e ms) ordered = ordered-at _ k l d e ms refl ordered (ordered-put k d ms ordered.1)

pub held-put : (k : List ℕ) (d : Data) (ms : Members) → IsHeld d → AreMembersHeld ms → AreMembersHeld (put k d ms)
held-put k d no_members new rest = (new, tt)
held-put k d (member l e ms) new rest = by_order AreMembersHeld (slice_cmp nat_cmp k l) _ _ _ (new, rest) (new, rest.1) (rest.0, held-put k d ms new rest.1)

-- ---- what was read is held

module _ {A B : Type 0} (P : A → Type 0) (Q : B → Type 0) where
  IfSome-map : (h : A → B) → ((a : A) → P a → Q (h a)) → (o : Option A) → IfSome o P → IfSome (option_map h o) Q
  IfSome-map h k None x = tt
  IfSome-map h k (Some a) x = k a x

  IfSome-and_then : (h : A → Option B) → ((a : A) → P a → IfSome (h a) Q) → (o : Option A) → IfSome o P → IfSome (option_and_then h o) Q
  IfSome-and_then h k None x = tt
  IfSome-and_then h k (Some a) x = k a x

any : {A : Type 0} (o : Option A) → IfSome o (λ _. ⊤)
any None = tt
any (Some a) = tt

either : {A : Type 0} (P : A → Type 0) (b : Bool) (x y : Option A) → (b ≡ true → IfSome x P) → IfSome y P → IfSome (if b then x else y) P
either P true x y p q = p refl
either P false x y p q = q

negative-range : (n : ℕ) → 0 < n → n ≤ 2 ^ 63 → IsHeldNumber (negative (neg_ℤ (pos n)))
negative-range zero some fits = absurd (omega (arith, some))
negative-range (suc n) some fits = omega (arith, fits)

-- the same of a number that may not be there, so that a number by cases is taken apart
record MayRange (o : Option Num) : Type 0 where
  is : IfSome o IsHeldNumber

no-number : (b : Bool) (n : Num) → IsHeldNumber n → MayRange (if b then Some n else None)
no-number b n range = record { is = either IsHeldNumber b (Some n) None (λ _. range) tt }

positive-number : (a : Bool) (n : ℕ) (x : Option Num) → MayRange x → MayRange (if a && nat_lt n (2 ^ 64) then Some (unsigned n) else x)
positive-number a n x other = record { is = either IsHeldNumber (a && nat_lt n (2 ^ 64)) (Some (unsigned n)) x (λ is. grind (arith, nat_tests)) other.is }

negative-number : (a : Bool) (n : ℕ) (x : Option Num) → MayRange x → MayRange (if a && nat_lt 0 n && nat_le n (2 ^ 63) then Some (negative (neg_ℤ (pos n))) else x)
negative-number a n x other = record {
  is = either IsHeldNumber (a && nat_lt 0 n && nat_le n (2 ^ 63)) (Some (negative (neg_ℤ (pos n)))) x (λ is. negative-range n (grind (arith, nat_tests)) (grind (arith, nat_tests))) other.is;
}

either-number : (b : Bool) (x y : Option Num) → MayRange x → MayRange y → MayRange (if b then x else y)
either-number b x y first second = record { is = either IsHeldNumber b x y (λ _. first.is) second.is }

number_from-range : (sign : Bool) (p : Parts) → MayRange (number_from sign p)
number_from-range false p = positive-number (is_integer p) _ _ (no-number _ _ tt)
number_from-range true p = negative-number (is_integer p) _ _ (no-number _ _ tt)

number_of-range : (s : List ℕ) → MayRange (number_of s)
unfolding number_of
number_of-range s = either-number (slice_index s 0 == 45) _ _ (number_from-range true (scan_numeral (drop 1 s))) (number_from-range false (scan_numeral s))

mutual
  held-of_json : (j : json.Json) → IfSome (of_json j) IsHeld
  held-of_json json.null = tt
  held-of_json (json.boolean b) = tt
  held-of_json (json.number s) = IfSome-map IsHeldNumber IsHeld number (λ n x. x) (number_of s) (number_of-range s).is
  held-of_json (json.string s) = tt
  held-of_json (json.array js) = IfSome-map AreItemsHeld IsHeld array (λ ds x. x) (of_items js) (held-of_items js)
  held-of_json (json.object ms) = IfSome-map (λ found. AreOrdered found × AreMembersHeld found) IsHeld object (λ found x. x) (of_members ms no_members) (held-of_members ms no_members tt tt)

  held-of_items : (js : json.Items) → IfSome (of_items js) AreItemsHeld
  held-of_items json.no_items = tt
  held-of_items (json.item j js) =
      IfSome-and_then IsHeld AreItemsHeld _ (λ d x. IfSome-map AreItemsHeld AreItemsHeld (item d) (λ ds y. (x, y)) (of_items js) (held-of_items js)) (of_json j) (held-of_json j)

  held-of_members : (ms : json.Members) (found : Members) → AreOrdered found → AreMembersHeld found → IfSome (of_members ms found) (λ all. AreOrdered all × AreMembersHeld all)
  held-of_members json.no_members found ordered held = (ordered, held)
  held-of_members (json.member k j ms) found ordered held =
      IfSome-and_then IsHeld (λ all. AreOrdered all × AreMembersHeld all) _ (λ d x. held-of_members ms (put k d found) (ordered-put k d found ordered) (held-put k d found x held)) (of_json j) (held-of_json j)

pub held-read : (text : List ℕ) (d : Data) → read text ≡ Some d → IsHeld d
held-read text d is =
    let parsed : Option json.Json = option_and_then (λ p. json.if_last p.0 p.1) (json.value max_depth (tokens text)) in
    subst (λ o. IfSome o IsHeld) is (IfSome-and_then (λ _. ⊤) IsHeld of_json (λ j _. held-of_json j) parsed (any parsed))

-- ---- what is held is read back

abbrev join : Members → Members → Members
join no_members ms = ms
join (member k d done) ms = member k d (join done ms)

join-none : (ms : Members) → join ms no_members ≡ ms
join-none no_members = refl
join-none (member k d ms) = ap (member k d) (join-none ms)

join-more : (done : Members) (k : List ℕ) (d : Data) (ms : Members) → join (join done (member k d no_members)) ms ≡ join done (member k d ms)
join-more no_members k d ms = refl
join-more (member l e done) k d ms = ap (member l e) (join-more done k d ms)

-- each of the first names is below each of the others
abbrev Precede : Members → Members → Type 0
Precede no_members ms = ⊤
Precede (member k d done) ms = IsBelow k ms × Precede done ms

precede-more : (done : Members) (k : List ℕ) (d : Data) (ms : Members) → Precede done (member k d ms) → IsBelow k ms → Precede (join done (member k d no_members)) ms
precede-more no_members k d ms before below = (below, tt)
precede-more (member l e done) k d ms before below = (before.0.1, precede-more done k d ms before.1 below)

-- a name above all goes last
put-last : (done : Members) (k : List ℕ) (d : Data) (ms : Members) → Precede done (member k d ms) → put k d done ≡ join done (member k d no_members)
put-last no_members k d ms before = refl
put-last (member l e done) k d ms before = rw (turned l k Less before.0.0) (ap (member l e) (put-last done k d ms before.1))

number-reads : (n : Num) → IsHeldNumber n → is_float n ≡ false → number_of (number_text n) ≡ Some n
number-reads (unsigned n) range whole = number_of-decimal n range
number-reads (negative (pos n)) range whole = absurd range
number-reads (negative (negsuc n)) range whole = number_of-negative n range
number-reads (float x) range whole = absurd (cc (whole))

mutual
  outline-reads : (d : Data) → IsHeld d → has_float d ≡ false → of_json (outline d) ≡ Some d
  outline-reads null held whole = refl
  outline-reads (boolean b) held whole = refl
  outline-reads (number n) held whole = ap (option_map number) (number-reads n held whole)
  outline-reads (string s) held whole = refl
  outline-reads (array ds) held whole = ap (option_map array) (outline-items ds held whole)
  outline-reads (object ms) held whole = ap (option_map object) (outline-members ms no_members tt held.0 held.1 whole)

  outline-items : (ds : Items) → AreItemsHeld ds → items_have_float ds ≡ false → of_items (items_outline ds) ≡ Some ds
  outline-items no_items held whole = refl
  outline-items (item d ds) held whole =
      let parts = or_parts (has_float d) (items_have_float ds) whole in
      ap (option_and_then (λ e. option_map (item e) (of_items (items_outline ds)))) (outline-reads d held.0 parts.0) ∙ ap (option_map (item d)) (outline-items ds held.1 parts.1)

  outline-members : (ms done : Members) → Precede done ms → AreOrdered ms → AreMembersHeld ms → members_have_float ms ≡ false → of_members (members_outline ms) done ≡ Some (join done ms)
  outline-members no_members done before ordered held whole = ap Some (sym (join-none done))
  outline-members (member k d ms) done before ordered held whole =
      let parts = or_parts (has_float d) (members_have_float ms) whole in
      ap (option_and_then (λ e. of_members (members_outline ms) (put k e done))) (outline-reads d held.0 parts.0)
      ∙ ap (of_members (members_outline ms)) (put-last done k d ms before)
      ∙ outline-members ms (join done (member k d no_members)) (precede-more done k d ms before ordered.0) ordered.1 held.1 parts.1
      ∙ ap Some (join-more done k d ms)

is-number : (n : Num) → IsHeldNumber n → is_float n ≡ false → IsNumber (number_text n)
is-number (unsigned n) range whole = IsNumber-decimal n range
is-number (negative (pos n)) range whole = absurd range
is-number (negative (negsuc n)) range whole = IsNumber-signed_decimal (negsuc n) range
is-number (float x) range whole = absurd (cc (whole))

mutual
  pub outline-numbers : (d : Data) → IsHeld d → has_float d ≡ false → tree.HasNumbers (outline d)
  outline-numbers null held whole = tt
  outline-numbers (boolean b) held whole = tt
  outline-numbers (number n) held whole = is-number n held whole
  outline-numbers (string s) held whole = tt
  outline-numbers (array ds) held whole = items-numbers ds held whole
  outline-numbers (object ms) held whole = members-numbers ms held.1 whole

  items-numbers : (ds : Items) → AreItemsHeld ds → items_have_float ds ≡ false → tree.ItemsHaveNumbers (items_outline ds)
  items-numbers no_items held whole = tt
  items-numbers (item d ds) held whole = let parts = or_parts (has_float d) (items_have_float ds) whole in (outline-numbers d held.0 parts.0, items-numbers ds held.1 parts.1)

  members-numbers : (ms : Members) → AreMembersHeld ms → members_have_float ms ≡ false → tree.MembersHaveNumbers (members_outline ms)
  members-numbers no_members held whole = tt
  members-numbers (member k d ms) held whole =
      let parts = or_parts (has_float d) (members_have_float ms) whole in (outline-numbers d held.0 parts.0, members-numbers ms held.1 parts.1)

mutual
  outline-depth : (d : Data) → tree.depth (outline d) ≡ depth d
  outline-depth null = refl
  outline-depth (boolean b) = refl
  outline-depth (number n) = refl
  outline-depth (string s) = refl
  outline-depth (array ds) = ap suc (items-depth ds)
  outline-depth (object ms) = ap suc (members-depth ms)

  items-depth : (ds : Items) → tree.items_depth (items_outline ds) ≡ items_depth ds
  items-depth no_items = refl
  items-depth (item d ds) = ap₂ max (outline-depth d) (items-depth ds)

  members-depth : (ms : Members) → tree.members_depth (members_outline ms) ≡ members_depth ms
  members-depth no_members = refl
  members-depth (member k d ms) = ap₂ max (outline-depth d) (members-depth ms)

pub read_back : (d : Data) → IsHeld d → has_float d ≡ false → depth d ≤ max_depth → read (compact_text d) ≡ Some d
read_back d held whole shallow =
    let lexed : tokens (compact_text d) ≡ tree.json_tokens (outline d) ++ [] =
    ap tokens (sym (print-outline d)) ∙ tokens-print (tree.json_tokens (outline d)) (ArePrintable-json_tokens (outline d) (outline-numbers d held whole)) ∙ sym (append-nil (tree.json_tokens (outline d))) in
    ap (λ o. option_and_then of_json (option_and_then (λ p. json.if_last p.0 p.1) o)) (ap (json.value max_depth) lexed ∙ value-json_tokens (outline d) max_depth [] (rw (outline-depth d) shallow))
    ∙ outline-reads d held whole

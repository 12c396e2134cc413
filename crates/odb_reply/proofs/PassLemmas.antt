-- One pass over the tokens of a body, a turn at a time.
use Rattle.std.proofs.Common.{◌≡◌, ◌∙◌, ℕ, zero, suc, ◌-◌, ◌<◌, ◌≤◌, ◌&&◌, ◌==◌, List, ◌∷◌, length, drop, slice_index, Bool, true, false, cond, Option, Some, None, is_some, option_map, option_and_then, refl, ap}
use Rattle.fast_float.specs.Text.{minus, scan}
use Rattle.json.specs.Json.{Json, null, boolean, number, string, array, object, Items, no_items, item, Members, no_members, member, Parse, parse_map, after_end_array, read_key, items_step, members_step, items, members, value}
use Rattle.json.specs.Token.{Token}
use Rattle.json.proofs.Grammar.{value_is, value-begin_array, value-begin_object, items_end, items_more, members_end, members_no_key, members_more}
use Rattle.serde_json.specs.Data.{Data, put}
use Rattle.serde_json.specs.Data as value_data
use Rattle.serde_json.specs.Read.{number_of, number_from, of_json, of_items, of_members}
use Rattle.odb_reply.specs.Passes.{has_numbers, items_have_numbers, members_have_numbers, left_if, pass_value, pass_items, pass_members}

-- ---- one token

-- the number is in range if the part that follows its sign is
pub after-minus : (s : List ℕ) (minus_first : Bool) → (slice_index s 0 == minus) ≡ minus_first → number_of s ≡ cond minus_first (number_from true (scan (drop 1 s))) (number_from false (scan s))
unfolding number_of
after-minus s minus_first is = ap (λ b. cond b (number_from true (scan (drop 1 s))) (number_from false (scan s))) is

pub pass-number : (depth : ℕ) (s : List ℕ) (ts : List Token) (good : Bool) → is_some (number_of s) ≡ good → pass_value depth (Token.number s ∷ ts) ≡ cond good (Some ts) None
pass-number depth s ts good is = ap (left_if has_numbers) (value_is depth (Token.number s ∷ ts)) ∙ ap (λ b. cond b (Some ts) None) is

of-array : (o : Option (Items × List Token)) → left_if has_numbers (parse_map array o) ≡ left_if items_have_numbers o
of-array None = refl
of-array (Some p) = refl

of-object : (o : Option (Members × List Token)) → left_if has_numbers (parse_map object o) ≡ left_if members_have_numbers o
of-object None = refl
of-object (Some p) = refl

pub pass-array : (depth : ℕ) (ts : List Token) → 0 < depth → pass_value depth (Token.begin_array ∷ ts) ≡ pass_items (depth - 1) ts
pass-array depth ts some = ap (left_if has_numbers) (value-begin_array depth ts some) ∙ of-array (items (value (depth - 1)) (length ts) ts)

pub pass-object : (depth : ℕ) (ts : List Token) → 0 < depth → pass_value depth (Token.begin_object ∷ ts) ≡ pass_members (depth - 1) ts
pass-object depth ts some = ap (left_if has_numbers) (value-begin_object depth ts some) ∙ of-object (members (value (depth - 1)) (length ts) ts)

pub too-deep-array : (depth : ℕ) (ts : List Token) → depth ≡ 0 → pass_value depth (Token.begin_array ∷ ts) ≡ None
unfolding value
too-deep-array depth ts none = ap (λ n. pass_value n (Token.begin_array ∷ ts)) none

pub too-deep-object : (depth : ℕ) (ts : List Token) → depth ≡ 0 → pass_value depth (Token.begin_object ∷ ts) ≡ None
unfolding value
too-deep-object depth ts none = ap (λ n. pass_value n (Token.begin_object ∷ ts)) none

-- ---- one turn of a loop

passed-if : (b : Bool) (x r : List Token) → cond b (Some x) None ≡ Some r → (b ≡ true) × (Some x ≡ Some r)
passed-if true x r is = (refl, is)
passed-if false x r is = absurd (cc (is))

failed-if : (b : Bool) (x : List Token) → cond b (Some x) None ≡ None → b ≡ false
failed-if true x is = absurd (cc (is))
failed-if false x is = refl

-- what was read, where it passes the test
pub passed : {A : Type 0} (test : A → Bool) (o : Option (A × List Token)) (r : List Token) → left_if test o ≡ Some r → (a : A) × (o ≡ Some (a, r)) × (test a ≡ true)
passed test None r is = absurd (cc (is))
passed test (Some p) r is = let both = passed-if (test p.0) p.1 r is in (p.0, ap (option_map (λ rest. (p.0, rest))) both.1, both.0)

with-item : (j : Json) → has_numbers j ≡ true → (o : Option (Items × List Token)) → left_if items_have_numbers (parse_map (item j) o) ≡ left_if items_have_numbers o
with-item j good None = refl
with-item j good (Some p) = ap (λ b. cond (b && items_have_numbers p.0) (Some p.1) None) good

without-item : (j : Json) → has_numbers j ≡ false → (o : Option (Items × List Token)) → left_if items_have_numbers (parse_map (item j) o) ≡ None
without-item j bad None = refl
without-item j bad (Some p) = ap (λ b. cond (b && items_have_numbers p.0) (Some p.1) None) bad

with-member : (k : List ℕ) (j : Json) → has_numbers j ≡ true → (o : Option (Members × List Token)) → left_if members_have_numbers (parse_map (member k j) o) ≡ left_if members_have_numbers o
with-member k j good None = refl
with-member k j good (Some p) = ap (λ b. cond (b && members_have_numbers p.0) (Some p.1) None) good

without-member : (k : List ℕ) (j : Json) → has_numbers j ≡ false → (o : Option (Members × List Token)) → left_if members_have_numbers (parse_map (member k j) o) ≡ None
without-member k j bad None = refl
without-member k j bad (Some p) = ap (λ b. cond (b && members_have_numbers p.0) (Some p.1) None) bad

module _ (p : Parse Json) where
  pub item-passed : (n : ℕ) (ts r : List Token) → 0 < n → after_end_array ts ≡ None → left_if has_numbers (p ts) ≡ Some r → left_if items_have_numbers (items p n ts) ≡ left_if items_have_numbers (items p (n - 1) r)
  item-passed n ts r some going is =
      let (j, found, good) = passed has_numbers (p ts) r is in
      ap (left_if items_have_numbers) (items_more p n ts r j some going found) ∙ with-item j good _

  no-item : (more : Parse Items) (o : Option (Json × List Token)) → left_if has_numbers o ≡ None → left_if items_have_numbers (option_and_then (λ q. parse_map (item q.0) (more q.1)) o) ≡ None
  no-item more None is = refl
  no-item more (Some q) is = without-item q.0 (failed-if (has_numbers q.0) q.1 is) (more q.1)

  pub item-failed : (n : ℕ) (ts : List Token) → after_end_array ts ≡ None → left_if has_numbers (p ts) ≡ None → left_if items_have_numbers (items p n ts) ≡ None
  unfolding items
  item-failed zero ts going is = refl
  item-failed (suc n) ts going is = ap (λ o. left_if items_have_numbers (items_step p (items p n) ts o)) going ∙ no-item (items p n) (p ts) is

  pub items-over : (n : ℕ) (ts r : List Token) → length ts ≤ n → after_end_array ts ≡ Some r → left_if items_have_numbers (items p n ts) ≡ Some r
  items-over n ts r enough is = ap (left_if items_have_numbers) (items_end p n ts r enough is)

  pub member-passed : (n : ℕ) (k : List ℕ) (ts s r : List Token) → 0 < n → read_key ts ≡ Some (Some k, s) → left_if has_numbers (p s) ≡ Some r → left_if members_have_numbers (members p n ts) ≡ left_if members_have_numbers (members p (n - 1) r)
  member-passed n k ts s r some key is =
      let (j, found, good) = passed has_numbers (p s) r is in
      ap (left_if members_have_numbers) (members_more p n k ts s r j some key found) ∙ with-member k j good _

  no-member : (k : List ℕ) (more : Parse Members) (o : Option (Json × List Token)) → left_if has_numbers o ≡ None → left_if members_have_numbers (option_and_then (λ q. parse_map (member k q.0) (more q.1)) o) ≡ None
  no-member k more None is = refl
  no-member k more (Some q) is = without-member k q.0 (failed-if (has_numbers q.0) q.1 is) (more q.1)

  pub member-failed : (n : ℕ) (k : List ℕ) (ts s : List Token) → read_key ts ≡ Some (Some k, s) → left_if has_numbers (p s) ≡ None → left_if members_have_numbers (members p n ts) ≡ None
  unfolding members
  member-failed zero k ts s key is = refl
  member-failed (suc n) k ts s key is = ap (λ o. left_if members_have_numbers (option_and_then (λ q. members_step p (members p n) q.0 q.1) o)) key ∙ no-member k (members p n) (p s) is

  pub key-failed : (n : ℕ) (ts : List Token) → read_key ts ≡ None → left_if members_have_numbers (members p n ts) ≡ None
  key-failed n ts is = ap (left_if members_have_numbers) (members_no_key p n ts is)

  pub members-over : (n : ℕ) (ts r : List Token) → length ts ≤ n → read_key ts ≡ Some (None, r) → left_if members_have_numbers (members p n ts) ≡ Some r
  members-over n ts r enough is = ap (left_if members_have_numbers) (members_end p n ts r enough is)

-- ---- the value of a tree

is-some-and : {A B : Type 0} (b : Bool) (f : A → Option B) (o : Option A) (c : Bool) → b ≡ is_some o → ((a : A) → c ≡ is_some (f a)) → (b && c) ≡ is_some (option_and_then f o)
is-some-and b f None c first second = ap (λ x. x && c) first
is-some-and b f (Some a) c first second = ap (λ x. x && c) first ∙ second a

is-some-map : {A B : Type 0} (b : Bool) (f : A → B) (o : Option A) → b ≡ is_some o → b ≡ is_some (option_map f o)
is-some-map b f None is = is
is-some-map b f (Some a) is = is

mutual
  pub has-value : (j : Json) → has_numbers j ≡ is_some (of_json j)
  has-value null = refl
  has-value (boolean b) = refl
  has-value (number s) = is-some-map (is_some (number_of s)) value_data.number (number_of s) refl
  has-value (string s) = refl
  has-value (array js) = is-some-map (items_have_numbers js) value_data.array (of_items js) (have-items js)
  has-value (object ms) = is-some-map (members_have_numbers ms) value_data.object (of_members ms value_data.no_members) (have-members ms value_data.no_members)

  have-items : (js : Items) → items_have_numbers js ≡ is_some (of_items js)
  have-items no_items = refl
  have-items (item j js) = is-some-and (has_numbers j) (λ d. option_map (value_data.item d) (of_items js)) (of_json j) (items_have_numbers js) (has-value j) (λ d. is-some-map (items_have_numbers js) (value_data.item d) (of_items js) (have-items js))

  have-members : (ms : Members) (found : value_data.Members) → members_have_numbers ms ≡ is_some (of_members ms found)
  have-members no_members found = refl
  have-members (member k j ms) found = is-some-and (has_numbers j) (λ d. of_members ms (put k d found)) (of_json j) (members_have_numbers ms) (has-value j) (λ d. have-members ms (put k d found))

-- Levels: one more request, and their law.
use Rattle.std.proofs.Common.{◌≡◌, ◌≤◌, ◌<◌, ◌+◌, ℕ, zero, suc, Bool, true, false, cond, List, [], ◌∷◌, ◌++◌, refl, sym, ap, ◌∙◌, subst, inl, inr, arith, length, get_or, length-append}
use Rattle.std.specs.Prelude.{◌==◌, max, slice_index, slice_set, Contains, All}
use Rattle.std.proofs.Math.ListN.{length-set}
use Rattle.std.proofs.lemmas.Bool.{cases_lt, eq-eqb, ne_eqb}
use Rattle.std.proofs.lemmas.List.{get_or_append_left, get_or_push}
use Rattle.std.proofs.lemmas.List.Elements.{Contains-get_or}
use Rattle.odb_doc.specs.batch.Records.{Record}
use Rattle.odb_check.specs.declared.need.Need.{Need}
use Rattle.odb_check.specs.declared.need.Need.TheVariants.{One, Group}
use Rattle.odb_check.specs.Levels.{greatest_of, greatest_below, unit_level, level_needed, next_level, levels_below, level_at, level_of_unit, HasLevels}
use Rattle.odb_check.specs.Needs.{needs_at, needs_of_each}
use Rattle.odb_check.specs.PlanGraph.{IsNeedAmong}
use Rattle.odb_check.specs.Units.{unit_at, unit_count}
use Rattle.odb_doc.proofs.ElementLemmas.{Contains-head, Contains-tail}
use Rattle.odb_check.proofs.BelowLemmas.{length-list_below, get_or-list_below, set_cases}
use Rattle.odb_check.proofs.UnitLemmas.{unit_before}

-- the levels of the first n requests, and of the units among these
pub record AreLevelsOf (rs : List Record) (n : ℕ) (levels unit_levels : List ℕ) : Type 0 where
  pub levels_are : levels ≡ levels_below rs n
  pub unit_levels_are : (u : ℕ) → slice_index unit_levels u ≡ unit_level rs n (levels_below rs n) u
  pub unit_levels_count : length unit_levels ≡ unit_count rs
  pub low : (k : ℕ) → slice_index levels k ≤ n
  pub unit_low : (u : ℕ) → slice_index unit_levels u ≤ n

pub greatest_of-append : {X : Type 0} (value : X → ℕ) (xs : List X) (x : X) → greatest_of value (xs ++ x ∷ []) ≡ max (greatest_of value xs) (value x)
greatest_of-append value [] x = omega arith
greatest_of-append value (y ∷ ys) x = let more : greatest_of value (ys ++ x ∷ []) ≡ max (greatest_of value ys) (value x) = greatest_of-append value ys x in omega arith

greatest_of-same : {X : Type 0} (value other : X → ℕ) (xs : List X) → ((x : X) → Contains xs x → value x ≡ other x) → greatest_of value xs ≡ greatest_of other xs
greatest_of-same value other [] same = refl
greatest_of-same value other (x ∷ xs) same =
    let here : value x ≡ other x = same x (Contains-head x xs) in
    let more : greatest_of value xs ≡ greatest_of other xs = greatest_of-same value other xs (λ y h. same y (Contains-tail x y xs h)) in
    omega arith

greatest_of-low : {X : Type 0} (value : X → ℕ) (m : ℕ) (xs : List X) → ((x : X) → value x ≤ m) → greatest_of value xs ≤ m
greatest_of-low value m [] low = omega arith
greatest_of-low value m (x ∷ xs) low = let more : greatest_of value xs ≤ m = greatest_of-low value m xs low in omega (arith, low x)

greatest_below-same : (n : ℕ) (value other : ℕ → ℕ) → ((j : ℕ) → j < n → value j ≡ other j) → greatest_below n value ≡ greatest_below n other
greatest_below-same zero value other same = refl
greatest_below-same (suc n) value other same =
    let here : value n ≡ other n = same n (omega arith) in
    let more : greatest_below n value ≡ greatest_below n other = greatest_below-same n value other (λ j h. same j (omega arith)) in
    omega arith

-- where nothing more has a value the greatest stays
greatest_below-more : (m n : ℕ) (value : ℕ → ℕ) → m ≤ n → ((j : ℕ) → m ≤ j → value j ≡ 0) → greatest_below n value ≡ greatest_below m value
greatest_below-more m zero value h none = let same : m ≡ zero = omega arith in ap (λ k. greatest_below k value) (sym same)
greatest_below-more m (suc n) value h none =
    elim (cases_lt n m) [
      | inl less ↦ let same : suc n ≡ m = omega arith in ap (λ k. greatest_below k value) same
      | inr more ↦
          let before : greatest_below n value ≡ greatest_below m value = greatest_below-more m n value more none in
          let here : value n ≡ 0 = none n more in
          omega arith
    ]

pub length-levels_below : (rs : List Record) (n : ℕ) → length (levels_below rs n) ≡ n
length-levels_below rs zero = refl
length-levels_below rs (suc n) = omega (arith, length-append (levels_below rs n) (next_level (slice_index (levels_below rs n)) (unit_level rs n (levels_below rs n)) (needs_at rs n) ∷ []), length-levels_below rs n)

-- more requests do not change a level
pub stable : (rs : List Record) (m n k : ℕ) → m ≤ n → k < m → slice_index (levels_below rs n) k ≡ slice_index (levels_below rs m) k
stable rs m zero k h less = absurd (omega arith)
stable rs m (suc n) k h less =
    elim (cases_lt n m) [
      | inl all ↦ let same : suc n ≡ m = omega arith in ap (λ i. slice_index (levels_below rs i) k) same
      | inr more ↦
          get_or_append_left (levels_below rs n) (next_level (slice_index (levels_below rs n)) (unit_level rs n (levels_below rs n)) (needs_at rs n) ∷ []) 0 k (omega (arith, length-levels_below rs n))
          ∙ stable rs m n k more less
    ]

last_level : (rs : List Record) (n : ℕ) → slice_index (levels_below rs (suc n)) n ≡ next_level (slice_index (levels_below rs n)) (unit_level rs n (levels_below rs n)) (needs_at rs n)
last_level rs n = get_or_push (levels_below rs n) (next_level (slice_index (levels_below rs n)) (unit_level rs n (levels_below rs n)) (needs_at rs n)) 0 n (length-levels_below rs n)

cond_same : (v : Bool) (a b : ℕ) → a ≡ b → cond v a 0 ≡ cond v b 0
cond_same true a b e = e
cond_same false a b e = refl

unit_level-more : (rs : List Record) (n u : ℕ) → unit_level rs (suc n) (levels_below rs (suc n)) u
    ≡ max (cond (unit_at rs n == u) (next_level (slice_index (levels_below rs n)) (unit_level rs n (levels_below rs n)) (needs_at rs n)) 0) (unit_level rs n (levels_below rs n) u)
unit_level-more rs n u =
    let level = next_level (slice_index (levels_below rs n)) (unit_level rs n (levels_below rs n)) (needs_at rs n) in
    let here : cond (unit_at rs n == u) (slice_index (levels_below rs (suc n)) n) 0 ≡ cond (unit_at rs n == u) level 0 = cond_same (unit_at rs n == u) (slice_index (levels_below rs (suc n)) n) level (last_level rs n) in
    let before : greatest_below n (λ j. cond (unit_at rs j == u) (slice_index (levels_below rs (suc n)) j) 0) ≡ unit_level rs n (levels_below rs n) u =
    greatest_below-same n (λ j. cond (unit_at rs j == u) (slice_index (levels_below rs (suc n)) j) 0) (λ j. cond (unit_at rs j == u) (slice_index (levels_below rs n) j) 0)
    (λ j h. cond_same (unit_at rs j == u) (slice_index (levels_below rs (suc n)) j) (slice_index (levels_below rs n) j) (stable rs n (suc n) j (omega arith) h)) in
    ap (λ v. max v (greatest_below n (λ j. cond (unit_at rs j == u) (slice_index (levels_below rs (suc n)) j) 0))) here ∙ ap (λ v. max (cond (unit_at rs n == u) level 0) v) before

needed_same : (level other group_level other_group : ℕ → ℕ) → ((r : ℕ) → level r ≡ other r) → ((u : ℕ) → group_level u ≡ other_group u) → (need : Need) → level_needed level group_level need ≡ level_needed other other_group need
needed_same level other group_level other_group one group (One r) = one r
needed_same level other group_level other_group one group (Group u) = group u

needed_low : (level group_level : ℕ → ℕ) (n : ℕ) → ((r : ℕ) → level r ≤ n) → ((u : ℕ) → group_level u ≤ n) → (need : Need) → level_needed level group_level need + 1 ≤ suc n
needed_low level group_level n one group (One r) = omega (arith, one r)
needed_low level group_level n one group (Group u) = omega (arith, group u)

set_level : (unit_levels : List ℕ) (value : ℕ → ℕ) (v level u : ℕ) → v < length unit_levels → ((w : ℕ) → slice_index unit_levels w ≡ value w)
    → slice_index (slice_set unit_levels v (max (slice_index unit_levels v) level)) u ≡ max (cond (v == u) level 0) (value u)
set_level unit_levels value v level u inside are =
    elim (set_cases unit_levels v (max (slice_index unit_levels v) level) u inside) [
      | inl (same, set) ↦ let test : (v == u) ≡ true = eq-eqb v u same in let before : slice_index unit_levels v ≡ value u = are v ∙ ap value same in rw test (omega arith)
      | inr (other, kept) ↦ let test : (v == u) ≡ false = ne_eqb v u other in rw test (omega (arith, are u))
    ]

low_levels : (levels : List ℕ) (level n k : ℕ) → level ≤ suc n → ((j : ℕ) → slice_index levels j ≤ n) → slice_index (levels ++ level ∷ []) k ≤ suc n
low_levels [] level n zero here low = here
low_levels [] level n (suc k) here low = omega arith
low_levels (x ∷ xs) level n zero here low = omega (arith, low 0)
low_levels (x ∷ xs) level n (suc k) here low = low_levels xs level n k here (λ j. low (suc j))

low_unit_level : (unit_levels : List ℕ) (v level n u : ℕ) → v < length unit_levels → level ≤ suc n → ((w : ℕ) → slice_index unit_levels w ≤ n) → slice_index (slice_set unit_levels v (max (slice_index unit_levels v) level)) u ≤ suc n
low_unit_level unit_levels v level n u inside here low = elim (set_cases unit_levels v (max (slice_index unit_levels v) level) u inside) [ inl (same, set) ↦ omega (arith, low v) | inr (other, kept) ↦ omega (arith, low u) ]

-- the levels with one more request
pub levels_more : (rs : List Record) (n : ℕ) {levels levels' unit_levels unit_levels' : List ℕ} (level : ℕ) → AreLevelsOf rs n levels unit_levels → unit_at rs n < unit_count rs
    → level ≡ next_level (slice_index levels) (slice_index unit_levels) (needs_at rs n) → levels' ≡ levels ++ level ∷ []
    → unit_levels' ≡ slice_set unit_levels (unit_at rs n) (max (slice_index unit_levels (unit_at rs n)) level) → AreLevelsOf rs (suc n) levels' unit_levels'
levels_more rs n {levels} {levels'} {unit_levels} {unit_levels'} level are within level_is levels_go unit_levels_go =
    let inside : unit_at rs n < length unit_levels = omega (arith, are.unit_levels_count) in
    let next : level ≡ next_level (slice_index (levels_below rs n)) (unit_level rs n (levels_below rs n)) (needs_at rs n) = level_is
    ∙ greatest_of-same (λ need. level_needed (slice_index levels) (slice_index unit_levels) need + 1) (λ need. level_needed (slice_index (levels_below rs n)) (unit_level rs n (levels_below rs n)) need + 1) (needs_at rs n)
    (λ need h. ap (λ m. m + 1) (needed_same (slice_index levels) (slice_index (levels_below rs n)) (slice_index unit_levels) (unit_level rs n (levels_below rs n)) (λ r. ap (λ xs. slice_index xs r) are.levels_are) are.unit_levels_are need)) in
    let low : level ≤ suc n = subst (λ m. m ≤ suc n) (sym level_is) (greatest_of-low (λ need. level_needed (slice_index levels) (slice_index unit_levels) need + 1) (suc n) (needs_at rs n)
    (λ need. needed_low (slice_index levels) (slice_index unit_levels) n are.low are.unit_low need)) in
    record {
      levels_are = levels_go ∙ ap (λ xs. xs ++ level ∷ []) are.levels_are ∙ ap (λ m. levels_below rs n ++ m ∷ []) next;
      unit_levels_are = λ u. ap (λ xs. slice_index xs u) unit_levels_go ∙ set_level unit_levels (unit_level rs n (levels_below rs n)) (unit_at rs n) level u inside are.unit_levels_are
          ∙ ap (λ m. max (cond (unit_at rs n == u) m 0) (unit_level rs n (levels_below rs n) u)) next ∙ sym (unit_level-more rs n u);
      unit_levels_count = ap length unit_levels_go ∙ length-set unit_levels (unit_at rs n) (max (slice_index unit_levels (unit_at rs n)) level) ∙ are.unit_levels_count;
      low = λ k. subst (λ xs. slice_index xs k ≤ suc n) (sym levels_go) (low_levels levels level n k low are.low);
      unit_low = λ u. subst (λ xs. slice_index xs u ≤ suc n) (sym unit_levels_go) (low_unit_level unit_levels (unit_at rs n) level n u inside low are.unit_low);
    }

-- the needs of each request come before it, and the units are in order
pub record HasNeedsBefore (rs : List Record) : Type 0 where
  pub one : (i r : ℕ) → Contains (needs_at rs i) (One r) → r < i
  pub group : (i u : ℕ) → Contains (needs_at rs i) (Group u) → u < unit_at rs i
  pub order : (i j : ℕ) → i ≤ j → unit_at rs i ≤ unit_at rs j

later_none : (rs : List Record) → HasNeedsBefore rs → (levels : List ℕ) (i u : ℕ) → u < unit_at rs i → (j : ℕ) → i ≤ j → cond (unit_at rs j == u) (slice_index levels j) 0 ≡ 0
later_none rs before levels i u less j h = let other : (unit_at rs j == u) ≡ false = ne_eqb (unit_at rs j) u (λ e. omega (arith, before.order i j h)) in ap (λ v. cond v (slice_index levels j) 0) other

needed_stays : (rs : List Record) → HasNeedsBefore rs → (i : ℕ) → i < length rs → (need : Need) → Contains (needs_at rs i) need
    → level_needed (slice_index (levels_below rs i)) (unit_level rs i (levels_below rs i)) need ≡ level_needed (level_at rs) (level_of_unit rs) need
needed_stays rs before i h (One r) inside = sym (stable rs i (length rs) r (omega arith) (before.one i r inside))
needed_stays rs before i h (Group u) inside =
    greatest_below-same i (λ j. cond (unit_at rs j == u) (slice_index (levels_below rs i) j) 0) (λ j. cond (unit_at rs j == u) (level_at rs j) 0)
    (λ j less. cond_same (unit_at rs j == u) (slice_index (levels_below rs i) j) (level_at rs j) (sym (stable rs i (length rs) j (omega arith) less)))
    ∙ sym (greatest_below-more i (length rs) (λ j. cond (unit_at rs j == u) (level_at rs j) 0) (omega arith) (later_none rs before (levels_below rs (length rs)) i u (before.group i u inside)))

-- each level is one more than the greatest of what is needed
pub has_levels : (rs : List Record) → HasNeedsBefore rs → HasLevels rs
has_levels rs before = record {
  each = λ i h. stable rs (suc i) (length rs) i (omega arith) (omega arith) ∙ last_level rs i
      ∙ greatest_of-same (λ need. level_needed (slice_index (levels_below rs i)) (unit_level rs i (levels_below rs i)) need + 1) (λ need. level_needed (level_at rs) (level_of_unit rs) need + 1) (needs_at rs i)
      (λ need inside. ap (λ m. m + 1) (needed_stays rs before i h need inside));
}

-- the row of a request among the needs of each
pub row_is : (rs : List Record) (needs : List (List Need)) (i : ℕ) → needs ≡ needs_of_each rs → i < length rs → (i < length needs) × (get_or needs i [] ≡ needs_at rs i)
row_is rs needs i are h = (omega (arith, ap length are, length-list_below (length rs) (needs_at rs)), ap (λ rows. get_or rows i []) are ∙ get_or-list_below (length rs) (needs_at rs) i [] h)

-- the levels of what is needed are known
pub levels_known : (rs : List Record) → HasNeedsBefore rs → (i : ℕ) → i < length rs → (levels units : ℕ) → levels ≡ i → units ≡ unit_count rs → All (IsNeedAmong levels units) (needs_at rs i)
levels_known rs before i h levels units levels_are units_are k d less = known (get_or (needs_at rs i) k d) (Contains-get_or (needs_at rs i) k d less)
  where
    known : (need : Need) → Contains (needs_at rs i) need → IsNeedAmong levels units need
    known (One r) inside = omega (arith, before.one i r inside)
    known (Group u) inside = omega (arith, before.group i u inside, unit_before rs i (length rs) h)

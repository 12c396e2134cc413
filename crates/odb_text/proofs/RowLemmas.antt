-- The rows of a level: how many rows there are, and what one more request changes.
use Rattle.std.proofs.Common.{◌≡◌, ◌≢◌, ◌∙◌, ◌<◌, ◌≤◌, ◌+◌, ◌==◌, ℕ, zero, suc, Bool, true, false, if◌then◌else◌, List, [], ◌∷◌, ◌++◌, Some, length, set, slice_get, sym, ap, subst, inl, inr, arith}
use Rattle.std.proofs.lemmas.Bool.{cases_lt, cases_order, eq-eqb, ne_eqb}
use Rattle.std.proofs.lemmas.Grind.{get_or-set_at}
use Rattle.std.proofs.lemmas.List.{get_or-set_other, length-set}
use Rattle.std.proofs.lemmas.Option.{get_or_from_slice_get, slice_get-get_or}
use Rattle.odb_doc.specs.batch.Records.{Record}
use Rattle.odb_check.specs.Firsts.{list_below}
use Rattle.odb_check.specs.Levels.{greatest_below, level_at}
use Rattle.odb_text.specs.declared.rows.Row.{Row}
use Rattle.odb_text.specs.Rows.{last_row, next_row, begins_row, row_at}

-- there are no more rows than requests, nor more requests in a row
abbrev pub Few : ℕ → Row → Type 0
Few n row = (row.number ≤ n) × (row.used ≤ n)

next_few : (n : ℕ) (begins : Bool) (row : Row) → Few n row → Few (suc n) (if begins then record { number = row.number + 1; used = 1 } else record { number = row.number; used = row.used + 1 })
next_few n true row few = (omega (arith, few.0), omega arith)
next_few n false row few = (omega (arith, few.0), omega (arith, few.1))

either_few : (n : ℕ) (here : Bool) (row other : Row) → Few n row → Few n other → Few n (if here then row else other)
either_few n true row other few others = few
either_few n false row other few others = others

pub row_few : (rs : List Record) (level n : ℕ) → Few n (last_row rs level n)
row_few rs level zero = (omega arith, omega arith)
row_few rs level (suc n) =
    let few = row_few rs level n in
    either_few (suc n) (level_at rs n == level) _ _ (next_few n (begins_row rs n (last_row rs level n).used) (last_row rs level n) few) (omega (arith, few.0), omega (arith, few.1))

-- no value is above the greatest
pub below_greatest : (n : ℕ) (value : ℕ → ℕ) (i : ℕ) → i < n → value i ≤ greatest_below n value
below_greatest zero value i within = absurd (omega (arith, within))
below_greatest (suc n) value i within = elim (cases_lt i n) [
  | inl less ↦ let below : value i ≤ greatest_below n value = below_greatest n value i less in omega (arith, below)
  | inr more ↦ let same : n ≡ i = omega (arith, within, more) in subst (λ k. value k ≤ greatest_below (suc n) value) same (omega arith)
]

-- what one more request changes of its level, and of no other
joined : (rs : List Record) (level i : ℕ) → level_at rs i ≡ level → last_row rs level (suc i) ≡ next_row rs i (last_row rs level i)
joined rs level i same = ap (λ here. if here then next_row rs i (last_row rs level i) else last_row rs level i) (eq-eqb (level_at rs i) level same)

kept : (rs : List Record) (level i : ℕ) → level_at rs i ≢ level → last_row rs level (suc i) ≡ last_row rs level i
kept rs level i other = ap (λ here. if here then next_row rs i (last_row rs level i) else last_row rs level i) (ne_eqb (level_at rs i) level other)

-- the last row of each level, with one more request
other_end : (rs : List Record) (ends : List Row) (i k : ℕ) (row : Row) (level : ℕ) → k ≡ level_at rs i → level ≢ k → level < length (set ends k row) → slice_get ends level ≡ Some (last_row rs level i)
    → slice_get (set ends k row) level ≡ Some (last_row rs level (suc i))
other_end rs ends i k row level is differs below before =
    slice_get-get_or (set ends k row) level row below
    ∙ ap Some (get_or-set_other ends k level row row differs ∙ get_or_from_slice_get ends level (last_row rs level i) row before ∙ sym (kept rs level i (λ e. differs (sym e ∙ sym is))))

same_end : (rs : List Record) (ends : List Row) (i k : ℕ) (row : Row) (level : ℕ) → k ≡ level_at rs i → level ≡ k → level < length (set ends k row) → k < length ends → row ≡ next_row rs i (last_row rs k i)
    → slice_get (set ends k row) level ≡ Some (last_row rs level (suc i))
same_end rs ends i k row level is same below within next =
    slice_get-get_or (set ends k row) level row below
    ∙ ap Some (get_or-set_at ends k level row row same within ∙ next ∙ ap (λ l. next_row rs i (last_row rs l i)) (sym same) ∙ sym (joined rs level i (sym is ∙ sym same)))

pub ends_more : (rs : List Record) (ends : List Row) (i k : ℕ) (row : Row) → k ≡ level_at rs i → k < length ends → row ≡ next_row rs i (last_row rs k i)
    → ((level : ℕ) → level < length ends → slice_get ends level ≡ Some (last_row rs level i))
    → (level : ℕ) → level < length (set ends k row) → slice_get (set ends k row) level ≡ Some (last_row rs level (suc i))
ends_more rs ends i k row is within next before level below =
    let size : length (set ends k row) ≡ length ends = length-set ends k row in
    let inside : level < length ends = omega (arith, below, size) in
    elim (cases_order level k) [
      | inl same ↦ same_end rs ends i k row level is same below within next
      | inr (inl less) ↦ other_end rs ends i k row level is (λ e. omega (arith, less, e)) below (before level inside)
      | inr (inr more) ↦ other_end rs ends i k row level is (λ e. omega (arith, more, e)) below (before level inside)
    ]

-- a request has the level of one that is drawn
pub level_within : (rs : List Record) (i greatest level size : ℕ) → i < length rs → greatest ≡ greatest_below (length rs) (level_at rs) → level ≡ level_at rs i → size ≡ greatest + 1 → level < size
level_within rs i greatest level size within is here all =
    let below : level_at rs i ≤ greatest_below (length rs) (level_at rs) = below_greatest (length rs) (level_at rs) i within in
    omega (arith, below, is, here, all)

-- the rows with one more request
pub ends_next : (rs : List Record) (ends : List Row) (i k : ℕ) (row : Row) → k ≡ level_at rs i → k < length ends → row ≡ next_row rs i (last_row rs k i)
    → ((level : ℕ) → level < length ends → slice_get ends level ≡ Some (last_row rs level i))
    → (level : ℕ) → level < length (set ends k row) → slice_get (set ends k row) level ≡ Some (last_row rs level (i + 1))
ends_next rs ends i k row is within next before level below =
    let same : suc i ≡ i + 1 = omega arith in
    subst (λ n. slice_get (set ends k row) level ≡ Some (last_row rs level n)) same (ends_more rs ends i k row is within next before level below)

pub rows_next : (rs : List Record) (rows new : List ℕ) (i k : ℕ) (row : Row) → k ≡ level_at rs i → row ≡ next_row rs i (last_row rs k i) → rows ≡ list_below i (row_at rs) → new ≡ rows ++ row.number ∷ [] → new ≡ list_below (i + 1) (row_at rs)
rows_next rs rows new i k row is next before with_it =
    let same : suc i ≡ i + 1 = omega arith in
    let number : row.number ≡ row_at rs i = ap (λ (r : Row). r.number) (next ∙ ap (λ l. next_row rs i (last_row rs l i)) is) in
    with_it ∙ ap (λ all. all ++ row.number ∷ []) before ∙ ap (λ n. list_below i (row_at rs) ++ n ∷ []) number ∙ ap (λ n. list_below n (row_at rs)) same

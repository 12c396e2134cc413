use Rattle.std.proofs.Common.{◌≡◌, ◌≢◌, ◌≤◌, ◌<◌, ◌+◌, ◌-◌, ℕ, not, List, Option, Some, None, refl, sym, ap, ◌∙◌, subst, inl, inr, arith}
use Rattle.std.specs.Prelude.{◌==◌, IsSomeAnd}
use Rattle.std.specs.Bool.{Decides}
use Rattle.std.proofs.lemmas.Bool.{cases_lt}
use Rattle.std.proofs.lemmas.Bool.Decides.{Decides-eqb, Decides-like, Decides-ltb, Decides-not}
use Rattle.odb_doc.specs.batch.Records.{Record}
use Rattle.odb_check.specs.declared.fault.NameRule.TheVariants.{GroupSplit}
use Rattle.odb_check.specs.NameFaults.{IsBrokenAt}
use Rattle.odb_check.specs.Positions.{group_at, IsGroupBefore}
use Rattle.odb_check.specs.Requests.{requests}
use Rattle.odb_check.specs.Units.{begin_in, unit_begin, unit_at}
use Rattle.odb_check.proofs.PositionLemmas.{IsFirstAt}
use Rattle.odb_check.proofs.UnitLemmas.{same_group, one_unit, begin_of_group}
use Rattle.odb_check.proofs.ids.splits_group.Goals as goal

split_broken : (rs : List Record) (i : ℕ) → unit_begin rs i < i → unit_at rs (i - 1) ≢ unit_at rs i → (group : Option (List ℕ)) → group_at rs i ≡ group
    → IsSomeAnd group (λ g. (j : ℕ) × (i ≡ j + 1) × ¬ (group_at rs j ≡ Some g) × IsGroupBefore rs g j)
split_broken rs i began other None e = let at_itself : unit_begin rs i ≡ i = ap (begin_in rs i) e in omega arith
split_broken rs i began other (Some g) e =
    let first : IsFirstAt (group_at rs) g (unit_begin rs i) = begin_of_group rs i g e in
    let not_there : ¬ (group_at rs (i - 1) ≡ Some g) = λ there. other (one_unit rs (i - 1) i g there e) in
    let not_begin : unit_begin rs i ≢ i - 1 = λ same. not_there (subst (λ k. group_at rs k ≡ Some g) same first.here) in
    (i - 1, omega arith, not_there, (unit_begin rs i, omega arith, first.here))

split_found : (rs : List Record) (i : ℕ) (group : Option (List ℕ)) → group_at rs i ≡ group → IsSomeAnd group (λ g. (j : ℕ) × (i ≡ j + 1) × ¬ (group_at rs j ≡ Some g) × IsGroupBefore rs g j)
    → (unit_begin rs i < i) × (unit_at rs (i - 1) ≢ unit_at rs i)
split_found rs i None e h = absurd h
split_found rs i (Some g) e h =
    let first : IsFirstAt (group_at rs) g (unit_begin rs i) = begin_of_group rs i g e in
    let before : h.0 ≡ i - 1 = omega (arith, h.1) in
    let not_there : ¬ (group_at rs (i - 1) ≡ Some g) = λ there. h.2 (subst (λ k. group_at rs k ≡ Some g) (sym before) there) in (
      elim (cases_lt h.3.0 (unit_begin rs i)) [ inl less ↦ absurd (first.before h.3.0 less h.3.2) | inr more ↦ omega (arith, h.1, h.3.1) ],
      (λ same. not_there (same_group rs (i - 1) i same ∙ e)),
    )

-- where the unit of i began before, its group is split if the position just before is in another unit
split_Decides : (rs : List Record) (i : ℕ) → unit_begin rs i < i → Decides (not (unit_at rs (i - 1) == unit_at rs i)) (IsBrokenAt GroupSplit rs i)
split_Decides rs i began = Decides-like (not (unit_at rs (i - 1) == unit_at rs i)) (λ other. split_broken rs i began other (group_at rs i) refl) (λ h. (split_found rs i (group_at rs i) refl h).1)
    (Decides-not (unit_at rs (i - 1) == unit_at rs i) (Decides-eqb (unit_at rs (i - 1)) (unit_at rs i)))

no_split : (rs : List Record) (i : ℕ) → i ≤ unit_begin rs i → ¬ IsBrokenAt GroupSplit rs i
no_split rs i begins h = omega (arith, (split_found rs i (group_at rs i) refl h).0)

pub returns-then-begin_of-i : goal.returns-then-begin_of-i
returns-then-begin_of-i c =
    rw c.unit_of.ensures.value (rw c.unit_of-then-begin_of-i.ensures.value (split_Decides (requests c.args.tables.now) c.args.i (omega (arith, c.begin_of.ensures, c.if-begin_of-i.true))))

pub returns-else-begin_of-i : goal.returns-else-begin_of-i
returns-else-begin_of-i c =
    Decides-like _ (λ less. absurd (omega (arith, less, c.if-begin_of-i.false))) (λ h. absurd (no_split (requests c.args.tables.now) c.args.i (omega (arith, c.begin_of.ensures, c.if-begin_of-i.false)) h))
    (Decides-ltb c.begin_of.result c.args.i)

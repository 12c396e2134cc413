-- Where the arrows of a drawing begin.
use Rattle.std.proofs.Common.{◌≡◌, ◌<◌, ℕ, List, Contains, Option, None, Some, length, unwrap_or}
use Rattle.std.specs.Prelude.{◌==◌}
use Rattle.std.proofs.lemmas.Bool.Decides.{Decides-eqb}
use Rattle.odb_doc.specs.batch.Records.{Record}
use Rattle.odb_check.specs.declared.need.Need.TheVariants.{One, Group}
use Rattle.odb_check.specs.Firsts.{first_below}
use Rattle.odb_check.specs.Needs.{need_of, needed_names, needs_at}
use Rattle.odb_check.specs.Units.{unit_at}
use Rattle.odb_check.proofs.AnyLemmas.{element_meaning}
use Rattle.odb_check.proofs.FirstLemmas.{FirstCases, first_cases}
use Rattle.odb_check.proofs.NeedLemmas.{is_meant, need_within}
use Rattle.odb_check.proofs.UnitLemmas.{IsUnitOf, unit_at_start}
use Rattle.odb_text.specs.Rows.{first_of_unit}

pub request-within : (rs : List Record) (i r : ℕ) → Contains (needs_at rs i) (One r) → r < length rs
request-within rs i r has = let is = element_meaning (need_of rs) (needed_names rs i) (One r) has in need_within rs is.element (One r) is.means

first-of : (rs : List Record) (name : List ℕ) (u : ℕ) → IsUnitOf rs name u → (found : Option ℕ) → FirstCases (length rs) (λ j. unit_at rs j ≡ u) found → (unit_at rs (unwrap_or found 0) ≡ u) × (unwrap_or found 0 < length rs)
first-of rs name u unit None none = absurd (none unit.start unit.within (unit_at_start rs name u unit))
first-of rs name u unit (Some b) first = (first.1.here, first.0)

pub group-within : (rs : List Record) (i u : ℕ) → Contains (needs_at rs i) (Group u) → (unit_at rs (first_of_unit rs u) ≡ u) × (first_of_unit rs u < length rs)
group-within rs i u has =
    let is = element_meaning (need_of rs) (needed_names rs i) (Group u) has in
    first-of rs is.element u (is_meant rs is.element (Group u) is.means).unit (first_below (length rs) (λ j. unit_at rs j == u))
    (first_cases (length rs) (λ j. unit_at rs j == u) (λ j. unit_at rs j ≡ u) (λ j. Decides-eqb (unit_at rs j) u))

-- Units of which all members pass a test, while the requests are gone through.
use Rattle.std.proofs.Common.{◌≡◌, ◌∙◌, ◌+◌, ◌<◌, ℕ, Bool, true, false, List, length, set, replicate, get_or, inl, inr, ap, sym, arith, get_or-set_same, get_or-set_other}
use Rattle.std.proofs.lemmas.Bool.{cases_eq, true≢false}
use Rattle.std.proofs.lemmas.List.{get_or-replicate, length-set, length-replicate}
use Rattle.odb_check.specs.PlanGraph.{PlanGraph, ArePassing, unit_of}

pub passing-none : (plan : PlanGraph) (test : ℕ → Bool) → ArePassing plan test 0 (replicate plan.unit_count true)
passing-none plan test = record {
  count = length-replicate plan.unit_count true;
  passed = λ u i is less unit. absurd (omega (arith, less));
  failed = λ u known is. absurd (true≢false (sym (get_or-replicate plan.unit_count u true false known) ∙ is));
}

-- one request more that passes
pub passing-more : (plan : PlanGraph) (test : ℕ → Bool) (n : ℕ) (units : List Bool) → ArePassing plan test n units → test n ≡ true → ArePassing plan test (n + 1) units
passing-more plan test n units before passes = record {
  count = before.count;
  passed = λ u i is less unit. elim (cases_eq i n) [
    | inl last ↦ ap test last ∙ passes
    | inr early ↦ before.passed u i is (omega (arith, less, early)) unit
  ];
  failed = before.failed;
}

-- one that does not
pub passing-less : (plan : PlanGraph) (test : ℕ → Bool) (n : ℕ) (units : List Bool) → ArePassing plan test n units → n < length plan.units → unit_of plan n < plan.unit_count → test n ≡ false → ArePassing plan test (n + 1) (set units (unit_of plan n) false)
passing-less plan test n units before within known fails = record {
  count = length-set units (unit_of plan n) false ∙ before.count;
  passed = λ u i is less unit. elim (cases_eq u (unit_of plan n)) [
    | inl same ↦ absurd (true≢false (sym is ∙ ap (λ v. get_or (set units (unit_of plan n) false) v false) same ∙ cleared))
    | inr other ↦ elim (cases_eq i n) [
      | inl last ↦ absurd (other (sym unit ∙ ap (unit_of plan) last))
      | inr early ↦ before.passed u i (sym (get_or-set_other units (unit_of plan n) u false false other) ∙ is) (omega (arith, less, early)) unit
    ]
  ];
  failed = λ u inside is. elim (cases_eq u (unit_of plan n)) [
    | inl same ↦ (n, within, sym same, fails)
    | inr other ↦ before.failed u inside (sym (get_or-set_other units (unit_of plan n) u false false other) ∙ is)
  ];
}
  where
    cleared : get_or (set units (unit_of plan n) false) (unit_of plan n) false ≡ false
    cleared = get_or-set_same units (unit_of plan n) false false (omega (arith, known, before.count))

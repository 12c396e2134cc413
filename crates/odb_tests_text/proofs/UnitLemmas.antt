-- What has become of a unit of a batch.
use Rattle.std.proofs.Common.{◌≡◌, ◌∙◌, ◌+◌, ◌<◌, ◌≤◌, ℕ, zero, suc, Bool, true, false, List, length, replicate, set, inl, inr, sym, subst, arith}
use Rattle.std.specs.List.{list_any}
use Rattle.std.proofs.lemmas.Bool.{cases_Bool, true≢false}
use Rattle.odb_doc.specs.batch.Records.{Record}
use Rattle.odb_check.specs.LeastNameFault.{HasGoodNames}
use Rattle.odb_check.specs.Needs.{needs_at}
use Rattle.odb_check.specs.PlanGraph.{unit_needed}
use Rattle.odb_check.specs.Units.{unit_at, unit_count}
use Rattle.odb_check.proofs.UnitLemmas.{unit_before}
use Rattle.odb_send.specs.Marks.{AreBarred}
use Rattle.odb_send.specs.Repeats.{may_repeat_at}
use Rattle.odb_send.specs.Units.{AreMarksOf, IsBarred, IsDone, IsInRest, IsLeftOut, marked}
use Rattle.odb_send.proofs.MarkLemmas.{AreBarred-all, AreBarred-exempt, AreBarred-kept, AreBarred-more, AreBarred-none, barred-needing, barred-own}
use Rattle.odb_tests_text.specs.Units.{HasFate}

-- ---- whether a unit is left out is settled

module _ (rs : List Record) (good : HasGoodNames rs) (exempt test : ℕ → Bool) where
  -- there are marks of the units that are barred by the first requests
  abbrev HasMarks : ℕ → Type 0
  HasMarks n = (units : List Bool) × AreBarred rs exempt test n units

  with-one : (n : ℕ) (units : List Bool) → AreBarred rs exempt test n units → n < length rs → IsBarred rs exempt test (unit_at rs n) → HasMarks (n + 1)
  with-one n units before within barred = (set units (unit_at rs n) true, AreBarred-more rs exempt test n units good before (unit_before rs n (length rs) within) barred)

  next-marks : (n : ℕ) → n < length rs → HasMarks n → HasMarks (n + 1)
  next-marks n within (units, before) = elim (cases_Bool (exempt (unit_at rs n))) [
    | inl free ↦ (units, AreBarred-exempt rs exempt test n units before free)
    | inr bound ↦ elim (cases_Bool (test n)) [
      | inr bad ↦ with-one n units before within (barred-own rs exempt test n within bound bad)
      | inl passes ↦ elim (cases_Bool (list_any (λ need. marked units (unit_needed (unit_at rs) need)) (needs_at rs n))) [
        | inl some ↦ with-one n units before within (barred-needing rs exempt test n units before within bound some)
        | inr none ↦ (units, AreBarred-kept rs exempt test n units before passes none)
      ]
    ]
  ]

  marks-upto : (n : ℕ) → n ≤ length rs → HasMarks n
  marks-upto zero within = (replicate (unit_count rs) false, AreBarred-none rs exempt test)
  marks-upto (suc n) within =
      let next : n + 1 ≡ suc n = omega arith in
      subst HasMarks next (next-marks n (omega (arith, within)) (marks-upto n (omega (arith, within))))

  barred-marks : (units : List Bool) × AreMarksOf rs (IsBarred rs exempt test) units
  barred-marks = let (units, all) = marks-upto (length rs) (omega arith) in (units, AreBarred-all rs exempt test units all)

-- ---- each unit is done, or in the rest, or left out

pub fate : (rs : List Record) (statuses : List ℕ) → HasGoodNames rs → ((u : ℕ) → IsLeftOut rs statuses u → ¬ IsDone rs statuses u) → (done units : List Bool) → AreMarksOf rs (IsDone rs statuses) done → AreMarksOf rs (IsInRest rs statuses) units
    → (u : ℕ) → u < unit_count rs → HasFate rs statuses u (marked done u) (marked units u)
fate rs statuses good apart done units are also u known = record {
  is_done = λ is. let done_unit = (are.each u known).0 is in (done_unit, λ left. apart u left done_unit);
  in_rest = λ is. (also.each u known).0 is;
  left_out = λ open_unit out.
      let (marks, left) = barred-marks rs good (λ v. false) (may_repeat_at rs statuses) in
      elim (cases_Bool (marked marks u)) [
        | inl is ↦ let left_unit = (left.each u known).0 is in (left_unit, apart u left_unit)
        | inr none ↦ absurd (true≢false (sym ((also.each u known).1 (record {
          known = known;
          not_done = λ done_unit. true≢false (sym ((are.each u known).1 done_unit) ∙ open_unit);
          not_left_out = λ left_unit. true≢false (sym ((left.each u known).1 left_unit) ∙ none);
        })) ∙ out))
      ];
}

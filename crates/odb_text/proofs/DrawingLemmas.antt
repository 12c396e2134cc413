-- What a drawing has to know: the first request of a unit, and its parts.
use Rattle.std.proofs.Common.{◌≡◌, ◌∙◌, ◌<◌, ◌+◌, ◌==◌, ℕ, zero, suc, Bool, true, false, List, ◌++◌, Some, None, unwrap_or, length, slice_get, refl, sym, ap, subst, inl, inr, arith, append_assoc, Result, Ok, Err, OnOk}
use Rattle.std.specs.List.{flat_map}
use Rattle.std.proofs.lemmas.Bool.{cases_lt, eq-eqb, ne_eqb}
use Rattle.odb_doc.specs.batch.Records.{Record}
use Rattle.odb_check.specs.Firsts.{first_below, joined_below}
use Rattle.odb_check.specs.Levels.{level_at}
use Rattle.odb_check.specs.Needs.{needs_at}
use Rattle.odb_check.specs.PlanGraph.{PlanGraph, IsPlanGraphOf, IsSpan}
use Rattle.odb_check.specs.Units.{unit_at}
use Rattle.odb_text.specs.Drawings.{arrow_line, cluster_line, lines_at, node_line, rank_line, request_lines}
use Rattle.odb_text.specs.Rows.{first_of_unit, row_at}

none_passes : (n : ℕ) (test : ℕ → Bool) → ((k : ℕ) → k < n → test k ≡ false) → first_below n test ≡ None
none_passes zero test fails = refl
none_passes (suc n) test fails = rw (none_passes n test (λ k below. fails k (omega (arith, below))), fails n (omega arith)) refl

first_is : (n : ℕ) (test : ℕ → Bool) (b : ℕ) → b < n → test b ≡ true → ((k : ℕ) → k < b → test k ≡ false) → first_below n test ≡ Some b
first_is zero test b within passes fails = absurd (omega (arith, within))
first_is (suc n) test b within passes fails =
    elim (cases_lt b n) [
      | inl less ↦ rw (first_is n test b less passes fails) refl
      | inr more ↦
          let same : b ≡ n = omega (arith, within, more) in
          subst (λ c. first_below (suc n) test ≡ Some c) (sym same)
          (let here : test n ≡ true = subst (λ c. test c ≡ true) same passes in
          rw (none_passes n test (λ k below. fails k (omega (arith, below, same))), here) refl)
    ]

-- the first position of a unit's span is its first request
pub first_member : (rs : List Record) (plan : PlanGraph) (u from to : ℕ) → IsPlanGraphOf rs plan → IsSpan plan u from to → from ≡ first_of_unit rs u
first_member rs plan u from to is span =
    let size : length plan.units ≡ length rs = is.size in
    let within : from < length rs = omega (arith, span.begins, span.within, size) in
    let here : (unit_at rs from == u) ≡ true =
    eq-eqb (unit_at rs from) u (sym (is.units from within) ∙ (span.exact from (omega (arith, within, size))).1 (omega arith, span.begins)) in
    let before : (k : ℕ) → k < from → (unit_at rs k == u) ≡ false = λ k less.
    ne_eqb (unit_at rs k) u (λ e. omega (arith, less, ((span.exact k (omega (arith, within, size, less))).0 (is.units k (omega (arith, within, less)) ∙ e)).0)) in
    sym (ap (λ found. unwrap_or found 0) (first_is (length rs) (λ j. unit_at rs j == u) from within here before))

-- the lines of a request, part by part
pub request_parts : (rs : List Record) (i : ℕ) (request : Record) → slice_get rs i ≡ Some request
    → lines_at rs i ≡ node_line i request ++ cluster_line (unit_at rs i) i request.group ++ rank_line (level_at rs i) (row_at rs i) i ++ flat_map (arrow_line rs i) (needs_at rs i)
request_parts rs i request is = ap (request_lines rs i) is

-- what four steps have appended, if the last of them succeeds
pub four_parts : {E : Type 0} (result : Result (Unit {0}) E) (start first second third last a b c d : List ℕ)
    → first ≡ start ++ a → second ≡ first ++ b → third ≡ second ++ c → OnOk result (last ≡ third ++ d) → OnOk result (last ≡ start ++ (a ++ b ++ c ++ d))
four_parts (Ok done) start first second third last a b c d one two three four = rw (four, three, two, one) (simp append_assoc)
four_parts (Err fault) start first second third last a b c d one two three four = tt

joined_more : (n : ℕ) (lists : ℕ → List ℕ) → joined_below n lists ++ lists n ≡ joined_below (n + 1) lists
joined_more n lists = let same : suc n ≡ n + 1 = omega arith in ap (λ m. joined_below m lists) same

-- what is appended, with one list more
pub lines_more : (lists : ℕ → List ℕ) (n : ℕ) (start before after line : List ℕ) → before ≡ start ++ joined_below n lists → after ≡ before ++ line → line ≡ lists n → after ≡ start ++ joined_below (n + 1) lists
lines_more lists n start before after line is more same =
    more ∙ ap (λ text. before ++ text) same ∙ ap (λ text. text ++ lists n) is ∙ append_assoc start (joined_below n lists) (lists n) ∙ ap (λ text. start ++ text) (joined_more n lists)

-- what five steps have made
pub five_parts : (start first second third last a b c d e : List ℕ) → start ≡ a → first ≡ start ++ b → second ≡ first ++ c → third ≡ second ++ d → last ≡ third ++ e → last ≡ a ++ b ++ c ++ d ++ e
five_parts start first second third last a b c d e one two three four five = rw (five, four, three, two, one) (simp append_assoc)

-- What the table and the units decide of one request: its group, and whether its success rests on a failure.
use Rattle.std.proofs.Common.{◌≡◌, ◌∙◌, ◌<◌, ◌≤◌, ℕ, Bool, true, false, not, List, length, get_or, Some, slice_get, refl, ap, sym, arith, Contains}
use Rattle.std.specs.List.{list_any}
use Rattle.std.proofs.lemmas.Bool.{both_ways, not-true, not-false}
use Rattle.std.proofs.lemmas.List.Folds.{list_any_at}
use Rattle.std.proofs.lemmas.Option.{slice_get_within, slice_get-get_or, same_Some}
use Rattle.odb_doc.specs.batch.Records.{Record}
use Rattle.odb_check.specs.declared.need.Need.{Need}
use Rattle.odb_check.specs.declared.need.Need.TheVariants.{One, Group}
use Rattle.odb_check.specs.Needs.{needs_at}
use Rattle.odb_check.specs.Positions.{group_at}
use Rattle.odb_check.specs.PlanGraph.{PlanGraph, IsPlan, IsPlanGraphOf, IsNeedAmong}
use Rattle.odb_check.specs.Units.{unit_count}
use Rattle.odb_doc.specs.Statuses.{is_success}
use Rattle.odb_reply.specs.declared.match_fault.MatchRule.{MatchRule}
use Rattle.odb_reply.specs.declared.match_fault.MatchRule.TheVariants.{GroupDiffers, UnsoundSuccess}
use Rattle.odb_reply.specs.ResponseDocuments.{Entry}
use Rattle.odb_reply.specs.Fits.{AreUnits, Responds, IsRow}
use Rattle.odb_reply.specs.LeastMatchFault.{phase}
use Rattle.odb_reply.specs.MatchFaults.{Breaks, number, Fails, HasFailed}
use Rattle.odb_reply.specs.Places.{HasRows, is_satisfied, NoneIn, IsFirstIn}
use Rattle.odb_check.proofs.PositionLemmas.{id_within}
use Rattle.odb_sched.proofs.ListLemmas.{slice_get-some}
use Rattle.odb_reply.proofs.UnitLemmas.{need_within}
use Rattle.odb_sched.proofs.BelowLemmas.{list_any-some}

-- ---- rows

-- the row of a request whose place is known
pub row_at : (rs : List Record) (es : List Entry) (places statuses : List ℕ) (i k : ℕ) → HasRows rs es places statuses → slice_get places i ≡ Some k → IsRow rs es i k (get_or statuses i 0)
row_at rs es places statuses i k rows place =
    let within : i < length statuses = omega (arith, slice_get_within places i k place, rows.table.places_count, rows.table.statuses_count) in
    rows.table.each i k (get_or statuses i 0) place (slice_get-get_or statuses i 0 within)

-- the place of a response is one of the document
pub place_within : (rs : List Record) (es : List Entry) (places statuses : List ℕ) (i k : ℕ) → HasRows rs es places statuses → slice_get places i ≡ Some k → k < length es
place_within rs es places statuses i k rows place = let row = row_at rs es places statuses i k rows place in slice_get_within es k row.entry row.given

-- the status of a request is that of its response
status_of : (rs : List Record) (es : List Entry) (places statuses : List ℕ) (i : ℕ) (e : Entry) → HasRows rs es places statuses → Responds rs es i e → get_or statuses i 0 ≡ e.status
status_of rs es places statuses i e rows responds =
    let place = slice_get-some places i (omega (arith, id_within rs i e.id responds.id, rows.table.places_count)) in
    let row = row_at rs es places statuses i place.0 rows place.1 in
    let same : row.entry ≡ e = same_Some row.entry e (sym row.given ∙ rows.only i place.0 e responds place.1) in
    sym row.status_is ∙ ap (λ (r : Entry). r.status) same

-- a request whose status is not a success fails
fails_from : (rs : List Record) (es : List Entry) (places statuses : List ℕ) (r : ℕ) → HasRows rs es places statuses → r < length rs → is_success (get_or statuses r 0) ≡ false → Fails rs es r
fails_from rs es places statuses r rows within failed =
    let place = slice_get-some places r (omega (arith, rows.table.places_count)) in
    let row = row_at rs es places statuses r place.0 rows place.1 in
    (row.entry, record { place = place.0; given = row.given; id = row.id }, λ passes. both_ways (is_success row.entry.status) (ap is_success row.status_is ∙ failed) passes)

fails_not : (rs : List Record) (es : List Entry) (places statuses : List ℕ) (r : ℕ) → HasRows rs es places statuses → is_success (get_or statuses r 0) ≡ true → ¬ Fails rs es r
fails_not rs es places statuses r rows passes failed = failed.2 (ap is_success (sym (status_of rs es places statuses r failed.0 rows failed.1)) ∙ passes)

-- ---- needs

failed_from : (rs : List Record) (es : List Entry) (places statuses : List ℕ) (units : List Bool) (plan : PlanGraph) (need : Need) → HasRows rs es places statuses → AreUnits plan statuses units → IsPlanGraphOf rs plan
    → IsNeedAmong (length rs) (unit_count rs) need → is_satisfied statuses units need ≡ false → HasFailed rs es need
failed_from rs es places statuses units plan (One r) rows known same within failing = fails_from rs es places statuses r rows within failing
failed_from rs es places statuses units plan (Group u) rows known same within failing =
    let member = known.failed u (omega (arith, within, same.unit_count)) failing in
    let inside : member.0 < length rs = omega (arith, member.1, same.size) in
    (member.0, sym (same.units member.0 inside) ∙ member.2, fails_from rs es places statuses member.0 rows inside member.3)

satisfied_from : (rs : List Record) (es : List Entry) (places statuses : List ℕ) (units : List Bool) (plan : PlanGraph) (need : Need) → HasRows rs es places statuses → AreUnits plan statuses units → IsPlanGraphOf rs plan
    → is_satisfied statuses units need ≡ true → ¬ HasFailed rs es need
satisfied_from rs es places statuses units plan (One r) rows known same satisfied failing = fails_not rs es places statuses r rows satisfied failing
satisfied_from rs es places statuses units plan (Group u) rows known same satisfied failing =
    let failed = failing.2 in
    let inside : failing.0 < length rs = id_within rs failing.0 failed.0.id failed.1.id in
    let passes = known.passed u failing.0 satisfied (omega (arith, inside, same.size)) (same.units failing.0 inside ∙ failing.1) in
    fails_not rs es places statuses failing.0 rows passes failed

-- no element passes if `list_any` is false
any_none : {X : Type 0} (test : X → Bool) (xs : List X) (x : X) → list_any test xs ≡ false → Contains xs x → test x ≡ false
any_none test xs x none (k, within, at) = at_answer (test x) refl
  where
    at_answer : (b : Bool) → test x ≡ b → test x ≡ false
    at_answer true passes = absurd (both_ways _ none (list_any_at test xs k x within (ap test at ∙ passes)))
    at_answer false fails = fails

-- ---- the two rules

pub none_last : (rs : List Record) (es : List Entry) (i : ℕ) → ¬ Breaks rs es GroupDiffers i → ¬ Breaks rs es UnsoundSuccess i → NoneIn 3 rs es i
none_last rs es i same sound GroupDiffers (of_phase, broken) = same broken
none_last rs es i same sound UnsoundSuccess (of_phase, broken) = sound broken
none_last rs es i same sound rule (of_phase, broken) = omega (arith, of_phase)

-- F74 is the first rule of the last phase
number_74 : (rule : MatchRule) → phase rule ≡ 3 → 74 ≤ number rule
number_74 GroupDiffers of_phase = omega arith
number_74 UnsoundSuccess of_phase = omega arith
number_74 rule of_phase = absurd (omega (arith, of_phase))

below_75 : (rs : List Record) (es : List Entry) (i : ℕ) → ¬ Breaks rs es GroupDiffers i → (rule : MatchRule) → number rule < 75 → phase rule ≡ 3 → ¬ Breaks rs es rule i
below_75 rs es i same GroupDiffers less of_phase broken = same broken
below_75 rs es i same rule less of_phase broken = omega (arith, less, of_phase)

-- the response has another group
pub first_differs : (rs : List Record) (es : List Entry) (places statuses : List ℕ) (i k : ℕ) (e : Entry) → HasRows rs es places statuses → slice_get places i ≡ Some k → slice_get es k ≡ Some e
    → ¬ (e.group ≡ group_at rs i) → IsFirstIn 3 rs es i GroupDiffers
first_differs rs es places statuses i k e rows place given differs =
    let row = row_at rs es places statuses i k rows place in
    let same : row.entry ≡ e = same_Some row.entry e (sym row.given ∙ given) in
    record {
      broken = (
        refl,
        record {
          response = e;
          responds = record { place = k; given = given; id = row.id ∙ ap (λ (r : Entry). Some r.id) same };
          differs = differs;
        },
      );
      least = λ other less broken. omega (arith, less, number_74 other broken.0);
    }

-- it has the same group
pub not_differs : (rs : List Record) (es : List Entry) (places statuses : List ℕ) (i k : ℕ) (e : Entry) → HasRows rs es places statuses → slice_get places i ≡ Some k → slice_get es k ≡ Some e
    → e.group ≡ group_at rs i → ¬ Breaks rs es GroupDiffers i
not_differs rs es places statuses i k e rows place given group broken =
    let same : e ≡ broken.response = same_Some e broken.response (sym given ∙ rows.only i k broken.response broken.responds place) in
    broken.differs (ap (λ (r : Entry). r.group) (sym same) ∙ group)

-- the response is a success, and a dependency has failed
pub first_unsound : (rs : List Record) (es : List Entry) (places statuses : List ℕ) (units : List Bool) (plan : PlanGraph) (i : ℕ) → HasRows rs es places statuses → AreUnits plan statuses units → IsPlanGraphOf rs plan → IsPlan plan
    → i < length rs → ¬ Breaks rs es GroupDiffers i → is_success (get_or statuses i 0) ≡ true → list_any (λ need. not (is_satisfied statuses units need)) (needs_at rs i) ≡ true → IsFirstIn 3 rs es i UnsoundSuccess
first_unsound rs es places statuses units plan i rows known same laws within group passes some =
    let place = slice_get-some places i (omega (arith, rows.table.places_count)) in
    let row = row_at rs es places statuses i place.0 rows place.1 in
    let failing = list_any-some (λ need. not (is_satisfied statuses units need)) (needs_at rs i) some in
    record {
      broken = (
        refl,
        record {
          response = row.entry;
          responds = record { place = place.0; given = row.given; id = row.id };
          success = ap is_success row.status_is ∙ passes;
          need = failing.0;
          needed = failing.1;
          fails = failed_from rs es places statuses units plan failing.0 rows known same (need_within rs plan i failing.0 same laws within failing.1) (not-true (is_satisfied statuses units failing.0) failing.2);
        },
      );
      least = λ other less broken. below_75 rs es i group other less broken.0 broken.1;
    }

-- the response is not a success
pub not_success : (rs : List Record) (es : List Entry) (places statuses : List ℕ) (i : ℕ) → HasRows rs es places statuses → is_success (get_or statuses i 0) ≡ false → ¬ Breaks rs es UnsoundSuccess i
not_success rs es places statuses i rows failed broken =
    both_ways (is_success (get_or statuses i 0)) failed (ap is_success (status_of rs es places statuses i broken.response rows broken.responds) ∙ broken.success)

-- each dependency is satisfied
pub not_failed : (rs : List Record) (es : List Entry) (places statuses : List ℕ) (units : List Bool) (plan : PlanGraph) (i : ℕ) → HasRows rs es places statuses → AreUnits plan statuses units → IsPlanGraphOf rs plan → IsPlan plan
    → i < length rs → list_any (λ need. not (is_satisfied statuses units need)) (needs_at rs i) ≡ false → ¬ Breaks rs es UnsoundSuccess i
not_failed rs es places statuses units plan i rows known same laws within none broken =
    let satisfied = any_none (λ need. not (is_satisfied statuses units need)) (needs_at rs i) broken.need none broken.needed in
    satisfied_from rs es places statuses units plan broken.need rows known same (not-false (is_satisfied statuses units broken.need) satisfied) broken.fails

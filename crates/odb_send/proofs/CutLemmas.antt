-- The part of the units that fit, up to the first that lacks a Location or an ETag.
use Rattle.std.proofs.Common.{◌≡◌, ◌∙◌, ◌<◌, ◌≤◌, ℕ, zero, suc, Bool, true, false, nat_lt, List, [], ◌∷◌, length, Option, None, Some, option_and_then, inl, inr, codes, refl, ap, sym, subst, arith, IsSomeAnd, lt-ltb}
use Rattle.std.specs.List.{list_any}
use Rattle.std.proofs.lemmas.Bool.{and_from, and_parts, cases_order, ltb-true, true≢false, false≢true}
use Rattle.odb_doc.specs.batch.Records.{Record}
use Rattle.odb_doc.specs.declared.rule_fault.RuleFault.TheVariants as faults
use Rattle.odb_check.specs.declared.fault.NameRule.TheVariants as rules
use Rattle.odb_check.specs.Firsts.{list_below}
use Rattle.odb_check.specs.LeastNameFault.{HasGoodNames}
use Rattle.odb_check.specs.Positions.{IsIdFrom, reference_at}
use Rattle.odb_check.specs.Units.{position_of, referred_at, unit_at, unit_count}
use Rattle.odb_check.proofs.BelowLemmas.{get_or-list_below, length-list_below}
use Rattle.odb_check.proofs.PlanLemmas.{needs_before}
use Rattle.odb_check.proofs.PositionLemmas.{position_first}
use Rattle.odb_check.proofs.UnitLemmas.{unit_before}
use Rattle.odb_send.specs.declared.fault.RestRule.{RestRule}
use Rattle.odb_send.specs.Answers.{Answer}
use Rattle.odb_send.specs.Faults.{Breaks, Lacks, LacksLocation, LacksTag, RefusesRest, RestFault}
use Rattle.odb_send.specs.Marks.{marked_before}
use Rattle.odb_send.specs.NextPart.{BreaksFirst, HasLack, HasSome, IsCut, IsPartOf, RefusesPart}
use Rattle.odb_send.specs.declared.rest.Rest.{Rest}
use Rattle.odb_send.specs.Rests.{Change, HasChanges, Leaves, RefersOut, change_at, changes, is_kept, kept, tagged_at}
use Rattle.odb_send.specs.Units.{marked}
use Rattle.odb_send.proofs.MarkLemmas.{not_marked}
use Rattle.odb_send.proofs.NextPartLemmas.{unit_member}
use Rattle.odb_send.proofs.UrlLemmas.{SameAnswers, breaks_by, breaks_lacks, changes_by, has_change, lacks_by, one_position, referred_within, referring, tagged_before, tagging}

-- where each request has its URL, the part has all that fits
pub cut_whole : (rs : List Record) (fitting : List Bool) (answers : ℕ → Answer) (list : List Change) → length fitting ≡ unit_count rs → HasChanges rs fitting answers list → IsCut rs fitting answers fitting
cut_whole rs fitting answers list count are = record {
  end = unit_count rs;
  units = record { count = count; each = λ u known. ((λ is. (known, is)), (λ first. first.1)) };
  placed = λ u less lack. let (i, within, unit, lacks) = lack in has_change rs fitting answers i (change_at list i) (are.each i within) lacks;
  next = inl refl;
}

-- a URL refers to a request of the same unit, or of one before it
refers_before : (rs : List Record) → HasGoodNames rs → (i p : ℕ) → referred_at rs i ≡ Some p → unit_at rs p ≤ unit_at rs i
refers_before rs good i p is = by_reference (reference_at rs i) refl is
  where
    by_reference : (o : Option (List ℕ)) → reference_at rs i ≡ o → option_and_then (position_of rs) o ≡ Some p → unit_at rs p ≤ unit_at rs i
    by_reference None here none = absurd (cc (none))
    by_reference (Some id) here found =
        let first = position_first rs id p found in
        elim (cases_order p i) [
          | inl same ↦ (needs_before rs good).order p i (omega (arith, same))
          | inr (inl before) ↦ (needs_before rs good).order p i (omega (arith, before))
          | inr (inr after) ↦ absurd (good rules.ForwardReference i (subst (λ q. IsSomeAnd q (λ x. IsIdFrom rs x i)) (sym here) (p, omega (arith, after), first.1.here)))
        ]

-- what lacks something is one of the batch
pub lacks_within : (rs : List Record) (kept : List Bool) (answers : ℕ → Answer) (i : ℕ) → Lacks rs kept answers i → i < length rs
lacks_within rs kept answers i (inl lacks) = referring rs i lacks.position lacks.leaves.refers
lacks_within rs kept answers i (inr (inl lacks)) = tagging rs (codes "if-match") i lacks.position lacks.leaves.refers
lacks_within rs kept answers i (inr (inr lacks)) = tagging rs (codes "if-none-match") i lacks.position lacks.leaves.refers

-- `part` has those of the units that fit that come before the unit of the first request that breaks a rule
module _ (rs : List Record) (good : HasGoodNames rs) (fitting part : List Bool) (answers : ℕ → Answer) (at : ℕ) (rule : RestRule) (count : length fitting ≡ unit_count rs) (breaks : Breaks rule rs fitting answers at) (least : (i : ℕ) → i < at → ¬ Lacks rs fitting answers i)
    (is : part ≡ list_below (length fitting) (marked_before fitting (unit_at rs at))) where
  within : at < length rs
  within = lacks_within rs fitting answers at (breaks_lacks rule rs fitting answers at breaks)

  part-at : (u : ℕ) → u < unit_count rs → marked part u ≡ marked_before fitting (unit_at rs at) u
  part-at u known = ap (λ (marks : List Bool). marked marks u) is ∙ get_or-list_below (length fitting) (marked_before fitting (unit_at rs at)) u false (omega (arith, known, count))

  part-first : (u : ℕ) → u < unit_count rs → marked part u ≡ true → (u < unit_at rs at) × (marked fitting u ≡ true)
  part-first u known marks = let both = and_parts (nat_lt u (unit_at rs at)) (marked fitting u) (sym (part-at u known) ∙ marks) in (ltb-true u (unit_at rs at) both.0, both.1)

  part-there : (u : ℕ) → u < unit_count rs → u < unit_at rs at → marked fitting u ≡ true → marked part u ≡ true
  part-there u known less there = part-at u known ∙ and_from (nat_lt u (unit_at rs at)) (marked fitting u) (lt-ltb u (unit_at rs at) less) there

  -- a request of an earlier unit comes earlier
  earlier : (i : ℕ) → unit_at rs i < unit_at rs at → i < at
  earlier i less = elim (cases_order i at) [
    | inl same ↦ absurd (let units = ap (unit_at rs) same in omega (arith, less, units))
    | inr (inl before) ↦ before
    | inr (inr after) ↦ absurd (let order = (needs_before rs good).order at i (omega (arith, after)) in omega (arith, less, order))
  ]

  pub part-count : length part ≡ unit_count rs
  part-count = ap (λ (marks : List Bool). length marks) is ∙ length-list_below (length fitting) (marked_before fitting (unit_at rs at)) ∙ count

  pub cut-before : HasSome rs part → IsCut rs fitting answers part
  cut-before some = record {
    end = unit_at rs at;
    units = record { count = part-count; each = λ u known. (part-first u known, (λ first. part-there u known first.0 first.1)) };
    placed = λ u less lack. let (i, inside, unit, bad) = lack in least i (earlier i (omega (arith, unit, less))) bad;
    next = inr (some, (at, within, refl, breaks_lacks rule rs fitting answers at breaks));
  }

  pub cut-none : ((u : ℕ) → u < unit_count rs → marked part u ≡ false) → BreaksFirst rule rs fitting answers at
  cut-none none = record {
    breaks = breaks;
    least = least;
    begins = λ u less.
        let known : u < unit_count rs = omega (arith, less, unit_before rs at (length rs) within) in
        not_marked (marked fitting u) (λ there. true≢false (sym (part-there u known less there) ∙ none u known));
  }

  -- what refers out of the part, and not to a later unit, refers out of what fits
  leaves-fitting : (target : ℕ → Option ℕ) (i p : ℕ) → RefersOut rs part target i p → p < length rs → unit_at rs p ≤ unit_at rs i → unit_at rs i < unit_at rs at → is_kept rs fitting i ≡ true → RefersOut rs fitting target i p
  leaves-fitting target i p leaves inside before less there = record {
    stays = there;
    refers = leaves.refers;
    leaves = not_marked (is_kept rs fitting p) (λ fits. true≢false (sym (part-there (unit_at rs p) (unit_before rs p (length rs) inside) (omega (arith, before, less)) fits) ∙ leaves.leaves));
  }

  -- no request of the part lacks a Location
  cut-placed : (i : ℕ) → ¬ LacksLocation rs part answers i
  cut-placed i bad =
      let inside : i < length rs = referring rs i bad.position bad.leaves.refers in
      let first = part-first (unit_at rs i) (unit_before rs i (length rs) inside) bad.leaves.stays in
      let p = bad.position in
      let leaves = leaves-fitting (referred_at rs) i p bad.leaves (referred_within rs i p bad.leaves.refers) (refers_before rs good i p bad.leaves.refers) first.0 first.1 in
      least i (earlier i first.0) (inl (record {
        position = bad.position;
        leaves = leaves;
        none = λ url moves.
            let same = one_position rs fitting (referred_at rs) i bad.position moves.position leaves moves.leaves in
            bad.none url (record {
              position = moves.position;
              leaves = subst (λ q. Leaves rs part i q) same bad.leaves;
              request = moves.request;
              is = moves.is;
              location = moves.location;
              recorded = moves.recorded;
              filled = moves.filled;
              joined = moves.joined;
              plain = moves.plain;
            });
      }))

  -- nor an ETag
  cut-tagged : (name : List ℕ) → ((i : ℕ) → LacksTag rs fitting answers name i → Lacks rs fitting answers i) → (i : ℕ) → ¬ LacksTag rs part answers name i
  cut-tagged name lacks i bad =
      let p = bad.position in
      let inside : i < length rs = tagging rs name i p bad.leaves.refers in
      let first = part-first (unit_at rs i) (unit_before rs i (length rs) inside) bad.leaves.stays in
      let (less, within) = tagged_before rs name i p bad.leaves.refers in
      let before = (needs_before rs good).order p i (omega (arith, less)) in
      least i (earlier i first.0) (lacks i (record {
        position = p;
        leaves = leaves-fitting (tagged_at rs name) i p bad.leaves within before first.0 first.1;
        none = bad.none;
      }))

  pub cut-lacks : (i : ℕ) → ¬ Lacks rs part answers i
  cut-lacks i (inl bad) = cut-placed i bad
  cut-lacks i (inr (inl bad)) = cut-tagged (codes "if-match") (λ j lacks. inr (inl lacks)) i bad
  cut-lacks i (inr (inr bad)) = cut-tagged (codes "if-none-match") (λ j lacks. inr (inr lacks)) i bad

  pub cut-refuses : (fault : RestFault) → RefusesRest fault rs part answers → RefusesPart fault rs fitting answers
  cut-refuses (faults.Broken i broken) refuses = absurd (cut-lacks i (breaks_lacks broken rs part answers i refuses.0))
  cut-refuses faults.OutOfMemory refuses = tt

-- ---- whether there is a unit

pub no-unit : (units : List Bool) → list_any (λ mark. mark) units ≡ false → (u : ℕ) → marked units u ≡ false
no-unit [] none u = refl
no-unit (true ∷ units) none u = absurd (true≢false none)
no-unit (false ∷ units) none zero = refl
no-unit (false ∷ units) none (suc u) = no-unit units none u

some-unit : (units : List Bool) → list_any (λ mark. mark) units ≡ true → (u : ℕ) × (u < length units) × (marked units u ≡ true)
some-unit [] some = absurd (false≢true some)
some-unit (true ∷ units) some = (0, omega arith, refl)
some-unit (false ∷ units) some = let (u, within, marks) = some-unit units some in (suc u, omega (arith, within), marks)

pub some-request : (rs : List Record) (units : List Bool) → length units ≡ unit_count rs → list_any (λ mark. mark) units ≡ true → HasSome rs units
some-request rs units count some =
    let (u, within, marks) = some-unit units some in
    let (i, inside, unit) = unit_member rs u (omega (arith, within, count)) in
    (i, inside, ap (marked units) unit ∙ marks)

-- ---- other answers, which are the same at the positions of the batch

lack_by : (rs : List Record) (fitting : List Bool) (one other : ℕ → Answer) (u : ℕ) → SameAnswers rs one other → HasLack rs fitting one u → HasLack rs fitting other u
lack_by rs fitting one other u agree (i, within, unit, lacks) = (i, within, unit, lacks_by rs fitting one other i agree lacks)

pub cut_by : (rs : List Record) (fitting : List Bool) (one other : ℕ → Answer) (part : List Bool) → SameAnswers rs one other → IsCut rs fitting one part → IsCut rs fitting other part
cut_by rs fitting one other part agree is = record {
  end = is.end;
  units = is.units;
  placed = λ u less lack. is.placed u less (lack_by rs fitting other one u (λ p within. sym (agree p within)) lack);
  next = elim is.next [ inl end ↦ inl end | inr (some, lack) ↦ inr (some, lack_by rs fitting one other is.end agree lack) ];
}

pub part_by : (rs : List Record) (done left : List Bool) (limit : ℕ) (one other : ℕ → Answer) (part : Rest) → SameAnswers rs one other → IsPartOf rs done left limit one part → IsPartOf rs done left limit other part
part_by rs done left limit one other part agree is = record {
  units = record { fitting = is.units.fitting; fits = is.units.fits; cut = cut_by rs is.units.fitting one other (kept part) agree is.units.cut };
  changes_are = changes_by rs (kept part) one other (changes part) agree is.changes_are;
}

pub part_refuses_by : (rs : List Record) (fitting : List Bool) (one other : ℕ → Answer) (fault : RestFault) → SameAnswers rs one other → RefusesPart fault rs fitting one → RefusesPart fault rs fitting other
part_refuses_by rs fitting one other (faults.Broken at rule) agree first = record {
  breaks = breaks_by rule rs fitting one other at agree first.breaks;
  least = λ i less lacks. first.least i less (lacks_by rs fitting other one i (λ p within. sym (agree p within)) lacks);
  begins = first.begins;
}
part_refuses_by rs fitting one other faults.OutOfMemory agree first = tt

-- The faults of a phase, listed rule by rule and request by request.
use Rattle.std.proofs.Common.{◌≡◌, ◌∙◌, ◌<◌, ◌≤◌, ◌+◌, ℕ, inl, inr, List, [], ◌∷◌, ◌++◌, length, get_or, refl, ap, sym, subst, arith, rules}
use Rattle.std.specs.Prelude.{◌↔◌, Contains, slice_get, IfSome}
use Rattle.std.proofs.lemmas.Bool.{cases_order}
use Rattle.odb_doc.specs.AllFaults.{IsBefore, ListsAll}
use Rattle.odb_doc.specs.LeastRules.{NoneBroken}
use Rattle.odb_doc.specs.batch.Records.{Record}
use Rattle.odb_doc.proofs.ElementLemmas.{Contains-head}
use Rattle.odb_doc.proofs.ListedLemmas.{NoneBelow, contains_none, first_least, least_at, lists_all, lists_on, lists_push, lists_skip, none_more, number_at}
use Rattle.odb_check.specs.AllNameFaults.{AreNameFaults, IsNameFault, name_place}
use Rattle.odb_check.specs.FaultTable.{number, phase, CheckFault}
use Rattle.odb_check.specs.LeastNameFault.{HasGoodNames, RefusesNames}
use Rattle.odb_check.specs.NameFaults.{IsBrokenAt}
use Rattle.odb_check.specs.PhaseFaults.{IsPhaseFault, ListsPhase}
use Rattle.odb_check.specs.Walks.{BreaksFirst, BreaksIn, BreaksNone, HasValidIds}
use Rattle.odb_doc.specs.declared.rule_fault.RuleFault.TheVariants as faults
use Rattle.odb_check.specs.declared.fault.NameRule.{NameRule}
use Rattle.odb_check.specs.declared.fault.NameRule.TheVariants.{IdTwice, IdIsGroup, GroupSplit, UnknownName, ForwardName, OwnGroup, GroupNotListed, UnknownReference, ForwardReference, ReferenceNotListed}
use Rattle.odb_check.proofs.WalkLemmas.{broken_inside, two_phases}

same_rule : (rule other : NameRule) → number rule ≡ number other → rule ≡ other
same_rule rule other same = search rules

only_one : (ph : ℕ) (rs : List Record) (at n : ℕ) (rule : NameRule) → number rule ≡ n → (other : CheckFault) → IsPhaseFault ph rs other → name_place other ≡ (at, n) → other ≡ faults.Broken at rule
only_one ph rs at n rule is (faults.Broken at' other) bad here =
    let place : at' ≡ at = ap (λ (p : ℕ × ℕ). p.0) here in
    let same : other ≡ rule = same_rule other rule (ap (λ (p : ℕ × ℕ). p.1) here ∙ sym is) in
    cc (place, same)
only_one ph rs at n rule is faults.OutOfMemory bad here = absurd bad

-- ---- the rules of a phase, from its first number on

phase_broken : (ph first : ℕ) (table : List NameRule) (rs : List Record) (at k : ℕ) (d : NameRule) (listed more : List CheckFault) → number (get_or table k d) ≡ first + k → BreaksIn ph rs (get_or table k d) at
    → more ≡ listed ++ faults.Broken at (get_or table k d) ∷ [] → ListsPhase ph rs (at, first + k) listed → ListsPhase ph rs (at, first + (k + 1)) more
phase_broken ph first table rs at k d listed more is broken items lists =
    let rule = get_or table k d in
    let next : first + (k + 1) ≡ (first + k) + 1 = omega arith in
    rw (next, items) (lists_push name_place (IsPhaseFault ph rs) at (first + k) listed (faults.Broken at rule) lists (λ i. (at, is i)) broken (only_one ph rs at (first + k) rule is))

phase_passed : (ph first : ℕ) (table : List NameRule) (rs : List Record) (at k : ℕ) (d : NameRule) (listed more : List CheckFault) → number (get_or table k d) ≡ first + k → ¬ BreaksIn ph rs (get_or table k d) at
    → more ≡ listed → ListsPhase ph rs (at, first + k) listed → ListsPhase ph rs (at, first + (k + 1)) more
phase_passed ph first table rs at k d listed more is unbroken items lists =
    let rule = get_or table k d in
    let next : first + (k + 1) ≡ (first + k) + 1 = omega arith in
    rw (next, items) (lists_skip name_place (IsPhaseFault ph rs) at (first + k) listed lists (λ other bad here. unbroken (subst (IsPhaseFault ph rs) (only_one ph rs at (first + k) rule is other bad here) bad)))

-- the rules of ids and groups in the order in which they are asked, and those of dependencies and references
abbrev pub asked_of_ids : List NameRule
asked_of_ids = IdTwice ∷ IdIsGroup ∷ GroupSplit ∷ []

abbrev pub asked_of_names : List NameRule
asked_of_names = UnknownName ∷ ForwardName ∷ OwnGroup ∷ GroupNotListed ∷ UnknownReference ∷ ForwardReference ∷ ReferenceNotListed ∷ []

abbrev pub id_rule : ℕ → NameRule
id_rule k = get_or asked_of_ids k IdTwice

abbrev pub dependency_rule : ℕ → NameRule
dependency_rule k = get_or asked_of_names k IdTwice

id_number : (k : ℕ) → k < 3 → number (id_rule k) ≡ 30 + k
id_number k less = number_at number 30 asked_of_ids k IdTwice (refl, (refl, (refl, tt))) less

dependency_number : (k : ℕ) → k < 7 → number (dependency_rule k) ≡ 40 + k
dependency_number k less = number_at number 40 asked_of_names k IdTwice (refl, (refl, (refl, (refl, (refl, (refl, (refl, tt))))))) less

pub id_broken : (rs : List Record) (at k : ℕ) (listed more : List CheckFault) → k < 3 → BreaksIn 3 rs (id_rule k) at → more ≡ listed ++ faults.Broken at (id_rule k) ∷ []
    → ListsPhase 3 rs (at, 30 + k) listed → ListsPhase 3 rs (at, 30 + (k + 1)) more
id_broken rs at k listed more less broken items lists = phase_broken 3 30 asked_of_ids rs at k IdTwice listed more (id_number k less) broken items lists

pub id_passed : (rs : List Record) (at k : ℕ) (listed more : List CheckFault) → k < 3 → ¬ BreaksIn 3 rs (id_rule k) at → more ≡ listed → ListsPhase 3 rs (at, 30 + k) listed → ListsPhase 3 rs (at, 30 + (k + 1)) more
id_passed rs at k listed more less unbroken items lists = phase_passed 3 30 asked_of_ids rs at k IdTwice listed more (id_number k less) unbroken items lists

pub dependency_broken : (rs : List Record) (at k : ℕ) (listed more : List CheckFault) → k < 7 → BreaksIn 4 rs (dependency_rule k) at → more ≡ listed ++ faults.Broken at (dependency_rule k) ∷ []
    → ListsPhase 4 rs (at, 40 + k) listed → ListsPhase 4 rs (at, 40 + (k + 1)) more
dependency_broken rs at k listed more less broken items lists = phase_broken 4 40 asked_of_names rs at k IdTwice listed more (dependency_number k less) broken items lists

pub dependency_passed : (rs : List Record) (at k : ℕ) (listed more : List CheckFault) → k < 7 → ¬ BreaksIn 4 rs (dependency_rule k) at → more ≡ listed → ListsPhase 4 rs (at, 40 + k) listed → ListsPhase 4 rs (at, 40 + (k + 1)) more
dependency_passed rs at k listed more less unbroken items lists = phase_passed 4 40 asked_of_names rs at k IdTwice listed more (dependency_number k less) unbroken items lists

-- ---- the end of a request, and of all

number_within : (rule : NameRule) → number rule < 47
number_within rule = search rules

id_number_within : (rule : NameRule) → phase rule ≡ 3 → number rule < 33
id_number_within rule is = search rules

below_end : (at high : ℕ) (x : ℕ × ℕ) → IsBefore x (at, high) → IsBefore x (at + 1, 0)
below_end at high x less = elim less [ inl earlier ↦ inl (omega (arith, earlier)) | inr here ↦ inl (omega (arith, here.0)) ]

end_below : (at high : ℕ) (x : ℕ × ℕ) → x.1 < high → IsBefore x (at + 1, 0) → IsBefore x (at, high)
end_below at high x within (inl less) = elim (cases_order x.0 at) [ inl same ↦ inr (same, within) | inr other ↦ elim other [ inl below ↦ inl below | inr above ↦ absurd (omega (arith, less, above)) ] ]
end_below at high x within (inr less) = absurd (omega (arith, less.1))

id_before : (rs : List Record) (at : ℕ) (other : CheckFault) → IsPhaseFault 3 rs other → IsBefore (name_place other) (at + 1, 0) → IsBefore (name_place other) (at, 33)
id_before rs at (faults.Broken i rule) bad less = end_below at 33 (i, number rule) (id_number_within rule bad.0) less
id_before rs at faults.OutOfMemory bad less = absurd bad

dependency_before : (rs : List Record) (at : ℕ) (other : CheckFault) → IsPhaseFault 4 rs other → IsBefore (name_place other) (at + 1, 0) → IsBefore (name_place other) (at, 47)
dependency_before rs at (faults.Broken i rule) bad less = end_below at 47 (i, number rule) (number_within rule) less
dependency_before rs at faults.OutOfMemory bad less = absurd bad

number_from : (rule : NameRule) → phase rule ≡ 4 → 40 ≤ number rule
number_from rule is = search rules

before_number : (at n : ℕ) (x : ℕ × ℕ) → IsBefore x (at, 0) → IsBefore x (at, n)
before_number at n x less = elim less [ inl earlier ↦ inl earlier | inr here ↦ absurd (omega (arith, here.1)) ]

dependency_from : (rs : List Record) (at : ℕ) (other : CheckFault) → IsPhaseFault 4 rs other → IsBefore (name_place other) (at, 40) → IsBefore (name_place other) (at, 0)
dependency_from rs at (faults.Broken i rule) bad (inl earlier) = inl earlier
dependency_from rs at (faults.Broken i rule) bad (inr here) = absurd (omega (arith, here.1, number_from rule bad.0))
dependency_from rs at faults.OutOfMemory bad less = absurd bad

pub dependency_begin : (rs : List Record) (at : ℕ) (listed : List CheckFault) → ListsPhase 4 rs (at, 0) listed → ListsPhase 4 rs (at, 40) listed
dependency_begin rs at listed lists = lists_on name_place (IsPhaseFault 4 rs) (at, 0) (at, 40) listed lists (before_number at 40) (dependency_from rs at)

pub id_end : (rs : List Record) (at : ℕ) (listed : List CheckFault) → ListsPhase 3 rs (at, 33) listed → ListsPhase 3 rs (at + 1, 0) listed
id_end rs at listed lists = lists_on name_place (IsPhaseFault 3 rs) (at, 33) (at + 1, 0) listed lists (below_end at 33) (id_before rs at)

pub dependency_end : (rs : List Record) (at : ℕ) (listed : List CheckFault) → ListsPhase 4 rs (at, 47) listed → ListsPhase 4 rs (at + 1, 0) listed
dependency_end rs at listed lists = lists_on name_place (IsPhaseFault 4 rs) (at, 47) (at + 1, 0) listed lists (below_end at 47) (dependency_before rs at)

phase_inside : (ph : ℕ) (rs : List Record) (n : ℕ) → length rs ≤ n → (other : CheckFault) → IsPhaseFault ph rs other → IsBefore (name_place other) (n, 0)
phase_inside ph rs n long (faults.Broken at rule) bad = inl (omega (arith, broken_inside rs rule at bad.1))
phase_inside ph rs n long faults.OutOfMemory bad = absurd bad

pub phase_all : (ph : ℕ) (rs : List Record) (n : ℕ) (listed : List CheckFault) → length rs ≤ n → ListsPhase ph rs (n, 0) listed → ListsAll name_place (IsPhaseFault ph rs) listed
phase_all ph rs n listed long lists = lists_all name_place (IsPhaseFault ph rs) (n, 0) listed lists (phase_inside ph rs n long)

-- ---- the first rule that one request breaks

id_number_from : (rule : NameRule) → phase rule ≡ 3 → 30 ≤ number rule
id_number_from rule is = search rules

pub id_before_all : (rs : List Record) (i : ℕ) → NoneBelow number (λ rule. BreaksIn 3 rs rule i) 30
id_before_all rs i other less broken = omega (arith, less, id_number_from other broken.0)

pub id_unbroken : (rs : List Record) (i k : ℕ) → k < 3 → ¬ BreaksIn 3 rs (id_rule k) i → NoneBelow number (λ rule. BreaksIn 3 rs rule i) (30 + k) → NoneBelow number (λ rule. BreaksIn 3 rs rule i) (30 + (k + 1))
id_unbroken rs i k less = none_more number (λ rule. BreaksIn 3 rs rule i) same_rule 30 k (id_rule k) (id_number k less)

pub id_least : (rs : List Record) (i k : ℕ) → k < 3 → BreaksIn 3 rs (id_rule k) i → NoneBelow number (λ rule. BreaksIn 3 rs rule i) (30 + k) → BreaksFirst 3 rs i (id_rule k)
id_least rs i k less = least_at number (λ rule. BreaksIn 3 rs rule i) (30 + k) (id_rule k) (id_number k less)

pub id_none : (rs : List Record) (i : ℕ) → NoneBelow number (λ rule. BreaksIn 3 rs rule i) 33 → BreaksNone 3 rs i
id_none rs i none rule broken = none rule (id_number_within rule broken.0) broken

pub dependency_before_all : (rs : List Record) (i : ℕ) → NoneBelow number (λ rule. BreaksIn 4 rs rule i) 40
dependency_before_all rs i other less broken = omega (arith, less, number_from other broken.0)

pub dependency_unbroken : (rs : List Record) (i k : ℕ) → k < 7 → ¬ BreaksIn 4 rs (dependency_rule k) i → NoneBelow number (λ rule. BreaksIn 4 rs rule i) (40 + k) → NoneBelow number (λ rule. BreaksIn 4 rs rule i) (40 + (k + 1))
dependency_unbroken rs i k less = none_more number (λ rule. BreaksIn 4 rs rule i) same_rule 40 k (dependency_rule k) (dependency_number k less)

pub dependency_least : (rs : List Record) (i k : ℕ) → k < 7 → BreaksIn 4 rs (dependency_rule k) i → NoneBelow number (λ rule. BreaksIn 4 rs rule i) (40 + k) → BreaksFirst 4 rs i (dependency_rule k)
dependency_least rs i k less = least_at number (λ rule. BreaksIn 4 rs rule i) (40 + k) (dependency_rule k) (dependency_number k less)

pub dependency_none : (rs : List Record) (i : ℕ) → NoneBelow number (λ rule. BreaksIn 4 rs rule i) 47 → BreaksNone 4 rs i
dependency_none rs i none rule broken = none rule (number_within rule) broken

-- ---- both phases

none_earlier : (rs : List Record) (rule : NameRule) → phase rule ≡ 3 → (p : ℕ) → p < phase rule → NoneBroken (BreaksIn p rs)
none_earlier rs rule is p less other i broken = elim (two_phases other) [ inl third ↦ omega (arith, less, is, third, broken.0) | inr fourth ↦ omega (arith, less, is, fourth, broken.0) ]

sound_earlier : (rs : List Record) → HasValidIds rs → (rule : NameRule) → phase rule ≡ 4 → (p : ℕ) → p < phase rule → NoneBroken (BreaksIn p rs)
sound_earlier rs sound rule is p less other i broken = elim (two_phases other) [ inl third ↦ sound other i (third, broken.1) | inr fourth ↦ omega (arith, less, is, fourth, broken.0) ]

-- a batch with faults of ids and groups has these faults alone
pub ids_all : (rs : List Record) (listed : List CheckFault) → ¬ (listed ≡ []) → ListsAll name_place (IsPhaseFault 3 rs) listed → AreNameFaults rs listed
ids_all rs [] some lists = absurd (some refl)
ids_all rs (first ∷ rest) some lists = record { exact = exact; ordered = lists.ordered }
  where
    stops : (fault : CheckFault) → IsPhaseFault 3 rs fault → ¬ HasValidIds rs
    stops (faults.Broken at rule) bad sound = sound rule at bad
    stops faults.OutOfMemory bad sound = bad

    in_phase : (rule : NameRule) (at : ℕ) → IsNameFault rs (faults.Broken at rule) → phase rule ≡ 3
    in_phase rule at bad = elim (two_phases rule) [
      | inl third ↦ third
      | inr fourth ↦ absurd (stops first ((lists.exact first).0 (Contains-head first rest)) (bad.0 3 (omega (arith, fourth))))
    ]

    exact : (fault : CheckFault) → Contains (first ∷ rest) fault ↔ IsNameFault rs fault
    exact (faults.Broken at rule) = (
      λ h. let bad = (lists.exact (faults.Broken at rule)).0 h in (none_earlier rs rule bad.0, bad.1),
      λ bad. (lists.exact (faults.Broken at rule)).1 (in_phase rule at bad, bad.1),
    )
    exact faults.OutOfMemory = lists.exact faults.OutOfMemory

pub ids_none : (rs : List Record) → ListsAll name_place (IsPhaseFault 3 rs) [] → HasValidIds rs
ids_none rs lists rule at broken = contains_none name_place (IsPhaseFault 3 rs) (faults.Broken at rule) ((lists.exact (faults.Broken at rule)).1 broken)

-- and else those of dependencies and references
pub dependencies_all : (rs : List Record) (listed : List CheckFault) → HasValidIds rs → ListsAll name_place (IsPhaseFault 4 rs) listed → AreNameFaults rs listed
dependencies_all rs listed sound lists = record { exact = exact; ordered = lists.ordered }
  where
    in_phase : (rule : NameRule) (at : ℕ) → IsBrokenAt rule rs at → phase rule ≡ 4
    in_phase rule at broken = elim (two_phases rule) [ inl third ↦ absurd (sound rule at (third, broken)) | inr fourth ↦ fourth ]

    exact : (fault : CheckFault) → Contains listed fault ↔ IsNameFault rs fault
    exact (faults.Broken at rule) = (
      λ h. let bad = (lists.exact (faults.Broken at rule)).0 h in (sound_earlier rs sound rule bad.0, bad.1),
      λ bad. (lists.exact (faults.Broken at rule)).1 (in_phase rule at bad.1, bad.1),
    )
    exact faults.OutOfMemory = lists.exact faults.OutOfMemory

-- ---- the list and the fault that is reported

never_good : (rs : List Record) (fault : CheckFault) → IsNameFault rs fault → ¬ HasGoodNames rs
never_good rs (faults.Broken at rule) bad good = good rule at bad.1
never_good rs faults.OutOfMemory bad good = bad

good_from_none : (rs : List Record) → AreNameFaults rs [] → HasGoodNames rs
good_from_none rs lists =
    let none : (fault : CheckFault) → ¬ IsNameFault rs fault = λ fault bad. contains_none name_place (IsNameFault rs) fault ((lists.exact fault).1 bad) in
    let ids : HasValidIds rs = λ rule at broken. none (faults.Broken at rule) (none_earlier rs rule broken.0, broken.1) in
    λ rule at broken. elim (two_phases rule) [
      | inl third ↦ ids rule at (third, broken)
      | inr fourth ↦ none (faults.Broken at rule) (sound_earlier rs ids rule fourth, broken)
    ]

pub name_none : (rs : List Record) (listed : List CheckFault) → AreNameFaults rs listed → (listed ≡ []) ↔ HasGoodNames rs
name_none rs [] lists = (λ e. good_from_none rs lists, λ good. refl)
name_none rs (first ∷ rest) lists = (λ e. absurd (cc (e)), λ good. absurd (never_good rs first ((lists.exact first).0 (Contains-head first rest)) good))

name_least : (rs : List Record) (fault : CheckFault) → IsNameFault rs fault → ((other : CheckFault) → IsNameFault rs other → ¬ IsBefore (name_place other) (name_place fault)) → RefusesNames fault rs
name_least rs (faults.Broken at rule) bad least = record {
  earlier = bad.0;
  first = record {
    here = record { broken = (refl, bad.1); least = λ other less broken. least (faults.Broken at other) (subst (λ p. (q : ℕ) → q < p → NoneBroken (BreaksIn q rs)) (sym broken.0) bad.0, broken.1) (inr (refl, less)) };
    before = λ other i less broken. least (faults.Broken i other) (subst (λ p. (q : ℕ) → q < p → NoneBroken (BreaksIn q rs)) (sym broken.0) bad.0, broken.1) (inl less);
  };
}
name_least rs faults.OutOfMemory bad least = tt

pub name_first : (rs : List Record) (listed : List CheckFault) → AreNameFaults rs listed → IfSome (slice_get listed 0) (λ fault. RefusesNames fault rs)
name_first rs [] lists = tt
name_first rs (first ∷ rest) lists = name_least rs first ((lists.exact first).0 (Contains-head first rest)) (λ other bad. first_least name_place (IsNameFault rs) first rest other lists bad)

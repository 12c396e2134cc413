-- The walk over the requests: the names of each, and its least fault.
use Rattle.std.proofs.Common.{◌≡◌, ◌<◌, ◌+◌, ◌⊎◌, ℕ, Bool, true, false, append-nil, List, [], ◌∷◌, ◌++◌, Option, Some, None, refl, sym, ap, ◌∙◌, subst, inl, inr, arith, length, take, get_or, rules}
use Rattle.std.specs.Borrow.{Bor}
use Rattle.std.specs.Prelude.{Contains, Result, Ok, Err, IfErr, IsErrAnd}
use Rattle.std.specs.List.{filter_map, cons_option}
use Rattle.std.proofs.lemmas.List.{get_or-map, length-map, map-append, take_more}
use Rattle.std.proofs.lemmas.Bool.{false≢true}
use Rattle.std.proofs.lemmas.Option.{slice_get_cases}
use Rattle.std.proofs.lemmas.List.Elements.{filter_map-append, Contains-push_cases, Contains-get_or}
use Rattle.odb_doc.specs.LeastRules.{IsFirst}
use Rattle.odb_doc.proofs.OneLeast.{by_phase}
use Rattle.odb_doc.specs.Names.{texts_in}
use Rattle.odb_doc.specs.batch.Records.{Record}
use Rattle.odb_check.specs.FaultTable.{CheckFault, number, phase}
use Rattle.odb_doc.specs.declared.rule_fault.RuleFault.TheVariants as faults
use Rattle.odb_check.specs.declared.fault.NameRule.{NameRule}
use Rattle.odb_check.specs.declared.fault.NameRule.TheVariants.{UnknownName}
use Rattle.odb_check.specs.declared.need.Need.{Need}
use Rattle.odb_check.specs.LeastNameFault.{HasGoodNames, RefusesNames}
use Rattle.odb_check.specs.Marks.{ones_with, groups_with, AreMarksOf}
use Rattle.odb_check.specs.NameFaults.{IsBrokenAt}
use Rattle.odb_check.specs.Needs.{need_of, further_names, needs_at}
use Rattle.odb_check.specs.Positions.{names_at, reference_at}
use Rattle.odb_check.specs.Walks.{BreaksIn, FailsAt, HasValidIds, further_needs, named_at}
use Rattle.odb_check.proofs.AnyLemmas.{Contains-none}
use Rattle.odb_check.proofs.MarkLemmas.{marks_more}
use Rattle.odb_check.proofs.NameLemmas.{meant_known, unknown}
use Rattle.odb_check.proofs.NeedLemmas.{is_meant, need_within}

-- the error of a `?` that keeps its type
pub same_error : {T : Type 0} (r : Result T CheckFault) (P : CheckFault → Type 0) (fault : CheckFault) → IsErrAnd r (λ e. e ≡ fault) → P fault → IfErr r P
same_error (Ok v) P fault is holds = absurd is
same_error (Err e) P fault is holds = subst P (sym is) holds

-- whether one of some names is unknown; the list is what they resolve to, and this has the stamp
pub record AreResolved (rs : List Record) (names : List (List ℕ)) (has_unknown : Bool) (stamp : ℕ) (list : List Need) (ones groups : List ℕ) : Type 0 where
  pub known : has_unknown ≡ false → (name : List ℕ) → Contains names name → ¬ (need_of rs name ≡ None)
  pub list_is : list ≡ filter_map (need_of rs) names
  pub marked : AreMarksOf rs (filter_map (need_of rs) names) stamp ones groups

-- one more name, from what each call ensures
pub names_more : (rs : List Record) (names : List (Bor (List ℕ))) (k : ℕ) (d : Bor (List ℕ)) (need : Need) {has_unknown : Bool} (stamp : ℕ) {list list' : List Need} {ones ones' groups groups' : List ℕ}
    → k < length names → Some need ≡ need_of rs (get_or names k d).now
    → AreResolved rs (texts_in (take k names)) has_unknown stamp list ones groups
    → list' ≡ list ++ need ∷ [] → ones' ≡ ones_with need stamp ones → groups' ≡ groups_with need stamp groups
    → AreResolved rs (texts_in (take (k + 1) names)) has_unknown stamp list' ones' groups'
names_more rs names k d need {has_unknown} stamp {list} {list'} {ones} {ones'} {groups} {groups'} inside means are list_is ones_are groups_are =
    let texts = texts_in (take k names) in
    let name = (get_or names k d).now in
    let named = filter_map (need_of rs) texts in
    let next : texts_in (take (k + 1) names) ≡ texts ++ name ∷ [] = ap texts_in (take_more names k d inside) ∙ map-append (λ (x : Bor (List ℕ)). x.now) (take k names) (get_or names k d ∷ []) in
    let more : filter_map (need_of rs) (texts ++ name ∷ []) ≡ named ++ need ∷ [] = filter_map-append (need_of rs) texts (name ∷ []) ∙ ap (λ o. named ++ cons_option o []) (sym means) in
    rw next (record {
      known = λ all other h. elim (Contains-push_cases texts name other h) [
        | inl earlier ↦ are.known all other earlier
        | inr same ↦ λ e. let nothing : Some need ≡ None = means ∙ ap (need_of rs) same ∙ e in cc
      ];
      list_is = list_is ∙ ap (λ xs. xs ++ need ∷ []) are.list_is ∙ sym more;
      marked = rw (more, ones_are, groups_are) (marks_more rs named need stamp ones groups (need_within rs name need (sym means)) are.marked);
    })

-- one more name, which resolves to nothing
pub names_past : (rs : List Record) (names : List (Bor (List ℕ))) (k : ℕ) (d : Bor (List ℕ)) {has_unknown : Bool} (stamp : ℕ) {list : List Need} {ones groups : List ℕ}
    → k < length names → None ≡ need_of rs (get_or names k d).now
    → AreResolved rs (texts_in (take k names)) has_unknown stamp list ones groups
    → AreResolved rs (texts_in (take (k + 1) names)) true stamp list ones groups
names_past rs names k d {has_unknown} stamp {list} {ones} {groups} inside nothing are =
    let texts = texts_in (take k names) in
    let name = (get_or names k d).now in
    let next : texts_in (take (k + 1) names) ≡ texts ++ name ∷ [] = ap texts_in (take_more names k d inside) ∙ map-append (λ (x : Bor (List ℕ)). x.now) (take k names) (get_or names k d ∷ []) in
    let same : filter_map (need_of rs) (texts ++ name ∷ []) ≡ filter_map (need_of rs) texts =
    filter_map-append (need_of rs) texts (name ∷ []) ∙ ap (λ o. filter_map (need_of rs) texts ++ cons_option o []) (sym nothing) ∙ append-nil (filter_map (need_of rs) texts) in
    rw next (record { known = λ all. absurd (false≢true (sym all)); list_is = are.list_is ∙ sym same; marked = rw same are.marked })

-- a name that resolves to nothing is unknown
pub name_unknown : (rs : List Record) (i : ℕ) (names : List (Bor (List ℕ))) (k : ℕ) (d : Bor (List ℕ)) → texts_in names ≡ names_at rs i → k < length names → None ≡ need_of rs (get_or names k d).now → IsBrokenAt UnknownName rs i
name_unknown rs i names k d are within nothing =
    let listed : Contains (texts_in names) (get_or names k d).now =
    subst (Contains (texts_in names)) (get_or-map (λ (x : Bor (List ℕ)). x.now) names k d [] within) (Contains-get_or (texts_in names) k [] (omega (arith, length-map names (λ (x : Bor (List ℕ)). x.now)))) in
    unknown rs i (get_or names k d).now (subst (λ xs. Contains xs (get_or names k d).now) are listed) (sym nothing)

-- names that resolve to something are not unknown
pub names_known : (rs : List Record) (i : ℕ) → ((name : List ℕ) → Contains (names_at rs i) name → ¬ (need_of rs name ≡ None)) → ¬ IsBrokenAt UnknownName rs i
names_known rs i known h = by_meaning (need_of rs h.name) refl
  where
    by_meaning : (found : Option Need) → need_of rs h.name ≡ found → ⊥
    by_meaning None e = known h.name h.listed e
    by_meaning (Some need) e = meant_known rs h.name need (is_meant rs h.name need e) h.holds.0 h.holds.1

-- what the names resolve to, and then what the reference adds
pub needs_are : (rs : List Record) (i : ℕ) (named further : List Need) → named ≡ named_at rs i → further_needs rs i ≡ further → named ++ further ≡ needs_at rs i
needs_are rs i named further first second =
    ap (λ xs. xs ++ further) first ∙ ap (λ xs. named_at rs i ++ xs) (sym second) ∙ sym (filter_map-append (need_of rs) (names_at rs i) (further_names (names_at rs i) (reference_at rs i)))

-- ---- the first fault is the least

pub two_phases : (rule : NameRule) → (phase rule ≡ 3) ⊎ (phase rule ≡ 4)
two_phases rule = search rules

pub broken_inside : (rs : List Record) (rule : NameRule) (i : ℕ) → IsBrokenAt rule rs i → i < length rs
broken_inside rs rule i h = grind (arith, slice_get_cases rs i, Contains-none)

pub names_refused : (rs : List Record) (i : ℕ) → HasValidIds rs → ((rule : NameRule) (k : ℕ) → k < i → ¬ BreaksIn 4 rs rule k) → (fault : CheckFault) → FailsAt 4 rs i fault → RefusesNames fault rs
names_refused rs i sound before faults.OutOfMemory fails = tt
names_refused rs i sound before (faults.Broken at_place rule) fails =
    by_phase phase number (λ r k. IsBrokenAt r rs k) 4 at_place rule
    (λ ph less other j broken. elim (two_phases other) [ inl third ↦ sound other j (third, broken.1) | inr fourth ↦ omega (arith, less, fourth, broken.0) ])
    (subst (λ k. IsFirst number (BreaksIn 4 rs) k rule) (sym fails.0) (record { here = fails.1; before = before }))

pub all_good : (rs : List Record) → HasValidIds rs → ((rule : NameRule) (k : ℕ) → k < length rs → ¬ BreaksIn 4 rs rule k) → HasGoodNames rs
all_good rs sound none rule i broken_here = elim (two_phases rule) [ inl third ↦ sound rule i (third, broken_here) | inr fourth ↦ none rule i (broken_inside rs rule i broken_here) (fourth, broken_here) ]

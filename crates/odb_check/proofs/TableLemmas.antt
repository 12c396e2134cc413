-- One more request in the tables.
use Rattle.std.proofs.Common.{◌≡◌, ◌≢◌, ◌≤◌, ◌<◌, ◌+◌, ℕ, suc, Bool, true, false, cond, List, [], ◌∷◌, ◌++◌, Option, Some, None, refl, sym, ap, ◌∙◌, subst, inl, inr, arith, length, length-append}
use Rattle.std.specs.Prelude.{◌==◌, IsSomeAnd, slice_get, slice_index, option_map, option_and_then, unwrap_or, is_some, bytes_eq}
use Rattle.std.specs.List.{IsDistinct, list_any}
use Rattle.std.proofs.lemmas.Bool.{both_ways, cases_Bool, cases_lt, eq-eqb, ne_eqb}
use Rattle.std.proofs.lemmas.List.{get_or_append_left, get_or_push}
use Rattle.std.proofs.lemmas.Option.{slice_get_within}
use Rattle.std.proofs.lemmas.Slice.Eq.{bytes_eq-Decides}
use Rattle.odb_doc.specs.batch.Records.{Record}
use Rattle.odb_check.specs.declared.table.Table.{Table}
use Rattle.odb_check.specs.Firsts.{or_else, is_text, first_below, list_below}
use Rattle.odb_check.specs.declared.fault.NameRule.TheVariants.{IdTwice}
use Rattle.odb_check.specs.NameFaults.{IsBrokenAt}
use Rattle.odb_check.specs.Positions.{id_at, group_at, names_at, IsIdBefore}
use Rattle.odb_check.specs.Tables.{AreIdsDistinct, AreTablesOf, IsStartOf, at_text, more_with, table_len, unit_among, groups_below, with_group}
use Rattle.odb_check.specs.Units.{first_id, first_in_group, begins_unit, units_before, begin_in, unit_begin, unit_at}
use Rattle.odb_check.proofs.GroupLemmas.{any-groups_below, length-groups_below, length-with}
use Rattle.odb_check.proofs.FirstLemmas.{below_more, count_few, count_less}
use Rattle.odb_check.proofs.PositionLemmas.{text_Decides, text_none}
use Rattle.odb_check.proofs.UnitLemmas.{BeginsAt, unit_begins, unit_at_begin}

-- where units begin, with one more request
pub record AreStarts (rs : List Record) (n : ℕ) (starts : List ℕ) : Type 0 where
  pub count : length starts ≡ units_before rs n
  pub starts_are : (u : ℕ) → u < units_before rs n → IsStartOf rs u (slice_index starts u)

next_start : (rs : List Record) (i : ℕ) (starts : List ℕ) → i < length rs → AreStarts rs i starts → AreStarts rs (suc i) (cond (unit_at rs i == length starts) (starts ++ i ∷ []) starts)
next_start rs i starts inside are =
    elim (cases_Bool (begins_unit rs i)) [
      | inl begins ↦
          let same : (unit_at rs i == length starts) ≡ true = eq-eqb (unit_at rs i) (length starts) (unit_at_begin rs i begins ∙ sym are.count) in
          let count : units_before rs (suc i) ≡ suc (units_before rs i) = rw begins refl in
          rw same (record {
            count = omega (arith, are.count, length-append starts (i ∷ []));
            starts_are = λ u less. elim (cases_lt u (length starts)) [
              | inl before ↦ subst (IsStartOf rs u) (sym (get_or_append_left starts (i ∷ []) 0 u before)) (are.starts_are u (omega (arith, are.count)))
              | inr last ↦ subst (IsStartOf rs u) (sym (get_or_push starts i 0 u (omega (arith, are.count)))) (record { within = inside; begins = begins; number = omega (arith, are.count) })
            ];
          })
      | inr not_begins ↦
          let at_begin : BeginsAt rs i (unit_begin rs i) = unit_begins rs i in
          let earlier : unit_begin rs i ≢ i = λ e. both_ways (begins_unit rs i) not_begins (subst (λ j. begins_unit rs j ≡ true) e at_begin.begins) in
          let before : unit_at rs i < units_before rs i = count_less (begins_unit rs) (unit_begin rs i) i at_begin.begins (omega (arith, at_begin.upto)) in
          let other : (unit_at rs i == length starts) ≡ false = ne_eqb (unit_at rs i) (length starts) (λ e. omega (arith, are.count)) in
          let count : units_before rs (suc i) ≡ units_before rs i = rw not_begins refl in
          rw other (record { count = are.count ∙ sym count; starts_are = λ u less. are.starts_are u (omega arith) })
    ]

-- the unit of the next position, by the tables
unit_among_is : (rs : List Record) (i next : ℕ) (groups : Table) → ((q : List ℕ) → at_text groups q ≡ option_map (units_before rs) (first_in_group rs i q))
    → next ≡ units_before rs i → (group : Option (List ℕ)) → unit_among groups group next ≡ units_before rs (begin_in rs i group)
unit_among_is rs i next groups are e None = e
unit_among_is rs i next groups are e (Some group) =
    ap (λ o. unwrap_or o next) (are group) ∙ elim (first_in_group rs i group) as (λ o. unwrap_or (option_map (units_before rs) o) next ≡ units_before rs (unwrap_or o i)) [ None ↦ e | Some b ↦ refl ]

next_group : (rs : List Record) (i unit : ℕ) (q : List ℕ) → unit ≡ unit_at rs i → (found : Option ℕ) → first_in_group rs i q ≡ found → (v : Bool) → is_text q (group_at rs i) ≡ v
    → or_else (option_map (units_before rs) found) (cond v (Some unit) None) ≡ option_map (units_before rs) (or_else found (cond v (Some i) None))
next_group rs i unit q e None none true here = ap Some (e ∙ ap (units_before rs) (ap (begin_in rs i) ((text_Decides q (group_at rs i)).0 here) ∙ ap (λ o. unwrap_or o i) none))
next_group rs i unit q e None none false here = refl
next_group rs i unit q e (Some b) first v here = refl

-- how many groups there are with that of the next request
next_group_count : (rs : List Record) (i : ℕ) (groups : Table) → ((q : List ℕ) → at_text groups q ≡ option_map (units_before rs) (first_in_group rs i q)) → (group : Option (List ℕ))
    → length (with_group (groups_below rs i) group) ≡ length (groups_below rs i) + more_with groups group
next_group_count rs i groups are None = omega arith
next_group_count rs i groups are (Some group) =
    let known : list_any (bytes_eq group) (groups_below rs i) ≡ is_some (at_text groups group) =
    any-groups_below rs i group ∙ elim (first_in_group rs i group) as (λ o. is_some o ≡ is_some (option_map (units_before rs) o)) [ None ↦ refl | Some b ↦ refl ] ∙ ap (λ o. is_some o) (sym (are group)) in
    length-with (list_any (bytes_eq group) (groups_below rs i)) (groups_below rs i) group ∙ ap (λ b. length (groups_below rs i) + cond b 0 1) known

-- the tables with one more request, from what each call ensures
pub tables_more : (rs : List Record) (i : ℕ) (r : Record) (ids ids' groups groups' : Table) (units starts units' starts' : List ℕ) (unit : ℕ)
    → slice_get rs i ≡ Some r
    → IsDistinct bytes_eq r.names
    → AreTablesOf rs i ids groups units starts
    → unit ≡ unit_among groups r.group (length starts)
    → ((q : List ℕ) → at_text ids' q ≡ or_else (at_text ids q) (cond (bytes_eq q r.id) (Some i) None))
    → ((q : List ℕ) → at_text groups' q ≡ or_else (at_text groups q) (cond (is_text q r.group) (Some unit) None))
    → table_len groups' ≡ table_len groups + more_with groups r.group
    → starts' ≡ cond (unit == length starts) (starts ++ i ∷ []) starts
    → units' ≡ units ++ unit ∷ []
    → AreTablesOf rs (suc i) ids' groups' units' starts'
tables_more rs i r ids ids' groups groups' units starts units' starts' unit here apart tables among ids_go groups_go groups_more starts_go units_go =
    let id_is : id_at rs i ≡ Some r.id = ap (λ o. option_map (λ x. x.id) o) here in
    let group_is : group_at rs i ≡ r.group = ap (λ o. option_and_then (λ x. x.group) o) here in
    let unit_is : unit ≡ unit_at rs i = among ∙ unit_among_is rs i (length starts) groups tables.groups_are tables.count r.group ∙ ap (λ g. units_before rs (begin_in rs i g)) (sym group_is) in
    let starts_unit : starts' ≡ cond (unit_at rs i == length starts) (starts ++ i ∷ []) starts = starts_go ∙ ap (λ u. cond (u == length starts) (starts ++ i ∷ []) starts) unit_is in
    let starts_next : AreStarts rs (suc i) starts' = subst (AreStarts rs (suc i)) (sym starts_unit) (next_start rs i starts (slice_get_within rs i r here) (record { count = tables.count; starts_are = tables.starts_are })) in
    let groups_next : table_len groups' ≡ length (groups_below rs (suc i)) =
    groups_more ∙ ap (λ n. n + more_with groups r.group) tables.groups_count ∙ sym (next_group_count rs i groups tables.groups_are r.group)
    ∙ ap (λ g. length (with_group (groups_below rs i) g)) (sym group_is) in
    record {
      groups_count = groups_next;
      groups_few = subst (λ n. n ≤ suc i) (sym groups_next) (length-groups_below rs (suc i));
      ids_are = λ q. ids_go q ∙ ap (λ o. or_else o (cond (bytes_eq q r.id) (Some i) None)) (tables.ids_are q)
          ∙ ap (λ o. or_else (first_below i (λ j. is_text q (id_at rs j))) (cond (is_text q o) (Some i) None)) (sym id_is);
      groups_are = λ q. groups_go q ∙ ap (λ o. or_else o (cond (is_text q r.group) (Some unit) None)) (tables.groups_are q)
          ∙ ap (λ o. or_else (option_map (units_before rs) (first_in_group rs i q)) (cond (is_text q o) (Some unit) None)) (sym group_is)
          ∙ next_group rs i unit q unit_is (first_in_group rs i q) refl (is_text q (group_at rs i)) refl;
      units_are = units_go ∙ ap (λ xs. xs ++ unit ∷ []) tables.units_are ∙ ap (λ u. list_below i (unit_at rs) ++ u ∷ []) unit_is;
      starts_are = starts_next.starts_are;
      count = starts_next.count;
      few = omega (arith, starts_next.count, count_few (suc i) (begins_unit rs));
      names_apart = below_more i (λ k. IsDistinct bytes_eq (names_at rs k)) tables.names_apart (subst (IsDistinct bytes_eq) (sym (ap (λ o. unwrap_or (option_map (λ x. x.names) o) []) here)) apart);
    }

-- one more request, whose identifier is new
pub apart_more : (rs : List Record) (i : ℕ) (r : Record) (ids : Table) → slice_get rs i ≡ Some r → ((q : List ℕ) → at_text ids q ≡ first_id rs i q) → at_text ids r.id ≡ None → AreIdsDistinct rs i → AreIdsDistinct rs (suc i)
apart_more rs i r ids here are new before = below_more i (λ k. ¬ IsBrokenAt IdTwice rs k) before last
  where
    last : ¬ IsBrokenAt IdTwice rs i
    last broken =
        let id_is : id_at rs i ≡ Some r.id = ap (λ o. option_map (λ x. x.id) o) here in
        let twice : IsIdBefore rs r.id i = subst (λ o. IsSomeAnd o (λ id. IsIdBefore rs id i)) id_is broken in
        text_none (id_at rs) r.id i (sym (are r.id) ∙ new) twice.0 twice.1 twice.2

-- a group whose unit is not the next one is in the table
known : (groups : Table) (name : List ℕ) (unit next : ℕ) → unit ≡ unit_among groups (Some name) next → unit ≢ next → at_text groups name ≢ None
known groups name unit next is other none = other (is ∙ ap (λ o. unwrap_or o next) none)

-- so the table needs no text more
pub kept_len : (groups : Table) (name : List ℕ) (unit next : ℕ) → unit ≡ unit_among groups (Some name) next → unit ≢ next → table_len groups ≡ table_len groups + more_with groups (Some name)
kept_len groups name unit next is other = by (at_text groups name) refl
  where
    by : (found : Option ℕ) → at_text groups name ≡ found → table_len groups ≡ table_len groups + more_with groups (Some name)
    by None none = absurd (known groups name unit next is other none)
    by (Some at) some = let none_more : more_with groups (Some name) ≡ 0 = ap (λ o. cond (is_some o) 0 1) some in omega arith

-- and each text keeps its number
pub kept_texts : (groups : Table) (name : List ℕ) (unit next : ℕ) → unit ≡ unit_among groups (Some name) next → unit ≢ next → (q : List ℕ) → at_text groups q ≡ or_else (at_text groups q) (cond (bytes_eq q name) (Some unit) None)
kept_texts groups name unit next is other q = by (at_text groups q) refl
  where
    by : (found : Option ℕ) → at_text groups q ≡ found → at_text groups q ≡ or_else (at_text groups q) (cond (bytes_eq q name) (Some unit) None)
    by (Some at) some = some ∙ ap (λ o. or_else o (cond (bytes_eq q name) (Some unit) None)) (sym some)
    by None none = none ∙ (sym (out (bytes_eq q name) refl) ∙ ap (λ o. or_else o (cond (bytes_eq q name) (Some unit) None)) (sym none))
      where
        out : (same : Bool) → bytes_eq q name ≡ same → cond (bytes_eq q name) (Some unit) None ≡ None
        out true equal = absurd (known groups name unit next is other (ap (at_text groups) (sym ((bytes_eq-Decides q name).0 equal)) ∙ none))
        out false other_text = ap (λ b. cond b (Some unit) None) other_text

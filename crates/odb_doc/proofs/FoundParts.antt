-- One pass over the object of an outcome finds its members.
use Rattle.std.proofs.Common.{◌≡◌, ◌∙◌, ◌||◌, ℕ, Bool, true, false, not, cond, Option, Some, List, [], ◌∷◌, ◌++◌, bytes_eq, codes, string_bytes, option_and_then, refl, ap, sym}
use Rattle.std.specs.List.Sorted.{IsStrictlySortedBy}
use Rattle.std.specs.Map.{keys_of}
use Rattle.std.specs.String.{string_cmp}
use Rattle.std.proofs.lemmas.Bool.{false≢true}
use Rattle.std.proofs.lemmas.Cmp.{nat_list_eq_equiv}
use Rattle.serde_json.specs.Data.{Data, object}
use Rattle.serde_json.specs.Find.{as_number, as_str, get_member}
use Rattle.serde_json.specs.View.{view, members_view}
use Rattle.odb_doc.specs.declared.member.Object.{Object}
use Rattle.odb_doc.specs.declared.member.Object.TheVariants.{Outcomes, Outcome, Events, Start, Report}
use Rattle.odb_doc.specs.declared.recorded.outcome.Parts.{Parts}
use Rattle.odb_doc.specs.HeaderMaps.{Entry}
use Rattle.odb_doc.specs.Members.{is_other, members_of, outcome_names}
use Rattle.odb_doc.specs.recorded.RawOutcomes.{AreFoundIn, PutsPart}
use Rattle.odb_doc.proofs.FoundLemmas.{IsNew, any-push, get_member-push, new_from_order}

then_step : {X : Type 0} (f : Data → Option X) (b : Bool) (d : Data) (o : Option Data) → option_and_then f (cond b (Some d) o) ≡ cond b (f d) (option_and_then f o)
then_step f true d o = refl
then_step f false d o = refl

-- what one member more makes of a value of some type
then_more : {X : Type 0} (f : Data → Option X) (name : List ℕ) (es : List Entry) (e : Entry) → IsNew (string_bytes e.0) es
    → option_and_then f (get_member name (members_view (es ++ e ∷ []))) ≡ cond (bytes_eq name (string_bytes e.0)) (f (view e.1)) (option_and_then f (get_member name (members_view es)))
then_more f name es e is_new = ap (option_and_then f) (get_member-push name es e is_new) ∙ then_step f (bytes_eq name (string_bytes e.0)) (view e.1) (get_member name (members_view es))

pub parts_more : (kind : Object) (name : List ℕ) (es : List Entry) (e : Entry) (rest : List Entry) (old new : Parts) → IsStrictlySortedBy string_cmp (keys_of (es ++ e ∷ rest))
    → AreFoundIn kind name (object (members_view es)) old → PutsPart kind name (string_bytes e.0) (view e.1) old new → AreFoundIn kind name (object (members_view (es ++ e ∷ []))) new
parts_more kind name es e rest old new ordered before put =
    let key = string_bytes e.0 in
    let d = view e.1 in
    let is_new = new_from_order es e rest ordered in record {
      other = put.other ∙ ap (λ b. b || is_other (members_of kind) key) before.other ∙ sym (any-push (is_other (members_of kind)) es e);
      id = put.id ∙ ap (λ o. cond (bytes_eq name key) (as_str d) o) before.id ∙ sym (then_more as_str name es e is_new);
      status = put.status ∙ ap (λ o. cond (bytes_eq (codes "status") key) (as_number d) o) before.status ∙ sym (then_more as_number (codes "status") es e is_new);
      headers = put.headers ∙ ap (λ o. cond (bytes_eq (codes "headers") key) (Some d) o) before.headers ∙ sym (get_member-push (codes "headers") es e is_new);
      body = put.body ∙ ap (λ o. cond (bytes_eq (codes "body") key) (Some d) o) before.body ∙ sym (get_member-push (codes "body") es e is_new);
    }

-- a name that is equal to one is none of those that differ from it
pub other_name : (x y z : List ℕ) → bytes_eq x y ≡ true → bytes_eq x z ≡ false → bytes_eq z y ≡ false
other_name x y z same apart = nat_list_eq_equiv.symm z y ∙ sym (nat_list_eq_equiv.congr x y z same) ∙ apart

-- ---- names of an outcome or a report

-- none of these is the name of the id
pub names_apart : (kind : Object) (id_name : List ℕ) → members_of kind ≡ outcome_names id_name
    → (bytes_eq id_name (codes "status") ≡ false) × (bytes_eq id_name (codes "headers") ≡ false) × (bytes_eq id_name (codes "body") ≡ false)
names_apart Outcomes id_name is = absurd (cc (is))
names_apart Outcome id_name is = let same : codes "id" ≡ id_name = cc (is) in rw (← same) (refl, refl, refl)
names_apart Events id_name is = absurd (cc (is))
names_apart Start id_name is = absurd (cc (is))
names_apart Report id_name is = let same : codes "report" ≡ id_name = cc (is) in rw (← same) (refl, refl, refl)

-- a name is another if it is none of the four
abbrev is_none : Bool → Bool → Bool → Bool → Bool
is_none id status headers body = not (id || (status || (headers || (body || false))))

name_tests : (kind : Object) (id_name name : List ℕ) → members_of kind ≡ outcome_names id_name
    → is_other (members_of kind) name ≡ is_none (bytes_eq name id_name) (bytes_eq name (codes "status")) (bytes_eq name (codes "headers")) (bytes_eq name (codes "body"))
name_tests kind id_name name is = ap (λ names. is_other names name) is

known_first : (i s h b : Bool) → i ≡ true → is_none i s h b ≡ false
known_first true s h b is = refl
known_first false s h b is = absurd (false≢true is)

known_second : (i s h b : Bool) → s ≡ true → is_none i s h b ≡ false
known_second true s h b is = refl
known_second false s h b is = known_first s h b false is

known_third : (i s h b : Bool) → h ≡ true → is_none i s h b ≡ false
known_third true s h b is = refl
known_third false s h b is = known_second s h b false is

known_last : (i s h b : Bool) → b ≡ true → is_none i s h b ≡ false
known_last true s h b is = refl
known_last false s h b is = known_third s h b false is

unknown : (i s h b : Bool) → i ≡ false → s ≡ false → h ≡ false → b ≡ false → is_none i s h b ≡ true
unknown i s h b is_i is_s is_h is_b = rw (is_i, is_s, is_h, is_b) refl

kept_flag : (old other : Bool) → other ≡ false → old ≡ (old || other)
kept_flag true other is = refl
kept_flag false other is = sym is

set_flag : (old other : Bool) → other ≡ true → true ≡ (old || other)
set_flag true other is = refl
set_flag false other is = sym is

-- whether there is another name, after one more
module _ (kind : Object) (id_name name : List ℕ) (names : members_of kind ≡ outcome_names id_name) (old : Bool) where
  pub kept_by_id : bytes_eq name id_name ≡ true → old ≡ (old || is_other (members_of kind) name)
  kept_by_id is = kept_flag old _ (name_tests kind id_name name names ∙ known_first (bytes_eq name id_name) (bytes_eq name (codes "status")) (bytes_eq name (codes "headers")) (bytes_eq name (codes "body")) is)

  pub kept_by_status : bytes_eq name (codes "status") ≡ true → old ≡ (old || is_other (members_of kind) name)
  kept_by_status is = kept_flag old _ (name_tests kind id_name name names ∙ known_second (bytes_eq name id_name) (bytes_eq name (codes "status")) (bytes_eq name (codes "headers")) (bytes_eq name (codes "body")) is)

  pub kept_by_headers : bytes_eq name (codes "headers") ≡ true → old ≡ (old || is_other (members_of kind) name)
  kept_by_headers is = kept_flag old _ (name_tests kind id_name name names ∙ known_third (bytes_eq name id_name) (bytes_eq name (codes "status")) (bytes_eq name (codes "headers")) (bytes_eq name (codes "body")) is)

  pub kept_by_body : bytes_eq name (codes "body") ≡ true → old ≡ (old || is_other (members_of kind) name)
  kept_by_body is = kept_flag old _ (name_tests kind id_name name names ∙ known_last (bytes_eq name id_name) (bytes_eq name (codes "status")) (bytes_eq name (codes "headers")) (bytes_eq name (codes "body")) is)

  pub set_by_other : bytes_eq name id_name ≡ false → bytes_eq name (codes "status") ≡ false → bytes_eq name (codes "headers") ≡ false → bytes_eq name (codes "body") ≡ false
      → true ≡ (old || is_other (members_of kind) name)
  set_by_other id status headers body = set_flag old _ (name_tests kind id_name name names ∙ unknown (bytes_eq name id_name) (bytes_eq name (codes "status")) (bytes_eq name (codes "headers")) (bytes_eq name (codes "body")) id status headers body)

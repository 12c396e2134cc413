-- One pass over an object finds the value at each name.
use Rattle.std.proofs.Common.{◌≡◌, ◌∙◌, ◌||◌, ℕ, Bool, true, false, cond, Option, Some, List, [], ◌∷◌, ◌++◌, bytes_eq, codes, string_bytes, refl, ap, sym, subst}
use Rattle.std.specs.declared.cmp.Ordering.{Ordering}
use Rattle.std.specs.declared.cmp.Ordering.TheVariants.{Less, Equal, Greater}
use Rattle.std.specs.Borrow.{Bor}
use Rattle.std.specs.Cmp.Lexicographic.{slice_cmp}
use Rattle.std.specs.List.{AllByRecursion, list_any}
use Rattle.std.specs.List.Sorted.{IsStrictlySortedBy}
use Rattle.std.specs.Map.{keys_of}
use Rattle.std.specs.Ordering.{is_eq, match_ordering, nat_cmp}
use Rattle.std.specs.String.{string_cmp}
use Rattle.std.proofs.lemmas.Cmp.{nat_list_eq_equiv}
use Rattle.std.proofs.lemmas.List.{map-append}
use Rattle.std.proofs.lemmas.Map.Text.{is_eq-slice_cmp}
use Rattle.std.proofs.Math.Bool.{or-false}
use Rattle.serde_json.specs.Data.{Data, object}
use Rattle.serde_json.specs.Find.{get_member}
use Rattle.serde_json.specs.View.{view, members_view}
use Rattle.serde_json.specs.declared.value.Value.{Value}
use Rattle.odb_doc.specs.HeaderMaps.{Entry}
use Rattle.odb_doc.specs.Members.{names_of, is_unknown, request_names}
use Rattle.odb_doc.specs.declared.batch.members.Members.{Members}
use Rattle.odb_doc.specs.batch.MembersFound.{AreMembersOf, PutsMember, put_at, data_of}
use Rattle.odb_doc.proofs.DistinctLemmas.{all_at}

-- ---- a look-up among members, and one member more

by_order : (o : Ordering) (there here : Option Data) → match_ordering o there here there ≡ cond (is_eq o) here there
by_order Less there here = refl
by_order Equal there here = refl
by_order Greater there here = refl

get_member-first : (name : List ℕ) (e : Entry) (es : List Entry) → get_member name (members_view (e ∷ es)) ≡ cond (bytes_eq name (string_bytes e.0)) (Some (view e.1)) (get_member name (members_view es))
get_member-first name e es =
    by_order (slice_cmp nat_cmp name (string_bytes e.0)) (get_member name (members_view es)) (Some (view e.1))
    ∙ ap (λ b. cond b (Some (view e.1)) (get_member name (members_view es))) (is_eq-slice_cmp name (string_bytes e.0))

-- ---- a later name is not among earlier ones

abbrev pub IsNew : List ℕ → List Entry → Type 0
IsNew name es = AllByRecursion (λ e. bytes_eq name (string_bytes e.0) ≡ false) es

pub new_from_order : (es : List Entry) (e : Entry) (rest : List Entry) → IsStrictlySortedBy string_cmp (keys_of (es ++ e ∷ rest)) → IsNew (string_bytes e.0) es
unfolding IsStrictlySortedBy
new_from_order [] e rest ordered = tt
new_from_order (x ∷ es) e rest ordered =
    let below = all_at (λ y. string_cmp x.0 y ≡ Less) (keys_of es) e.0 (keys_of rest) (subst (AllByRecursion (λ y. string_cmp x.0 y ≡ Less)) (map-append (λ (y : Entry). y.0) es (e ∷ rest)) ordered.0) in
    (nat_list_eq_equiv.symm (string_bytes e.0) (string_bytes x.0) ∙ sym (is_eq-slice_cmp (string_bytes x.0) (string_bytes e.0)) ∙ ap is_eq below, new_from_order es e rest ordered.1)

-- ---- one member more

swap_step : (b c : Bool) (d e : Data) (o : Option Data) → (b ≡ true → c ≡ true → ⊥) → cond b (Some d) (cond c (Some e) o) ≡ cond c (Some e) (cond b (Some d) o)
swap_step true true d e o apart = absurd (apart refl refl)
swap_step true false d e o apart = refl
swap_step false c d e o apart = refl

pub get_member-push : (name : List ℕ) (es : List Entry) (e : Entry) → IsNew (string_bytes e.0) es → get_member name (members_view (es ++ e ∷ [])) ≡ cond (bytes_eq name (string_bytes e.0)) (Some (view e.1)) (get_member name (members_view es))
get_member-push name [] e new = get_member-first name e []
get_member-push name (x ∷ es) e new =
    let key = string_bytes e.0 in
    let other = string_bytes x.0 in
    let apart : bytes_eq name other ≡ true → bytes_eq name key ≡ true → ⊥ = λ is same. cc (is, new.0, nat_list_eq_equiv.congr name key other same) in
    get_member-first name x (es ++ e ∷ [])
    ∙ ap (λ o. cond (bytes_eq name other) (Some (view x.1)) o) (get_member-push name es e new.1)
    ∙ swap_step (bytes_eq name other) (bytes_eq name key) (view x.1) (view e.1) (get_member name (members_view es)) apart
    ∙ ap (λ o. cond (bytes_eq name key) (Some (view e.1)) o) (sym (get_member-first name x es))

any_step : (b c d e : Bool) → c ≡ (d || e) → (b || c) ≡ ((b || d) || e)
any_step true c d e is = refl
any_step false c d e is = is

pub any-push : (test : List ℕ → Bool) (es : List Entry) (e : Entry) → list_any test (names_of (members_view (es ++ e ∷ []))) ≡ (list_any test (names_of (members_view es)) || test (string_bytes e.0))
any-push test [] e = or-false (test (string_bytes e.0))
any-push test (x ∷ es) e = any_step (test (string_bytes x.0)) _ _ _ (any-push test es e)

-- ---- the members so far, and one more

place_more : (name : List ℕ) (es : List Entry) (e : Entry) (old new : Option (Bor Value)) → IsNew (string_bytes e.0) es → data_of old ≡ get_member name (members_view es) → data_of new ≡ put_at name (string_bytes e.0) (view e.1) old
    → data_of new ≡ get_member name (members_view (es ++ e ∷ []))
place_more name es e old new is_new before put =
    put ∙ ap (λ o. cond (bytes_eq name (string_bytes e.0)) (Some (view e.1)) o) before ∙ sym (get_member-push name es e is_new)

pub members_more : (es : List Entry) (e : Entry) (rest : List Entry) (old new : Members) → IsStrictlySortedBy string_cmp (keys_of (es ++ e ∷ rest)) → AreMembersOf (object (members_view es)) old
    → PutsMember (string_bytes e.0) (view e.1) old new → AreMembersOf (object (members_view (es ++ e ∷ []))) new
members_more es e rest old new ordered before put =
    let is_new = new_from_order es e rest ordered in record {
      id = place_more (codes "id") es e old.id new.id is_new before.id put.id;
      method = place_more (codes "method") es e old.method new.method is_new before.method put.method;
      url = place_more (codes "url") es e old.url new.url is_new before.url put.url;
      group = place_more (codes "atomicityGroup") es e old.group new.group is_new before.group put.group;
      depends_on = place_more (codes "dependsOn") es e old.depends_on new.depends_on is_new before.depends_on put.depends_on;
      condition = place_more (codes "if") es e old.condition new.condition is_new before.condition put.condition;
      headers = place_more (codes "headers") es e old.headers new.headers is_new before.headers put.headers;
      body = place_more (codes "body") es e old.body new.body is_new before.body put.body;
      unknown =
          put.unknown ∙ ap (λ b. b || is_unknown request_names (string_bytes e.0)) before.unknown
          ∙ sym (any-push (is_unknown request_names) es e);
    }

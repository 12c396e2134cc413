-- The place of a tree whose value decides whether a member of an element is true: it is that member's, and there is only one.
use Rattle.std.proofs.Common.{◌≡◌, ◌∙◌, ℕ, zero, suc, Bool, true, false, cond, List, bytes_eq, Option, Some, None, option_and_then, slice_get, ◌⊎◌, inl, inr, refl, sym, ap, ap₂, subst}
use Rattle.json.specs.Json as json
use Rattle.json.specs.Find.{later_or}
use Rattle.json.specs.Find as tree
use Rattle.serde_json.specs.Data.{array, boolean, no_members, object}
use Rattle.serde_json.specs.Read.{of_items, of_json, of_members}
use Rattle.odb_spans.specs.Parts.{append_items, append_members, count_items, items_in, list_of}
use Rattle.odb_spans.proofs.DataLemmas.{maps-to}
use Rattle.odb_spans.proofs.FillLemmas.{last-member}
use Rattle.odb_spans.proofs.GivenLemmas.{item-listed}
use Rattle.odb_spans.proofs.HoleLemmas.{Hole, here, in_item, in_member, fill}
use Rattle.odb_spans.proofs.MemberLemmas.{later-later, later-none}

-- the value is read as true
pub record IsTrueValue (o : Option json.Json) : Type 0 where
  pub value : json.Json
  pub is : o ≡ Some value
  pub reads : of_json value ≡ Some (boolean true)

-- the last member of this name of the item at this position of the array at the last member of that name
abbrev pub looked : List ℕ → List ℕ → ℕ → json.Json → Option json.Json
looked list name at j = option_and_then (tree.get name) (slice_get (items_in (tree.get list j)) at)

pub not-none : {P : Type 0} → IsTrueValue None → P
not-none t = absurd (cc (t.is))

-- ---- the last member of a name

-- a member of this name, after which no other has it
pub record IsLast (name k : List ℕ) (later : json.Members) : Type 0 where
  pub named : bytes_eq k name ≡ true
  pub rest : tree.get_member name later ≡ None

member-at : (name : List ℕ) (earlier : json.Members) (k : List ℕ) (v : json.Json) (later : json.Members)
    → tree.get_member name (append_members earlier (json.member k v later)) ≡ later_or (tree.get_member name later) (later_or (cond (bytes_eq k name) (Some v) None) (tree.get_member name earlier))
member-at name json.no_members k v later = ap (later_or (tree.get_member name later)) (sym (later-none (cond (bytes_eq k name) (Some v) None)))
member-at name (json.member n i earlier) k v later =
    let mine = cond (bytes_eq k name) (Some v) None in
    let first = cond (bytes_eq n name) (Some i) None in
    ap (λ o. later_or o first) (member-at name earlier k v later) ∙ later-later (tree.get_member name later) (later_or mine (tree.get_member name earlier)) first
    ∙ ap (later_or (tree.get_member name later)) (later-later mine (tree.get_member name earlier) first)

-- another value of the member changes nothing
abbrev pub Unchanged : List ℕ → json.Members → List ℕ → json.Members → Type 0
Unchanged name earlier k later = (v w : json.Json) → tree.get_member name (append_members earlier (json.member k v later)) ≡ tree.get_member name (append_members earlier (json.member k w later))

by-later : (name : List ℕ) (earlier : json.Members) (k : List ℕ) (later : json.Members) (o : Option json.Json) (b : Bool) → tree.get_member name later ≡ o → bytes_eq k name ≡ b → IsLast name k later ⊎ Unchanged name earlier k later
by-later name earlier k later (Some x) b is named =
    let found : (v : json.Json) → tree.get_member name (append_members earlier (json.member k v later)) ≡ Some x =
    (λ v. member-at name earlier k v later ∙ ap (λ o. later_or o (later_or (cond (bytes_eq k name) (Some v) None) (tree.get_member name earlier))) is) in
    inr (λ v w. found v ∙ sym (found w))
by-later name earlier k later None true is named = inl (record { named = named; rest = is })
by-later name earlier k later None false is named =
    let found : (v : json.Json) → tree.get_member name (append_members earlier (json.member k v later)) ≡ tree.get_member name earlier =
    (λ v. member-at name earlier k v later ∙ ap₂ (λ o c. later_or o (later_or (cond c (Some v) None) (tree.get_member name earlier))) is named) in
    inr (λ v w. found v ∙ sym (found w))

pub is-last : (name : List ℕ) (earlier : json.Members) (k : List ℕ) (later : json.Members) → IsLast name k later ⊎ Unchanged name earlier k later
is-last name earlier k later = by-later name earlier k later (tree.get_member name later) (bytes_eq k name) refl refl

-- ---- the item at a position

pub item-at : (earlier later : json.Items) (at : ℕ)
    → (count_items earlier ≡ at) ⊎ ((v w : json.Json) → slice_get (list_of (append_items earlier (json.item v later))) at ≡ slice_get (list_of (append_items earlier (json.item w later))) at)
item-at json.no_items later zero = inl refl
item-at json.no_items later (suc at) = inr (λ v w. refl)
item-at (json.item i earlier) later zero = inr (λ v w. refl)
item-at (json.item i earlier) later (suc at) =
    elim (item-at earlier later at) [
      | inl e ↦ inl (ap suc e)
      | inr same ↦ inr (λ v w. same v w)
    ]

-- the item that was put there
pub listed-at : (at : ℕ) (earlier : json.Items) (v : json.Json) (later : json.Items) → count_items earlier ≡ at → slice_get (list_of (append_items earlier (json.item v later))) at ≡ Some v
listed-at at earlier v later count = ap (slice_get (list_of (append_items earlier (json.item v later)))) (sym count) ∙ item-listed earlier v later

-- ---- the place of the member

pub record IsValueHole (hole : Hole) : Type 0 where
  pub is : hole ≡ here

pub in-value : (hole : Hole) → IsTrueValue (Some (fill hole (json.boolean true))) → IsValueHole hole
in-value here t = record { is = refl }
in-value (in_item earlier hole later) t =
    let js = append_items earlier (json.item (fill hole (json.boolean true)) later) in
    let same : json.array js ≡ t.value = cc (t.is) in
    absurd (cc ((maps-to array (of_items js) (boolean true) (ap of_json same ∙ t.reads)).is))
in-value (in_member earlier k hole later) t =
    let ms = append_members earlier (json.member k (fill hole (json.boolean true)) later) in
    let same : json.object ms ≡ t.value = cc (t.is) in
    absurd (cc ((maps-to object (of_members ms no_members) (boolean true) (ap of_json same ∙ t.reads)).is))

record IsElementHole (name : List ℕ) (hole : Hole) : Type 0 where
  earlier : json.Members
  k : List ℕ
  later : json.Members
  is : hole ≡ in_member earlier k here later
  last : IsLast name k later

module _ (name : List ℕ) where
  in-element : (hole : Hole) → IsTrueValue (tree.get name (fill hole (json.boolean true))) → (IsTrueValue (tree.get name (fill hole json.null)) → ⊥) → IsElementHole name hole
  in-element here t f = not-none t
  in-element (in_item earlier hole later) t f = not-none t
  in-element (in_member earlier k hole later) t f =
      elim (is-last name earlier k later) [
        | inl last ↦ (
            let found = last-member name earlier k (fill hole (json.boolean true)) later last.named last.rest in
            let inner = in-value hole (subst IsTrueValue found t) in
            record { earlier = earlier; k = k; later = later; is = ap (λ h. in_member earlier k h later) inner.is; last = last })
        | inr same ↦ absurd (f (subst IsTrueValue (same (fill hole (json.boolean true)) (fill hole json.null)) t))
      ]

record IsArrayHole (name : List ℕ) (at : ℕ) (hole : Hole) : Type 0 where
  earlier : json.Items
  element : Hole
  later : json.Items
  is : hole ≡ in_item earlier element later
  count : count_items earlier ≡ at
  inner : IsElementHole name element

module _ (name : List ℕ) (at : ℕ) where
  abbrev item_of : Option json.Json → Option json.Json
  item_of o = option_and_then (tree.get name) (slice_get (items_in o) at)

  in-array : (hole : Hole) → IsTrueValue (item_of (Some (fill hole (json.boolean true)))) → (IsTrueValue (item_of (Some (fill hole json.null))) → ⊥) → IsArrayHole name at hole
  in-array here t f = not-none t
  in-array (in_member earlier k hole later) t f = not-none t
  in-array (in_item earlier hole later) t f =
      elim (item-at earlier later at) [
        | inl count ↦ (
            let one = listed-at at earlier (fill hole (json.boolean true)) later count in
            let other = listed-at at earlier (fill hole json.null) later count in
            let inner = in-element name hole (subst (λ o. IsTrueValue (option_and_then (tree.get name) o)) one t) (λ u. f (subst (λ o. IsTrueValue (option_and_then (tree.get name) o)) (sym other) u)) in
            record { earlier = earlier; element = hole; later = later; is = refl; count = count; inner = inner })
        | inr same ↦ absurd (f (subst (λ o. IsTrueValue (option_and_then (tree.get name) o)) (same (fill hole (json.boolean true)) (fill hole json.null)) t))
      ]

-- the place is that of this member of the item at this position
pub record IsMemberHole (list name : List ℕ) (at : ℕ) (hole : Hole) : Type 0 where
  pub before_list : json.Members
  pub list_key : List ℕ
  pub after_list : json.Members
  pub before_item : json.Items
  pub after_item : json.Items
  pub before_member : json.Members
  pub key : List ℕ
  pub after_member : json.Members
  pub is : hole ≡ in_member before_list list_key (in_item before_item (in_member before_member key here after_member) after_item) after_list
  pub outer : IsLast list list_key after_list
  pub count : count_items before_item ≡ at
  pub inner : IsLast name key after_member

pub is-member-hole : (list name : List ℕ) (at : ℕ) (hole : Hole) → IsTrueValue (looked list name at (fill hole (json.boolean true))) → (IsTrueValue (looked list name at (fill hole json.null)) → ⊥) → IsMemberHole list name at hole
is-member-hole list name at here t f = not-none t
is-member-hole list name at (in_item earlier hole later) t f = not-none t
is-member-hole list name at (in_member earlier k hole later) t f =
    elim (is-last list earlier k later) [
      | inl last ↦ (
          let one = last-member list earlier k (fill hole (json.boolean true)) later last.named last.rest in
          let other = last-member list earlier k (fill hole json.null) later last.named last.rest in
          let a = in-array name at hole (subst (λ o. IsTrueValue (item_of name at o)) one t) (λ u. f (subst (λ o. IsTrueValue (item_of name at o)) (sym other) u)) in
          record {
            before_list = earlier;
            list_key = k;
            after_list = later;
            before_item = a.earlier;
            after_item = a.later;
            before_member = a.inner.earlier;
            key = a.inner.k;
            after_member = a.inner.later;
            is = ap (λ h. in_member earlier k h later) (a.is ∙ ap (λ h. in_item a.earlier h a.later) a.inner.is);
            outer = last;
            count = a.count;
            inner = a.inner.last;
          })
      | inr same ↦ absurd (f (subst (λ o. IsTrueValue (item_of name at o)) (same (fill hole (json.boolean true)) (fill hole json.null)) t))
    ]

-- ---- there is one such place

pub record SameMembers (e f : json.Members) (k l : List ℕ) (v w : json.Json) (m n : json.Members) : Type 0 where
  pub earlier : e ≡ f
  pub key : k ≡ l
  pub value : v ≡ w
  pub later : m ≡ n

pub same-members : (name : List ℕ) (e f : json.Members) (k l : List ℕ) (v w : json.Json) (m n : json.Members) → IsLast name k m → IsLast name l n → append_members e (json.member k v m) ≡ append_members f (json.member l w n) → SameMembers e f k l v w m n
same-members name json.no_members json.no_members k l v w m n a b e = record { earlier = refl; key = cc (e); value = cc (e); later = cc (e) }
same-members name json.no_members (json.member q i f) k l v w m n a b e =
    let rest : m ≡ append_members f (json.member l w n) = cc (e) in
    absurd (cc (sym a.rest ∙ ap (tree.get_member name) rest ∙ last-member name f l w n b.named b.rest))
same-members name (json.member q i e) json.no_members k l v w m n a b is =
    let rest : append_members e (json.member k v m) ≡ n = cc (is) in
    absurd (cc (sym b.rest ∙ sym (ap (tree.get_member name) rest) ∙ last-member name e k v m a.named a.rest))
same-members name (json.member q i e) (json.member r j f) k l v w m n a b is =
    let rest : append_members e (json.member k v m) ≡ append_members f (json.member l w n) = cc (is) in
    let first : q ≡ r = cc (is) in
    let same : i ≡ j = cc (is) in
    let h = same-members name e f k l v w m n a b rest in
    record { earlier = (let more = h.earlier in cc (first, same, more)); key = h.key; value = h.value; later = h.later }

pub record SameItems (e f : json.Items) (v w : json.Json) (m n : json.Items) : Type 0 where
  pub earlier : e ≡ f
  pub value : v ≡ w
  pub later : m ≡ n

pub same-items : (e f : json.Items) (v w : json.Json) (m n : json.Items) → count_items e ≡ count_items f → append_items e (json.item v m) ≡ append_items f (json.item w n) → SameItems e f v w m n
same-items json.no_items json.no_items v w m n count is = record { earlier = refl; value = cc (is); later = cc (is) }
same-items json.no_items (json.item j f) v w m n count is = absurd (cc (count))
same-items (json.item i e) json.no_items v w m n count is = absurd (cc (count))
same-items (json.item i e) (json.item j f) v w m n count is =
    let rest : append_items e (json.item v m) ≡ append_items f (json.item w n) = cc (is) in
    let same : i ≡ j = cc (is) in
    let fewer : count_items e ≡ count_items f = cc (count) in
    let h = same-items e f v w m n fewer rest in
    record { earlier = (let more = h.earlier in cc (same, more)); value = h.value; later = h.later }

pub object-same : (ms ns : json.Members) → json.object ms ≡ json.object ns → ms ≡ ns
object-same ms ns e = cc (e)

pub array-same : (js is : json.Items) → json.array js ≡ json.array is → js ≡ is
array-same js is e = cc (e)

-- two such places in one tree are one
pub record SameHole (one other : Hole) (v w : json.Json) : Type 0 where
  pub hole : one ≡ other
  pub value : v ≡ w

pub same-hole : (list name : List ℕ) (at : ℕ) (one other : Hole) (v w : json.Json) → IsMemberHole list name at one → IsMemberHole list name at other → fill one v ≡ fill other w → SameHole one other v w
same-hole list name at one other v w a b e =
    let whole = ap (λ h. fill h v) (sym a.is) ∙ e ∙ ap (λ h. fill h w) b.is in
    let top = same-members list a.before_list b.before_list a.list_key b.list_key _ _ a.after_list b.after_list a.outer b.outer (object-same _ _ whole) in
    let item = same-items a.before_item b.before_item _ _ a.after_item b.after_item (a.count ∙ sym b.count) (array-same _ _ top.value) in
    let member = same-members name a.before_member b.before_member a.key b.key v w a.after_member b.after_member a.inner b.inner (object-same _ _ item.value) in
    record {
      hole = a.is ∙ (λ i. in_member (top.earlier i) (top.key i) (in_item (item.earlier i) (in_member (member.earlier i) (member.key i) here (member.later i)) (item.later i)) (top.later i)) ∙ sym b.is;
      value = member.value;
    }

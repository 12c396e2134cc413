-- One item of an array.
use Rattle.std.proofs.Common.{◌≡◌, ◌∙◌, ◌⊎◌, ℕ, zero, suc, ◌+◌, ◌-◌, ◌<◌, ◌≤◌, List, [], ◌∷◌, ◌++◌, length, drop, get_or, slice_get, Option, Some, None, inl, inr, refl, sym, ap, subst, arith}
use Rattle.std.specs.Prelude.{IsUtf8}
use Rattle.std.specs.List.{All}
use Rattle.std.specs.Str.{IsCharBoundary}
use Rattle.std.proofs.lemmas.List.{length-append}
use Rattle.std.proofs.lemmas.List.Elements.{All-head, All-tail}
use Rattle.std.proofs.lemmas.Option.{slice_get_cases}
use Rattle.json.specs.Token.{Token}
use Rattle.json.specs.Json as json
use Rattle.json.specs.Tree.{items_tokens, members_tokens}
use Rattle.odb_spans.specs.Extents.{value_extent}
use Rattle.odb_spans.specs.Spans.{IsWithin}
use Rattle.odb_spans.specs.Walks.{Steps}
use Rattle.odb_spans.specs.Parts.{GivesItem, HasItems, HasValue, IsItemAt, IsMemberOf, IsNextItem, IsSomeMemberOf, IsValueSpan, ItemLeft, ItemLiesAt, ItemsPassed, LiesAt, LiesAtSome, LiesInMemberSome, append_items, items_in, list_of}
use Rattle.odb_spans.specs.declared.span.Span.{Span}
use Rattle.odb_spans.proofs.MemberLemmas.{append-item, count-item, first-item, rest-items}
use Rattle.odb_spans.proofs.PartLemmas.{value-part}

-- the item that a step leads to
pub next-item : (text : List ℕ) (at start end : ℕ) (js : json.Items) (ts : List Token) → HasItems text at js ts → Steps text at (Some start) → end ≡ start + value_extent (drop start text) → start < end → end ≤ length text → (IsUtf8 text → IsCharBoundary text end)
    → IsNextItem text record { start = start; end = end } js ts
next-item text at start end js ts has steps extent some within boundary =
    let first = first-item text at start js ts has steps in
    let part = value-part text start end first.value (items_tokens first.others ++ ts) first.has extent within (boundary has.utf8) in
    record {
      value = first.value;
      others = first.others;
      is = first.is;
      text_of = part.text_of;
      lies = record { some = some; extent = extent; has = first.has; clear = first.clear; ended = part.ended };
      has = rest-items text end first.others ts has.utf8 part.ended;
    }

pub begin-item : (text : List ℕ) (start position : ℕ) (js : json.Items) (ts : List Token) → HasItems text start js ts → ItemLeft text start position position js ts
begin-item text start position js ts has = record { done = json.no_items; others = js; has = has; whole = refl; count = omega arith; same = refl }

pub item-here : (text : List ℕ) (at position : ℕ) (span : Span) (js : json.Items) (ts : List Token) (left : ItemLeft text at position 0 js ts) → IsNextItem text span left.others ts
    → IsValueSpan text (Some span) (slice_get (list_of js) position) × ItemLiesAt text (Some span) position (json.array js) ts
item-here text at position span js ts left next = (
  (next.value, left.same ∙ ap (λ o. slice_get (list_of o) 0) next.is, next.text_of),
  record {
    items = js;
    array = refl;
    holds = record { earlier = left.done; item = next.value; later = next.others; is = left.whole ∙ ap (append_items left.done) next.is; count = omega (arith, left.count); holds = next.lies };
  },
)

pub item-later : (text : List ℕ) (at position left : ℕ) (span : Span) (js : json.Items) (ts : List Token) (more : ItemLeft text at position (suc left) js ts) → IsNextItem text span more.others ts → ItemLeft text span.end position left js ts
item-later text at position left span js ts more next = record {
  done = append_items more.done (json.item next.value json.no_items);
  others = next.others;
  has = next.has;
  whole = more.whole ∙ ap (append_items more.done) next.is ∙ sym (append-item more.done next.value next.others);
  count = omega (arith, more.count, count-item more.done next.value);
  same = more.same ∙ ap (λ o. slice_get (list_of o) (suc left)) next.is;
}

pub no-items : (text : List ℕ) (at position left : ℕ) (js : json.Items) (ts : List Token) (more : ItemLeft text at position left js ts) → more.others ≡ json.no_items → slice_get (list_of js) position ≡ None
no-items text at position left js ts more none = more.same ∙ ap (λ o. slice_get (list_of o) left) none

-- ---- all items

each-pushed : {X : Type 0} (P : ℕ → Option X → Type 0) (xs : List X) (x : X) → ((k : ℕ) → k < length xs → P k (slice_get xs k)) → P (length xs) (Some x) → (k : ℕ) → k < length (xs ++ x ∷ []) → P k (slice_get (xs ++ x ∷ []) k)
each-pushed P [] x earlier last zero below = last
each-pushed P [] x earlier last (suc k) below = absurd (omega (arith, below))
each-pushed P (y ∷ ys) x earlier last zero below = earlier 0 (omega arith)
each-pushed P (y ∷ ys) x earlier last (suc k) below = each-pushed (λ n. P (suc n)) ys x (λ n less. earlier (suc n) (omega (arith, less))) last k (omega (arith, below))

-- none has come yet
pub begin-passed : (text : List ℕ) (start : ℕ) (js : json.Items) (ts : List Token) → HasItems text start js ts → ItemsPassed text start [] js ts
begin-passed text start js ts has = record { here = λ position below. absurd (omega (arith, below)); left = λ position past. subst (λ n. ItemLeft text start position n js ts) (omega arith) (begin-item text start position js ts has) }

-- the next item comes after those that have come
pub pass-item : (text : List ℕ) (at : ℕ) (spans : List Span) (span : Span) (js : json.Items) (ts : List Token) → ItemsPassed text at spans js ts → ((js : json.Items) (ts : List Token) → HasItems text at js ts → IsNextItem text span js ts)
    → ItemsPassed text span.end (spans ++ span ∷ []) js ts
pass-item text at spans span js ts passed next =
    let long : length (spans ++ span ∷ []) ≡ suc (length spans) = omega (arith, length-append spans (span ∷ [])) in
    let none : length spans - length spans ≡ 0 = omega arith in
    let first : ItemLeft text at (length spans) 0 js ts = subst (λ n. ItemLeft text at (length spans) n js ts) none (passed.left (length spans) (omega arith)) in
    record {
      here = each-pushed (λ position found. IsItemAt text position found js ts) spans span passed.here (item-here text at (length spans) span js ts first (next first.others ts first.has));
      left = λ position past.
          (let rest = position - length (spans ++ span ∷ []) in
          let more : position - length spans ≡ suc rest = omega (arith, past, long) in
          let left : ItemLeft text at position (suc rest) js ts = subst (λ n. ItemLeft text at position n js ts) more (passed.left position (omega (arith, past, long))) in
          item-later text at position rest span js ts left (next left.others ts left.has));
    }

item-passed : (text : List ℕ) (at : ℕ) (spans : List Span) (js : json.Items) (ts : List Token) → ItemsPassed text at spans js ts → ((js : json.Items) (ts : List Token) → HasItems text at js ts → js ≡ json.no_items) → (position : ℕ)
    → ((span : Span) × (position < length spans) × (slice_get spans position ≡ Some span) × (get_or spans position span ≡ span)) ⊎ ((length spans ≤ position) × (slice_get spans position ≡ None)) → IsItemAt text position (slice_get spans position) js ts
item-passed text at spans js ts passed none position (inl found) = passed.here position found.1
item-passed text at spans js ts passed none position (inr past) =
    let left = passed.left position past.0 in
    subst (λ o. IsItemAt text position o js ts) (sym past.1) (no-items text at position (position - length spans) js ts left (none left.others ts left.has), tt)

-- no item is left
pub all-passed : (text : List ℕ) (at : ℕ) (spans : List Span) (js : json.Items) (ts : List Token) → ItemsPassed text at spans js ts → ((js : json.Items) (ts : List Token) → HasItems text at js ts → js ≡ json.no_items) → (position : ℕ)
    → IsItemAt text position (slice_get spans position) js ts
all-passed text at spans js ts passed none position = item-passed text at spans js ts passed none position (slice_get_cases spans position).1

-- the bounds of one of several spans
pub bound-at : (len : ℕ) (spans : List Span) → All (λ span. IsWithin len (Some span)) spans → (position : ℕ) → IsWithin len (slice_get spans position)
bound-at len [] all position = tt
bound-at len (span ∷ spans) all zero = All-head (λ s. IsWithin len (Some s)) span spans all
bound-at len (span ∷ spans) all (suc position) = bound-at len spans (All-tail (λ s. IsWithin len (Some s)) span spans all) position

-- ---- the array at a member

in-member : (name text : List ℕ) (position : ℕ) (item : Option Span) (ms : json.Members) (j : json.Json) (R : json.Json → List Token → Type 0) (m : IsMemberOf name ms j None [] R) → ItemLiesAt text item position j (members_tokens m.later ++ [])
    → LiesInMemberSome text item name position (json.object ms)
in-member name text position None ms j R m lies = tt
in-member name text position (Some span) ms j R m lies = record {
  members = ms;
  object = refl;
  value = j;
  member = record { earlier = m.earlier; key = m.key; later = m.later; is = m.is; named = m.named; rest = m.rest; holds = lies };
}

-- the item of the value of the last member of a name
pub member-item : (name text : List ℕ) (position : ℕ) (value : Span) (found item : Option Span) (ms : json.Members) (o : Option json.Json) → found ≡ Some value → IsValueSpan text found o → IsSomeMemberOf name ms o None [] (LiesAtSome text found)
    → GivesItem text value.start position item → IsValueSpan text item (slice_get (items_in o) position) × LiesInMemberSome text item name position (json.object ms)
member-item name text position value None item ms o same is lies gives = absurd (cc (same))
member-item name text position value (Some s) item ms None same is lies gives = absurd (cc (is.1))
member-item name text position value (Some s) item ms (Some j) same is lies gives =
    let one : s ≡ value = cc (same) in
    let ts = members_tokens lies.later ++ [] in
    let found = gives.gives j ts (subst (λ x. HasValue text x.start j ts) one lies.holds.has) in
    (found.0, in-member name text position item ms j (LiesAt text s) lies found.1)

pub no-member-item : (text : List ℕ) (position : ℕ) (found : Option Span) (o : Option json.Json) → found ≡ None → IsValueSpan text found o → slice_get (items_in o) position ≡ None
no-member-item text position None o same is = ap (λ o. slice_get (items_in o) position) is
no-member-item text position (Some s) o same is = absurd (cc (same))

-- The members of the elements of an array, found one by one.
use Rattle.std.proofs.Common.{◌≡◌, ◌∙◌, ℕ, zero, suc, ◌+◌, ◌<◌, List, [], ◌∷◌, ◌++◌, length, take, get_or, slice_get, Option, Some, None, refl, sym, ap, subst, arith}
use Rattle.std.specs.List.{All, AllZip}
use Rattle.std.proofs.lemmas.List.{take_more}
use Rattle.json.specs.Token.{Token}
use Rattle.json.specs.Json as json
use Rattle.json.specs.Find.{get, get_member}
use Rattle.serde_json.specs.Data.{Data}
use Rattle.odb_doc.specs.Documents.{IsJson}
use Rattle.odb_doc.specs.Members.{elements_at}
use Rattle.odb_spans.specs.Parts.{FindsElements, GiveMembers, GivesMember, HasValue, HaveMemberTexts, HasMemberText, IsValueSpan, LiesInMemberSome, append_items, count_items, items_in, list_of}
use Rattle.odb_spans.specs.Spans.{EachSpan, HasMemberAt, IsPlaceOfMember, IsWithin}
use Rattle.odb_spans.specs.Walks.{IsStart}
use Rattle.odb_spans.specs.declared.span.Span.{Span}
use Rattle.odb_spans.proofs.DataLemmas.{members-data}
use Rattle.odb_spans.proofs.FillLemmas.{last-member}
use Rattle.odb_spans.proofs.FoundLemmas.{zip-push}
use Rattle.odb_spans.proofs.ReadLemmas.{IsTreeOf, tree-of}
use Rattle.odb_spans.proofs.WholeLemmas.{whole}
use Rattle.odb_spans.proofs.WithoutLemmas.{is-place}

-- the value of an item of the tree begins at the element
abbrev BeginsItem : List ℕ → Option Span → Option json.Json → Type 0
BeginsItem text None o = o ≡ None
BeginsItem text (Some span) o = (j : json.Json) × (o ≡ Some j) × ((ts : List Token) × HasValue text span.start j ts)

pub item-listed : (earlier : json.Items) (j : json.Json) (later : json.Items) → slice_get (list_of (append_items earlier (json.item j later))) (count_items earlier) ≡ Some j
item-listed json.no_items j later = refl
item-listed (json.item i earlier) j later = item-listed earlier j later

begins-item : (text list : List ℕ) (at : ℕ) (tree : json.Json) (span : Option Span) → IsValueSpan text span (slice_get (items_in (get list tree)) at) → LiesInMemberSome text span list at tree → BeginsItem text span (slice_get (items_in (get list tree)) at)
begins-item text list at tree None is lies = is
begins-item text list at tree (Some span) is lies =
    let m = lies.member in
    let item = m.holds.holds in
    let listed : slice_get (items_in (get list tree)) at ≡ Some item.item =
    ap (λ t. slice_get (items_in (get list t)) at) lies.object ∙ ap (λ ms. slice_get (items_in (get_member list ms)) at) m.is
    ∙ ap (λ o. slice_get (items_in o) at) (last-member list m.earlier m.key lies.value m.later m.named m.rest ∙ ap Some m.holds.array) ∙ ap (λ js. slice_get (list_of js) at) item.is
    ∙ ap (slice_get (list_of (append_items item.earlier (json.item item.item item.later)))) (sym item.count) ∙ item-listed item.earlier item.item item.later in
    (item.item, listed, (_, item.holds.has))

have-members : (name text : List ℕ) (elements : List Span) (members : List (Option Span)) (js : List json.Json) → GiveMembers name text elements members → ((at : ℕ) → BeginsItem text (slice_get elements at) (slice_get js at)) → HaveMemberTexts name text js members
have-members name text [] [] [] gives begins = tt
have-members name text [] [] (j ∷ js) gives begins = absurd (cc (begins 0))
have-members name text [] (m ∷ members) js gives begins = absurd gives
have-members name text (e ∷ elements) [] js gives begins = absurd gives
have-members name text (e ∷ elements) (m ∷ members) [] gives begins = absurd (cc ((begins 0).1))
have-members name text (e ∷ elements) (m ∷ members) (j ∷ js) gives begins =
    let first = begins 0 in
    let same : first.0 ≡ j = cc (first.1) in
    (subst (λ i. HasMemberText name text i m) same (gives.0.gives first.0 first.2.0 first.2.1).0, have-members name text elements members js gives.1 (λ at. begins (suc at)))

each-given : (P : ℕ → Span → Type 0) (name text : List ℕ) (from : ℕ) (elements : List Span) (members : List (Option Span)) → GiveMembers name text elements members
    → ((at : ℕ) (element span : Span) → slice_get elements at ≡ Some element → GivesMember name text element.start (Some span) → P (from + at) span) → EachSpan P from members
each-given P name text from [] [] gives holds = tt
each-given P name text from [] (m ∷ members) gives holds = absurd gives
each-given P name text from (e ∷ elements) [] gives holds = absurd gives
each-given P name text from (e ∷ elements) (m ∷ members) gives holds =
    let others = each-given P name text (suc from) elements members gives.1 (λ at element span same one. (let next : from + suc at ≡ suc from + at = omega arith in subst (λ n. P n span) next (holds (suc at) element span same one))) in
    first m gives.0 others
  where
    first : (m : Option Span) → GivesMember name text e.start m → EachSpan P (suc from) members → EachSpan P from (m ∷ members)
    first None one others = others
    first (Some span) one others = (let none : from + 0 ≡ from = omega arith in subst (λ n. P n span) none (holds 0 e span refl one), others)

pub given-within : (name text : List ℕ) (elements : List Span) (members : List (Option Span)) → GiveMembers name text elements members → All (IsWithin (length text)) members
given-within name text [] [] gives k d less = absurd (omega (arith, less))
given-within name text [] (m ∷ members) gives k d less = absurd gives
given-within name text (e ∷ elements) [] gives k d less = absurd gives
given-within name text (e ∷ elements) (m ∷ members) gives zero d less = gives.0.bounds
given-within name text (e ∷ elements) (m ∷ members) gives (suc k) d less = given-within name text elements members gives.1 k d (omega (arith, less))

-- one more element has its member
pub next-given : (name text : List ℕ) (elements : List Span) (k : ℕ) (d : Span) (members more : List (Option Span)) (member : Option Span) → k < length elements → GiveMembers name text (take k elements) members → GivesMember name text (get_or elements k d).start member
    → more ≡ members ++ member ∷ [] → GiveMembers name text (take (k + 1) elements) more
next-given name text elements k d members more member within before here items =
    let R : Span → Option Span → Type 0 = λ element. GivesMember name text element.start in
    subst (AllZip R (take (k + 1) elements)) (sym items) (subst (λ l. AllZip R l (members ++ member ∷ [])) (sym (take_more elements k d within)) (zip-push R (take k elements) members (get_or elements k d) member before here))

module _ (list name text : List ℕ) (start : ℕ) (elements : List Span) (members : List (Option Span)) (begins : IsStart text start) (found : FindsElements list text start elements) (gives : GiveMembers name text elements members) (d : Data) (is : IsJson text d) where
  top : IsTreeOf text d
  top = tree-of text d is.1

  found-at : (at : ℕ) → IsValueSpan text (slice_get elements at) (slice_get (items_in (get list top.tree)) at) × LiesInMemberSome text (slice_get elements at) list at top.tree
  found-at at = (found at).finds top.tree (whole text start d top is.0 begins)

  pub members-found : AllZip (HasMemberAt name text) (elements_at list d) members
  members-found = members-data list name text top.tree d members top.shallow top.reads (have-members name text elements members (items_in (get list top.tree)) gives (λ at. begins-item text list at top.tree (slice_get elements at) (found-at at).0 (found-at at).1))

  place-at : (at : ℕ) (element span : Span) → slice_get elements at ≡ Some element → GivesMember name text element.start (Some span) → IsPlaceOfMember list name text d at span
  place-at at element span same one =
      let lies = subst (λ e. LiesInMemberSome text e list at top.tree) same (found-at at).1 in
      let m = lies.member in
      let item = m.holds.holds in
      is-place list name text d at span lies.members lies.value top lies.object is.0
      record {
        earlier = m.earlier;
        key = m.key;
        later = m.later;
        is = m.is;
        named = m.named;
        rest = m.rest;
        holds = record { items = m.holds.items; array = m.holds.array; holds = record { earlier = item.earlier; item = item.item; later = item.later; is = item.is; count = item.count; holds = (one.gives item.item _ item.holds.has).1 } };
      }

  pub places-found : EachSpan (IsPlaceOfMember list name text d) 0 members
  places-found = each-given (IsPlaceOfMember list name text d) name text 0 elements members gives (λ at element span same one. (let none : at ≡ 0 + at = omega arith in subst (λ n. IsPlaceOfMember list name text d n span) none (place-at at element span same one)))

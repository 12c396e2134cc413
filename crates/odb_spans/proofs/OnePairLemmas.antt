-- Each of the two documents of a pair has one place in its line.
use Rattle.std.proofs.Common.{◌≡◌, ◌∙◌, ℕ, true, List, drop, Some, refl, sym, ap, ap₂, arith}
use Rattle.json.specs.Lex.{between, lex}
use Rattle.json.specs.Json as json
use Rattle.serde_json.specs.Data.{Data, array, boolean, item, no_items, no_members, null, object}
use Rattle.serde_json.specs.Read.{of_items, of_json, of_members}
use Rattle.odb_doc.specs.Documents.{IsJson}
use Rattle.odb_spans.specs.Parts.{append_items, append_members}
use Rattle.odb_spans.specs.Positions.{ArePartsOf, IsPlaceOfPart, pair}
use Rattle.odb_spans.specs.declared.span.Span.{Span}
use Rattle.odb_spans.proofs.AloneLemmas.{BeginsToken}
use Rattle.odb_spans.proofs.DataLemmas.{item-read, maps-to}
use Rattle.odb_spans.proofs.HoleLemmas.{Hole, here, in_item, in_member, fill}
use Rattle.odb_spans.proofs.OneSpanLemmas.{HasHole, IsFilled, IsSolidSpan, begun, has-hole, one-span}
use Rattle.odb_spans.proofs.PathLemmas.{SameHole, in-value}
use Rattle.odb_spans.proofs.ReadLemmas.{IsTreeOf, tree-of}

-- what is read of the first of two
first-read : (i : json.Json) (js : json.Items) (v second : Data) → of_json (json.array (json.item i js)) ≡ Some (pair v second) → of_json i ≡ Some v
first-read i js v second e =
    let h = maps-to array (of_items (json.item i js)) (pair v second) e in
    let r = item-read i js h.value (of_json i) refl h.some in
    let same : r.first ≡ v = cc (h.is, r.is) in
    r.reads ∙ ap Some same

-- the place is that of the first of two
record IsFirstHole (hole : Hole) : Type 0 where
  later : json.Items
  is : hole ≡ in_item json.no_items here later

first-hole : (hole : Hole) (second : Data) → of_json (fill hole (json.boolean true)) ≡ Some (pair (boolean true) second) → of_json (fill hole json.null) ≡ Some (pair null second) → IsFirstHole hole
first-hole here second with without = absurd (cc (with))
first-hole (in_member earlier k hole later) second with without =
    absurd (cc ((maps-to object (of_members (append_members earlier (json.member k (fill hole (json.boolean true)) later)) no_members) (pair (boolean true) second) with).is))
first-hole (in_item json.no_items hole later) second with without =
    let inner = in-value hole (record { value = fill hole (json.boolean true); is = refl; reads = first-read (fill hole (json.boolean true)) later (boolean true) second with }) in
    record { later = later; is = ap (λ h. in_item json.no_items h later) inner.is }
first-hole (in_item (json.item i earlier) hole later) second with without =
    absurd (cc (sym (first-read i (append_items earlier (json.item (fill hole (json.boolean true)) later)) (boolean true) second with)
    ∙ first-read i (append_items earlier (json.item (fill hole json.null) later)) null second without))

first-same : (v w : json.Json) (m n : json.Items) → json.array (json.item v m) ≡ json.array (json.item w n) → SameHole (in_item json.no_items here m) (in_item json.no_items here n) v w
first-same v w m n e = let later : m ≡ n = cc (e) in record { hole = ap (λ js. in_item json.no_items here js) later; value = cc (e) }

same-first : (one other : Hole) (v w : json.Json) → IsFirstHole one → IsFirstHole other → fill one v ≡ fill other w → SameHole one other v w
same-first one other v w a b e =
    let h = first-same v w a.later b.later (ap (λ h. fill h v) (sym a.is) ∙ e ∙ ap (λ h. fill h w) b.is) in
    record { hole = a.is ∙ h.hole ∙ sym b.is; value = h.value }

-- ---- the second of two

-- what is read of the others
rest-read : (i : json.Json) (js : json.Items) (batch v : Data) → of_json (json.array (json.item i js)) ≡ Some (pair batch v) → of_items js ≡ Some (item v no_items)
rest-read i js batch v e =
    let h = maps-to array (of_items (json.item i js)) (pair batch v) e in
    let r = item-read i js h.value (of_json i) refl h.some in
    let same : r.others ≡ item v no_items = cc (h.is, r.is) in
    r.more ∙ ap Some same

record IsLastRead (j : json.Json) (js : json.Items) (v : Data) : Type 0 where
  reads : of_json j ≡ Some v
  none : js ≡ json.no_items

last-read : (j : json.Json) (js : json.Items) (v : Data) → of_items (json.item j js) ≡ Some (item v no_items) → IsLastRead j js v
last-read j json.no_items v e =
    let r = item-read j json.no_items (item v no_items) (of_json j) refl e in
    let same : r.first ≡ v = cc (r.is) in
    record { reads = r.reads ∙ ap Some same; none = refl }
last-read j (json.item k js) v e =
    let r = item-read j (json.item k js) (item v no_items) (of_json j) refl e in
    let more = item-read k js r.others (of_json k) refl r.more in
    absurd (cc (r.is, more.is))

-- the place is that of the second of two
record IsSecondHole (hole : Hole) : Type 0 where
  earlier : json.Json
  is : hole ≡ in_item (json.item earlier json.no_items) here json.no_items

second-hole : (hole : Hole) (batch : Data) → of_json (fill hole (json.boolean true)) ≡ Some (pair batch (boolean true)) → of_json (fill hole json.null) ≡ Some (pair batch null) → IsSecondHole hole
second-hole here batch with without = absurd (cc (with))
second-hole (in_member earlier k hole later) batch with without =
    absurd (cc ((maps-to object (of_members (append_members earlier (json.member k (fill hole (json.boolean true)) later)) no_members) (pair batch (boolean true)) with).is))
second-hole (in_item json.no_items hole later) batch with without =
    absurd (cc (sym (rest-read (fill hole (json.boolean true)) later batch (boolean true) with) ∙ rest-read (fill hole json.null) later batch null without))
second-hole (in_item (json.item i json.no_items) hole later) batch with without =
    let last = last-read (fill hole (json.boolean true)) later (boolean true) (rest-read i (json.item (fill hole (json.boolean true)) later) batch (boolean true) with) in
    let inner = in-value hole (record { value = fill hole (json.boolean true); is = refl; reads = last.reads }) in
    record { earlier = i; is = ap₂ (λ h js. in_item (json.item i json.no_items) h js) inner.is last.none }
second-hole (in_item (json.item i (json.item j earlier)) hole later) batch with without =
    let one = last-read j (append_items earlier (json.item (fill hole (json.boolean true)) later)) (boolean true) (rest-read i (json.item j (append_items earlier (json.item (fill hole (json.boolean true)) later))) batch (boolean true) with) in
    let other = last-read j (append_items earlier (json.item (fill hole json.null) later)) null (rest-read i (json.item j (append_items earlier (json.item (fill hole json.null) later))) batch null without) in
    absurd (cc (sym one.reads ∙ other.reads))

second-same : (i k v w : json.Json) → json.array (json.item i (json.item v json.no_items)) ≡ json.array (json.item k (json.item w json.no_items))
    → SameHole (in_item (json.item i json.no_items) here json.no_items) (in_item (json.item k json.no_items) here json.no_items) v w
second-same i k v w e = let first : i ≡ k = cc (e) in record { hole = ap (λ j. in_item (json.item j json.no_items) here json.no_items) first; value = cc (e) }

same-second : (one other : Hole) (v w : json.Json) → IsSecondHole one → IsSecondHole other → fill one v ≡ fill other w → SameHole one other v w
same-second one other v w a b e =
    let h = second-same a.earlier b.earlier v w (ap (λ h. fill h v) (sym a.is) ∙ e ∙ ap (λ h. fill h w) b.is) in
    record { hole = a.is ∙ h.hole ∙ sym b.is; value = h.value }

-- ---- one span of each

module _ (line : List ℕ) (span : Span) (d part : Data) (filled : Data → Data) (place : IsPlaceOfPart line span part filled) where
  is-solid : IsSolidSpan line span
  is-solid =
      let some = place.text.some in
      record { order = omega (arith, some); within = place.text.within; first = place.text.first; last = place.last; cut = place.cut }

  is-filled : IsFilled line span (filled null) (filled (boolean true))
  is-filled = record { null_reads = place.with_null; true_reads = place.with_true }

  the-hole : (top : IsTreeOf line d) → HasHole line top.tree span (filled null) (filled (boolean true))
  the-hole top = has-hole line span _ _ part is-filled is-solid place.text.reads d top

  reads-true : (top : IsTreeOf line d) → of_json (fill (the-hole top).hole (json.boolean true)) ≡ Some (filled (boolean true))
  reads-true top = let hole = the-hole top in ap of_json (sym hole.true_is) ∙ hole.true_tree.reads

  reads-null : (top : IsTreeOf line d) → of_json (fill (the-hole top).hole json.null) ≡ Some (filled null)
  reads-null top = let hole = the-hole top in ap of_json (sym hole.null_is) ∙ hole.null_tree.reads

  begins-token : BeginsToken (lex between (drop span.start line))
  begins-token = begun line span _ _ part is-filled is-solid place.text.reads

module _ (line : List ℕ) (d : Data) (top : IsTreeOf line d) (one other : Span) (v w : Data) (f g : Data → Data) (p : IsPlaceOfPart line one v f) (q : IsPlaceOfPart line other w g) where
  one-part : SameHole (the-hole line one d v f p top).hole (the-hole line other d w g q top).hole (the-hole line one d v f p top).value (the-hole line other d w g q top).value → one ≡ other
  one-part same =
      one-span line top.tree one other (is-solid line one d v f p) (is-solid line other d w g q) _ _ _ _ (the-hole line one d v f p top) (the-hole line other d w g q top) same (begins-token line one d v f p) (begins-token line other d w g q)

  same-fill : fill (the-hole line one d v f p top).hole (the-hole line one d v f p top).value ≡ fill (the-hole line other d w g q top).hole (the-hole line other d w g q top).value
  same-fill = sym (the-hole line one d v f p top).is ∙ (the-hole line other d w g q top).is

-- each of the two documents of a pair lies at one span
pub one-pair : (line : List ℕ) (d : Data) (first second other another : Span) → IsJson line d → ArePartsOf line first second d → ArePartsOf line other another d → (first ≡ other) × (second ≡ another)
one-pair line d first second other another is x y =
    let top = tree-of line d is.1 in
    let x_first : Data → Data = λ v. pair v x.second in
    let y_first : Data → Data = λ v. pair v y.second in
    let x_second : Data → Data = λ v. pair x.batch v in
    let y_second : Data → Data = λ v. pair y.batch v in (
      one-part line d top first other x.batch y.batch x_first y_first x.first_place y.first_place
          (same-first _ _ _ _ (first-hole _ x.second (reads-true line first d x.batch x_first x.first_place top) (reads-null line first d x.batch x_first x.first_place top))
          (first-hole _ y.second (reads-true line other d y.batch y_first y.first_place top) (reads-null line other d y.batch y_first y.first_place top)) (same-fill line d top first other x.batch y.batch x_first y_first x.first_place y.first_place)),
      one-part line d top second another x.second y.second x_second y_second x.other_place y.other_place
          (same-second _ _ _ _ (second-hole _ x.batch (reads-true line second d x.second x_second x.other_place top) (reads-null line second d x.second x_second x.other_place top))
          (second-hole _ y.batch (reads-true line another d y.second y_second y.other_place top) (reads-null line another d y.second y_second y.other_place top)) (same-fill line d top second another x.second y.second x_second y_second x.other_place y.other_place)),
    )

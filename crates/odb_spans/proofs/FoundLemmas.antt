-- Where the elements lie whose spans were found.
use Rattle.std.proofs.Common.{◌≡◌, ◌<◌, ◌+◌, ◌++◌, ℕ, List, [], ◌∷◌, length, take, get_or, slice_get, Some, None, sym, subst}
use Rattle.std.specs.List.{AllZip}
use Rattle.std.proofs.lemmas.List.{take_more}
use Rattle.json.specs.Find as tree
use Rattle.serde_json.specs.Data.{Data}
use Rattle.odb_doc.specs.Documents.{IsJson}
use Rattle.odb_doc.specs.Members.{elements_at}
use Rattle.odb_doc.specs.declared.refusal.Refusal.{Refusal}
use Rattle.odb_spans.specs.Parts.{FindsElements, items_in}
use Rattle.odb_spans.specs.Positions.{IsWhole, LiesIn, Stands}
use Rattle.odb_spans.specs.Walks.{IsStart}
use Rattle.odb_spans.specs.declared.position.Position.{Position}
use Rattle.odb_spans.specs.declared.span.Span.{Span}
use Rattle.odb_spans.proofs.DataLemmas.{elements-read}
use Rattle.odb_spans.proofs.ElementLemmas.{is-element-place}
use Rattle.odb_spans.proofs.ReadLemmas.{tree-of}
use Rattle.odb_spans.proofs.WholeLemmas.{element-at, element-lies, no-element-lies, whole}

-- an element lies at its span
pub found-lies : (name text : List ℕ) (start : ℕ) (spans : List Span) (at : ℕ) (span : Span) (d : Data) → IsStart text start → FindsElements name text start spans → slice_get spans at ≡ Some span → IsJson text d → LiesIn text span name at d
found-lies name text start spans at span d begins all same is =
    let top = tree-of text d is.1 in
    let found = (all at).finds top.tree (whole text start d top is.0 begins) in
    element-lies text span (slice_get spans at) name at d (slice_get (elements_at name d) at) same
    (element-at text (items_in (tree.get name top.tree)) (elements_at name d) at (slice_get spans at) (elements-read name top.tree d top.shallow top.reads) found.0)
    (is-element-place text d at span name (slice_get spans at) top is.0 same found.1)

-- the whole value lies at its span, for an element that there is not
pub none-lies : (name text : List ℕ) (start : ℕ) (spans : List Span) (at : ℕ) (span : Span) (d : Data) → IsStart text start → FindsElements name text start spans → slice_get spans at ≡ None → IsJson text d → IsWhole text span d → LiesIn text span name at d
none-lies name text start spans at span d begins all same is lies =
    let top = tree-of text d is.1 in
    let found = (all at).finds top.tree (whole text start d top is.0 begins) in
    no-element-lies text span (slice_get spans at) name at d (slice_get (elements_at name d) at) same
    (element-at text (items_in (tree.get name top.tree)) (elements_at name d) at (slice_get spans at) (elements-read name top.tree d top.shallow top.reads) found.0) lies

pub zip-push : {A B : Type 0} (R : A → B → Type 0) (xs : List A) (ys : List B) (x : A) (y : B) → AllZip R xs ys → R x y → AllZip R (xs ++ x ∷ []) (ys ++ y ∷ [])
zip-push R [] [] x y zip last = (last, tt)
zip-push R [] (b ∷ ys) x y zip last = absurd zip
zip-push R (a ∷ xs) [] x y zip last = absurd zip
zip-push R (a ∷ xs) (b ∷ ys) x y zip last = (zip.0, zip-push R xs ys x y zip.1 last)

-- one more fault has its position
pub next-stands : (text : List ℕ) (faults : List Refusal) (k : ℕ) (d : Refusal) (positions more : List Position) (position : Position) → k < length faults → AllZip (λ (fault : Refusal). Stands text fault.place) (take k faults) positions → Stands text (get_or faults k d).place position
    → more ≡ positions ++ position ∷ [] → AllZip (λ (fault : Refusal). Stands text fault.place) (take (k + 1) faults) more
next-stands text faults k d positions more position within before here items =
    let R : Refusal → Position → Type 0 = λ fault. Stands text fault.place in
    subst (AllZip R (take (k + 1) faults)) (sym items) (subst (λ (l : List Refusal). AllZip R l (positions ++ position ∷ [])) (sym (take_more faults k d within)) (zip-push R (take k faults) positions (get_or faults k d) position before here))

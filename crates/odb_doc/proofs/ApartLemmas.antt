-- Headers in order of their names have each name once.
use Rattle.std.proofs.Common.{◌≡◌, ◌∙◌, ℕ, false, List, [], ◌∷◌, Option, IsSome, codes, map, bytes_eq, refl, ap, sym, subst}
use Rattle.std.specs.declared.cmp.Ordering.TheVariants.{Less}
use Rattle.std.specs.Cmp.Lexicographic.{slice_cmp}
use Rattle.std.specs.List.{IsDistinct, AllByRecursion}
use Rattle.std.specs.List.Sorted.{IsStrictlySortedBy}
use Rattle.std.specs.Map.{keys_of}
use Rattle.std.specs.Ordering.{is_eq, nat_cmp}
use Rattle.std.proofs.lemmas.Cmp.{nat_list_eq_equiv}
use Rattle.std.proofs.lemmas.List.Sorted.{IsPermutation-sym, IsPermutation-map}
use Rattle.std.proofs.lemmas.Map.Keys.{IsDistinct-IsPermutation}
use Rattle.std.proofs.lemmas.Map.Text.{is_eq-slice_cmp}
use Rattle.serde_json.specs.Data.{Data}
use Rattle.serde_json.specs.Find.{get}
use Rattle.odb_doc.specs.Headers.{Header, HoldsHeaders, HasHeaders, IsHeaders, folded, folded_names}
use Rattle.odb_doc.specs.declared.fault.RequestRule.TheVariants as request
use Rattle.odb_doc.specs.batch.Shapes.{BreaksRequest}
use Rattle.odb_doc.proofs.FoldedNames.{names_in-text_members_in}

apart-below : (name : List ℕ) (names : List (List ℕ)) → AllByRecursion (λ y. slice_cmp nat_cmp name y ≡ Less) names → AllByRecursion (λ y. bytes_eq name y ≡ false) names
apart-below name [] below = tt
apart-below name (other ∷ names) below = (sym (is_eq-slice_cmp name other) ∙ ap is_eq below.0, apart-below name names below.1)

pub distinct-sorted : (names : List (List ℕ)) → IsStrictlySortedBy (slice_cmp nat_cmp) names → IsDistinct bytes_eq names
unfolding IsStrictlySortedBy IsDistinct
distinct-sorted [] ordered = tt
distinct-sorted (name ∷ names) ordered = (apart-below name names ordered.0, distinct-sorted names ordered.1)

-- headers in order of their names have each name once, and so has the value that they were read from
pub HoldsHeaders-apart : (o : Option Data) (headers : List Header) → HoldsHeaders o headers → IsDistinct bytes_eq (folded_names o)
HoldsHeaders-apart o headers has =
    let apart = distinct-sorted (keys_of headers) has.ordered in
    let names = IsPermutation-map (λ (h : Header). h.0) headers (map folded has.listed) (IsPermutation-sym (map folded has.listed) headers has.same) in
    let before = IsDistinct-IsPermutation bytes_eq nat_list_eq_equiv.symm (keys_of headers) (keys_of (map folded has.listed)) names apart in
    subst (IsDistinct bytes_eq) (sym (names_in-text_members_in o has.listed has.are)) before

pub headers_not_twice : (d : Data) (headers : List Header) → HasHeaders d headers → ¬ BreaksRequest request.HeaderTwice d
headers_not_twice d headers has twice = twice (HoldsHeaders-apart (get (codes "headers") d) headers has)

pub IsHeaders-from : (o : Option Data) (headers : List Header) → HoldsHeaders o headers → IsHeaders o
IsHeaders-from o headers has = record { texts = subst IsSome (sym has.are) refl; apart = HoldsHeaders-apart o headers has }

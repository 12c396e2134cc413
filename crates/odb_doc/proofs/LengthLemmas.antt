-- Texts that rise by length, and in byte order among equal lengths, are distinct.
use Rattle.std.proofs.Common.{◌≡◌, ◌∙◌, ◌&&◌, ◌||◌, ℕ, Bool, true, false, cond, List, [], ◌∷◌, length, bytes_eq, refl, ap, sym, Bor}
use Rattle.std.specs.declared.cmp.Ordering.{Ordering}
use Rattle.std.specs.declared.cmp.Ordering.TheVariants.{Less, Equal, Greater}
use Rattle.std.specs.Cmp.{IsTotalOrder, on_total, then_total, tied_then, nat_cmp_is}
use Rattle.std.specs.Cmp.Lexicographic.{slice_cmp}
use Rattle.std.specs.List.{AllByRecursion, IsAllAdjacentAnswer, IsDistinct}
use Rattle.std.specs.List.Sorted.{IsStrictlySortedBy}
use Rattle.std.specs.Ordering.{is_eq, is_lt, nat_cmp, eq_by_cmp, ordering_then}
use Rattle.std.proofs.lemmas.Cmp.{nat_cmp_total, nat_list_cmp_total}
use Rattle.std.proofs.lemmas.Map.Keys.{sorted_from_all_adjacent, IsDistinct-from_sorted}
use Rattle.std.proofs.lemmas.Map.Text.{is_eq-slice_cmp}
use Rattle.std.proofs.lemmas.Slice.Eq.{bytes_eq-Decides}
use Rattle.odb_doc.specs.Names.{texts_in}
use Rattle.odb_doc.specs.SameTexts.{rises_by_length}
use Rattle.odb_doc.proofs.RepeatLemmas.{no_text}

-- by length first, and then in byte order
by_length : Bor (List ℕ) → Bor (List ℕ) → Ordering
by_length x y = ordering_then (nat_cmp (length x.now) (length y.now)) (slice_cmp nat_cmp x.now y.now)

by_length_total : IsTotalOrder by_length
unfolding by_length
by_length_total = then_total (on_total (λ (x : Bor (List ℕ)). length x.now) nat_cmp_total) (on_total (λ (x : Bor (List ℕ)). x.now) nat_list_cmp_total)

less_step : (b e : Bool) (o : Ordering) → true ≡ (b || (e && is_lt o)) → ordering_then (cond b Less (cond e Equal Greater)) o ≡ Less
less_step true e o is = refl
less_step false true Less is = refl
less_step false true Equal is = cc
less_step false true Greater is = cc
less_step false false o is = cc

rising : (r : Bool) (xs : List (Bor (List ℕ))) → r ≡ true → IsAllAdjacentAnswer (λ x y b. b ≡ rises_by_length x.now y.now) xs r → IsStrictlySortedBy by_length xs
unfolding by_length
rising true xs all answer = sorted_from_all_adjacent by_length_total xs no_text (λ k h. less_step _ _ _ (answer k no_text h))
rising false xs all answer = absurd (cc (all))

same_length : (n m : ℕ) → n ≡ m → is_eq (nat_cmp n m) ≡ true
same_length n m is = sym (ap is_eq (nat_cmp_is n m Equal is))

apart_here : (x y : List ℕ) (b : Bool) → bytes_eq x y ≡ b → is_eq (ordering_then (nat_cmp (length x) (length y)) (slice_cmp nat_cmp x y)) ≡ false → b ≡ false
apart_here x y true equal apart =
    let lengths = same_length (length x) (length y) (ap length ((bytes_eq-Decides x y).0 equal)) in
    let texts = is_eq-slice_cmp x y ∙ equal in
    let tied = tied_then (nat_cmp (length x) (length y)) (slice_cmp nat_cmp x y) in
    cc (lengths, texts, tied, apart)
apart_here x y false equal apart = refl

all_apart : (x : Bor (List ℕ)) (xs : List (Bor (List ℕ))) → AllByRecursion (λ y. eq_by_cmp by_length x y ≡ false) xs → AllByRecursion (λ y. bytes_eq x.now y ≡ false) (texts_in xs)
unfolding by_length
all_apart x [] all = tt
all_apart x (y ∷ ys) all = (apart_here x.now y.now (bytes_eq x.now y.now) refl all.0, all_apart x ys all.1)

distinct_references : (xs : List (Bor (List ℕ))) → IsDistinct (eq_by_cmp by_length) xs → IsDistinct bytes_eq (texts_in xs)
unfolding IsDistinct
distinct_references [] apart = tt
distinct_references (x ∷ xs) apart = (all_apart x xs apart.0, distinct_references xs apart.1)

pub distinct_by_length : (r : Bool) (xs : List (Bor (List ℕ))) → r ≡ true → IsAllAdjacentAnswer (λ x y b. b ≡ rises_by_length x.now y.now) xs r → IsDistinct bytes_eq (texts_in xs)
distinct_by_length r xs all answer = distinct_references xs (IsDistinct-from_sorted by_length xs (rising r xs all answer))

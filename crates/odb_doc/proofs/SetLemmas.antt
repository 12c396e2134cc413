-- Texts that a sorted set holds.
use Rattle.std.proofs.Common.{◌≡◌, ◌∙◌, ◌||◌, ℕ, Bool, true, false, not, List, [], ◌∷◌, ◌++◌, map, bytes_eq, refl, ap, sym, Bor}
use Rattle.std.specs.declared.cmp.Ordering.{Ordering}
use Rattle.std.specs.declared.cmp.Ordering.TheVariants.{Less, Equal, Greater}
use Rattle.std.specs.BTreeMap.{is_at}
use Rattle.std.specs.BTreeSet.{insert_key}
use Rattle.std.specs.Cmp.Lexicographic.{slice_cmp}
use Rattle.std.specs.List.{list_any}
use Rattle.std.specs.Ordering.{is_eq, match_ordering, nat_cmp}
use Rattle.std.proofs.lemmas.List.{map-append}
use Rattle.std.proofs.lemmas.List.Folds.{list_any-append}
use Rattle.std.proofs.lemmas.Map.Text.{is_eq-slice_cmp}
use Rattle.std.proofs.lemmas.Slice.Eq.{bytes_eq-Decides}
use Rattle.odb_doc.specs.Names.{texts_in, with_name}
use Rattle.odb_doc.specs.SameTexts.{AreSameTexts}

or_same : (a c : Bool) → (a || c) ≡ (a || (a || c))
or_same true c = refl
or_same false c = refl

or_swap : (a b c : Bool) → (a || (b || c)) ≡ (b || (a || c))
or_swap true true c = refl
or_swap true false c = refl
or_swap false b c = refl

same_text : (xs ys : List ℕ) → slice_cmp nat_cmp xs ys ≡ Equal → xs ≡ ys
same_text xs ys equal = (bytes_eq-Decides xs ys).0 (sym (is_eq-slice_cmp xs ys) ∙ ap is_eq equal)

module _ {K : Type 0} (bytes : K → List ℕ) where
  -- a look-up in order is one by equality
  pub any_at : (q : List ℕ) (keys : List K) → list_any (is_at (λ k. slice_cmp nat_cmp q (bytes k))) keys ≡ list_any (bytes_eq q) (map bytes keys)
  any_at q [] = refl
  any_at q (key ∷ keys) = rw (is_eq-slice_cmp q (bytes key), any_at q keys) refl

  insert_step : (o : Ordering) (q : List ℕ) (new key : K) (keys more : List K) → (o ≡ Equal → bytes new ≡ bytes key)
      → list_any (bytes_eq q) (map bytes more) ≡ (bytes_eq q (bytes new) || list_any (bytes_eq q) (map bytes keys))
      → list_any (bytes_eq q) (map bytes (match_ordering o (new ∷ key ∷ keys) (key ∷ keys) (key ∷ more))) ≡ (bytes_eq q (bytes new) || (bytes_eq q (bytes key) || list_any (bytes_eq q) (map bytes keys)))
  insert_step Less q new key keys more equal rest = refl
  insert_step Equal q new key keys more equal rest = rw (equal refl) (or_same (bytes_eq q (bytes key)) _)
  insert_step Greater q new key keys more equal rest = rw rest (or_swap (bytes_eq q (bytes key)) (bytes_eq q (bytes new)) _)

  -- the texts of a set with one more are that one and those from before
  pub any-insert_key : (q : List ℕ) (keys : List K) (new : K)
      → list_any (bytes_eq q) (map bytes (insert_key (λ x y. slice_cmp nat_cmp (bytes x) (bytes y)) keys new)) ≡ (bytes_eq q (bytes new) || list_any (bytes_eq q) (map bytes keys))
  any-insert_key q [] new = refl
  any-insert_key q (key ∷ keys) new =
      insert_step (slice_cmp nat_cmp (bytes new) (bytes key)) q new key keys _ (same_text (bytes new) (bytes key)) (any-insert_key q keys new)

-- ---- what an insertion returns

pub any_when_old : (is_new any : Bool) → is_new ≡ not any → is_new ≡ false → any ≡ true
any_when_old is_new true same old = refl
any_when_old true false same old = cc
any_when_old false false same old = cc

pub none_when_new : (is_new any : Bool) → is_new ≡ not any → is_new ≡ true → any ≡ false
none_when_new is_new false same new = refl
none_when_new true true same new = cc
none_when_new false true same new = cc

-- ---- a set beside a list of the same texts

or_swap_end : (a b : Bool) → (a || b) ≡ (b || (a || false))
or_swap_end true true = refl
or_swap_end true false = refl
or_swap_end false true = refl
or_swap_end false false = refl

-- one more text in both
pub same_texts_more : {K : Type 0} (bytes : K → List ℕ) (keys : List K) (new : K) (texts : List (List ℕ)) → AreSameTexts (map bytes keys) texts
    → AreSameTexts (map bytes (insert_key (λ x y. slice_cmp nat_cmp (bytes x) (bytes y)) keys new)) (texts ++ bytes new ∷ [])
same_texts_more bytes keys new texts same = λ q.
    any-insert_key bytes q keys new ∙ ap (λ b. bytes_eq q (bytes new) || b) (same q)
    ∙ or_swap_end (bytes_eq q (bytes new)) (list_any (bytes_eq q) texts) ∙ sym (list_any-append (bytes_eq q) texts (bytes new ∷ []))

pub put_new : (items : List (Bor (List ℕ))) (text : Bor (List ℕ)) → list_any (bytes_eq text.now) (texts_in items) ≡ false → texts_in (items ++ text ∷ []) ≡ with_name (texts_in items) text.now
put_new items text is = rw is (map-append (λ (t : Bor (List ℕ)). t.now) items (text ∷ []))

pub put_old : (items : List (Bor (List ℕ))) (text : Bor (List ℕ)) → list_any (bytes_eq text.now) (texts_in items) ≡ true → texts_in items ≡ with_name (texts_in items) text.now
put_old items text is = rw is refl

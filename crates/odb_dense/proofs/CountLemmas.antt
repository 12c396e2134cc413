-- How often a number is in a list, and how many elements of a list pass a test.
use Rattle.std.proofs.Common.{◌≡◌, ◌≢◌, ℕ, ◌<◌, ◌≤◌, ◌+◌, ◌*◌, ◌∙◌, ap, ◌-◌, arith, Bool, true, false, cond, List, length, get_or, take, drop, set, count_by, All}
use Rattle.std.proofs.lemmas.Bool.{cond-true, cond-false}
use Rattle.std.proofs.lemmas.List.{get_or-take, get_or-drop, length-take-le, length-drop, length-set}
use Rattle.std.proofs.lemmas.List.Sums.{sum_by-le, sum_by-take-drop, sum_by-drop_more, sum_by-set, count_by-le-length}

-- none passes, so none is counted
pub count_none : {X : Type 0} (test : X → Bool) (xs : List X) → All (λ x. test x ≡ false) xs → count_by test xs ≡ 0
count_none test xs none =
    let most : count_by test xs ≤ length xs * 0 = sum_by-le (λ x. cond (test x) 1 0) 0 xs (λ k d within. let e = none k d within in rw e (omega arith)) in omega arith

-- one passes and no other
pub count_one : {X : Type 0} (test : X → Bool) (xs : List X) (k : ℕ) (d : X) → k < length xs → test (get_or xs k d) ≡ true → ((j : ℕ) (e : X) → j < length xs → j ≢ k → test (get_or xs j e) ≡ false) → count_by test xs ≡ 1
count_one {X} test xs k d within passes others =
    let parts : count_by test (take k xs) + count_by test (drop k xs) ≡ count_by test xs = sum_by-take-drop (λ x. cond (test x) 1 0) xs k in
    let next : count_by test (drop k xs) ≡ cond (test (get_or xs k d)) 1 0 + count_by test (drop (k + 1) xs) = sum_by-drop_more (λ x. cond (test x) 1 0) xs k d within in
    let here : cond {A = ℕ} (test (get_or xs k d)) 1 0 ≡ 1 = cond-true (test (get_or xs k d)) 1 0 passes in
    let long : length (take k xs) ≡ k = length-take-le k xs (omega arith) in
    let rest : length (drop (k + 1) xs) ≡ length xs - (k + 1) = length-drop (k + 1) xs in
    let before : count_by test (take k xs) ≡ 0 = count_none test (take k xs) (λ j e below. let less : j < k = omega arith in get_or-take-test j e less) in
    let after : count_by test (drop (k + 1) xs) ≡ 0 = count_none test (drop (k + 1) xs) (λ j e below. ap test (get_or-drop (k + 1) xs j e) ∙ others (k + 1 + j) e (omega arith) (omega arith)) in
    omega arith
  where
    get_or-take-test : (j : ℕ) (e : X) → j < k → test (get_or (take k xs) j e) ≡ false
    get_or-take-test j e less = ap test (get_or-take k xs j e less) ∙ others j e (omega arith) (omega arith)

-- what a write changes in a count
pub count_set : {X : Type 0} (test : X → Bool) (xs : List X) (i : ℕ) (y d : X) → i < length xs → count_by test (set xs i y) + cond (test (get_or xs i d)) 1 0 ≡ count_by test xs + cond (test y) 1 0
count_set test xs i y d within = sum_by-set (λ x. cond (test x) 1 0) xs i y d within

-- one does not pass, so not all are counted
pub count_below : {X : Type 0} (test : X → Bool) (xs : List X) (i : ℕ) (y d : X) → i < length xs → test (get_or xs i d) ≡ false → test y ≡ true → count_by test xs < length xs
count_below test xs i y d within fails passes =
    let change = count_set test xs i y d within in
    let none : cond {A = ℕ} (test (get_or xs i d)) 1 0 ≡ 0 = cond-false (test (get_or xs i d)) 1 0 fails in
    let here : cond {A = ℕ} (test y) 1 0 ≡ 1 = cond-true (test y) 1 0 passes in
    let most : count_by test (set xs i y) ≤ length (set xs i y) = count_by-le-length test (set xs i y) in
    let same : length (set xs i y) ≡ length xs = length-set xs i y in
    omega arith

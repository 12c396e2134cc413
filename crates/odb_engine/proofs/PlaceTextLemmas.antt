-- A place is determined by its text, and so by the line of a fault.
use Rattle.std.proofs.Common.{◌≡◌, ◌∙◌, ℕ, ◌<◌, ◌^◌, ◌+◌, ◌%◌, List, [], ◌∷◌, ◌++◌, Bool, true, false, cond, get_or, drop, codes, refl, sym, ap, arith, append_assoc}
use Rattle.std.specs.Prelude.{◌==◌}
use Rattle.std.specs.Fmt.{decimal}
use Rattle.std.specs.Str.Parse.{digits_value}
use Rattle.std.proofs.lemmas.Bool.{ne_eqb}
use Rattle.std.proofs.lemmas.List.{append_cancel_right}
use Rattle.std.proofs.lemmas.Fmt.{decimal_by_steps, decimal_is_IsNumeral}
use Rattle.odb_doc.specs.declared.fault.Place.{Place}
use Rattle.odb_doc.specs.declared.fault.Place.TheVariants.{Batch, Request, Outcomes, Outcome, Responses, Response, Events, Event}
use Rattle.odb_text.specs.Lines.{fault_line, place_text}
use Rattle.odb_text.specs.Places.{FitsWord}

-- ---- a text is read as its place: its first letter tells a document, and the fourth an element

abbrev document_of : ℕ → Place
document_of first = cond (first == 98) Batch (cond (first == 111) Outcomes (cond (first == 114) Responses Events))

abbrev element_of : ℕ → List ℕ → Place
element_of fourth text =
    cond (fourth == 113) (Request (digits_value 10 (drop 10 text))) (cond (fourth == 116) (Outcome (digits_value 10 (drop 10 text))) (cond (fourth == 115) (Response (digits_value 10 (drop 11 text))) (Event (digits_value 10 (drop 8 text)))))

abbrev place_in : List ℕ → Place
place_in text = cond (get_or text 0 0 == 47) (element_of (get_or text 3 0) text) (document_of (get_or text 0 0))

read : (n : ℕ) → n < 2 ^ 64 → digits_value 10 (decimal n) ≡ n
read n small = (decimal_is_IsNumeral n small).1

place-in : (p : Place) → FitsWord p → place_in (place_text p) ≡ p
place-in Batch fits = refl
place-in (Request at) fits = ap Request (read at fits)
place-in Outcomes fits = refl
place-in (Outcome at) fits = ap Outcome (read at fits)
place-in Responses fits = refl
place-in (Response at) fits = ap Response (read at fits)
place-in Events fits = refl
place-in (Event at) fits = ap Event (read at fits)

pub place-one : (p q : Place) → FitsWord p → FitsWord q → place_text p ≡ place_text q → p ≡ q
place-one p q fits too same = sym (place-in p fits) ∙ ap place_in same ∙ place-in q too

-- ---- what follows the last blank of a text

abbrev last_word : List ℕ → List ℕ → List ℕ
last_word word [] = word
last_word word (x ∷ xs) = cond (x == 32) (last_word xs xs) (last_word word xs)

abbrev IsKept : ℕ → List ℕ → Type 0
IsKept n ds = (word rest : List ℕ) → last_word word (ds ++ rest) ≡ last_word word rest

digit-kept : (n : ℕ) → n < 10 → (word rest : List ℕ) → last_word word ((48 + n) ∷ rest) ≡ last_word word rest
digit-kept n small word rest =
    let other : (48 + n == 32) ≡ false = ne_eqb (48 + n) 32 (λ e. omega arith) in
    ap (λ b. cond b (last_word rest rest) (last_word word rest)) other

decimal-kept : (n : ℕ) → n < 2 ^ 64 → IsKept n (decimal n)
decimal-kept = decimal_by_steps IsKept (λ n small word rest. digit-kept n small word rest)
    (λ n ds big before word rest.
    ap (last_word word) (append_assoc ds ((48 + n % 10) ∷ []) rest) ∙ before word ((48 + n % 10) ∷ rest) ∙ digit-kept (n % 10) (omega arith) word rest)

place-kept : (p : Place) → FitsWord p → (word : List ℕ) → last_word word (place_text p ++ 10 ∷ []) ≡ word
place-kept Batch fits word = refl
place-kept (Request at) fits word = decimal-kept at fits word (10 ∷ [])
place-kept Outcomes fits word = refl
place-kept (Outcome at) fits word = decimal-kept at fits word (10 ∷ [])
place-kept Responses fits word = refl
place-kept (Response at) fits word = decimal-kept at fits word (10 ∷ [])
place-kept Events fits word = refl
place-kept (Event at) fits word = decimal-kept at fits word (10 ∷ [])

either : (b : Bool) (x y z : List ℕ) → x ≡ z → y ≡ z → cond b x y ≡ z
either true x y z one two = one
either false x y z one two = two

after-blank : (front rest word : List ℕ) → last_word word (front ++ 32 ∷ rest) ≡ last_word rest rest
after-blank [] rest word = refl
after-blank (x ∷ xs) rest word = either (x == 32) (last_word (xs ++ 32 ∷ rest) (xs ++ 32 ∷ rest)) (last_word word (xs ++ 32 ∷ rest)) (last_word rest rest) (after-blank xs rest (xs ++ 32 ∷ rest)) (after-blank xs rest word)

line-place : (code name : List ℕ) (p : Place) → FitsWord p → last_word [] (fault_line code name p) ≡ place_text p ++ 10 ∷ []
line-place code name p fits =
    let rest = place_text p ++ 10 ∷ [] in
    let front = codes "fault " ++ (code ++ (codes " " ++ name)) in
    let cut : fault_line code name p ≡ front ++ 32 ∷ rest = simp append_assoc in
    ap (last_word []) cut ∙ after-blank front rest [] ∙ place-kept p fits rest

-- the line of a fault determines its place
pub same-place : (code name : List ℕ) (p : Place) (other different : List ℕ) (q : Place) → FitsWord p → FitsWord q → fault_line code name p ≡ fault_line other different q → p ≡ q
same-place code name p other different q fits too same =
    let ended : place_text p ++ 10 ∷ [] ≡ place_text q ++ 10 ∷ [] = sym (line-place code name p fits) ∙ ap (last_word []) same ∙ line-place other different q too in
    place-one p q fits too (append_cancel_right (place_text p) (place_text q) (10 ∷ []) ended)

-- A string is read the same from the text that ends with it.
use Rattle.std.proofs.Common.{◌≡◌, ℕ, zero, suc, Bool, true, false, cond, ◌&&◌, ◌==◌, nat_lt, List, [], ◌∷◌, length, take, ◌≤◌, Option, Some, None, option_and_then, refl, sym, ap, subst, ◌∙◌, arith}
use Rattle.std.proofs.lemmas.Bool.{true≢false, eqb-true, and_parts}
use Rattle.std.proofs.lemmas.List.{length-take}
use Rattle.std.specs.Char.{is_digit, encode_utf8}
use Rattle.json.specs.Text.{code_unit, short_escape, is_high_surrogate, is_low_surrogate, surrogate_pair, Within, plain, after_backslash, after_u, after_high, prepend, content}
use Rattle.json.specs.Word.{is_operator, is_space}
use Rattle.json.specs.Lex.{Class, quote, backslash, operator, space, other, class, Mode, between, in_word, in_string, in_escape}
use Rattle.odb_spans.specs.Extents.{extent, extent_byte}

-- the lexer's mode there
abbrev mode : Within → Mode
mode plain = in_string
mode after_backslash = in_escape
mode after_u = in_string
mode (after_high h) = in_string

-- ---- what the machine passes in a string

string-byte : (q b o s : Bool) (n x : ℕ) (k : Mode → ℕ → ℕ)
    → extent_byte in_string (cond q quote (cond b backslash (cond o operator (cond s space other)))) n x k ≡ suc (cond q (k between n) (cond b (k in_escape n) (k in_string n)))
string-byte true b o s n x k = refl
string-byte false true o s n x k = refl
string-byte false false true s n x k = refl
string-byte false false false true n x k = refl
string-byte false false false false n x k = refl

pub in-string : (n x : ℕ) (xs : List ℕ) → extent in_string n (x ∷ xs) ≡ suc (cond (x == 34) (extent between n xs) (cond (x == 92) (extent in_escape n xs) (extent in_string n xs)))
unfolding extent
in-string n x xs = string-byte (x == 34) (x == 92) (is_operator x) (is_space x) n x (λ m k. extent m k xs)

in-escape : (n x : ℕ) (xs : List ℕ) → extent in_escape n (x ∷ xs) ≡ suc (extent in_string n xs)
unfolding extent
in-escape n x xs = refl

not-this : (c x : ℕ) (t : Bool) → (t ≡ true → x ≡ c) → is_digit c 16 ≡ false → is_digit x 16 ≡ true → t ≡ false
not-this c x false e never h = refl
not-this c x true e never h = absurd (true≢false (sym h ∙ ap (λ y. is_digit y 16) (e refl) ∙ never))

at-digit : (n x : ℕ) (xs : List ℕ) → is_digit x 16 ≡ true → extent in_string n (x ∷ xs) ≡ suc (extent in_string n xs)
at-digit n x xs h =
    let quoted : (x == 34) ≡ false = not-this 34 x (x == 34) (eqb-true x 34) refl h in
    let escaped : (x == 92) ≡ false = not-this 92 x (x == 92) (eqb-true x 92) refl h in
    in-string n x xs ∙ (λ i. suc (cond (quoted i) (extent between n xs) (cond (escaped i) (extent in_escape n xs) (extent in_string n xs))))

all-hex : (h : Bool) (v u : ℕ) → cond h (Some v) None ≡ Some u → h ≡ true
all-hex true v u e = refl
all-hex false v u e = absurd (cc (e))

at-unit : (n a b c d u : ℕ) (xs : List ℕ) → code_unit a b c d ≡ Some u → extent in_string n (a ∷ b ∷ c ∷ d ∷ xs) ≡ suc (suc (suc (suc (extent in_string n xs))))
unfolding code_unit
at-unit n a b c d u xs found =
    let p = and_parts (is_digit a 16 && is_digit b 16 && is_digit c 16) (is_digit d 16) (all-hex _ _ u found) in
    let q = and_parts (is_digit a 16 && is_digit b 16) (is_digit c 16) p.0 in
    let r = and_parts (is_digit a 16) (is_digit b 16) q.0 in
    at-digit n a _ r.0 ∙ ap suc (at-digit n b _ r.1 ∙ ap suc (at-digit n c _ q.1 ∙ ap suc (at-digit n d xs p.1)))

-- ---- cases

by-plain : (q b l : Bool) (x p e s : ℕ) (xs : List ℕ) → content after_backslash (take e xs) ≡ content after_backslash xs → content plain (take s xs) ≡ content plain xs
    → cond q (Some []) (cond b (content after_backslash (take (cond q p (cond b e s)) xs)) (cond l None (prepend (x ∷ []) (content plain (take (cond q p (cond b e s)) xs)))))
    ≡ cond q (Some []) (cond b (content after_backslash xs) (cond l None (prepend (x ∷ []) (content plain xs))))
by-plain true b l x p e s xs f g = refl
by-plain false true l x p e s xs f g = f
by-plain false false true x p e s xs f g = refl
by-plain false false false x p e s xs f g = ap (prepend (x ∷ [])) g

same-if : {A : Type 0} (b : Bool) (x y u v : A) → x ≡ u → y ≡ v → cond b x y ≡ cond b u v
same-if true x y u v e f = e
same-if false x y u v e f = f

-- at most three bytes are no code unit
few : (k a b c d : ℕ) (xs : List ℕ) → code_unit a b c d ≡ None → content after_u (take k (a ∷ b ∷ c ∷ d ∷ xs)) ≡ None
unfolding content
few zero a b c d xs e = refl
few (suc zero) a b c d xs e = refl
few (suc (suc zero)) a b c d xs e = refl
few (suc (suc (suc zero))) a b c d xs e = refl
few (suc (suc (suc (suc k)))) a b c d xs e =
    ap (option_and_then (λ u. cond (is_high_surrogate u) (content (after_high u) (take k xs)) (cond (is_low_surrogate u) None (prepend (encode_utf8 u) (content plain (take k xs)))))) e

no-low : (k h s u a b c d : ℕ) (xs : List ℕ) (t : Bool) → ((s == 92) && (u == 117)) ≡ t → cond t (code_unit a b c d) None ≡ None → content (after_high h) (take k (s ∷ u ∷ a ∷ b ∷ c ∷ d ∷ xs)) ≡ None
unfolding content
no-low zero h s u a b c d xs t e f = refl
no-low (suc zero) h s u a b c d xs t e f = refl
no-low (suc (suc zero)) h s u a b c d xs t e f = refl
no-low (suc (suc (suc zero))) h s u a b c d xs t e f = refl
no-low (suc (suc (suc (suc zero)))) h s u a b c d xs t e f = refl
no-low (suc (suc (suc (suc (suc zero))))) h s u a b c d xs t e f = refl
no-low (suc (suc (suc (suc (suc (suc k)))))) h s u a b c d xs true e f =
    let low = λ (o : Option ℕ). option_and_then (λ l. cond (is_low_surrogate l) (prepend (encode_utf8 (surrogate_pair h l)) (content plain (take k xs))) None) o in
    ap (λ v. cond v (low (code_unit a b c d)) None) e ∙ ap low f
no-low (suc (suc (suc (suc (suc (suc k)))))) h s u a b c d xs false e f =
    ap (λ v. cond v (option_and_then (λ l. cond (is_low_surrogate l) (prepend (encode_utf8 (surrogate_pair h l)) (content plain (take k xs))) None) (code_unit a b c d)) None) e

no-unit : (ys : List ℕ) → length ys ≤ 3 → content after_u ys ≡ None
unfolding content
no-unit [] h = refl
no-unit (a ∷ []) h = refl
no-unit (a ∷ b ∷ []) h = refl
no-unit (a ∷ b ∷ c ∷ []) h = refl
no-unit (a ∷ b ∷ c ∷ d ∷ xs) h = absurd (omega arith)

short-unit : (ys : List ℕ) → length ys ≤ 3 → (k : ℕ) → content after_u (take k ys) ≡ content after_u ys
short-unit ys h k = no-unit (take k ys) (omega (arith, length-take k ys)) ∙ sym (no-unit ys h)

no-pair : (h : ℕ) (ys : List ℕ) → length ys ≤ 5 → content (after_high h) ys ≡ None
unfolding content
no-pair h [] le = refl
no-pair h (s ∷ []) le = refl
no-pair h (s ∷ u ∷ []) le = refl
no-pair h (s ∷ u ∷ a ∷ []) le = refl
no-pair h (s ∷ u ∷ a ∷ b ∷ []) le = refl
no-pair h (s ∷ u ∷ a ∷ b ∷ c ∷ []) le = refl
no-pair h (s ∷ u ∷ a ∷ b ∷ c ∷ d ∷ xs) le = absurd (omega arith)

short-pair : (h : ℕ) (ys : List ℕ) → length ys ≤ 5 → (k : ℕ) → content (after_high h) (take k ys) ≡ content (after_high h) ys
short-pair h ys le k = no-pair h (take k ys) (omega (arith, length-take k ys)) ∙ sym (no-pair h ys le)

module _ (n : ℕ) where
  -- the content of what the machine passes
  abbrev passed : Within → List ℕ → Option (List ℕ)
  passed w xs = content w (take (extent (mode w) n xs) xs)

  after-unit : (o : Option ℕ) (a b c d : ℕ) (xs : List ℕ) → code_unit a b c d ≡ o → ((h : ℕ) → passed (after_high h) xs ≡ content (after_high h) xs) → passed plain xs ≡ content plain xs
      → passed after_u (a ∷ b ∷ c ∷ d ∷ xs) ≡ content after_u (a ∷ b ∷ c ∷ d ∷ xs)
  unfolding content
  after-unit None a b c d xs e high low = few _ a b c d xs e ∙ sym (ap (option_and_then (λ u. cond (is_high_surrogate u) (content (after_high u) xs) (cond (is_low_surrogate u) None (prepend (encode_utf8 u) (content plain xs))))) e)
  after-unit (Some v) a b c d xs e high low =
      let unit = λ (ys : List ℕ) (o : Option ℕ). option_and_then (λ u. cond (is_high_surrogate u) (content (after_high u) ys) (cond (is_low_surrogate u) None (prepend (encode_utf8 u) (content plain ys)))) o in
      ap (λ k. content after_u (take k (a ∷ b ∷ c ∷ d ∷ xs))) (at-unit n a b c d v xs e)
      ∙ ap (unit (take (extent in_string n xs) xs)) e
      ∙ same-if (is_high_surrogate v) _ _ _ _ (high v) (same-if (is_low_surrogate v) _ _ _ _ refl (ap (prepend (encode_utf8 v)) low))
      ∙ sym (ap (unit xs) e)

  after-pair : (t : Bool) (o : Option ℕ) (h s u a b c d : ℕ) (xs : List ℕ) → ((s == 92) && (u == 117)) ≡ t → code_unit a b c d ≡ o → passed plain xs ≡ content plain xs
      → passed (after_high h) (s ∷ u ∷ a ∷ b ∷ c ∷ d ∷ xs) ≡ content (after_high h) (s ∷ u ∷ a ∷ b ∷ c ∷ d ∷ xs)
  unfolding content
  after-pair false o h s u a b c d xs e f same =
      no-low _ h s u a b c d xs false e refl
      ∙ sym (ap (λ v. cond v (option_and_then (λ l. cond (is_low_surrogate l) (prepend (encode_utf8 (surrogate_pair h l)) (content plain xs)) None) (code_unit a b c d)) None) e)
  after-pair true None h s u a b c d xs e f same =
      let low = λ (ys : List ℕ) (o : Option ℕ). option_and_then (λ l. cond (is_low_surrogate l) (prepend (encode_utf8 (surrogate_pair h l)) (content plain ys)) None) o in
      no-low _ h s u a b c d xs true e f ∙ sym (ap (λ v. cond v (low xs (code_unit a b c d)) None) e ∙ ap (low xs) f)
  after-pair true (Some v) h s u a b c d xs e f same =
      let low = λ (ys : List ℕ) (o : Option ℕ). option_and_then (λ l. cond (is_low_surrogate l) (prepend (encode_utf8 (surrogate_pair h l)) (content plain ys)) None) o in
      let escaped : (s == 92) ≡ true = (and_parts _ _ e).0 in
      let first : extent in_string n (s ∷ u ∷ a ∷ b ∷ c ∷ d ∷ xs) ≡ suc (suc (suc (suc (suc (suc (extent in_string n xs))))))
      = ap (λ y. extent in_string n (y ∷ u ∷ a ∷ b ∷ c ∷ d ∷ xs)) (eqb-true s 92 escaped) ∙ in-string n 92 _ ∙ ap suc (in-escape n u _ ∙ ap suc (at-unit n a b c d v xs f)) in
      ap (λ k. content (after_high h) (take k (s ∷ u ∷ a ∷ b ∷ c ∷ d ∷ xs))) first
      ∙ ap (λ w. cond w (low (take (extent in_string n xs) xs) (code_unit a b c d)) None) e
      ∙ ap (low (take (extent in_string n xs) xs)) f
      ∙ same-if (is_low_surrogate v) _ _ _ _ (ap (prepend (encode_utf8 (surrogate_pair h v))) same) refl
      ∙ sym (ap (λ w. cond w (low xs (code_unit a b c d)) None) e ∙ ap (low xs) f)

  escape-then : (o : Option ℕ) (x y : Option (List ℕ)) → x ≡ y → option_and_then (λ c. prepend (c ∷ []) x) o ≡ option_and_then (λ c. prepend (c ∷ []) y) o
  escape-then o x y e = ap (λ z. option_and_then (λ c. prepend (c ∷ []) z) o) e

  pub content-passed : (w : Within) (xs : List ℕ) → passed w xs ≡ content w xs
  unfolding content extent
  content-passed plain [] = refl
  content-passed plain (x ∷ xs) =
      ap (λ k. content plain (take k (x ∷ xs))) (in-string n x xs)
      ∙ by-plain (x == 34) (x == 92) (nat_lt x 32) x _ _ _ xs (content-passed after_backslash xs) (content-passed plain xs)
  content-passed after_backslash [] = refl
  content-passed after_backslash (x ∷ xs) =
      same-if (x == 117) _ _ _ _ (content-passed after_u xs) (escape-then (short_escape x) _ _ (content-passed plain xs))
  content-passed after_u [] = refl
  content-passed after_u (a ∷ []) = short-unit (a ∷ []) (omega arith) _
  content-passed after_u (a ∷ b ∷ []) = short-unit (a ∷ b ∷ []) (omega arith) _
  content-passed after_u (a ∷ b ∷ c ∷ []) = short-unit (a ∷ b ∷ c ∷ []) (omega arith) _
  content-passed after_u (a ∷ b ∷ c ∷ d ∷ xs) = after-unit _ a b c d xs refl (λ h. content-passed (after_high h) xs) (content-passed plain xs)
  content-passed (after_high h) [] = refl
  content-passed (after_high h) (s ∷ []) = short-pair h (s ∷ []) (omega arith) _
  content-passed (after_high h) (s ∷ u ∷ []) = short-pair h (s ∷ u ∷ []) (omega arith) _
  content-passed (after_high h) (s ∷ u ∷ a ∷ []) = short-pair h (s ∷ u ∷ a ∷ []) (omega arith) _
  content-passed (after_high h) (s ∷ u ∷ a ∷ b ∷ []) = short-pair h (s ∷ u ∷ a ∷ b ∷ []) (omega arith) _
  content-passed (after_high h) (s ∷ u ∷ a ∷ b ∷ c ∷ []) = short-pair h (s ∷ u ∷ a ∷ b ∷ c ∷ []) (omega arith) _
  content-passed (after_high h) (s ∷ u ∷ a ∷ b ∷ c ∷ d ∷ xs) = after-pair _ _ h s u a b c d xs refl refl (content-passed plain xs)

-- ---- the string is closed

abbrev pub closes_byte : Mode → Class → (Mode → Bool) → Bool
closes_byte between c k = true
closes_byte in_word c k = true
closes_byte in_string quote k = true
closes_byte in_string backslash k = k in_escape
closes_byte in_string operator k = k in_string
closes_byte in_string space k = k in_string
closes_byte in_string other k = k in_string
closes_byte in_escape c k = k in_string

abbrev ends_closed : Mode → Bool
ends_closed between = true
ends_closed in_word = true
ends_closed in_string = false
ends_closed in_escape = false

-- the string that the lexer is in, if any, ends in these bytes
unfoldable pub closes : Mode → List ℕ → Bool
closes m [] = ends_closed m
closes m (x ∷ xs) = closes_byte m (class x) (λ k. closes k xs)

closes-string-byte : (q b o s : Bool) (k : Mode → Bool) → closes_byte in_string (cond q quote (cond b backslash (cond o operator (cond s space other)))) k ≡ cond q true (cond b (k in_escape) (k in_string))
closes-string-byte true b o s k = refl
closes-string-byte false true o s k = refl
closes-string-byte false false true s k = refl
closes-string-byte false false false true k = refl
closes-string-byte false false false false k = refl

closes-string : (x : ℕ) (xs : List ℕ) → closes in_string (x ∷ xs) ≡ cond (x == 34) true (cond (x == 92) (closes in_escape xs) (closes in_string xs))
unfolding closes
closes-string x xs = closes-string-byte (x == 34) (x == 92) (is_operator x) (is_space x) (λ k. closes k xs)

closes-escape : (x : ℕ) (xs : List ℕ) → closes in_escape (x ∷ xs) ≡ closes in_string xs
unfolding closes
closes-escape x xs = refl

closes-digit : (x : ℕ) (xs : List ℕ) → is_digit x 16 ≡ true → closes in_string (x ∷ xs) ≡ closes in_string xs
closes-digit x xs h =
    let quoted : (x == 34) ≡ false = not-this 34 x (x == 34) (eqb-true x 34) refl h in
    let escaped : (x == 92) ≡ false = not-this 92 x (x == 92) (eqb-true x 92) refl h in
    closes-string x xs ∙ (λ i. cond (quoted i) true (cond (escaped i) (closes in_escape xs) (closes in_string xs)))

closes-unit : (a b c d u : ℕ) (xs : List ℕ) → code_unit a b c d ≡ Some u → closes in_string (a ∷ b ∷ c ∷ d ∷ xs) ≡ closes in_string xs
unfolding code_unit
closes-unit a b c d u xs found =
    let p = and_parts (is_digit a 16 && is_digit b 16 && is_digit c 16) (is_digit d 16) (all-hex _ _ u found) in
    let q = and_parts (is_digit a 16 && is_digit b 16) (is_digit c 16) p.0 in
    let r = and_parts (is_digit a 16) (is_digit b 16) q.0 in
    closes-digit a _ r.0 ∙ closes-digit b _ r.1 ∙ closes-digit c _ q.1 ∙ closes-digit d xs p.1

-- what follows a prefix was read
abbrev IsRead : Option (List ℕ) → Type 0
IsRead None = ⊥
IsRead (Some s) = Unit {0}

was-read : (bytes : List ℕ) (o : Option (List ℕ)) → IsRead (prepend bytes o) → IsRead o
was-read bytes None h = h
was-read bytes (Some s) h = tt

read-plain : (q b l e s : Bool) (x : ℕ) (xs : List ℕ) → (IsRead (content after_backslash xs) → e ≡ true) → (IsRead (content plain xs) → s ≡ true)
    → IsRead (cond q (Some []) (cond b (content after_backslash xs) (cond l None (prepend (x ∷ []) (content plain xs))))) → cond q true (cond b e s) ≡ true
read-plain true b l e s x xs f g h = refl
read-plain false true l e s x xs f g h = f h
read-plain false false true e s x xs f g h = absurd h
read-plain false false false e s x xs f g h = g (was-read (x ∷ []) (content plain xs) h)

read-escape : (u : Bool) (o : Option ℕ) (s : Bool) (xs : List ℕ) → (IsRead (content after_u xs) → s ≡ true) → (IsRead (content plain xs) → s ≡ true) → IsRead (cond u (content after_u xs) (option_and_then (λ c. prepend (c ∷ []) (content plain xs)) o)) → s ≡ true
read-escape true o s xs f g h = f h
read-escape false None s xs f g h = absurd h
read-escape false (Some c) s xs f g h = g (was-read (c ∷ []) (content plain xs) h)

read-unit : (hi lo : Bool) (v : ℕ) (s : Bool) (xs : List ℕ) → (IsRead (content (after_high v) xs) → s ≡ true) → (IsRead (content plain xs) → s ≡ true)
    → IsRead (cond hi (content (after_high v) xs) (cond lo None (prepend (encode_utf8 v) (content plain xs)))) → s ≡ true
read-unit true lo v s xs f g h = f h
read-unit false true v s xs f g h = absurd h
read-unit false false v s xs f g h = g (was-read (encode_utf8 v) (content plain xs) h)

closes-after-unit : (o : Option ℕ) (a b c d : ℕ) (xs : List ℕ) → code_unit a b c d ≡ o → ((v : ℕ) → IsRead (content (after_high v) xs) → closes in_string xs ≡ true) → (IsRead (content plain xs) → closes in_string xs ≡ true)
    → IsRead (option_and_then (λ u. cond (is_high_surrogate u) (content (after_high u) xs) (cond (is_low_surrogate u) None (prepend (encode_utf8 u) (content plain xs)))) o) → closes in_string (a ∷ b ∷ c ∷ d ∷ xs) ≡ true
closes-after-unit None a b c d xs e f g h = absurd h
closes-after-unit (Some v) a b c d xs e f g h = closes-unit a b c d v xs e ∙ read-unit (is_high_surrogate v) (is_low_surrogate v) v (closes in_string xs) xs (f v) g h

read-pair : (lo : Bool) (v : ℕ) (bytes : List ℕ) (s : Bool) (xs : List ℕ) → (IsRead (content plain xs) → s ≡ true) → IsRead (cond lo (prepend bytes (content plain xs)) None) → s ≡ true
read-pair true v bytes s xs g h = g (was-read bytes (content plain xs) h)
read-pair false v bytes s xs g h = absurd h

closes-after-pair : (t : Bool) (o : Option ℕ) (high s u a b c d : ℕ) (xs : List ℕ) → ((s == 92) && (u == 117)) ≡ t → code_unit a b c d ≡ o → (IsRead (content plain xs) → closes in_string xs ≡ true)
    → IsRead (cond t (option_and_then (λ l. cond (is_low_surrogate l) (prepend (encode_utf8 (surrogate_pair high l)) (content plain xs)) None) o) None) → closes in_string (s ∷ u ∷ a ∷ b ∷ c ∷ d ∷ xs) ≡ true
closes-after-pair false o high s u a b c d xs is e g h = absurd h
closes-after-pair true None high s u a b c d xs is e g h = absurd h
closes-after-pair true (Some v) high s u a b c d xs is e g h =
    let escaped : s ≡ 92 = eqb-true s 92 (and_parts _ _ is).0 in
    ap (λ y. closes in_string (y ∷ u ∷ a ∷ b ∷ c ∷ d ∷ xs)) escaped ∙ closes-string 92 _ ∙ closes-escape u _ ∙ closes-unit a b c d v xs e
    ∙ read-pair (is_low_surrogate v) v (encode_utf8 (surrogate_pair high v)) (closes in_string xs) xs g h

-- a string whose content is read is closed
pub content-closes : (w : Within) (xs : List ℕ) → IsRead (content w xs) → closes (mode w) xs ≡ true
unfolding content
content-closes plain [] h = absurd h
content-closes plain (x ∷ xs) h =
    closes-string x xs ∙ read-plain (x == 34) (x == 92) (nat_lt x 32) (closes in_escape xs) (closes in_string xs) x xs (content-closes after_backslash xs) (content-closes plain xs) h
content-closes after_backslash [] h = absurd h
content-closes after_backslash (x ∷ xs) h = closes-escape x xs ∙ read-escape (x == 117) (short_escape x) (closes in_string xs) xs (content-closes after_u xs) (content-closes plain xs) h
content-closes after_u [] h = absurd h
content-closes after_u (a ∷ []) h = absurd h
content-closes after_u (a ∷ b ∷ []) h = absurd h
content-closes after_u (a ∷ b ∷ c ∷ []) h = absurd h
content-closes after_u (a ∷ b ∷ c ∷ d ∷ xs) h = closes-after-unit (code_unit a b c d) a b c d xs refl (λ v. content-closes (after_high v) xs) (content-closes plain xs) h
content-closes (after_high v) [] h = absurd h
content-closes (after_high v) (s ∷ []) h = absurd h
content-closes (after_high v) (s ∷ u ∷ []) h = absurd h
content-closes (after_high v) (s ∷ u ∷ a ∷ []) h = absurd h
content-closes (after_high v) (s ∷ u ∷ a ∷ b ∷ []) h = absurd h
content-closes (after_high v) (s ∷ u ∷ a ∷ b ∷ c ∷ []) h = absurd h
content-closes (after_high v) (s ∷ u ∷ a ∷ b ∷ c ∷ d ∷ xs) h = closes-after-pair ((s == 92) && (u == 117)) (code_unit a b c d) v s u a b c d xs refl refl (content-closes plain xs) h

pub read-closes : (xs : List ℕ) (s : List ℕ) → content plain xs ≡ Some s → closes in_string xs ≡ true
read-closes xs s e = content-closes plain xs (subst IsRead (sym e) tt)

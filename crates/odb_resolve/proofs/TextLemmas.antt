-- The longest run of a text, the segments of a path, and its last slash.
use Rattle.std.proofs.Common.{◌≡◌, ◌≢◌, ◌+◌, ◌-◌, ◌<◌, ◌≤◌, ℕ, zero, suc, Bool, true, false, ◌||◌, ◌==◌, List, [], ◌∷◌, ◌++◌, length, take, drop, get_or, refl, sym, ap, ◌∙◌, subst, inl, inr, eq-eqb, ltb, arith}
use Rattle.std.specs.List.{AllPass, list_any}
use Rattle.std.proofs.lemmas.Bool.{cases_Bool, ne_eqb, lt-ltb, false≢true}
use Rattle.std.proofs.lemmas.List.{take_all}
use Rattle.std.proofs.lemmas.List.Elements.{All-head, All-tail}
use Rattle.odb_resolve.specs.Classes.{SplitsRun, HasNoSlash}
use Rattle.odb_resolve.specs.Texts.{run, rest, begins, slash, is_slash, segments, folder_len}
use Rattle.odb_resolve.specs.Urls.{is_in_segment}
use Rattle.odb_resolve.specs.Dots.{is_end, take_segment, take_segments}
use Rattle.odb_resolve.specs.Safety.{is_dots}

-- by the bytes of the run, one by one
same_split : (test : ℕ → Bool) (front back : List ℕ) → AllPass test front → ((first : ℕ) (more : List ℕ) → back ≡ first ∷ more → test first ≡ false) → (front ≡ run test (front ++ back)) × (back ≡ rest test (front ++ back))
same_split test [] [] passes stops = (refl, refl)
same_split test [] (x ∷ more) passes stops = let fails : test x ≡ false = stops x more refl in (rw fails, rw fails)
same_split test (x ∷ front) back passes stops =
    let Passes : ℕ → Type 0 = λ byte. test byte ≡ true in
    let first : test x ≡ true = All-head Passes x front passes in
    let tails = same_split test front back (All-tail Passes x front passes) stops in
    (rw first (ap (λ text. x ∷ text) tails.0), rw first tails.1)

-- a text is split in one way
pub split_is_run : (test : ℕ → Bool) (text front back : List ℕ) → SplitsRun test text front back → (front ≡ run test text) × (back ≡ rest test text)
split_is_run test text front back splits =
    subst (λ (whole : List ℕ). (front ≡ run test whole) × (back ≡ rest test whole)) (sym splits.whole) (same_split test front back splits.passes splits.stops)

-- the segments of what follows the first one, which begins with `/` if it is not empty
abbrev pub later : List ℕ → List (List ℕ)
later [] = []
later (first ∷ more) = segments more

-- the first segment, and the others
pub segments_cut : (text : List ℕ) → segments text ≡ run is_in_segment text ∷ later (rest is_in_segment text)
segments_cut [] = refl
segments_cut (x ∷ more) =
    elim (cases_Bool (is_slash x)) [
      | inl cuts ↦ rw cuts refl
      | inr inside ↦ rw (inside, segments_cut more) refl
    ]

pub folder_none : (text : List ℕ) → HasNoSlash text → folder_len text ≡ 0
folder_none [] none = refl
folder_none (x ∷ more) none =
    let other : is_slash x ≡ false = ne_eqb x slash (All-head (λ byte. byte ≢ slash) x more none) in
    rw (folder_none more (All-tail (λ byte. byte ≢ slash) x more none), other) refl

pub folder_at : (text : List ℕ) (i : ℕ) → i < length text → get_or text i 0 ≡ slash → HasNoSlash (drop (i + 1) text) → folder_len text ≡ i + 1
folder_at [] i within found none = absurd (omega arith)
folder_at (x ∷ more) zero within found none =
    let after : folder_len more ≡ 0 = folder_none more none in
    let here : is_slash x ≡ true = eq-eqb x slash found in
    rw (after, here) refl
folder_at (x ∷ more) (suc i) within found none =
    let shift : suc i + 1 ≡ suc (i + 1) = omega arith in
    let later : HasNoSlash (drop (i + 1) more) = subst (λ (n : ℕ). HasNoSlash (drop n (x ∷ more))) shift none in
    let after : folder_len more ≡ i + 1 = folder_at more i (omega arith) found later in
    let some : ltb 0 (folder_len more) ≡ true = lt-ltb 0 (folder_len more) (omega arith) in
    rw some (omega arith)

end_is_empty : (after : List ℕ) → is_end (later after) ≡ (length after == 0)
end_is_empty [] = refl
end_is_empty (x ∷ more) = rw (segments_cut more) (sym (ne_eqb (length (x ∷ more)) 0 (λ none. omega arith)))

-- whether a segment has dots: the first one, or a later one
pub dots_cut : (text : List ℕ) → list_any is_dots (segments text) ≡ (is_dots (run is_in_segment text) || list_any is_dots (later (rest is_in_segment text)))
dots_cut text = ap (list_any is_dots) (segments_cut text)

-- the first segment is taken, and then the later ones
pub taken_cut : (output text : List ℕ) → take_segments output (segments text) ≡ take_segments (take_segment output (run is_in_segment text) (length (rest is_in_segment text) == 0)) (later (rest is_in_segment text))
taken_cut output text =
    ap (take_segments output) (segments_cut text)
    ∙ ap (λ (is_last : Bool). take_segments (take_segment output (run is_in_segment text) is_last) (later (rest is_in_segment text))) (end_is_empty (rest is_in_segment text))

-- what follows the first segment, without the slash that it begins with
inner : (after : List ℕ) → 1 ≤ length after → later after ≡ segments (take (length after - 1) (drop 1 after))
inner [] some = absurd (omega arith)
inner (x ∷ more) some = ap segments (sym (take_all (length (x ∷ more) - 1) more (omega arith)))

later_none : (after : List ℕ) → length after < 1 → later after ≡ []
later_none [] none = refl
later_none (x ∷ more) none = absurd (omega arith)

pub some_begins : (test : ℕ → Bool) (text : List ℕ) → begins test text ≡ true → 1 ≤ length text
some_begins test [] e = absurd (false≢true e)
some_begins test (x ∷ more) e = omega arith

module _ (text front after : List ℕ) (is_front : front ≡ run is_in_segment text) (is_after : after ≡ rest is_in_segment text) where
  -- whether a segment has dots, by the first segment and what follows it
  dots_parts : list_any is_dots (segments text) ≡ (is_dots front || list_any is_dots (later after))
  dots_parts = dots_cut text ∙ ap (λ (name : List ℕ). is_dots name || list_any is_dots (later (rest is_in_segment text))) (sym is_front) ∙ ap (λ (more : List ℕ). is_dots front || list_any is_dots (later more)) (sym is_after)

  pub dots_first : is_dots front ≡ true → list_any is_dots (segments text) ≡ true
  dots_first found = dots_parts ∙ ap (λ (first : Bool). first || list_any is_dots (later after)) found

  pub dots_last : is_dots front ≡ false → length after < 1 → list_any is_dots (segments text) ≡ false
  dots_last other none =
      dots_parts ∙ ap (λ (first : Bool). first || list_any is_dots (later after)) other ∙ ap (list_any is_dots) (later_none after none)

  pub dots_more : is_dots front ≡ false → 1 ≤ length after → list_any is_dots (segments (take (length after - 1) (drop 1 after))) ≡ list_any is_dots (segments text)
  dots_more other some =
      sym (dots_parts ∙ ap (λ (first : Bool). first || list_any is_dots (later after)) other ∙ ap (list_any is_dots) (inner after some))

  -- the output once the first segment is taken
  pub taken_last : (output result : List ℕ) → result ≡ take_segment output front (length after == 0) → length after < 1 → result ≡ take_segments output (segments text)
  taken_last output result taken none =
      taken ∙ ap (λ (name : List ℕ). take_segment output name (length after == 0)) is_front
      ∙ ap (λ (more : List ℕ). take_segment output (run is_in_segment text) (length more == 0)) is_after
      ∙ ap (λ (more : List (List ℕ)). take_segments (take_segment output (run is_in_segment text) (length (rest is_in_segment text) == 0)) more) (sym (later_none after none) ∙ ap later is_after)
      ∙ sym (taken_cut output text)

  pub taken_more : (output result : List ℕ) → result ≡ take_segment output front (length after == 0) → 1 ≤ length after → take_segments result (segments (take (length after - 1) (drop 1 after))) ≡ take_segments output (segments text)
  taken_more output result taken some =
      ap (take_segments result) (sym (inner after some) ∙ ap later is_after)
      ∙ ap (λ (more : List ℕ). take_segments more (later (rest is_in_segment text))) (taken ∙ ap (λ (name : List ℕ). take_segment output name (length after == 0)) is_front ∙ ap (λ (more : List ℕ). take_segment output (run is_in_segment text) (length more == 0)) is_after)
      ∙ sym (taken_cut output text)

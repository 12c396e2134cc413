-- A text has one name without the blanks at its ends, which is what the code cuts, and the kind that the name asks for
-- determines which bodies are allowed.
use Rattle.std.proofs.Common.{◌≡◌, ◌∙◌, ◌||◌, ◌==◌, ◌<◌, ℕ, Bool, true, false, not, List, [], ◌∷◌, ◌++◌, length, drop, get_or, refl, ap, ap₂, sym, subst, true≢false, take-append-drop, length-drop, arith}
use Rattle.std.specs.Char.{is_ascii_uppercase, to_ascii_lowercase}
use Rattle.std.specs.List.{AllPass, before_first, list_any, position_or_len}
use Rattle.std.specs.Str.{str_to_ascii_lowercase}
use Rattle.std.proofs.lemmas.Bool.Decides.{nat_tests}
use Rattle.std.proofs.lemmas.List.{drop_more, get_or-take, length-take}
use Rattle.std.proofs.lemmas.List.Elements.{All-head, All-tail}
use Rattle.std.proofs.lemmas.List.Sums.{fails_before_first, passes_at_first}
use Rattle.odb_names.specs.Runs.{SplitsRun}
use Rattle.serde_json.specs.Data.{Data}
use Rattle.odb_doc.specs.declared.batch.media_type.BodyKind.{BodyKind}
use Rattle.odb_doc.specs.declared.batch.media_type.BodyKind.TheVariants.{Any, Text, Base64Url}
use Rattle.odb_doc.specs.batch.MediaTypes.{is_blank, is_in_type, TypeAllows, AllowsBody, HasType, IsEndOf, IsTrimmed}
use Rattle.odb_doc.specs.batch.BodyKinds.{AsksFor, HasKind, IsOfKind}

abbrev IsBlank : ℕ → Type 0
IsBlank byte = is_blank byte ≡ true

-- the text does not end with a blank
abbrev Ends : List ℕ → Type 0
Ends name = (more : List ℕ) (last : ℕ) → name ≡ more ++ last ∷ [] → is_blank last ≡ false

blank-absurd : (byte : ℕ) → is_blank byte ≡ true → is_blank byte ≡ false → ⊥
blank-absurd byte is not = true≢false (sym is ∙ not)

Ends-tail : (x : ℕ) (name : List ℕ) → Ends (x ∷ name) → Ends name
Ends-tail x name ends = λ more last is. ends (x ∷ more) last (ap (λ rest. x ∷ rest) is)

-- a text of blanks ends with one
blank-ends : (x : ℕ) (name after : List ℕ) → AllPass is_blank (x ∷ (name ++ after)) → Ends (x ∷ name) → ⊥
blank-ends x [] after blanks ends = blank-absurd x (All-head IsBlank x after blanks) (ends [] x refl)
blank-ends x (y ∷ name) after blanks ends =
    blank-ends y name after (All-tail IsBlank x (y ∷ (name ++ after)) blanks) (Ends-tail x (y ∷ name) ends)

same_end : (name after name' after' : List ℕ) → AllPass is_blank after → AllPass is_blank after' → Ends name → Ends name' → name ++ after ≡ name' ++ after' → name ≡ name'
same_end [] after [] after' blanks blanks' ends ends' same = refl
same_end [] after (y ∷ name') after' blanks blanks' ends ends' same =
    absurd (blank-ends y name' after' (subst (AllPass is_blank) same blanks) ends')
same_end (x ∷ name) after [] after' blanks blanks' ends ends' same =
    absurd (blank-ends x name after (subst (AllPass is_blank) (sym same) blanks') ends)
same_end (x ∷ name) after (y ∷ name') after' blanks blanks' ends ends' same =
    let rest : name ≡ name' = same_end name after name' after' blanks blanks' (Ends-tail x name ends) (Ends-tail y name' ends') (cc) in
    cc

-- a text is split in one way after its longest run
abbrev pub AreOneRun : Type 0
AreOneRun = (test : ℕ → Bool) (text run rest other left : List ℕ) → SplitsRun test text run rest → SplitsRun test text other left → (run ≡ other) × (rest ≡ left)

-- two names of a text are the same
same_name : AreOneRun → {text name other : List ℕ} → IsTrimmed text name → IsTrimmed text other → name ≡ other
same_name runs {text} {name} {other} one two =
    let rest : one.rest ≡ two.rest = (runs is_blank text one.before one.rest two.before two.rest one.leading two.leading).1 in
    let last : IsEndOf two.rest name = subst (λ (r : List ℕ). IsEndOf r name) rest one.trailing in
    same_end name last.after other two.trailing.after last.blanks two.trailing.blanks last.ends two.trailing.ends (sym last.whole ∙ two.trailing.whole)

-- ---- bodies by the kind that is asked for

allowed : (name : List ℕ) (kind : BodyKind) (body : Data) → AsksFor name kind → IsOfKind kind body → TypeAllows name body
allowed name Any body asks is = record { text = λ other. absurd (other asks); other = λ other. absurd (other asks) }
allowed name Text body asks is = record { text = λ _ _. is; other = λ _ other. absurd (other asks.0) }
allowed name Base64Url body asks is = record { text = λ _ text. absurd (asks.0 text); other = λ _ _. is }

kind_of : (name : List ℕ) (kind : BodyKind) (body : Data) → AsksFor name kind → TypeAllows name body → IsOfKind kind body
kind_of name Any body asks allows = tt
kind_of name Text body asks allows = allows.text asks.1 asks.0
kind_of name Base64Url body asks allows = allows.other asks.1 asks.0

pub kind_fits : {value : List ℕ} {kind : BodyKind} {body : Data} → HasKind value kind → IsOfKind kind body → AllowsBody value body
kind_fits {value} {kind} {body} has is = record {
  name = has.name;
  has = has.has;
  allows = allowed (str_to_ascii_lowercase has.name) kind body has.asks is;
}

same_type : AreOneRun → {value name other : List ℕ} → HasType value name → HasType value other → name ≡ other
same_type runs {value} {name} {other} one two =
    let text : one.text ≡ two.text = (runs is_in_type value one.text one.parameters two.text two.parameters one.splits two.splits).0 in
    same_name runs (subst (λ (t : List ℕ). IsTrimmed t name) text one.trimmed) two.trimmed

pub fits_kind : AreOneRun → {value : List ℕ} {kind : BodyKind} {body : Data} → HasKind value kind → AllowsBody value body → IsOfKind kind body
fits_kind runs {value} {kind} {body} has fits =
    let name : has.name ≡ fits.name = same_type runs has.has fits.has in
    kind_of (str_to_ascii_lowercase fits.name) kind body (subst (λ (n : List ℕ). AsksFor (str_to_ascii_lowercase n) kind) name has.asks) fits.allows

-- ---- a text that is in lower case already

no_head : (b c : Bool) → (b || c) ≡ false → b ≡ false
no_head true c is = absurd (cc (is))
no_head false c is = refl

no_tail : (b c : Bool) → (b || c) ≡ false → c ≡ false
no_tail true c is = absurd (cc (is))
no_tail false c is = is

lower_here : (c : ℕ) → is_ascii_uppercase c ≡ false → to_ascii_lowercase c ≡ c
lower_here c is = grind (arith, nat_tests, is)

pub lower_same : (text : List ℕ) → list_any is_ascii_uppercase text ≡ false → str_to_ascii_lowercase text ≡ text
lower_same [] none = refl
lower_same (c ∷ text) none = ap₂ (λ x xs. x ∷ xs) (lower_here c (no_head _ _ none)) (lower_same text (no_tail _ _ none))

-- ---- the text before the parameters

-- `;`
abbrev pub ends_type : ℕ → Bool
ends_type byte = byte == 59

-- the text up to the first `;`, or all of it
pub type_before : (text : List ℕ) → (rest : List ℕ) × SplitsRun is_in_type text (before_first ends_type text) rest
type_before text =
    let n = position_or_len ends_type text in (
      drop n text,
      record {
        whole = sym (take-append-drop n text);
        passes = λ k d less.
            let within : k < n = omega (arith, length-take n text, less) in
            ap not (ap ends_type (get_or-take n text k d within) ∙ fails_before_first ends_type text k d within);
        stops = λ first more is.
            let long : n < length text = omega (arith, length-drop n text, ap length is) in
            let here : get_or text n first ≡ first = cc (drop_more text n first long, is) in
            ap not (ap ends_type (sym here) ∙ passes_at_first ends_type text first long);
      },
    )

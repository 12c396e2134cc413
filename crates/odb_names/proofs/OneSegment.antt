-- A URL has one last segment.
use Rattle.std.proofs.Common.{◌≡◌, ◌≢◌, ℕ, List, [], ◌∷◌, ◌++◌, refl, sym, subst, inl, inr}
use Rattle.std.proofs.lemmas.List.Elements.{All-head, All-tail}
use Rattle.odb_names.specs.Segments.{slash, HasNoSlash, EndsSegment, IsLastSegment}
use Rattle.odb_names.proofs.OneRun.{same_run}

-- no text with a `/` is without one
has_slash : (more segment : List ℕ) → HasNoSlash ((more ++ slash ∷ []) ++ segment) → ⊥
has_slash [] segment none = All-head (λ byte. byte ≢ slash) slash segment none refl
has_slash (x ∷ more) segment none = has_slash more segment (All-tail (λ byte. byte ≢ slash) x _ none)

-- a prefix of a text without `/` does not end a segment
ends_later : (x : ℕ) (before segment : List ℕ) → EndsSegment (x ∷ before) → HasNoSlash ((x ∷ before) ++ segment) → ⊥
ends_later x before segment (inl is_empty) none = absurd (cc)
ends_later x before segment (inr (more, ends)) none =
    has_slash more segment (subst (λ (text : List ℕ). HasNoSlash (text ++ segment)) ends none)

-- also without its first character
ends_tail : (x : ℕ) (before : List ℕ) → EndsSegment (x ∷ before) → EndsSegment before
ends_tail x before (inl is_empty) = absurd (cc)
ends_tail x before (inr ([], ends)) = inl (cc)
ends_tail x before (inr (y ∷ more, ends)) = inr (more, (cc))

-- by the characters of the two prefixes, one by one
same_end : (before segment before' segment' : List ℕ) → EndsSegment before → EndsSegment before' → HasNoSlash segment → HasNoSlash segment' → before ++ segment ≡ before' ++ segment' → segment ≡ segment'
same_end [] segment [] segment' _ _ _ _ same = same
same_end [] segment (x ∷ before') segment' _ ends none _ same =
    absurd (ends_later x before' segment' ends (subst HasNoSlash same none))
same_end (x ∷ before) segment [] segment' ends _ _ none same =
    absurd (ends_later x before segment ends (subst HasNoSlash (sym same) none))
same_end (x ∷ before) segment (y ∷ before') segment' ends ends' none none' same =
    same_end before segment before' segment' (ends_tail x before ends) (ends_tail y before' ends') none none' (cc)

-- two last segments of a URL are the same
pub same_last : {url segment segment' : List ℕ} → IsLastSegment url segment → IsLastSegment url segment' → segment ≡ segment'
same_last {url} {segment} {segment'} one other =
    same_end one.before segment other.before segment' one.starts other.starts one.inside other.inside (same_run one.path other.path).0

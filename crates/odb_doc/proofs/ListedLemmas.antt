-- A list of all faults of one kind, made in the order of position and number.
use Rattle.std.proofs.Common.{◌≡◌, ◌∙◌, ◌<◌, ◌+◌, ◌⊎◌, ℕ, zero, suc, inl, inr, List, [], ◌∷◌, ◌++◌, length, get_or, refl, sym, subst, arith}
use Rattle.std.specs.Prelude.{Contains}
use Rattle.std.specs.List.{AllAdjacentBelow}
use Rattle.std.proofs.lemmas.Bool.{cases_order}
use Rattle.std.proofs.lemmas.List.{length-append, get_or_append_left}
use Rattle.std.proofs.lemmas.List.Elements.{Contains-push, Contains-push_cases, Contains-append_left, Contains-get_or}
use Rattle.std.proofs.Math.Seq.{get_or-append_seam}
use Rattle.odb_doc.specs.AllFaults.{IsBefore, ListsAll}
use Rattle.odb_doc.specs.LeastRules.{IsLeast}
use Rattle.odb_doc.specs.ListsBelow.{ListsBelow}

-- ---- the order of places

pub before_trans : (x y z : ℕ × ℕ) → IsBefore x y → IsBefore y z → IsBefore x z
before_trans x y z xy yz = grind (arith)

pub before_itself : (x : ℕ × ℕ) → ¬ IsBefore x x
before_itself x less = elim less [ inl more ↦ omega (arith, more) | inr there ↦ omega (arith, there.1) ]

pub nothing_before : (x : ℕ × ℕ) → ¬ IsBefore x (0, 0)
nothing_before x less = elim less [ inl more ↦ omega (arith, more) | inr there ↦ omega (arith, there.1) ]

-- what comes before the next number comes before this one, or is there
pub before_next : (x : ℕ × ℕ) (at n : ℕ) → IsBefore x (at, n + 1) → IsBefore x (at, n) ⊎ (x ≡ (at, n))
before_next x at n less =
    elim less [
      | inl earlier ↦ inl (inl earlier)
      | inr here ↦ elim (cases_order x.1 n) [
        | inl same ↦ inr (λ i. (here.0 i, same i))
        | inr other ↦ elim other [ inl below ↦ inl (inr (here.0, below)) | inr above ↦ absurd (omega (arith, here.1, above)) ]
      ]
    ]

pub before_more : (x : ℕ × ℕ) (at n : ℕ) → IsBefore x (at, n) → IsBefore x (at, n + 1)
before_more x at n less = elim less [ inl earlier ↦ inl earlier | inr here ↦ inr (here.0, omega (arith, here.1)) ]

pub before_here : (at n : ℕ) → IsBefore (at, n) (at, n + 1)
before_here at n = inr (refl, omega arith)

-- ---- a list while it is made

module _ {F : Type 0} (place : F → ℕ × ℕ) (IsFault : F → Type 0) where
  pub contains_none : (fault : F) → ¬ Contains [] fault
  contains_none fault h = omega (arith, h.1)

  adjacent_push : (faults : List F) (fault : F) (bound : ℕ × ℕ) → ListsBelow place IsFault bound faults → place fault ≡ bound
      → AllAdjacentBelow (λ x y. IsBefore (place x) (place y)) (faults ++ fault ∷ []) (length (faults ++ fault ∷ []))
  adjacent_push faults fault bound lists here k d less =
      elim (cases_order (k + 1) (length faults)) [
        | inl last ↦
            let within : k < length faults = omega (arith, last) in
            let left : get_or (faults ++ fault ∷ []) k d ≡ get_or faults k d = get_or_append_left faults (fault ∷ []) d k within in
            let right : get_or (faults ++ fault ∷ []) (k + 1) d ≡ fault = subst (λ (n : ℕ). get_or (faults ++ fault ∷ []) n d ≡ fault) (sym last) (get_or-append_seam faults fault [] d) in
            rw (left, right, here) (lists.sound (get_or faults k d) (Contains-get_or faults k d within)).1
        | inr other ↦ elim other [
          | inl below ↦ rw (get_or_append_left faults (fault ∷ []) d k (omega (arith, below)), get_or_append_left faults (fault ∷ []) d (k + 1) below) (lists.ordered k d below)
          | inr past ↦ absurd (omega (arith, less, past, length-append faults (fault ∷ [])))
        ]
      ]

  pub lists_none : ListsBelow place IsFault (0, 0) []
  lists_none = record {
    sound = λ fault h. absurd (contains_none fault h);
    complete = λ fault is less. absurd (nothing_before (place fault) less);
    ordered = λ k d less. absurd (omega (arith, less));
  }

  -- the fault at the bound, which is the only one there
  pub lists_push : (at n : ℕ) (faults : List F) (fault : F) → ListsBelow place IsFault (at, n) faults → place fault ≡ (at, n) → IsFault fault → ((other : F) → IsFault other → place other ≡ (at, n) → other ≡ fault)
      → ListsBelow place IsFault (at, n + 1) (faults ++ fault ∷ [])
  lists_push at n faults fault lists here is only = record {
    sound = λ other h. elim (Contains-push_cases faults fault other h) [
      | inl before ↦ ((lists.sound other before).0, before_more (place other) at n (lists.sound other before).1)
      | inr same ↦ (subst IsFault same is, subst (λ (f : F). IsBefore (place f) (at, n + 1)) same (subst (λ (p : ℕ × ℕ). IsBefore p (at, n + 1)) (sym here) (before_here at n)))
    ];
    complete = λ other bad less. elim (before_next (place other) at n less) [
      | inl before ↦ Contains-append_left faults (fault ∷ []) other (lists.complete other bad before)
      | inr there ↦ subst (Contains (faults ++ fault ∷ [])) (sym (only other bad there)) (Contains-push faults fault)
    ];
    ordered = adjacent_push faults fault (at, n) lists here;
  }

  -- no fault at the bound
  pub lists_skip : (at n : ℕ) (faults : List F) → ListsBelow place IsFault (at, n) faults → ((other : F) → IsFault other → ¬ (place other ≡ (at, n))) → ListsBelow place IsFault (at, n + 1) faults
  lists_skip at n faults lists never = record {
    sound = λ other h. ((lists.sound other h).0, before_more (place other) at n (lists.sound other h).1);
    complete = λ other bad less. elim (before_next (place other) at n less) [ inl before ↦ lists.complete other bad before | inr there ↦ absurd (never other bad there) ];
    ordered = lists.ordered;
  }

  -- no fault from one bound up to another
  pub lists_on : (low high : ℕ × ℕ) (faults : List F) → ListsBelow place IsFault low faults → ((x : ℕ × ℕ) → IsBefore x low → IsBefore x high) → ((other : F) → IsFault other → IsBefore (place other) high → IsBefore (place other) low)
      → ListsBelow place IsFault high faults
  lists_on low high faults lists up none = record {
    sound = λ other h. ((lists.sound other h).0, up (place other) (lists.sound other h).1);
    complete = λ other bad less. lists.complete other bad (none other bad less);
    ordered = lists.ordered;
  }

  -- no fault from the bound on
  pub lists_all : (bound : ℕ × ℕ) (faults : List F) → ListsBelow place IsFault bound faults → ((other : F) → IsFault other → IsBefore (place other) bound) → ListsAll place IsFault faults
  lists_all bound faults lists within = record {
    exact = λ fault. (λ h. (lists.sound fault h).0, λ bad. lists.complete fault bad (within fault bad));
    ordered = lists.ordered;
  }

  -- ---- the whole list

  -- nothing comes before the first
  no_earlier : (faults : List F) (d : F) → AllAdjacentBelow (λ x y. IsBefore (place x) (place y)) faults (length faults) → (k : ℕ) → k < length faults → ¬ IsBefore (place (get_or faults k d)) (place (get_or faults 0 d))
  no_earlier faults d ordered zero less before = before_itself (place (get_or faults 0 d)) before
  no_earlier faults d ordered (suc k) less before =
      let next : k + 1 ≡ suc k = omega arith in
      let step = subst (λ (n : ℕ). IsBefore (place (get_or faults k d)) (place (get_or faults n d))) next (ordered k d (omega (arith, less))) in
      no_earlier faults d ordered k (omega (arith, less)) (before_trans (place (get_or faults k d)) (place (get_or faults (suc k) d)) (place (get_or faults 0 d)) step before)

  pub first_least : (first : F) (rest : List F) (other : F) → ListsAll place IsFault (first ∷ rest) → IsFault other → ¬ IsBefore (place other) (place first)
  first_least first rest other lists bad before =
      let among = (lists.exact other).1 bad in
      no_earlier (first ∷ rest) other lists.ordered among.0 among.1 (subst (λ (f : F). IsBefore (place f) (place first)) (sym among.2) before)

-- ---- tables of rules by number

-- the rules have the numbers from n on
abbrev pub AreNumberedFrom : {R : Type 0} → (R → ℕ) → ℕ → List R → Type 0
AreNumberedFrom number n [] = Unit {0}
AreNumberedFrom number n (rule ∷ rules) = (number rule ≡ n) × AreNumberedFrom number (n + 1) rules

pub number_at : {R : Type 0} (number : R → ℕ) (n : ℕ) (rules : List R) (k : ℕ) (d : R) → AreNumberedFrom number n rules → k < length rules → number (get_or rules k d) ≡ n + k
number_at number n [] k d are less = absurd (omega (arith, less))
number_at number n (rule ∷ rules) zero d are less = are.0 ∙ omega arith
number_at number n (rule ∷ rules) (suc k) d are less = number_at number (n + 1) rules k d are.1 (omega (arith, less)) ∙ omega arith

-- ---- the first broken rule, asked for by number

-- no rule with a number below this one is broken
abbrev pub NoneBelow : {R : Type 0} → (R → ℕ) → (R → Type 0) → ℕ → Type 0
NoneBelow {R} number Breaks n = (other : R) → number other < n → ¬ Breaks other

-- the next rule is not broken either
pub none_more : {R : Type 0} (number : R → ℕ) (Breaks : R → Type 0) → ((a b : R) → number a ≡ number b → a ≡ b) → (n k : ℕ) (rule : R) → number rule ≡ n + k → ¬ Breaks rule
    → NoneBelow number Breaks (n + k) → NoneBelow number Breaks (n + (k + 1))
none_more number Breaks apart n k rule is unbroken none other less =
    elim (cases_order (number other) (n + k)) [
      | inl same ↦ λ broken. unbroken (subst Breaks (apart other rule (same ∙ sym is)) broken)
      | inr order ↦ elim order [ inl below ↦ none other below | inr above ↦ absurd (omega (arith, less, above)) ]
    ]

-- the next rule is broken
pub least_at : {R : Type 0} (number : R → ℕ) (Breaks : R → Type 0) (n : ℕ) (rule : R) → number rule ≡ n → Breaks rule → NoneBelow number Breaks n → IsLeast number Breaks rule
least_at number Breaks n rule is broken none = record { broken = broken; least = λ other less. none other (subst (λ m. number other < m) is less) }

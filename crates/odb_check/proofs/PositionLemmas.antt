-- First positions of identifiers and groups.
use Rattle.std.proofs.Common.{◌≡◌, ◌<◌, ℕ, true, List, Option, Some, None, refl, sym, ap, subst, arith, length}
use Rattle.std.specs.Bool.{Decides}
use Rattle.std.proofs.lemmas.Slice.Eq.{bytes_eq-Decides}
use Rattle.std.proofs.lemmas.Option.{slice_get_cases}
use Rattle.odb_doc.specs.batch.Records.{Record}
use Rattle.odb_check.specs.Firsts.{first_below, is_text}
use Rattle.odb_check.specs.Positions.{id_at, group_at, reference_at}
use Rattle.odb_check.specs.Units.{position_of}
use Rattle.odb_check.proofs.FirstLemmas.{IsFirst, FirstCases, first_cases, found_first, found_none}

-- the text is at b, and at no position before
abbrev pub IsFirstAt : (ℕ → Option (List ℕ)) → List ℕ → ℕ → Type 0
IsFirstAt what text b = IsFirst (λ k. what k ≡ Some text) b

pub text_Decides : (text : List ℕ) (found : Option (List ℕ)) → Decides (is_text text found) (found ≡ Some text)
text_Decides text None = ((λ e. cc), (λ e. cc))
text_Decides text (Some other) =
    ((λ e. ap Some (sym ((bytes_eq-Decides text other).0 e))), (λ e. subst (λ o. is_text text o ≡ true) (sym e) ((bytes_eq-Decides text text).1 refl)))

text_cases : (what : ℕ → Option (List ℕ)) (text : List ℕ) (n : ℕ) → FirstCases n (λ k. what k ≡ Some text) (first_below n (λ k. is_text text (what k)))
text_cases what text n = first_cases n _ (λ k. what k ≡ Some text) (λ k. text_Decides text (what k))

pub text_first : (what : ℕ → Option (List ℕ)) (text : List ℕ) (n b : ℕ) → first_below n (λ k. is_text text (what k)) ≡ Some b → (b < n) × IsFirstAt what text b
text_first what text n b e = subst (FirstCases n (λ k. what k ≡ Some text)) e (text_cases what text n)

pub text_none : (what : ℕ → Option (List ℕ)) (text : List ℕ) (n : ℕ) → first_below n (λ k. is_text text (what k)) ≡ None → (k : ℕ) → k < n → ¬ (what k ≡ Some text)
text_none what text n e = subst (FirstCases n (λ k. what k ≡ Some text)) e (text_cases what text n)

pub text_some : (what : ℕ → Option (List ℕ)) (text : List ℕ) (n b : ℕ) → b < n → IsFirstAt what text b → first_below n (λ k. is_text text (what k)) ≡ Some b
text_some what text n b within first = found_first n (λ k. what k ≡ Some text) b within first _ (text_cases what text n)

pub text_absent : (what : ℕ → Option (List ℕ)) (text : List ℕ) (n : ℕ) → ((k : ℕ) → k < n → ¬ (what k ≡ Some text)) → first_below n (λ k. is_text text (what k)) ≡ None
text_absent what text n absent = found_none n (λ k. what k ≡ Some text) absent _ (text_cases what text n)

-- what a position has belongs to a request
pub id_within : (rs : List Record) (i : ℕ) (id : List ℕ) → id_at rs i ≡ Some id → i < length rs
id_within rs i id e = grind (arith, slice_get_cases rs i)

pub group_within : (rs : List Record) (i : ℕ) (group : List ℕ) → group_at rs i ≡ Some group → i < length rs
group_within rs i group e = grind (arith, slice_get_cases rs i)

pub reference_within : (rs : List Record) (i : ℕ) (id : List ℕ) → reference_at rs i ≡ Some id → i < length rs
reference_within rs i id e = grind (arith, slice_get_cases rs i)

pub position_first : (rs : List Record) (id : List ℕ) (p : ℕ) → position_of rs id ≡ Some p → (p < length rs) × IsFirstAt (id_at rs) id p
position_first rs id p e = text_first (id_at rs) id (length rs) p e

pub position_none : (rs : List Record) (id : List ℕ) → position_of rs id ≡ None → (j : ℕ) → ¬ (id_at rs j ≡ Some id)
position_none rs id none j e = text_none (id_at rs) id (length rs) none j (id_within rs j id e) e

-- A text that is written in several calls.
use Rattle.std.proofs.Common.{◌≡◌, ◌∙◌, ◌<◌, ℕ, ◌-◌, List, [], ◌++◌, length, take, drop, Option, refl, ap, sym, append_assoc, append-nil, take-append-drop, length-append, arith}
use Rattle.std.proofs.lemmas.List.{take_rest}
use Rattle.std.specs.Io.KnownBytes.{Appends, Keeps}
use Rattle.std.proofs.KnownBytes.{Appends-nil, Appends-trans, Appends-kept}
use Rattle.odb_io.specs.Devices.{HasWritten, AppendsPrefix}

-- nothing is written yet
pub HasWritten-none : (old : Option (List ℕ)) (text : List ℕ) → HasWritten old old text text
HasWritten-none old text = record { prefix = []; whole = refl; written = Appends-nil old }

-- one call took n bytes
pub HasWritten-more : (old mid new : Option (List ℕ)) (text rest : List ℕ) (n : ℕ) → HasWritten old mid text rest → Appends mid new (take n rest)
    → HasWritten old new text (take (length rest - n) (drop n rest))
HasWritten-more old mid new text rest n before took = record {
  prefix = before.prefix ++ take n rest;
  whole = rw take_rest (before.whole ∙ ap (λ xs. before.prefix ++ xs) (sym (take-append-drop n rest)) ∙ sym (append_assoc before.prefix (take n rest) (drop n rest)));
  written = Appends-trans old mid new before.prefix (take n rest) before.written took;
}

-- a text with a rest is not empty
pub HasWritten-some : (old new : Option (List ℕ)) (text rest : List ℕ) → HasWritten old new text rest → 0 < length rest → ¬ (text ≡ [])
HasWritten-some old new text rest before some none =
    omega (arith, ap length (sym before.whole ∙ none), length-append before.prefix rest, some)

-- one call took nothing
pub HasWritten-kept : (old mid new : Option (List ℕ)) (text rest : List ℕ) → HasWritten old mid text rest → Keeps mid new → HasWritten old new text rest
HasWritten-kept old mid new text rest before kept = record {
  prefix = before.prefix;
  whole = before.whole;
  written = Appends-kept old mid new before.prefix before.written kept;
}

-- the whole is written
pub HasWritten-all : (old new : Option (List ℕ)) (text rest : List ℕ) → rest ≡ [] → HasWritten old new text rest → Appends old new text
HasWritten-all old new text rest none before = rw (before.whole, none, append-nil before.prefix) before.written

-- a prefix of a text is written, and then a prefix of its rest
pub HasWritten-trans : (old mid new : Option (List ℕ)) (text rest last : List ℕ) → HasWritten old mid text rest → HasWritten mid new rest last → HasWritten old new text last
HasWritten-trans old mid new text rest last before after = record {
  prefix = before.prefix ++ after.prefix;
  whole = before.whole ∙ ap (λ xs. before.prefix ++ xs) after.whole ∙ sym (append_assoc before.prefix after.prefix last);
  written = Appends-trans old mid new before.prefix after.prefix before.written after.written;
}

-- a prefix of the start of a text is written
pub HasWritten-part : (old new : Option (List ℕ)) (text rest later : List ℕ) → HasWritten old new text rest → HasWritten old new (text ++ later) (rest ++ later)
HasWritten-part old new text rest later part = record {
  prefix = part.prefix;
  whole = ap (λ xs. xs ++ later) part.whole ∙ append_assoc part.prefix rest later;
  written = part.written;
}

pub AppendsPrefix-none : (old : Option (List ℕ)) (text : List ℕ) → AppendsPrefix old old text
AppendsPrefix-none old text = (text, HasWritten-none old text)

pub AppendsPrefix-part : (old new : Option (List ℕ)) (text later : List ℕ) → AppendsPrefix old new text → AppendsPrefix old new (text ++ later)
AppendsPrefix-part old new text later part = (part.0 ++ later, HasWritten-part old new text part.0 later part.1)

pub AppendsPrefix-after : (old mid new : Option (List ℕ)) (text rest : List ℕ) → HasWritten old mid text rest → AppendsPrefix mid new rest → AppendsPrefix old new text
AppendsPrefix-after old mid new text rest before after = (after.0, HasWritten-trans old mid new text rest after.0 before after.1)

-- the text is written whole, and no rest remains
pub HasWritten-whole : (old new : Option (List ℕ)) (text : List ℕ) → Appends old new text → HasWritten old new text []
HasWritten-whole old new text written = record { prefix = text; whole = sym (append-nil text); written = written }

-- a whole text is a prefix of itself
pub AppendsPrefix-whole : (old new : Option (List ℕ)) (text : List ℕ) → Appends old new text → AppendsPrefix old new text
AppendsPrefix-whole old new text written = ([], HasWritten-whole old new text written)

-- a text and then a prefix of another are a prefix of both
pub AppendsPrefix-append : (old mid new : Option (List ℕ)) (text later : List ℕ) → Appends old mid text → AppendsPrefix mid new later → AppendsPrefix old new (text ++ later)
AppendsPrefix-append old mid new text later written part = AppendsPrefix-after old mid new (text ++ later) later (HasWritten-part old mid text [] later (HasWritten-whole old mid text written)) part

-- the rest is written whole
pub Appends-rest : (old mid new : Option (List ℕ)) (text rest : List ℕ) → HasWritten old mid text rest → Appends mid new rest → Appends old new text
Appends-rest old mid new text rest before written = rw before.whole (Appends-trans old mid new before.prefix rest before.written written)

-- Faults in a text that grows.
use Rattle.std.proofs.Common.{◌≡◌, ◌∙◌, ◌<◌, ◌+◌, ℕ, zero, suc, arith, List, [], ◌∷◌, ◌++◌, length, take, get_or, map, codes, sym, ap, subst, append_assoc}
use Rattle.std.specs.List.{AllZip}
use Rattle.std.proofs.lemmas.List.{append-nil, length-append, map-append, take_more}
use Rattle.odb_doc.specs.declared.refusal.Refusal.{Refusal}
use Rattle.odb_spans.specs.declared.position.Position as spans
use Rattle.odb_doc.specs.declared.fault.Place.{Place}
use Rattle.odb_doc.specs.Refusals.{Printed, printed}
use Rattle.odb_spans.specs.Positions.{Stands}
use Rattle.odb_check.specs.Texts.{newline}
use Rattle.odb_text.specs.Lines.{fault_line, fault_lines, place_text}
use Rattle.odb_calls.specs.Faults.{AreFaults, HasWords, IsPlaced, IsFault, IsWord}
use Rattle.odb_calls.specs.Places.{position_in}
use Rattle.odb_calls.specs.declared.fault.Fault.{Fault}
use Rattle.odb_calls.specs.declared.request.Part.{Part}

-- ---- a word

-- the word that was appended last
pub last-word : (old word new : List ℕ) (part : Part) → new ≡ old ++ word → part.start ≡ length old → part.length ≡ length word → IsWord new word part
last-word old word new part is starts long = record { before = old; after = []; whole = is ∙ ap (λ t. old ++ t) (sym (append-nil word)); starts = starts; long = long }

-- a word stays where it is
pub kept-word : (old more new word : List ℕ) (part : Part) → new ≡ old ++ more → IsWord old word part → IsWord new word part
kept-word old more new word part is held = record {
  before = held.before;
  after = held.after ++ more;
  whole = is ∙ ap (λ t. t ++ more) held.whole ∙ append_assoc held.before (word ++ held.after) more ∙ ap (λ t. held.before ++ t) (append_assoc word held.after more);
  starts = held.starts;
  long = held.long;
}

-- how long the line of a fault is, up to each of its words
length-code : (code : List ℕ) → length (codes "fault " ++ code ++ codes " ") ≡ length code + 7
length-code code = omega (arith, length-append (codes "fault ") code, length-append (codes "fault " ++ code) (codes " "))

length-name : (code name : List ℕ) → length (codes "fault " ++ code ++ codes " " ++ name ++ codes " ") ≡ length code + length name + 8
length-name code name = let front = codes "fault " ++ code ++ codes " " in omega (arith, length-code code, length-append front name, length-append (front ++ name) (codes " "))

pub length-line : (code name : List ℕ) (place : Place) → length (fault_line code name place) ≡ length code + length name + length (place_text place) + 9
length-line code name place =
    let front = codes "fault " ++ code ++ codes " " ++ name ++ codes " " in omega (arith, length-name code name, length-append front (place_text place), length-append (front ++ place_text place) (newline ∷ []))

-- where the words of a line lie
pub words-at : (old new : List ℕ) (refusal : Printed) (fault : Fault) → new ≡ old ++ fault_line refusal.code refusal.name refusal.place
    → fault.code.start ≡ length old + 6 → fault.code.length ≡ length refusal.code
    → fault.name.start ≡ length old + length refusal.code + 7 → fault.name.length ≡ length refusal.name
    → fault.place.start ≡ length old + length refusal.code + length refusal.name + 8 → fault.place.length ≡ length (place_text refusal.place)
    → HasWords new refusal fault
words-at old new refusal fault is code code_length name name_length place place_length =
    let c = refusal.code in
    let n = refusal.name in
    let p = place_text refusal.place in
    record {
      code = record { before = old ++ codes "fault "; after = codes " " ++ n ++ codes " " ++ p ++ newline ∷ []; whole = is ∙ simp append_assoc; starts = omega (arith, code, length-append old (codes "fault ")); long = code_length };
      name = record {
        before = old ++ (codes "fault " ++ c ++ codes " ");
        after = codes " " ++ p ++ newline ∷ [];
        whole = is ∙ simp append_assoc;
        starts = omega (arith, name, length-append old (codes "fault " ++ c ++ codes " "), length-code c);
        long = name_length;
      };
      place = record {
        before = old ++ (codes "fault " ++ c ++ codes " " ++ n ++ codes " ");
        after = newline ∷ [];
        whole = is ∙ simp append_assoc;
        starts = omega (arith, place, length-append old (codes "fault " ++ c ++ codes " " ++ n ++ codes " "), length-name c n);
        long = place_length;
      };
    }

kept-fault : (document old more new : List ℕ) (refusal : Printed) (fault : Fault) → new ≡ old ++ more → IsFault document old refusal fault → IsFault document new refusal fault
kept-fault document old more new refusal fault is held = (
  record {
    code = kept-word old more new _ _ is held.0.code;
    name = kept-word old more new _ _ is held.0.name;
    place = kept-word old more new _ _ is held.0.place;
  },
  held.1,
)

-- one fault more, by a text that has grown
push-fault : (document old more new : List ℕ) (refusals : List Printed) (faults : List Fault) (refusal : Printed) (fault : Fault) → new ≡ old ++ more → AllZip (IsFault document old) refusals faults → IsFault document new refusal fault
    → AllZip (IsFault document new) (refusals ++ refusal ∷ []) (faults ++ fault ∷ [])
push-fault document old more new [] [] refusal fault is zip last = (last, tt)
push-fault document old more new [] (f ∷ faults) refusal fault is zip last = absurd zip
push-fault document old more new (r ∷ refusals) [] refusal fault is zip last = absurd zip
push-fault document old more new (r ∷ refusals) (f ∷ faults) refusal fault is zip last = (kept-fault document old more new r f is zip.0, push-fault document old more new refusals faults refusal fault is zip.1 last)

lines-more : (refusals : List Printed) (refusal : Printed) → fault_lines (refusals ++ refusal ∷ []) ≡ fault_lines refusals ++ fault_line refusal.code refusal.name refusal.place
lines-more [] refusal = append-nil (fault_line refusal.code refusal.name refusal.place)
lines-more (first ∷ rest) refusal =
    ap (λ text. fault_line first.code first.name first.place ++ text) (lines-more rest refusal) ∙ sym (append_assoc (fault_line first.code first.name first.place) (fault_lines rest) (fault_line refusal.code refusal.name refusal.place))

-- R holds of the elements at a place of two lists
zip-at : {A B : Type 0} (R : A → B → Type 0) (xs : List A) (ys : List B) (k : ℕ) (d : A) (e : B) → AllZip R xs ys → k < length xs → R (get_or xs k d) (get_or ys k e)
zip-at R [] ys k d e zip within = absurd (omega (arith, within))
zip-at R (x ∷ xs) [] k d e zip within = absurd zip
zip-at R (x ∷ xs) (y ∷ ys) zero d e zip within = zip.0
zip-at R (x ∷ xs) (y ∷ ys) (suc k) d e zip within = zip-at R xs ys k d e zip.1 (omega (arith, within))

-- one fault more
pub faults-next : (document old new : List ℕ) (refusals : List Refusal) (positions : List spans.Position) (k : ℕ) (d : Refusal) (e : spans.Position) (faults more : List Fault) (fault : Fault) → k < length refusals
    → AllZip (λ (refusal : Refusal). Stands document refusal.place) refusals positions
    → AreFaults document (map printed (take k refusals)) old faults
    → new ≡ old ++ fault_line (get_or refusals k d).code.now (get_or refusals k d).name.now (get_or refusals k d).place
    → HasWords new (printed (get_or refusals k d)) fault
    → fault.position ≡ position_in (get_or positions k e)
    → more ≡ faults ++ fault ∷ []
    → AreFaults document (map printed (take (k + 1) refusals)) new more
faults-next document old new refusals positions k d e faults more fault within stand before line words position items =
    let refusal = get_or refusals k d in
    let named : map printed (take (k + 1) refusals) ≡ map printed (take k refusals) ++ printed refusal ∷ [] = ap (map printed) (take_more refusals k d within) ∙ map-append printed (take k refusals) (refusal ∷ []) in
    let at : IsPlaced document (printed refusal) fault = record { found = get_or positions k e; stands = zip-at (λ (r : Refusal). Stands document r.place) refusals positions k d e stand within; is = position } in
    record {
      lines = line ∙ ap (λ t. t ++ fault_line refusal.code.now refusal.name.now refusal.place) before.lines ∙ sym (ap fault_lines named ∙ lines-more (map printed (take k refusals)) (printed refusal));
      each =
          subst (AllZip (IsFault document new) (map printed (take (k + 1) refusals))) (sym items)
          (subst (λ (rs : List Printed). AllZip (IsFault document new) rs (faults ++ fault ∷ [])) (sym named) (push-fault document old _ new (map printed (take k refusals)) faults (printed refusal) fault line before.each (words, at)));
    }

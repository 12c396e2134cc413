-- Faults as text, fault by fault.
use Rattle.std.proofs.Common.{◌≡◌, ◌∙◌, ◌<◌, ◌+◌, ℕ, Bool, true, false, List, [], ◌∷◌, ◌++◌, length, take, get_or, map, sym, ap, codes, arith, append_assoc, append-nil, length-append, lt-ltb, nat_lt, Option, None, Some}
use Rattle.std.proofs.lemmas.List.{length-map, map-append, take_more}
use Rattle.serde_json.specs.Data.{Data, array, object, put, no_members}
use Rattle.serde_json.specs.View.{items_of}
use Rattle.serde_json.specs.Written.{compact_text, comma_if, items_text}
use Rattle.serde_json.proofs.OnLiterals.{serde_json_on_literals}
use Rattle.odb_doc.specs.Refusals.{Printed}
use Rattle.odb_doc.specs.declared.fault.Place.TheVariants.{Batch}
use Rattle.odb_spans.specs.declared.position.Position.{Position}
use Rattle.odb_text.specs.declared.faults.Located.{Located}
use Rattle.odb_text.specs.Lines.{PrintedAt, located_line, located_lines, printed_at}
use Rattle.odb_text.specs.Results.{fault_object, fault_value, json_line, object_at}
use Rattle.odb_text.specs.ResultParts.{listed_part}
use Rattle.odb_text.proofs.ResultLemmas.{closed, opened, last_one}

-- what stands past the end of a list
abbrev pub no_fault : Located
no_fault = record { refusal = record { code = record { ref_ptr = (0, 0); now = [] }; name = record { ref_ptr = (0, 0); now = [] }; place = Batch }; position = None }

-- ---- lines

lines-more : (name : List ℕ) (faults : List PrintedAt) (fault : PrintedAt) → located_lines name (faults ++ fault ∷ []) ≡ located_lines name faults ++ located_line name fault
lines-more name [] fault = append-nil (located_line name fault)
lines-more name (first ∷ rest) fault =
    ap (λ text. located_line name first ++ text) (lines-more name rest fault) ∙ sym (append_assoc (located_line name first) (located_lines name rest) (located_line name fault))

-- the line of the next fault
pub line-next : (name : List ℕ) (faults : List Located) (k : ℕ) (d : Located) (text next : List ℕ) → k < length faults → text ≡ located_lines name (map printed_at (take k faults)) → next ≡ text ++ located_line name (printed_at (get_or faults k d))
    → next ≡ located_lines name (map printed_at (take (k + 1) faults))
line-next name faults k d text next within is more =
    let names : map printed_at (take (k + 1) faults) ≡ map printed_at (take k faults) ++ printed_at (get_or faults k d) ∷ [] = ap (map printed_at) (take_more faults k d within) ∙ map-append printed_at (take k faults) (get_or faults k d ∷ []) in
    more ∙ ap (λ before. before ++ located_line name (printed_at (get_or faults k d))) is ∙ sym (ap (located_lines name) names ∙ lines-more name (map printed_at (take k faults)) (printed_at (get_or faults k d)))

-- ---- JSON

-- the text of a fault of a list
listed_text : (later : Bool) (refusal : Printed) (position : Option Position)
    → listed_part later (record { refusal = refusal; position = position }) ≡ comma_if later ++ compact_text (object_at refusal position)
unfolding object_at serde_json_on_literals
listed_text later refusal None = simp append_assoc
listed_text later refusal (Some position) = simp append_assoc

-- the objects of the faults
abbrev pub objects : List Located → List Data
objects faults = map fault_object (map printed_at faults)

-- the next fault of a list
pub listed-next : (faults : List Located) (k : ℕ) (d : Located) (text next : List ℕ) → k < length faults → text ≡ codes "{\"faults\":[" ++ opened false (objects (take k faults))
    → next ≡ text ++ listed_part (nat_lt 0 (length (objects (take k faults)))) (printed_at (get_or faults k d)) → next ≡ codes "{\"faults\":[" ++ opened false (objects (take (k + 1) faults))
listed-next faults k d text next within is more =
    let before = objects (take k faults) in
    let shown = printed_at (get_or faults k d) in
    let later = nat_lt 0 (length before) in
    let names : objects (take (k + 1) faults) ≡ before ++ fault_object shown ∷ [] =
    ap (map fault_object) (ap (map printed_at) (take_more faults k d within) ∙ map-append printed_at (take k faults) (get_or faults k d ∷ [])) ∙ map-append fault_object (map printed_at (take k faults)) (shown ∷ []) in
    let start : text ++ listed_part later shown ≡ codes "{\"faults\":[" ++ (opened false before ++ (comma_if later ++ compact_text (fault_object shown))) =
    ap (λ text. text ++ listed_part later shown) is ∙ append_assoc (codes "{\"faults\":[") (opened false before) (listed_part later shown)
    ∙ ap (λ part. codes "{\"faults\":[" ++ (opened false before ++ part)) (listed_text later shown.refusal shown.position) in
    more ∙ start ∙ ap (λ rest. codes "{\"faults\":[" ++ rest) (sym (ap (opened false) names ∙ last_one before (fault_object shown)))

pub some_listed : (faults : List Located) (k : ℕ) (d : Located) → k < length faults → true ≡ nat_lt 0 (length (objects (take (k + 1) faults)))
some_listed faults k d within =
    let taken = ap length (take_more faults k d within) ∙ length-append (take k faults) (get_or faults k d ∷ []) in
    sym (lt-ltb 0 (length (objects (take (k + 1) faults))) (omega (arith, taken, length-map (map printed_at (take (k + 1) faults)) fault_object, length-map (take (k + 1) faults) printed_at)))

faults-line : (ds : List Data) → codes "{\"faults\":[" ++ (items_text false (items_of ds) ++ codes "}\n") ≡ json_line (object (put (codes "faults") (array (items_of ds)) no_members))
unfolding serde_json_on_literals
faults-line ds = simp append_assoc

-- the end of the list
pub listed-end : (values : List Data) (text last : List ℕ) → text ≡ codes "{\"faults\":[" ++ opened false values → last ≡ text ++ codes "]}\n" → last ≡ json_line (object (put (codes "faults") (array (items_of values)) no_members))
listed-end values text last is ended =
    let step : (codes "{\"faults\":[" ++ opened false values) ++ codes "]}\n" ≡ codes "{\"faults\":[" ++ ((opened false values ++ codes "]") ++ codes "}\n") = simp append_assoc in
    ended ∙ ap (λ before. before ++ codes "]}\n") is ∙ step ∙ ap (λ items. codes "{\"faults\":[" ++ (items ++ codes "}\n")) (sym (closed false values)) ∙ faults-line values

-- the line of one fault
pub fault-line : (refusal : Printed) (position : Option Position)
    → codes "{\"fault\":" ++ (listed_part false (record { refusal = refusal; position = position }) ++ codes "}\n") ≡ json_line (fault_value (record { refusal = refusal; position = position }))
unfolding object_at serde_json_on_literals
fault-line refusal None = simp append_assoc
fault-line refusal (Some position) = simp append_assoc

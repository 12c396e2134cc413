-- The results as JSON: their texts are those of their parts.
use Rattle.std.proofs.Common.{◌≡◌, ◌∙◌, ℕ, zero, suc, List, [], ◌∷◌, ◌++◌, length, Bool, true, false, nat_lt, Option, Some, None, option_map, option_and_then, unwrap_or, get_or, slice_get, decimal, refl, sym, ap, codes, arith, append_assoc, append-nil, lt-ltb}
use Rattle.serde_json.specs.Data.{Data, string, number, unsigned, array, object, put, no_members}
use Rattle.serde_json.specs.View.{items_of}
use Rattle.serde_json.specs.Written.{compact_text, comma_if, items_text}
use Rattle.serde_json.proofs.OnLiterals.{serde_json_on_literals}
use Rattle.odb_doc.specs.batch.Records.{Record}
use Rattle.odb_doc.specs.canonical.Canonical.{with_some}
use Rattle.odb_check.specs.Firsts.{joined_below, list_below}
use Rattle.odb_check.specs.Levels.{level_at}
use Rattle.odb_check.specs.Needs.{needs_at}
use Rattle.odb_check.specs.Positions.{group_at}
use Rattle.odb_check.proofs.BelowLemmas.{length-list_below}
use Rattle.odb_text.specs.Lines.{id_text, status_line}
use Rattle.odb_text.specs.Results.{json_line, counts_value, matched, need_values, planned}
use Rattle.odb_text.specs.ResultParts.{element, group_part, id_part, string_part}

pub counts-parts : (requests groups : ℕ) → codes "{\"groups\":" ++ (decimal groups ++ (codes ",\"requests\":" ++ (decimal requests ++ codes "}\n"))) ≡ json_line (counts_value requests groups)
unfolding serde_json_on_literals
counts-parts requests groups = simp append_assoc

-- ---- arrays, element by element

-- the elements without the bracket that closes them
abbrev pub opened : Bool → List Data → List ℕ
opened later [] = []
opened later (d ∷ ds) = comma_if later ++ (compact_text d ++ opened true ds)

pub closed : (later : Bool) (ds : List Data) → items_text later (items_of ds) ≡ opened later ds ++ codes "]"
closed later [] = refl
closed later (d ∷ ds) = rw (closed true ds) (simp append_assoc)

one_more : (ds : List Data) (d : Data) → opened true (ds ++ d ∷ []) ≡ opened true ds ++ (comma_if true ++ compact_text d)
one_more [] d = simp append-nil
one_more (x ∷ ds) d = rw (one_more ds d) (simp append_assoc)

pub last_one : (ds : List Data) (d : Data) → opened false (ds ++ d ∷ []) ≡ opened false ds ++ (comma_if (nat_lt 0 (length ds)) ++ compact_text d)
last_one [] d = simp append-nil
last_one (x ∷ ds) d =
    let later : nat_lt 0 (suc (length ds)) ≡ true = lt-ltb 0 (suc (length ds)) (omega arith) in
    rw (one_more ds d, later) (simp append_assoc)

opened_below : (n : ℕ) (value : ℕ → Data) → opened false (list_below n value) ≡ joined_below n (element value)
unfolding element
opened_below zero value = refl
opened_below (suc n) value =
    last_one (list_below n value) (value n)
    ∙ ap (λ count. opened false (list_below n value) ++ (comma_if (nat_lt 0 count) ++ compact_text (value n))) (length-list_below n value)
    ∙ ap (λ text. text ++ element value n) (opened_below n value)

-- the line of an object with one array, whose elements were appended one by one
pub array_line : (n : ℕ) (value : ℕ → Data) (start whole text last : List ℕ) → start ++ (items_text false (items_of (list_below n value)) ++ codes "}\n") ≡ whole
    → text ≡ start ++ joined_below n (element value) → last ≡ text ++ codes "]}\n" → last ≡ whole
array_line n value start whole text last line is ended =
    let joined = joined_below n (element value) in
    let step : (start ++ joined) ++ codes "]}\n" ≡ start ++ ((joined ++ codes "]") ++ codes "}\n") = simp append_assoc in
    let all : items_text false (items_of (list_below n value)) ≡ joined ++ codes "]" = closed false (list_below n value) ∙ ap (λ text. text ++ codes "]") (opened_below n value) in
    ended ∙ ap (λ text. text ++ codes "]}\n") is ∙ step ∙ ap (λ text. start ++ (text ++ codes "}\n")) (sym all) ∙ line

pub requests-line : (ds : List Data) → codes "{\"requests\":[" ++ (items_text false (items_of ds) ++ codes "}\n") ≡ json_line (object (put (codes "requests") (array (items_of ds)) no_members))
unfolding serde_json_on_literals
requests-line ds = simp append_assoc

pub responses-line : (ds : List Data) → codes "{\"responses\":[" ++ (items_text false (items_of ds) ++ codes "}\n") ≡ json_line (object (put (codes "responses") (array (items_of ds)) no_members))
unfolding serde_json_on_literals
responses-line ds = simp append_assoc

-- ---- the elements

planned_text : (group : Option (List ℕ)) (id : List ℕ) (level : ℕ) (needs : List Data)
    → compact_text (object (with_some (codes "group") (option_map string group) (put (codes "id") (string id) (put (codes "level") (number (unsigned level)) (put (codes "needs") (array (items_of needs)) no_members)))))
    ≡ codes "{" ++ (group_part group ++ (id_part id level ++ (codes "\"needs\":[" ++ (items_text false (items_of needs) ++ codes "}"))))
unfolding serde_json_on_literals
planned_text None id level needs = simp append_assoc
planned_text (Some group) id level needs = simp append_assoc

planned_at : (batch : List Record) (i : ℕ)
    → element (planned batch) i
    ≡ comma_if (nat_lt 0 i) ++ (codes "{" ++ (group_part (group_at batch i) ++ (id_part (id_text batch i) (level_at batch i) ++ (codes "\"needs\":[" ++ (items_text false (items_of (need_values batch (needs_at batch i))) ++ codes "}")))))
unfolding element planned
planned_at batch i =
    ap (λ text. comma_if (nat_lt 0 i) ++ text) (planned_text (group_at batch i) (id_text batch i) (level_at batch i) (need_values batch (needs_at batch i)))

pub planned-parts : (batch : List Record) (i : ℕ) (request : Record) → slice_get batch i ≡ Some request
    → element (planned batch) i
    ≡ comma_if (nat_lt 0 i) ++ (codes "{" ++ (group_part request.group ++ (id_part request.id (level_at batch i) ++ (codes "\"needs\":[" ++ (items_text false (items_of (need_values batch (needs_at batch i))) ++ codes "}")))))
planned-parts batch i request is =
    let group : group_at batch i ≡ request.group = ap (option_and_then (λ (r : Record). r.group)) is in
    let id : id_text batch i ≡ request.id = ap (λ (found : Option Record). unwrap_or (option_map (λ (r : Record). r.id) found) []) is in
    rw (← group, ← id) (planned_at batch i)

matched_text : (id : List ℕ) (status : ℕ) → compact_text (object (put (codes "id") (string id) (put (codes "status") (number (unsigned status)) no_members))) ≡ string_part (codes "{\"id\":") id ++ (codes ",\"status\":" ++ (decimal status ++ codes "}"))
unfolding serde_json_on_literals
matched_text id status = simp append_assoc

pub matched-parts : (batch : List Record) (statuses : List ℕ) (i : ℕ) (request : Record) → slice_get batch i ≡ Some request
    → element (matched batch statuses) i ≡ comma_if (nat_lt 0 i) ++ (string_part (codes "{\"id\":") request.id ++ (codes ",\"status\":" ++ (decimal (get_or statuses i 0) ++ codes "}")))
unfolding element matched
matched-parts batch statuses i request here = rw here (ap (λ text. comma_if (nat_lt 0 i) ++ text) (matched_text request.id (get_or statuses i 0)))

pub status-parts : (batch : List Record) (statuses : List ℕ) (i : ℕ) (request : Record) → slice_get batch i ≡ Some request
    → status_line batch statuses i ≡ request.id ++ (codes " " ++ (decimal (get_or statuses i 0) ++ codes "\n"))
status-parts batch statuses i request here = rw here (simp append_assoc)

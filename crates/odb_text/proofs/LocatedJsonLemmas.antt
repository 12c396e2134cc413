-- What the line of located faults as JSON is read as: their members are written after one another, and read in byte order.
use Rattle.std.proofs.Common.{◌≡◌, ◌∙◌, ◌<◌, ◌≤◌, ◌^◌, ℕ, List, [], ◌∷◌, ◌++◌, codes, map, Some, option_and_then, option_map, refl, sym, ap, arith, append-nil}
use Rattle.std.specs.Fmt.{decimal}
use Rattle.std.specs.List.{AllByRecursion}
use Rattle.json.specs.Json as json
use Rattle.json.specs.Lex.{between, fresh, lex, punctuate, tokens}
use Rattle.json.specs.Tree as tree
use Rattle.json.proofs.Printed.Decimals.{IsNumber-decimal}
use Rattle.json.proofs.Printed.Tokens.{tokens-print}
use Rattle.json.proofs.Printed.Trees.{ArePrintable-json_tokens}
use Rattle.serde_json.specs.Data.{Data, array, item, Items, Members, no_members, number, object, put, string, unsigned}
use Rattle.serde_json.specs.Read.{max_depth, of_items, of_json, of_members, read}
use Rattle.serde_json.specs.View.{items_of}
use Rattle.serde_json.specs.Written.{compact_text, items_outline, outline}
use Rattle.serde_json.proofs.Numbers.{number_of-decimal}
use Rattle.serde_json.proofs.Texts.{print-outline}
use Rattle.odb_doc.specs.Refusals.{Printed}
use Rattle.odb_spans.specs.declared.position.Position.{Position}
use Rattle.odb_spans.proofs.AloneLemmas.{lex-value}
use Rattle.odb_spans.proofs.ReadLemmas.{read-tokens}
use Rattle.odb_text.specs.Lines.{place_text}
use Rattle.odb_text.specs.Results.{FitsWords, fault_object, fault_value, faults_value, json_line, located, located_object, object_at}

-- ---- a line

no-lexeme : lex between (10 ∷ []) ≡ []
unfolding lex
no-lexeme = refl

read-line : (d : Data) → tree.HasNumbers (outline d) → tree.depth (outline d) ≤ max_depth → read (json_line d) ≡ of_json (outline d)
read-line d numbers shallow =
    let text = compact_text d in
    let spelled : tokens text ≡ tree.json_tokens (outline d) = ap tokens (sym (print-outline d)) ∙ tokens-print (tree.json_tokens (outline d)) (ArePrintable-json_tokens (outline d) numbers) in
    let line = lex-value (outline d) text (10 ∷ []) spelled refl ∙ ap (λ l. lex between text ++ l) no-lexeme ∙ append-nil (lex between text) in
    read-tokens (text ++ 10 ∷ []) (outline d) (ap (punctuate fresh) line ∙ spelled) shallow

-- ---- a fault

read-number : (n : ℕ) → n < 2 ^ 64 → of_json (json.number (decimal n)) ≡ Some (number (unsigned n))
read-number n small = ap (option_map number) (number_of-decimal n small)

-- one member more is read
step : (k : List ℕ) (j : json.Json) (ms : json.Members) (found : Members) (d : Data) → of_json j ≡ Some d → of_members (json.member k j ms) found ≡ of_members ms (put k d found)
step k j ms found d e = ap (option_and_then (λ v. of_members ms (put k v found))) e

abbrev texts_of : Printed → Members
texts_of refusal = put (codes "place") (string (place_text refusal.place)) (put (codes "name") (string refusal.name) (put (codes "code") (string refusal.code) no_members))

object-read : (refusal : Printed) (position : Position) → FitsWords position → of_json (outline (fault_object (located (refusal, position)))) ≡ Some (located_object (refusal, position))
unfolding object_at located_object
object-read refusal position (line, column, offset) =
    let last = json.member (codes "offset") (json.number (decimal position.offset)) json.no_members in
    let first = texts_of refusal in
    let second = put (codes "line") (number (unsigned position.line)) first in
    let third = put (codes "column") (number (unsigned position.column)) second in
    ap (option_map object)
    (step (codes "line") (json.number (decimal position.line)) (json.member (codes "column") (json.number (decimal position.column)) last) first (number (unsigned position.line)) (read-number position.line line)
    ∙ step (codes "column") (json.number (decimal position.column)) last second (number (unsigned position.column)) (read-number position.column column)
    ∙ step (codes "offset") (json.number (decimal position.offset)) json.no_members third (number (unsigned position.offset)) (read-number position.offset offset))

object-numbers : (refusal : Printed) (position : Position) → FitsWords position → tree.HasNumbers (outline (fault_object (located (refusal, position))))
unfolding object_at
object-numbers refusal position (line, column, offset) = (tt, (tt, (tt, (IsNumber-decimal position.line line, (IsNumber-decimal position.column column, (IsNumber-decimal position.offset offset, tt))))))

object-shallow : (refusal : Printed) (position : Position) → tree.depth (outline (fault_object (located (refusal, position)))) ≤ 1
unfolding object_at
object-shallow refusal position = omega arith

pub fault-read : (refusal : Printed) (position : Position) → FitsWords position → read (json_line (fault_value (located (refusal, position)))) ≡ Some (object (put (codes "fault") (located_object (refusal, position)) no_members))
fault-read refusal position fits =
    let shallow = object-shallow refusal position in
    read-line (fault_value (located (refusal, position))) (object-numbers refusal position fits, tt) (omega (arith, shallow))
    ∙ ap (option_map object) (step (codes "fault") (outline (fault_object (located (refusal, position)))) json.no_members no_members (located_object (refusal, position)) (object-read refusal position fits))

-- ---- a list

abbrev objects_of : List (Printed × Position) → Items
objects_of faults = items_of (map fault_object (map located faults))

abbrev Fit : List (Printed × Position) → Type 0
Fit faults = AllByRecursion (λ (fault : Printed × Position). FitsWords fault.1) faults

items-read : (faults : List (Printed × Position)) → Fit faults → of_items (items_outline (objects_of faults)) ≡ Some (items_of (map located_object faults))
items-read [] fit = refl
items-read (fault ∷ faults) fit =
    ap (option_and_then (λ d. option_map (item d) (of_items (items_outline (objects_of faults))))) (object-read fault.0 fault.1 fit.0) ∙ ap (option_map (item (located_object fault))) (items-read faults fit.1)

items-numbers : (faults : List (Printed × Position)) → Fit faults → tree.ItemsHaveNumbers (items_outline (objects_of faults))
items-numbers [] fit = tt
items-numbers (fault ∷ faults) fit = (object-numbers fault.0 fault.1 fit.0, items-numbers faults fit.1)

items-shallow : (faults : List (Printed × Position)) → tree.items_depth (items_outline (objects_of faults)) ≤ 1
items-shallow [] = omega arith
items-shallow (fault ∷ faults) = let first = object-shallow fault.0 fault.1 in let rest = items-shallow faults in omega (arith, first, rest)

pub faults-read : (faults : List (Printed × Position)) → Fit faults → read (json_line (faults_value (map located faults))) ≡ Some (object (put (codes "faults") (array (items_of (map located_object faults))) no_members))
faults-read faults fit =
    let shallow = items-shallow faults in
    read-line (faults_value (map located faults)) (items-numbers faults fit, tt) (omega (arith, shallow))
    ∙ ap (option_map object) (step (codes "faults") (json.array (items_outline (objects_of faults))) json.no_members no_members (array (items_of (map located_object faults))) (ap (option_map array) (items-read faults fit)))

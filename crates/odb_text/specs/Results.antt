-- The results of check, plan and match, and a fault, as JSON values, members in byte order, but those of a position after the
-- others; and as lines.
use Rattle.std.specs.Prelude.{◌<◌, ◌^◌, ℕ, List, [], ◌∷◌, ◌++◌, Option, None, Some, length, map, option_map, slice_index, codes}
use Rattle.serde_json.specs.Data.{Data, unsigned, number, string, array, object, member, no_members, put}
use Rattle.serde_json.specs.View.{items_of}
use Rattle.serde_json.specs.Written.{compact_text}
use Rattle.odb_doc.specs.Refusals.{Printed}
use Rattle.odb_doc.specs.batch.Records.{Record}
use Rattle.odb_doc.specs.canonical.Canonical.{with_some}
use Rattle.odb_check.specs.declared.need.Need.{Need}
use Rattle.odb_check.specs.Firsts.{list_below}
use Rattle.odb_check.specs.Levels.{level_at}
use Rattle.odb_check.specs.Needs.{needs_at}
use Rattle.odb_check.specs.Positions.{group_at}
use Rattle.odb_check.specs.Texts.{need_name, newline}
use Rattle.odb_spans.specs.declared.position.Position.{Position}
use Rattle.odb_text.specs.Lines.{PrintedAt, id_text, place_text}

-- the compact text of a value as a line
abbrev pub json_line : Data → List ℕ
json_line value = compact_text value ++ newline ∷ []

-- `{"code":CODE,"name":NAME,"place":PLACE}`, and with a position `"line":LINE,"column":COLUMN,"offset":OFFSET` after these
unfoldable pub object_at : Printed → Option Position → Data
object_at refusal None =
    object (
    put (codes "code") (string refusal.code) (
    put (codes "name") (string refusal.name) (
    put (codes "place") (string (place_text refusal.place)) no_members)))
object_at refusal (Some position) =
    object (
    member (codes "code") (string refusal.code) (
    member (codes "name") (string refusal.name) (
    member (codes "place") (string (place_text refusal.place)) (
    member (codes "line") (number (unsigned position.line)) (
    member (codes "column") (number (unsigned position.column)) (
    member (codes "offset") (number (unsigned position.offset)) no_members))))))

abbrev pub fault_object : PrintedAt → Data
fault_object fault = object_at fault.refusal fault.position

-- `{"fault":{..}}`
abbrev pub fault_value : PrintedAt → Data
fault_value fault = object (put (codes "fault") (fault_object fault) no_members)

-- `{"faults":[..]}`, in this order
abbrev pub faults_value : List PrintedAt → Data
faults_value faults = object (put (codes "faults") (array (items_of (map fault_object faults))) no_members)

-- a fault and where it is
abbrev pub located : Printed × Position → PrintedAt
located (refusal, position) = record { refusal = refusal; position = Some position }

-- what the object of such a fault is read as: the same members in byte order
unfoldable pub located_object : Printed × Position → Data
located_object (refusal, position) =
    object (
    put (codes "code") (string refusal.code) (
    put (codes "column") (number (unsigned position.column)) (
    put (codes "line") (number (unsigned position.line)) (
    put (codes "name") (string refusal.name) (
    put (codes "offset") (number (unsigned position.offset)) (
    put (codes "place") (string (place_text refusal.place)) no_members))))))

-- the numbers of a position have 64 bits
abbrev pub FitsWords : Position → Type 0
FitsWords position = (position.line < 2 ^ 64) × (position.column < 2 ^ 64) × (position.offset < 2 ^ 64)

-- `{"groups":M,"requests":N}`
abbrev pub counts_value : ℕ → ℕ → Data
counts_value requests groups =
    object (put (codes "groups") (number (unsigned groups)) (put (codes "requests") (number (unsigned requests)) no_members))

-- the names of what is needed
abbrev pub need_values : List Record → List Need → List Data
need_values batch needs = map (λ need. string (need_name batch need)) needs

-- the request at a position: its group if it has one, its id, its level and its dependencies
unfoldable pub planned : List Record → ℕ → Data
planned batch i =
    object (
    with_some (codes "group") (option_map string (group_at batch i)) (
    put (codes "id") (string (id_text batch i)) (
    put (codes "level") (number (unsigned (level_at batch i))) (
    put (codes "needs") (array (items_of (need_values batch (needs_at batch i)))) no_members))))

-- `{"requests":[..]}`, in the order of the batch
abbrev pub plan_value : List Record → Data
plan_value batch = object (put (codes "requests") (array (items_of (list_below (length batch) (planned batch)))) no_members)

-- `{"id":ID,"status":STATUS}`, of the request at a position and its response
unfoldable pub matched : List Record → List ℕ → ℕ → Data
matched batch statuses i =
    object (put (codes "id") (string (id_text batch i)) (put (codes "status") (number (unsigned (slice_index statuses i))) no_members))

-- `{"responses":[..]}`, in the order of the batch
abbrev pub match_value : List Record → List ℕ → Data
match_value batch statuses = object (put (codes "responses") (array (items_of (list_below (length batch) (matched batch statuses)))) no_members)

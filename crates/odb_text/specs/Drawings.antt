-- The plan of a batch as a drawing in the language DOT of Graphviz: a node a request, a cluster a group, an arrow a
-- dependency, and a level one rank or more, a rank a row.
use Rattle.std.specs.Prelude.{ℕ, suc, ◌+◌, ◌==◌, List, [], ◌∷◌, ◌++◌, Option, Some, None, codes, if◌then◌else◌, length, slice_get}
use Rattle.std.specs.Fmt.{decimal}
use Rattle.std.specs.List.{flat_map}
use Rattle.odb_names.specs.Methods.{method_name}
use Rattle.odb_doc.specs.batch.Records.{Record}
use Rattle.odb_check.specs.declared.need.Need.{Need}
use Rattle.odb_check.specs.declared.need.Need.TheVariants.{One, Group}
use Rattle.odb_check.specs.Firsts.{joined_below}
use Rattle.odb_check.specs.Levels.{greatest_below, level_at}
use Rattle.odb_check.specs.Needs.{needs_at}
use Rattle.odb_check.specs.Texts.{newline}
use Rattle.odb_check.specs.Units.{unit_at}
use Rattle.odb_text.specs.Rows.{end_row, first_of_unit, row_at}
use Rattle.odb_text.specs.Labels.{quoted, shown}

-- the identifier, and below it the method and the URL
abbrev pub request_label : Record → List ℕ
request_label request = shown request.id ++ newline ∷ [] ++ method_name request.method ++ codes " " ++ shown request.url

-- `  I [label="LABEL"]`
abbrev pub node_line : ℕ → Record → List ℕ
node_line i request = codes "  " ++ decimal i ++ codes " [label=" ++ quoted (request_label request) ++ codes "]\n"

-- `  subgraph cluster_U { label="GROUP"; I }`: the request is in the cluster of its unit; nothing without a group
abbrev pub cluster_line : ℕ → ℕ → Option (List ℕ) → List ℕ
cluster_line u i None = []
cluster_line u i (Some group) = codes "  subgraph cluster_" ++ decimal u ++ codes " { label=" ++ quoted (shown group) ++ codes "; " ++ decimal i ++ codes " }\n"

-- the end of the name of a row: the first row has the name of its level
abbrev pub row_end : ℕ → List ℕ
row_end row = if row == 0 then codes "\"" else codes " row " ++ decimal row ++ codes "\""

-- `"level L"`, the name of the first row of a level, and `"level L row R"`, that of another
abbrev pub row_name : ℕ → ℕ → List ℕ
row_name level row = codes "\"level " ++ decimal level ++ row_end row

-- the start of a rank: the name of the first row of a level is drawn beside it, and that of another is not
abbrev pub rank_start : ℕ → List ℕ
rank_start row = if row == 0 then codes "  { rank=same; node [shape=plaintext]; " else codes "  { rank=same; node [shape=point style=invis]; "

-- `  { rank=same; node [shape=plaintext]; NAME; I }`: the request is drawn in its row
abbrev pub rank_line : ℕ → ℕ → ℕ → List ℕ
rank_line level row i = rank_start row ++ row_name level row ++ codes "; " ++ decimal i ++ codes " }\n"

-- the request at which the arrow from a dependency begins
abbrev pub arrow_start : List Record → Need → ℕ
arrow_start rs (One r) = r
arrow_start rs (Group u) = first_of_unit rs u

-- the end of the line: an arrow from a group begins at the edge of its cluster
abbrev pub arrow_end : Need → List ℕ
arrow_end (One r) = codes "\n"
arrow_end (Group u) = codes " [ltail=cluster_" ++ decimal u ++ codes "]\n"

-- `  R -> I`, or `  R -> I [ltail=cluster_U]`: from a request, or from a group, that request i depends on
abbrev pub arrow_line : List Record → ℕ → Need → List ℕ
arrow_line rs i need = codes "  " ++ decimal (arrow_start rs need) ++ codes " -> " ++ decimal i ++ arrow_end need

-- a request: its node, its cluster, its rank, and an arrow from each of its dependencies
abbrev pub request_lines : List Record → ℕ → Option Record → List ℕ
request_lines rs i None = []
request_lines rs i (Some request) = node_line i request ++ cluster_line (unit_at rs i) i request.group ++ rank_line (level_at rs i) (row_at rs i) i ++ flat_map (arrow_line rs i) (needs_at rs i)

-- the request at a position
abbrev pub lines_at : List Record → ℕ → List ℕ
lines_at rs i = request_lines rs i (slice_get rs i)

-- `  NAME -> NAME [style=invis]`: a row is drawn below another
abbrev pub below_line : ℕ → ℕ → ℕ → ℕ → List ℕ
below_line level row next_level next_row = codes "  " ++ row_name level row ++ codes " -> " ++ row_name next_level next_row ++ codes " [style=invis]\n"

-- each row of a level is drawn below the one before it
abbrev pub row_lines : List Record → ℕ → List ℕ
row_lines rs level = joined_below (end_row rs level) (λ row. below_line level row level (row + 1))

-- a level is drawn below the last row of the one before it
abbrev pub level_line : List Record → ℕ → List ℕ
level_line rs level = below_line level (end_row rs level) (level + 1) 0

-- the greatest level
abbrev pub greatest_level : List Record → ℕ
greatest_level rs = greatest_below (length rs) (level_at rs)

-- the drawing: its requests in the order of the batch, then the rows of each level, and then its levels
abbrev pub drawing_text : List Record → List ℕ
drawing_text rs =
    codes "digraph plan {\n  compound=true; newrank=true; node [shape=box]\n"
    ++ joined_below (length rs) (lines_at rs)
    ++ joined_below (suc (greatest_level rs)) (row_lines rs)
    ++ joined_below (greatest_level rs) (level_line rs)
    ++ codes "}\n"

-- The lines of a drawing, of a plan and of a trace are those that they are made of: no text in them has a newline.
use Rattle.std.proofs.Common.{◌≡◌, ◌∙◌, ◌<◌, ◌+◌, ◌/◌, ◌%◌, ◌^◌, ℕ, zero, suc, Bool, true, false, ◌||◌, ◌&&◌, cond, if◌then◌else◌, nat_lt, List, [], ◌∷◌, ◌++◌, length, slice_get, map, Option, None, Some, option_and_then, unwrap_or, refl, sym, ap, subst, inl, inr, arith, codes, append_assoc, append-nil, lt-ltb}
use Rattle.std.specs.Prelude.{◌==◌, decimal}
use Rattle.std.specs.Char.{digit_char}
use Rattle.std.specs.Fmt.{digit_glyph, digits, digits_onto}
use Rattle.std.specs.List.{filter, flat_map}
use Rattle.std.proofs.lemmas.Bool.{cases_eq, cases_lt, eq-eqb, false≢true, le-ltb, ne_eqb, or_from, or_parts}
use Rattle.std.proofs.lemmas.Grind.{flat_map-append}
use Rattle.std.proofs.lemmas.List.Elements.{filter-append}
use Rattle.json.specs.Print.{escape, escape_byte, escape_letter}
use Rattle.serde_json.specs.Data.{Data}
use Rattle.odb_doc.specs.batch.Records.{Record, IsBatchOf}
use Rattle.odb_doc.specs.batch.Shapes.{elements}
use Rattle.odb_check.specs.declared.need.Need.{Need}
use Rattle.odb_check.specs.declared.need.Need.TheVariants.{One, Group}
use Rattle.odb_check.specs.Firsts.{joined_below, list_below}
use Rattle.odb_check.specs.Levels.{level_at}
use Rattle.odb_check.specs.Needs.{needs_at}
use Rattle.odb_check.specs.Positions.{group_at, id_at}
use Rattle.odb_check.specs.Texts.{plan_line, plan_text}
use Rattle.odb_check.specs.Units.{unit_at}
use Rattle.odb_sched.specs.declared.event.Step.{Step}
use Rattle.odb_sched.specs.declared.event.Step.TheVariants as steps
use Rattle.odb_sched.specs.run.Answers.{reported, status_of, undone}
use Rattle.odb_sched.specs.run.State.{State}
use Rattle.odb_text.specs.DrawnLines.{before_lines, clusters_of, lines_of, mark_of, marked, nodes_of}
use Rattle.odb_text.specs.Drawings.{arrow_end, arrow_line, arrow_start, below_line, cluster_line, drawing_text, greatest_level, level_line, lines_at, node_line, rank_line, rank_start, request_label, request_lines, row_end, row_lines, row_name}
use Rattle.odb_text.specs.Rows.{end_row, row_at}
use Rattle.odb_text.specs.Labels.{quoted, shown}
use Rattle.odb_text.specs.Lines.{id_text}
use Rattle.odb_text.specs.Traces.{step_line, trace_text, undo_line}
use Rattle.odb_text.proofs.PlanTextLemmas.{AreLines, AreNamed, IsLine, Lack, elements-named, has, has-words, id-form, joined, joined-below, lacks-append, lacks-name, line-is, lines-below}

-- ---- numbers

abbrev is_digit : ℕ → Bool
is_digit x = nat_lt 47 x && nat_lt x 58

abbrev AreDigits : List ℕ → Type 0
AreDigits [] = Unit {0}
AreDigits (x ∷ xs) = (is_digit x ≡ true) × AreDigits xs

glyph-digit : (d : ℕ) → d < 10 → is_digit (digit_glyph false d) ≡ true
glyph-digit d less = rw (lt-ltb d 10 less, lt-ltb 47 (48 + d) (omega arith), lt-ltb (48 + d) 58 (omega (arith, less))) refl

either-digits : (b : Bool) (xs ys : List ℕ) → AreDigits xs → AreDigits ys → AreDigits (if b then xs else ys)
either-digits true xs ys left right = left
either-digits false xs ys left right = right

onto-digits : (k n : ℕ) (acc : List ℕ) → AreDigits acc → AreDigits (digits_onto k 10 false n acc)
onto-digits zero n acc are = are
onto-digits (suc k) n acc are =
    let more : AreDigits (digit_glyph false (n % 10) ∷ acc) = (glyph-digit (n % 10) (omega arith), are) in
    either-digits (n / 10 == 0) _ _ more (onto-digits k (n / 10) (digit_glyph false (n % 10) ∷ acc) more)

decimal-digits : (n : ℕ) → AreDigits (decimal n)
unfolding digits
decimal-digits n = onto-digits 64 n [] tt

digits-lack : (ds : List ℕ) → AreDigits ds → Lack 10 ds
digits-lack [] are = refl
digits-lack (d ∷ ds) (is, are) = or_from (d == 10) _ (ne_eqb d 10 (λ same. false≢true (subst (λ (y : ℕ). is_digit y ≡ true) same is))) (digits-lack ds are)

number-lacks : (n : ℕ) → Lack 10 (decimal n)
number-lacks n = digits-lack (decimal n) (decimal-digits n)

past-digits : (ds rest : List ℕ) → AreDigits ds → mark_of (ds ++ rest) ≡ mark_of rest
past-digits [] rest are = refl
past-digits (d ∷ ds) rest (is, are) = ap (λ (b : Bool). if b || d == 32 then mark_of (ds ++ rest) else d) is ∙ past-digits ds rest are

past-number : (n : ℕ) (rest : List ℕ) → mark_of (decimal n ++ rest) ≡ mark_of rest
past-number n rest = past-digits (decimal n) rest (decimal-digits n)

-- ---- texts in quotation marks

letter-other : (a b c d e f : Bool) (x : ℕ) → (x == 10) ≡ false → (cond a x (cond b 98 (cond c 102 (cond d 110 (cond e 114 (cond f 116 0))))) == 10) ≡ false
letter-other true b c d e f x other = other
letter-other false true c d e f x other = refl
letter-other false false true d e f x other = refl
letter-other false false false true e f x other = refl
letter-other false false false false true f x other = refl
letter-other false false false false false true x other = refl
letter-other false false false false false false x other = refl

char-other : (d : ℕ) → (digit_char d == 10) ≡ false
char-other d = elim (cases_lt d 10) [
  | inl less ↦ subst (λ (y : ℕ). (y == 10) ≡ false) (sym (ap (λ (b : Bool). cond b (48 + d) (87 + d)) (lt-ltb d 10 less))) (ne_eqb (48 + d) 10 (λ e. omega (arith, e)))
  | inr more ↦ subst (λ (y : ℕ). (y == 10) ≡ false) (sym (ap (λ (b : Bool). cond b (48 + d) (87 + d)) (le-ltb d 10 more))) (ne_eqb (87 + d) 10 (λ e. omega (arith, e)))
]

escaped-lacks : (b c : Bool) (l x d e : ℕ) → (l == 10) ≡ false → (x == 10) ≡ false → (d == 10) ≡ false → (e == 10) ≡ false
    → Lack 10 (cond b (92 ∷ l ∷ []) (cond c (92 ∷ 117 ∷ 48 ∷ 48 ∷ d ∷ e ∷ []) (x ∷ [])))
escaped-lacks true c l x d e letter plain first second = or_from (l == 10) _ letter refl
escaped-lacks false true l x d e letter plain first second = or_from (d == 10) _ first (or_from (e == 10) _ second refl)
escaped-lacks false false l x d e letter plain first second = or_from (x == 10) _ plain refl

byte-lacks : (x : ℕ) → Lack 10 (escape_byte x)
unfolding escape_byte
byte-lacks x = elim (cases_eq x 10) [
  | inl newline ↦ subst (λ (y : ℕ). Lack 10 (escape_byte y)) (sym newline) refl
  | inr differs ↦
      let other = ne_eqb x 10 differs in
      escaped-lacks (nat_lt 0 (escape_letter x)) (nat_lt x 32) (escape_letter x) x (digit_char (x / 16)) (digit_char (x % 16)) (letter-other ((x == 34) || (x == 92)) (x == 8) (x == 12) (x == 10) (x == 13) (x == 9) x other) other (char-other (x / 16)) (char-other (x % 16))
]

escape-lacks : (text : List ℕ) → Lack 10 (escape text)
escape-lacks [] = refl
escape-lacks (x ∷ text) = lacks-append 10 (escape_byte x) (escape text) (byte-lacks x) (escape-lacks text)

quoted-lacks : (text : List ℕ) → Lack 10 (quoted text)
quoted-lacks text = lacks-append 10 (escape text) (34 ∷ []) (escape-lacks text) refl

-- ---- the lines of lines

line-after : (a line : List ℕ) → Lack 10 a → IsLine line → IsLine (a ++ line)
line-after a line lacks (body, (none, is)) = (a ++ body, (lacks-append 10 a body lacks none, ap (λ (rest : List ℕ). a ++ rest) is ∙ sym (append_assoc a body (10 ∷ []))))

line-first : (body rest : List ℕ) → Lack 10 body → lines_of (body ++ 10 ∷ rest) ≡ (body ++ 10 ∷ []) ∷ lines_of rest
line-first [] rest lacks = refl
line-first (x ∷ body) rest lacks =
    let parts = or_parts (x == 10) (has 10 body) lacks in
    ap (λ (b : Bool). if b then (10 ∷ []) ∷ lines_of (body ++ 10 ∷ rest) else before_lines x (lines_of (body ++ 10 ∷ rest))) parts.0
    ∙ ap (before_lines x) (line-first body rest parts.1)

pub lines-joined : (lines : List (List ℕ)) → AreLines lines → lines_of (joined lines) ≡ lines
lines-joined [] are = refl
lines-joined (line ∷ lines) ((body, (lacks, is)), are) =
    ap lines_of (ap (λ (first : List ℕ). first ++ joined lines) is ∙ append_assoc body (10 ∷ []) (joined lines))
    ∙ line-first body (joined lines) lacks ∙ ap (λ (rest : List (List ℕ)). (body ++ 10 ∷ []) ∷ rest) (lines-joined lines are) ∙ ap (λ (first : List ℕ). first ∷ lines) (sym is)

lines-append : (xs ys : List (List ℕ)) → AreLines xs → AreLines ys → AreLines (xs ++ ys)
lines-append [] ys left right = right
lines-append (x ∷ xs) ys left right = (left.0, lines-append xs ys left.1 right)

joined-append : (xs ys : List (List ℕ)) → joined (xs ++ ys) ≡ joined xs ++ joined ys
joined-append xs ys = flat_map-append (λ (line : List ℕ). line) xs ys

lines-each : (n : ℕ) (rows : ℕ → List (List ℕ)) → ((i : ℕ) → AreLines (rows i)) → AreLines (joined_below n rows)
lines-each zero rows each = tt
lines-each (suc n) rows each = lines-append (joined_below n rows) (rows n) (lines-each n rows each) (each n)

joined-each : (n : ℕ) (text : ℕ → List ℕ) (rows : ℕ → List (List ℕ)) → ((i : ℕ) → text i ≡ joined (rows i)) → joined_below n text ≡ joined (joined_below n rows)
joined-each zero text rows each = refl
joined-each (suc n) text rows each =
    ap (λ (before : List ℕ). before ++ text n) (joined-each n text rows each) ∙ ap (λ (last : List ℕ). joined (joined_below n rows) ++ last) (each n) ∙ sym (joined-append (joined_below n rows) (rows n))

-- ---- the rows of a drawing

node-is : (i : ℕ) (request : Record) → IsLine (node_line i request)
node-is i request =
    let label = quoted (request_label request) in
    line-after (codes "  " ++ decimal i ++ codes " [label=" ++ label) (codes "]\n")
    (lacks-append 10 (codes "  " ++ decimal i ++ codes " [label=") label (lacks-append 10 (codes "  " ++ decimal i) (codes " [label=") (lacks-append 10 (codes "  ") (decimal i) refl (number-lacks i)) refl) (quoted-lacks (request_label request)))
    (codes "]", (refl, refl))

cluster-is : (u i : ℕ) (group : List ℕ) → IsLine (cluster_line u i (Some group))
cluster-is u i group =
    let label = quoted (shown group) in
    let head = codes "  subgraph cluster_" ++ decimal u ++ codes " { label=" in
    let lacks = lacks-append 10 head label (lacks-append 10 (codes "  subgraph cluster_" ++ decimal u) (codes " { label=") (lacks-append 10 (codes "  subgraph cluster_") (decimal u) refl (number-lacks u)) refl) (quoted-lacks (shown group)) in
    line-after (head ++ label ++ codes "; " ++ decimal i) (codes " }\n")
    (lacks-append 10 (head ++ label ++ codes "; ") (decimal i) (lacks-append 10 (head ++ label) (codes "; ") lacks refl) (number-lacks i))
    (codes " }", (refl, refl))

end-lacks : (row : ℕ) (b : Bool) → Lack 10 (if b then codes "\"" else codes " row " ++ decimal row ++ codes "\"")
end-lacks row true = refl
end-lacks row false = lacks-append 10 (codes " row " ++ decimal row) (codes "\"") (lacks-append 10 (codes " row ") (decimal row) refl (number-lacks row)) refl

row-lacks : (level row : ℕ) → Lack 10 (row_name level row)
row-lacks level row = lacks-append 10 (codes "\"level " ++ decimal level) (row_end row) (lacks-append 10 (codes "\"level ") (decimal level) refl (number-lacks level)) (end-lacks row (row == 0))

start-lacks : (b : Bool) → Lack 10 (if b then codes "  { rank=same; node [shape=plaintext]; " else codes "  { rank=same; node [shape=point style=invis]; ")
start-lacks true = refl
start-lacks false = refl

rank-is : (level row i : ℕ) → IsLine (rank_line level row i)
rank-is level row i =
    let head = rank_start row ++ row_name level row in
    line-after (head ++ codes "; " ++ decimal i) (codes " }\n")
    (lacks-append 10 (head ++ codes "; ") (decimal i) (lacks-append 10 head (codes "; ") (lacks-append 10 (rank_start row) (row_name level row) (start-lacks (row == 0)) (row-lacks level row)) refl) (number-lacks i))
    (codes " }", (refl, refl))

arrow-end-is : (need : Need) → IsLine (arrow_end need)
arrow-end-is (One r) = ([], (refl, refl))
arrow-end-is (Group u) = line-after (codes " [ltail=cluster_" ++ decimal u) (codes "]\n") (lacks-append 10 (codes " [ltail=cluster_") (decimal u) refl (number-lacks u)) (codes "]", (refl, refl))

arrow-is : (rs : List Record) (i : ℕ) (need : Need) → IsLine (arrow_line rs i need)
arrow-is rs i need =
    let from = codes "  " ++ decimal (arrow_start rs need) in
    line-after (from ++ codes " -> " ++ decimal i) (arrow_end need)
    (lacks-append 10 (from ++ codes " -> ") (decimal i) (lacks-append 10 from (codes " -> ") (lacks-append 10 (codes "  ") (decimal (arrow_start rs need)) refl (number-lacks (arrow_start rs need))) refl) (number-lacks i))
    (arrow-end-is need)

below-is : (level row next_level next_row : ℕ) → IsLine (below_line level row next_level next_row)
below-is level row next_level next_row =
    let from = codes "  " ++ row_name level row in
    line-after (from ++ codes " -> " ++ row_name next_level next_row) (codes " [style=invis]\n")
    (lacks-append 10 (from ++ codes " -> ") (row_name next_level next_row) (lacks-append 10 from (codes " -> ") (lacks-append 10 (codes "  ") (row_name level row) refl (row-lacks level row)) refl) (row-lacks next_level next_row))
    (codes " [style=invis]", (refl, refl))

arrows-are : (rs : List Record) (i : ℕ) (needs : List Need) → AreLines (map (arrow_line rs i) needs)
arrows-are rs i [] = tt
arrows-are rs i (need ∷ needs) = (arrow-is rs i need, arrows-are rs i needs)

clusters-are : (u i : ℕ) (group : Option (List ℕ)) → AreLines (clusters_of u i group)
clusters-are u i None = tt
clusters-are u i (Some group) = (cluster-is u i group, tt)

-- the lines of a request
abbrev rows_of : List Record → ℕ → Option Record → List (List ℕ)
rows_of rs i None = []
rows_of rs i (Some request) = (node_line i request ∷ []) ++ clusters_of (unit_at rs i) i request.group ++ (rank_line (level_at rs i) (row_at rs i) i ∷ []) ++ map (arrow_line rs i) (needs_at rs i)

abbrev rows_at : List Record → ℕ → List (List ℕ)
rows_at rs i = rows_of rs i (slice_get rs i)

rows-are : (rs : List Record) (i : ℕ) (request : Option Record) → AreLines (rows_of rs i request)
rows-are rs i None = tt
rows-are rs i (Some request) =
    let first = node_line i request ∷ [] in
    let clusters = clusters_of (unit_at rs i) i request.group in
    let rank = rank_line (level_at rs i) (row_at rs i) i ∷ [] in
    lines-append (first ++ clusters ++ rank) (map (arrow_line rs i) (needs_at rs i))
    (lines-append (first ++ clusters) rank (lines-append first clusters (node-is i request, tt) (clusters-are (unit_at rs i) i request.group)) (rank-is (level_at rs i) (row_at rs i) i, tt))
    (arrows-are rs i (needs_at rs i))

clusters-joined : (u i : ℕ) (group : Option (List ℕ)) → cluster_line u i group ≡ joined (clusters_of u i group)
clusters-joined u i None = refl
clusters-joined u i (Some group) = sym (append-nil (cluster_line u i (Some group)))

arrows-joined : (rs : List Record) (i : ℕ) (needs : List Need) → flat_map (arrow_line rs i) needs ≡ joined (map (arrow_line rs i) needs)
arrows-joined rs i [] = refl
arrows-joined rs i (need ∷ needs) = ap (λ (rest : List ℕ). arrow_line rs i need ++ rest) (arrows-joined rs i needs)

rows-joined : (rs : List Record) (i : ℕ) (request : Option Record) → request_lines rs i request ≡ joined (rows_of rs i request)
rows-joined rs i None = refl
rows-joined rs i (Some request) =
    let node = node_line i request in
    let rank = rank_line (level_at rs i) (row_at rs i) i in
    let clusters = clusters_of (unit_at rs i) i request.group in
    let arrows = map (arrow_line rs i) (needs_at rs i) in
    (λ k. sym (append-nil node) k ++ clusters-joined (unit_at rs i) i request.group k ++ sym (append-nil rank) k ++ arrows-joined rs i (needs_at rs i) k)
    ∙ ap (λ (text : List ℕ). text ++ joined (rank ∷ []) ++ joined arrows) (sym (joined-append (node ∷ []) clusters))
    ∙ ap (λ (text : List ℕ). text ++ joined arrows) (sym (joined-append ((node ∷ []) ++ clusters) (rank ∷ [])))
    ∙ sym (joined-append ((node ∷ []) ++ clusters ++ (rank ∷ [])) arrows)

-- the rows of the levels, each below the one before it, and the levels
abbrev row_rows : List Record → List (List ℕ)
row_rows rs = joined_below (suc (greatest_level rs)) (λ level. list_below (end_row rs level) (λ row. below_line level row level (row + 1)))

abbrev level_rows : List Record → List (List ℕ)
level_rows rs = list_below (greatest_level rs) (level_line rs)

list-are : (n : ℕ) (f : ℕ → List ℕ) → ((i : ℕ) → IsLine (f i)) → AreLines (list_below n f)
list-are zero f each = tt
list-are (suc n) f each = lines-append (list_below n f) (f n ∷ []) (list-are n f each) (each n, tt)

abbrev head_rows : List (List ℕ)
head_rows = codes "digraph plan {\n" ∷ codes "  compound=true; newrank=true; node [shape=box]\n" ∷ []

abbrev request_rows : List Record → List (List ℕ)
request_rows rs = joined_below (length rs) (rows_at rs)

abbrev all_rows : List Record → List (List ℕ)
all_rows rs = head_rows ++ request_rows rs ++ row_rows rs ++ level_rows rs ++ (codes "}\n" ∷ [])

rows-order : (rs : List Record) → AreLines (row_rows rs)
rows-order rs = lines-each (suc (greatest_level rs)) (λ level. list_below (end_row rs level) (λ row. below_line level row level (row + 1))) (λ level. list-are (end_row rs level) (λ row. below_line level row level (row + 1)) (λ row. below-is level row level (row + 1)))

levels-order : (rs : List Record) → AreLines (level_rows rs)
levels-order rs = list-are (greatest_level rs) (level_line rs) (λ level. below-is level (end_row rs level) (level + 1) 0)

all-are : (rs : List Record) → AreLines (all_rows rs)
all-are rs =
    lines-append (head_rows ++ request_rows rs ++ row_rows rs ++ level_rows rs) (codes "}\n" ∷ [])
    (lines-append (head_rows ++ request_rows rs ++ row_rows rs) (level_rows rs)
    (lines-append (head_rows ++ request_rows rs) (row_rows rs)
    (lines-append head_rows (request_rows rs) ((codes "digraph plan {", (refl, refl)), ((codes "  compound=true; newrank=true; node [shape=box]", (refl, refl)), tt)) (lines-each (length rs) (rows_at rs) (λ i. rows-are rs i (slice_get rs i))))
    (rows-order rs)) (levels-order rs))
    ((codes "}", (refl, refl)), tt)

all-joined : (rs : List Record) → drawing_text rs ≡ joined (all_rows rs)
all-joined rs =
    let head = codes "digraph plan {\n  compound=true; newrank=true; node [shape=box]\n" in
    let requests = request_rows rs in
    let rows = row_rows rs in
    let levels = level_rows rs in
    (λ k. head ++ joined-each (length rs) (lines_at rs) (rows_at rs) (λ i. rows-joined rs i (slice_get rs i)) k
    ++ joined-each (suc (greatest_level rs)) (row_lines rs) (λ level. list_below (end_row rs level) (λ row. below_line level row level (row + 1))) (λ level. joined-below (end_row rs level) (λ row. below_line level row level (row + 1))) k
    ++ joined-below (greatest_level rs) (level_line rs) k ++ codes "}\n")
    ∙ ap (λ (text : List ℕ). text ++ joined rows ++ joined levels ++ codes "}\n") (sym (joined-append head_rows requests))
    ∙ ap (λ (text : List ℕ). text ++ joined levels ++ codes "}\n") (sym (joined-append (head_rows ++ requests) rows))
    ∙ ap (λ (text : List ℕ). text ++ codes "}\n") (sym (joined-append (head_rows ++ requests ++ rows) levels))
    ∙ sym (joined-append (head_rows ++ requests ++ rows ++ levels) (codes "}\n" ∷ []))

-- ---- what the lines of a drawing are taken for

abbrev is_marked : ℕ → List ℕ → Bool
is_marked mark line = mark_of line == mark

abbrev AllMarked : ℕ → List (List ℕ) → Type 0
AllMarked mark [] = Unit {0}
AllMarked mark (line ∷ lines) = (mark_of line ≡ mark) × AllMarked mark lines

all-kept : (mark : ℕ) (lines : List (List ℕ)) → AllMarked mark lines → filter (is_marked mark) lines ≡ lines
all-kept mark [] are = refl
all-kept mark (line ∷ lines) (is, are) = rw (is, eq-eqb mark mark refl, all-kept mark lines are) refl

none-kept : (mark other : ℕ) (lines : List (List ℕ)) → (other == mark) ≡ false → AllMarked other lines → filter (is_marked mark) lines ≡ []
none-kept mark other [] differs are = refl
none-kept mark other (line ∷ lines) differs (is, are) = rw (is, differs, none-kept mark other lines differs are) refl

node-marked : (i : ℕ) (request : Record) → mark_of (node_line i request) ≡ 91
node-marked i request =
    let label = quoted (request_label request) in
    ap mark_of (append_assoc (decimal i ++ codes " [label=") label (codes "]\n") ∙ append_assoc (decimal i) (codes " [label=") (label ++ codes "]\n")) ∙ past-number i (codes " [label=" ++ (label ++ codes "]\n"))

arrow-marked : (rs : List Record) (i : ℕ) (need : Need) → mark_of (arrow_line rs i need) ≡ 45
arrow-marked rs i need =
    let from = decimal (arrow_start rs need) in
    ap mark_of (append_assoc (from ++ codes " -> ") (decimal i) (arrow_end need) ∙ append_assoc from (codes " -> ") (decimal i ++ arrow_end need)) ∙ past-number (arrow_start rs need) (codes " -> " ++ (decimal i ++ arrow_end need))

start-marked : (b : Bool) (a c d e : List ℕ) → mark_of ((if b then codes "  { rank=same; node [shape=plaintext]; " else codes "  { rank=same; node [shape=point style=invis]; ") ++ a ++ c ++ d ++ e) ≡ 123
start-marked true a c d e = refl
start-marked false a c d e = refl

rank-marked : (level row i : ℕ) → mark_of (rank_line level row i) ≡ 123
rank-marked level row i = start-marked (row == 0) (row_name level row) (codes "; ") (decimal i) (codes " }\n")

clusters-marked : (u i : ℕ) (group : Option (List ℕ)) → AllMarked 115 (clusters_of u i group)
clusters-marked u i None = tt
clusters-marked u i (Some group) = (refl, tt)

arrows-marked : (rs : List Record) (i : ℕ) (needs : List Need) → AllMarked 45 (map (arrow_line rs i) needs)
arrows-marked rs i [] = tt
arrows-marked rs i (need ∷ needs) = (arrow-marked rs i need, arrows-marked rs i needs)

marked-append : (mark : ℕ) (xs ys : List (List ℕ)) → AllMarked mark xs → AllMarked mark ys → AllMarked mark (xs ++ ys)
marked-append mark [] ys left right = right
marked-append mark (x ∷ xs) ys left right = (left.0, marked-append mark xs ys left.1 right)

marked-list : (mark n : ℕ) (f : ℕ → List ℕ) → ((i : ℕ) → mark_of (f i) ≡ mark) → AllMarked mark (list_below n f)
marked-list mark zero f each = tt
marked-list mark (suc n) f each = marked-append mark (list_below n f) (f n ∷ []) (marked-list mark n f each) (each n, tt)

marked-each : (mark n : ℕ) (rows : ℕ → List (List ℕ)) → ((i : ℕ) → AllMarked mark (rows i)) → AllMarked mark (joined_below n rows)
marked-each mark zero rows each = tt
marked-each mark (suc n) rows each = marked-append mark (joined_below n rows) (rows n) (marked-each mark n rows each) (each n)

filter-each : (p : List ℕ → Bool) (n : ℕ) (rows kept : ℕ → List (List ℕ)) → ((i : ℕ) → i < n → filter p (rows i) ≡ kept i) → filter p (joined_below n rows) ≡ joined_below n kept
filter-each p zero rows kept each = refl
filter-each p (suc n) rows kept each =
    filter-append p (joined_below n rows) (rows n) ∙ (λ k. filter-each p n rows kept (λ i less. each i (omega (arith, less))) k ++ each n (omega arith) k)

-- the parts of the lines of a request that are kept
parts-kept : (p : List ℕ → Bool) (node clusters rank arrows : List (List ℕ)) → filter p (node ++ clusters ++ rank ++ arrows) ≡ filter p node ++ filter p clusters ++ filter p rank ++ filter p arrows
parts-kept p node clusters rank arrows =
    filter-append p (node ++ clusters ++ rank) arrows
    ∙ ap (λ (rest : List (List ℕ)). rest ++ filter p arrows) (filter-append p (node ++ clusters) rank ∙ ap (λ (rest : List (List ℕ)). rest ++ filter p rank) (filter-append p node clusters))

-- the lines of a drawing with a mark are those of its requests, if no other line has it
drawn-kept : (mark : ℕ) (rs : List Record) → (34 == mark) ≡ false → filter (is_marked mark) head_rows ≡ [] → filter (is_marked mark) (codes "}\n" ∷ []) ≡ [] → marked mark (drawing_text rs) ≡ filter (is_marked mark) (request_rows rs)
drawn-kept mark rs other head last =
    let p = is_marked mark in
    let rows = none-kept mark 34 (row_rows rs) other (marked-each 34 (suc (greatest_level rs)) (λ level. list_below (end_row rs level) (λ row. below_line level row level (row + 1))) (λ level. marked-list 34 (end_row rs level) (λ row. below_line level row level (row + 1)) (λ row. refl))) in
    let levels = none-kept mark 34 (level_rows rs) other (marked-list 34 (greatest_level rs) (level_line rs) (λ level. refl)) in
    ap (filter p) (ap lines_of (all-joined rs) ∙ lines-joined (all_rows rs) (all-are rs))
    ∙ filter-append p (head_rows ++ request_rows rs ++ row_rows rs ++ level_rows rs) (codes "}\n" ∷ [])
    ∙ ap (λ (rest : List (List ℕ)). rest ++ filter p (codes "}\n" ∷ [])) (parts-kept p head_rows (request_rows rs) (row_rows rs) (level_rows rs))
    ∙ (λ k. head k ++ filter p (request_rows rs) ++ rows k ++ levels k ++ last k)
    ∙ append-nil (filter p (request_rows rs) ++ [] ++ []) ∙ append-nil (filter p (request_rows rs) ++ []) ∙ append-nil (filter p (request_rows rs))

some-request : (rs : List Record) (i : ℕ) → i < length rs → (request : Record) × (slice_get rs i ≡ Some request)
some-request [] i less = absurd (omega (arith, less))
some-request (r ∷ rs) zero less = (r, refl)
some-request (r ∷ rs) (suc i) less = some-request rs i (omega (arith, less))

-- the lines of a kind of each request
module _ (mark : ℕ) (rs : List Record) (kept : ℕ → Option Record → List (List ℕ)) where
  each-kept : ((i : ℕ) (request : Record) → filter (is_marked mark) (rows_of rs i (Some request)) ≡ kept i (Some request)) → filter (is_marked mark) (request_rows rs) ≡ joined_below (length rs) (λ i. kept i (slice_get rs i))
  each-kept each = filter-each (is_marked mark) (length rs) (rows_at rs) (λ i. kept i (slice_get rs i)) (λ i less.
      let (request, is) = some-request rs i less in
      subst (λ (found : Option Record). filter (is_marked mark) (rows_of rs i found) ≡ kept i found) (sym is) (each i request))

-- the four parts of a request by what is kept of each
kept-parts : (mark : ℕ) (rs : List Record) (i : ℕ) (request : Record) (node clusters rank arrows : List (List ℕ)) → filter (is_marked mark) (node_line i request ∷ []) ≡ node → filter (is_marked mark) (clusters_of (unit_at rs i) i request.group) ≡ clusters
    → filter (is_marked mark) (rank_line (level_at rs i) (row_at rs i) i ∷ []) ≡ rank → filter (is_marked mark) (map (arrow_line rs i) (needs_at rs i)) ≡ arrows
    → filter (is_marked mark) (rows_of rs i (Some request)) ≡ node ++ clusters ++ rank ++ arrows
kept-parts mark rs i request node clusters rank arrows first second third fourth =
    parts-kept (is_marked mark) (node_line i request ∷ []) (clusters_of (unit_at rs i) i request.group) (rank_line (level_at rs i) (row_at rs i) i ∷ []) (map (arrow_line rs i) (needs_at rs i))
    ∙ (λ k. first k ++ second k ++ third k ++ fourth k)

-- which of the four parts have another mark
module _ (mark : ℕ) (rs : List Record) (i : ℕ) (request : Record) where
  no-node : (91 == mark) ≡ false → filter (is_marked mark) (node_line i request ∷ []) ≡ []
  no-node differs = none-kept mark 91 (node_line i request ∷ []) differs (node-marked i request, tt)

  no-clusters : (115 == mark) ≡ false → filter (is_marked mark) (clusters_of (unit_at rs i) i request.group) ≡ []
  no-clusters differs = none-kept mark 115 (clusters_of (unit_at rs i) i request.group) differs (clusters-marked (unit_at rs i) i request.group)

  no-rank : (123 == mark) ≡ false → filter (is_marked mark) (rank_line (level_at rs i) (row_at rs i) i ∷ []) ≡ []
  no-rank differs = none-kept mark 123 (rank_line (level_at rs i) (row_at rs i) i ∷ []) differs (rank-marked (level_at rs i) (row_at rs i) i, tt)

  no-arrows : (45 == mark) ≡ false → filter (is_marked mark) (map (arrow_line rs i) (needs_at rs i)) ≡ []
  no-arrows differs = none-kept mark 45 (map (arrow_line rs i) (needs_at rs i)) differs (arrows-marked rs i (needs_at rs i))

pub nodes-drawn : (rs : List Record) → marked 91 (drawing_text rs) ≡ joined_below (length rs) (λ i. nodes_of i (slice_get rs i))
nodes-drawn rs =
    drawn-kept 91 rs refl refl refl
    ∙ each-kept 91 rs nodes_of (λ i request. kept-parts 91 rs i request (node_line i request ∷ []) [] [] [] (all-kept 91 (node_line i request ∷ []) (node-marked i request, tt)) (no-clusters 91 rs i request refl) (no-rank 91 rs i request refl) (no-arrows 91 rs i request refl))

pub clusters-drawn : (rs : List Record) → marked 115 (drawing_text rs) ≡ joined_below (length rs) (λ i. clusters_of (unit_at rs i) i (group_at rs i))
clusters-drawn rs =
    drawn-kept 115 rs refl refl refl
    ∙ each-kept 115 rs (λ i found. clusters_of (unit_at rs i) i (option_and_then (λ r. r.group) found)) (λ i request.
    let clusters = clusters_of (unit_at rs i) i request.group in
    kept-parts 115 rs i request [] clusters [] [] (no-node 115 rs i request refl) (all-kept 115 clusters (clusters-marked (unit_at rs i) i request.group)) (no-rank 115 rs i request refl) (no-arrows 115 rs i request refl)
    ∙ append-nil (clusters ++ []) ∙ append-nil clusters)

pub ranks-drawn : (rs : List Record) → marked 123 (drawing_text rs) ≡ joined_below (length rs) (λ i. rank_line (level_at rs i) (row_at rs i) i ∷ [])
ranks-drawn rs =
    drawn-kept 123 rs refl refl refl
    ∙ each-kept 123 rs (λ i found. rank_line (level_at rs i) (row_at rs i) i ∷ []) (λ i request.
    let rank = rank_line (level_at rs i) (row_at rs i) i in
    kept-parts 123 rs i request [] [] (rank ∷ []) [] (no-node 123 rs i request refl) (no-clusters 123 rs i request refl) (all-kept 123 (rank ∷ []) (rank-marked (level_at rs i) (row_at rs i) i, tt)) (no-arrows 123 rs i request refl))

pub arrows-drawn : (rs : List Record) → marked 45 (drawing_text rs) ≡ joined_below (length rs) (λ i. map (arrow_line rs i) (needs_at rs i))
arrows-drawn rs =
    drawn-kept 45 rs refl refl refl
    ∙ each-kept 45 rs (λ i found. map (arrow_line rs i) (needs_at rs i)) (λ i request.
    let arrows = map (arrow_line rs i) (needs_at rs i) in
    kept-parts 45 rs i request [] [] [] arrows (no-node 45 rs i request refl) (no-clusters 45 rs i request refl) (no-rank 45 rs i request refl) (all-kept 45 arrows (arrows-marked rs i (needs_at rs i))))

-- ---- plans and traces

pub plan-lines : (value : Data) (rs : List Record) → IsBatchOf value rs → length rs < 2 ^ 64 → lines_of (plan_text rs) ≡ list_below (length rs) (plan_line rs)
plan-lines value rs is few =
    let words = has-words rs (elements-named (elements value) rs is) few in
    ap lines_of (joined-below (length rs) (plan_line rs)) ∙ lines-joined (list_below (length rs) (plan_line rs)) (lines-below (length rs) (plan_line rs) (λ i less. line-is rs i (words i less)))

id-lacks : (rs : List Record) → AreNamed rs → (i : ℕ) (found : Option (List ℕ)) → id_at rs i ≡ found → Lack 10 (unwrap_or found [])
id-lacks rs named i None is = refl
id-lacks rs named i (Some id) is = lacks-name 10 refl id (id-form rs named i id is)

module _ (state : State) (named : AreNamed state.requests) where
  name-lacks : (i : ℕ) → Lack 10 (id_text state.requests i)
  name-lacks i = id-lacks state.requests named i (id_at state.requests i) refl

  step-is : (step : Step) → IsLine (step_line state step)
  step-is (steps.Start i) = (codes "start " ++ id_text state.requests i, (lacks-append 10 (codes "start ") (id_text state.requests i) refl (name-lacks i), refl))
  step-is (steps.Report i) =
      let head = codes "report " ++ id_text state.requests i ++ codes " " in
      let status = decimal (status_of (reported state i)) in
      (head ++ status, (lacks-append 10 head status (lacks-append 10 (codes "report " ++ id_text state.requests i) (codes " ") (lacks-append 10 (codes "report ") (id_text state.requests i) refl (name-lacks i)) refl) (number-lacks (status_of (reported state i))), refl))

  undo-is : (i : ℕ) → IsLine (undo_line state i)
  undo-is i = (codes "undo " ++ id_text state.requests i, (lacks-append 10 (codes "undo ") (id_text state.requests i) refl (name-lacks i), refl))

map-are : {X : Type 0} (f : X → List ℕ) → ((x : X) → IsLine (f x)) → (xs : List X) → AreLines (map f xs)
map-are f each [] = tt
map-are f each (x ∷ xs) = (each x, map-are f each xs)

map-joined : {X : Type 0} (f : X → List ℕ) (xs : List X) → flat_map f xs ≡ joined (map f xs)
map-joined f [] = refl
map-joined f (x ∷ xs) = ap (λ (rest : List ℕ). f x ++ rest) (map-joined f xs)

pub trace-lines : (value : Data) (state : State) (steps : List Step) → IsBatchOf value state.requests → lines_of (trace_text state steps) ≡ map (step_line state) steps ++ map (undo_line state) (undone state)
trace-lines value state steps is =
    let named = elements-named (elements value) state.requests is in
    let first = map (step_line state) steps in
    let last = map (undo_line state) (undone state) in
    ap lines_of ((λ k. map-joined (step_line state) steps k ++ map-joined (undo_line state) (undone state) k) ∙ sym (joined-append first last))
    ∙ lines-joined (first ++ last) (lines-append first last (map-are (step_line state) (step-is state named) steps) (map-are (undo_line state) (undo-is state named) (undone state)))

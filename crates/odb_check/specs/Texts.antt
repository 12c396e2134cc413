-- The text of a plan: a line per request.
use Rattle.std.specs.Prelude.{ℕ, List, [], ◌∷◌, ◌++◌, Option, Some, None, option_and_then, unwrap_or, codes, length, ◌==◌}
use Rattle.std.specs.Fmt.{decimal}
use Rattle.odb_doc.specs.batch.Records.{Record}
use Rattle.odb_check.specs.declared.need.Need.{Need}
use Rattle.odb_check.specs.declared.need.Need.TheVariants.{One, Group}
use Rattle.odb_check.specs.Firsts.{first_below, joined_below}
use Rattle.odb_check.specs.Levels.{level_at}
use Rattle.odb_check.specs.Needs.{needs_at}
use Rattle.odb_check.specs.Positions.{id_at, group_at}
use Rattle.odb_check.specs.Units.{unit_at}

-- the byte that ends a line
abbrev pub newline : ℕ
newline = 10

-- the name of a group, or `*` for none
abbrev pub group_text : Option (List ℕ) → List ℕ
group_text None = codes "*"
group_text (Some group) = group

-- the group of a unit: that of its first position
abbrev pub group_of_unit : List Record → ℕ → Option (List ℕ)
group_of_unit rs u = option_and_then (group_at rs) (first_below (length rs) (λ j. unit_at rs j == u))

-- a request is named by its identifier, and a group by its name
abbrev pub need_name : List Record → Need → List ℕ
need_name rs (One r) = unwrap_or (id_at rs r) []
need_name rs (Group u) = group_text (group_of_unit rs u)

-- names, each after a comma
abbrev pub further_text : List Record → List Need → List ℕ
further_text rs [] = []
further_text rs (need ∷ needs) = codes "," ++ need_name rs need ++ further_text rs needs

-- names with commas between them, or `*` for none
abbrev pub names_text : List Record → List Need → List ℕ
names_text rs [] = codes "*"
names_text rs (need ∷ needs) = need_name rs need ++ further_text rs needs

-- `POS ID level L group G needs `
abbrev pub line_head : ℕ → List ℕ → ℕ → List ℕ → List ℕ
line_head i id level group = decimal i ++ codes " " ++ id ++ codes " level " ++ decimal level ++ codes " group " ++ group ++ codes " needs "

-- `POS ID level L group G needs NAMES`
abbrev pub plan_line : List Record → ℕ → List ℕ
plan_line rs i = line_head i (unwrap_or (id_at rs i) []) (level_at rs i) (group_text (group_at rs i)) ++ names_text rs (needs_at rs i) ++ newline ∷ []

-- the lines of all requests
abbrev pub plan_text : List Record → List ℕ
plan_text rs = joined_below (length rs) (plan_line rs)

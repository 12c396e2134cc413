-- For invariants and private clauses: what one pass over the tokens of a text finds.
use Rattle.std.specs.Prelude.{ℕ, List, Bool, true, false, cond, ◌&&◌, Option, Some, None, is_some, length}
use Rattle.json.specs.Json.{Json, null, boolean, number, string, array, object, Items, no_items, item, Members, no_members, member, items, members, value}
use Rattle.json.specs.Token.{Token}
use Rattle.serde_json.specs.Read.{number_of}

-- `serde_json` reads each number of the tree
abbrev mutual
  pub has_numbers : Json → Bool
  has_numbers null = true
  has_numbers (boolean b) = true
  has_numbers (number s) = is_some (number_of s)
  has_numbers (string s) = true
  has_numbers (array js) = items_have_numbers js
  has_numbers (object ms) = members_have_numbers ms

  pub items_have_numbers : Items → Bool
  items_have_numbers no_items = true
  items_have_numbers (item j js) = has_numbers j && items_have_numbers js

  pub members_have_numbers : Members → Bool
  members_have_numbers no_members = true
  members_have_numbers (member k j ms) = has_numbers j && members_have_numbers ms

-- the tokens after what was read, if that passes the test
abbrev pub left_if : {A : Type 0} → (A → Bool) → Option (A × List Token) → Option (List Token)
left_if test None = None
left_if test (Some p) = cond (test p.0) (Some p.1) None

-- the tokens after a value that nests at most so deep, and whose numbers are read
abbrev pub pass_value : ℕ → List Token → Option (List Token)
pass_value depth ts = left_if has_numbers (value depth ts)

-- the same after items and the bracket that closes their array
abbrev pub pass_items : ℕ → List Token → Option (List Token)
pass_items depth ts = left_if items_have_numbers (items (value depth) (length ts) ts)

-- the same after members and the bracket that closes their object
abbrev pub pass_members : ℕ → List Token → Option (List Token)
pass_members depth ts = left_if members_have_numbers (members (value depth) (length ts) ts)

-- the token is the JSON null
abbrev pub is_null_token : Token → Bool
is_null_token Token.begin_object = false
is_null_token Token.end_object = false
is_null_token Token.begin_array = false
is_null_token Token.end_array = false
is_null_token (Token.key s) = false
is_null_token (Token.string s) = false
is_null_token (Token.number s) = false
is_null_token (Token.boolean b) = false
is_null_token Token.null = true
is_null_token Token.bad = false

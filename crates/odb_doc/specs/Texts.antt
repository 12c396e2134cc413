-- The text of members of an object.
use Rattle.std.specs.Prelude.{ℕ, List, [], ◌++◌, Option, Some, None, codes}
use Rattle.serde_json.specs.Data.{Data, string}
use Rattle.serde_json.specs.Written.{compact_text}
use Rattle.odb_names.specs.Methods.{method_name}
use Rattle.odb_names.specs.declared.method.Method.{Method}

-- a member that may be absent: its name and colon, its value, and the comma after it
abbrev pub member_part : List ℕ → Option Data → List ℕ
member_part name None = []
member_part name (Some d) = name ++ (compact_text d ++ codes ",")

-- the last three members of a request, and the end of its object
abbrev pub request_end : List ℕ → Method → List ℕ → List ℕ
request_end id method url =
    codes "\"id\":" ++ (compact_text (string id) ++ (codes ",\"method\":\"" ++ (method_name method ++ (codes "\",\"url\":" ++ (compact_text (string url) ++ codes "}")))))

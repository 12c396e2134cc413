-- What an outcome has beside its status, wherever it is in memory.
use Rattle.std.specs.Prelude.{List, [], Option, Some, None, option_map}
use Rattle.std.specs.Box.{box_value}
use Rattle.std.specs.Global.{Box}
use Rattle.serde_json.specs.Data.{Data}
use Rattle.serde_json.specs.View.{view}
use Rattle.odb_doc.specs.Headers.{Header, headers_in}
use Rattle.odb_doc.specs.declared.recorded.outcome.Content.{Content}

-- the headers
abbrev pub headers_of : Option (Box Content) → List Header
headers_of None = []
headers_of (Some content) = headers_in (box_value content).headers

-- the body, if there is one
abbrev pub body_of : Option (Box Content) → Option Data
body_of None = None
body_of (Some content) = option_map view (box_value content).body

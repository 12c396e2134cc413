-- The plan of a batch with what is to be sent of each request (OData JSON Format 4.01, section 19.1), as a JSON value,
-- members in byte order.
use Rattle.std.specs.Prelude.{ℕ, ◌-◌, List, Option, Some, None, length, get_or, option_map, slice_get, codes}
use Rattle.serde_json.specs.Data.{Data, unsigned, number, string, array, object, no_members, put}
use Rattle.serde_json.specs.View.{items_of}
use Rattle.odb_names.specs.Methods.{http_name}
use Rattle.odb_doc.specs.batch.Records.{Record}
use Rattle.odb_doc.specs.batch.UrlRests.{url_rest}
use Rattle.odb_doc.specs.canonical.Canonical.{header_members, with_some}
use Rattle.odb_check.specs.declared.need.Need.{Need}
use Rattle.odb_check.specs.Firsts.{list_below}
use Rattle.odb_check.specs.Levels.{level_at}
use Rattle.odb_check.specs.Needs.{needs_at}
use Rattle.odb_spans.specs.declared.span.Span.{Span}
use Rattle.odb_text.specs.Results.{need_values}

-- `{"length":L,"offset":O}`: the bytes of the span
abbrev pub span_value : Span → Data
span_value span =
    object (put (codes "length") (number (unsigned (span.end - span.start))) (put (codes "offset") (number (unsigned span.start)) no_members))

-- A request with its level and dependencies: where its body is in the document, if it has one; its group, if it has one; its
-- headers, by names in lower case; its method as HTTP names it; the id that its URL refers to, if any, and the rest of the URL.
abbrev pub full_request : List Record → ℕ → List Need → Option Span → Record → Data
full_request batch level needs body r =
    object (
    with_some (codes "body") (option_map span_value body) (
    with_some (codes "group") (option_map string r.group) (
    put (codes "headers") (object (header_members r.headers)) (
    put (codes "id") (string r.id) (
    put (codes "level") (number (unsigned level)) (
    put (codes "method") (string (http_name r.method)) (
    put (codes "needs") (array (items_of (need_values batch needs))) (
    with_some (codes "reference") (option_map string r.reference) (
    put (codes "rest") (string (url_rest r)) (
    put (codes "url") (string r.url) no_members))))))))))

-- the same of the request that there is at a position
abbrev pub full_some : List Record → ℕ → Option Span → Option Record → Data
full_some batch i body None = object no_members
full_some batch i body (Some r) = full_request batch (level_at batch i) (needs_at batch i) body r

-- the request at a position, by the spans of the bodies
unfoldable pub full_planned : List Record → List (Option Span) → ℕ → Data
full_planned batch bodies i = full_some batch i (get_or bodies i None) (slice_get batch i)

-- `{"requests":[..]}`, in the order of the batch
abbrev pub full_plan_value : List Record → List (Option Span) → Data
full_plan_value batch bodies = object (put (codes "requests") (array (items_of (list_below (length batch) (full_planned batch bodies)))) no_members)

-- The responses of a service that stops at its first error: it may leave out those to the requests that it has not
-- performed (OData Protocol 4.01, section 8.2.8.3). They are read as 424.
use Rattle.std.specs.Prelude.{ℕ, Bool, not, List, ◌++◌, map, bytes_eq, if◌then◌else◌}
use Rattle.std.specs.List.{filter, list_any}
use Rattle.odb_doc.specs.Statuses.{is_error}
use Rattle.odb_doc.specs.batch.Records.{Record}
use Rattle.odb_reply.specs.ResponseDocuments.{Entry}

-- whether a response has a status from 400 to 599
abbrev pub has_error : List Entry → Bool
has_error es = list_any (λ e. is_error e.status) es

-- whether a response has the id
abbrev pub is_answered : List Entry → List ℕ → Bool
is_answered es id = list_any (λ e. bytes_eq id e.id) es

-- the requests that no response has the id of, in their order
abbrev pub unanswered : List Entry → List Record → List Record
unanswered es rs = filter (λ r. not (is_answered es r.id)) rs

-- the response to a request that was not performed
abbrev pub not_performed : Record → Entry
not_performed r = record { id = r.id; group = r.group; status = 424 }

-- the responses; and if one of them has a status from 400 to 599, after them 424 to each request without a response
unfoldable pub completed : List Record → List Entry → List Entry
completed rs es = if has_error es then es ++ map not_performed (unanswered es rs) else es

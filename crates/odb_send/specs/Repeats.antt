-- Which requests of a batch may be sent again, by the statuses of their responses (RFC 9110, sections 9.2.2 and 15.6; RFC
-- 6585, section 4; OData JSON Format 4.01, section 19.4).
use Rattle.std.specs.Prelude.{ℕ, ◌==◌, ◌||◌, ◌&&◌, Bool, false, List, Option, Some, None, slice_get, slice_index}
use Rattle.odb_names.specs.declared.method.Method.{Method}
use Rattle.odb_names.specs.Methods.{is_idempotent}
use Rattle.odb_doc.specs.Statuses.{is_success}
use Rattle.odb_doc.specs.batch.Records.{Record}

-- nothing was performed: 424 Failed Dependency, 429 Too Many Requests, 503 Service Unavailable
abbrev pub is_unperformed : ℕ → Bool
is_unperformed status = (status == 424) || (status == 429) || (status == 503)

-- nobody knows whether it was performed: 408 Request Timeout, 502 Bad Gateway, 504 Gateway Timeout
abbrev pub is_uncertain : ℕ → Bool
is_uncertain status = (status == 408) || (status == 502) || (status == 504)

-- A request with this method that was answered with this status may be sent again. A success counts as undone, since the
-- rest has it only in a group that has not succeeded.
abbrev pub may_repeat : Method → ℕ → Bool
may_repeat method status = is_success status || is_unperformed status || (is_uncertain status && is_idempotent method)

-- the same of the request, if there is one
abbrev pub may_repeat_one : Option Record → ℕ → Bool
may_repeat_one None status = false
may_repeat_one (Some r) status = may_repeat r.method status

-- the same of the request at a position, by the statuses of all responses
abbrev pub may_repeat_at : List Record → List ℕ → ℕ → Bool
may_repeat_at rs statuses i = may_repeat_one (slice_get rs i) (slice_index statuses i)

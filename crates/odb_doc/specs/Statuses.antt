-- What a status means (OData JSON Format 4.01, section 19.4; OData Protocol 4.01, section 11.7).
use Rattle.std.specs.Prelude.{ℕ, Bool, ◌&&◌, nat_lt, nat_le}

-- a status from 200 to 299
abbrev pub is_success : ℕ → Bool
is_success status = nat_le 200 status && nat_lt status 300

-- a status that a report may have: 200 to 599
abbrev pub is_status : ℕ → Bool
is_status status = nat_le 200 status && nat_lt status 600

-- a status from 400 to 599
abbrev pub is_error : ℕ → Bool
is_error status = nat_le 400 status && nat_lt status 600

-- What a URL refers to (OData JSON Format 4.01, section 19.1, `url`).
use Rattle.std.specs.Prelude.{ℕ, List, Option, None, Some}
use Rattle.odb_names.specs.Fronts.{HasFront, reference}

-- the URL refers to the request with this identifier, or to none
abbrev pub RefersTo : List ℕ → Option (List ℕ) → Type 0
RefersTo url None = (id : List ℕ) → ¬ HasFront url (reference id)
RefersTo url (Some id) = HasFront url (reference id)

-- The methods of a request (OData JSON Format 4.01, section 19.1, `method`).
use Rattle.std.specs.Prelude.{◌≡◌, ℕ, Bool, true, false, List, map, codes}
use Rattle.std.specs.Char.{to_ascii_lowercase}
use Rattle.odb_names.specs.declared.method.Method.{Method}
use Rattle.odb_names.specs.declared.method.Method.TheVariants.{Delete, Get, Patch, Post, Put}

-- in lower case
abbrev pub method_name : Method → List ℕ
method_name Delete = codes "delete"
method_name Get = codes "get"
method_name Patch = codes "patch"
method_name Post = codes "post"
method_name Put = codes "put"

-- as HTTP names it (RFC 9110, section 9.1)
abbrev pub http_name : Method → List ℕ
http_name Delete = codes "DELETE"
http_name Get = codes "GET"
http_name Patch = codes "PATCH"
http_name Post = codes "POST"
http_name Put = codes "PUT"

-- the text is the method's name, in any ASCII case
abbrev pub Names : List ℕ → Method → Type 0
Names text method = map to_ascii_lowercase text ≡ method_name method

-- a request with the method may have a body
abbrev pub takes_body : Method → Bool
takes_body Delete = false
takes_body Get = false
takes_body Patch = true
takes_body Post = true
takes_body Put = true

-- to perform a request with the method twice has the effect of performing it once (RFC 9110, section 9.2.2)
abbrev pub is_idempotent : Method → Bool
is_idempotent Delete = true
is_idempotent Get = true
is_idempotent Patch = false
is_idempotent Post = false
is_idempotent Put = true

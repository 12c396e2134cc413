-- Why a report has no outcome.
use Rattle.std.proofs.Common.{◌≡◌, Option, None, Result, Ok, Err, [], IfOk, IfErr, ap, inl, inr, refl}
use Rattle.std.proofs.lemmas.List.Sorted.{IsPermutation-refl}
use Rattle.std.specs.List.Sorted.{IsStrictlySortedBy}
use Rattle.serde_json.specs.Data.{Data}
use Rattle.odb_doc.specs.Headers.{HoldsHeaders, IsHeaders}
use Rattle.odb_doc.specs.recorded.Parts.{AreNoParts}

abbrev error-or : {T E : Type 0} → E → Result T E → E
error-or other (Ok value) = other
error-or other (Err error) = error

pub same-error : {T E : Type 0} (a b : E) → ◌≡◌ {A = Result T E} (Err a) (Err b) → a ≡ b
same-error a b same = ap (error-or a) same

-- without a body it is the headers that make no outcome
pub no-headers : (headers : Option Data) → AreNoParts headers None → ¬ IsHeaders headers
no-headers headers (inl none) = none
no-headers headers (inr none) = absurd (none tt)

-- no headers are those of a report without any
pub none-held : HoldsHeaders None []
unfolding IsStrictlySortedBy
none-held = record { listed = []; are = refl; same = IsPermutation-refl []; ordered = tt }

-- what follows from what holds of a result
pub also-ok : {T E : Type 0} (P Q : T → Type 0) (result : Result T E) → ((x : T) → P x → Q x) → IfOk result P → IfOk result Q
also-ok P Q (Ok x) more is = more x is
also-ok P Q (Err error) more is = tt

pub also-err : {T E : Type 0} (P Q : E → Type 0) (result : Result T E) → ((error : E) → P error → Q error) → IfErr result P → IfErr result Q
also-err P Q (Ok x) more is = tt
also-err P Q (Err error) more is = more error is

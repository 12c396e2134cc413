-- Where a request is sent.
use Rattle.std.proofs.Common.{◌≡◌, ℕ, List, Result, Ok, Err, IfErr, IfOk}
use Rattle.odb_resolve.specs.declared.refusal.Refusal.{Refusal}
use Rattle.odb_resolve.specs.declared.refusal.ResolveError.{ResolveError}
use Rattle.odb_resolve.specs.declared.refusal.ResolveError.TheVariants as errors
use Rattle.odb_resolve.specs.Resolutions.{Explains}
use Rattle.odb_calls.specs.Returns.{Fills}
use Rattle.odb_calls.specs.Targets.{Ends, IsRefused, IsTarget, Refuses, Resolves}
use Rattle.odb_calls.specs.Targets.Resolves.{Sent, Refused, OutOfMemory}

-- an error that explains a refusal refuses by it
refuses-error : (P : Refusal → Type 0) (outcome : Result (List ℕ) Refusal) → ((refusal : Refusal) → outcome ≡ Err refusal → P refusal) → (error : ResolveError) → Explains error outcome → Refuses P error
refuses-error P outcome so (errors.Refused refusal) is = so refusal is
refuses-error P outcome so errors.OutOfMemory is = tt

pub refuses-by : {A : Type 0} (found : Result A ResolveError) (P : Refusal → Type 0) (outcome : Result (List ℕ) Refusal) → ((refusal : Refusal) → outcome ≡ Err refusal → P refusal) → IfErr found (λ error. Explains error outcome) → IfErr found (Refuses P)
refuses-by (Ok a) P outcome so explains = tt
refuses-by (Err error) P outcome so explains = refuses-error P outcome so error explains

-- what is refused for one reason is refused for a weaker one
refuses-weaker-error : (P Q : Refusal → Type 0) → ((refusal : Refusal) → P refusal → Q refusal) → (error : ResolveError) → Refuses P error → Refuses Q error
refuses-weaker-error P Q so (errors.Refused refusal) p = so refusal p
refuses-weaker-error P Q so errors.OutOfMemory p = tt

pub refuses-weaker : {A : Type 0} (found : Result A ResolveError) (P Q : Refusal → Type 0) → ((refusal : Refusal) → P refusal → Q refusal) → IfErr found (Refuses P) → IfErr found (Refuses Q)
refuses-weaker (Ok a) P Q so p = tt
refuses-weaker (Err error) P Q so p = refuses-weaker-error P Q so error p

-- what is true of a result by two clauses
pub both : {A E : Type 0} (found : Result A E) (P Q R : A → Type 0) → ((a : A) → P a → Q a → R a) → IfOk found P → IfOk found Q → IfOk found R
both (Ok a) P Q R so p q = so a p q
both (Err e) P Q R so p q = tt

-- what is returned of an error
ends-by : (base roots url sent location : List ℕ) (post status text_length : ℕ) (old new : List ℕ) (error : ResolveError) → Refuses (IsRefused base roots url sent location post) error → Ends error status text_length old new
    → Resolves base roots url sent location post status text_length old new
ends-by base roots url sent location post status text_length old new (errors.Refused refusal) is ends = Refused refusal is ends
ends-by base roots url sent location post status text_length old new errors.OutOfMemory is ends = OutOfMemory ends

-- what is returned of what was found
pub resolves-by : {A : Type 0} (bytes : A → List ℕ) (base roots url sent location : List ℕ) (post status text_length : ℕ) (old new : List ℕ) (found : Result A ResolveError) → IfOk found (λ text. IsTarget base roots url sent location post (bytes text))
    → IfErr found (Refuses (IsRefused base roots url sent location post)) → IfOk found (λ text. Fills (bytes text) 0 status text_length old new) → IfErr found (λ error. Ends error status text_length old new)
    → Resolves base roots url sent location post status text_length old new
resolves-by bytes base roots url sent location post status text_length old new (Ok text) is refused fills ends = Sent (bytes text) is fills
resolves-by bytes base roots url sent location post status text_length old new (Err error) is refused fills ends = ends-by base roots url sent location post status text_length old new error refused ends

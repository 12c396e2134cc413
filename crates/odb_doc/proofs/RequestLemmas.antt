-- The requests that the elements of a document are, one by one.
use Rattle.std.proofs.Common.{◌≡◌, ◌∙◌, ◌+◌, ◌<◌, ℕ, List, [], ◌∷◌, ◌++◌, length, take, drop, get_or, map, ap, sym, subst, take-append-drop}
use Rattle.std.proofs.lemmas.List.{take_more, drop_more, get_or-map}
use Rattle.serde_json.specs.Data.{Data}
use Rattle.odb_doc.specs.declared.broken.Broken.TheVariants as broken
use Rattle.odb_doc.specs.declared.fault.DocFault.{DocFault}
use Rattle.odb_doc.specs.declared.fault.DocFault.TheVariants as faults
use Rattle.odb_doc.specs.declared.fault.RequestRule.{RequestRule}
use Rattle.odb_doc.specs.BrokenRules.{OnRequest, IsRequestObject, IsLeastRequestRule}
use Rattle.odb_doc.specs.Faults.{request_number}
use Rattle.odb_doc.specs.batch.LeastFault.{IsBatchObject, IsFirstBroken, IsLeastFault}
use Rattle.odb_doc.specs.batch.Records.{Record, ReadsAs}
use Rattle.odb_doc.specs.batch.Shapes.{BreaksRequest, elements}
use Rattle.odb_doc.proofs.LeastLemmas.{AreRead, AreRead-more, first_broken}

-- what a request breaks, whatever is before it
abbrev pub Breaks : RequestRule → List Data → Data → Type 0
Breaks rule before d = BreaksRequest rule d

-- the first n elements are these requests
abbrev pub AreReadUpTo : List Data → List Record → ℕ → Type 0
AreReadUpTo ds rs n = AreRead Breaks ReadsAs (take n ds) rs

-- one element more
pub AreReadUpTo-more : (ds : List Data) (rs : List Record) (n : ℕ) (d : Data) (r : Record) → n < length ds → get_or ds n d ≡ d
    → AreReadUpTo ds rs n → IsRequestObject d → ReadsAs d r → AreReadUpTo ds (rs ++ r ∷ []) (n + 1)
AreReadUpTo-more ds rs n d r within is before sound says =
    rw (take_more ds n d within, is) (AreRead-more request_number Breaks ReadsAs (take n ds) rs d r before sound says)

-- the rule that the next element breaks is the first of the list
pub first_up_to : (ds : List Data) (rs : List Record) (n : ℕ) (d : Data) (fault : DocFault) → n < length ds → get_or ds n d ≡ d → n ≡ length rs
    → AreReadUpTo ds rs n → OnRequest (λ at rule. (at ≡ n) × IsLeastRequestRule d rule) fault → OnRequest (IsFirstBroken ds) fault
first_up_to ds rs n d (faults.Request at rule) within is place before first =
    let whole : take n ds ++ d ∷ drop (n + 1) ds ≡ ds =
    ap (λ rest. take n ds ++ rest) (ap (λ x. x ∷ drop (n + 1) ds) (sym is) ∙ sym (drop_more ds n d within)) ∙ take-append-drop n ds in
    let there = first_broken request_number Breaks ReadsAs (take n ds) rs d (drop (n + 1) ds) n (broken.Rule rule) before place first.1 in
    subst (λ (i : ℕ). IsFirstBroken ds i rule) (sym first.0) (subst (λ (xs : List Data). IsFirstBroken xs n rule) whole there)
first_up_to ds rs n d (faults.Document rule) within is place before first = absurd first
first_up_to ds rs n d faults.OutOfMemory within is place before first = tt

pub least_of_request : (d : Data) (fault : DocFault) → IsBatchObject d → OnRequest (IsFirstBroken (elements d)) fault → IsLeastFault fault d
least_of_request d (faults.Request at rule) whole first = (whole, first)
least_of_request d (faults.Document rule) whole first = absurd first
least_of_request d faults.OutOfMemory whole first = tt

-- a place of a list, and of what a function makes of the list
pub get_or-view : {X Y : Type 0} (f : X → Y) (xs : List X) (i : ℕ) (x : X) → i < length xs → x ≡ get_or xs i x → get_or (map f xs) i (f x) ≡ f x
get_or-view f xs i x within is = get_or-map f xs i x (f x) within ∙ ap f (sym is)

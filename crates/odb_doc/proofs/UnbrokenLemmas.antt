-- A request that is read breaks no rule, and one that is not read breaks one.
use Rattle.std.proofs.Common.{◌≡◌, ◌⊎◌, inl, inr, ℕ, List, Option, None, Some, IsSome, IsNone, IsSomeAnd, option_map, refl, sym, subst}
use Rattle.serde_json.specs.Data.{Data}
use Rattle.odb_names.specs.Fronts.{HasFront, bad}
use Rattle.odb_names.specs.Segments.{IsNestedBatch}
use Rattle.odb_doc.specs.declared.batch.line.RequestLine.{RequestLine}
use Rattle.odb_doc.specs.declared.fault.RequestRule.{RequestRule}
use Rattle.odb_doc.specs.declared.fault.RequestRule.TheVariants as request
use Rattle.odb_doc.specs.batch.Lines.{IsLineOf}
use Rattle.odb_doc.specs.batch.MembersFound.{FitsBody}
use Rattle.odb_doc.specs.batch.Shapes.{BreaksRequest, listed_names}
use Rattle.odb_doc.specs.BrokenRules.{IsRequestObject}
use Rattle.odb_doc.specs.Headers.{Header, HasHeaders, listed_headers}
use Rattle.odb_doc.specs.Names.{distinct}
use Rattle.odb_doc.proofs.ApartLemmas.{headers_not_twice}

-- the parts of a request that was read keep it from breaking any rule
pub none_broken : (d : Data) (line : RequestLine) (names : List (List ℕ)) (headers : List Header) → IsLineOf d line → Some names ≡ option_map distinct (listed_names d) → HasHeaders d headers → FitsBody d
    → ¬ IsNestedBatch line.url.now → ¬ HasFront line.url.now bad → IsRequestObject d
none_broken d line names headers is listed has body plain fits request.NotRequestObject breaks = cc (breaks, is.object)
none_broken d line names headers is listed has body plain fits request.IfMember breaks = cc (breaks, is.condition)
none_broken d line names headers is listed has body plain fits request.UnknownRequestMember breaks = is.known breaks
none_broken d line names headers is listed has body plain fits request.BadId breaks = breaks.1 line.id.now is.id
none_broken d line names headers is listed has body plain fits request.BadMethod breaks = breaks.1 line.method is.method
none_broken d line names headers is listed has body plain fits request.BadUrl breaks = cc (subst IsNone is.url breaks.1)
none_broken d line names headers is listed has body plain fits request.BadGroup breaks = breaks.1 (option_map (λ group. group.now) line.group) is.group
none_broken d line names headers is listed has body plain fits request.BadDependsOn breaks = some_listed (listed_names d) listed breaks.1
  where
    some_listed : (o : Option (List (List ℕ))) → Some names ≡ option_map distinct o → ¬ IsNone o
    some_listed None same none = cc (same)
    some_listed (Some other) same none = cc (none)
none_broken d line names headers is listed has body plain fits request.BadHeaders breaks = cc (subst IsNone has.are breaks.1)
none_broken d line names headers is listed has body plain fits request.HeaderTwice breaks = headers_not_twice d headers has breaks
none_broken d line names headers is listed has body plain fits request.BodyNotAllowed breaks = body.0 breaks
none_broken d line names headers is listed has body plain fits request.BadBody breaks = body.1 breaks
none_broken d line names headers is listed has body plain fits request.NestedBatch breaks = plain (subst (λ o. IsSomeAnd o IsNestedBatch) is.url breaks)
none_broken d line names headers is listed has body plain fits request.BadReference breaks = fits (subst (λ o. IsSomeAnd o (λ u. HasFront u bad)) is.url breaks)

pub breaks_one : (d : Data) (rule : RequestRule) → BreaksRequest rule d → ¬ IsRequestObject d
breaks_one d rule breaks sound = sound rule breaks

-- names that cannot be listed
pub no_names : (d : Data) (line : RequestLine) → IsLineOf d line → None ≡ option_map distinct (listed_names d) → ¬ IsRequestObject d
no_names d line is none = breaks_one d request.BadDependsOn (is.object, none_listed (listed_names d) none)
  where
    none_listed : (o : Option (List (List ℕ))) → None ≡ option_map distinct o → IsNone o
    none_listed None same = refl
    none_listed (Some other) same = absurd (cc (same))

-- headers that are no texts, or of which two have one name
pub no_headers : (d : Data) (line : RequestLine) → IsLineOf d line → (IsSome (listed_headers d) → BreaksRequest request.HeaderTwice d) → ¬ IsRequestObject d
no_headers d line is twice sound = sound request.HeaderTwice (twice (texts (listed_headers d) (λ none. sound request.BadHeaders (is.object, none))))
  where
    texts : (o : Option (List Header)) → ¬ IsNone o → IsSome o
    texts None some = absurd (some refl)
    texts (Some headers) some = refl

-- a URL that names a batch or refers to nothing
pub no_reference : (d : Data) (line : RequestLine) → IsLineOf d line → (IsNestedBatch line.url.now ⊎ HasFront line.url.now bad) → ¬ IsRequestObject d
no_reference d line is why sound =
    elim why [
      | inl nested ↦ sound request.NestedBatch (subst (λ o. IsSomeAnd o IsNestedBatch) (sym is.url) nested)
      | inr front ↦ sound request.BadReference (subst (λ o. IsSomeAnd o (λ u. HasFront u bad)) (sym is.url) front)
    ]

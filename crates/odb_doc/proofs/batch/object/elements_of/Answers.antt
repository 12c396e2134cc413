use Rattle.std.proofs.Common.{◌≡◌, Option, None, Some, IsSome, refl, rules}
use Rattle.serde_json.specs.Data.{Data, Members, Items}
use Rattle.serde_json.specs.Find.{as_object}
use Rattle.serde_json.specs.View.{view}
use Rattle.odb_doc.specs.declared.fault.DocumentRule.TheVariants as document
use Rattle.odb_doc.specs.batch.LeastFault.{IsBatchObject}
use Rattle.odb_doc.specs.batch.Shapes.{requests_in}
use Rattle.odb_doc.proofs.batch.object.elements_of.Goals.{then-has_unknown-via-then-has_unknown, then-has_unknown-via-else-has_unknown+then-elements-gt-MAX_REQUESTS}
use Rattle.odb_doc.proofs.batch.object.elements_of.Goals as goal

-- a value without an array at `requests` is no object, or has no requests
no_requests : (d : Data) (ms : Option Members) (array : Option Items) → as_object d ≡ ms → requests_in d ≡ array → ¬ IsSome array → ¬ IsBatchObject d
no_requests d None array is here none good = good document.NotObject (rw is refl)
no_requests d (Some ms) None is here none good = good document.NoRequests (rw is (search rules), rw here refl)
no_requests d (Some ms) (Some array) is here none good = none (search rules)

pub returns-in_err-elements-clause-none : goal.returns-in_err-elements-clause-none
returns-in_err-elements-clause-none c =
    let d = view c.args.document.now in
    let none : ¬ IsSome (requests_in d) = search rules in
    let bad = no_requests d (as_object d) (requests_in d) refl refl none in
    search (rules, bad)

pub returns-then-has_unknown-clause-none : goal.returns-then-has_unknown-clause-none
returns-then-has_unknown-clause-none c = λ good.
    elim c.then-has_unknown.branch [
      | then-has_unknown-via-then-has_unknown w ↦ good document.UnknownMember (c.has_unknown.ensures.0 w.if-has_unknown.true)
      | then-has_unknown-via-else-has_unknown+then-elements-gt-MAX_REQUESTS w ↦ good document.TooMany (search rules)
    ]

use Rattle.std.proofs.Common.{◌∙◌, IsSome, ap, refl, subst, sym}
use Rattle.std.proofs.lemmas.Bool.{false≢true}
use Rattle.serde_json.specs.View.{view}
use Rattle.odb_doc.specs.Asked.{asked}
use Rattle.odb_doc.specs.Headers.{lent_headers}
use Rattle.odb_doc.specs.Members.{given}
use Rattle.odb_doc.proofs.ApartLemmas.{headers_not_twice}
use Rattle.odb_doc.proofs.BodyLemmas.{body_Decides}
use Rattle.odb_doc.proofs.batch.asked.Asked.has_bad_body.Goals as goal

pub returns-in_ok-is_allowed-in-Some-2 : goal.returns-in_ok-is_allowed-in-Some-2
returns-in_ok-is_allowed-in-Some-2 c =
    let d = asked c.args.self.now in
    body_Decides d (lent_headers c.in-Some-2.headers) (view c.in-Some.body.now) _ ((rw c.in-Some-2.is at c.in_ok-headers.ensures.has) d c.requires)
    (sym (c.in-Some.ensures ∙ ap given c.requires.body)) c.in_ok-is_allowed-in-Some-2.ensures

pub returns-in-None : goal.returns-in-None
returns-in-None c =
    let d = asked c.args.self.now in
    let twice = (rw c.in-None.is at c.in_ok-headers.ensures.none) d c.requires in
    (λ e. absurd (false≢true e), λ bad. absurd (headers_not_twice d bad.headers bad.has (twice (subst IsSome (sym bad.has.are) refl))))

use Rattle.std.proofs.Common.{◌≡◌, ◌∙◌, None, Some, IsSome, ap, refl, subst, sym}
use Rattle.std.proofs.lemmas.Bool.{false≢true}
use Rattle.std.proofs.lemmas.Result.{IfOk-weaker}
use Rattle.serde_json.specs.View.{view}
use Rattle.odb_doc.specs.batch.Bodies.{body_of}
use Rattle.odb_doc.specs.declared.fault.RequestRule.TheVariants as request
use Rattle.odb_doc.specs.Headers.{lent_headers}
use Rattle.odb_doc.specs.Members.{given}
use Rattle.odb_doc.proofs.BodyLemmas.{body_allowed, body_fits}
use Rattle.odb_doc.proofs.UnbrokenLemmas.{breaks_one}
use Rattle.odb_doc.proofs.batch.body.may_have_body.Goals as goal

pub returns-in_default-clause-fits : goal.returns-in_default-clause-fits
returns-in_default-clause-fits c = λ yes d parts.
    let none : body_of d ≡ None = sym (c.in_default.ensures ∙ ap given parts.are.body) in
    (λ breaks. cc (subst IsSome none breaks.body), λ breaks. cc (none, breaks.given))

pub returns-in_default-clause-breaks : goal.returns-in_default-clause-breaks
returns-in_default-clause-breaks c = λ no. absurd (false≢true (sym no))

pub returns-then-not-takes_body-clause-fits : goal.returns-then-not-takes_body-clause-fits
returns-then-not-takes_body-clause-fits c = λ yes. absurd (false≢true yes)

pub returns-then-not-takes_body-clause-breaks : goal.returns-then-not-takes_body-clause-breaks
returns-then-not-takes_body-clause-breaks c = λ no d parts.
    let is : Some (view c.in-Some.body.now) ≡ body_of d = c.in-Some.ensures ∙ ap given parts.are.body in
    breaks_one d request.BodyNotAllowed
    (record { method = c.args.method; has = parts.has_method; none = sym c.takes_body.ensures ∙ c.if-not-takes_body.true; body = subst IsSome is refl })

pub returns-clause-fits : goal.returns-clause-fits
returns-clause-fits c =
    IfOk-weaker c.is_allowed.result _ _ (λ allowed is. λ yes d parts. (
      body_allowed d c.args.method parts.has_method (sym c.takes_body.ensures ∙ c.if-not-takes_body.false),
      body_fits d (lent_headers c.args.headers.now) (view c.in-Some.body.now) parts.has_headers (sym (c.in-Some.ensures ∙ ap given parts.are.body)) (is.0 yes),
    )) c.is_allowed.ensures

pub returns-clause-breaks : goal.returns-clause-breaks
returns-clause-breaks c =
    IfOk-weaker c.is_allowed.result _ _ (λ allowed is. λ no d parts.
    breaks_one d request.BadBody (record {
      headers = lent_headers c.args.headers.now;
      has = parts.has_headers;
      body = view c.in-Some.body.now;
      given = sym (c.in-Some.ensures ∙ ap given parts.are.body);
      bad = λ fits. absurd (false≢true (sym no ∙ is.1 fits));
    })) c.is_allowed.ensures

use Rattle.std.proofs.Common.{Some, subst, sym, ◌∙◌}
use Rattle.odb_reply.specs.BodyTexts.{IsBody}
use Rattle.odb_reply.specs.Parts.{IsValue}
use Rattle.odb_reply.proofs.JsonTextLemmas.{no-body, text-body}
use Rattle.odb_reply.proofs.json_text.JsonText.read.Goals as goal

pub returns-then-is_null-clause-body : goal.returns-then-is_null-clause-body
returns-then-is_null-clause-body c =
    let (small, utf8) = c.in_ok-text.ensures.small in
    no-body c.args.bytes.now _ small utf8 (subst (λ bytes. IsValue bytes c.in_ok-is_null.is_null) c.in_ok-text.ensures.text c.in_ok-is_null.ensures.value) c.if-is_null.true

pub invariant_of-result : goal.invariant_of-result
invariant_of-result c =
    let (small, utf8) = c.in_ok-text.ensures.small in
    subst (λ bytes. IsBody bytes (Some bytes)) (sym (c.in_ok-text-2.ensures.ok ∙ c.in_ok-text.ensures.text))
    (text-body c.args.bytes.now _ small utf8 (subst (λ bytes. IsValue bytes c.in_ok-is_null.is_null) c.in_ok-text.ensures.text c.in_ok-is_null.ensures.value) c.if-is_null.false)

pub returns-clause-body : goal.returns-clause-body
returns-clause-body c =
    let (small, utf8) = c.in_ok-text.ensures.small in
    subst (λ text. IsBody c.args.bytes.now (Some text)) (sym (c.in_ok-text-2.ensures.ok ∙ c.in_ok-text.ensures.text))
    (text-body c.args.bytes.now _ small utf8 (subst (λ bytes. IsValue bytes c.in_ok-is_null.is_null) c.in_ok-text.ensures.text c.in_ok-is_null.ensures.value) c.if-is_null.false)

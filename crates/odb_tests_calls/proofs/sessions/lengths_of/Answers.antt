-- Both write one text.
use Rattle.std.proofs.Common.{◌∙◌, ℕ, List, ap, length, sym}
use Rattle.odb_engine.specs.declared.form.Form.TheVariants.{Lines}
use Rattle.odb_tests_calls.proofs.ResponseLemmas.{written}
use Rattle.odb_tests_calls.proofs.sessions.lengths_of.Goals as goal

pub returns : goal.returns
returns c =
    let (text, counted, responds) = written c.args.one.now _ _ _ _ c.give_response.ensures.text c.if-give_response-ne0.false in
    let (other, also, shown) = written c.args.other.now _ _ _ _ c.give_response-2.ensures.text c.if-give_response-ne0-2.false in
    sym counted ∙ ap (λ (t : List ℕ). length t) (c.one_session.ensures.text c.args.one.now c.args.other.now Lines text other c.requires responds shown) ∙ also

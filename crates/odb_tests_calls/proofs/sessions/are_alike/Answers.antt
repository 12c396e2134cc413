-- The same calls are taken of both runs: a question is none.
use Rattle.std.proofs.Common.{◌∙◌, ◌∷◌, ℕ, ap, refl}
use Rattle.std.specs.List.{filter}
use Rattle.odb_calls.specs.Sessions.{Ask, is_taken}
use Rattle.odb_tests_calls.specs.Calls.{answered}
use Rattle.odb_tests_calls.proofs.sessions.are_alike.Goals as goal

pub returns : goal.returns
returns c = λ same.
    let one = c.answers-returned.result in
    let other = c.answers-again.result in
    c.one_session.ensures.alike c.args.policy c.args.batch.now c.args.events.now c.args.one.now c.args.other.now c.answers-returned.new.live c.answers-again.new.live (answered one) (Ask ∷ answered other)
    c.requires.one c.requires.other c.answers-returned.ensures (c.args.other.now, refl, c.answers-again.ensures)
    (ap (λ (n : ℕ). filter is_taken (answered (n, one.1))) c.if-returned-again.false ∙ ap (λ (n : ℕ). filter is_taken (answered (other.0, n))) c.if-returned-again-2.false)

use Rattle.std.proofs.Common.{◌≡◌, ◌∙◌, ◌+◌, [], ◌∷◌, ◌++◌, take, length, Err, refl, sym, ap, subst, le_refl, arith}
use Rattle.std.proofs.lemmas.List.{take_all}
use Rattle.std.proofs.lemmas.Result.{err_from_is_err_and}
use Rattle.std.specs.Io.KnownBytes.{Consumes}
use Rattle.odb_check.specs.Texts.{newline}
use Rattle.odb_engine.specs.lines.Steps.{ahead}
use Rattle.odb_engine.specs.lines.Sources.{left}
use Rattle.odb_engine.specs.lines.Steps.Advances.{Holds, Lacks, Answers}
use Rattle.odb_engine.proofs.ByteLemmas.{IsOpen-all, IsOpen-take, take-newline}
use Rattle.odb_engine.proofs.lines.answer.advance.Goals as goal

pub returns-in_err-kept-clause-advances : goal.returns-in_err-kept-clause-advances
returns-in_err-kept-clause-advances g c =
    let remaining = g.R.Read.remaining in
    let bytes = c.ahead-ahead.result.now in
    let all : take (length bytes) (ahead c.args.input.now) ≡ bytes = ap (take (length bytes)) (sym c.ahead-ahead.ensures) ∙ take_all (length bytes) bytes (le_refl _) in
    let taken = subst (Consumes (left remaining c.args.input.now) (left remaining c.take.new.self)) all c.take.ensures.taken in
    let error = err_from_is_err_and c.from_residual.result c.from_residual.ensures.1 in
    Lacks bytes (IsOpen-all bytes c.in_default.ensures) taken (refl {a = c.args.output.now}) (error.1 ∙ ap Err error.2)

pub returns-in_default-clause-advances : goal.returns-in_default-clause-advances
returns-in_default-clause-advances g c =
    let remaining = g.R.Read.remaining in
    let bytes = c.ahead-ahead.result.now in
    let all : take (length bytes) (ahead c.args.input.now) ≡ bytes = ap (take (length bytes)) (sym c.ahead-ahead.ensures) ∙ take_all (length bytes) bytes (le_refl _) in
    let taken = subst (Consumes (left remaining c.args.input.now) (left remaining c.take.new.self)) all c.take.ensures.taken in
    Holds bytes (IsOpen-all bytes c.in_default.ensures) taken (refl {a = c.args.output.now}) refl c.in_ok-kept.ensures refl

pub returns-clause-advances : goal.returns-clause-advances
returns-clause-advances g c =
    let remaining = g.R.Read.remaining in
    let bytes = c.ahead-ahead.result.now in
    let at = c.in-Some.at in
    let found = c.in-Some.ensures in
    let through : take (at + 1) (ahead c.args.input.now) ≡ take at bytes ++ newline ∷ [] =
    ap (take (at + 1)) (sym c.ahead-ahead.ensures) ∙ take-newline bytes at found.0.high found.1 in
    let taken = subst (Consumes (left remaining c.args.input.now) (left remaining c.take-2.new.self)) through c.take-2.ensures.taken in
    Answers (take at bytes) (IsOpen-take bytes at (omega (arith, found.0.high)) found.0.before) taken refl c.answer_line-answered.ensures.ends c.answer_line-answered.ensures.emptied

use Rattle.std.proofs.Common.{◌≡◌, ◌∙◌, [], ◌∷◌, Some, sym, ap, subst, arith}
use Rattle.json.specs.Lex.{tokens}
use Rattle.json.specs.Reads.{token_of}
use Rattle.odb_reply.specs.Parts.{IsValue}
use Rattle.odb_reply.specs.Passes.{pass_value}
use Rattle.odb_reply.proofs.JsonTextLemmas.{nested-passes, nothing-passes, whole-text}
use Rattle.odb_reply.proofs.json_text.is_null.Goals as goal

pub returns-in_err-first-clause-refused : goal.returns-in_err-first-clause-refused
returns-in_err-first-clause-refused c refused d reads nests =
    let none : tokens c.args.text.now ≡ [] = grind arith in
    grind (arith, nested-passes c.args.text.now d reads nests, nothing-passes c.args.text.now none)

pub returns-then-is_one_value-clause-value : goal.returns-then-is_one_value-clause-value
returns-then-is_one_value-clause-value c =
    let first = token_of c.in_ok-first.first in
    let begins : tokens c.args.text.now ≡ first ∷ c.next.new.self = grind arith in
    subst (IsValue c.args.text.now) (sym c.is_null_token-null.ensures) (whole-text c.args.text.now first c.next.new.self begins (grind arith))

pub returns-clause-refused : goal.returns-clause-refused
returns-clause-refused c refused d reads nests =
    let first = token_of c.in_ok-first.first in
    let begins : tokens c.args.text.now ≡ first ∷ c.next.new.self = grind arith in
    let passes : pass_value 124 (first ∷ c.next.new.self) ≡ Some [] = ap (pass_value 124) (sym begins) ∙ nested-passes c.args.text.now d reads nests in
    grind (arith, passes)

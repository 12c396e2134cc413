use Rattle.std.proofs.Common.{◌≡◌, ◌+◌, ◌-◌, length, drop, take, subst, arith, length-drop}
use Rattle.std.proofs.lemmas.List.{length-take, take_rest}
use Rattle.json.specs.Lex.{in_string}
use Rattle.odb_spans.specs.Extents.{extent}
use Rattle.odb_spans.proofs.ScanLemmas.{plain-extent}
use Rattle.odb_spans.proofs.extent.plain_end.Goals as goal

pub returns-in-Some-clause-extent : goal.returns-in-Some-clause-extent
returns-in-Some-clause-extent c n =
    let found = c.in-Some.ensures.0 in
    plain-extent c.args.text.now _ c.args.at c.in-Some.found n (take_rest c.args.text.now c.args.at) (omega (arith, found.high)) (λ i less is. found.before i (omega arith) less is)

pub returns-in-Some-clause-within : goal.returns-in-Some-clause-within
returns-in-Some-clause-within c =
    let text = c.args.text.now in
    let rest = length text - c.args.at in
    omega (arith, c.in-Some.ensures.0.high, c.requires, length-take rest (drop c.args.at text), length-drop c.args.at text)

pub returns-in-None-clause-extent : goal.returns-in-None-clause-extent
returns-in-None-clause-extent c n =
    let text = c.args.text.now in
    let rest = length text - c.args.at in
    let long : c.args.at + rest ≡ length text = omega (arith, c.requires) in
    let whole : length (take rest (drop c.args.at text)) ≡ rest = omega (arith, length-take rest (drop c.args.at text), length-drop c.args.at text) in
    let passed = plain-extent text _ c.args.at rest n (take_rest text c.args.at) (omega (arith, whole)) (λ i less is. c.in-None.ensures i (omega arith) (omega (arith, less, whole)) is) in
    subst (λ end. c.args.at + extent in_string n (drop c.args.at text) ≡ end + extent in_string n (drop end text)) long passed

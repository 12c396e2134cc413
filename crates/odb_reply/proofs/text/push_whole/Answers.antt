use Rattle.std.proofs.Common.{◌∙◌, ◌≤◌, ◌++◌, sym, ap, length, rules, append_assoc, codes, string_bytes, arith}
use Rattle.odb_sched.specs.run.Answers.{answer}
use Rattle.odb_reply.specs.Parts.{rest_text}
use Rattle.odb_reply.proofs.RestLemmas.{text_with-prefix, rest_text-none}
use Rattle.odb_reply.proofs.text.push_whole.Goals as goal

pub loop-i-init : goal.loop-i-init
loop-i-init g c =
    let labels = g.L.Labels.labels c.args.labels.now in
    let texts = c.args.texts.now in
    let answers = answer c.args.run.now in
    let old = string_bytes c.args.text.now in
    ap (λ text. text ++ rest_text labels texts answers 0) (c.in_ok-push_str.ensures.bytes ∙ ap (λ text. text ++ codes "{\"responses\":[") c.reserve.ensures.bytes)
    ∙ append_assoc old (codes "{\"responses\":[") (rest_text labels texts answers 0) ∙ ap (λ text. old ++ text) (sym (text_with-prefix labels texts answers))

pub loop-i-preserved : goal.loop-i-preserved
loop-i-preserved g c = search rules

pub returns : goal.returns
returns g c =
    let labels = g.L.Labels.labels c.args.labels.now in
    let all : length labels ≤ c.loop-i.i = omega (arith, c.requires.labels, c.len-count.ensures.size, c.loop-i-test.false) in
    let whole = rw (rest_text-none labels c.args.texts.now (answer c.args.run.now) c.loop-i.i all) at c.loop-i.invariant in
    search (rules, whole)

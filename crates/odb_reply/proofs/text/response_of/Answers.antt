-- Bodies that were looked at are held and whole or texts, so the text is read again unless a value nests too deep.
use Rattle.std.proofs.Common.{◌≡◌, ◌∙◌, ◌++◌, codes, string_bytes, refl, sym, ap, rules}
use Rattle.serde_json.specs.Read.{read}
use Rattle.odb_sched.specs.run.Answers.{answer}
use Rattle.odb_reply.specs.BodyTexts.{text_with}
use Rattle.odb_reply.proofs.RestLemmas.{text_with-none}
use Rattle.odb_reply.proofs.TextedLemmas.{texted-back, texted-line}
use Rattle.odb_reply.proofs.text.response_of.Goals as goal

pub returns-clause-values : goal.returns-clause-values
returns-clause-values g c = λ none.
    let labels = g.L.Labels.labels c.args.labels.now in
    let texts = c.args.texts.now in
    let answers = answer c.args.run.now in
    let text : string_bytes c.push_whole.new.text ≡ text_with labels texts answers = search rules in
    text ∙ text_with-none labels texts answers none

pub returns-clause-reads_back : goal.returns-clause-reads_back
returns-clause-reads_back g c = λ shallow.
    let labels = g.L.Labels.labels c.args.labels.now in
    let text : string_bytes c.push_whole.new.text ≡ text_with labels c.args.texts.now (answer c.args.run.now) = search rules in
    ap read text ∙ texted-back labels c.args.texts.now c.args.run.now (sym c.requires.labels) c.every_texted.ensures.statuses (c.in_default.ensures.held refl) (c.in_default.ensures.none refl) shallow

pub returns-clause-line : goal.returns-clause-line
returns-clause-line g c = λ shallow.
    let labels = g.L.Labels.labels c.args.labels.now in
    let text : string_bytes c.push_whole.new.text ≡ text_with labels c.args.texts.now (answer c.args.run.now) = search rules in
    ap (λ bs. read (bs ++ codes "\n")) text ∙ texted-line labels c.args.texts.now c.args.run.now (sym c.requires.labels) c.every_texted.ensures.statuses (c.in_default.ensures.held refl) (c.in_default.ensures.none refl) shallow

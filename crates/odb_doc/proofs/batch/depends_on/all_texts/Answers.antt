use Rattle.std.proofs.Common.{◌≡◌, ◌∙◌, ◌+◌, ◌++◌, ◌∷◌, [], ℕ, List, Bor, drop, sym, ap, rules}
use Rattle.std.proofs.lemmas.List.{at_drop_all, map-append}
use Rattle.odb_doc.specs.Names.{texts_in}
use Rattle.odb_doc.proofs.ArrayLemmas.{texts_on, texts_on-zero, texts_on-nil, texts_on-text, texts_on-other, texts_on-drop}
use Rattle.odb_doc.proofs.batch.depends_on.all_texts.Goals as goal

pub loop-element-init : goal.loop-element-init
loop-element-init c = rw c.in_ok-texts.ensures.items (texts_on-zero c.args.elements.now)

pub returns-in_default : goal.returns-in_default
returns-in_default c =
    let vs = c.args.elements.now in
    let i = c.loop-element.element-index in
    let texts = texts_in c.loop-element.texts.items in
    let here = texts_on-drop texts vs i c.element-item.result c.loop-element-test.true c.element-item.is in
    let none = texts_on-other texts c.element-item.result (drop (i + 1) vs) (search rules) in
    sym none ∙ sym here ∙ c.loop-element.invariant

pub loop-element-preserved : goal.loop-element-preserved
loop-element-preserved c =
    let vs = c.args.elements.now in
    let i = c.loop-element.element-index in
    let texts = texts_in c.loop-element.texts.items in
    let here = texts_on-drop texts vs i c.element-item.result c.loop-element-test.true c.element-item.is in
    let more = texts_on-text texts c.element-item.result (drop (i + 1) vs) c.in-Some.text.now (search rules) in
    let put : texts_in c.push.new.self.items ≡ texts ++ c.in-Some.text.now ∷ [] =
    ap texts_in c.in_ok-push.ensures.ok ∙ map-append (λ (t : Bor (List ℕ)). t.now) c.loop-element.texts.items (c.in-Some.text ∷ []) in
    rw put (sym more ∙ sym here ∙ c.loop-element.invariant)

pub returns : goal.returns
returns c =
    let vs = c.args.elements.now in
    let texts = texts_in c.loop-element.texts.items in
    let end = at_drop_all (texts_on texts) vs c.loop-element.element-index (search rules) in
    sym (texts_on-nil texts) ∙ sym end ∙ c.loop-element.invariant

use Rattle.std.proofs.Common.{◌≡◌, ◌∙◌, ◌++◌, ℕ, List, [], false, append_assoc, sym, codes}
use Rattle.odb_check.specs.Plans.{plan_records}
use Rattle.odb_doc.specs.batch.Records.{ReadsAs}
use Rattle.odb_doc.specs.batch.Shapes.{elements}
use Rattle.odb_spans.specs.Spans.{HasBodyAt}
use Rattle.odb_send.specs.Marks.{AreTexts, texts_left}
use Rattle.odb_send.specs.Rests.{kept, changes}
use Rattle.odb_send.specs.Texts.{bodies_in}
use Rattle.odb_send.proofs.PairLemmas.{as_many}
use Rattle.odb_send.proofs.TextLemmas.{bodies_texts, text_of-all}
use Rattle.odb_send.proofs.text.rest_text.Goals as goal

pub push_requests-requires-clause-bodies : goal.push_requests-requires-clause-bodies
push_requests-requires-clause-bodies c =
    let d = c.requires.document.0 in
    let batch = c.requires.document.1 in
    rw c.deref.ensures.value (as_many ReadsAs (HasBodyAt c.args.document.now) (elements d) (plan_records c.args.plan.now) c.in_ok-bodies.bodies.items batch.is (c.in_ok-bodies.ensures.bodies d batch.json))

pub push_requests-requires-clause-texts : goal.push_requests-requires-clause-texts
push_requests-requires-clause-texts c =
    let d = c.requires.document.0 in
    let batch = c.requires.document.1 in
    let all : AreTexts c.args.document.now c.in_ok-bodies.bodies.items = bodies_texts c.args.document.now (elements d) c.in_ok-bodies.bodies.items (c.in_ok-bodies.ensures.bodies d batch.json) in
    rw c.deref.ensures.value all

-- a text of three pieces, the first at the start
joined : (t0 t1 t2 t3 a b c : List ℕ) → t0 ≡ [] → t1 ≡ t0 ++ a → t2 ≡ t1 ++ b → t3 ≡ t2 ++ c → t3 ≡ a ++ (b ++ c)
joined t0 t1 t2 t3 a b c e0 e1 e2 e3 = rw (e3, e2, e1, e0) (append_assoc a b c)

pub returns : goal.returns
returns c = λ d batch.
    let rs = plan_records c.args.plan.now in
    let rest = c.args.rest.now in
    let spans = c.in_ok-bodies.bodies.items in
    let document = c.args.document.now in
    let requests = rw c.deref.ensures.value at c.in_ok-push_requests.ensures in
    record {
      spans = spans;
      bodies = record { values = c.in_ok-bodies.ensures.bodies d batch.json; places = c.in_ok-bodies.ensures.places d batch.json };
      is = joined _ _ _ _ (codes "{\"requests\":[") (texts_left rs (kept rest) (changes rest) (bodies_in document spans) false 0) (codes "]}") c.new-text.ensures.bytes c.in_ok-push_str.ensures.bytes requests c.in_ok-push_str-2.ensures.bytes ∙ sym (text_of-all rs rest (bodies_in document spans));
    }

use Rattle.std.proofs.Common.{◌≡◌, ◌∙◌, ◌++◌, [], refl, sym, ap, subst, arith}
use Rattle.std.proofs.lemmas.Bool.{true≢false}
use Rattle.json.specs.Json as json
use Rattle.json.specs.Tree.{items_tokens}
use Rattle.odb_spans.specs.Parts.{GivesPair, LiesAt}
use Rattle.odb_spans.proofs.BracketLemmas.{array-at, array-byte}
use Rattle.odb_spans.proofs.PartLemmas.{value-within}
use Rattle.odb_spans.proofs.locate.pair_in.Goals as goal

abbrev two : json.Json → json.Json → json.Items
two one other = json.item one (json.item other json.no_items)

same-items : (js ks : json.Items) → json.array js ≡ json.array ks → js ≡ ks
same-items js ks e = cc (e)

array-of-two : (j : json.Json) (js ks ls : json.Items) (one other : json.Json) → j ≡ json.array js → js ≡ json.item one ks → ks ≡ json.item other ls → ls ≡ json.no_items → j ≡ json.array (two one other)
array-of-two j js ks ls one other p q r s = p ∙ ap json.array (q ∙ ap (json.item one) (r ∙ ap (json.item other) s))

pub returns-then-not-has_byte : goal.returns-then-not-has_byte
returns-then-not-has_byte c one other v =
    let text = c.args.line.now in
    true≢false (sym (c.if-not-has_byte.ensures.1 (value-within text c.args.start (json.array (two one other)) [] v, array-byte text c.args.start (two one other) [] v)))

pub returns-in_err-batch : goal.returns-in_err-batch
returns-in_err-batch c =
    subst (GivesPair c.args.line.now c.args.start) (sym c.from_residual.ensures)
    (λ one other v.
    (let array = array-at c.args.line.now c.args.start (json.array (two one other)) [] v (c.if-not-has_byte.ensures.0 refl).1 in
    let all = same-items (two one other) array.inner array.is in
    let none = c.in_err-batch.ensures array.inner [] array.has in
    cc (all, none)))

pub returns-in_err-second : goal.returns-in_err-second
returns-in_err-second c =
    subst (GivesPair c.args.line.now c.args.start) (sym c.from_residual-in_err-second.ensures)
    (λ one other v.
    (let array = array-at c.args.line.now c.args.start (json.array (two one other)) [] v (c.if-not-has_byte.ensures.0 refl).1 in
    let all = same-items (two one other) array.inner array.is in
    let first = c.in_ok-batch.ensures.3 array.inner [] array.has in
    let none = c.in_err-second.ensures first.others [] first.has in
    cc (all, first.is, none)))

pub returns-in-Some : goal.returns-in-Some
returns-in-Some c one other v =
    let array = array-at c.args.line.now c.args.start (json.array (two one other)) [] v (c.if-not-has_byte.ensures.0 refl).1 in
    let all = same-items (two one other) array.inner array.is in
    let first = c.in_ok-batch.ensures.3 array.inner [] array.has in
    let second = c.in_ok-second.ensures.3 first.others [] first.has in
    let third = c.in-Some.ensures.3 second.others [] second.has in
    cc (all, first.is, second.is, third.is)

pub returns-in-None : goal.returns-in-None
returns-in-None c =
    let batch = c.in_ok-batch.ensures in
    let second = c.in_ok-second.ensures in (
      (omega (arith, batch.1), batch.2),
      (omega (arith, second.1), second.2),
      second.0,
      λ j v.
          (let array = array-at c.args.line.now c.args.start j [] v (c.if-not-has_byte.ensures.0 refl).1 in
          let first = batch.3 array.inner [] array.has in
          let next = second.3 first.others [] first.has in
          let none = c.in-None.ensures next.others [] next.has in
          record {
            one = first.value;
            two = next.value;
            is = array-of-two j array.inner first.others next.others first.value next.value array.is first.is next.is none;
            first_text = first.text_of;
            second_text = next.text_of;
            first_lies = subst (λ js. LiesAt c.args.line.now c.in_ok-batch.batch first.value (items_tokens js ++ [])) (next.is ∙ ap (json.item next.value) none) first.lies;
            second_lies = subst (λ js. LiesAt c.args.line.now c.in_ok-second.second next.value (items_tokens js ++ [])) none next.lies;
          }),
    )

use Rattle.std.proofs.Common.{Some, sym, subst, arith, All, length}
use Rattle.std.proofs.lemmas.List.Elements.{All-nil, All-push}
use Rattle.odb_spans.specs.Spans.{IsWithin}
use Rattle.odb_spans.specs.Parts.{ItemsPassed}
use Rattle.odb_spans.proofs.ItemLemmas.{all-passed, begin-passed, pass-item}
use Rattle.odb_spans.proofs.item.items_among.Goals as goal

pub items-init : goal.items-init
items-init c = record {
  within = c.requires;
  bounds = subst (All (λ span. IsWithin (length c.args.document.now) (Some span))) (sym c.new-items.ensures.items) (All-nil (λ span. IsWithin (length c.args.document.now) (Some span)));
  remaining = λ js ts has. subst (λ l. ItemsPassed c.args.document.now c.args.start l js ts) (sym c.new-items.ensures.items) (begin-passed c.args.document.now c.args.start js ts has);
}

pub returns-in_default : goal.returns-in_default
returns-in_default c = record {
  bounds = c.items.invariant.bounds;
  finds = λ js ts has. all-passed c.args.document.now c.items.at c.items.items.items js ts (c.items.invariant.remaining js ts has) c.in_default.ensures;
}

pub items-preserved : goal.items-preserved
items-preserved c =
    let text = c.args.document.now in
    let item = c.in-Some.item in
    let next = c.in-Some.ensures in
    record {
      within = next.2;
      bounds = subst (All (λ span. IsWithin (length text) (Some span))) (sym c.in_ok-push.ensures.items) (All-push (λ span. IsWithin (length text) (Some span)) c.items.items.items item c.items.invariant.bounds (omega (arith, next.1), next.2));
      remaining = λ js ts has. subst (λ l. ItemsPassed text item.end l js ts) (sym c.in_ok-push.ensures.items) (pass-item text c.items.at c.items.items.items item js ts (c.items.invariant.remaining js ts has) next.3);
    }

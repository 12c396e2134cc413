use Rattle.std.proofs.Common.{◌≡◌, ◌+◌, ◌++◌, List, [], ◌∷◌, ap, sym, ◌∙◌, take, get_or, append_assoc, append-nil}
use Rattle.std.specs.Prelude.{codes, string_bytes}
use Rattle.std.proofs.lemmas.List.{take_more}
use Rattle.odb_doc.specs.batch.Records.{Record}
use Rattle.odb_check.specs.declared.need.Need.{Need}
use Rattle.odb_check.specs.declared.need.Need.TheVariants.{One}
use Rattle.odb_check.specs.Plans.{plan_records}
use Rattle.odb_check.specs.Texts.{further_text, need_name}
use Rattle.odb_send.proofs.parts.push_further.Goals as goal

further_text-append : (rs : List Record) (needs : List Need) (need : Need) → further_text rs (needs ++ need ∷ []) ≡ further_text rs needs ++ (codes "," ++ need_name rs need)
further_text-append rs [] need = append-nil (codes "," ++ need_name rs need)
further_text-append rs (first ∷ needs) need =
    ap (λ xs. codes "," ++ need_name rs first ++ xs) (further_text-append rs needs need)
    ∙ sym (append_assoc (codes "," ++ need_name rs first) (further_text rs needs) (codes "," ++ need_name rs need))

pub loop-need-preserved : goal.loop-need-preserved
loop-need-preserved c =
    let rs = plan_records c.args.plan.now in
    let here = get_or c.args.needs.now c.loop-need.need-index (One 0) in
    let before = take c.loop-need.need-index c.args.needs.now in
    let name : c.name_of.result.now ≡ need_name rs here = c.name_of.ensures in
    let more : further_text rs (take (c.loop-need.need-index + 1) c.args.needs.now) ≡ further_text rs before ++ (codes "," ++ need_name rs here) =
    ap (further_text rs) (take_more c.args.needs.now c.loop-need.need-index (One 0) c.loop-need-test.true) ∙ further_text-append rs before here in
    c.in_ok-push_str-2.ensures.bytes ∙ ap (λ xs. xs ++ c.name_of.result.now) (c.in_ok-push_str.ensures.bytes ∙ ap (λ xs. xs ++ codes ",") c.loop-need.invariant)
    ∙ ap (λ xs. string_bytes c.args.text.now ++ further_text rs before ++ codes "," ++ xs) name
    ∙ append_assoc (string_bytes c.args.text.now ++ further_text rs before) (codes ",") (need_name rs here)
    ∙ append_assoc (string_bytes c.args.text.now) (further_text rs before) (codes "," ++ need_name rs here)
    ∙ ap (λ xs. string_bytes c.args.text.now ++ xs) (sym more)

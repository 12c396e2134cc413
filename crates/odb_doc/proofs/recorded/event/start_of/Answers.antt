use Rattle.std.proofs.Common.{◌≡◌, ◌∙◌, None, Some, codes, option_map, ap, sym, refl, rules}
use Rattle.serde_json.specs.Find.{get, as_object}
use Rattle.serde_json.specs.View.{view, members_view}
use Rattle.odb_doc.specs.declared.member.Object.TheVariants as objects
use Rattle.odb_doc.specs.Members.{HasOther}
use Rattle.odb_doc.proofs.EventLemmas.{start-from}
use Rattle.odb_doc.proofs.PartLemmas.{get-at}
use Rattle.odb_doc.proofs.recorded.event.start_of.Goals as goal

pub returns-in_err-moved : goal.returns-in_err-moved
returns-in_err-moved c =
    let d = view c.args.element.now in
    let whole = c.in_ok-as_object_mut.field-0.now in
    let object : as_object d ≡ Some (members_view whole.entries) = search rules in
    let there : get (codes "start") d ≡ None = sym (get-at (codes "start") d whole object) ∙ ap (option_map view) (sym c.moved.ensures.value ∙ c.in_err-moved.was) in
    let one : ¬ HasOther objects.Start d = search rules in
    let none = start-from d None one (rw there refl) in
    search (rules, none)

pub returns : goal.returns
returns c =
    let d = view c.args.element.now in
    let whole = c.in_ok-as_object_mut.field-0.now in
    let object : as_object d ≡ Some (members_view whole.entries) = search rules in
    let there : get (codes "start") d ≡ Some (view c.in_ok-moved.field-0) = sym (get-at (codes "start") d whole object) ∙ ap (option_map view) (sym c.moved.ensures.value ∙ c.in_ok-moved.was) in
    let one : ¬ HasOther objects.Start d = search rules in
    start-from d c.text_of.result one (rw there (sym c.text_of.ensures))

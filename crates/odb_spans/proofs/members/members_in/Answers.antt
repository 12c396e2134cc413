use Rattle.std.proofs.Common.{[], ◌∙◌, sym, subst}
use Rattle.std.proofs.lemmas.List.{take_all}
use Rattle.odb_spans.specs.Parts.{GiveMembers}
use Rattle.odb_spans.proofs.GivenLemmas.{given-within, members-found, next-given, places-found}
use Rattle.odb_spans.proofs.members.members_in.Goals as goal

pub loop-element-init : goal.loop-element-init
loop-element-init c = subst (GiveMembers c.args.name.now c.args.document.now []) (sym c.in_ok-members.ensures.items) tt

pub loop-element-preserved : goal.loop-element-preserved
loop-element-preserved c =
    next-given c.args.name.now c.args.document.now c.deref-element-items.result.now c.loop-element.element-index _ c.loop-element.members.items _ _ c.loop-element-test.true c.loop-element.invariant c.in_ok-given_at.ensures.gives c.in_ok-push.ensures.items

-- the members of all elements were found
all-given : (c : goal.After-drop-elements-2) → GiveMembers c.args.name.now c.args.document.now c.in_ok-elements.elements.items c.loop-element.members.items
all-given c =
    let elements = c.deref-element-items in
    subst (λ l. GiveMembers c.args.name.now c.args.document.now l c.loop-element.members.items) (take_all c.loop-element.element-index elements.result.now c.loop-element-test.false ∙ elements.ensures.value) c.loop-element.invariant

pub returns-clause-members : goal.returns-clause-members
returns-clause-members c d is =
    members-found c.args.list.now c.args.name.now c.args.document.now c.value_start.result c.in_ok-elements.elements.items c.loop-element.members.items c.value_start.ensures c.in_ok-elements.ensures.found (all-given c) d is

pub returns-clause-places : goal.returns-clause-places
returns-clause-places c d is =
    places-found c.args.list.now c.args.name.now c.args.document.now c.value_start.result c.in_ok-elements.elements.items c.loop-element.members.items c.value_start.ensures c.in_ok-elements.ensures.found (all-given c) d is

pub returns-clause-bounds : goal.returns-clause-bounds
returns-clause-bounds c = given-within c.args.name.now c.args.document.now c.in_ok-elements.elements.items c.loop-element.members.items (all-given c)

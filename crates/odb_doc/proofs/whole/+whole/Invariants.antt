use Rattle.std.proofs.Common.{◌≡◌, drop}
use Rattle.serde_json.specs.View.{items_view, members_view}
use Rattle.serde_json.specs.Written.{items_have_float, members_have_float}
use Rattle.odb_doc.specs.canonical.HeldValues.{AreItemsHeld, AreMembersHeld}
use Rattle.odb_doc.proofs.whole.+whole.Given as goal

-- the remaining values hold a float if and only if all of them do, and all of them are held if the remaining are
abbrev pub invariant-are_items_whole-loop-item : goal.invariant-are_items_whole-loop-item
invariant-are_items_whole-loop-item l = record {
  float : items_have_float (items_view (drop l.item-index l.item-items)) ≡ items_have_float (items_view l.item-items);
  held : AreItemsHeld (items_view (drop l.item-index l.item-items)) → AreItemsHeld (items_view l.item-items);
}

abbrev pub invariant-are_members_whole-loop-member : goal.invariant-are_members_whole-loop-member
invariant-are_members_whole-loop-member l = record {
  float : members_have_float (members_view l.member-iterator) ≡ members_have_float (members_view l.members.entries);
  held : AreMembersHeld (members_view l.member-iterator) → AreMembersHeld (members_view l.members.entries);
}

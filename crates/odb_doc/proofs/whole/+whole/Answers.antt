use Rattle.std.proofs.Common.{◌≡◌, List, [], ◌∷◌, String, Global, Less, string_bytes, sym, subst}
use Rattle.std.specs.List.{AllByRecursion}
use Rattle.std.specs.List.Sorted.{IsStrictlySortedBy}
use Rattle.std.specs.Map.{keys_of}
use Rattle.std.specs.String.{string_cmp}
use Rattle.serde_json.specs.View.{members_view}
use Rattle.serde_json.specs.declared.value.Value.{Value}
use Rattle.odb_doc.specs.canonical.HeldValues.{IsBelow, AreOrdered, AreMembersHeld}
use Rattle.odb_doc.proofs.whole.+whole.Goals as goal

below : (name : String Global) (es : List (String Global × Value)) → AllByRecursion (λ other. string_cmp name other ≡ Less) (keys_of es) → IsBelow (string_bytes name) (members_view es)
below name [] less = tt
below name (e ∷ es) less = (less.0, below name es less.1)

-- the names of a map's entries are in order
ordered : (es : List (String Global × Value)) → IsStrictlySortedBy string_cmp (keys_of es) → AreOrdered (members_view es)
unfolding IsStrictlySortedBy
ordered [] sorted = tt
ordered (e ∷ es) sorted = (below e.0 es sorted.0, ordered es sorted.1)

pub are_members_whole-returns-clause-held : goal.are_members_whole-returns-clause-held
are_members_whole-returns-clause-held t c = λ all. (
  ordered c.args.members.now.entries c.iter-member-items.ensures.ordered,
  c.loop-member.invariant.held (subst (λ (es : List (String Global × Value)). AreMembersHeld (members_view es)) (sym c.in-None.ensures.steps.0) tt),
)

use Rattle.std.proofs.Common.{◌≡◌, ℕ, List, Option, Some, None, sym, refl, ◌∙◌}
use Rattle.std.specs.Prelude.{is_some, IsSomeAnd}
use Rattle.std.specs.Bool.{Decides}
use Rattle.std.proofs.lemmas.Bool.Decides.{Decides-at}
use Rattle.odb_doc.specs.batch.Records.{Record}
use Rattle.odb_check.specs.Positions.{id_at, IsGroup}
use Rattle.odb_check.specs.Requests.{requests}
use Rattle.odb_check.specs.Units.{unit_of_group}
use Rattle.odb_check.proofs.AnyLemmas.{Decides-none, some_Decides}
use Rattle.odb_check.proofs.GroupLemmas.{in_no_group}
use Rattle.odb_check.proofs.UnitLemmas.{IsUnitOf, unit_is, unknown_unit}
use Rattle.odb_check.proofs.ids.has_id_of_group.Goals as goal

is_group : (rs : List Record) (name : List ℕ) (found : Option ℕ) → found ≡ unit_of_group rs name → Decides (is_some found) (IsGroup rs name)
is_group rs name None e = Decides-none (λ h. unknown_unit rs name (sym e) h.0 h.1)
is_group rs name (Some u) e = let is : IsUnitOf rs name u = unit_is rs name u (sym e) in ((λ g. (is.start, is.first.here)), λ h. refl)

none_passes : {X : Type 0} (o : Option X) (P : X → Type 0) → ((x : X) → ¬ P x) → ¬ IsSomeAnd o P
none_passes None P never has = has
none_passes (Some x) P never has = never x has

pub returns-then-group_count-eq0 : goal.returns-then-group_count-eq0
returns-then-group_count-eq0 c =
    let rs = requests c.args.tables.now in
    Decides-none (none_passes (id_at rs c.args.i) (λ id. IsGroup rs id) (λ id. in_no_group rs id (sym c.group_count.ensures ∙ c.if-group_count-eq0.true)))

pub returns : goal.returns
returns c =
    let rs = requests c.args.tables.now in
    some_Decides (id_at rs c.args.i) _ (λ id. IsGroup rs id) _ c.id.ensures (Decides-at _ _ c.is_some.ensures (is_group rs _ c.unit_of_group.result c.unit_of_group.ensures))

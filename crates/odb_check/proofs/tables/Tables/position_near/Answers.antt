use Rattle.std.proofs.Common.{◌≡◌, ◌∙◌, Some, ap, sym, arith}
use Rattle.std.proofs.lemmas.Slice.Eq.{bytes_eq-Decides}
use Rattle.odb_check.specs.Positions.{id_at}
use Rattle.odb_check.specs.Requests.{requests}
use Rattle.odb_check.specs.Units.{position_of}
use Rattle.odb_check.proofs.NameLemmas.{once}
use Rattle.odb_check.proofs.NeedLemmas.{one_id}
use Rattle.odb_check.proofs.PositionLemmas.{id_within, text_some}
use Rattle.odb_check.proofs.tables.Tables.position_near.Goals as goal

pub returns-then-eq : goal.returns-then-eq
returns-then-eq c =
    let rs = requests c.args.self.now in
    let name = c.args.id.now in
    let p = c.args.guess in
    let here : id_at rs p ≡ Some name = c.id.ensures ∙ ap Some ((bytes_eq-Decides c.id.result.now name).0 (sym c.eq.ensures ∙ c.if-eq.true)) in
    let first : position_of rs name ≡ Some p = text_some (id_at rs) name _ p (id_within rs p name here) (record { here = here; before = λ k less there. let same : k ≡ p = one_id rs (once rs c.requires) name k p there here in omega (arith, less) }) in
    sym first

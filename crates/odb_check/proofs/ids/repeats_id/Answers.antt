use Rattle.std.proofs.Common.{sym, inl, inr, arith}
use Rattle.std.proofs.lemmas.Bool.{cases_lt}
use Rattle.std.proofs.lemmas.Bool.Decides.{Decides-like, Decides-ltb}
use Rattle.odb_check.specs.Positions.{id_at, IsIdBefore}
use Rattle.odb_check.specs.Requests.{requests}
use Rattle.odb_check.proofs.AnyLemmas.{Decides-none, some_Decides}
use Rattle.odb_check.proofs.PositionLemmas.{position_first, position_none}
use Rattle.odb_check.proofs.ids.repeats_id.Goals as goal

pub returns-in-Some : goal.returns-in-Some
returns-in-Some c =
    let rs = requests c.args.tables.now in
    let p = c.in-Some.first in
    let first = (position_first rs c.id.result.now p (sym c.in-Some.ensures)).1 in
    some_Decides (id_at rs c.args.i) _ (λ id. IsIdBefore rs id c.args.i) _ c.id.ensures
    (Decides-like _ (λ less. (p, less, first.here)) (λ h. elim (cases_lt h.0 p) [ inl less ↦ absurd (first.before h.0 less h.2) | inr more ↦ omega (arith, h.1) ]) (Decides-ltb p c.args.i))

pub returns-in-None : goal.returns-in-None
returns-in-None c =
    let rs = requests c.args.tables.now in
    some_Decides (id_at rs c.args.i) _ (λ id. IsIdBefore rs id c.args.i) _ c.id.ensures (Decides-none (λ h. position_none rs _ (sym c.in-None.ensures) h.0 h.2))

use Rattle.std.proofs.Common.{ap, sym, ◌∙◌}
use Rattle.std.specs.Prelude.{is_some}
use Rattle.std.proofs.lemmas.Bool.Decides.{Decides-at}
use Rattle.odb_check.proofs.AnyLemmas.{Decides-none, copied_some}
use Rattle.odb_check.proofs.ReferenceLemmas.{RefersTo, refers, unknown_Decides}
use Rattle.odb_check.proofs.names.Resolved.has_unknown_reference.Goals as goal

pub returns-in-Some : goal.returns-in-Some
returns-in-Some c = Decides-none (λ h.
    let to : RefersTo c.args.self.now c.in-Some.field-0 = refers c.args.self.now c.in-Some.field-0 (sym c.in-Some.ensures) in
    (rw to.here at h) (c.in-Some.field-0, to.there))

pub returns-in-None : goal.returns-in-None
returns-in-None c = Decides-at _ _ (c.is_some.ensures ∙ copied_some c.reference.result ∙ ap is_some (sym c.reference.ensures)) (unknown_Decides c.args.self.now (sym c.in-None.ensures))

use Rattle.std.proofs.lemmas.Bool.{false≢true}
use Rattle.odb_doc.specs.Asked.{asked}
use Rattle.odb_doc.proofs.batch.asked.Asked.has_body_not_allowed.Goals as goal

pub returns-in-None : goal.returns-in-None
returns-in-None c = (λ e. absurd (false≢true e), λ breaks. absurd (c.in-None.ensures (asked c.args.self.now) c.requires breaks.method breaks.has))

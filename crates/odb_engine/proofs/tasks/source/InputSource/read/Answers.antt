use Rattle.std.proofs.Common.{◌≡◌}
use Rattle.serde_json.specs.View.{view}
use Rattle.odb_doc.specs.Documents.{IsDocument}
use Rattle.odb_engine.specs.Cascade.{RefusesBytes}
use Rattle.odb_engine.specs.Inputs.{WasRead}
use Rattle.odb_engine.proofs.EngineLemmas.{unread-value}
use Rattle.odb_engine.proofs.tasks.source.InputSource.read.Goals as goal

pub returns-in_err-bytes-clause-value : goal.returns-in_err-bytes-clause-value
returns-in_err-bytes-clause-value g c =
    let (bytes, gives, so) = unread-value _ (λ bytes value. IsDocument bytes (view value) × WasRead g.R.Read.remaining c.args.self.now c.read_document.new.input bytes) (RefusesBytes c.args.place) (λ bytes. c.args.kept.now.bytes.items ≡ bytes) _ _
    c.from_residual.ensures.1 c.in_err-bytes.ensures.unrefused in
    (bytes, gives, (so.0, λ has asked. so.1))

use Rattle.std.proofs.Common.{arith, refl}
use Rattle.std.proofs.lemmas.Grind.{common_steps}
use Rattle.odb_engine.proofs.ReadLemmas.{GivesFew-more}
use Rattle.odb_engine.proofs.input.read_document.Goals as goal

pub returns-in_err-extend_from_slice-clause-given :
    goal.returns-in_err-extend_from_slice-clause-given
returns-in_err-extend_from_slice-clause-given g c =
    let remaining = g.R.Read.remaining in
    rw c.take.ensures.reads (GivesFew-more (remaining c.args.input.now.reader) (remaining c.loop-chunk.input.reader) (remaining c.take.new.self.reader) c.loop-chunk.bytes.items _ c.loop-chunk.input.reads c.loop-chunk.invariant.2 c.in-Ok.ensures.bytes.0 (grind (arith, common_steps)))

pub loop-chunk-preserved : goal.loop-chunk-preserved
loop-chunk-preserved g c = grind (arith, common_steps)

pub returns-in_default-clause-document : goal.returns-in_default-clause-document
returns-in_default-clause-document g c = tt

pub returns-in_default-clause-whole : goal.returns-in_default-clause-whole
returns-in_default-clause-whole g c = tt

pub returns-in_default-clause-fault : goal.returns-in_default-clause-fault
returns-in_default-clause-fault g c = (λ read. c.in_default.ensures.fault.0 refl, λ failed. refl)

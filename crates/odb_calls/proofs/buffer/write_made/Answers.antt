-- What is written to the buffer of the caller.
use Rattle.std.proofs.Common.{refl, arith}
use Rattle.odb_calls.proofs.BufferLemmas.{written_all, written_next}
use Rattle.odb_calls.proofs.buffer.write_made.Goals as goal

pub loop-i-init : goal.loop-i-init
loop-i-init g c made answers = refl

pub loop-i-preserved : goal.loop-i-preserved
loop-i-preserved g c made answers =
    let i = c.loop-i.i in
    let items = c.args.items.now in
    rw (answers c.index-items-i.result c.make.result c.make.ensures, c.index-items-i.is, c.loop-i.invariant made answers) (written_next made items c.args.buffer.now i c.index-items-i.result c.loop-i-test.true c.requires.fits)

pub returns : goal.returns
returns g c made answers = written_all made c.args.items.now c.args.buffer.now c.loop-i.buffer c.loop-i.i (omega (arith, c.loop-i.auto.i-end, c.loop-i-test.false)) c.requires.fits (c.loop-i.invariant made answers)

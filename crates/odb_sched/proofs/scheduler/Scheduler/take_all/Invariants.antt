use Rattle.std.proofs.Common.{◌≡◌, length}
use Rattle.std.specs.Iterator.Adapters.{enumerate_source, enumerate_count}
use Rattle.std.specs.Vec.Iter.{into_iter_items, into_iter_len}
use Rattle.odb_sched.proofs.TakenLemmas.{HasTaken}
use Rattle.odb_sched.proofs.scheduler.Scheduler.take_all.Given as goal

-- the events so far are taken
abbrev pub invariant-loop-at : goal.invariant-loop-at
invariant-loop-at l = record {
  next : (goal.iterator-loop-at).can_next l.at-iterator;
  ends : (goal.iterator-loop-at).is_finite l.at-iterator;
  left : into_iter_len (enumerate_source l.at-iterator) ≡ length (into_iter_items (enumerate_source l.at-iterator));
  taken : HasTaken l.fn.self l.fn.events.items (into_iter_items (enumerate_source l.at-iterator)) (enumerate_count l.at-iterator) l.self;
}

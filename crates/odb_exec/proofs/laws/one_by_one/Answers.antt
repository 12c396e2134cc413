use Rattle.std.proofs.Common.{refl}
use Rattle.odb_exec.proofs.SingleLemmas.{all-places, stays-open}
use Rattle.odb_sched.specs.run.State.{first_state}
use Rattle.odb_exec.proofs.laws.one_by_one.Goals as goal

pub returns : goal.returns
returns c = record {
  width = all-places;
  unclosed = λ requests policy events. stays-open (first_state requests policy) events refl;
}

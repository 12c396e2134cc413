-- Which step of a run comes next, as an order allows it, given the ready and the running positions.
use Rattle.std.specs.Prelude.{◌≡◌, ℕ, ◌<◌, ◌≤◌, true, false, List}
use Rattle.std.specs.Ordering.{nat_cmp}
use Rattle.std.specs.FinSet.{FinSet, from_list, contains}
use Rattle.odb_check.specs.Firsts.{passing_below}
use Rattle.odb_sched.specs.declared.event.Step.{Step}
use Rattle.odb_sched.specs.declared.event.Step.TheVariants as step
use Rattle.odb_sched.specs.declared.order.Order.{Order}
use Rattle.odb_sched.specs.declared.order.Order.TheVariants as order
use Rattle.odb_sched.specs.run.State.{State, is_running, size, phase_at}
use Rattle.odb_sched.specs.run.Steps.{may_start}

-- a set of positions
abbrev pub Positions : Type 0
Positions = FinSet nat_cmp

-- the positions of a list, whatever their order
abbrev pub positions_of : List ℕ → Positions
positions_of xs = from_list xs

pub record IsLeast (positions : Positions) (i : ℕ) : Type 0 where
  pub among : contains positions i ≡ true
  pub least : (j : ℕ) → contains positions j ≡ true → i ≤ j

pub record IsGreatest (positions : Positions) (i : ℕ) : Type 0 where
  pub among : contains positions i ≡ true
  pub greatest : (j : ℕ) → contains positions j ≡ true → j ≤ i

abbrev pub IsNone : Positions → Type 0
IsNone positions = (i : ℕ) → contains positions i ≡ false

-- which steps are allowed, given the ready and the running positions
abbrev pub Allowance : Type 1
Allowance = Positions → Positions → Step → Type 0

-- the running position that is such is reported; if none is running, such a ready one is started
abbrev pub ReportsFirst : (Positions → ℕ → Type 0) → Allowance
ReportsFirst IsSuch ready running (step.Report i) = IsSuch running i
ReportsFirst IsSuch ready running (step.Start i) = IsNone running × IsSuch ready i

-- the ready position that is such is started; if none is ready, such a running one is reported
abbrev pub StartsFirst : (Positions → ℕ → Type 0) → Allowance
StartsFirst IsSuch ready running (step.Start i) = IsSuch ready i
StartsFirst IsSuch ready running (step.Report i) = IsNone ready × IsSuch running i

-- the steps that an order allows
abbrev pub AllowsOrder : Order → Allowance
AllowsOrder order.First = ReportsFirst IsLeast
AllowsOrder order.Last = ReportsFirst IsGreatest
AllowsOrder order.Wide = StartsFirst IsLeast

-- the ready positions
abbrev pub ready_set : State → Positions
ready_set state = positions_of (passing_below (size state) (may_start state))

-- the running positions
abbrev pub running_set : State → Positions
running_set state = positions_of (passing_below (size state) (λ i. is_running (phase_at state i)))

-- the step is allowed after this state
abbrev pub IsAllowed : Allowance → State → Step → Type 0
IsAllowed allows state step = allows (ready_set state) (running_set state) step

-- the position of a step's request
abbrev pub position_in : Step → ℕ
position_in (step.Start i) = i
position_in (step.Report i) = i

-- the request may start, or runs
abbrev pub MayTake : State → Step → Type 0
MayTake state (step.Start i) = may_start state i ≡ true
MayTake state (step.Report i) = is_running (phase_at state i) ≡ true

-- the step of some request may be taken, and is allowed
pub record IsNext (allows : Allowance) (state : State) (step : Step) : Type 0 where
  pub within : position_in step < size state
  pub may : MayTake state step
  pub allowed : IsAllowed allows state step

-- The options of a call from C, by their numbers.
use Rattle.std.specs.Prelude.{◌≡◌, ◌≤◌, ℕ, Bool, true, false, Option, None, Some}
use Rattle.odb_sched.specs.declared.order.Order.{Order}
use Rattle.odb_sched.specs.declared.order.Order.TheVariants.{First, Last, Wide}
use Rattle.odb_sched.specs.declared.policy.Mode.{Mode}
use Rattle.odb_sched.specs.declared.policy.Mode.TheVariants.{Continue, Stop}
use Rattle.odb_sched.specs.declared.policy.Policy.{Policy}
use Rattle.odb_reply.specs.declared.strictness.Strictness.{Strictness}
use Rattle.odb_reply.specs.declared.strictness.Strictness.TheVariants.{Requests, Units}
use Rattle.odb_engine.specs.declared.form.Form.{Form}
use Rattle.odb_engine.specs.declared.form.Form.TheVariants.{Lines, Json}
use Rattle.odb_engine.specs.declared.tasks.task.Task.{Task}
use Rattle.odb_engine.specs.declared.tasks.task.Task.TheVariants as tasks

abbrev pub mode_number : Mode → ℕ
mode_number Continue = 0
mode_number Stop = 1

abbrev pub order_number : Order → ℕ
order_number First = 0
order_number Last = 1
order_number Wide = 2

abbrev pub flag_number : Bool → ℕ
flag_number false = 0
flag_number true = 1

abbrev pub form_number : Form → ℕ
form_number Lines = 0
form_number Json = 1

-- whether statuses have to be those of some run, and of which runs
abbrev pub strict_number : Option Strictness → ℕ
strict_number None = 0
strict_number (Some Requests) = 1
strict_number (Some Units) = 2

-- the number names the form
abbrev pub IsForm : ℕ → Form → Type 0
IsForm number form = number ≡ form_number form

-- the number names the mode
abbrev pub IsMode : ℕ → Mode → Type 0
IsMode number mode = number ≡ mode_number mode

-- these numbers name the policy
pub record IsPolicy (mode width : ℕ) (policy : Policy) : Type 0 where
  pub of_mode : mode ≡ mode_number policy.mode
  pub of_width : width ≡ policy.width
  pub least : 1 ≤ width
  pub most : width ≤ 10000

-- these numbers name the match
abbrev pub IsMatch : ℕ → ℕ → Task → Type 0
IsMatch mode strict (tasks.Match named asked) = IsMode mode named × (strict ≡ strict_number asked)
IsMatch mode strict _ = ⊥

-- these numbers name the run
abbrev pub IsRun : ℕ → ℕ → Task → Type 0
IsRun mode width (tasks.Run policy) = IsPolicy mode width policy
IsRun mode width _ = ⊥

-- these numbers name the replay
abbrev pub IsReplay : ℕ → ℕ → ℕ → ℕ → Task → Type 0
IsReplay mode width order trace (tasks.Replay policy by traced) = IsPolicy mode width policy × (order ≡ order_number by) × (trace ≡ flag_number traced)
IsReplay mode width order trace _ = ⊥

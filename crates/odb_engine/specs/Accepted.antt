-- For private clauses: a task that lists all faults takes no second document and refuses no batch that the check accepts, and the
-- bytes of its document matter only to a task that takes them.
use Rattle.std.specs.Prelude.{◌≡◌, ℕ, Bool, true, false, List, None, refl}
use Rattle.std.proofs.Common.{subst}
use Rattle.serde_json.specs.Data.{Data}
use Rattle.odb_doc.specs.batch.Records.{Record}
use Rattle.odb_engine.specs.declared.ending.Ended.{Ended}
use Rattle.odb_engine.specs.declared.ending.Ended.TheVariants.{Done, Refused}
use Rattle.odb_engine.specs.declared.form.Form.{Form}
use Rattle.odb_engine.specs.declared.tasks.task.Task.{Task}
use Rattle.odb_engine.specs.declared.tasks.task.Task.TheVariants as tasks
use Rattle.odb_engine.specs.Tasks.{OfValues, lists_all, second_place, takes_bytes}

abbrev IsUnset : Bool → Type 0
IsUnset false = Unit {0}
IsUnset true = ⊥

abbrev IsRefused : Ended → Type 0
IsRefused Done = ⊥
IsRefused Refused = Unit {0}

pub never_lists : false ≡ true → ⊥
never_lists lists = subst IsUnset lists tt

pub lists_alone : (task : Task) → lists_all task ≡ true → second_place task ≡ None
lists_alone (tasks.Check all) lists = refl
lists_alone (tasks.Plan full) lists = refl
lists_alone tasks.Draw lists = refl
lists_alone tasks.Canon lists = refl
lists_alone (tasks.Match mode strict) lists = absurd (never_lists lists)
lists_alone (tasks.Rest mode) lists = absurd (never_lists lists)
lists_alone (tasks.Replay policy order traced) lists = absurd (never_lists lists)
lists_alone (tasks.Run policy) lists = absurd (never_lists lists)

pub lists_accepted : (task : Task) → lists_all task ≡ true → (document : List ℕ) (second : Data) (batch : List Record) (form : Form) (text : List ℕ) → ¬ OfValues task document second batch form Refused text
lists_accepted (tasks.Check all) lists document second batch form text so = subst IsRefused so.0 tt
lists_accepted (tasks.Plan full) lists document second batch form text so = never_lists lists
lists_accepted tasks.Draw lists document second batch form text so = never_lists lists
lists_accepted tasks.Canon lists document second batch form text so = never_lists lists
lists_accepted (tasks.Match mode strict) lists document second batch form text so = never_lists lists
lists_accepted (tasks.Rest mode) lists document second batch form text so = never_lists lists
lists_accepted (tasks.Replay policy order traced) lists document second batch form text so = never_lists lists
lists_accepted (tasks.Run policy) lists document second batch form text so = never_lists lists

pub written_alike : (task : Task) (document other : List ℕ) → (takes_bytes task ≡ true → document ≡ other) → (second : Data) (batch : List Record) (form : Form) (ended : Ended) (text : List ℕ)
    → OfValues task document second batch form ended text → OfValues task other second batch form ended text
written_alike (tasks.Check all) document other same second batch form ended text so = so
written_alike (tasks.Plan false) document other same second batch form ended text so = so
written_alike (tasks.Plan true) document other same second batch form ended text so = subst (λ bytes. OfValues (tasks.Plan true) bytes second batch form ended text) (same refl) so
written_alike tasks.Draw document other same second batch form ended text so = so
written_alike tasks.Canon document other same second batch form ended text so = so
written_alike (tasks.Match mode strict) document other same second batch form ended text so = so
written_alike (tasks.Rest mode) document other same second batch form ended text so = subst (λ bytes. OfValues (tasks.Rest mode) bytes second batch form ended text) (same refl) so
written_alike (tasks.Replay policy order traced) document other same second batch form ended text so = so
written_alike (tasks.Run policy) document other same second batch form ended text so = so

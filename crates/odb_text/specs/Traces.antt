-- The steps of an execution, as they are printed.
use Rattle.std.specs.Prelude.{ℕ, Bool, List, [], ◌∷◌, ◌++◌, codes, if◌then◌else◌}
use Rattle.std.specs.List.{flat_map}
use Rattle.std.specs.Fmt.{decimal}
use Rattle.odb_sched.specs.declared.event.Step.{Step}
use Rattle.odb_sched.specs.declared.event.Step.TheVariants as step
use Rattle.odb_sched.specs.run.State.{State}
use Rattle.odb_sched.specs.run.Answers.{reported, status_of, undone}
use Rattle.odb_check.specs.Texts.{newline}
use Rattle.odb_text.specs.Lines.{id_text}

-- `report ID STATUS`
abbrev pub report_line : List ℕ → ℕ → List ℕ
report_line id status = codes "report " ++ id ++ codes " " ++ decimal status ++ newline ∷ []

-- `start ID`, or `report ID STATUS` with the status that was reported
abbrev pub step_line : State → Step → List ℕ
step_line state (step.Start i) = codes "start " ++ id_text state.requests i ++ newline ∷ []
step_line state (step.Report i) = report_line (id_text state.requests i) (status_of (reported state i))

-- `undo ID`
abbrev pub undo_line : State → ℕ → List ℕ
undo_line state i = codes "undo " ++ id_text state.requests i ++ newline ∷ []

-- the steps in their order, and then what is undone
abbrev pub trace_text : State → List Step → List ℕ
trace_text state steps = flat_map (step_line state) steps ++ flat_map (undo_line state) (undone state)

-- the trace, if one is wanted
abbrev pub trace_part : Bool → State → List Step → List ℕ
trace_part traced state steps = if traced then trace_text state steps else []

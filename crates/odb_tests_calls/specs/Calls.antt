-- Calls on a live run.
use Rattle.std.specs.Prelude.{ℕ, List, [], ◌∷◌}
use Rattle.odb_calls.specs.Sessions.{Call, Report, Start}

-- the start and the report of the first request, with what they return
abbrev pub answered : ℕ × ℕ → List Call
answered returned = Start 0 returned.0 ∷ Report 0 204 [] [] returned.1 ∷ []

use Rattle.std.proofs.Common.{◌≡◌, ◌++◌, codes, string_bytes}
use Rattle.odb_check.specs.Firsts.{joined_below}
use Rattle.odb_check.specs.Plans.{plan_records}
use Rattle.odb_text.specs.Results.{matched}
use Rattle.odb_text.specs.ResultParts.{element}
use Rattle.odb_text.proofs.results.match_json.Given as goal

-- the elements so far
abbrev pub invariant-loop-i : goal.invariant-loop-i
invariant-loop-i l = string_bytes l.text ≡ codes "{\"responses\":[" ++ joined_below l.i (element (matched (plan_records l.plan) l.statuses))

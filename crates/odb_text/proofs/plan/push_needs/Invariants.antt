use Rattle.std.proofs.Common.{◌≡◌, ◌++◌, false, nat_lt, drop, string_bytes}
use Rattle.serde_json.specs.View.{items_of}
use Rattle.serde_json.specs.Written.{items_text}
use Rattle.odb_check.specs.Plans.{plan_records}
use Rattle.odb_text.specs.Results.{need_values}
use Rattle.odb_text.proofs.plan.push_needs.Given as goal

-- the text so far, and then the names that are left, are the whole
abbrev pub invariant-loop-k : goal.invariant-loop-k
invariant-loop-k l =
    string_bytes l.text ++ items_text (nat_lt 0 l.k) (items_of (need_values (plan_records l.plan) (drop l.k l.needs)))
    ≡ string_bytes l.fn.text ++ items_text false (items_of (need_values (plan_records l.plan) l.needs))

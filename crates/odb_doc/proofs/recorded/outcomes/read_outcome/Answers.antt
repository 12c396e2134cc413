use Rattle.std.proofs.Common.{List, ℕ, rules}
use Rattle.serde_json.specs.View.{view}
use Rattle.odb_doc.specs.BrokenRules.{OnRule}
use Rattle.odb_doc.specs.recorded.RawOutcomes.{IsLeastBroken, Repeats}
use Rattle.odb_doc.proofs.recorded.outcomes.read_outcome.Goals as goal

pub returns-in_err-status-clause-first : goal.returns-in_err-status-clause-first
returns-in_err-status-clause-first c =
    let d = view c.args.element.now in
    let first : (before : List (List ℕ)) → Repeats c.args.repeats before d → OnRule (IsLeastBroken before d) c.in_err-status.field-0.0 = λ before repeats.
    c.in_err-status.ensures.first d before c.in_ok-raw.ensures.has repeats in
    search (rules, first)

pub returns-clause-unbroken : goal.returns-clause-unbroken
returns-clause-unbroken c = λ before repeats. c.in_ok-status.ensures.unbroken (view c.args.element.now) before c.in_ok-raw.ensures.has repeats

pub returns-clause-says : goal.returns-clause-says
returns-clause-says c =
    let has = c.in_ok-raw.ensures.has in
    rw c.in_ok-outcome.ensures record {
      id = has.id;
      status = rw (← c.in_ok-status.ensures.status.1) has.status;
      headers = has.headers;
      body = has.body;
    }

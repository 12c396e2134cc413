use Rattle.std.proofs.Common.{◌≤◌, ℕ, arith, map}
use Rattle.serde_json.specs.Data.{Data, depth}
use Rattle.odb_doc.proofs.SafeLemmas.{IsSafe}
use Rattle.odb_text.specs.FullPlans.{full_plan_value}
use Rattle.odb_text.specs.Lines.{unlocated}
use Rattle.odb_text.specs.Results.{counts_value, fault_value, faults_value, match_value, plan_value}
use Rattle.odb_text.proofs.JsonLemmas.{safe-counts, safe-fault, safe-faults, safe-full_plan, safe-match, safe-plan}
use Rattle.odb_text.proofs.LocatedJsonLemmas.{fault-read, faults-read}
use Rattle.odb_text.proofs.laws.every_result.Goals as goal

few : (n : ℕ) (d : Data) → n ≤ 127 → IsSafe n d → depth d ≤ 127
few n d less is = omega (arith, is.shallow, less)

pub returns : goal.returns
returns c =
    let line = c.every_value.ensures.line in
    record {
      fault = λ refusal. let is = safe-fault refusal in line (fault_value (unlocated refusal)) is.held is.whole (few 2 _ (omega arith) is);
      faults = λ refusals. let is = safe-faults refusals in line (faults_value (map unlocated refusals)) is.held is.whole (few 3 _ (omega arith) is);
      located = fault-read;
      all_located = faults-read;
      counts = λ requests groups some few_groups. let is = safe-counts requests groups some few_groups in line (counts_value requests groups) is.held is.whole (few 1 _ (omega arith) is);
      plan = λ batch short. let is = safe-plan batch short in line (plan_value batch) is.held is.whole (few 4 _ (omega arith) is);
      full = λ value batch bodies is_batch short small. let is = safe-full_plan value batch bodies is_batch short small in line (full_plan_value batch bodies) is.held is.whole (few 4 _ (omega arith) is);
      statuses = λ batch statuses small. let is = safe-match batch statuses small in line (match_value batch statuses) is.held is.whole (few 3 _ (omega arith) is);
    }

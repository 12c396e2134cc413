use Rattle.std.proofs.Common.{rules}
use Rattle.odb_check.proofs.verdict.needs_and_levels.Goals as goal

pub all_needs-requires : goal.all_needs-requires
all_needs-requires c = search rules

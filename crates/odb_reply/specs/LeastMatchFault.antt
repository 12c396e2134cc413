-- Which fault of a match is reported: the least by phase, position and number.
use Rattle.std.specs.Prelude.{ℕ, List}
use Rattle.odb_doc.specs.LeastRules.{NoneBroken, IsFirstByPhase}
use Rattle.odb_doc.specs.batch.Records.{Record}
use Rattle.odb_reply.specs.declared.match_fault.MatchRule.{MatchRule}
use Rattle.odb_reply.specs.declared.match_fault.MatchRule.TheVariants.{UnknownResponse, ResponseTwice, ResponseMissing, GroupDiffers, UnsoundSuccess}
use Rattle.odb_reply.specs.MatchFaults.{MatchFault, Breaks, number}
use Rattle.odb_doc.specs.declared.rule_fault.RuleFault.TheVariants as faults
use Rattle.odb_reply.specs.ResponseDocuments.{Entry}

-- unknown and repeated responses come first, then missing ones, and then the groups and the statuses of the responses
abbrev pub phase : MatchRule → ℕ
phase UnknownResponse = 1
phase ResponseTwice = 1
phase ResponseMissing = 2
phase GroupDiffers = 3
phase UnsoundSuccess = 3

-- no rule is broken anywhere
abbrev pub HasNoMisfit : List Record → List Entry → Type 0
HasNoMisfit rs es = NoneBroken (Breaks rs es)

-- the fault is the least of the match. Out of memory says nothing.
abbrev pub RefusesMatch : MatchFault → List Record → List Entry → Type 0
RefusesMatch (faults.Broken at rule) rs es = IsFirstByPhase phase number (Breaks rs es) at rule
RefusesMatch faults.OutOfMemory rs es = Unit {0}

-- How responses do not fit a batch, over all pairs of responses and requests (OData JSON Format 4.01, section 19.5), and
-- what is printed of it.
use Rattle.std.specs.Prelude.{◌≡◌, ◌<◌, ℕ, List, Option, Some, Contains, IsSomeAnd, IsTrue, codes}
use Rattle.odb_doc.specs.batch.Records.{Record}
use Rattle.odb_doc.specs.Refusals.{Printed, fault_at}
use Rattle.odb_doc.specs.declared.fault.Place.{Place}
use Rattle.odb_doc.specs.declared.fault.Place.TheVariants as places
use Rattle.odb_check.specs.declared.need.Need.{Need}
use Rattle.odb_check.specs.declared.need.Need.TheVariants.{One, Group}
use Rattle.odb_check.specs.Needs.{needs_at}
use Rattle.odb_check.specs.Positions.{id_at, group_at, IsId}
use Rattle.odb_check.specs.Units.{unit_at}
use Rattle.odb_doc.specs.Statuses.{is_success}
use Rattle.odb_reply.specs.declared.match_fault.MatchRule.{MatchRule}
use Rattle.odb_reply.specs.declared.match_fault.MatchRule.TheVariants.{UnknownResponse, ResponseTwice, ResponseMissing, GroupDiffers, UnsoundSuccess}
use Rattle.odb_doc.specs.RuleFaults.{fault_row}
use Rattle.odb_doc.specs.declared.rule_fault.RuleFault.{RuleFault}
use Rattle.odb_reply.specs.ResponseDocuments.{Entry}
use Rattle.odb_reply.specs.Fits.{id_in, Responds}

-- a response to the request has a status that is not from 200 to 299
abbrev pub Fails : List Record → List Entry → ℕ → Type 0
Fails rs es r = (e : Entry) × Responds rs es r e × ¬ IsTrue (is_success e.status)

-- a dependency has failed: the request, or some member of the group
abbrev pub HasFailed : List Record → List Entry → Need → Type 0
HasFailed rs es (One r) = Fails rs es r
HasFailed rs es (Group u) = (r : ℕ) × (unit_at rs r ≡ u) × Fails rs es r

-- a response to the request has another group
pub record DiffersInGroup (rs : List Record) (es : List Entry) (i : ℕ) : Type 0 where
  pub response : Entry
  pub responds : Responds rs es i response
  pub differs : ¬ (response.group ≡ group_at rs i)

-- a response to the request is a success, and a dependency of the request has failed
pub record RestsOnFailure (rs : List Record) (es : List Entry) (i : ℕ) : Type 0 where
  pub response : Entry
  pub responds : Responds rs es i response
  pub success : IsTrue (is_success response.status)
  pub need : Need
  pub needed : Contains (needs_at rs i) need
  pub fails : HasFailed rs es need

-- The rule is broken at a place of the responses (the first two), or at a position of the requests.
abbrev pub Breaks : List Record → List Entry → MatchRule → ℕ → Type 0
Breaks rs es UnknownResponse k = IsSomeAnd (id_in es k) (λ id. ¬ IsId rs id)
Breaks rs es ResponseTwice k = IsSomeAnd (id_in es k) (λ id. (j : ℕ) × (j < k) × (id_in es j ≡ Some id))
Breaks rs es ResponseMissing i = IsSomeAnd (id_at rs i) (λ id. (k : ℕ) → ¬ (id_in es k ≡ Some id))
Breaks rs es GroupDiffers i = DiffersInGroup rs es i
Breaks rs es UnsoundSuccess i = RestsOnFailure rs es i

-- the number in the code, the name, and what the position is one of
abbrev pub rule_label : MatchRule → ℕ × List ℕ × (ℕ → Place)
rule_label UnknownResponse = (71, codes "UnknownResponse", places.Response)
rule_label ResponseTwice = (72, codes "ResponseTwice", places.Response)
rule_label ResponseMissing = (73, codes "ResponseMissing", places.Request)
rule_label GroupDiffers = (74, codes "GroupDiffers", places.Request)
rule_label UnsoundSuccess = (75, codes "UnsoundSuccess", places.Request)

abbrev pub number : MatchRule → ℕ
number rule = (rule_label rule).0

-- what is printed of the rule, broken at this position
abbrev pub rule_row : MatchRule → ℕ → Printed
rule_row rule at = fault_at (rule_label rule).0 (rule_label rule).1 ((rule_label rule).2 at)

abbrev pub MatchFault : Type 0
MatchFault = RuleFault MatchRule

abbrev pub match_row : MatchFault → Option Printed
match_row = fault_row rule_row

-- Which requests can have started, by the flags of all, and what that says of the rules of statuses.
use Rattle.std.proofs.Common.{◌≡◌, ◌≢◌, ◌∙◌, ◌<◌, ◌≤◌, ◌+◌, ◌==◌, ◌&&◌, ◌||◌, ℕ, zero, suc, Bool, true, false, List, [], ◌∷◌, ◌++◌, length, get_or, IsTrue, inl, inr, ◌⊎◌, refl, ap, sym, subst, arith, eq-eqb, eqb-true, replicate, Contains, IsSome, rules}
use Rattle.std.specs.List.{list_all}
use Rattle.std.proofs.lemmas.Bool.{cases_Bool, cases_eq, both_ways, and_from, and_parts, or_left, or_right, or_cases, false≢true, false_from_ne_true, true_from_ne_false}
use Rattle.std.proofs.lemmas.List.{length-replicate}
use Rattle.odb_doc.proofs.OneLeast.{one_first}
use Rattle.odb_doc.specs.Statuses.{is_success, is_status}
use Rattle.odb_check.specs.declared.need.Need.{Need}
use Rattle.odb_check.specs.declared.need.Need.TheVariants.{One, Group}
use Rattle.odb_check.specs.PlanGraph.{PlanGraph, ArePassing, IsPlan, IsEarlier, unit_of, needs_of, unit_needed}
use Rattle.odb_sched.specs.run.Possible.{CanHaveSucceeded}
use Rattle.odb_sched.specs.run.PossibleLive.{CanHaveBeenSent, IsAnswered2xx}
use Rattle.odb_sched.proofs.BelowLemmas.{list_all-from, list_all-each}
use Rattle.odb_reply.specs.Starts.{can_have_succeeded, can_start, is_met_outside, met_outside, sends_units, AreSent, AreStarts, HaveStarts, IsSound, IsFirstAt}
use Rattle.odb_reply.specs.StatusFaults.{BreaksStatus, CanHaveStartedBy, IsPossibleBy, status_number, status_row, RefusesStatuses, StatusFault}
use Rattle.odb_doc.specs.declared.rule_fault.RuleFault.TheVariants as faults
use Rattle.odb_reply.specs.declared.strictness.Strictness.{Strictness}
use Rattle.odb_reply.specs.declared.strictness.Strictness.TheVariants.{Requests, Units}
use Rattle.odb_reply.specs.declared.status_fault.StatusRule.{StatusRule}
use Rattle.odb_reply.specs.declared.status_fault.StatusRule.TheVariants.{NotFinal, PartialGroup, NotStarted}

-- ---- the flags of requests

pub starts-none : (plan : PlanGraph) (statuses : ℕ → ℕ) (units sent : List Bool) → AreStarts plan statuses units sent 0 []
starts-none plan statuses units sent = record { count = refl; each = λ i within. absurd (omega (arith, within)) }

get_or-push : (flags : List Bool) (flag : Bool) (i : ℕ) → i < length flags → get_or (flags ++ flag ∷ []) i false ≡ get_or flags i false
get_or-push [] flag i within = absurd (omega (arith, within))
get_or-push (x ∷ flags) flag zero within = refl
get_or-push (x ∷ flags) flag (suc i) within = get_or-push flags flag i (omega (arith, within))

get_or-pushed : (flags : List Bool) (flag : Bool) → get_or (flags ++ flag ∷ []) (length flags) false ≡ flag
get_or-pushed [] flag = refl
get_or-pushed (x ∷ flags) flag = get_or-pushed flags flag

length-push : (flags : List Bool) (flag : Bool) → length (flags ++ flag ∷ []) ≡ length flags + 1
length-push [] flag = refl
length-push (x ∷ flags) flag = let rest : length (flags ++ flag ∷ []) ≡ length flags + 1 = length-push flags flag in omega (arith, rest)

-- one flag more changes nothing for a request up to it
need_same : (plan : PlanGraph) (statuses : ℕ → ℕ) (units started : List Bool) (flag : Bool) (i : ℕ) (need : Need) → i ≤ length started → IsEarlier plan i need
    → can_have_succeeded plan statuses units started i need ≡ can_have_succeeded plan statuses units (started ++ flag ∷ []) i need
need_same plan statuses units started flag i (One r) below earlier = ap (λ b. is_success (statuses r) || ((unit_of plan r == unit_of plan i) && b && (statuses r == 424))) (sym (get_or-push started flag r (omega (arith, below, earlier))))
need_same plan statuses units started flag i (Group u) below earlier = refl

all_same : {X : Type 0} (test other : X → Bool) (xs : List X) → ((x : X) → Contains xs x → test x ≡ other x) → list_all test xs ≡ list_all other xs
all_same test other xs same = elim (cases_Bool (list_all other xs)) [
  | inl all ↦ list_all-from test xs (λ x has. same x has ∙ list_all-each other xs x all has) ∙ sym all
  | inr some ↦ false_from_ne_true _ (λ each. both_ways _ some (list_all-from other xs (λ x has. sym (same x has) ∙ list_all-each test xs x each has))) ∙ sym some
]

pub starts-push : (plan : PlanGraph) (statuses : ℕ → ℕ) (units sent started : List Bool) (flag : Bool) (n : ℕ) → IsPlan plan → n < length plan.units → AreStarts plan statuses units sent n started → flag ≡ can_start plan statuses units sent started n
    → AreStarts plan statuses units sent (n + 1) (started ++ flag ∷ [])
starts-push plan statuses units sent started flag n laws inside starts is = record {
  count = let count : length started ≡ n = starts.count in let more : length (started ++ flag ∷ []) ≡ length started + 1 = length-push started flag in omega (arith, count, more);
  each = λ i within. elim (cases_eq i n) [
    | inl last ↦ ap (λ k. get_or (started ++ flag ∷ []) k false) (last ∙ sym starts.count) ∙ get_or-pushed started flag ∙ is ∙ ap (can_start plan statuses units sent started) (sym last) ∙ more i (omega (arith, within))
    | inr other ↦ get_or-push started flag i (omega (arith, within, other, starts.count)) ∙ starts.each i (omega (arith, within, other)) ∙ more i (omega (arith, within))
  ];
}
  where
    more : (i : ℕ) → i ≤ n → can_start plan statuses units sent started i ≡ can_start plan statuses units sent (started ++ flag ∷ []) i
    more i below = ap (λ b. get_or sent (unit_of plan i) false || b) (all_same (can_have_succeeded plan statuses units started i) (can_have_succeeded plan statuses units (started ++ flag ∷ []) i) (needs_of plan i)
        (λ need has. need_same plan statuses units started flag i need (omega (arith, below, starts.count)) (laws.earlier i need (omega (arith, below, inside)) has)))

-- ---- the flags of units that may have been sent as one

pub sent-count : (by : Strictness) (plan : PlanGraph) (statuses : ℕ → ℕ) (units sent : List Bool) → AreSent by plan statuses units sent → length sent ≡ plan.unit_count
sent-count Requests plan statuses units sent are = ap length are ∙ length-replicate plan.unit_count false
sent-count Units plan statuses units sent are = are.count

-- whose flag is set was sent as one: units may be, and what its members need of other units is answered 200 to 299
sent-met : (by : Strictness) (plan : PlanGraph) (statuses : ℕ → ℕ) (units sent : List Bool) (u : ℕ) → AreSent by plan statuses units sent → get_or sent u false ≡ true
    → (sends_units by ≡ true) × ((i : ℕ) → i < length plan.units → unit_of plan i ≡ u → met_outside plan statuses units i ≡ true)
sent-met Requests plan statuses units sent u are flag = absurd (false≢true (sym (none-set plan.unit_count u) ∙ ap (λ flags. get_or flags u false) (sym are) ∙ flag))
  where
    none-set : (n u : ℕ) → get_or (replicate n false) u false ≡ false
    none-set zero u = refl
    none-set (suc n) zero = refl
    none-set (suc n) (suc u) = none-set n u
sent-met Units plan statuses units sent u are flag = (refl, λ i inside here. are.passed u i flag inside here)

-- a flag that is not set has its reason
sent-clear : (by : Strictness) (plan : PlanGraph) (statuses : ℕ → ℕ) (units sent : List Bool) (u : ℕ) → AreSent by plan statuses units sent → sends_units by ≡ true → u < plan.unit_count → get_or sent u false ≡ false
    → (i : ℕ) × (i < length plan.units) × (unit_of plan i ≡ u) × (met_outside plan statuses units i ≡ false)
sent-clear Requests plan statuses units sent u are asked within clear = absurd (false≢true asked)
sent-clear Units plan statuses units sent u are asked within clear = are.failed u within clear

-- ---- what is said of both kinds of runs

-- why a request can have started: with its unit, if units may be sent as one, or alone
abbrev CanStartBy : Strictness → PlanGraph → (ℕ → ℕ) → (ℕ → Bool) → Type 0
CanStartBy by plan statuses started = (i : ℕ) → i < length plan.units → started i ≡ true
    → ((sends_units by ≡ true) × CanHaveBeenSent plan statuses (unit_of plan i)) ⊎ ((need : Need) → Contains (needs_of plan i) need → CanHaveSucceeded plan statuses started i need)

reason_of : (by : Strictness) (plan : PlanGraph) (statuses : ℕ → ℕ) (started : ℕ → Bool) → CanHaveStartedBy by plan statuses started → CanStartBy by plan statuses started
reason_of Requests plan statuses started can i within begun = inr (λ need has. can i need within begun has)
reason_of Units plan statuses started can i within begun = elim (can i within begun) [ inl sent ↦ inl (refl, sent) | inr alone ↦ inr alone ]

by_reasons : (by : Strictness) (plan : PlanGraph) (statuses : ℕ → ℕ) (started : ℕ → Bool) → CanStartBy by plan statuses started → CanHaveStartedBy by plan statuses started
by_reasons Requests plan statuses started reasons = λ i need within begun has. elim (reasons i within begun) [ inl sent ↦ absurd (false≢true sent.0) | inr alone ↦ alone need has ]
by_reasons Units plan statuses started reasons = λ i within begun. elim (reasons i within begun) [ inl sent ↦ inl sent.1 | inr alone ↦ inr alone ]

record HasParts (by : Strictness) (plan : PlanGraph) (statuses : ℕ → ℕ) : Type 0 where
  pub final : (i : ℕ) → i < length plan.units → IsTrue (is_status (statuses i))
  pub all_or_none : (i j : ℕ) → i < length plan.units → j < length plan.units → unit_of plan i ≡ unit_of plan j → IsTrue (is_success (statuses i)) → IsTrue (is_success (statuses j))
  pub started : ℕ → Bool
  pub others : (i : ℕ) → i < length plan.units → started i ≡ false → statuses i ≡ 424
  pub can_have : CanHaveStartedBy by plan statuses started

from_parts : (by : Strictness) (plan : PlanGraph) (statuses : ℕ → ℕ) → HasParts by plan statuses → IsPossibleBy by plan statuses
from_parts Requests plan statuses parts = record { final = parts.final; all_or_none = parts.all_or_none; started = parts.started; others = parts.others; can_have = parts.can_have }
from_parts Units plan statuses parts = record { final = parts.final; all_or_none = parts.all_or_none; started = parts.started; others = parts.others; can_have = parts.can_have }

parts_of : (by : Strictness) (plan : PlanGraph) (statuses : ℕ → ℕ) → IsPossibleBy by plan statuses → HasParts by plan statuses
parts_of Requests plan statuses possible = record { final = possible.final; all_or_none = possible.all_or_none; started = possible.started; others = possible.others; can_have = possible.can_have }
parts_of Units plan statuses possible = record { final = possible.final; all_or_none = possible.all_or_none; started = possible.started; others = possible.others; can_have = possible.can_have }

module _ (by : Strictness) (plan : PlanGraph) (statuses : ℕ → ℕ) (units started : List Bool) (laws : IsPlan plan) (groups : ArePassing plan (λ i. is_success (statuses i)) (length plan.units) units) (have : HaveStarts by plan statuses units started) where
  -- the requests whose flag is set
  abbrev flagged : ℕ → Bool
  flagged i = get_or started i false

  abbrev sent : List Bool
  sent = have.sent

  need-from : (i : ℕ) (need : Need) → can_have_succeeded plan statuses units started i need ≡ true → CanHaveSucceeded plan statuses flagged i need
  need-from i (One r) can = elim (or_cases (is_success (statuses r)) _ can) [
    | inl good ↦ inl good
    | inr undone ↦
        let (own, status) = and_parts ((unit_of plan r == unit_of plan i) && get_or started r false) (statuses r == 424) undone in
        let (same, begun) = and_parts (unit_of plan r == unit_of plan i) (get_or started r false) own in
        inr (eqb-true _ _ same, begun, eqb-true _ _ status)
  ]
  need-from i (Group u) can = λ j inside here. groups.passed u j can inside here

  -- what a request needs of another unit is answered 200 to 299
  outside-from : (i : ℕ) (need : Need) → met_outside plan statuses units i ≡ true → Contains (needs_of plan i) need → unit_needed (unit_of plan) need ≢ unit_of plan i → IsAnswered2xx plan statuses need
  outside-from i need met has other = by_need need other (list_all-each (is_met_outside plan statuses units i) (needs_of plan i) need met has)
    where
      by_need : (need : Need) → unit_needed (unit_of plan) need ≢ unit_of plan i → is_met_outside plan statuses units i need ≡ true → IsAnswered2xx plan statuses need
      by_need (One r) other passes = elim (or_cases (unit_of plan r == unit_of plan i) (is_success (statuses r)) passes) [
        | inl same ↦ absurd (other (eqb-true _ _ same))
        | inr good ↦ good
      ]
      by_need (Group u) other passes = λ j inside here. groups.passed u j passes inside here

  sent-from : (u : ℕ) → get_or sent u false ≡ true → CanHaveBeenSent plan statuses u
  sent-from u flag j need inside here has other = outside-from j need ((sent-met by plan statuses units sent u have.are_sent flag).1 j inside here) has (λ own. other (own ∙ here))

  alone-from : (i : ℕ) (need : Need) → list_all (can_have_succeeded plan statuses units started i) (needs_of plan i) ≡ true → Contains (needs_of plan i) need → CanHaveSucceeded plan statuses flagged i need
  alone-from i need all has = need-from i need (list_all-each (can_have_succeeded plan statuses units started i) (needs_of plan i) need all has)

  -- these requests can have started
  can_have_with : CanStartBy by plan statuses flagged
  can_have_with i within begun = elim (or_cases (get_or sent (unit_of plan i) false) (list_all (can_have_succeeded plan statuses units started i) (needs_of plan i)) (sym (have.are_starts.each i within) ∙ begun)) [
    | inl flag ↦ inl ((sent-met by plan statuses units sent (unit_of plan i) have.are_sent flag).0, sent-from (unit_of plan i) flag)
    | inr all ↦ inr (λ need has. alone-from i need all has)
  ]

  -- and they are all that can
  group-to : (i u : ℕ) → i < length plan.units → Contains (needs_of plan i) (Group u) → IsAnswered2xx plan statuses (Group u) → get_or units u false ≡ true
  group-to i u within has good = true_from_ne_false _ (λ clear.
      let lower : u < unit_of plan i = laws.earlier i (Group u) within has in
      let (r, inside, here, poor) = groups.failed u (omega (arith, lower, laws.counted i within)) clear in
      both_ways _ poor (good r inside here))

  need-to : (others : ℕ → Bool) (i : ℕ) (need : Need) → i < length plan.units → Contains (needs_of plan i) need → ((r : ℕ) → r < i → others r ≡ true → flagged r ≡ true) → CanHaveSucceeded plan statuses others i need → can_have_succeeded plan statuses units started i need ≡ true
  need-to others i (One r) within has before (inl good) = or_left _ _ good
  need-to others i (One r) within has before (inr (same, begun, undone)) =
      or_right (is_success (statuses r)) _ (and_from _ _ (and_from _ _ (eq-eqb _ _ same) (before r (laws.earlier i (One r) within has) begun)) (eq-eqb _ _ undone))
  need-to others i (Group u) within has before good = group-to i u within has good

  outside-to : (i : ℕ) → i < length plan.units → CanHaveBeenSent plan statuses (unit_of plan i) → met_outside plan statuses units i ≡ true
  outside-to i within can = list_all-from (is_met_outside plan statuses units i) (needs_of plan i) by_need
    where
      by_need : (need : Need) → Contains (needs_of plan i) need → is_met_outside plan statuses units i need ≡ true
      by_need (One r) has = elim (cases_eq (unit_of plan r) (unit_of plan i)) [
        | inl same ↦ or_left _ _ (eq-eqb _ _ same)
        | inr other ↦ or_right (unit_of plan r == unit_of plan i) _ (can i (One r) within refl has other)
      ]
      by_need (Group u) has =
          let lower : u < unit_of plan i = laws.earlier i (Group u) within has in
          group-to i u within has (can i (Group u) within refl has (λ same. absurd (omega (arith, lower, same))))

  sent-to : (i : ℕ) → i < length plan.units → sends_units by ≡ true → CanHaveBeenSent plan statuses (unit_of plan i) → get_or sent (unit_of plan i) false ≡ true
  sent-to i within asked can = true_from_ne_false _ (λ clear.
      let (j, inside, here, unmet) = sent-clear by plan statuses units sent (unit_of plan i) have.are_sent asked (laws.counted i within) clear in
      both_ways _ unmet (outside-to j inside (subst (CanHaveBeenSent plan statuses) (sym here) can)))

  greatest : (others : ℕ → Bool) → CanStartBy by plan statuses others → (fuel i : ℕ) → i < fuel → i < length plan.units → others i ≡ true → flagged i ≡ true
  greatest others can zero i short within begun = absurd (omega (arith, short))
  greatest others can (suc fuel) i short within begun = have.are_starts.each i within ∙ elim (can i within begun) [
    | inl (asked, with_unit) ↦ or_left _ _ (sent-to i within asked with_unit)
    | inr alone ↦ or_right (get_or sent (unit_of plan i) false) _ (list_all-from (can_have_succeeded plan statuses units started i) (needs_of plan i) (λ need has.
        need-to others i need within has (λ r earlier. greatest others can fuel r (omega (arith, earlier, short)) (omega (arith, earlier, within))) (alone need has)))
  ]

  -- ---- the rules at one position

  can_have : CanHaveStartedBy by plan statuses flagged
  can_have = by_reasons by plan statuses flagged can_have_with

  unstarted : (i : ℕ) → i < length plan.units → flagged i ≡ false → (others : ℕ → Bool) → CanHaveStartedBy by plan statuses others → others i ≡ false
  unstarted i within idle others can = false_from_ne_true _ (λ begun. both_ways _ idle (greatest others (reason_of by plan statuses others can) (suc i) i (omega arith) within begun))

  -- a rule that is not broken
  final_kept : (i : ℕ) → is_status (statuses i) ≡ true → ¬ BreaksStatus by plan statuses NotFinal i
  final_kept i good broken = broken.1 good

  group_kept : (i : ℕ) → (is_success (statuses i) ≡ true → get_or units (unit_of plan i) false ≡ true) → ¬ BreaksStatus by plan statuses PartialGroup i
  group_kept i whole broken = broken.1.fails (groups.passed (unit_of plan i) broken.1.member (whole broken.1.success) broken.1.within broken.1.same)

  start_kept : (i : ℕ) → (statuses i ≢ 424 → flagged i ≡ true) → ¬ BreaksStatus by plan statuses NotStarted i
  start_kept i begun broken = both_ways _ (broken.1.1 flagged can_have) (begun broken.1.0)

  pub first_final : (i : ℕ) → i < length plan.units → is_status (statuses i) ≡ false → IsFirstAt by plan statuses i NotFinal
  first_final i within bad = record { broken = (within, λ good. both_ways _ bad good); least = λ other less. absurd (none other less) }
    where
      none : (other : StatusRule) → status_number other < 76 → ⊥
      none NotFinal less = omega (arith, less)
      none PartialGroup less = omega (arith, less)
      none NotStarted less = omega (arith, less)

  pub first_partial : (i : ℕ) → i < length plan.units → is_status (statuses i) ≡ true → is_success (statuses i) ≡ true → get_or units (unit_of plan i) false ≡ false → IsFirstAt by plan statuses i PartialGroup
  first_partial i within sound good clear =
      let (r, inside, here, poor) = groups.failed (unit_of plan i) (laws.counted i within) clear in
      record { broken = (within, record { success = good; member = r; within = inside; same = here; fails = λ also. both_ways _ poor also }); least = least }
    where
      least : (other : StatusRule) → status_number other < 77 → ¬ BreaksStatus by plan statuses other i
      least NotFinal less = final_kept i sound
      least PartialGroup less = absurd (omega (arith, less))
      least NotStarted less = absurd (omega (arith, less))

  pub first_unstarted : (i : ℕ) → i < length plan.units → is_status (statuses i) ≡ true → (is_success (statuses i) ≡ true → get_or units (unit_of plan i) false ≡ true) → statuses i ≢ 424 → flagged i ≡ false → IsFirstAt by plan statuses i NotStarted
  first_unstarted i within sound whole other idle = record { broken = (within, (other, unstarted i within idle)); least = least }
    where
      least : (rule : StatusRule) → status_number rule < 78 → ¬ BreaksStatus by plan statuses rule i
      least NotFinal less = final_kept i sound
      least PartialGroup less = group_kept i whole
      least NotStarted less = absurd (omega (arith, less))

  pub sound_at : (i : ℕ) → is_status (statuses i) ≡ true → (is_success (statuses i) ≡ true → get_or units (unit_of plan i) false ≡ true) → (statuses i ≢ 424 → flagged i ≡ true) → IsSound by plan statuses i
  sound_at i sound whole begun NotFinal = final_kept i sound
  sound_at i sound whole begun PartialGroup = group_kept i whole
  sound_at i sound whole begun NotStarted = start_kept i begun

  pub possible-from : ((i : ℕ) → i < length plan.units → IsSound by plan statuses i) → IsPossibleBy by plan statuses
  possible-from sound = from_parts by plan statuses (record {
    final = λ i within. true_from_ne_false _ (λ bad. sound i within NotFinal (within, λ good. both_ways _ bad good));
    all_or_none = λ i j within inside same good. true_from_ne_false _ (λ poor. sound i within PartialGroup (within, record { success = good; member = j; within = inside; same = sym same; fails = λ also. both_ways _ poor also }));
    started = flagged;
    others = λ i within idle. elim (cases_eq (statuses i) 424) [
      | inl same ↦ same
      | inr other ↦ absurd (sound i within NotStarted (within, (other, unstarted i within idle)))
    ];
    can_have = can_have;
  })

-- ---- possible statuses break no rule

not_parts : (by : Strictness) (plan : PlanGraph) (statuses : ℕ → ℕ) (rule : StatusRule) (i : ℕ) → BreaksStatus by plan statuses rule i → ¬ HasParts by plan statuses
not_parts by plan statuses NotFinal i broken parts = broken.1 (parts.final i broken.0)
not_parts by plan statuses PartialGroup i broken parts = broken.1.fails (parts.all_or_none i broken.1.member broken.0 broken.1.within (sym broken.1.same) broken.1.success)
not_parts by plan statuses NotStarted i broken parts = broken.1.0 (parts.others i broken.0 (broken.1.1 parts.started parts.can_have))

pub not_possible : (by : Strictness) (plan : PlanGraph) (statuses : ℕ → ℕ) (rule : StatusRule) (i : ℕ) → BreaksStatus by plan statuses rule i → ¬ IsPossibleBy by plan statuses
not_possible by plan statuses rule i broken possible = not_parts by plan statuses rule i broken (parts_of by plan statuses possible)

-- ---- the first fault

same_rule : (rule other : StatusRule) → status_number rule ≡ status_number other → rule ≡ other
same_rule rule other same = search rules

pub one_status_fault : (by : Strictness) (plan : PlanGraph) (statuses : ℕ → ℕ) (fault other : StatusFault) → IsSome (status_row fault) → IsSome (status_row other) → RefusesStatuses fault by plan statuses → RefusesStatuses other by plan statuses → fault ≡ other
one_status_fault by plan statuses (faults.Broken i rule) (faults.Broken j other) numbered also first second =
    let same : (i ≡ j) × (rule ≡ other) = one_first status_number (BreaksStatus by plan statuses) same_rule i j rule other first second in
    ap (λ r. faults.Broken i r) same.1 ∙ ap (λ k. faults.Broken k other) same.0
one_status_fault by plan statuses (faults.Broken i rule) faults.OutOfMemory numbered also first second = absurd (false≢true also)
one_status_fault by plan statuses faults.OutOfMemory other numbered also first second = absurd (false≢true numbered)

pub no_status_fault : (by : Strictness) (plan : PlanGraph) (statuses : ℕ → ℕ) (fault : StatusFault) → IsSome (status_row fault) → RefusesStatuses fault by plan statuses → ¬ IsPossibleBy by plan statuses
no_status_fault by plan statuses (faults.Broken i rule) numbered first = not_possible by plan statuses rule i first.here.broken
no_status_fault by plan statuses faults.OutOfMemory numbered first = absurd (false≢true numbered)

-- The next part of a batch: what its units are, and that it is determined.
use Rattle.std.proofs.Common.{◌≡◌, ◌∙◌, ◌+◌, ◌-◌, ◌<◌, ◌≤◌, ◌==◌, ℕ, zero, suc, Bool, true, false, cond, if◌then◌else◌, List, [], ◌∷◌, ◌++◌, length, set, replicate, inl, inr, refl, ap, sym, subst, arith, eq-eqb, append-nil}
use Rattle.std.specs.Prelude.{Result, Ok, Err, IfOk, IfErr}
use Rattle.std.proofs.lemmas.Bool.{cases_Bool, cases_eq, eqb-true, ne_eqb, true≢false, false≢true}
use Rattle.std.proofs.lemmas.List.{length-set, length-replicate}
use Rattle.odb_doc.specs.batch.Records.{Record}
use Rattle.odb_check.specs.Firsts.{count_below, joined_below}
use Rattle.odb_check.specs.PlanGraph.{plan_graph_of, unit_of}
use Rattle.odb_check.specs.Units.{unit_at, unit_count, unit_size}
use Rattle.odb_check.proofs.PlanLemmas.{in_plan_graph, is_plan_graph}
use Rattle.odb_sched.proofs.CountLemmas.{count_none, count_either}
use Rattle.odb_sched.proofs.LiveLemmas.{populated}
use Rattle.odb_send.specs.Marks.{AreFirst}
use Rattle.odb_send.specs.NextPart.{AreFitting, HasToWait, MayGo, position_in, request_count}
use Rattle.odb_send.specs.Rests.{is_kept}
use Rattle.odb_send.specs.Units.{AreMarksOf, marked}
use Rattle.odb_send.proofs.MarkLemmas.{marked-cases, marked-kept, marked-none, marked-other, marked-set, not_marked}

-- ---- counts

-- a test that passes wherever another does counts no less
pub count_upto : (n : ℕ) (test other : ℕ → Bool) → ((i : ℕ) → i < n → test i ≡ true → other i ≡ true) → count_below n test ≤ count_below n other
count_upto zero test other more = omega arith
count_upto (suc n) test other more = at (test n) (other n) (more n (omega arith)) (count_upto n test other (λ i within. more i (omega arith)))
  where
    at : (t o : Bool) → (t ≡ true → o ≡ true) → count_below n test ≤ count_below n other → cond t (suc (count_below n test)) (count_below n test) ≤ cond o (suc (count_below n other)) (count_below n other)
    at true true only less = omega (arith, less)
    at true false only less = absurd (false≢true (only refl))
    at false true only less = omega (arith, less)
    at false false only less = less

-- where some are counted, one passes
pub count_some : (n : ℕ) (test : ℕ → Bool) → 0 < count_below n test → (i : ℕ) × (i < n) × (test i ≡ true)
count_some zero test some = absurd (omega (arith, some))
count_some (suc n) test some = elim (cases_Bool (test n)) [
  | inl is ↦ (n, omega arith, is)
  | inr fails ↦ let found = count_some n test (rw fails at some) in (found.0, omega (arith, found.1), found.2)
]

-- ---- members

-- each unit has a member
pub unit_member : (rs : List Record) (u : ℕ) → u < unit_count rs → (i : ℕ) × (i < length rs) × (unit_at rs i ≡ u)
unit_member rs u known =
    let graph = plan_graph_of rs in
    let found = count_some (length graph.units) (λ i. unit_of graph i == u) (populated rs graph (is_plan_graph rs) u known) in
    let within = in_plan_graph rs found.0 found.1 in
    (found.0, within, sym ((is_plan_graph rs).units found.0 within) ∙ eqb-true _ _ found.2)

-- a unit more has its requests more
pub more_requests : (rs : List Record) (units : List Bool) (u : ℕ) → u < length units → marked units u ≡ false → request_count rs (set units u true) ≡ request_count rs units + unit_size rs u
more_requests rs units u known out = count_either (length rs) (is_kept rs units) (λ i. unit_at rs i == u) (is_kept rs (set units u true))
    (λ i within is. ap (marked units) (eqb-true _ _ is) ∙ out)
    (λ i within. elim (cases_eq (unit_at rs i) u) [
      | inl same ↦ rw (eq-eqb (unit_at rs i) u same) (ap (marked (set units u true)) same ∙ marked-set units u known)
      | inr other ↦ rw (ne_eqb (unit_at rs i) u other) (marked-other units u (unit_at rs i) other)
    ])

-- ---- one unit after another

pub AreFirst-none : (rs : List Record) (done left : List Bool) (limit : ℕ) → AreFirst rs done left limit 0 limit (replicate (unit_count rs) false)
AreFirst-none rs done left limit = record {
  marks = record {
    count = length-replicate (unit_count rs) false;
    each = λ u within. ((λ is. absurd (false≢true (sym (marked-none (unit_count rs) u) ∙ is))), (λ first. absurd (omega (arith, first.0))));
  };
  count = let none : request_count rs (replicate (unit_count rs) false) ≡ 0 = count_none (length rs) (is_kept rs (replicate (unit_count rs) false)) (λ i within. marked-none (unit_count rs) (unit_at rs i)) in omega (arith, none);
}

-- a unit that may not go is passed over
pub AreFirst-over : (rs : List Record) (done left : List Bool) (limit u room : ℕ) (units : List Bool) → AreFirst rs done left limit u room units → ¬ MayGo rs done left u → AreFirst rs done left limit (u + 1) room units
AreFirst-over rs done left limit u room units before out = record {
  marks = record {
    count = before.marks.count;
    each = λ v within. (
      (λ is. let there = (before.marks.each v within).0 is in (omega (arith, there.0), there.1)),
      (λ first. elim (cases_eq v u) [
        | inl same ↦ absurd (out (subst (MayGo rs done left) same first.1))
        | inr other ↦ (before.marks.each v within).1 (omega (arith, first.0, other), first.1)
      ]),
    );
  };
  count = before.count;
}

-- the units so far do not have the next
not_yet : (rs : List Record) (done left : List Bool) (limit u room : ℕ) (units : List Bool) → AreFirst rs done left limit u room units → u < unit_count rs → marked units u ≡ false
not_yet rs done left limit u room units before known = not_marked (marked units u) (λ is. let there = (before.marks.each u known).0 is in omega (arith, there.0))

-- a unit that may go, and fits
pub AreFirst-more : (rs : List Record) (done left : List Bool) (limit u room count : ℕ) (units : List Bool) → AreFirst rs done left limit u room units → MayGo rs done left u → count ≡ unit_size rs u → count ≤ room
    → AreFirst rs done left limit (u + 1) (room - count) (set units u true)
AreFirst-more rs done left limit u room count units before goes counted fits = record {
  marks = record {
    count = length-set units u true ∙ before.marks.count;
    each = λ v within. (
      (λ is. elim (marked-cases units u v is) [
        | inl same ↦ (omega (arith, same), subst (MayGo rs done left) (sym same) goes)
        | inr there ↦ let first = (before.marks.each v within).0 there in (omega (arith, first.0), first.1)
      ]),
      (λ first. elim (cases_eq v u) [
        | inl same ↦ subst (λ w. marked (set units u true) w ≡ true) (sym same) (marked-set units u inside)
        | inr other ↦ marked-kept units u v inside ((before.marks.each v within).1 (omega (arith, first.0, other), first.1))
      ]),
    );
  };
  count = let more = more_requests rs units u inside (not_yet rs done left limit u room units before goes.known) in omega (arith, more, before.count, counted, fits);
}
  where
    inside : u < length units
    inside = omega (arith, goes.known, before.marks.count)

-- the next unit does not fit
pub part_full : (rs : List Record) (done left : List Bool) (limit u room count : ℕ) (units : List Bool) → AreFirst rs done left limit u room units → MayGo rs done left u → count ≡ unit_size rs u → room < count → AreFitting rs done left limit units
part_full rs done left limit u room count units before goes counted more = record {
  end = u;
  units = before.marks;
  within = omega (arith, before.count);
  next = inr (goes, omega (arith, before.count, counted, more));
}

-- all units were looked at
pub part_whole : (rs : List Record) (done left : List Bool) (limit room : ℕ) (units : List Bool) → AreFirst rs done left limit (unit_count rs) room units → AreFitting rs done left limit units
part_whole rs done left limit room units before = record {
  end = unit_count rs;
  units = before.marks;
  within = omega (arith, before.count);
  next = inl refl;
}

-- ---- whether a unit may go, by the marks of those that have to wait

pub may_go : (rs : List Record) (done left waiting : List Bool) (u : ℕ) → u < unit_count rs → AreMarksOf rs (HasToWait rs done left) waiting → marked done u ≡ false → marked waiting u ≡ false → MayGo rs done left u
may_go rs done left waiting u known are open_unit free = record {
  known = known;
  not_done = open_unit;
  free = λ waits. true≢false (sym ((are.each u known).1 waits) ∙ free);
}

pub may_not_wait : (rs : List Record) (done left waiting : List Bool) (u : ℕ) → u < unit_count rs → AreMarksOf rs (HasToWait rs done left) waiting → marked waiting u ≡ true → ¬ MayGo rs done left u
may_not_wait rs done left waiting u known are waits goes = goes.free ((are.each u known).0 waits)

pub may_not_done : (rs : List Record) (done left : List Bool) (u : ℕ) → marked done u ≡ true → ¬ MayGo rs done left u
may_not_done rs done left u over goes = true≢false (sym over ∙ goes.not_done)

-- what holds of a value that there is
pub ok_by : {T E : Type 0} (r : Result T E) (P Q : T → Type 0) → ((x : T) → P x → Q x) → IfOk r P → IfOk r Q
ok_by (Ok x) P Q more holds = more x holds
ok_by (Err e) P Q more holds = tt

-- what holds of an error
pub error_by : {T E : Type 0} (r : Result T E) (P Q : E → Type 0) → ((e : E) → P e → Q e) → IfErr r P → IfErr r Q
error_by (Ok x) P Q more holds = tt
error_by (Err e) P Q more holds = more e holds

-- ---- the positions of a part

one_position_more : (rs : List Record) (part : List Bool) (i : ℕ) → joined_below (i + 1) (position_in rs part) ≡ joined_below i (position_in rs part) ++ position_in rs part i
one_position_more rs part i = let next : i + 1 ≡ suc i = omega arith in ap (λ n. joined_below n (position_in rs part)) next

-- a request of the part
pub positions_more : (rs : List Record) (part : List Bool) (i : ℕ) (found : List ℕ) → found ≡ joined_below i (position_in rs part) → is_kept rs part i ≡ true → found ++ i ∷ [] ≡ joined_below (i + 1) (position_in rs part)
positions_more rs part i found so is =
    ap (λ (xs : List ℕ). xs ++ i ∷ []) so ∙ ap (λ (b : Bool). joined_below i (position_in rs part) ++ (if b then i ∷ [] else [])) (sym is) ∙ sym (one_position_more rs part i)

-- another request
pub positions_same : (rs : List Record) (part : List Bool) (i : ℕ) (found : List ℕ) → found ≡ joined_below i (position_in rs part) → is_kept rs part i ≡ false → found ≡ joined_below (i + 1) (position_in rs part)
positions_same rs part i found so is =
    so ∙ sym (append-nil (joined_below i (position_in rs part))) ∙ ap (λ (b : Bool). joined_below i (position_in rs part) ++ (if b then i ∷ [] else [])) (sym is) ∙ sym (one_position_more rs part i)

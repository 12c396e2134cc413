-- What holds of every next part.
use Rattle.std.proofs.Common.{◌≡◌, ◌∙◌, ◌⊎◌, ◌+◌, ◌<◌, ◌≤◌, ℕ, suc, Bool, true, false, cond, List, [], ◌∷◌, length, set, inl, inr, refl, ap, sym, subst, arith, Contains}
use Rattle.std.proofs.lemmas.Bool.{cases_Bool, cases_order, true≢false}
use Rattle.std.proofs.lemmas.List.{same_lists, get_or_default}
use Rattle.odb_doc.specs.batch.Records.{Record}
use Rattle.odb_check.specs.PlanGraph.{unit_needed}
use Rattle.odb_check.specs.declared.need.Need.{Need}
use Rattle.odb_check.specs.Firsts.{count_below}
use Rattle.odb_check.specs.LeastNameFault.{HasGoodNames}
use Rattle.odb_check.specs.Needs.{needs_at}
use Rattle.odb_check.specs.Units.{unit_at, unit_count}
use Rattle.odb_check.proofs.FirstLemmas.{count_few}
use Rattle.odb_check.proofs.PlanLemmas.{needs_before}
use Rattle.odb_check.proofs.UnitLemmas.{unit_before}
use Rattle.odb_sched.specs.declared.states.RequestState.{RequestState}
use Rattle.odb_send.specs.declared.rest.Rest.{Rest}
use Rattle.odb_send.specs.Laws.{IsPartOfPlan}
use Rattle.odb_send.specs.NextPart.{AreFitting, HasNoLonger, HasSome, HasToWait, IsCut, IsFresh, IsNextPart, IsPartAfter, IsPartOf, MayGo, NeedsMet, request_count}
use Rattle.odb_send.specs.Answers.{Answer}
use Rattle.odb_send.specs.Rests.{Change, HasChanges, IsRestOf, change_at, changes, is_kept, kept, records_in, rest_record, rest_records, select}
use Rattle.odb_send.specs.Units.{AreMarksOf, IsDone, IsInRest, marked}
use Rattle.odb_send.specs.Units.IsBarred.{own, needing}
use Rattle.odb_send.proofs.MarkLemmas.{marked-cases, needed_before, not_marked, one_marks}
use Rattle.odb_send.proofs.LawLemmas.{need_known, rest_may_be_sent, urls_stay}
use Rattle.odb_send.proofs.NameLemmas.{rest_good}
use Rattle.odb_send.proofs.PlanLemmas.{is_part}
use Rattle.odb_send.proofs.CutLemmas.{cut_whole}
use Rattle.odb_send.proofs.NextPartLemmas.{count_some, count_upto, more_requests, unit_member}

-- ---- a part is determined

-- marks of what holds up to an end are marks of it up to another, unless that one comes first
upto_there : (rs : List Record) (P : ℕ → Type 0) (e f : ℕ) (one other : List Bool) → AreMarksOf rs (λ u. (u < e) × P u) one → AreMarksOf rs (λ u. (u < f) × P u) other → (f < e → f < unit_count rs → ⊥)
    → (u : ℕ) → u < unit_count rs → marked one u ≡ true → marked other u ≡ true
upto_there rs P e f one other is also never u known marks =
    let first = (is.each u known).0 marks in
    (also.each u known).1 (
      elim (cases_order e f) [
        | inl same ↦ omega (arith, first.0, same)
        | inr (inl less) ↦ omega (arith, first.0, less)
        | inr (inr more) ↦ elim (cases_order u f) [
          | inl end ↦ absurd (never more (omega (arith, end, known)))
          | inr (inl before) ↦ before
          | inr (inr past) ↦ absurd (never more (omega (arith, past, known)))
        ]
      ],
      first.1,
    )

-- they are one where neither end comes first
one_upto : (rs : List Record) (P : ℕ → Type 0) (e f : ℕ) (one other : List Bool) → AreMarksOf rs (λ u. (u < e) × P u) one → AreMarksOf rs (λ u. (u < f) × P u) other → (e < f → e < unit_count rs → ⊥) → (f < e → f < unit_count rs → ⊥) → one ≡ other
one_upto rs P e f one other is also never no_other = same_lists one other (is.count ∙ sym also.count) (λ u d less.
    let inside : u < length other = omega (arith, less, is.count, also.count) in
    get_or_default one u d false less ∙ alike u (omega (arith, less, is.count)) ∙ get_or_default other u false d inside)
  where
    alike : (u : ℕ) → u < unit_count rs → marked one u ≡ marked other u
    alike u known = elim (cases_Bool (marked one u)) [
      | inl marks ↦ marks ∙ sym (upto_there rs P e f one other is also no_other u known marks)
      | inr none ↦ none ∙ sym (not_marked (marked other u) (λ marks. true≢false (sym (upto_there rs P f e other one also is never u known marks) ∙ none)))
    ]

-- of two ends of what fits the first does not come before the other
not_before : (rs : List Record) (done left : List Bool) (limit : ℕ) (one other : List Bool) (is : AreFitting rs done left limit one) (also : AreFitting rs done left limit other) → is.end < also.end → is.end < unit_count rs → ⊥
not_before rs done left limit one other is also less known = elim is.next [
  | inl end ↦ omega (arith, end)
  | inr (goes, more) ↦
      let inside : is.end < length one = omega (arith, goes.known, is.units.count) in
      let out : marked one is.end ≡ false = not_marked (marked one is.end) (λ marks. let there = (is.units.each is.end goes.known).0 marks in omega (arith, there.0)) in
      let joined = more_requests rs one is.end inside out in
      let upto : request_count rs (set one is.end true) ≤ request_count rs other = count_upto (length rs) (is_kept rs (set one is.end true)) (is_kept rs other) (λ i within kept_in.
      let own_unit : unit_at rs i < unit_count rs = unit_before rs i (length rs) within in
      elim (marked-cases one is.end (unit_at rs i) kept_in) [
        | inl same ↦ (also.units.each (unit_at rs i) own_unit).1 (omega (arith, same, less), subst (MayGo rs done left) (sym same) goes)
        | inr there ↦ let first = (is.units.each (unit_at rs i) own_unit).0 there in (also.units.each (unit_at rs i) own_unit).1 (omega (arith, first.0, less), first.1)
      ]) in
      omega (arith, joined, upto, also.within, more)
]

pub one_fitting : (rs : List Record) (done left : List Bool) (limit : ℕ) (one other : List Bool) → AreFitting rs done left limit one → AreFitting rs done left limit other → one ≡ other
one_fitting rs done left limit one other is also =
    one_upto rs (MayGo rs done left) is.end also.end one other is.units also.units (not_before rs done left limit one other is also) (not_before rs done left limit other one also is)

-- likewise of two parts
cut_not_before : (rs : List Record) (fitting : List Bool) (answers : ℕ → Answer) (one other : List Bool) (is : IsCut rs fitting answers one) (also : IsCut rs fitting answers other) → is.end < also.end → is.end < unit_count rs → ⊥
cut_not_before rs fitting answers one other is also less known = elim is.next [
  | inl end ↦ omega (arith, end, known)
  | inr (some, lack) ↦ also.placed is.end less lack
]

one_cut : (rs : List Record) (fitting : List Bool) (answers : ℕ → Answer) (one other : List Bool) → IsCut rs fitting answers one → IsCut rs fitting answers other → one ≡ other
one_cut rs fitting answers one other is also =
    one_upto rs (λ u. marked fitting u ≡ true) is.end also.end one other is.units also.units (cut_not_before rs fitting answers one other is also) (cut_not_before rs fitting answers other one also is)

one_part : (rs : List Record) (done left : List Bool) (limit : ℕ) (answers : ℕ → Answer) (one other : List Bool) → IsNextPart rs done left limit answers one → IsNextPart rs done left limit answers other → one ≡ other
one_part rs done left limit answers one other is also =
    let same : also.fitting ≡ is.fitting = one_fitting rs done left limit also.fitting is.fitting also.fits is.fits in
    one_cut rs is.fitting answers one other is.cut (subst (λ (fitting : List Bool). IsCut rs fitting answers other) same also.cut)

-- ---- what a part needs

-- a unit that need not wait is done or left
done_or_left : (rs : List Record) (done left : List Bool) (u : ℕ) → u < unit_count rs → ¬ HasToWait rs done left u → (marked done u ≡ true) ⊎ (marked left u ≡ true)
done_or_left rs done left u known free = elim (cases_Bool (marked done u)) [
  | inl is ↦ inl is
  | inr open_unit ↦ elim (cases_Bool (marked left u)) [
    | inl is ↦ inr is
    | inr neither ↦
        let (i, within, unit) = unit_member rs u known in
        absurd (free (subst (HasToWait rs done left) unit (own i within (ap (marked done) unit ∙ open_unit) (ap (marked left) unit ∙ neither))))
  ]
]

-- a unit that may go is left
goes_left : (rs : List Record) (done left : List Bool) (u : ℕ) → MayGo rs done left u → marked left u ≡ true
goes_left rs done left u goes = elim (done_or_left rs done left u goes.known goes.free) [
  | inl is ↦ absurd (true≢false (sym is ∙ goes.not_done))
  | inr is ↦ is
]

-- what a request needs that fits does so too, or is done
needs_fit : (rs : List Record) (done left : List Bool) (limit : ℕ) (fitting : List Bool) → HasGoodNames rs → AreFitting rs done left limit fitting → (i : ℕ) (need : Need) → i < length rs → is_kept rs fitting i ≡ true → Contains (needs_at rs i) need
    → (marked fitting (unit_needed (unit_at rs) need) ≡ true) ⊎ (marked done (unit_needed (unit_at rs) need) ≡ true)
needs_fit rs done left limit fitting good is i need within stays inside =
    let known = need_known rs good i need within inside in
    let first = (is.units.each (unit_at rs i) (unit_before rs i (length rs) within)).0 stays in
    let before : unit_needed (unit_at rs) need ≤ unit_at rs i = needed_before rs (needs_before rs good) i need inside in
    elim (cases_Bool (marked done (unit_needed (unit_at rs) need))) [
      | inl met ↦ inr met
      | inr open_unit ↦ inl ((is.units.each (unit_needed (unit_at rs) need) known).1 (
        omega (arith, before, first.0),
        record {
          known = known;
          not_done = open_unit;
          free = λ waits. first.1.free (needing i need within first.1.not_done inside waits);
        },
      ))
    ]

-- a unit of the part fits
in_fitting : (rs : List Record) (done left : List Bool) (limit : ℕ) (answers : ℕ → Answer) (part : List Bool) (is : IsNextPart rs done left limit answers part) (i : ℕ) → i < length rs → is_kept rs part i ≡ true
    → (unit_at rs i < is.cut.end) × (is_kept rs is.fitting i ≡ true)
in_fitting rs done left limit answers part is i within stays = (is.cut.units.each (unit_at rs i) (unit_before rs i (length rs) within)).0 stays

-- what a request of the part needs is in the part, or done
needs_met : (rs : List Record) (done left : List Bool) (limit : ℕ) (answers : ℕ → Answer) (part : List Bool) → HasGoodNames rs → IsNextPart rs done left limit answers part → (i : ℕ) (need : Need) → i < length rs → is_kept rs part i ≡ true
    → Contains (needs_at rs i) need → (marked part (unit_needed (unit_at rs) need) ≡ true) ⊎ (marked done (unit_needed (unit_at rs) need) ≡ true)
needs_met rs done left limit answers part good is i need within stays inside =
    let (early, fits) = in_fitting rs done left limit answers part is i within stays in
    let before : unit_needed (unit_at rs) need ≤ unit_at rs i = needed_before rs (needs_before rs good) i need inside in
    elim (needs_fit rs done left limit is.fitting good is.fits i need within fits inside) [
      | inl there ↦ inl ((is.cut.units.each (unit_needed (unit_at rs) need) (need_known rs good i need within inside)).1 (omega (arith, before, early), there))
      | inr met ↦ inr met
    ]

pub needs_met_after : (rs : List Record) (states : List RequestState) (limit : ℕ) (answers : ℕ → Answer) (part : Rest) → HasGoodNames rs → IsPartAfter rs states limit answers part → NeedsMet rs states (kept part)
needs_met_after rs states limit answers part good is i need within stays inside =
    elim (needs_met rs is.done is.left limit answers (kept part) good is.part_is.units i need within stays inside) [
      | inl there ↦ inl there
      | inr met ↦ inr ((is.progress.succeeded.each (unit_needed (unit_at rs) need) (need_known rs good i need within inside)).0 met)
    ]

-- a part has only requests that may still start
pub fresh : (rs : List Record) (states : List RequestState) (limit : ℕ) (answers : ℕ → Answer) (part : Rest) → IsPartAfter rs states limit answers part → IsFresh rs states (kept part)
fresh rs states limit answers part is i within stays =
    let known = unit_before rs i (length rs) within in
    let fits = (in_fitting rs is.done is.left limit answers (kept part) is.part_is.units i within stays).1 in
    let goes = ((is.part_is.units.fits.units.each (unit_at rs i) known).0 fits).1 in
    (is.progress.starting.each (unit_at rs i) known).0 (goes_left rs is.done is.left (unit_at rs i) goes) i within refl

-- a part of a run is determined
pub one_part_after : (rs : List Record) (states : List RequestState) (limit : ℕ) (answers : ℕ → Answer) (part other : Rest) → IsPartAfter rs states limit answers part → IsPartAfter rs states limit answers other → kept part ≡ kept other
one_part_after rs states limit answers part other is also =
    let same_done : also.done ≡ is.done = one_marks rs _ also.done is.done also.progress.succeeded is.progress.succeeded in
    let same_left : also.left ≡ is.left = one_marks rs _ also.left is.left also.progress.starting is.progress.starting in
    one_part rs is.done is.left limit answers (kept part) (kept other) is.part_is.units
    (subst (λ (left : List Bool). IsNextPart rs is.done left limit answers (kept other)) same_left (subst (λ (done : List Bool). IsNextPart rs done also.left limit answers (kept other)) same_done also.part_is.units))

-- ---- how many requests a part has

-- where a unit may go one fits, unless a unit is longer than the limit
some_fit : (rs : List Record) (done left : List Bool) (limit : ℕ) (fitting : List Bool) → AreFitting rs done left limit fitting → HasNoLonger rs limit → (u : ℕ) → MayGo rs done left u → HasSome rs fitting
some_fit rs done left limit fitting is short u goes = elim is.next [
  | inl end ↦
      let (i, within, unit) = unit_member rs u goes.known in
      (i, within, ap (marked fitting) unit ∙ (is.units.each u goes.known).1 (omega (arith, goes.known, end), goes))
  | inr (next, more) ↦
      let fits = short is.end next.known in
      count_some (length rs) (is_kept rs fitting) (omega (arith, more, fits))
]

-- then a part has a request
pub some_go : (rs : List Record) (done left : List Bool) (limit : ℕ) (answers : ℕ → Answer) (part : List Bool) → IsNextPart rs done left limit answers part → HasNoLonger rs limit → (u : ℕ) → MayGo rs done left u → HasSome rs part
some_go rs done left limit answers part is short u goes = elim is.cut.next [
  | inl end ↦
      let (i, within, stays) = some_fit rs done left limit is.fitting is.fits short u goes in
      let known : unit_at rs i < unit_count rs = unit_before rs i (length rs) within in
      (i, within, (is.cut.units.each (unit_at rs i) known).1 (omega (arith, known, end), stays))
  | inr (some, lack) ↦ some
]

-- a selection has as many elements as pass
select_count : {X Y : Type 0} (passes : ℕ → Bool) (make : ℕ → X → Y) (i : ℕ) (xs : List X) → count_below i passes + length (select passes make i xs) ≡ count_below (i + length xs) passes
select_count passes make i [] =
    let none : count_below i passes + 0 ≡ count_below i passes = omega arith in
    let same : i ≡ i + 0 = omega arith in
    none ∙ ap (λ n. count_below n passes) same
select_count {X} {Y} passes make i (x ∷ xs) =
    let more = select_count passes make (i + 1) xs in
    let same : i + length (x ∷ xs) ≡ (i + 1) + length xs = omega arith in
    let step : i + 1 ≡ suc i = omega arith in
    let counted : count_below (i + 1) passes ≡ cond (passes i) (suc (count_below i passes)) (count_below i passes) = ap (λ n. count_below n passes) step in
    by_first (passes i) (sym (ap (λ m. m + length (select passes make (i + 1) xs)) counted) ∙ more ∙ ap (λ n. count_below n passes) (sym same))
  where
    by_first : {total : ℕ} (b : Bool) → cond b (suc (count_below i passes)) (count_below i passes) + length (select passes make (i + 1) xs) ≡ total
        → count_below i passes + length (cond b (make i x ∷ select passes make (i + 1) xs) (select passes make (i + 1) xs)) ≡ total
    by_first true is = omega (arith, is)
    by_first false is = is

pub at_most : (rs : List Record) (done left : List Bool) (limit : ℕ) (answers : ℕ → Answer) (part : List Bool) (list : List Change) → IsNextPart rs done left limit answers part → length (rest_records rs part list) ≤ limit
at_most rs done left limit answers part list is =
    let counted = select_count (is_kept rs part) (λ i r. rest_record rs part (change_at list i) r) 0 rs in
    let all : 0 + length rs ≡ length rs = omega arith in
    let same : count_below (0 + length rs) (is_kept rs part) ≡ request_count rs part = ap (λ n. count_below n (is_kept rs part)) all in
    let fewer : request_count rs part ≤ request_count rs is.fitting = count_upto (length rs) (is_kept rs part) (is_kept rs is.fitting) (λ i within stays. (in_fitting rs done left limit answers part is i within stays).1) in
    omega (arith, counted, same, fewer, is.fits.within)

-- ---- the rest is a part

-- a unit that has to wait is not done
waits_open : (rs : List Record) (done left : List Bool) (u : ℕ) → HasToWait rs done left u → marked done u ≡ false
waits_open rs done left u (own i within bound bad) = bound
waits_open rs done left u (needing i need within bound inside waits) = bound

-- a unit in the rest need not wait
rest_free : (rs : List Record) (statuses : List ℕ) (done units : List Bool) → HasGoodNames rs → AreMarksOf rs (IsDone rs statuses) done → AreMarksOf rs (IsInRest rs statuses) units → (u : ℕ) → HasToWait rs done units u → IsInRest rs statuses u → ⊥
rest_free rs statuses done units good are also u (own i within bound bad) rest = true≢false (sym ((also.each (unit_at rs i) rest.known).1 rest) ∙ bad)
rest_free rs statuses done units good are also u (needing i need within bound inside waits) rest =
    elim ((rest_may_be_sent rs statuses units good also (unit_at rs i) rest).met i need within refl inside) [
      | inl met ↦ true≢false (sym ((are.each (unit_needed (unit_at rs) need) (need_known rs good i need within inside)).1 met) ∙ waits_open rs done units (unit_needed (unit_at rs) need) waits)
      | inr other ↦ rest_free rs statuses done units good are also (unit_needed (unit_at rs) need) waits other
    ]

-- without a limit all of it fits
rest_fits : (rs : List Record) (statuses : List ℕ) (done units : List Bool) → HasGoodNames rs → AreMarksOf rs (IsDone rs statuses) done → AreMarksOf rs (IsInRest rs statuses) units → AreFitting rs done units (length rs) units
rest_fits rs statuses done units good are also = record {
  end = unit_count rs;
  units = record {
    count = also.count;
    each = λ u known. (
      (λ is. let rest = (also.each u known).0 is in (
        known,
        record {
          known = known;
          not_done = not_marked (marked done u) (λ over. rest.not_done ((are.each u known).0 over));
          free = λ waits. rest_free rs statuses done units good are also u waits rest;
        },
      )),
      (λ first. goes_left rs done units u first.1),
    );
  };
  within = count_few (length rs) (is_kept rs units);
  next = inl refl;
}

-- the rest is the part of all that is in it, which is not limited
pub rest_is_part : (rs : List Record) (statuses : List ℕ) (answers : ℕ → Answer) (done : List Bool) (rest : Rest) → HasGoodNames rs → AreMarksOf rs (IsDone rs statuses) done → IsRestOf rs statuses answers rest
    → IsPartOf rs done (kept rest) (length rs) answers rest
rest_is_part rs statuses answers done rest good are is = record {
  units = record {
    fitting = kept rest;
    fits = rest_fits rs statuses done (kept rest) good are is.units;
    cut = cut_whole rs (kept rest) answers (changes rest) is.units.count is.changes_are;
  };
  changes_are = is.changes_are;
}

-- ---- a part as a batch

-- its names fit together
pub part_good : (rs : List Record) (answers : ℕ → Answer) (part : Rest) → HasGoodNames rs → HasChanges rs (kept part) answers (changes part) → HasGoodNames (records_in rs part)
part_good rs answers part good are = rest_good rs (kept part) (changes part) good (urls_stay rs (kept part) answers (changes part) are)

-- its plan is a part of the plan
pub part_of_plan : (rs : List Record) (answers : ℕ → Answer) (part : Rest) → HasGoodNames rs → HasChanges rs (kept part) answers (changes part) → IsPartOfPlan rs (kept part) (records_in rs part)
part_of_plan rs answers part good are = is_part rs (kept part) answers (changes part) good (urls_stay rs (kept part) answers (changes part) are) are

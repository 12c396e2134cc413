-- The marks of units that are done and of those that are left out.
use Rattle.std.proofs.Common.{◌≡◌, ◌≢◌, ◌⊎◌, ◌∙◌, ◌+◌, ◌<◌, ◌≤◌, ℕ, zero, suc, Bool, true, false, not, ◌&&◌, List, [], ◌∷◌, ◌++◌, length, set, replicate, get_or, Some, slice_get, inl, inr, refl, ap, sym, subst, arith, Contains, get_or-set_other}
use Rattle.std.specs.List.{list_any}
use Rattle.std.proofs.lemmas.Bool.{cases_Bool, cases_eq, true≢false, false≢true}
use Rattle.std.proofs.lemmas.List.{same_lists, get_or_default, length-set, length-replicate, length_push, get_or_push, get_or_append_left}
use Rattle.std.proofs.lemmas.List.Folds.{Any-from_list_any, list_any_at}
use Rattle.std.proofs.lemmas.Grind.{get_or-set_at}
use Rattle.odb_doc.specs.batch.Records.{Record}
use Rattle.odb_check.specs.LeastNameFault.{HasGoodNames}
use Rattle.odb_check.specs.PlanGraph.{PlanGraph, ArePassing, IsPlanGraphOf, unit_needed}
use Rattle.odb_check.specs.declared.need.Need.{Need}
use Rattle.odb_check.specs.declared.need.Need.TheVariants.{One, Group}
use Rattle.odb_check.specs.Needs.{needs_at}
use Rattle.odb_check.specs.Units.{unit_at, unit_count}
use Rattle.odb_check.specs.Firsts.{list_below}
use Rattle.odb_check.proofs.LevelLemmas.{HasNeedsBefore}
use Rattle.odb_check.proofs.PlanLemmas.{needs_before}
use Rattle.odb_send.specs.Repeats.{may_repeat, may_repeat_one, may_repeat_at}
use Rattle.odb_send.specs.Units.{AreMarksOf, IsBarred, IsDone, IsInRest, IsLeftOut, IsWhole, marked}
use Rattle.odb_send.specs.Units.IsBarred.{own, needing}
use Rattle.odb_send.specs.Marks.{AreBarred, AreKept}

-- ---- one mark more

-- a mark that is set
pub marked-set : (units : List Bool) (u : ℕ) → u < length units → marked (set units u true) u ≡ true
marked-set units u within = get_or-set_at units u u true false refl within

-- the other marks stay
pub marked-other : (units : List Bool) (u v : ℕ) → v ≢ u → marked (set units u true) v ≡ marked units v
marked-other units u v apart = get_or-set_other units u v true false apart

-- a mark is that which was set, or was there
pub marked-cases : (units : List Bool) (u v : ℕ) → marked (set units u true) v ≡ true → (v ≡ u) ⊎ (marked units v ≡ true)
marked-cases units u v is = elim (cases_eq v u) [ inl same ↦ inl same | inr apart ↦ inr (sym (marked-other units u v apart) ∙ is) ]

-- marks stay
pub marked-kept : (units : List Bool) (u v : ℕ) → u < length units → marked units v ≡ true → marked (set units u true) v ≡ true
marked-kept units u v within is = elim (cases_eq v u) [
  | inl same ↦ subst (λ w. marked (set units u true) w ≡ true) (sym same) (marked-set units u within)
  | inr apart ↦ marked-other units u v apart ∙ is
]

-- no mark is set at first
pub marked-none : (n u : ℕ) → marked (replicate n false) u ≡ false
marked-none zero u = refl
marked-none (suc n) zero = refl
marked-none (suc n) (suc u) = marked-none n u

-- ---- units that are barred

-- whether a request may be sent again, by the request
pub repeats_at : (rs : List Record) (statuses : List ℕ) (i : ℕ) (r : Record) → slice_get rs i ≡ Some r → may_repeat_at rs statuses i ≡ may_repeat r.method (get_or statuses i 0)
repeats_at rs statuses i r here = ap (λ o. may_repeat_one o (get_or statuses i 0)) here

pub AreBarred-none : (rs : List Record) (exempt test : ℕ → Bool) → AreBarred rs exempt test 0 (replicate (unit_count rs) false)
AreBarred-none rs exempt test = record {
  count = length-replicate (unit_count rs) false;
  sound = λ u is. absurd (false≢true (sym (marked-none (unit_count rs) u) ∙ is));
  own = λ i less. absurd (omega arith);
  needing = λ i need less. absurd (omega arith);
}

-- what a request needs is in its unit or in one before it
pub needed_before : (rs : List Record) → HasNeedsBefore rs → (i : ℕ) (need : Need) → Contains (needs_at rs i) need → unit_needed (unit_at rs) need ≤ unit_at rs i
needed_before rs before i (One r) inside = before.order r i (omega (arith, before.one i r inside))
needed_before rs before i (Group u) inside = omega (arith, before.group i u inside)

-- the next request is of an exempt unit
pub AreBarred-exempt : (rs : List Record) (exempt test : ℕ → Bool) (n : ℕ) (units : List Bool) → AreBarred rs exempt test n units → exempt (unit_at rs n) ≡ true → AreBarred rs exempt test (n + 1) units
AreBarred-exempt rs exempt test n units before is = record {
  count = before.count;
  sound = before.sound;
  own = λ i less free bad. elim (cases_eq i n) [
    | inl last ↦ absurd (true≢false (sym is ∙ ap (λ j. exempt (unit_at rs j)) (sym last) ∙ free))
    | inr early ↦ before.own i (omega arith) free bad
  ];
  needing = λ i need less free inside marks. elim (cases_eq i n) [
    | inl last ↦ absurd (true≢false (sym is ∙ ap (λ j. exempt (unit_at rs j)) (sym last) ∙ free))
    | inr early ↦ before.needing i need (omega arith) free inside marks
  ];
}

-- the next request passes, and needs nothing that is barred
pub AreBarred-kept : (rs : List Record) (exempt test : ℕ → Bool) (n : ℕ) (units : List Bool) → AreBarred rs exempt test n units → test n ≡ true
    → list_any (λ need. marked units (unit_needed (unit_at rs) need)) (needs_at rs n) ≡ false → AreBarred rs exempt test (n + 1) units
AreBarred-kept rs exempt test n units before passes free = record {
  count = before.count;
  sound = before.sound;
  own = λ i less bound bad. elim (cases_eq i n) [
    | inl last ↦ absurd (true≢false (sym passes ∙ sym (ap test last) ∙ bad))
    | inr early ↦ before.own i (omega arith) bound bad
  ];
  needing = λ i need less bound inside is. elim (cases_eq i n) [
    | inl last ↦ absurd (true≢false (sym (at_n need (subst (λ k. Contains (needs_at rs k) need) last inside) is) ∙ free))
    | inr early ↦ before.needing i need (omega arith) bound inside is
  ];
}
  where
    at_n : (need : Need) → Contains (needs_at rs n) need → marked units (unit_needed (unit_at rs) need) ≡ true → list_any (λ need. marked units (unit_needed (unit_at rs) need)) (needs_at rs n) ≡ true
    at_n need inside is = list_any_at (λ need. marked units (unit_needed (unit_at rs) need)) (needs_at rs n) inside.0 need inside.1 (ap (λ x. marked units (unit_needed (unit_at rs) x)) inside.2 ∙ is)

-- the unit of the next request is barred
pub AreBarred-more : (rs : List Record) (exempt test : ℕ → Bool) (n : ℕ) (units : List Bool) → HasGoodNames rs → AreBarred rs exempt test n units → unit_at rs n < unit_count rs
    → IsBarred rs exempt test (unit_at rs n) → AreBarred rs exempt test (n + 1) (set units (unit_at rs n) true)
AreBarred-more rs exempt test n units good before within barred = record {
  count = length-set units (unit_at rs n) true ∙ before.count;
  sound = λ u is. elim (marked-cases units (unit_at rs n) u is) [ inl same ↦ subst (IsBarred rs exempt test) (sym same) barred | inr there ↦ before.sound u there ];
  own = λ i less bound bad. elim (cases_eq i n) [
    | inl last ↦ last_one i last
    | inr early ↦ marked-kept units (unit_at rs n) (unit_at rs i) inside (before.own i (omega arith) bound bad)
  ];
  needing = λ i need less bound needed is. elim (cases_eq i n) [
    | inl last ↦ last_one i last
    | inr early ↦ elim (marked-cases units (unit_at rs n) (unit_needed (unit_at rs) need) is) [
      | inl same ↦ same_unit i (let low : unit_needed (unit_at rs) need ≤ unit_at rs i = needed_before rs all i need needed in let high : unit_at rs i ≤ unit_at rs n = all.order i n (omega arith) in omega arith)
      | inr there ↦ marked-kept units (unit_at rs n) (unit_at rs i) inside (before.needing i need (omega arith) bound needed there)
    ]
  ];
}
  where
    all : HasNeedsBefore rs
    all = needs_before rs good

    inside : unit_at rs n < length units
    inside = omega (arith, before.count)

    same_unit : (i : ℕ) → unit_at rs i ≡ unit_at rs n → marked (set units (unit_at rs n) true) (unit_at rs i) ≡ true
    same_unit i same = subst (λ u. marked (set units (unit_at rs n) true) u ≡ true) (sym same) (marked-set units (unit_at rs n) inside)

    last_one : (i : ℕ) → i ≡ n → marked (set units (unit_at rs n) true) (unit_at rs i) ≡ true
    last_one i last = same_unit i (ap (unit_at rs) last)

-- a request that fails
pub barred-own : (rs : List Record) (exempt test : ℕ → Bool) (n : ℕ) → n < length rs → exempt (unit_at rs n) ≡ false → test n ≡ false → IsBarred rs exempt test (unit_at rs n)
barred-own rs exempt test n within bound bad = own n within bound bad

-- a request that needs something that is barred
pub barred-needing : (rs : List Record) (exempt test : ℕ → Bool) (n : ℕ) (units : List Bool) → AreBarred rs exempt test n units → n < length rs → exempt (unit_at rs n) ≡ false
    → list_any (λ need. marked units (unit_needed (unit_at rs) need)) (needs_at rs n) ≡ true → IsBarred rs exempt test (unit_at rs n)
barred-needing rs exempt test n units before within bound some =
    let found = Any-from_list_any (λ need. marked units (unit_needed (unit_at rs) need)) (needs_at rs n) some in
    needing n found.1 within bound (found.0, found.2, found.3) (before.sound (unit_needed (unit_at rs) found.1) found.4)

-- all units that are barred are marked
all_marked : (rs : List Record) (exempt test : ℕ → Bool) (units : List Bool) → AreBarred rs exempt test (length rs) units → (u : ℕ) → IsBarred rs exempt test u → marked units u ≡ true
all_marked rs exempt test units all u (own i within bound bad) = all.own i within bound bad
all_marked rs exempt test units all u (needing i need within bound inside barred) = all.needing i need within bound inside (all_marked rs exempt test units all (unit_needed (unit_at rs) need) barred)

pub AreBarred-all : (rs : List Record) (exempt test : ℕ → Bool) (units : List Bool) → AreBarred rs exempt test (length rs) units → AreMarksOf rs (IsBarred rs exempt test) units
AreBarred-all rs exempt test units all = record {
  count = all.count;
  each = λ u within. (all.sound u, all_marked rs exempt test units all u);
}

-- one mark more
pub listed_more : (n : ℕ) (mark : Bool) (test : ℕ → Bool) (marks : List Bool) → marks ≡ list_below n test → mark ≡ test n → marks ++ mark ∷ [] ≡ list_below (n + 1) test
listed_more n mark test marks before here =
    let next : suc n ≡ n + 1 = omega arith in
    ap (λ ms. ms ++ mark ∷ []) before ∙ ap (λ m. list_below n test ++ m ∷ []) here ∙ ap (λ m. list_below m test) next

-- the marks of the units of which all requests pass a test
pub passing_marks : (rs : List Record) (plan : PlanGraph) (test : ℕ → Bool) (units : List Bool) → IsPlanGraphOf rs plan → ArePassing plan test (length plan.units) units → AreMarksOf rs (IsWhole rs test) units
passing_marks rs plan test units same are = record {
  count = are.count ∙ same.unit_count;
  each = λ u known. (
    (λ is i less unit. are.passed u i is (omega (arith, less, same.size)) (same.units i less ∙ unit)),
    (λ whole. elim (cases_Bool (marked units u)) [
      | inl is ↦ is
      | inr is ↦
          let (i, inside, unit, fails) = are.failed u (omega (arith, known, same.unit_count)) is in
          let less : i < length rs = omega (arith, inside, same.size) in
          absurd (true≢false (sym (whole i less (sym (same.units i less) ∙ unit)) ∙ fails))
    ]),
  );
}

-- ---- units in the rest

-- the mark of what is neither
neither : (x y : Bool) → (not x && not y) ≡ true → (x ≡ false) × (y ≡ false)
neither true y is = absurd (false≢true is)
neither false true is = absurd (false≢true is)
neither false false is = (refl, refl)

both_false : (x y : Bool) → x ≡ false → y ≡ false → (not x && not y) ≡ true
both_false x y first second = ap (λ b. not b && not y) first ∙ ap not second

pub not_marked : (b : Bool) → (b ≡ true → ⊥) → b ≡ false
not_marked true never = absurd (never refl)
not_marked false never = refl

pub AreKept-all : (rs : List Record) (statuses : List ℕ) (done left units : List Bool) → AreMarksOf rs (IsDone rs statuses) done → AreMarksOf rs (IsLeftOut rs statuses) left → AreKept done left (unit_count rs) units
    → AreMarksOf rs (IsInRest rs statuses) units
AreKept-all rs statuses done left units are_done are_left kept = record {
  count = kept.count;
  each = λ u within. (
    (λ is. let both = neither (marked done u) (marked left u) (sym (kept.each u within) ∙ is) in record {
      known = within;
      not_done = λ all. true≢false (sym ((are_done.each u within).1 all) ∙ both.0);
      not_left_out = λ out. true≢false (sym ((are_left.each u within).1 out) ∙ both.1);
    }),
    (λ rest. kept.each u within ∙ both_false (marked done u) (marked left u)
        (not_marked (marked done u) (λ is. rest.not_done ((are_done.each u within).0 is)))
        (not_marked (marked left u) (λ is. rest.not_left_out ((are_left.each u within).0 is)))),
  );
}

-- one unit more
pub AreKept-more : (done left : List Bool) (n : ℕ) (units : List Bool) (mark : Bool) → AreKept done left n units → mark ≡ (not (marked done n) && not (marked left n)) → AreKept done left (n + 1) (units ++ mark ∷ [])
AreKept-more done left n units mark before is = record {
  count = length_push units mark ∙ ap (λ m. m + 1) before.count;
  each = λ u less. elim (cases_eq u n) [
    | inl last ↦ get_or_push units mark false u (omega (arith, before.count)) ∙ is ∙ ap (λ v. not (marked done v) && not (marked left v)) (sym last)
    | inr early ↦ get_or_append_left units (mark ∷ []) false u (omega (arith, before.count)) ∙ before.each u (omega arith)
  ];
}

-- ---- marks are one

same_marks : (rs : List Record) (P : ℕ → Type 0) (one other : List Bool) → AreMarksOf rs P one → AreMarksOf rs P other → (u : ℕ) → u < unit_count rs → marked one u ≡ marked other u
same_marks rs P one other are also u within = elim (cases_Bool (marked one u)) [
  | inl is ↦ is ∙ sym ((also.each u within).1 ((are.each u within).0 is))
  | inr none ↦ none ∙ sym (not_marked (marked other u) (λ is. true≢false (sym ((are.each u within).1 ((also.each u within).0 is)) ∙ none)))
]

-- marks of one property are one list
pub one_marks : (rs : List Record) (P : ℕ → Type 0) (one other : List Bool) → AreMarksOf rs P one → AreMarksOf rs P other → one ≡ other
one_marks rs P one other are also = same_lists one other (are.count ∙ sym also.count) (λ u d less.
    let within : u < length other = omega (arith, are.count, also.count) in
    get_or_default one u d false less ∙ same_marks rs P one other are also u (omega (arith, are.count)) ∙ get_or_default other u false d within)

-- The queue of a worklist through its steps.
use Rattle.std.proofs.Common.{◌≡◌, ◌≢◌, ℕ, ◌<◌, ◌≤◌, ◌+◌, ◌∙◌, sym, ap, refl, subst, arith, inl, inr, cond, List, length, get_or, set, Some, count_by}
use Rattle.std.proofs.lemmas.Bool.{cond-true, cond-false, cases_eq, cases_lt}
use Rattle.std.proofs.lemmas.List.{get_or_read, get_or_past, get_or-set_same, get_or-set_other, length-set}
use Rattle.odb_dense.specs.declared.worklist.Mark.{Mark}
use Rattle.odb_dense.specs.declared.worklist.Mark.TheVariants.{Unvisited, Queued, Visited}
use Rattle.odb_dense.specs.Marks.{is_marked, Takes}
use Rattle.std.proofs.lemmas.List.Sums.{count_by-le-length}
use Rattle.odb_dense.specs.Queue.{AreQueued}
use Rattle.odb_dense.proofs.CountLemmas.{count_set, count_below}

unvisited≢queued : Unvisited ≢ Queued
unvisited≢queued e = cc

visited≢queued : Visited ≢ Queued
visited≢queued e = cc

-- a number that was never on the list leaves room for one more
pub has_room : (marks : List Mark) (queue : List ℕ) (head tail u : ℕ) → AreQueued marks queue head tail → u < length marks → get_or marks u Unvisited ≡ Unvisited → tail < length queue
has_room marks queue head tail u kept within unvisited =
    let less : count_by is_marked marks < length marks = count_below is_marked marks u Queued Unvisited within (ap is_marked unvisited) refl in
    let room = kept.room in
    let counted = kept.counted in
    omega arith

-- a number that was never on the list is put at its end
pub queued_more : (marks : List Mark) (queue : List ℕ) (head tail u : ℕ) → AreQueued marks queue head tail → u < length marks → get_or marks u Unvisited ≡ Unvisited → AreQueued (set marks u Queued) (set queue tail u) head (tail + 1)
queued_more marks queue head tail u kept within unvisited =
    let more : tail < length queue = has_room marks queue head tail u kept within unvisited in
    let room = kept.room in
    let order = kept.order in
    let counted = kept.counted in
    let change : count_by is_marked (set marks u Queued) + cond {A = ℕ} (is_marked (get_or marks u Unvisited)) 1 0 ≡ count_by is_marked marks + 1 = count_set is_marked marks u Queued Unvisited within in
    let none : cond {A = ℕ} (is_marked (get_or marks u Unvisited)) 1 0 ≡ 0 = cond-false (is_marked (get_or marks u Unvisited)) 1 0 (ap is_marked unvisited) in
    let as_many : length (set marks u Queued) ≡ length marks = length-set marks u Queued in
    let as_long : length (set queue tail u) ≡ length queue = length-set queue tail u in
    record {
      room = omega arith;
      order = omega arith;
      counted = omega arith;
      placed = λ v at. elim (cases_eq v u) [
        | inl here ↦ (tail, order, omega arith, get_or-set_same queue tail u 0 more ∙ sym here)
        | inr other ↦ former v (kept.placed v (sym (get_or-set_other marks u v Queued Unvisited other) ∙ at))
      ];
      queued = λ k from below. elim (cases_eq k tail) [
        | inl here ↦ subst (λ m. get_or (set marks u Queued) (get_or (set queue tail u) m 0) Unvisited ≡ Queued) (sym here) (ap (λ x. get_or (set marks u Queued) x Unvisited) (get_or-set_same queue tail u 0 more) ∙ get_or-set_same marks u Queued Unvisited within)
        | inr other ↦ ap (λ x. get_or (set marks u Queued) x Unvisited) (get_or-set_other queue tail k u 0 other) ∙ (get_or-set_other marks u (get_or queue k 0) Queued Unvisited (elsewhere k from (omega arith)) ∙ kept.queued k from (omega arith))
      ];
      apart = λ j k from less below. elim (cases_eq k tail) [
        | inl here ↦ λ e. elsewhere j from (omega arith) (sym (get_or-set_other queue tail j u 0 (omega arith)) ∙ (e ∙ (ap (λ m. get_or (set queue tail u) m 0) here ∙ get_or-set_same queue tail u 0 more)))
        | inr other ↦ λ e. kept.apart j k from less (omega arith) (sym (get_or-set_other queue tail j u 0 (omega arith)) ∙ (e ∙ get_or-set_other queue tail k u 0 other))
      ];
    }
  where
    elsewhere : (k : ℕ) → head ≤ k → k < tail → get_or queue k 0 ≢ u
    elsewhere k from below e = unvisited≢queued (sym unvisited ∙ (ap (λ x. get_or marks x Unvisited) (sym e) ∙ kept.queued k from below))

    former : (v : ℕ) → (k : ℕ) × (head ≤ k) × (k < tail) × (get_or queue k 0 ≡ v) → (k : ℕ) × (head ≤ k) × (k < tail + 1) × (get_or (set queue tail u) k 0 ≡ v)
    former v (k, from, below, is) = (k, from, omega arith, get_or-set_other queue tail k u 0 (omega arith) ∙ is)

-- the number at the head of the queue is marked as queued
pub first_queued : (marks : List Mark) (queue : List ℕ) (head tail u : ℕ) → AreQueued marks queue head tail → head < tail → tail ≤ length queue → u ≡ get_or queue head u → get_or marks u Unvisited ≡ Queued
first_queued marks queue head tail u kept some few read =
    ap (λ x. get_or marks x Unvisited) (get_or_read queue head u (omega arith) read 0) ∙ kept.queued head (omega arith) some

pub tail_within : (marks : List Mark) (queue : List ℕ) (head tail : ℕ) → AreQueued marks queue head tail → tail ≤ length queue
tail_within marks queue head tail kept =
    let room = kept.room in
    let counted = kept.counted in
    omega (arith, count_by-le-length is_marked marks)

queued_within : (marks : List Mark) (u : ℕ) → get_or marks u Unvisited ≡ Queued → u < length marks
queued_within marks u at = elim (cases_lt u (length marks)) [
  | inl within ↦ within
  | inr past ↦ absurd (unvisited≢queued (sym (get_or_past marks u Unvisited past) ∙ at))
]

pub first_within : (marks : List Mark) (queue : List ℕ) (head tail u : ℕ) → AreQueued marks queue head tail → head < tail → u ≡ get_or queue head u → u < length marks
first_within marks queue head tail u kept some read = queued_within marks u (first_queued marks queue head tail u kept some (tail_within marks queue head tail kept) read)

-- the number at the head of the queue is taken from the list
pub queued_less : (marks : List Mark) (queue : List ℕ) (head tail u : ℕ) → AreQueued marks queue head tail → head < tail → u ≡ get_or queue head u → AreQueued (set marks u Visited) queue (head + 1) tail
queued_less marks queue head tail u kept some read =
    let few : tail ≤ length queue = tail_within marks queue head tail kept in
    let at : get_or marks u Unvisited ≡ Queued = first_queued marks queue head tail u kept some few read in
    let within : u < length marks = queued_within marks u at in
    let is : u ≡ get_or queue head 0 = get_or_read queue head u (omega arith) read 0 in
    let room = kept.room in
    let counted = kept.counted in
    let change : count_by is_marked (set marks u Visited) + cond {A = ℕ} (is_marked (get_or marks u Unvisited)) 1 0 ≡ count_by is_marked marks + 1 = count_set is_marked marks u Visited Unvisited within in
    let was : cond {A = ℕ} (is_marked (get_or marks u Unvisited)) 1 0 ≡ 1 = cond-true (is_marked (get_or marks u Unvisited)) 1 0 (ap is_marked at) in
    let as_many : length (set marks u Visited) ≡ length marks = length-set marks u Visited in
    record {
      room = omega arith;
      order = omega arith;
      counted = omega arith;
      placed = λ v now. elim (cases_eq v u) [
        | inl here ↦ absurd (visited≢queued (sym (ap (λ x. get_or (set marks u Visited) x Unvisited) here ∙ get_or-set_same marks u Visited Unvisited within) ∙ now))
        | inr other ↦ later v other is (kept.placed v (sym (get_or-set_other marks u v Visited Unvisited other) ∙ now))
      ];
      queued = λ k from below. get_or-set_other marks u (get_or queue k 0) Visited Unvisited (λ e. kept.apart head k (omega arith) (omega arith) below (sym is ∙ sym e)) ∙ kept.queued k (omega arith) below;
      apart = λ j k from less below. kept.apart j k (omega arith) less below;
    }
  where
    later : (v : ℕ) → v ≢ u → u ≡ get_or queue head 0 → (k : ℕ) × (head ≤ k) × (k < tail) × (get_or queue k 0 ≡ v) → (k : ℕ) × (head + 1 ≤ k) × (k < tail) × (get_or queue k 0 ≡ v)
    later v other is (k, from, below, same) =
        let next : k ≢ head = λ e. other (sym same ∙ (ap (λ m. get_or queue m 0) e ∙ sym is)) in
        (k, omega arith, below, same)

-- what is taken, as the contract says it
pub takes_first : (marks : List Mark) (queue : List ℕ) (head tail u : ℕ) → AreQueued marks queue head tail → head < tail → u ≡ get_or queue head u → Takes marks (Some u) (set marks u Visited)
takes_first marks queue head tail u kept some read =
    (first_within marks queue head tail u kept some read, first_queued marks queue head tail u kept some (tail_within marks queue head tail kept) read, refl)

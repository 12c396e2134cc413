-- The events that were taken are a prefix of the list, and all of it at the end.
use Rattle.std.proofs.Common.{refl, ◌≡◌, ◌∙◌, sym, ap, arith, rules, length, Err}
use Rattle.std.proofs.lemmas.List.{nil_from_length}
use Rattle.std.specs.Iterator.Adapters.{enumerate_source, enumerate_count}
use Rattle.std.specs.Vec.Iter.{into_iter_items, into_iter_len}
use Rattle.odb_sched.proofs.TakenLemmas.{taken_none, taken_as, next_within, taken_more, taken_all, taken_refused, refuses_there}
use Rattle.odb_sched.proofs.scheduler.Scheduler.take_all.Goals as goal

pub loop-at-init : goal.loop-at-init
loop-at-init c =
    let given : c.into_iter-at-iterator.result ≡ c.enumerate-at-items.result = c.into_iter-at-iterator.ensures.into_iter_gives in
    let source : enumerate_source c.into_iter-at-iterator.result ≡ c.into_iter.result = ap enumerate_source given ∙ c.enumerate-at-items.ensures.source in
    let items : into_iter_items (enumerate_source c.into_iter-at-iterator.result) ≡ c.args.events.items = ap into_iter_items source ∙ c.into_iter.ensures.rest in
    let count : enumerate_count c.into_iter-at-iterator.result ≡ 0 = ap enumerate_count given ∙ c.enumerate-at-items.ensures.count in
    let len : into_iter_len (enumerate_source c.into_iter-at-iterator.result) ≡ c.args.events.len = ap into_iter_len source ∙ c.into_iter.ensures.len in
    record {
      next = search rules;
      ends = tt;
      left = len ∙ c.args.events.ok.0 ∙ ap length (sym items);
      taken = rw (items, count) (taken_none _ _);
    }

pub take-requires : goal.take-requires
take-requires c =
    let first = c.args.self.now in
    let count = enumerate_count c.loop-at.at-iterator in
    let later = into_iter_items (enumerate_source c.next.new.self) in
    next_within first c.args.events.items c.in-Some.event later count c.loop-at.self
    c.requires
    (taken_as first c.args.events.items _ _ count count c.loop-at.self c.in-Some.ensures.steps.0.0 refl c.loop-at.invariant.taken)

pub loop-at-preserved : goal.loop-at-preserved
loop-at-preserved c =
    let first = c.args.self.now in
    let count = enumerate_count c.loop-at.at-iterator in
    let later = into_iter_items (enumerate_source c.next.new.self) in
    let taken = taken_as first c.args.events.items _ _ count count c.loop-at.self c.in-Some.ensures.steps.0.0 refl c.loop-at.invariant.taken in
    let within = next_within first c.args.events.items c.in-Some.event later count c.loop-at.self c.requires taken in
    record {
      next = search rules;
      ends = tt;
      left = let fewer = c.in-Some.ensures.steps.0.1 in let short = ap length c.in-Some.ensures.steps.0.0 in let was = c.loop-at.invariant.left in omega arith;
      taken = taken_as first c.args.events.items later later _ _ c.take.new.scheduler refl (sym c.in-Some.ensures.steps.2)
          (taken_more first c.args.events.items c.in-Some.event later count c.loop-at.self c.take.new.scheduler taken within c.in_ok-take.ensures.allowed c.in_ok-take.ensures.state);
    }

pub returns-in_err-take-clause-taken : goal.returns-in_err-take-clause-taken
returns-in_err-take-clause-taken c =
    let first = c.args.self.now in
    let count = enumerate_count c.loop-at.at-iterator in
    let later = into_iter_items (enumerate_source c.next.new.self) in
    let taken = taken_as first c.args.events.items _ _ count count c.loop-at.self c.in-Some.ensures.steps.0.0 refl c.loop-at.invariant.taken in
    let stopped = taken_refused first c.args.events.items c.in-Some.event later c.in-Some.at count c.loop-at.self c.in_err-take.field-0.0 taken c.in-Some.ensures.steps.1 c.in_err-take.ensures.refused in
    let same : c.from_residual.result ≡ Err c.in_err-take.field-0.0 = search rules in
    rw (same, c.in_err-take.ensures.err) stopped

pub returns-in_err-take-clause-refused : goal.returns-in_err-take-clause-refused
returns-in_err-take-clause-refused c =
    let first = c.args.self.now in
    let count = enumerate_count c.loop-at.at-iterator in
    let later = into_iter_items (enumerate_source c.next.new.self) in
    let taken = taken_as first c.args.events.items _ _ count count c.loop-at.self c.in-Some.ensures.steps.0.0 refl c.loop-at.invariant.taken in
    let stopped = taken_refused first c.args.events.items c.in-Some.event later c.in-Some.at count c.loop-at.self c.in_err-take.field-0.0 taken c.in-Some.ensures.steps.1 c.in_err-take.ensures.refused in
    let refused = refuses_there first c.args.events.items c.in_err-take.field-0.0 stopped.stops in
    search (rules, refused)

pub returns-clause-run : goal.returns-clause-run
returns-clause-run c =
    let count = enumerate_count c.loop-at.at-iterator in
    (taken_all c.args.self.now c.args.events.items count c.loop-at.self
    (taken_as c.args.self.now c.args.events.items _ _ count count c.loop-at.self (nil_from_length _ (sym c.loop-at.invariant.left ∙ c.in-None.ensures.steps.0.0)) refl c.loop-at.invariant.taken)).0

pub returns-clause-state : goal.returns-clause-state
returns-clause-state c =
    let count = enumerate_count c.loop-at.at-iterator in
    (taken_all c.args.self.now c.args.events.items count c.loop-at.self
    (taken_as c.args.self.now c.args.events.items _ _ count count c.loop-at.self (nil_from_length _ (sym c.loop-at.invariant.left ∙ c.in-None.ensures.steps.0.0)) refl c.loop-at.invariant.taken)).1

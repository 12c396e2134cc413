use Rattle.std.proofs.Common.{◌∙◌, ◌∷◌, ◌++◌, [], refl, ap, sym, append_assoc, append-nil, length, arith, rules}
use Rattle.std.proofs.lemmas.Map.Iter.{rest_more, rest_all}
use Rattle.odb_doc.specs.BrokenRules.{OnlyIf}
use Rattle.odb_doc.specs.HeaderMaps.{AreHeaders, Entry}
use Rattle.odb_doc.proofs.HeaderLemmas.{HoldsMembers-none, OnlyIf-weaker}
use Rattle.odb_doc.proofs.headers.moved_headers.Goals as goal

pub loop-name-init : goal.loop-name-init
loop-name-init g c = record {
  split = search rules;
  holds = HoldsMembers-none c.new-headers.result c.new-headers.ensures.empty;
}

pub loop-name-preserved : goal.loop-name-preserved
loop-name-preserved g c =
    let entry : Entry = (c.in-Some.name, c.in-Some.value) in
    let first = rest_more (λ (e : Entry). e) c.loop-name.name-iterator c.next.new.self c.next.result entry c.in-Some.is c.next.ensures.steps in
    record {
      split = c.loop-name.invariant.split ∙ ap (λ rest. c.loop-name.yielded ++ rest) first ∙ sym (append_assoc c.loop-name.yielded (entry ∷ []) c.next.new.self);
      holds = c.in_ok-put.ensures.added c.loop-name.yielded entry refl refl c.loop-name.invariant.holds;
    }

pub loop-name-smaller : goal.loop-name-smaller
loop-name-smaller g c =
    let entry : Entry = (c.in-Some.name, c.in-Some.value) in
    let first = rest_more (λ (e : Entry). e) c.loop-name.name-iterator c.next.new.self c.next.result entry c.in-Some.is c.next.ensures.steps in
    omega (arith, ap length first)

pub returns-in_err-put-clause-none : goal.returns-in_err-put-clause-none
returns-in_err-put-clause-none g c =
    let entry : Entry = (c.in-Some.name, c.in-Some.value) in
    let first = rest_more (λ (e : Entry). e) c.loop-name.name-iterator c.next.new.self c.next.result entry c.in-Some.is c.next.ensures.steps in
    let split = c.loop-name.invariant.split ∙ ap (λ rest. c.loop-name.yielded ++ rest) first in
    let fails : OnlyIf c.args.bad (¬ AreHeaders c.args.members.entries) c.in_err-put.field-0.0 =
    OnlyIf-weaker c.args.bad _ (¬ AreHeaders c.args.members.entries) c.in_err-put.field-0.0 (λ refuses. rw split (refuses c.loop-name.yielded c.next.new.self entry refl refl c.loop-name.invariant.holds)) c.in_err-put.ensures.refused in
    search (rules, fails)

pub returns : goal.returns
returns g c =
    let end = rest_all (λ (e : Entry). e) c.loop-name.name-iterator c.next.new.self c.next.result c.in-None.is c.next.ensures.steps in
    let split = c.loop-name.invariant.split ∙ ap (λ rest. c.loop-name.yielded ++ rest) end ∙ append-nil c.loop-name.yielded in
    record { has = rw split c.loop-name.invariant.holds; none = tt }

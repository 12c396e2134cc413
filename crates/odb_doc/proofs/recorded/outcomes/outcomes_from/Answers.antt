use Rattle.std.proofs.Common.{MutBor, ◌≡◌, ◌==◌, false, bytes_eq, ◌∙◌, ◌∷◌, ◌++◌, [], length, map, ap, sym, append_assoc, rules, arith}
use Rattle.std.specs.List.{IsDistinct, list_any}
use Rattle.std.specs.Map.{keys_of}
use Rattle.std.specs.Slice.Iter.{iter_mut_rest}
use Rattle.std.proofs.lemmas.List.{length-append, length-map, map-append}
use Rattle.std.proofs.lemmas.Cmp.{nat_list_eq_equiv}
use Rattle.std.proofs.lemmas.List.Elements.{All-push}
use Rattle.std.proofs.lemmas.Map.Keys.{IsDistinct-push}
use Rattle.std.proofs.lemmas.Option.{MatchOption-at_some}
use Rattle.serde_json.specs.View.{view}
use Rattle.serde_json.specs.declared.value.Value.{Value}
use Rattle.odb_doc.specs.BrokenRules.{OnPlace, broken_at}
use Rattle.odb_doc.specs.recorded.LeastOutcomeFault.{IsLeastOutcomeRule}
use Rattle.odb_doc.specs.recorded.OutcomeFaults.{rule_number}
use Rattle.odb_doc.specs.recorded.Outcomes.{Recorded, ReadsAs, IsWellFormedOutcome, ids, recorded}
use Rattle.odb_doc.specs.recorded.RawOutcomes.{Repeats}
use Rattle.odb_doc.proofs.LeastLemmas.{AreRead-none, AreRead-more, first_broken}
use Rattle.odb_doc.proofs.OutcomeListLemmas.{Breaks, ids-says, keys_of-push, repeats_here, within_more}
use Rattle.odb_doc.proofs.recorded.outcomes.outcomes_from.Goals as goal

pub loop-element-init : goal.loop-element-init
unfolding IsDistinct
loop-element-init c = record {
  split = search rules;
  first = search rules;
  within = rw c.in_ok-entries.ensures.items (omega arith);
  read = rw c.in_ok-entries.ensures.items (AreRead-none rule_number Breaks ReadsAs);
  apart = rw c.in_ok-entries.ensures.items tt;
  fit = rw c.in_ok-entries.ensures.items (λ k d less. absurd (omega arith));
}

pub returns-in-Err-clause-first : goal.returns-in-Err-clause-first
returns-in-Err-clause-first c =
    let entries = map recorded c.loop-element.entries.items in
    let yielded = map (λ (y : MutBor Value). y.now) c.loop-element.yielded in
    let element = c.in-Some.element.now in
    let done = map view yielded in
    let d = view element in
    let rest = map view (iter_mut_rest c.next.new.self) in
    let first = MatchOption-at_some _ _ _ c.in-Some.is c.next.ensures.steps in
    let whole : map view c.args.elements.now.items ≡ done ++ d ∷ rest =
    ap (map view) (c.loop-element.invariant.split ∙ ap (λ others. yielded ++ others) first) ∙ map-append view yielded (element ∷ iter_mut_rest c.next.new.self) in
    let counted : c.len-in-Err.result ≡ length c.loop-element.entries.items = search rules in
    let place : c.len-in-Err.result ≡ length entries = counted ∙ sym (length-map c.loop-element.entries.items recorded) in
    let count : c.len-in-loop-element.result ≡ length c.loop-element.entries.items = search rules in
    let long : c.len-in-loop-element.result ≡ length (ids done) =
    count ∙ sym (length-map c.loop-element.entries.items recorded) ∙ sym (length-map entries (λ (e : Recorded). e.0)) ∙ ap length (sym (ids-says done entries c.loop-element.invariant.read.says)) in
    let repeats : Repeats (c.len-in-loop-element.result == c.in_ok-repeat.repeat) (ids done) d =
    repeats_here (map view c.args.elements.now.items) done rest d c.in_ok-repeat.repeat c.len-in-loop-element.result whole c.loop-element.invariant.first long (rw count c.loop-element.invariant.within) in
    let rule = c.in-Err.ensures.first (ids done) repeats in
    let fails : OnPlace (IsLeastOutcomeRule (map view c.args.elements.now.items)) (broken_at c.len-in-Err.result c.in-Err.broken) =
    rw whole (first_broken rule_number Breaks ReadsAs done entries d rest c.len-in-Err.result c.in-Err.broken c.loop-element.invariant.read place rule) in
    search (rules, fails)

pub loop-element-preserved : goal.loop-element-preserved
loop-element-preserved c =
    let entry = recorded c.in-Ok.entry in
    let entries = map recorded c.loop-element.entries.items in
    let yielded = map (λ (y : MutBor Value). y.now) c.loop-element.yielded in
    let element = c.in-Some.element.now in
    let done = map view yielded in
    let d = view element in
    let rest = map view (iter_mut_rest c.next.new.self) in
    let first = MatchOption-at_some _ _ _ c.in-Some.is c.next.ensures.steps in
    let whole : map view c.args.elements.now.items ≡ done ++ d ∷ rest =
    ap (map view) (c.loop-element.invariant.split ∙ ap (λ others. yielded ++ others) first) ∙ map-append view yielded (element ∷ iter_mut_rest c.next.new.self) in
    let more : map recorded c.push.new.self.items ≡ entries ++ entry ∷ [] =
    ap (map recorded) c.in_ok-push-in-Ok.ensures.items ∙ map-append recorded c.loop-element.entries.items (c.in-Ok.entry ∷ []) in
    let count : c.len-in-loop-element.result ≡ length c.loop-element.entries.items = search rules in
    let long : c.len-in-loop-element.result ≡ length (ids done) =
    count ∙ sym (length-map c.loop-element.entries.items recorded) ∙ sym (length-map entries (λ (e : Recorded). e.0)) ∙ ap length (sym (ids-says done entries c.loop-element.invariant.read.says)) in
    let repeats : Repeats (c.len-in-loop-element.result == c.in_ok-repeat.repeat) (ids done) d =
    repeats_here (map view c.args.elements.now.items) done rest d c.in_ok-repeat.repeat c.len-in-loop-element.result whole c.loop-element.invariant.first long (rw count c.loop-element.invariant.within) in
    let none : list_any (bytes_eq entry.0) (keys_of entries) ≡ false =
    rw (← ids-says done entries c.loop-element.invariant.read.says) (repeats entry.0 c.in-Ok.ensures.says.id ∙ c.in-Ok.ensures.is_new) in
    let read = AreRead-more rule_number Breaks ReadsAs done entries d entry c.loop-element.invariant.read (c.in-Ok.ensures.unbroken (ids done) repeats) c.in-Ok.ensures.says in
    let grown : map (λ (y : MutBor Value). y.now) (c.loop-element.yielded ++ c.in-Some.element ∷ []) ≡ yielded ++ element ∷ [] =
    map-append (λ (y : MutBor Value). y.now) c.loop-element.yielded (c.in-Some.element ∷ []) in
    record {
      split = c.loop-element.invariant.split ∙ ap (λ others. yielded ++ others) first ∙ sym (append_assoc yielded (element ∷ []) (iter_mut_rest c.next.new.self)) ∙ sym (ap (λ front. front ++ iter_mut_rest c.next.new.self) grown);
      first = c.loop-element.invariant.first;
      within = rw c.in_ok-push-in-Ok.ensures.items (omega (arith, length-append c.loop-element.entries.items (c.in-Ok.entry ∷ []), within_more c.len-in-loop-element.result c.in_ok-repeat.repeat (rw count c.loop-element.invariant.within) c.in-Ok.ensures.is_new, count));
      read = rw (grown, more, map-append view yielded (element ∷ [])) read;
      apart = rw (more, keys_of-push entries entry) (IsDistinct-push nat_list_eq_equiv (keys_of entries) entry.0 c.loop-element.invariant.apart none);
      fit = rw more (All-push IsWellFormedOutcome entries entry c.loop-element.invariant.fit c.in-Ok.ensures.well_formed);
    }

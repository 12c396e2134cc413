use Rattle.std.proofs.Common.{MutBor, ◌≡◌, ◌∙◌, ◌∷◌, ◌++◌, [], length, map, ap, sym, append_assoc, rules, arith}
use Rattle.std.specs.Slice.Iter.{iter_mut_rest}
use Rattle.std.proofs.lemmas.List.{length-map, map-append}
use Rattle.std.proofs.lemmas.List.Elements.{All-push}
use Rattle.std.proofs.lemmas.Option.{MatchOption-at_some}
use Rattle.serde_json.specs.View.{view}
use Rattle.serde_json.specs.declared.value.Value.{Value}
use Rattle.odb_doc.specs.BrokenRules.{OnPlace, broken_at}
use Rattle.odb_doc.specs.recorded.EventFaults.{rule_number}
use Rattle.odb_doc.specs.recorded.Events.{ReadsAs, IsWellFormedEvent, event_value}
use Rattle.odb_doc.specs.recorded.LeastEventFault.{IsLeastEventRule}
use Rattle.odb_doc.proofs.EventLemmas.{Breaks}
use Rattle.odb_doc.proofs.LeastLemmas.{AreRead-none, AreRead-more, first_broken}
use Rattle.odb_doc.proofs.recorded.events.events_from.Goals as goal

pub loop-element-init : goal.loop-element-init
loop-element-init c = record {
  split = search rules;
  read = rw c.in_ok-entries.ensures.items (AreRead-none rule_number Breaks ReadsAs);
  fit = rw c.in_ok-entries.ensures.items (λ k d less. absurd (omega arith));
}

pub returns-in-Err-clause-first : goal.returns-in-Err-clause-first
returns-in-Err-clause-first c =
    let yielded = map (λ (y : MutBor Value). y.now) c.loop-element.yielded in
    let element = c.in-Some.element.now in
    let done = map view yielded in
    let rest = map view (iter_mut_rest c.next.new.self) in
    let first = MatchOption-at_some _ _ _ c.in-Some.is c.next.ensures.steps in
    let whole : map view c.args.elements.now.items ≡ done ++ view element ∷ rest =
    ap (map view) (c.loop-element.invariant.split ∙ ap (λ others. yielded ++ others) first) ∙ map-append view yielded (element ∷ iter_mut_rest c.next.new.self) in
    let events = map event_value c.loop-element.entries.items in
    let counted : c.len-in-Err.result ≡ length c.loop-element.entries.items = search rules in
    let place : c.len-in-Err.result ≡ length events = counted ∙ sym (length-map c.loop-element.entries.items event_value) in
    let fails : OnPlace (IsLeastEventRule (map view c.args.elements.now.items)) (broken_at c.len-in-Err.result c.in-Err.broken) =
    rw whole (first_broken rule_number Breaks ReadsAs done events (view element) rest c.len-in-Err.result c.in-Err.broken c.loop-element.invariant.read place c.in-Err.ensures.first) in
    search (rules, fails)

pub loop-element-preserved : goal.loop-element-preserved
loop-element-preserved c =
    let event = event_value c.in-Ok.event in
    let events = map event_value c.loop-element.entries.items in
    let yielded = map (λ (y : MutBor Value). y.now) c.loop-element.yielded in
    let element = c.in-Some.element.now in
    let done = map view yielded in
    let first = MatchOption-at_some _ _ _ c.in-Some.is c.next.ensures.steps in
    let more : map event_value c.push.new.self.items ≡ events ++ event ∷ [] =
    ap (map event_value) c.in_ok-push-in-Ok.ensures.items ∙ map-append event_value c.loop-element.entries.items (c.in-Ok.event ∷ []) in
    let read = AreRead-more rule_number Breaks ReadsAs done events (view element) event c.loop-element.invariant.read c.in-Ok.ensures.unbroken c.in-Ok.ensures.says in
    let grown : map (λ (y : MutBor Value). y.now) (c.loop-element.yielded ++ c.in-Some.element ∷ []) ≡ yielded ++ element ∷ [] =
    map-append (λ (y : MutBor Value). y.now) c.loop-element.yielded (c.in-Some.element ∷ []) in
    record {
      split = c.loop-element.invariant.split ∙ ap (λ others. yielded ++ others) first ∙ sym (append_assoc yielded (element ∷ []) (iter_mut_rest c.next.new.self)) ∙ sym (ap (λ front. front ++ iter_mut_rest c.next.new.self) grown);
      read = rw (grown, more, map-append view yielded (element ∷ [])) read;
      fit = rw more (All-push IsWellFormedEvent events event c.loop-element.invariant.fit c.in-Ok.ensures.well_formed);
    }

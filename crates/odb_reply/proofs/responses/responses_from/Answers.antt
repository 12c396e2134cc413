use Rattle.std.proofs.Common.{◌≡◌, ◌∙◌, ◌<◌, ◌≤◌, length, get_or, map, ap, sym, subst, arith}
use Rattle.std.proofs.lemmas.List.{length-map, map-append, get_or-map}
use Rattle.serde_json.specs.View.{view}
use Rattle.odb_reply.specs.ResponseDocuments.{IsFirstBad, entry_of}
use Rattle.odb_reply.proofs.DocumentLemmas.{AreReadUpTo-none, AreReadUpTo-more, AreReadUpTo-good, AreReadUpTo-says, IsFirstBad-from}
use Rattle.odb_reply.proofs.responses.responses_from.Goals as goal

pub loop-at-init : goal.loop-at-init
loop-at-init c = rw c.in_ok-list.ensures.items (AreReadUpTo-none (map view c.args.elements.now))

pub loop-at-preserved : goal.loop-at-preserved
loop-at-preserved c =
    let vs = c.args.elements.now in
    let at = c.loop-at.at in
    let v = c.index-elements-at.result in
    let within : at < length (map view vs) = omega (arith, length-map vs view) in
    let is : get_or (map view vs) at (view v) ≡ view v = get_or-map view vs at v (view v) c.loop-at-test.true ∙ ap view (sym c.index-elements-at.is) in
    rw (c.in_ok-push-in-Ok.ensures.items, map-append entry_of c.loop-at.list.items) (
    AreReadUpTo-more (map view vs) (map entry_of c.loop-at.list.items) at (view v) (entry_of c.in-Ok.response) within is c.loop-at.invariant c.in-Ok.ensures.good c.in-Ok.ensures.says
    )

pub returns-in-Err-clause-first : goal.returns-in-Err-clause-first
returns-in-Err-clause-first c = λ d array same.
    let vs = c.args.elements.now in
    let at = c.loop-at.at in
    let v = c.index-elements-at.result in
    let within : at < length (map view vs) = omega (arith, length-map vs view) in
    let is : get_or (map view vs) at (view v) ≡ view v = get_or-map view vs at v (view v) c.loop-at-test.true ∙ ap view (sym c.index-elements-at.is) in
    (array, subst (λ ds. IsFirstBad ds at) (sym same) (IsFirstBad-from (map view vs) (map entry_of c.loop-at.list.items) at (view v) within is c.loop-at.invariant c.in-Err.ensures.rule))

pub returns-clause-good : goal.returns-clause-good
returns-clause-good c =
    let end : length (map view c.args.elements.now) ≤ c.loop-at.at = omega (arith, length-map c.args.elements.now view) in
    AreReadUpTo-good _ _ c.loop-at.at end c.loop-at.invariant

pub returns-clause-says : goal.returns-clause-says
returns-clause-says c =
    let end : length (map view c.args.elements.now) ≤ c.loop-at.at = omega (arith, length-map c.args.elements.now view) in
    AreReadUpTo-says _ _ c.loop-at.at end c.loop-at.invariant

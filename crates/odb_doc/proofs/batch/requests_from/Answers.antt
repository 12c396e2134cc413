use Rattle.std.proofs.Common.{◌≡◌, ◌<◌, ◌≤◌, ◌∙◌, ◌+◌, length, map, ap, sym, arith}
use Rattle.std.proofs.lemmas.List.{length-map, length_push, map-append, take_all}
use Rattle.serde_json.specs.View.{view}
use Rattle.odb_doc.specs.Faults.{request_number}
use Rattle.odb_doc.specs.batch.Records.{ReadsAs, record_of}
use Rattle.odb_doc.proofs.LeastLemmas.{AreRead-none}
use Rattle.odb_doc.proofs.RequestLemmas.{Breaks, AreReadUpTo-more, first_up_to, get_or-view}
use Rattle.odb_doc.proofs.batch.requests_from.Goals as goal

pub loop-at-init : goal.loop-at-init
loop-at-init c = record {
  read = rw c.in_ok-requests.ensures.items (AreRead-none request_number Breaks ReadsAs);
  count = ap length c.in_ok-requests.ensures.items;
}

pub returns-in-None-clause-first : goal.returns-in-None-clause-first
returns-in-None-clause-first c =
    let vs = c.args.elements.now in
    let at = c.loop-at.at in
    let v = c.index-elements-at.result in
    let rs = map record_of c.loop-at.requests.items in
    let within : at < length (map view vs) = omega (arith, length-map vs view) in
    let place : at ≡ length rs = sym (length-map c.loop-at.requests.items record_of ∙ c.loop-at.invariant.count) in
    first_up_to (map view vs) rs at (view v) c.fault_of.result within (get_or-view view vs at v c.loop-at-test.true c.index-elements-at.is) place c.loop-at.invariant.read c.fault_of.ensures

pub loop-at-preserved : goal.loop-at-preserved
loop-at-preserved c =
    let vs = c.args.elements.now in
    let at = c.loop-at.at in
    let v = c.index-elements-at.result in
    let r = c.in-Some.request in
    let within : at < length (map view vs) = omega (arith, length-map vs view) in
    record {
      read = rw (c.in_ok-push-in-Some.ensures.items, map-append record_of c.loop-at.requests.items)
          (AreReadUpTo-more (map view vs) (map record_of c.loop-at.requests.items) at (view v) (record_of r) within (get_or-view view vs at v c.loop-at-test.true c.index-elements-at.is) c.loop-at.invariant.read (rw c.in-Some.is at c.in_ok-request.ensures.object) (rw c.in-Some.is at c.in_ok-request.ensures.says));
      count = rw c.in_ok-push-in-Some.ensures.items (length_push c.loop-at.requests.items r ∙ ap (λ k. k + 1) c.loop-at.invariant.count);
    }

pub returns-clause-unbroken : goal.returns-clause-unbroken
returns-clause-unbroken c =
    let end : length (map view c.args.elements.now) ≤ c.loop-at.at = omega (arith, length-map c.args.elements.now view) in
    rw (take_all c.loop-at.at (map view c.args.elements.now) end) at c.loop-at.invariant.read.unbroken

pub returns-clause-says : goal.returns-clause-says
returns-clause-says c =
    let end : length (map view c.args.elements.now) ≤ c.loop-at.at = omega (arith, length-map c.args.elements.now view) in
    rw (take_all c.loop-at.at (map view c.args.elements.now) end) at c.loop-at.invariant.read.says

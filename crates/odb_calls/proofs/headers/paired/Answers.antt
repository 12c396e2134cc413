-- The headers one after another.
use Rattle.std.proofs.Common.{◌≡◌, ◌∙◌, ◌∷◌, ◌++◌, [], List, map, refl, ap, sym, append_assoc, append-nil, string_bytes, subst}
use Rattle.std.specs.List.{AllZip}
use Rattle.std.specs.Map.Iter.{deref_pair}
use Rattle.std.proofs.lemmas.Map.Iter.{rest_more, rest_all}
use Rattle.odb_doc.specs.Headers.{Header, header_of}
use Rattle.odb_calls.specs.Headers.{IsPair}
use Rattle.odb_calls.proofs.HeaderLemmas.{push-pair}
use Rattle.odb_calls.proofs.headers.paired.Goals as goal

pub loop-name-init : goal.loop-name-init
loop-name-init c = record {
  done = [];
  split = rw (c.into_iter-name-iterator.ensures.into_iter_gives, c.iter-name-items.ensures.rest) refl;
  each = rw c.in_ok-pairs.ensures.items tt;
}

pub loop-name-preserved : goal.loop-name-preserved
loop-name-preserved c =
    let done = c.loop-name.invariant.done in
    let header : Header = header_of (c.in-Some.name.now, c.in-Some.value.now) in
    let first = rest_more deref_pair c.loop-name.name-iterator c.next.new.self c.next.result (c.in-Some.name, c.in-Some.value) c.in-Some.is c.next.ensures.steps in
    let texts : (c.as_str.result.now, c.as_str-in-loop-name.result.now) ≡ header = ap (λ n. (n, c.as_str-in-loop-name.result.now)) c.as_str.ensures.value ∙ ap (λ v. (string_bytes c.in-Some.name.now, v)) c.as_str-in-loop-name.ensures.value in
    let new = string_bytes c.push_header.new.text in
    let pair = c.in_ok-push_header.field-0 in
    record {
      done = done ++ header ∷ [];
      split = c.loop-name.invariant.split ∙ ap (λ rest. done ++ map header_of rest) first ∙ sym (append_assoc done (header ∷ []) (map header_of c.next.new.self));
      each =
          subst (AllZip (IsPair new) (done ++ header ∷ [])) (sym c.in_ok-push.ensures.items)
          (push-pair (string_bytes c.loop-name.text) _ new done c.loop-name.pairs.items header pair c.in_ok-push_header.ensures.text c.loop-name.invariant.each
          (subst (λ (h : Header). IsPair new h pair) texts c.in_ok-push_header.ensures.pair));
    }

pub returns : goal.returns
returns c =
    let end = rest_all deref_pair c.loop-name.name-iterator c.next.new.self c.next.result c.in-None.is c.next.ensures.steps in
    let all = c.loop-name.invariant.split ∙ ap (λ rest. c.loop-name.invariant.done ++ map header_of rest) end ∙ append-nil c.loop-name.invariant.done in
    subst (λ (headers : List Header). AllZip (IsPair (string_bytes c.loop-name.text)) headers c.loop-name.pairs.items) (sym all) c.loop-name.invariant.each

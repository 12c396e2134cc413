use Rattle.std.proofs.Common.{◌≡◌, ◌∙◌, ◌∷◌, ◌++◌, [], List, ℕ, Some, option_map, string_bytes, refl, ap, sym, append_assoc, append-nil, map}
use Rattle.std.specs.Map.Iter.{deref_pair}
use Rattle.std.proofs.lemmas.List.{map-append}
use Rattle.std.proofs.lemmas.Map.Iter.{rest_more, rest_all}
use Rattle.serde_json.specs.View.{members_view}
use Rattle.odb_doc.specs.HeaderMaps.{Entry, Lent, written}
use Rattle.odb_doc.specs.Headers.{text_members}
use Rattle.odb_doc.proofs.HeaderLemmas.{text_members-more, text_members-other}
use Rattle.odb_doc.proofs.batch.headers.texts_of.Goals as goal

pub loop-name-init : goal.loop-name-init
loop-name-init c = record {
  done = [];
  split = rw (c.into_iter-name-iterator.ensures.into_iter_gives, c.iter-name-items.ensures.rest) refl;
  are = rw c.in_ok-found.ensures.items refl;
}

pub loop-name-preserved : goal.loop-name-preserved
loop-name-preserved c =
    let entry : Entry = (c.in-Some.name.now, c.in-Some.value.now) in
    let done = c.loop-name.invariant.done in
    let first = rest_more deref_pair c.loop-name.name-iterator c.next.new.self c.next.result (c.in-Some.name, c.in-Some.value) c.in-Some.is c.next.ensures.steps in
    let headers = map written c.loop-name.found.items in
    let header : Lent = record { written = c.as_str-in-loop-name.result; value = c.in-Some-as_str.text } in
    let put : map written c.push.new.self.items ≡ headers ++ written header ∷ [] = ap (map written) c.in_ok-push.ensures.items ∙ map-append written c.loop-name.found.items (header ∷ []) in
    let name : written header ≡ (string_bytes c.in-Some.name.now, c.in-Some-as_str.text.now) = ap (λ n. (n, c.in-Some-as_str.text.now)) c.as_str-in-loop-name.ensures.value in
    let pushed = ap (option_map (λ (text : List ℕ). headers ++ (string_bytes c.in-Some.name.now, text) ∷ [])) (sym c.in-Some-as_str.ensures) ∙ ap Some (sym (put ∙ ap (λ h. headers ++ h ∷ []) name)) in
    record {
      done = done ++ entry ∷ [];
      split = c.loop-name.invariant.split ∙ ap (λ rest. done ++ rest) first ∙ sym (append_assoc done (entry ∷ []) c.next.new.self);
      are = text_members-more done entry headers (map written c.push.new.self.items) c.loop-name.invariant.are pushed;
    }

pub returns-in_default : goal.returns-in_default
returns-in_default c =
    let entry : Entry = (c.in-Some.name.now, c.in-Some.value.now) in
    let done = c.loop-name.invariant.done in
    let first = rest_more deref_pair c.loop-name.name-iterator c.next.new.self c.next.result (c.in-Some.name, c.in-Some.value) c.in-Some.is c.next.ensures.steps in
    let split = c.loop-name.invariant.split ∙ ap (λ rest. done ++ rest) first in
    sym (ap (λ es. text_members (members_view es)) split ∙ text_members-other done entry c.next.new.self (sym c.in_default.ensures))

pub returns : goal.returns
returns c =
    let end = rest_all deref_pair c.loop-name.name-iterator c.next.new.self c.next.result c.in-None.is c.next.ensures.steps in
    let split = c.loop-name.invariant.split ∙ ap (λ rest. c.loop-name.invariant.done ++ rest) end ∙ append-nil c.loop-name.invariant.done in
    sym (ap (λ es. text_members (members_view es)) split ∙ c.loop-name.invariant.are)

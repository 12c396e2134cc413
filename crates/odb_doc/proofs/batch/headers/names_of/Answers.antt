use Rattle.std.proofs.Common.{◌∙◌, ◌∷◌, ◌++◌, [], refl, ap, sym, append_assoc, append-nil, map}
use Rattle.std.specs.Map.Iter.{deref_pair}
use Rattle.std.specs.Str.{str_to_ascii_lowercase}
use Rattle.std.proofs.lemmas.Map.Iter.{rest_more, rest_all}
use Rattle.serde_json.specs.View.{members_view}
use Rattle.odb_doc.specs.HeaderMaps.{Entry}
use Rattle.odb_doc.specs.Members.{names_of}
use Rattle.odb_doc.proofs.LentLemmas.{names-more}
use Rattle.odb_doc.proofs.batch.headers.names_of.Goals as goal

pub loop-name-init : goal.loop-name-init
loop-name-init c = record {
  done = [];
  split = rw (c.into_iter-name-iterator.ensures.into_iter_gives, c.iter-name-items.ensures.rest) refl;
  are = rw c.in_ok-found.ensures.items refl;
}

pub loop-name-preserved : goal.loop-name-preserved
loop-name-preserved c =
    let entry : Entry = (c.in-Some.name.now, c.in-Some.field-0-1.now) in
    let done = c.loop-name.invariant.done in
    let found = c.loop-name.found.items in
    let first = rest_more deref_pair c.loop-name.name-iterator c.next.new.self c.next.result (c.in-Some.name, c.in-Some.field-0-1) c.in-Some.is c.next.ensures.steps in
    record {
      done = done ++ entry ∷ [];
      split = c.loop-name.invariant.split ∙ ap (λ rest. done ++ rest) first ∙ sym (append_assoc done (entry ∷ []) c.next.new.self);
      are = names-more done entry found c.push.new.self.items (record { written = c.as_str.result; value = _ }) c.in_ok-push.ensures.items c.as_str.ensures.value c.loop-name.invariant.are;
    }

pub returns : goal.returns
returns c =
    let end = rest_all deref_pair c.loop-name.name-iterator c.next.new.self c.next.result c.in-None.is c.next.ensures.steps in
    let split = c.loop-name.invariant.split ∙ ap (λ rest. c.loop-name.invariant.done ++ rest) end ∙ append-nil c.loop-name.invariant.done in
    c.loop-name.invariant.are ∙ ap (λ es. map str_to_ascii_lowercase (names_of (members_view es))) (sym split)

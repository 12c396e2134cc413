use Rattle.std.proofs.Common.{◌≡◌, ◌∙◌, ◌∷◌, ◌++◌, [], refl, ap, sym, subst, append_assoc, append-nil}
use Rattle.std.specs.List.Sorted.{IsStrictlySortedBy}
use Rattle.std.specs.Map.{keys_of}
use Rattle.std.specs.Map.Iter.{deref_pair}
use Rattle.std.specs.String.{string_cmp}
use Rattle.std.proofs.lemmas.Map.Iter.{rest_more, rest_all}
use Rattle.serde_json.specs.View.{view}
use Rattle.odb_doc.specs.HeaderMaps.{Entry}
use Rattle.odb_doc.specs.batch.MembersFound.{PutsMember}
use Rattle.odb_doc.proofs.FoundLemmas.{members_more}
use Rattle.odb_doc.proofs.batch.members.Members.among.Goals as goal

pub loop-name-init : goal.loop-name-init
loop-name-init c = record {
  done = [];
  split = rw (c.into_iter-name-iterator.ensures.into_iter_gives, c.iter-name-items.ensures.rest) refl;
  ordered = rw (c.into_iter-name-iterator.ensures.into_iter_gives, c.iter-name-items.ensures.rest) c.iter-name-items.ensures.ordered;
  found = c.none-found.ensures;
}

pub loop-name-preserved : goal.loop-name-preserved
loop-name-preserved c =
    let entry : Entry = (c.in-Some.name.now, c.in-Some.value.now) in
    let done = c.loop-name.invariant.done in
    let rest = c.next.new.self in
    let first : c.loop-name.name-iterator ≡ entry ∷ rest = rest_more deref_pair c.loop-name.name-iterator rest c.next.result (c.in-Some.name, c.in-Some.value) c.in-Some.is c.next.ensures.steps in
    let here : IsStrictlySortedBy string_cmp (keys_of (done ++ entry ∷ rest)) = rw (← first) c.loop-name.invariant.ordered in
    let put : PutsMember _ (view c.in-Some.value.now) c.loop-name.found c.put.new.self = rw c.as_str.ensures.value at c.put.ensures in
    record {
      done = done ++ entry ∷ [];
      split = c.loop-name.invariant.split ∙ ap (λ rest. done ++ rest) first ∙ sym (append_assoc done (entry ∷ []) rest);
      ordered = subst (λ es. IsStrictlySortedBy string_cmp (keys_of es)) (sym (append_assoc done (entry ∷ []) rest)) here;
      found = members_more done entry rest c.loop-name.found c.put.new.self here c.loop-name.invariant.found put;
    }

pub returns : goal.returns
returns c =
    let end = rest_all deref_pair c.loop-name.name-iterator c.next.new.self c.next.result c.in-None.is c.next.ensures.steps in
    let split = c.loop-name.invariant.split ∙ ap (λ rest. c.loop-name.invariant.done ++ rest) end ∙ append-nil c.loop-name.invariant.done in
    rw split c.loop-name.invariant.found

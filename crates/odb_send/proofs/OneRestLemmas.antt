-- The rest of a batch is one, and so is its text.
use Rattle.std.proofs.Common.{◌≡◌, ◌∙◌, ◌++◌, ◌<◌, ℕ, Bool, false, List, length, Option, Some, IsSome, inl, inr, codes, refl, ap, ap₂, sym, subst, arith}
use Rattle.std.specs.List.{AllZip}
use Rattle.std.proofs.lemmas.Bool.{cases_order, false≢true}
use Rattle.std.proofs.lemmas.List.{get_or_default, same_lists}
use Rattle.std.proofs.lemmas.Option.{same_Some}
use Rattle.serde_json.specs.Data.{Data}
use Rattle.odb_doc.specs.Documents.{IsJson}
use Rattle.odb_doc.specs.Members.{elements_at}
use Rattle.odb_doc.specs.batch.Records.{Record}
use Rattle.odb_doc.specs.declared.rule_fault.RuleFault.TheVariants as faults
use Rattle.odb_check.specs.Units.{referred_at}
use Rattle.odb_spans.specs.Spans.{EachSpan, HasMemberAt, IsPlaceOfMember}
use Rattle.odb_spans.specs.declared.span.Span.{Span}
use Rattle.odb_send.specs.declared.fault.RestRule.{RestRule}
use Rattle.odb_send.specs.declared.fault.RestRule.TheVariants.{NoETag, NoLocation}
use Rattle.odb_send.specs.declared.rest.Rest.{Rest}
use Rattle.odb_send.specs.Answers.{Answer}
use Rattle.odb_send.specs.Faults.{Breaks, RefusesRest, RestFault, rest_row}
use Rattle.odb_send.specs.Rests.{Change, HasChanges, IsChange, IsJoined, IsRestOf, IsTag, IsUrl, Moves, change_at, changes, is_kept, kept, select, tagged_at, unchanged}
use Rattle.odb_send.specs.Rests.IsTag.{replaced, stays}
use Rattle.odb_send.specs.Rests.IsUrl.{same, moved}
use Rattle.odb_send.specs.Texts.{IsTextOf, bodies_in, joined, text_of, text_of_request}
use Rattle.odb_send.specs.Units.{IsInRest}
use Rattle.odb_send.proofs.MarkLemmas.{one_marks}
use Rattle.odb_send.proofs.CutLemmas.{lacks_within}
use Rattle.odb_send.proofs.UrlLemmas.{breaks_lacks, has_change, one_joined, one_position}

-- ---- the change of each request

abbrev of-values : (url first second : Option (List ℕ)) → Change
of-values url first second = record { url = url; if_match = first; if_none_match = second }

module _ (rs : List Record) (kept : List Bool) (answers : ℕ → Answer) (i : ℕ) where
  one-moved : (url other : List ℕ) → Moves rs kept answers i url → Moves rs kept answers i other → url ≡ other
  one-moved url other one two =
      let position = one_position rs kept (referred_at rs) i one.position two.position one.leaves two.leaves in
      let request = same_Some one.request two.request (sym one.is ∙ two.is) in
      let location = same_Some one.location two.location (sym one.recorded ∙ ap (λ p. (answers p).location) position ∙ two.recorded) in
      one_joined two.location two.request.url url other (subst (λ l. IsJoined l two.request.url url) location (subst (λ (r : Record). IsJoined one.location r.url url) request one.joined)) two.joined

  one-url : (o p : Option (List ℕ)) → IsUrl rs kept answers i o → IsUrl rs kept answers i p → o ≡ p
  one-url _ _ (same none) (same other) = refl
  one-url _ _ (same none) (moved url moves) = absurd (none moves.position moves.leaves)
  one-url _ _ (moved url moves) (same none) = absurd (none moves.position moves.leaves)
  one-url _ _ (moved url moves) (moved other also) = ap Some (one-moved url other moves also)

  one-tag : (name : List ℕ) (o p : Option (List ℕ)) → IsTag rs kept answers name i o → IsTag rs kept answers name i p → o ≡ p
  one-tag name _ _ (stays none) (stays other) = refl
  one-tag name _ _ (stays none) (replaced p tag leaves is) = absurd (none p leaves)
  one-tag name _ _ (replaced p tag leaves is) (stays none) = absurd (none p leaves)
  one-tag name _ _ (replaced p tag leaves is) (replaced q other also there) =
      let position = one_position rs kept (tagged_at rs name) i p q leaves also in
      sym is ∙ ap (λ r. (answers r).etag) position ∙ there

  one-change : (change other : Change) → IsChange rs kept answers i change → IsChange rs kept answers i other → change ≡ other
  one-change change other one two =
      let url = one-url change.url other.url one.url two.url in
      let first = one-tag (codes "if-match") change.if_match other.if_match one.if_match two.if_match in
      let second = one-tag (codes "if-none-match") change.if_none_match other.if_none_match one.if_none_match two.if_none_match in
      ap (λ u. of-values u change.if_match change.if_none_match) url ∙ ap (λ t. of-values other.url t change.if_none_match) first ∙ ap (λ t. of-values other.url other.if_match t) second

one-changes : (rs : List Record) (kept : List Bool) (answers : ℕ → Answer) (changes others : List Change) → HasChanges rs kept answers changes → HasChanges rs kept answers others → changes ≡ others
one-changes rs kept answers changes others one two = same_lists changes others (one.count ∙ sym two.count) (λ i d less.
    let here : i < length rs = omega (arith, one.count, less) in
    let there : i < length others = omega (arith, two.count, here) in
    get_or_default changes i d unchanged less ∙ one-change rs kept answers i _ _ (one.each i here) (two.each i here) ∙ get_or_default others i unchanged d there)

-- ---- the rest

module _ (rs : List Record) (statuses : List ℕ) (answers : ℕ → Answer) (rest other : Rest) (one : IsRestOf rs statuses answers rest) (two : IsRestOf rs statuses answers other) where
  same-kept : kept rest ≡ kept other
  same-kept = one_marks rs (IsInRest rs statuses) (kept rest) (kept other) one.units two.units

  same-changes : changes rest ≡ changes other
  same-changes = one-changes rs (kept other) answers (changes rest) (changes other) (subst (λ k. HasChanges rs k answers (changes rest)) same-kept one.changes_are) two.changes_are

  same-text-of : (bodies : List (Option (List ℕ))) → text_of rs rest bodies ≡ text_of rs other bodies
  unfolding text_of
  same-text-of bodies = ap₂ (λ k u. codes "{\"requests\":[" ++ (joined false (select (is_kept rs k) (text_of_request rs k u bodies) 0 rs) ++ codes "]}")) same-kept same-changes

  -- the members of a name have one list of places
  abbrev IsOnePlace : Type 0
  IsOnePlace =
      (list name document : List ℕ) (d : Data) (spans others : List (Option Span)) → IsJson document d → AllZip (HasMemberAt name document) (elements_at list d) spans → EachSpan (IsPlaceOfMember list name document d) 0 spans
      → AllZip (HasMemberAt name document) (elements_at list d) others → EachSpan (IsPlaceOfMember list name document d) 0 others → spans ≡ others

  pub one-text : IsOnePlace → (document : List ℕ) (d : Data) (text different : List ℕ) → IsJson document d → IsTextOf document d rs rest text → IsTextOf document d rs other different → text ≡ different
  one-text law document d text different json is also =
      let spans = law (codes "requests") (codes "body") document d is.spans also.spans json is.bodies.values is.bodies.places also.bodies.values also.bodies.places in
      is.is ∙ same-text-of (bodies_in document is.spans) ∙ ap (λ s. text_of rs other (bodies_in document s)) spans ∙ sym also.is

-- ---- the first fault

-- a request breaks one rule
one-rule : (rule other : RestRule) (rs : List Record) (units : List Bool) (answers : ℕ → Answer) (i : ℕ) → Breaks rule rs units answers i → Breaks other rs units answers i → rule ≡ other
one-rule NoLocation NoLocation rs units answers i one two = refl
one-rule NoLocation NoETag rs units answers i one two = absurd (two.1 one)
one-rule NoETag NoLocation rs units answers i one two = absurd (one.1 two)
one-rule NoETag NoETag rs units answers i one two = refl

pub one-fault : (rs : List Record) (units : List Bool) (answers : ℕ → Answer) (fault other : RestFault) → IsSome (rest_row fault) → IsSome (rest_row other) → RefusesRest fault rs units answers → RefusesRest other rs units answers → fault ≡ other
one-fault rs units answers (faults.Broken at rule) (faults.Broken other second) numbered also one two =
    elim (cases_order at other) [
      | inl e ↦ ap₂ (λ n r. faults.Broken n r) e (one-rule rule second rs units answers other (subst (Breaks rule rs units answers) e one.0) two.0)
      | inr (inl less) ↦ absurd (two.1 at less (breaks_lacks rule rs units answers at one.0))
      | inr (inr more) ↦ absurd (one.1 other more (breaks_lacks second rs units answers other two.0))
    ]
one-fault rs units answers faults.OutOfMemory other numbered also one two = absurd (false≢true numbered)
one-fault rs units answers (faults.Broken at rule) faults.OutOfMemory numbered also one two = absurd (false≢true also)

pub no-fault : (rs : List Record) (statuses : List ℕ) (answers : ℕ → Answer) (rest : Rest) (fault : RestFault) → IsSome (rest_row fault) → RefusesRest fault rs (kept rest) answers → ¬ IsRestOf rs statuses answers rest
no-fault rs statuses answers rest (faults.Broken at rule) numbered refuses is =
    let lacks = breaks_lacks rule rs (kept rest) answers at refuses.0 in
    has_change rs (kept rest) answers at (change_at (changes rest) at) (is.changes_are.each at (lacks_within rs (kept rest) answers at lacks)) lacks
no-fault rs statuses answers rest faults.OutOfMemory numbered refuses is = false≢true numbered

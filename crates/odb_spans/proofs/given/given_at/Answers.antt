use Rattle.std.proofs.Common.{◌≡◌, ℕ, List, ◌++◌, get_or, Option, Some, None, refl, sym, subst}
use Rattle.std.proofs.lemmas.Bool.{true≢false}
use Rattle.json.specs.Token.{Token}
use Rattle.json.specs.Json as json
use Rattle.json.specs.Find.{get_member}
use Rattle.json.specs.Tree.{members_tokens}
use Rattle.std.specs.Prelude.{MatchOption}
use Rattle.odb_spans.specs.Parts.{HasMemberText, HasValue, IsSomeMemberOf, IsValueSpan, LiesAt, LiesAtSome, LiesInElementSome}
use Rattle.odb_spans.specs.declared.span.Span.{Span}
use Rattle.odb_spans.proofs.BracketLemmas.{object-at, object-byte}
use Rattle.odb_spans.proofs.PartLemmas.{value-within}
use Rattle.odb_spans.proofs.given.given_at.Goals as goal

no-object : (name text : List ℕ) (at : ℕ) (j : json.Json) (ts : List Token) → HasValue text at j ts → (get_or text at 0 ≡ 123 → ⊥) → HasMemberText name text j None
no-object name text at json.null ts v other = refl
no-object name text at (json.boolean b) ts v other = refl
no-object name text at (json.number s) ts v other = refl
no-object name text at (json.string s) ts v other = refl
no-object name text at (json.array js) ts v other = refl
no-object name text at (json.object ms) ts v other = absurd (other (object-byte text at ms ts v))

lies-in-element : (name text : List ℕ) (given found : Option Span) (o : Option json.Json) (ms : json.Members) (j : json.Json) (ts : List Token) → j ≡ json.object ms → MatchOption given (Unit {0}) (λ span. found ≡ Some span)
    → IsValueSpan text found o → IsSomeMemberOf name ms o None ts (LiesAtSome text found) → LiesInElementSome name text given j ts
lies-in-element name text None found o ms j ts object same is lies = tt
lies-in-element name text (Some span) None o ms j ts object same is lies = absurd (cc (same))
lies-in-element name text (Some span) (Some s) None ms j ts object same is lies = absurd (cc (is.1))
lies-in-element name text (Some span) (Some s) (Some value) ms j ts object same is lies =
    let one : s ≡ span = cc (same) in
    record {
      members = ms;
      object = object;
      value = value;
      member = record {
        earlier = lies.earlier;
        key = lies.key;
        later = lies.later;
        is = lies.is;
        named = lies.named;
        rest = lies.rest;
        holds = subst (λ x. LiesAt text x value (members_tokens lies.later ++ ts)) one lies.holds;
      };
    }

pub returns-then-not-has_byte-clause-gives : goal.returns-then-not-has_byte-clause-gives
returns-then-not-has_byte-clause-gives c =
    let text = c.args.document.now in
    record {
      bounds = tt;
      gives = λ j ts v. (let within = value-within text c.args.at j ts v in (no-object c.args.name.now text c.args.at j ts v (λ here. true≢false (sym (c.if-not-has_byte.ensures.1 (within, here)))), tt));
    }

pub returns-clause-gives : goal.returns-clause-gives
returns-clause-gives c =
    let text = c.args.document.now in
    let name = c.args.name.now in
    let found = c.in_ok-value.ensures in
    record {
      bounds = c.given.ensures.bounds _ found.bounds;
      gives = λ j ts v.
          (let object = object-at text c.args.at j ts v (c.if-not-has_byte.ensures.0 refl).1 in
          let value = found.finds object.inner ts object.has in (
            subst (λ i. HasMemberText name text i c.given.result) (sym object.is) (c.given.ensures.given (get_member name object.inner) value.0),
            lies-in-element name text c.given.result c.in_ok-value.value (get_member name object.inner) object.inner j ts object.is c.given.ensures.same value.0 value.1,
          ));
    }

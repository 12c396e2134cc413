-- The document with a literal in the place of an element is read with its value there, and the other elements as they were.
use Rattle.std.proofs.Common.{◌≡◌, ℕ, List, [], ◌++◌, take, Option, Some, None, subst, arith}
use Rattle.std.specs.Prelude.{IsUtf8}
use Rattle.json.specs.Json as json
use Rattle.json.specs.Lex.{between}
use Rattle.json.specs.Tree.{members_tokens}
use Rattle.serde_json.specs.Data.{Data}
use Rattle.odb_spans.specs.Parts.{HoldsInArray, IsMemberOf, LiesAt, LiesInMemberSome}
use Rattle.odb_spans.specs.Positions.{HoldsWith, IsPlaceOfElement}
use Rattle.odb_spans.specs.declared.span.Span.{Span}
use Rattle.odb_spans.proofs.ArrayLemmas.{has-item}
use Rattle.odb_spans.proofs.EndLemmas.{ends-solid}
use Rattle.odb_spans.proofs.FillLemmas.{Literal, begins-solid, begins-well-items, ends-within, null_literal, replaced-json, true_literal}
use Rattle.odb_spans.proofs.FrontLemmas.{lex-front}
use Rattle.odb_spans.proofs.ReadLemmas.{IsTreeOf}

module _ (text : List ℕ) (d : Data) (at : ℕ) (span : Span) (name : List ℕ) (ms : json.Members) (value : json.Json) (top : IsTreeOf text d) (is : top.tree ≡ json.object ms) (utf8 : IsUtf8 text)
    (m : IsMemberOf name ms value None [] (HoldsInArray (LiesAt text span) at)) where
  holds : (literal : Literal) → HoldsWith literal.word literal.value text d name at span
  holds literal =
      let has = has-item name at (LiesAt text span) top.tree d ms value top.shallow top.reads is m in
      let held = m.holds.holds in
      let one = has.with literal.tree literal.value literal.read (omega (arith, literal.flat)) in
      record {
        changed = one.changed;
        reads = replaced-json text d span held.item _ held.holds (begins-well-items held.later (members_tokens m.later ++ [])) utf8 has.fill has.around top has.is literal one.changed one.shallow one.reads;
        elements = one.elements;
      }

  is-place : IsPlaceOfElement text d name at span
  is-place =
      let held = m.holds.holds in
      let next = begins-well-items held.later (members_tokens m.later ++ []) in
      record {
        with_null = holds null_literal;
        with_true = holds true_literal;
        cut = λ more. lex-front between (take span.start text) more held.holds.clear;
        last = ends-solid text span.start span.end (begins-solid text d span held.item _ held.holds next utf8) held.holds.extent held.holds.some (ends-within text d span held.item _ held.holds next utf8);
      }

-- the span is where the element lies
pub is-element-place : (text : List ℕ) (d : Data) (at : ℕ) (span : Span) (name : List ℕ) (found : Option Span) (top : IsTreeOf text d) → IsUtf8 text → found ≡ Some span → LiesInMemberSome text found name at top.tree → IsPlaceOfElement text d name at span
is-element-place text d at span name None top utf8 same lies = absurd (cc (same))
is-element-place text d at span name (Some s) top utf8 same lies =
    let one : s ≡ span = cc (same) in
    subst (IsPlaceOfElement text d name at) one (is-place text d at s name lies.members lies.value top lies.object utf8 lies.member)

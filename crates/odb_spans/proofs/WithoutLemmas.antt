-- The document with a literal in the place of a member of an element is read with its value there, and the other members as they were.
use Rattle.std.proofs.Common.{◌≡◌, ◌∙◌, ℕ, ◌≤◌, List, [], ◌++◌, true, get_or, map, take, Some, None, option_map, bytes_eq, sym, ap, subst, arith}
use Rattle.std.specs.Prelude.{IsUtf8, set}
use Rattle.std.proofs.lemmas.List.{map-set}
use Rattle.json.specs.Lex.{between}
use Rattle.json.specs.Token.{Token}
use Rattle.json.specs.Json as json
use Rattle.json.specs.Find as tree
use Rattle.json.specs.Tree.{depth, items_tokens, members_tokens}
use Rattle.serde_json.specs.Data.{Data, no_members, object}
use Rattle.serde_json.specs.Read.{of_json, of_members}
use Rattle.odb_doc.specs.Members.{elements_at, given}
use Rattle.odb_spans.specs.Parts.{HoldsInArray, IsMemberOf, LiesAt, LiesInElement, append_members}
use Rattle.odb_spans.specs.Spans.{HasMemberWith, IsPlaceOfMember, member_of, members_of}
use Rattle.odb_spans.specs.declared.span.Span.{Span}
use Rattle.odb_spans.proofs.ArrayLemmas.{HasItem, has-item}
use Rattle.odb_spans.proofs.DataLemmas.{maps-to}
use Rattle.odb_spans.proofs.EndLemmas.{ends-solid, solid-byte}
use Rattle.odb_spans.proofs.FillLemmas.{Around, BeginsWell, Literal, alone, begins-solid, begins-well-members, ends-within, in-object, in_object, inside, last-member, members-changed, members-shallow, null_literal, read-last, replaced-json, true_literal}
use Rattle.odb_spans.proofs.FrontLemmas.{lex-front}
use Rattle.odb_spans.proofs.ReadLemmas.{IsTreeOf}

-- the element with a literal in the place of a member
record ElementWith (literal : Literal) (name : List ℕ) (earlier : json.Members) (k : List ℕ) (later : json.Members) : Type 0 where
  value : Data
  reads : of_json (in_object earlier k later literal.tree) ≡ Some value
  holds : member_of name value ≡ given (Some literal.value)

element-with : (literal : Literal) (name : List ℕ) (earlier : json.Members) (k : List ℕ) (j : json.Json) (later : json.Members) (d : Data) → bytes_eq k name ≡ true → tree.get_member name later ≡ None → of_json (in_object earlier k later j) ≡ Some d
    → ElementWith literal name earlier k later
element-with literal name earlier k j later d named last reads =
    let h = maps-to object (of_members (append_members earlier (json.member k j later)) no_members) d reads in
    let c = members-changed earlier k j literal.tree later no_members no_members h.value literal.value literal.read h.some in
    let found = read-last name literal.tree (append_members earlier (json.member k literal.tree later)) c.0 (last-member name earlier k literal.tree later named last) c.1 in
    let same : literal.value ≡ found.value = cc (found.read, literal.read) in
    record { value = object c.0; reads = ap (option_map object) c.1; holds = ap given found.is ∙ ap (λ x. given (Some x)) (sym same) }

module _ (list name text : List ℕ) (d : Data) (at : ℕ) (span : Span) (ms : json.Members) (value : json.Json) (top : IsTreeOf text d) (is : top.tree ≡ json.object ms) (utf8 : IsUtf8 text)
    (m : IsMemberOf list ms value None [] (HoldsInArray (LiesInElement name text span) at)) where
  abbrev after : List Token
  after = items_tokens m.holds.holds.later ++ (members_tokens m.later ++ [])

  has : HasItem list at top.tree d m.holds.holds.item after
  has = has-item list at (LiesInElement name text span) top.tree d ms value top.shallow top.reads is m

  abbrev lies : LiesInElement name text span m.holds.holds.item after
  lies = m.holds.holds.holds

  abbrev element : json.Json → json.Json
  element i = in_object lies.member.earlier lies.member.key lies.member.later i

  in-element : m.holds.holds.item ≡ element lies.value
  in-element = lies.object ∙ ap json.object lies.member.is

  abbrev others : List Token
  others = members_tokens lies.member.later ++ after

  part : LiesAt text span lies.value others
  part = lies.member.holds

  around : Around (λ i. has.fill (element i)) others
  around = inside has.fill (λ i. element i) after (members_tokens lies.member.later) has.around (in-object lies.member.earlier lies.member.key lies.member.later (λ i. i) [] alone)

  next : BeginsWell others
  next = begins-well-members lies.member.later after

  holds : (literal : Literal) → HasMemberWith literal.word (given (Some literal.value)) list name text d at span
  holds literal =
      let changed = element-with literal name lies.member.earlier lies.member.key lies.value lies.member.later has.value lies.member.named lies.member.rest (sym (ap of_json in-element) ∙ has.read) in
      let whole : depth (element lies.value) ≤ 125 = subst (λ j. depth j ≤ 125) in-element has.shallow in
      let small = (members-shallow lies.member.earlier lies.member.key lies.value lies.member.later 124 (omega (arith, whole))).1 literal.tree (omega (arith, literal.flat)) in
      let one = has.with (element literal.tree) changed.value changed.reads (omega (arith, small)) in
      record {
        changed = one.changed;
        reads = replaced-json text d span lies.value others part next utf8 (λ i. has.fill (element i)) around top (has.is ∙ ap has.fill in-element) literal one.changed one.shallow one.reads;
        members = ap (map (member_of name)) one.elements ∙ map-set (member_of name) (elements_at list d) at changed.value ∙ ap (set (members_of list name d) at) changed.holds;
      }

  pub is-place : IsPlaceOfMember list name text d at span
  is-place = record {
    with_null = holds null_literal;
    with_true = holds true_literal;
    cut = λ more. lex-front between (take span.start text) more part.clear;
    first = solid-byte (get_or text span.start 0) (begins-solid text d span lies.value others part next utf8);
    last = ends-solid text span.start span.end (begins-solid text d span lies.value others part next utf8) part.extent part.some (ends-within text d span lies.value others part next utf8);
  }

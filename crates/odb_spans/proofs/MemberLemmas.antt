-- One step over the members of an object, or over the items of an array.
use Rattle.std.proofs.Common.{◌≡◌, ◌∙◌, ℕ, suc, ◌+◌, ◌<◌, ◌≤◌, List, [], ◌∷◌, ◌++◌, length, drop, Bool, true, false, cond, bytes_eq, Option, Some, None, refl, sym, ap, subst, append_assoc}
use Rattle.std.specs.Prelude.{IsUtf8}
use Rattle.std.specs.Str.{IsCharBoundary}
use Rattle.json.specs.Token.{Token, end_object, end_array, key, string}
use Rattle.json.specs.Lex.{fresh, after_value, begins_colon, punctuate, tokens}
use Rattle.json.specs.Json as json
use Rattle.json.specs.Find.{get_member, later_or}
use Rattle.json.specs.Tree.{json_tokens, items_tokens, members_tokens}
use Rattle.odb_spans.specs.Cuts.{IsClear}
use Rattle.odb_spans.specs.Extents.{value_extent}
use Rattle.odb_spans.specs.Spans.{bytes_of}
use Rattle.odb_spans.specs.Walks.{Faces, Steps}
use Rattle.odb_spans.specs.Parts.{HasEnded, HasItems, HasMembers, HasValue, IsMemberAt, IsNameIn, IsSomeMemberOf, IsValueSpan, LiesAtSome, MembersLeft, append_items, append_members, count_items}
use Rattle.odb_spans.specs.declared.member.Member.{Member}
use Rattle.odb_spans.specs.declared.span.Span.{Span}
use Rattle.odb_spans.proofs.PlaceLemmas.{at-token}
use Rattle.odb_spans.proofs.PartLemmas.{ValuePart, begins-with-token, value-part, value-within}
use Rattle.odb_spans.proofs.WalkLemmas.{flat≢closes}

-- ---- members

-- the member is the first of ms
pub record IsFirstMember (text : List ℕ) (member : Member) (ms : json.Members) (ts : List Token) : Type 0 where
  pub name : List ℕ
  pub value : json.Json
  pub others : json.Members
  pub is : ms ≡ json.member name value others
  pub has : HasValue text member.value value (members_tokens others ++ ts)
  pub spelled : tokens (bytes_of text member.name) ≡ string name ∷ []
  pub utf8 : IsUtf8 (bytes_of text member.name)
  pub clear : IsClear text member.value

pub first-member : (text : List ℕ) (from at : ℕ) (member : Member) (ms : json.Members) (ts : List Token) → HasMembers text from ms ts → Steps text from (Some at) → IsMemberAt text at member → IsFirstMember text member ms ts
first-member text from at member json.no_members ts has steps is = absurd ((steps.4 has.place end_object ts has.inside refl has.spelled).inner refl)
first-member text from at member (json.member k j ms) ts has steps is =
    let on = steps.4 has.place (key k) ((json_tokens j ++ members_tokens ms) ++ ts) has.inside refl has.spelled in
    let b = begins-with-token j in
    let whole : (json_tokens j ++ members_tokens ms) ++ ts ≡ b.first ∷ (b.others ++ (members_tokens ms ++ ts)) = append_assoc (json_tokens j) (members_tokens ms) ts ∙ ap (λ l. l ++ (members_tokens ms ++ ts)) b.is in
    let faces : Faces text at (key k) (b.first ∷ (b.others ++ (members_tokens ms ++ ts))) = subst (Faces text at (key k)) whole on.faces in
    record {
      name = k;
      value = j;
      others = ms;
      is = refl;
      has = record {
        place = fresh;
        begin = refl;
        spelled = is.value k b.first (b.others ++ (members_tokens ms ++ ts)) b.good faces ∙ ap (λ l. l ++ (members_tokens ms ++ ts)) (sym b.is);
        solid = is.solid;
        utf8 = has.utf8;
        boundary = is.boundary has.utf8;
        cut = is.cut (steps.5 has.cut);
      };
      spelled = is.name k _ faces;
      utf8 = is.utf8 has.utf8 (steps.3 has.utf8 has.boundary);
      clear = is.clear k b.first (b.others ++ (members_tokens ms ++ ts)) b.good faces (steps.5 has.cut);
    }

-- no member is left
pub no-member : (text : List ℕ) (from : ℕ) (ms : json.Members) (ts : List Token) → HasMembers text from ms ts → Steps text from None → ms ≡ json.no_members
no-member text from json.no_members ts has steps = refl
no-member text from (json.member k j ms) ts has steps = absurd (flat≢closes (steps has.place (key k) _ has.inside refl has.spelled))

pub later-none : (o : Option json.Json) → later_or o None ≡ o
later-none None = refl
later-none (Some j) = refl

pub later-later : (o p q : Option json.Json) → later_or (later_or o p) q ≡ later_or o (later_or p q)
later-later None p q = refl
later-later (Some j) p q = refl

append-one : (ms : json.Members) (k : List ℕ) (j : json.Json) (others : json.Members) → append_members (append_members ms (json.member k j json.no_members)) others ≡ append_members ms (json.member k j others)
append-one json.no_members k j others = refl
append-one (json.member l i ms) k j others = ap (json.member l i) (append-one ms k j others)

module _ (name text : List ℕ) (from at end : ℕ) (member : Member) (last : Option Span) (ms : json.Members) (ts : List Token) (left : MembersLeft name text from last ms ts) (steps : Steps text from (Some at)) (is : IsMemberAt text at member)
    (extent : end ≡ member.value + value_extent (drop member.value text)) (within : end ≤ length text) (boundary : IsUtf8 text → IsCharBoundary text end) where
  first : IsFirstMember text member left.others ts
  first = first-member text from at member left.others ts left.has steps is

  part : ValuePart text member.value end first.value (members_tokens first.others ++ ts)
  part = value-part text member.value end first.value (members_tokens first.others ++ ts) first.has extent within (boundary left.has.utf8)

  rest : HasMembers text end first.others ts
  rest = record { place = after_value; inside = tt; spelled = sym part.ended.follow; utf8 = left.has.utf8; boundary = part.ended.boundary; cut = part.ended.cut }

  whole : ms ≡ append_members left.done (json.member first.name first.value first.others)
  whole = left.whole ∙ ap (append_members left.done) first.is

  later : (b : Bool) → bytes_eq first.name name ≡ b → get_member name ms ≡ later_or (get_member name first.others) (later_or (cond b (Some first.value) None) left.found)
  later b same =
      left.same ∙ ap (λ o. later_or (get_member name o) left.found) first.is ∙ ap (λ c. later_or (later_or (get_member name first.others) (cond c (Some first.value) None)) left.found) same
      ∙ later-later (get_member name first.others) (cond b (Some first.value) None) left.found

  -- after a member of another name
  pub passed-other : IsNameIn text member.name name false → MembersLeft name text end last ms ts
  passed-other other =
      let apart = sym (other first.name first.utf8 first.spelled) in
      record {
        done = append_members left.done (json.member first.name first.value json.no_members);
        others = first.others;
        found = left.found;
        has = rest;
        holds = left.holds;
        same = later false apart;
        whole = whole ∙ sym (append-one left.done first.name first.value first.others);
        place = subst (λ o. IsSomeMemberOf name ms left.found o ts (LiesAtSome text last))
            (ap (get_member name) first.is ∙ ap (λ b. later_or (get_member name first.others) (cond b (Some first.value) None)) apart ∙ later-none (get_member name first.others)) left.place;
      }

  -- after a member of this name
  pub passed-same : IsNameIn text member.name name true → (member.value < length text → member.value < end) → MembersLeft name text end (Some record { start = member.value; end = end }) ms ts
  passed-same same some =
      let named = sym (same first.name first.utf8 first.spelled) in
      record {
        done = append_members left.done (json.member first.name first.value json.no_members);
        others = first.others;
        found = Some first.value;
        has = rest;
        holds = (first.value, refl, part.text_of);
        same = later true named;
        whole = whole ∙ sym (append-one left.done first.name first.value first.others);
        place = record {
          earlier = left.done;
          key = first.name;
          later = first.others;
          is = whole;
          named = named;
          rest = refl;
          holds = record { some = some (value-within text member.value first.value _ first.has); extent = extent; has = first.has; clear = first.clear; ended = part.ended };
        };
      }

pub begin-members : (name text : List ℕ) (start : ℕ) (ms : json.Members) (ts : List Token) → HasMembers text start ms ts → MembersLeft name text start None ms ts
begin-members name text start ms ts has = record { done = json.no_members; others = ms; found = None; has = has; holds = refl; same = sym (later-none (get_member name ms)); whole = refl; place = tt }

pub end-members : (name text : List ℕ) (from : ℕ) (last : Option Span) (ms : json.Members) (ts : List Token) → MembersLeft name text from last ms ts → Steps text from None
    → IsValueSpan text last (get_member name ms) × IsSomeMemberOf name ms (get_member name ms) None ts (LiesAtSome text last)
end-members name text from last ms ts left steps =
    let none = no-member text from left.others ts left.has steps in
    let found = sym (left.same ∙ ap (λ o. later_or (get_member name o) left.found) none) in (
      subst (IsValueSpan text last) found left.holds,
      subst (λ o. IsSomeMemberOf name ms o None ts (LiesAtSome text last)) found (subst (λ o. IsSomeMemberOf name ms left.found o ts (LiesAtSome text last)) (ap (get_member name) none) left.place),
    )

-- ---- items

pub record IsFirstItem (text : List ℕ) (at : ℕ) (js : json.Items) (ts : List Token) : Type 0 where
  pub value : json.Json
  pub others : json.Items
  pub is : js ≡ json.item value others
  pub has : HasValue text at value (items_tokens others ++ ts)
  pub clear : IsClear text at

pub first-item : (text : List ℕ) (from at : ℕ) (js : json.Items) (ts : List Token) → HasItems text from js ts → Steps text from (Some at) → IsFirstItem text at js ts
first-item text from at json.no_items ts has steps = absurd ((steps.4 has.place end_array ts has.inside refl has.spelled).inner refl)
first-item text from at (json.item j js) ts has steps =
    let b = begins-with-token j in
    let whole : (json_tokens j ++ items_tokens js) ++ ts ≡ b.first ∷ (b.others ++ (items_tokens js ++ ts)) = append_assoc (json_tokens j) (items_tokens js) ts ∙ ap (λ l. l ++ (items_tokens js ++ ts)) b.is in
    let spelled = has.spelled ∙ whole in
    let faces = (steps.4 has.place b.first (b.others ++ (items_tokens js ++ ts)) has.inside b.good spelled).faces in
    record {
      value = j;
      others = js;
      is = refl;
      has = record {
        place = faces.place;
        begin = b.begins faces.place faces.first (begins_colon faces.rest) (λ next. punctuate next faces.rest) _ faces.placed;
        spelled = ap (punctuate faces.place) faces.lexed ∙ at-token faces.place faces.first faces.rest ∙ faces.placed ∙ ap (λ l. l ++ (items_tokens js ++ ts)) (sym b.is);
        solid = steps.2;
        utf8 = has.utf8;
        boundary = steps.3 has.utf8 has.boundary;
        cut = steps.5 has.cut;
      };
      clear = steps.6 has.place b.first (b.others ++ (items_tokens js ++ ts)) has.inside b.good b.inner spelled has.cut has.clear;
    }

pub no-item : (text : List ℕ) (from : ℕ) (js : json.Items) (ts : List Token) → HasItems text from js ts → Steps text from None → js ≡ json.no_items
no-item text from json.no_items ts has steps = refl
no-item text from (json.item j js) ts has steps =
    let b = begins-with-token j in
    let whole : (json_tokens j ++ items_tokens js) ++ ts ≡ b.first ∷ (b.others ++ (items_tokens js ++ ts)) = append_assoc (json_tokens j) (items_tokens js) ts ∙ ap (λ l. l ++ (items_tokens js ++ ts)) b.is in
    absurd (b.inner (steps has.place b.first (b.others ++ (items_tokens js ++ ts)) has.inside b.good (has.spelled ∙ whole)))

-- the others come after an item
pub rest-items : (text : List ℕ) (end : ℕ) (others : json.Items) (ts : List Token) → IsUtf8 text → HasEnded text end (items_tokens others ++ ts) → HasItems text end others ts
rest-items text end others ts utf8 ended = record { place = after_value; inside = tt; spelled = sym ended.follow; utf8 = utf8; boundary = ended.boundary; cut = ended.cut; clear = λ same. absurd (cc (same)) }

pub append-item : (js : json.Items) (j : json.Json) (others : json.Items) → append_items (append_items js (json.item j json.no_items)) others ≡ append_items js (json.item j others)
append-item json.no_items j others = refl
append-item (json.item i js) j others = ap (json.item i) (append-item js j others)

pub count-item : (js : json.Items) (j : json.Json) → count_items (append_items js (json.item j json.no_items)) ≡ suc (count_items js)
count-item json.no_items j = refl
count-item (json.item i js) j = ap suc (count-item js j)

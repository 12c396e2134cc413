-- Where URLs refer to, and what follows their first segment.
use Rattle.std.proofs.Common.{◌≡◌, ◌≢◌, ◌∙◌, ◌+◌, ◌-◌, ◌<◌, ℕ, Bool, true, false, cond, nat_lt, List, [], ◌∷◌, ◌++◌, length, inl, inr, Option, None, Some, option_and_then, option_map, slice_get, refl, ap, sym, subst, arith, get_or, map, codes, bytes_eq}
use Rattle.std.specs.Borrow.{Bor}
use Rattle.std.specs.Prelude.{◌==◌, IfSome, MatchOption}
use Rattle.std.specs.Map.{lookup}
use Rattle.std.proofs.lemmas.Option.{same_Some, slice_get_cases}
use Rattle.std.proofs.lemmas.Bool.{cases_eq, eqb-true, ltb-true}
use Rattle.std.proofs.lemmas.List.{get_or-map, get_or_append_left, length-append, length_push, length-map}
use Rattle.std.proofs.Math.Seq.{get_or-append_seam}
use Rattle.std.proofs.lemmas.Grind.{common_steps}
use Rattle.std.specs.Str.{IsCharBoundary}
use Rattle.odb_names.specs.Runs.{SplitsRun}
use Rattle.odb_names.proofs.OneRun.{same_run}
use Rattle.odb_names.specs.Segments.{IsAfterFirstSegment, is_in_segment}
use Rattle.odb_doc.specs.batch.Records.{Record}
use Rattle.odb_check.specs.Positions.{reference_at}
use Rattle.odb_check.specs.Units.{position_of, referred_at}
use Rattle.odb_check.proofs.PositionLemmas.{position_first}
use Rattle.odb_check.specs.Firsts.{list_below}
use Rattle.odb_check.proofs.BelowLemmas.{length-list_below, get_or-list_below}
use Rattle.odb_send.specs.Faults.{Breaks, Lacks, LacksETag, LacksLocation, LacksTag, RefusesRest, RestFault}
use Rattle.odb_send.specs.declared.fault.RestRule.{RestRule}
use Rattle.odb_doc.specs.declared.rule_fault.RuleFault.TheVariants as faults
use Rattle.odb_send.specs.declared.fault.RestRule.TheVariants.{NoETag, NoLocation}
use Rattle.odb_send.specs.Marks.{AreChanges, IsBroken, IsLacking}
use Rattle.odb_send.specs.Answers.{Answer, answer_of, answers_in, nothing}
use Rattle.odb_send.specs.declared.answers.Recorded.{Recorded}
use Rattle.odb_send.specs.Rests.{Change, HasChanges, IsChange, IsJoined, IsPlain, IsTag, IsUrl, Leaves, Moves, RefersOut, before, change_at, header_at, tag_id, tagged_at, unchanged}
use Rattle.odb_send.specs.Rests.IsUrl.{same, moved}
use Rattle.odb_send.specs.Rests.IsTag.{replaced, stays}

-- a segment ends before an ASCII character
low : (b : ℕ) → is_in_segment b ≡ false → b < 128
low b ends = grind (arith, common_steps)

-- what follows the first segment is a text
rest_low : (url segment rest : List ℕ) → SplitsRun is_in_segment url segment rest → IsCharBoundary url (length url - length rest)
rest_low url segment [] splits = (omega arith, λ less. absurd (omega arith))
rest_low url segment (first ∷ more) splits =
    let size : length url ≡ length segment + length (first ∷ more) = ap (λ (t : List ℕ). length t) splits.whole ∙ length-append segment (first ∷ more) in
    let at : length url - length (first ∷ more) ≡ length segment = omega (arith, size) in
    let there : get_or url (length url - length (first ∷ more)) 0 ≡ first = ap (λ i. get_or url i 0) at ∙ ap (λ (t : List ℕ). get_or t (length segment) 0) splits.whole ∙ get_or-append_seam segment first more 0 in
    let small : first < 128 = low first (splits.stops first more refl) in
    (omega arith, λ less high. absurd (omega (arith, there, small, high)))

pub rest_begins : (url rest : List ℕ) → IsAfterFirstSegment url rest → IsCharBoundary url (length url - length rest)
rest_begins url rest after = rest_low url after.segment rest after.splits

-- a URL refers to a position of the batch
pub referred_within : (rs : List Record) (i p : ℕ) → referred_at rs i ≡ Some p → p < length rs
referred_within rs i p is = by_reference (reference_at rs i) is
  where
    by_reference : (o : Option (List ℕ)) → option_and_then (position_of rs) o ≡ Some p → p < length rs
    by_reference None none = absurd (cc (none))
    by_reference (Some id) found = (position_first rs id p found).0

-- so does a position that may be none
pub within_if : (o : Option ℕ) (n : ℕ) → ((p : ℕ) → o ≡ Some p → p < n) → IfSome o (λ p. p < n)
within_if None n less = tt
within_if (Some p) n less = less p refl

-- what refers to a request is one of the batch
pub referring : (rs : List Record) (i p : ℕ) → referred_at rs i ≡ Some p → i < length rs
referring rs i p is =
    elim ((slice_get_cases rs i).1) [
      | inl (r, within, got, _) ↦ within
      | inr (past, none) ↦ absurd (cc (sym (ap (λ (o : Option Record). option_and_then (position_of rs) (option_and_then (λ (q : Record). q.reference) o)) none) ∙ is))
    ]

-- ---- the URL of a request in the rest

pub same_text : (o : Option (List ℕ)) (x y : List ℕ) → o ≡ Some x → o ≡ Some y → x ≡ y
same_text o x y one other = same_Some x y (sym one ∙ other)

pub one_joined : (location url made other : List ℕ) → IsJoined location url made → IsJoined location url other → made ≡ other
one_joined location url made other one two = one.is ∙ ap (λ (t : List ℕ). location ++ t) (same_run one.after.splits two.after.splits).1 ∙ sym two.is

pub url_made : (rs : List Record) (kept : List Bool) (answers : ℕ → Answer) (i p : ℕ) (r : Record) (location url : List ℕ) → Leaves rs kept i p → slice_get rs i ≡ Some r → (answers p).location ≡ Some location
    → location ≢ [] → IsJoined location r.url url → IsPlain url → IsUrl rs kept answers i (Some url)
url_made rs kept answers i p r location url leaves is recorded filled joined plain = moved url (record {
  position = p;
  leaves = leaves;
  request = r;
  is = is;
  location = location;
  recorded = recorded;
  filled = filled;
  joined = joined;
  plain = plain;
})

-- a request refers to one position
pub one_position : (rs : List Record) (kept : List Bool) (target : ℕ → Option ℕ) (i p q : ℕ) → RefersOut rs kept target i p → RefersOut rs kept target i q → p ≡ q
one_position rs kept target i p q one other = same_Some p q (sym one.refers ∙ other.refers)

pub lacks_recorded : (rs : List Record) (kept : List Bool) (answers : ℕ → Answer) (i p : ℕ) → Leaves rs kept i p → (answers p).location ≡ None → LacksLocation rs kept answers i
lacks_recorded rs kept answers i p leaves none = record {
  position = p;
  leaves = leaves;
  none = λ url moves.
      let same : p ≡ moves.position = one_position rs kept (referred_at rs) i p moves.position leaves moves.leaves in
      let bad : None ≡ Some moves.location = sym none ∙ ap (λ q. (answers q).location) same ∙ moves.recorded in
      cc (bad);
}

pub lacks_plain : (rs : List Record) (kept : List Bool) (answers : ℕ → Answer) (i p : ℕ) (r : Record) (location made : List ℕ) → Leaves rs kept i p → slice_get rs i ≡ Some r → (answers p).location ≡ Some location
    → IsJoined location r.url made → ¬ ((location ≢ []) × IsPlain made) → LacksLocation rs kept answers i
lacks_plain rs kept answers i p r location made leaves is recorded joined bad = record {
  position = p;
  leaves = leaves;
  none = λ url moves.
      let same : p ≡ moves.position = one_position rs kept (referred_at rs) i p moves.position leaves moves.leaves in
      let request : moves.request ≡ r = same_Some moves.request r (sym moves.is ∙ is) in
      let at : moves.location ≡ location = same_text (answers p).location moves.location location (ap (λ q. (answers q).location) same ∙ moves.recorded) recorded in
      let text_joined : IsJoined location r.url url = subst (λ (l : List ℕ). IsJoined l r.url url) at (subst (λ (q : Record). IsJoined moves.location q.url url) request moves.joined) in
      bad (subst (λ (l : List ℕ). l ≢ []) at moves.filled, subst IsPlain (one_joined location r.url url made text_joined joined) moves.plain);
}

-- the answer at a position of a list of them
pub answered_at : (found : List Recorded) (p : ℕ) (d : Recorded) → p < length found → answers_in found p ≡ answer_of (get_or found p d)
answered_at found p d within = get_or-map answer_of found p d nothing within

-- ---- the value of a condition in the rest

-- what follows `$`
pub tag_from : (value : List ℕ) (r : Option (Bor (List ℕ))) → MatchOption r ((rest : List ℕ) → value ≢ 36 ∷ rest) (λ x. value ≡ 36 ∷ x.now) → option_map (λ id. id.now) r ≡ tag_id value
tag_from [] None none = refl
tag_from [] (Some x) is = absurd (cc (is))
tag_from (byte ∷ value) None none = by_byte (byte == 36) refl
  where
    by_byte : (b : Bool) → (byte == 36) ≡ b → None ≡ cond b (Some value) None
    by_byte true is = absurd (none value (ap (λ first. first ∷ value) (eqb-true byte 36 is)))
    by_byte false is = refl
tag_from (byte ∷ value) (Some x) is = sym (ap tag_id is)

before_is : (i q p : ℕ) → before i q ≡ Some p → (q ≡ p) × (q < i)
before_is i q p is = by_order (nat_lt q i) refl is
  where
    by_order : (b : Bool) → nat_lt q i ≡ b → cond b (Some q) None ≡ Some p → (q ≡ p) × (q < i)
    by_order true less is = (same_Some q p is, ltb-true q i less)
    by_order false more none = absurd (cc (none))

-- a condition refers to an earlier position of the batch
pub tagged_before : (rs : List Record) (name : List ℕ) (i p : ℕ) → tagged_at rs name i ≡ Some p → (p < i) × (p < length rs)
tagged_before rs name i p is = by_id (option_and_then tag_id (header_at rs name i)) is
  where
    by_position : (id : List ℕ) (o : Option ℕ) → position_of rs id ≡ o → option_and_then (before i) o ≡ Some p → (p < i) × (p < length rs)
    by_position id None at none = absurd (cc (none))
    by_position id (Some q) at found =
        let (one, less) = before_is i q p found in
        let within = (position_first rs id q at).0 in
        (omega (arith, one, less), omega (arith, one, within))

    by_id : (o : Option (List ℕ)) → option_and_then (before i) (option_and_then (position_of rs) o) ≡ Some p → (p < i) × (p < length rs)
    by_id None none = absurd (cc (none))
    by_id (Some id) found = by_position id (position_of rs id) refl found

pub tagged_within : (rs : List Record) (name : List ℕ) (i p : ℕ) → tagged_at rs name i ≡ Some p → p < length rs
tagged_within rs name i p is = (tagged_before rs name i p is).1

-- a request with a condition is one of the batch
pub tagging : (rs : List Record) (name : List ℕ) (i p : ℕ) → tagged_at rs name i ≡ Some p → i < length rs
tagging rs name i p is =
    elim ((slice_get_cases rs i).1) [
      | inl (r, within, got, _) ↦ within
      | inr (past, none) ↦ absurd (cc (sym (ap (λ (o : Option Record). option_and_then (before i) (option_and_then (position_of rs) (option_and_then tag_id (option_and_then (λ (q : Record). lookup (bytes_eq name) q.headers) o)))) none) ∙ is))
    ]

-- what has a URL lacks none
pub has_url : (rs : List Record) (kept : List Bool) (answers : ℕ → Answer) (i : ℕ) (url : Option (List ℕ)) → IsUrl rs kept answers i url → ¬ LacksLocation rs kept answers i
has_url rs kept answers i url (same none) lacks = none lacks.position lacks.leaves
has_url rs kept answers i url (moved text moves) lacks = lacks.none text moves

-- a fault of a condition is one of the request, whose URL has been found
pub broken_by : (rs : List Record) (kept : List Bool) (answers : ℕ → Answer) (name : List ℕ) (i : ℕ) (url : Option (List ℕ)) (fault : RestFault) → (LacksTag rs kept answers name i → LacksETag rs kept answers i) → IsUrl rs kept answers i url
    → IsLacking NoETag (LacksTag rs kept answers name) i fault → IsBroken rs kept answers i fault
broken_by rs kept answers name i url (faults.Broken at NoLocation) lacks has broken = let other : NoLocation ≡ NoETag = broken.1 in cc (other)
broken_by rs kept answers name i url (faults.Broken at NoETag) lacks has broken = (broken.0, (lacks broken.2, has_url rs kept answers i url has))
broken_by rs kept answers name i url faults.OutOfMemory lacks has broken = tt

-- what has a value lacks none
pub has_tag : (rs : List Record) (kept : List Bool) (answers : ℕ → Answer) (name : List ℕ) (i : ℕ) (tag : Option (List ℕ)) → IsTag rs kept answers name i tag → ¬ LacksTag rs kept answers name i
has_tag rs kept answers name i _ (stays none) lacks = none lacks.position lacks.leaves
has_tag rs kept answers name i _ (replaced p tag leaves is) lacks =
    let one = one_position rs kept (tagged_at rs name) i p lacks.position leaves lacks.leaves in
    let bad : Some tag ≡ None = sym is ∙ ap (λ q. (answers q).etag) one ∙ lacks.none in
    cc (bad)

-- ---- the changes of all requests

-- one change more
pub AreChanges-more : (rs : List Record) (kept : List Bool) (answers : ℕ → Answer) (n : ℕ) (changes : List Change) (change : Change) → AreChanges rs kept answers n changes → IsChange rs kept answers n change
    → AreChanges rs kept answers (n + 1) (changes ++ change ∷ [])
AreChanges-more rs kept answers n changes change before is = record {
  count = length_push changes change ∙ ap (λ m. m + 1) before.count;
  each = λ i less. elim (cases_eq i n) [
    | inl last ↦
        let here : change_at (changes ++ change ∷ []) i ≡ change = ap (change_at (changes ++ change ∷ [])) (last ∙ sym before.count) ∙ get_or-append_seam changes change [] unchanged in
        subst (λ (o : Change). IsChange rs kept answers i o) (sym here) (subst (λ j. IsChange rs kept answers j change) (sym last) is)
    | inr early ↦
        let there : change_at (changes ++ change ∷ []) i ≡ change_at changes i = get_or_append_left changes (change ∷ []) unchanged i (omega (arith, before.count)) in
        subst (λ (o : Change). IsChange rs kept answers i o) (sym there) (before.each i (omega arith))
  ];
}

-- what has a change lacks nothing
pub has_change : (rs : List Record) (kept : List Bool) (answers : ℕ → Answer) (i : ℕ) (change : Change) → IsChange rs kept answers i change → ¬ Lacks rs kept answers i
has_change rs kept answers i change is (inl lacks) = has_url rs kept answers i change.url is.url lacks
has_change rs kept answers i change is (inr (inl lacks)) = has_tag rs kept answers (codes "if-match") i change.if_match is.if_match lacks
has_change rs kept answers i change is (inr (inr lacks)) = has_tag rs kept answers (codes "if-none-match") i change.if_none_match is.if_none_match lacks

-- what breaks a rule lacks something
pub breaks_lacks : (rule : RestRule) (rs : List Record) (kept : List Bool) (answers : ℕ → Answer) (i : ℕ) → Breaks rule rs kept answers i → Lacks rs kept answers i
breaks_lacks NoLocation rs kept answers i breaks = inl breaks
breaks_lacks NoETag rs kept answers i breaks = inr breaks.0

-- the first request that breaks a rule
pub first_broken : (rs : List Record) (kept : List Bool) (answers : ℕ → Answer) (n : ℕ) (changes : List Change) (fault : RestFault) → AreChanges rs kept answers n changes → IsBroken rs kept answers n fault → RefusesRest fault rs kept answers
first_broken rs kept answers n changes (faults.Broken at rule) before (same_place, breaks) =
    (subst (Breaks rule rs kept answers) (sym same_place) breaks, λ i less. has_change rs kept answers i (change_at changes i) (before.each i (omega (arith, less, same_place))))
first_broken rs kept answers n changes faults.OutOfMemory before breaks = tt

-- ---- other answers, which are the same at the positions of the batch

abbrev pub SameAnswers : List Record → (ℕ → Answer) → (ℕ → Answer) → Type 0
SameAnswers rs one other = (p : ℕ) → p < length rs → one p ≡ other p

pub same_back : (rs : List Record) (one other : ℕ → Answer) → SameAnswers rs one other → SameAnswers rs other one
same_back rs one other agree p within = sym (agree p within)

moves_by : (rs : List Record) (kept : List Bool) (one other : ℕ → Answer) (i : ℕ) (url : List ℕ) → SameAnswers rs one other → Moves rs kept one i url → Moves rs kept other i url
moves_by rs kept one other i url agree moves = record {
  position = moves.position;
  leaves = moves.leaves;
  request = moves.request;
  is = moves.is;
  location = moves.location;
  recorded = ap (λ (a : Answer). a.location) (sym (agree moves.position (referred_within rs i moves.position moves.leaves.refers))) ∙ moves.recorded;
  filled = moves.filled;
  joined = moves.joined;
  plain = moves.plain;
}

url_by : (rs : List Record) (kept : List Bool) (one other : ℕ → Answer) (i : ℕ) (url : Option (List ℕ)) → SameAnswers rs one other → IsUrl rs kept one i url → IsUrl rs kept other i url
url_by rs kept one other i url agree (same none) = same none
url_by rs kept one other i url agree (moved text moves) = moved text (moves_by rs kept one other i text agree moves)

tag_by : (rs : List Record) (kept : List Bool) (one other : ℕ → Answer) (name : List ℕ) (i : ℕ) (tag : Option (List ℕ)) → SameAnswers rs one other → IsTag rs kept one name i tag → IsTag rs kept other name i tag
tag_by rs kept one other name i _ agree (stays none) = stays none
tag_by rs kept one other name i _ agree (replaced p tag leaves is) =
    replaced p tag leaves (ap (λ (a : Answer). a.etag) (sym (agree p (tagged_within rs name i p leaves.refers))) ∙ is)

change_by : (rs : List Record) (kept : List Bool) (one other : ℕ → Answer) (i : ℕ) (change : Change) → SameAnswers rs one other → IsChange rs kept one i change → IsChange rs kept other i change
change_by rs kept one other i change agree is = record {
  url = url_by rs kept one other i change.url agree is.url;
  if_match = tag_by rs kept one other (codes "if-match") i change.if_match agree is.if_match;
  if_none_match = tag_by rs kept one other (codes "if-none-match") i change.if_none_match agree is.if_none_match;
}

lacks_location_by : (rs : List Record) (kept : List Bool) (one other : ℕ → Answer) (i : ℕ) → SameAnswers rs one other → LacksLocation rs kept one i → LacksLocation rs kept other i
lacks_location_by rs kept one other i agree lacks = record {
  position = lacks.position;
  leaves = lacks.leaves;
  none = λ url moves. lacks.none url (moves_by rs kept other one i url (same_back rs one other agree) moves);
}

lacks_tag_by : (rs : List Record) (kept : List Bool) (one other : ℕ → Answer) (name : List ℕ) (i : ℕ) → SameAnswers rs one other → LacksTag rs kept one name i → LacksTag rs kept other name i
lacks_tag_by rs kept one other name i agree lacks = record {
  position = lacks.position;
  leaves = lacks.leaves;
  none = ap (λ (a : Answer). a.etag) (sym (agree lacks.position (tagged_within rs name i lacks.position lacks.leaves.refers))) ∙ lacks.none;
}

lacks_etag_by : (rs : List Record) (kept : List Bool) (one other : ℕ → Answer) (i : ℕ) → SameAnswers rs one other → LacksETag rs kept one i → LacksETag rs kept other i
lacks_etag_by rs kept one other i agree (inl lacks) = inl (lacks_tag_by rs kept one other (codes "if-match") i agree lacks)
lacks_etag_by rs kept one other i agree (inr lacks) = inr (lacks_tag_by rs kept one other (codes "if-none-match") i agree lacks)

pub lacks_by : (rs : List Record) (kept : List Bool) (one other : ℕ → Answer) (i : ℕ) → SameAnswers rs one other → Lacks rs kept one i → Lacks rs kept other i
lacks_by rs kept one other i agree (inl lacks) = inl (lacks_location_by rs kept one other i agree lacks)
lacks_by rs kept one other i agree (inr lacks) = inr (lacks_etag_by rs kept one other i agree lacks)

pub breaks_by : (rule : RestRule) (rs : List Record) (kept : List Bool) (one other : ℕ → Answer) (i : ℕ) → SameAnswers rs one other → Breaks rule rs kept one i → Breaks rule rs kept other i
breaks_by NoLocation rs kept one other i agree breaks = lacks_location_by rs kept one other i agree breaks
breaks_by NoETag rs kept one other i agree breaks = (lacks_etag_by rs kept one other i agree breaks.0, λ lacks. breaks.1 (lacks_location_by rs kept other one i (same_back rs one other agree) lacks))

pub changes_by : (rs : List Record) (kept : List Bool) (one other : ℕ → Answer) (changes : List Change) → SameAnswers rs one other → HasChanges rs kept one changes → HasChanges rs kept other changes
changes_by rs kept one other changes agree are = record { count = are.count; each = λ i less. change_by rs kept one other i (change_at changes i) agree (are.each i less) }

pub refuses_by : (rs : List Record) (kept : List Bool) (one other : ℕ → Answer) (fault : RestFault) → SameAnswers rs one other → RefusesRest fault rs kept one → RefusesRest fault rs kept other
refuses_by rs kept one other (faults.Broken at rule) agree (here, before) = (breaks_by rule rs kept one other at agree here, λ i less lacks. before i less (lacks_by rs kept other one i (same_back rs one other agree) lacks))
refuses_by rs kept one other faults.OutOfMemory agree refuses = tt

-- the answers of a list that was made for all positions
pub listed_answers : (rs : List Record) (found : List Recorded) (answers : ℕ → Answer) → map answer_of found ≡ list_below (length rs) answers → SameAnswers rs (answers_in found) answers
listed_answers rs found answers is p less = ap (λ (xs : List Answer). get_or xs p nothing) is ∙ get_or-list_below (length rs) answers p nothing less

pub answers_count : (rs : List Record) (found : List Recorded) (answers : ℕ → Answer) → map answer_of found ≡ list_below (length rs) answers → length found ≡ length rs
answers_count rs found answers is = sym (length-map found answer_of) ∙ ap (λ (xs : List Answer). length xs) is ∙ length-list_below (length rs) answers

-- Where pieces of a growing text lie.
use Rattle.std.proofs.Common.{◌≡◌, ◌∙◌, ◌+◌, ◌-◌, ◌≤◌, ℕ, Bool, true, false, if◌then◌else◌, List, [], ◌∷◌, ◌++◌, length, Option, Some, None, option_and_then, option_map, unwrap_or, refl, sym, ap, subst, arith, append_assoc, slice_get}
use Rattle.std.proofs.lemmas.List.{append-nil, length-append}
use Rattle.std.specs.List.{filter_map}
use Rattle.odb_names.specs.Segments.{is_in_segment}
use Rattle.odb_doc.specs.batch.Records.{Record}
use Rattle.odb_doc.specs.batch.UrlRests.{past_segment, rest_after}
use Rattle.odb_check.specs.Needs.{further_names, need_of, needs_at}
use Rattle.odb_check.specs.Units.{position_of, referred_at}
use Rattle.odb_spans.specs.declared.span.Span.{Span}
use Rattle.odb_send.specs.declared.parts.RequestParts.{RequestParts}
use Rattle.odb_send.specs.Parts.{HasPart, HasPartIf, HasParts, needs_of}
use Rattle.odb_send.specs.Pieces.{Extends}

-- ---- a text that grows

pub grown : (old piece new : List ℕ) → new ≡ old ++ piece → Extends old new
grown old piece new is = record { more = piece; is = is }

pub unchanged : (old : List ℕ) → Extends old old
unchanged old = record { more = []; is = sym (append-nil old) }

pub twice : (a b c : List ℕ) → Extends a b → Extends b c → Extends a c
twice a b c one two = record { more = one.more ++ two.more; is = two.is ∙ ap (λ t. t ++ two.more) one.is ∙ append_assoc a one.more two.more }

-- ---- a part

-- the piece that was appended last
pub last-part : (old piece new : List ℕ) (span : Span) → new ≡ old ++ piece → span.start ≡ length old → span.end ≡ length new → HasPart new piece span
last-part old piece new span is starts ends = record {
  before = old;
  after = [];
  whole = is ∙ ap (λ t. old ++ t) (sym (append-nil piece));
  starts = starts;
  ends = ends ∙ ap (λ (t : List ℕ). length t) is ∙ length-append old piece;
}

-- a part stays where it is
pub kept-part : (old new part : List ℕ) (span : Span) → Extends old new → HasPart old part span → HasPart new part span
kept-part old new part span grows held = record {
  before = held.before;
  after = held.after ++ grows.more;
  whole = grows.is ∙ ap (λ t. t ++ grows.more) held.whole ∙ append_assoc held.before (part ++ held.after) grows.more ∙ ap (λ t. held.before ++ t) (append_assoc part held.after grows.more);
  starts = held.starts;
  ends = held.ends;
}

pub kept-part-if : (old new : List ℕ) (part : Option (List ℕ)) (span : Option Span) → Extends old new → HasPartIf old part span → HasPartIf new part span
kept-part-if old new None None grows held = tt
kept-part-if old new None (Some span) grows held = absurd held
kept-part-if old new (Some part) None grows held = absurd held
kept-part-if old new (Some part) (Some span) grows held = kept-part old new part span grows held

-- a part is not longer than where it ends
pub part-fits : (text part : List ℕ) (span : Span) → HasPart text part span → length part ≤ span.end
part-fits text part span held = omega (arith, held.ends)

-- ---- the rest of a URL

-- what a URL begins with, before its rest
abbrev Front : List ℕ → List ℕ → Type 0
Front url rest = (front : List ℕ) × (url ≡ front ++ rest)

front-with : (inside : Bool) (byte : ℕ) (url : List ℕ) → Front url (past_segment url) → Front (byte ∷ url) (if inside then past_segment url else byte ∷ url)
front-with true byte url (front, is) = (byte ∷ front, ap (λ (t : List ℕ). byte ∷ t) is)
front-with false byte url before = ([], refl)

front-of-segment : (url : List ℕ) → Front url (past_segment url)
front-of-segment [] = ([], refl)
front-of-segment (byte ∷ url) = front-with (is_in_segment byte) byte url (front-of-segment url)

pub front-of : (reference : Option (List ℕ)) (url : List ℕ) → Front url (rest_after reference url)
front-of None url = ([], refl)
front-of (Some id) url = front-of-segment url

pub rest-fits : (reference : Option (List ℕ)) (url : List ℕ) → length (rest_after reference url) ≤ length url
rest-fits reference url =
    let front = front-of reference url in
    omega (arith, ap (λ (t : List ℕ). length t) front.1, length-append front.0 (rest_after reference url))

-- what remains of a part after its first characters
pub rest-part : (text url first rest : List ℕ) (span rest_span : Span) → HasPart text url span → url ≡ first ++ rest → rest_span.start ≡ span.end - length rest → rest_span.end ≡ span.end → HasPart text rest rest_span
rest-part text url first rest span rest_span held is starts ends =
    let long : length url ≡ length first + length rest = ap (λ (t : List ℕ). length t) is ∙ length-append first rest in
    record {
      before = held.before ++ first;
      after = held.after;
      whole = held.whole ∙ ap (λ t. held.before ++ (t ++ held.after)) is ∙ ap (λ t. held.before ++ t) (append_assoc first rest held.after) ∙ sym (append_assoc held.before first (rest ++ held.after));
      starts = omega (arith, starts, held.ends, long, length-append held.before first);
      ends = omega (arith, ends, held.ends, long, length-append held.before first);
    }

-- ---- the parts of requests

pub kept-parts : (batch : List Record) (old new : List ℕ) (r : Record) (parts : RequestParts) → Extends old new → HasParts batch old r parts → HasParts batch new r parts
kept-parts batch old new r parts grows held = record {
  id = kept-part old new _ _ grows held.id;
  method = kept-part old new _ _ grows held.method;
  url = kept-part old new _ _ grows held.url;
  rest = kept-part old new _ _ grows held.rest;
  reference = held.reference;
  headers = kept-part old new _ _ grows held.headers;
  group = kept-part-if old new _ _ grows held.group;
  needs = kept-part old new _ _ grows held.needs;
}

-- ---- one of a list

-- the position that the URL of a request refers to
pub referred-record : (batch : List Record) (i : ℕ) (r : Record) → slice_get batch i ≡ Some r → referred_at batch i ≡ option_and_then (position_of batch) r.reference
referred-record batch i r here = ap (λ (o : Option Record). option_and_then (position_of batch) (option_and_then (λ (q : Record). q.reference) o)) here

-- the dependencies at a position are those of the request there
pub needs-record : (batch : List Record) (i : ℕ) (r : Record) → slice_get batch i ≡ Some r → needs_at batch i ≡ needs_of batch r
needs-record batch i r here =
    ap (λ (o : Option Record). filter_map (need_of batch) (unwrap_or (option_map (λ (q : Record). q.names) o) [] ++ further_names (unwrap_or (option_map (λ (q : Record). q.names) o) []) (option_and_then (λ (q : Record). q.reference) o))) here

pub same-record : (rs : List Record) (i : ℕ) (x r : Record) → slice_get rs i ≡ Some x → slice_get rs i ≡ Some r → x ≡ r
same-record rs i x r one other = ap (λ (o : Option Record). unwrap_or o r) (sym one ∙ other)

pub of-same : (batch : List Record) (text : List ℕ) (x r : Record) (parts : RequestParts) → x ≡ r → HasParts batch text x parts → HasParts batch text r parts
of-same batch text x r parts same held = subst (λ (y : Record). HasParts batch text y parts) same held

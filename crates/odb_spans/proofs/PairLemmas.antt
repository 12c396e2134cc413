-- A pair of documents in a line.
use Rattle.std.proofs.Common.{◌≡◌, ◌∙◌, ℕ, ◌-◌, ◌≤◌, length, take, get_or, true, false, cond, List, [], Option, None, Some, option_map, option_and_then, Result, Ok, Err, IfOk, IfSome, refl, sym, ap, subst, arith, append-nil}
use Rattle.std.specs.declared.alloc.AllocError.{AllocError}
use Rattle.json.specs.Token.{Token}
use Rattle.json.specs.Word.{is_space}
use Rattle.json.specs.Lex.{between}
use Rattle.json.specs.Json as json
use Rattle.json.specs.Tree.{depth, items_tokens}
use Rattle.serde_json.specs.Data.{Data, number, array, object, no_items, item, no_members}
use Rattle.serde_json.specs.Read.{max_depth, number_of, of_items, of_json, of_members}
use Rattle.odb_doc.specs.Documents.{IsJson}
use Rattle.odb_doc.specs.declared.fault.Place.{Place}
use Rattle.odb_spans.specs.Parts.{GivesPair, HasValue, IsPairOf, LiesAt}
use Rattle.odb_spans.specs.Positions.{ArePartsOf, IsTextAt, LiesInPair, LiesInPart, is_in_batch, pair}
use Rattle.odb_spans.specs.Spans.{IsWithin, replaced}
use Rattle.odb_spans.specs.Walks.{IsStart}
use Rattle.odb_spans.specs.declared.span.Span.{Span}
use Rattle.odb_spans.proofs.DataLemmas.{item-read, maps-to}
use Rattle.odb_spans.proofs.EndLemmas.{ends-solid}
use Rattle.odb_spans.proofs.FillLemmas.{BeginsWell, Literal, alone, begins-solid, begins-well-items, ends-within, in-array, in_array, null_literal, replaced-json, true_literal}
use Rattle.odb_spans.proofs.FrontLemmas.{lex-front}
use Rattle.odb_spans.proofs.ReadLemmas.{IsTreeOf, tree-of}
use Rattle.odb_spans.proofs.WholeLemmas.{text-at, whole}

-- ---- the two documents

-- what is read of an array of two
pub record IsPairRead (one two : json.Json) (d : Data) : Type 0 where
  pub first : Data
  pub second : Data
  pub reads : of_json one ≡ Some first
  pub more : of_json two ≡ Some second
  pub is : d ≡ pair first second

abbrev pub two_items : json.Json → json.Json → json.Items
two_items one two = json.item one (json.item two json.no_items)

pub pair-read : (one two : json.Json) (d : Data) → of_json (json.array (two_items one two)) ≡ Some d → IsPairRead one two d
pair-read one two d reads =
    let h = maps-to array (of_items (two_items one two)) d reads in
    let first = item-read one (json.item two json.no_items) h.value (of_json one) refl h.some in
    let second = item-read two json.no_items first.others (of_json two) refl first.more in
    let none : no_items ≡ second.others = cc (second.more) in
    record {
      first = first.first;
      second = second.first;
      reads = first.reads;
      more = second.reads;
      is = h.is ∙ ap array (first.is ∙ ap (item first.first) (second.is ∙ ap (item second.first) (sym none)));
    }

pub two-reads : (one two : json.Json) (first second : Data) → of_json one ≡ Some first → of_json two ≡ Some second → of_json (json.array (two_items one two)) ≡ Some (pair first second)
two-reads one two first second reads more =
    ap (λ o. option_map array (option_and_then (λ d. option_map (item d) (of_items (json.item two json.no_items))) o)) reads
    ∙ ap (λ o. option_map array (option_map (item first) (option_and_then (λ d. option_map (item d) (Some no_items)) o))) more

-- the tree of a pair is an array of two
pub record IsTreeOfPair (j : json.Json) : Type 0 where
  pub one : json.Json
  pub two : json.Json
  pub is : j ≡ json.array (two_items one two)

two-read : (js : json.Items) (batch second : Data) → of_items js ≡ Some (item batch (item second no_items)) → IsTreeOfPair (json.array js)
two-read json.no_items batch second e = absurd (cc (e))
two-read (json.item one json.no_items) batch second e =
    let h = item-read one json.no_items (item batch (item second no_items)) (of_json one) refl e in
    let none : no_items ≡ h.others = cc (h.more) in
    absurd (cc (h.is, none))
two-read (json.item one (json.item two json.no_items)) batch second e = record { one = one; two = two; is = refl }
two-read (json.item one (json.item two (json.item three js))) batch second e =
    let h = item-read one (json.item two (json.item three js)) (item batch (item second no_items)) (of_json one) refl e in
    let i = item-read two (json.item three js) h.others (of_json two) refl h.more in
    let k = item-read three js i.others (of_json three) refl i.more in
    absurd (cc (h.is, i.is, k.is))

pub tree-of-pair : (j : json.Json) (batch second : Data) → of_json j ≡ Some (pair batch second) → IsTreeOfPair j
tree-of-pair json.null batch second e = absurd (cc (e))
tree-of-pair (json.boolean b) batch second e = absurd (cc (e))
tree-of-pair (json.number s) batch second e = let h = maps-to number (number_of s) (pair batch second) e in absurd (cc (h.is))
tree-of-pair (json.string s) batch second e = absurd (cc (e))
tree-of-pair (json.object ms) batch second e = let h = maps-to object (of_members ms no_members) (pair batch second) e in absurd (cc (h.is))
tree-of-pair (json.array js) batch second e =
    let h = maps-to array (of_items js) (pair batch second) e in
    let same : h.value ≡ item batch (item second no_items) = cc (h.is) in
    two-read js batch second (h.some ∙ ap Some same)

module _ (line : List ℕ) (start : ℕ) (at : IsStart line start) where
  -- the line is no pair where it was not found to be one
  pub no-pair : ((one two : json.Json) → HasValue line start (json.array (two_items one two)) [] → ⊥) → (batch second : Data) → IsJson line (pair batch second) → ⊥
  no-pair none batch second is =
      let top = tree-of line (pair batch second) is.1 in
      let two = tree-of-pair top.tree batch second top.reads in
      none two.one two.two (subst (λ j. HasValue line start j []) two.is (whole line start (pair batch second) top is.0 at))

  module _ (first second : Span) (order : first.end ≤ second.start) (is_pair : (j : json.Json) → HasValue line start j [] → IsPairOf line first second j) where
    module _ (d : Data) (is : IsJson line d) where
      top : IsTreeOf line d
      top = tree-of line d is.1

      found : IsPairOf line first second top.tree
      found = is_pair top.tree (whole line start d top is.0 at)

      abbrev after : List Token
      after = items_tokens (json.item found.two json.no_items)

      lies : LiesAt line first found.one after
      lies = subst (LiesAt line first found.one) (append-nil after) found.first_lies

      next : BeginsWell after
      next = subst BeginsWell (append-nil after) (begins-well-items (json.item found.two json.no_items) [])

      other-lies : LiesAt line second found.two (items_tokens json.no_items)
      other-lies = subst (LiesAt line second found.two) (append-nil (items_tokens json.no_items)) found.second_lies

      other-next : BeginsWell (items_tokens json.no_items)
      other-next = subst BeginsWell (append-nil (items_tokens json.no_items)) (begins-well-items json.no_items [])

      small : depth (json.array (two_items found.one found.two)) ≤ max_depth
      small = subst (λ j. depth j ≤ max_depth) found.is top.shallow

      -- the line with a literal in the place of the first document
      filled : (literal : Literal) (second : Data) → of_json found.two ≡ Some second → IsJson (replaced line first literal.word) (pair literal.value second)
      filled literal second more =
          replaced-json line d first found.one after lies next is.0 (λ i. in_array json.no_items (json.item found.two json.no_items) i) (in-array json.no_items (json.item found.two json.no_items) (λ i. i) [] alone) top found.is literal (pair literal.value second)
          (omega (arith, small, literal.flat)) (two-reads literal.tree found.two literal.value second literal.read more)

      -- the same of the second
      other-filled : (literal : Literal) (batch : Data) → of_json found.one ≡ Some batch → IsJson (replaced line second literal.word) (pair batch literal.value)
      other-filled literal batch reads =
          replaced-json line d second found.two (items_tokens json.no_items) other-lies other-next is.0 (λ i. in_array (json.item found.one json.no_items) json.no_items i) (in-array (json.item found.one json.no_items) json.no_items (λ i. i) [] alone) top found.is literal (pair batch literal.value)
          (omega (arith, small, literal.flat)) (two-reads found.one literal.tree batch literal.value reads literal.read)

      first-last : is_space (get_or line (first.end - 1) 0) ≡ false
      first-last = ends-solid line first.start first.end (begins-solid line d first found.one after lies next is.0) lies.extent lies.some (ends-within line d first found.one after lies next is.0)

      other-last : is_space (get_or line (second.end - 1) 0) ≡ false
      other-last =
          ends-solid line second.start second.end (begins-solid line d second found.two (items_tokens json.no_items) other-lies other-next is.0) other-lies.extent other-lies.some (ends-within line d second found.two (items_tokens json.no_items) other-lies other-next is.0)

    pub parts : (d : Data) → IsJson line d → ArePartsOf line first second d
    unfolding found top
    parts d is =
        let top = tree-of line d is.1 in
        let found = is_pair top.tree (whole line start d top is.0 at) in
        let read = pair-read found.one found.two d (ap of_json (sym found.is) ∙ top.reads) in
        let shallow : depth (json.array (two_items found.one found.two)) ≤ max_depth = subst (λ j. depth j ≤ max_depth) found.is top.shallow in
        record {
          batch = read.first;
          second = read.second;
          is = read.is;
          order = order;
          first_place = record {
            text = text-at line first found.one read.first found.first_text read.reads (omega (arith, shallow));
            with_null = filled d is null_literal read.second read.more;
            with_true = filled d is true_literal read.second read.more;
            cut = λ more. lex-front between (take first.start line) more found.first_lies.clear;
            last = first-last d is;
          };
          other_place = record {
            text = text-at line second found.two read.second found.second_text read.more (omega (arith, shallow));
            with_null = other-filled d is null_literal read.first read.reads;
            with_true = other-filled d is true_literal read.first read.reads;
            cut = λ more. lex-front between (take second.start line) more found.second_lies.clear;
            last = other-last d is;
          };
        }

    module _ (place : Place) (span : Span) where
      in-one : ((batch other : Data) → IsTextAt line first batch → IsTextAt line second other → cond (is_in_batch place) (LiesInPart line first span batch place) (LiesInPart line second span other place)) → LiesInPair line span place
      in-one lies = record {
        pairs = λ batch other is.
            (let found = parts (pair batch other) is in
            record { first = first; other = second; parts = found; lies = lies found.batch found.second found.first_place.text found.other_place.text });
        others = λ d is none. (let found = parts d is in absurd (none found.batch found.second found.is));
      }

      in-first : is_in_batch place ≡ true → ((d : Data) → IsTextAt line first d → LiesInPart line first span d place) → LiesInPair line span place
      in-first same lies = in-one (λ batch other one two. subst (λ b. cond b (LiesInPart line first span batch place) (LiesInPart line second span other place)) (sym same) (lies batch one))

      in-second : is_in_batch place ≡ false → ((d : Data) → IsTextAt line second d → LiesInPart line second span d place) → LiesInPair line span place
      in-second same lies = in-one (λ batch other one two. subst (λ b. cond b (LiesInPart line first span batch place) (LiesInPart line second span other place)) (sym same) (lies other two))

    module _ (place : Place) where
      pub if-first : (r : Result Span AllocError) → is_in_batch place ≡ true → IfOk r (λ span. (d : Data) → IsTextAt line first d → LiesInPart line first span d place) → IfOk r (λ span. LiesInPair line span place)
      if-first (Ok span) same lies = in-first place span same lies
      if-first (Err e) same lies = tt

      pub if-second : (r : Result Span AllocError) → is_in_batch place ≡ false → IfOk r (λ span. (d : Data) → IsTextAt line second d → LiesInPart line second span d place) → IfOk r (λ span. LiesInPair line span place)
      if-second (Ok span) same lies = in-second place span same lies
      if-second (Err e) same lies = tt

  -- what was found of the documents of the line
  pub documents-found : (found : Option (Span × Span)) → GivesPair line start found → IfSome found (λ f. (d : Data) → IsJson line d → ArePartsOf line f.0 f.1 d)
  documents-found None gives = tt
  documents-found (Some (first, second)) gives = parts first second gives.2 gives.3

  pub documents-within : (found : Option (Span × Span)) → GivesPair line start found → IfSome found (λ f. IsWithin (length line) (Some f.0) × IsWithin (length line) (Some f.1))
  documents-within None gives = tt
  documents-within (Some (first, second)) gives = (gives.0, gives.1)

  pub no-documents : (found : Option (Span × Span)) → GivesPair line start found → found ≡ None → (batch second : Data) → ¬ IsJson line (pair batch second)
  no-documents None gives same = no-pair gives
  no-documents (Some found) gives same = absurd (cc (same))

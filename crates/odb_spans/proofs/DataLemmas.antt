-- The elements in the tree of a document, and a member of each, are those of its data.
use Rattle.std.proofs.Common.{◌≡◌, ◌∙◌, ℕ, ◌≤◌, max, List, [], ◌∷◌, Bool, true, false, cond, Option, Some, None, option_map, option_and_then, unwrap_or, bytes_eq, refl, sym, ap, subst, arith}
use Rattle.std.specs.Prelude.{⊤}
use Rattle.std.specs.List.{AllZip}
use Rattle.json.specs.Json as json
use Rattle.json.specs.Find.{later_or}
use Rattle.json.specs.Find as tree
use Rattle.json.specs.Tree.{depth, items_depth, members_depth}
use Rattle.serde_json.specs.Data.{Data, null, boolean, number, string, array, object, Items, no_items, item, no_members}
use Rattle.serde_json.specs.Find.{get_member, as_array}
use Rattle.serde_json.specs.Read.{number_of, of_json, of_items, of_members, max_depth}
use Rattle.odb_doc.specs.Members.{elements_at, given}
use Rattle.odb_doc.specs.Members as doc
use Rattle.odb_spans.specs.Spans.{HasMemberAt, member_of}
use Rattle.odb_spans.specs.Parts.{HasMemberText, HaveMemberTexts, IsTextOf, IsValueSpan, given_json, items_in, list_of}
use Rattle.odb_spans.specs.declared.span.Span.{Span}
use Rattle.odb_spans.proofs.LookupLemmas.{Corresponds, get-read}
use Rattle.odb_spans.proofs.ReadLemmas.{nests-tokens, read-tokens}

-- ---- what was read

pub record MapsTo {A : Type 0} (f : A → Data) (o : Option A) (d : Data) : Type 0 where
  pub value : A
  pub some : o ≡ Some value
  pub is : d ≡ f value

pub maps-to : {A : Type 0} (f : A → Data) (o : Option A) (d : Data) → option_map f o ≡ Some d → MapsTo f o d
maps-to f None d e = absurd (cc (e))
maps-to f (Some a) d e = let same : f a ≡ d = cc (e) in record { value = a; some = refl; is = sym same }

-- ---- the depth of what is found

abbrev Within : ℕ → Option json.Json → Type 0
Within n None = ⊤
Within n (Some j) = depth j ≤ n

less : (m n : ℕ) (o : Option json.Json) → m ≤ n → Within m o → Within n o
less m n None le h = tt
less m n (Some j) le h = omega (arith, h)

later-within : (n m : ℕ) (o p : Option json.Json) → Within m o → m ≤ n → Within n p → Within n (later_or o p)
later-within n m None p h le k = k
later-within n m (Some j) p h le k = omega (arith, h)

if-within : (n : ℕ) (b : Bool) (j : json.Json) → depth j ≤ n → Within n (cond b (Some j) None)
if-within n true j h = h
if-within n false j h = tt

member-within : (name : List ℕ) (ms : json.Members) → Within (members_depth ms) (tree.get_member name ms)
member-within name json.no_members = tt
member-within name (json.member k j ms) =
    later-within (max (depth j) (members_depth ms)) (members_depth ms) (tree.get_member name ms) (cond (bytes_eq k name) (Some j) None) (member-within name ms) (omega arith) (if-within _ (bytes_eq k name) j (omega arith))

-- ---- a member of one element

given-member : (name text : List ℕ) (j : json.Json) (d : Data) (span : Span) (o : Option Data) → depth j ≤ 124 → of_json j ≡ Some d → o ≡ Some d → given (Some d) ≡ Some d → IsTextOf text span j → (element : Data) → member_of name element ≡ given o → HasMemberAt name text element (Some span)
given-member name text j d span o shallow reads is kept part element member =
    (d, member ∙ ap given is ∙ kept, record { order = part.order; within = part.within; reads = (part.utf8, read-tokens _ j part.spelled (omega (arith, shallow)) ∙ reads); nests = nests-tokens _ j part.spelled 124 shallow })

-- what was read of a value other than null is not null
kept : (j i : json.Json) (d : Data) → given_json (Some j) ≡ Some i → of_json j ≡ Some d → (given (Some d) ≡ Some d) × (j ≡ i)
kept json.null i d e reads = absurd (cc (e))
kept (json.boolean b) i d e reads = let h = maps-to {A = ⊤} (λ _. boolean b) (Some tt) d reads in (subst (λ x. given (Some x) ≡ Some x) (sym h.is) refl, cc (e))
kept (json.number s) i d e reads = let h = maps-to number (number_of s) d reads in (subst (λ x. given (Some x) ≡ Some x) (sym h.is) refl, cc (e))
kept (json.string s) i d e reads = let h = maps-to {A = ⊤} (λ _. string s) (Some tt) d reads in (subst (λ x. given (Some x) ≡ Some x) (sym h.is) refl, cc (e))
kept (json.array js) i d e reads = let h = maps-to array (of_items js) d reads in (subst (λ x. given (Some x) ≡ Some x) (sym h.is) refl, cc (e))
kept (json.object ms) i d e reads = let h = maps-to object (of_members ms no_members) d reads in (subst (λ x. given (Some x) ≡ Some x) (sym h.is) refl, cc (e))

-- what was read of a value that is treated as absent is so too
absent : (j : json.Json) (d : Data) → given_json (Some j) ≡ None → of_json j ≡ Some d → given (Some d) ≡ None
absent json.null d e reads = let same : null ≡ d = cc (reads) in ap (λ x. given (Some x)) (sym same)
absent (json.boolean b) d e reads = absurd (cc (e))
absent (json.number s) d e reads = absurd (cc (e))
absent (json.string s) d e reads = absurd (cc (e))
absent (json.array js) d e reads = absurd (cc (e))
absent (json.object ms) d e reads = absurd (cc (e))

member-found : (name text : List ℕ) (o : Option json.Json) (p : Option Data) (span : Option Span) (element : Data) → member_of name element ≡ given p → Corresponds o p None → Within 124 o → IsValueSpan text span (given_json o) → HasMemberAt name text element span
member-found name text None p None element member same shallow is = member ∙ ap given same
member-found name text None p (Some s) element member same shallow is = absurd (cc (is.1))
member-found name text (Some j) p None element member same shallow is = member ∙ ap given same.is ∙ absent j same.value is same.read
member-found name text (Some j) p (Some s) element member same shallow is =
    let h = kept j is.0 same.value is.1 same.read in
    given-member name text j same.value s p shallow same.read same.is h.0 (subst (IsTextOf text s) (sym h.1) is.2) element member

no-member : (name text : List ℕ) (span : Option Span) (element : Data) → member_of name element ≡ None → IsValueSpan text span None → HasMemberAt name text element span
no-member name text None element member is = member
no-member name text (Some s) element member is = absurd (cc (is.1))

member-data : (name text : List ℕ) (j : json.Json) (d : Data) (span : Option Span) → depth j ≤ 125 → of_json j ≡ Some d → HasMemberText name text j span → HasMemberAt name text d span
member-data name text json.null d span shallow reads is = let same : null ≡ d = cc (reads) in no-member name text span d (ap (member_of name) (sym same)) is
member-data name text (json.boolean b) d span shallow reads is = let same : boolean b ≡ d = cc (reads) in no-member name text span d (ap (member_of name) (sym same)) is
member-data name text (json.number s) d span shallow reads is = let h = maps-to number (number_of s) d reads in no-member name text span d (ap (member_of name) h.is) is
member-data name text (json.string s) d span shallow reads is = let same : string s ≡ d = cc (reads) in no-member name text span d (ap (member_of name) (sym same)) is
member-data name text (json.array js) d span shallow reads is = let h = maps-to array (of_items js) d reads in no-member name text span d (ap (member_of name) h.is) is
member-data name text (json.object ms) d span shallow reads is =
    let h = maps-to object (of_members ms no_members) d reads in
    let found = get-read name ms h.value h.some in
    member-found name text (tree.get_member name ms) (get_member name h.value) span d (ap (member_of name) h.is) found (less (members_depth ms) 124 (tree.get_member name ms) (omega (arith, shallow)) (member-within name ms)) is

-- ---- a member of each element

pub record ItemsRead (j : json.Json) (js : json.Items) (ds : Items) : Type 0 where
  pub first : Data
  pub others : Items
  pub reads : of_json j ≡ Some first
  pub more : of_items js ≡ Some others
  pub is : ds ≡ item first others

rest-read : (j : json.Json) (js : json.Items) (d : Data) (ds : Items) (o : Option Items) → of_json j ≡ Some d → of_items js ≡ o → option_map (item d) o ≡ Some ds → ItemsRead j js ds
rest-read j js d ds None reads more e = absurd (cc (e))
rest-read j js d ds (Some us) reads more e = let same : item d us ≡ ds = cc (e) in record { first = d; others = us; reads = reads; more = more; is = sym same }

pub item-read : (j : json.Json) (js : json.Items) (ds : Items) (o : Option Data) → of_json j ≡ o → option_and_then (λ d. option_map (item d) (of_items js)) o ≡ Some ds → ItemsRead j js ds
item-read j js ds None reads e = absurd (cc (e))
item-read j js ds (Some d) reads e = rest-read j js d ds (of_items js) reads refl e

-- what is read of the item of the tree
abbrev pub IsReadItem : json.Json → Data → Type 0
IsReadItem j d = (of_json j ≡ Some d) × (depth j ≤ 125)

items-read : (js : json.Items) (ds : Items) → items_depth js ≤ 125 → of_items js ≡ Some ds → AllZip IsReadItem (list_of js) (doc.list_of ds)
items-read json.no_items ds shallow e = let same : no_items ≡ ds = cc (e) in subst (λ x. AllZip IsReadItem [] (doc.list_of x)) same tt
items-read (json.item j js) ds shallow e =
    let h = item-read j js ds (of_json j) refl e in
    subst (λ x. AllZip IsReadItem (j ∷ list_of js) (doc.list_of x)) (sym h.is) ((h.reads, omega (arith, shallow)), items-read js h.others (omega (arith, shallow)) h.more)

abbrev listed : Option Data → List Data
listed o = unwrap_or (option_map doc.list_of (option_and_then as_array o)) []

none-listed : (o : Option Data) → listed o ≡ [] → AllZip IsReadItem [] (listed o)
none-listed o none = subst (AllZip IsReadItem []) (sym none) tt

value-listed : (j : json.Json) (d : Data) → depth j ≤ 126 → of_json j ≡ Some d → AllZip IsReadItem (items_in (Some j)) (listed (Some d))
value-listed json.null d shallow reads = let same : null ≡ d = cc (reads) in none-listed (Some d) (ap (λ x. listed (Some x)) (sym same))
value-listed (json.boolean b) d shallow reads = let same : boolean b ≡ d = cc (reads) in none-listed (Some d) (ap (λ x. listed (Some x)) (sym same))
value-listed (json.number s) d shallow reads = let h = maps-to number (number_of s) d reads in none-listed (Some d) (ap (λ x. listed (Some x)) h.is)
value-listed (json.string s) d shallow reads = let same : string s ≡ d = cc (reads) in none-listed (Some d) (ap (λ x. listed (Some x)) (sym same))
value-listed (json.object ms) d shallow reads = let h = maps-to object (of_members ms no_members) d reads in none-listed (Some d) (ap (λ x. listed (Some x)) h.is)
value-listed (json.array js) d shallow reads =
    let h = maps-to array (of_items js) d reads in
    subst (λ x. AllZip IsReadItem (list_of js) (listed (Some x))) (sym h.is) (items-read js h.value (omega (arith, shallow)) h.some)

found-listed : (o : Option json.Json) (p : Option Data) → Within 126 o → Corresponds o p None → AllZip IsReadItem (items_in o) (listed p)
found-listed None p shallow same = none-listed p (ap listed same)
found-listed (Some j) p shallow same = subst (λ x. AllZip IsReadItem (items_in (Some j)) (listed x)) (sym same.is) (value-listed j same.value shallow same.read)

-- the elements of the array at a member are what is read of its items
pub elements-read : (name : List ℕ) (j : json.Json) (d : Data) → depth j ≤ max_depth → of_json j ≡ Some d → AllZip IsReadItem (items_in (tree.get name j)) (elements_at name d)
elements-read name json.null d shallow reads = let same : null ≡ d = cc (reads) in subst (λ x. AllZip IsReadItem [] (elements_at name x)) same tt
elements-read name (json.boolean b) d shallow reads = let same : boolean b ≡ d = cc (reads) in subst (λ x. AllZip IsReadItem [] (elements_at name x)) same tt
elements-read name (json.number s) d shallow reads = let h = maps-to number (number_of s) d reads in subst (λ x. AllZip IsReadItem [] (elements_at name x)) (sym h.is) tt
elements-read name (json.string s) d shallow reads = let same : string s ≡ d = cc (reads) in subst (λ x. AllZip IsReadItem [] (elements_at name x)) same tt
elements-read name (json.array js) d shallow reads = let h = maps-to array (of_items js) d reads in subst (λ x. AllZip IsReadItem [] (elements_at name x)) (sym h.is) tt
elements-read name (json.object ms) d shallow reads =
    let h = maps-to object (of_members ms no_members) d reads in
    let found = get-read name ms h.value h.some in
    let within = less (members_depth ms) 126 (tree.get_member name ms) (omega (arith, shallow)) (member-within name ms) in
    subst (λ x. AllZip IsReadItem (items_in (tree.get_member name ms)) (elements_at name x)) (sym h.is) (found-listed (tree.get_member name ms) (get_member name h.value) within found)

zip-members : (name text : List ℕ) (js : List json.Json) (ds : List Data) (spans : List (Option Span)) → AllZip IsReadItem js ds → HaveMemberTexts name text js spans → AllZip (HasMemberAt name text) ds spans
zip-members name text [] [] [] reads have = tt
zip-members name text [] [] (s ∷ spans) reads have = absurd have
zip-members name text [] (d ∷ ds) spans reads have = absurd reads
zip-members name text (j ∷ js) [] spans reads have = absurd reads
zip-members name text (j ∷ js) (d ∷ ds) [] reads have = absurd have
zip-members name text (j ∷ js) (d ∷ ds) (s ∷ spans) reads have = (member-data name text j d s reads.0.1 reads.0.0 have.0, zip-members name text js ds spans reads.1 have.1)

pub members-data : (list name text : List ℕ) (j : json.Json) (d : Data) (spans : List (Option Span)) → depth j ≤ max_depth → of_json j ≡ Some d → HaveMemberTexts name text (items_in (tree.get list j)) spans → AllZip (HasMemberAt name text) (elements_at list d) spans
members-data list name text j d spans shallow reads have = zip-members name text (items_in (tree.get list j)) (elements_at list d) spans (elements-read list j d shallow reads) have

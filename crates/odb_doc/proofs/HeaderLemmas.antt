-- Headers put one by one into a map are those of the members so far, in byte order of their names.
use Rattle.std.proofs.Common.{◌≡◌, ◌∙◌, ℕ, true, false, Bool, cond, Option, None, Some, IsSome, option_map, option_and_then, is_some, List, [], ◌∷◌, ◌++◌, map, bytes_eq, String, string_bytes, refl, ap, sym, subst}
use Rattle.std.specs.declared.alloc.Global.{Global}
use Rattle.std.specs.declared.cmp.Ordering.{Ordering}
use Rattle.std.specs.declared.cmp.Ordering.TheVariants.{Less, Equal, Greater}
use Rattle.std.specs.BTreeMap.{insert_entry, is_at}
use Rattle.std.specs.BTreeMap as tree
use Rattle.std.specs.Cmp.Lexicographic.{slice_cmp}
use Rattle.std.specs.List.{list_any, IsDistinct, AllByRecursion}
use Rattle.std.specs.List.Sorted.{IsPermutation, IsStrictlySortedBy}
use Rattle.std.specs.Map.{keys_of, lookup}
use Rattle.std.specs.Ordering.{is_eq, match_ordering, nat_cmp}
use Rattle.std.specs.Str.{str_to_ascii_lowercase}
use Rattle.std.specs.String.{string_cmp}
use Rattle.std.proofs.lemmas.List.{map-append}
use Rattle.std.proofs.lemmas.List.Sorted.{IsPermutation-refl, IsPermutation-trans, IsPermutation-sym, IsPermutation-cons, IsPermutation-middle, IsPermutation-map, IsPermutation-push_more, list_any-IsPermutation}
use Rattle.std.proofs.lemmas.Map.Made.{is_some-lookup}
use Rattle.std.proofs.lemmas.Map.Text.{is_eq-slice_cmp}
use Rattle.serde_json.specs.Data.{Data}
use Rattle.serde_json.specs.Find.{as_str}
use Rattle.serde_json.specs.View.{view, members_view}
use Rattle.odb_doc.specs.declared.broken.Broken.{Broken}
use Rattle.odb_doc.specs.declared.broken.Broken.TheVariants.{Rule, OutOfMemory}
use Rattle.odb_doc.specs.BrokenRules.{OnlyIf}
use Rattle.odb_doc.specs.HeaderMaps.{Entry, Headers, HoldsMembers, AddsMember, RefusesMember}
use Rattle.odb_doc.specs.Headers.{Header, folded, text_members, text_members_in, HoldsHeaders, header_of, headers_in}
use Rattle.odb_doc.specs.Members.{names_of, given}
use Rattle.odb_doc.proofs.FoldedNames.{names_of-text_members}
use Rattle.odb_doc.proofs.DistinctLemmas.{distinct_new}

-- ---- a reason that follows from another

pub OnlyIf-weaker : {R : Type 0} (bad : R) (P Q : Type 0) (why : Broken R) → (P → Q) → OnlyIf bad P why → OnlyIf bad Q why
OnlyIf-weaker bad P Q (Rule rule) reason only = (only.0, reason only.1)
OnlyIf-weaker bad P Q OutOfMemory reason only = tt

-- ---- an insertion into the map

insert_step : {X V : Type 0} (o : Ordering) (v : V) (others : Option V) (e new : X) (es more here : List X) → is_some (cond (is_eq o) (Some v) others) ≡ false → (is_some others ≡ false → IsPermutation (new ∷ es) more)
    → IsPermutation (new ∷ e ∷ es) (match_ordering o (new ∷ e ∷ es) here (e ∷ more))
insert_step Less v others e new es more here absent rest = IsPermutation-refl (new ∷ e ∷ es)
insert_step Equal v others e new es more here absent rest = absurd (cc (absent))
insert_step Greater v others e new es more here absent rest =
    IsPermutation-trans (new ∷ e ∷ es) (e ∷ new ∷ es) (e ∷ more) (IsPermutation-sym _ _ (IsPermutation-middle (e ∷ []) new es)) (IsPermutation-cons e (new ∷ es) more (rest absent))

-- a new key only adds its entry
insert_entry-IsPermutation : {K X : Type 0} (cmp : K → K → Ordering) (es : List (K × X)) (k : K) (v : X) → is_some (lookup (is_at (cmp k)) es) ≡ false → IsPermutation ((k, v) ∷ es) (insert_entry cmp es k v)
insert_entry-IsPermutation cmp [] k v absent = IsPermutation-refl ((k, v) ∷ [])
insert_entry-IsPermutation cmp (e ∷ es) k v absent =
    insert_step (cmp k e.0) e.1 (lookup (is_at (cmp k)) es) e (k, v) es (insert_entry cmp es k v) ((e.0, v) ∷ es) absent (λ none. insert_entry-IsPermutation cmp es k v none)

-- the names stay in order
all_less : (k : String Global) (es : List (String Global × String Global)) → AllByRecursion (λ y. string_cmp k y ≡ Less) (keys_of es) → AllByRecursion (λ y. slice_cmp nat_cmp (string_bytes k) y ≡ Less) (keys_of (map header_of es))
all_less k [] all = tt
all_less k (e ∷ es) all = (all.0, all_less k es all.1)

pub ordered_entries : (es : List (String Global × String Global)) → IsStrictlySortedBy string_cmp (keys_of es) → IsStrictlySortedBy (slice_cmp nat_cmp) (keys_of (map header_of es))
unfolding IsStrictlySortedBy
ordered_entries [] ordered = tt
ordered_entries (e ∷ es) ordered = (all_less e.0 es ordered.0, ordered_entries es ordered.1)

-- ---- a look-up by name

lookup_step : (b : Bool) (v : String Global) (there : Option (List ℕ)) (here : Option (String Global)) → there ≡ option_map string_bytes here → cond b (Some (string_bytes v)) there ≡ option_map string_bytes (cond b (Some v) here)
lookup_step true v there here same = refl
lookup_step false v there here same = same

lookup-headers : (name : List ℕ) (es : List (String Global × String Global)) → lookup (bytes_eq name) (map header_of es) ≡ option_map string_bytes (lookup (is_at (λ k. slice_cmp nat_cmp name (string_bytes k))) es)
lookup-headers name [] = refl
lookup-headers name (e ∷ es) =
    rw (← is_eq-slice_cmp name (string_bytes e.0)) (lookup_step (is_eq (slice_cmp nat_cmp name (string_bytes e.0))) e.1 _ _ (lookup-headers name es))

pub lookup-headers_in : (name : List ℕ) (m : Headers) → lookup (bytes_eq name) (headers_in m) ≡ option_map string_bytes (tree.get_by (λ k. slice_cmp nat_cmp name (string_bytes k)) m)
lookup-headers_in name m = lookup-headers name m.entries

is_some-map : (o : Option (String Global)) → is_some (option_map string_bytes o) ≡ is_some o
is_some-map None = refl
is_some-map (Some v) = refl

has_name : (k : String Global) (m : Headers) → is_some (tree.get string_cmp m k) ≡ true → list_any (bytes_eq (string_bytes k)) (keys_of (headers_in m)) ≡ true
has_name k m found =
    sym (is_some-lookup (bytes_eq (string_bytes k)) (headers_in m)) ∙ ap is_some (lookup-headers_in (string_bytes k) m) ∙ is_some-map (tree.get string_cmp m k) ∙ found

-- ---- the strings of members, and of more

push_step : (name : List ℕ) (text : Option (List ℕ)) (some whole : Option (List Header)) (listed more : List Header) → ((others : List Header) → some ≡ Some others → whole ≡ Some (others ++ more))
    → option_and_then (λ t. option_map (λ headers. (name, t) ∷ headers) some) text ≡ Some listed → option_and_then (λ t. option_map (λ headers. (name, t) ∷ headers) whole) text ≡ Some (listed ++ more)
push_step name None some whole listed more deeper is = absurd (cc (is))
push_step name (Some t) None whole listed more deeper is = absurd (cc (is))
push_step name (Some t) (Some others) whole listed more deeper is =
    let same : (name, t) ∷ others ≡ listed = cc (is) in
    rw (deeper others refl) (ap (λ headers. Some (headers ++ more)) same)

pub text_members-push : (es : List Entry) (e : Entry) (listed : List Header) (text : List ℕ) → as_str (view e.1) ≡ Some text → text_members (members_view es) ≡ Some listed
    → text_members (members_view (es ++ e ∷ [])) ≡ Some (listed ++ (string_bytes e.0, text) ∷ [])
text_members-push [] e listed text is are = let none : [] ≡ listed = cc (are) in rw is (ap (λ headers. Some (headers ++ (string_bytes e.0, text) ∷ [])) none)
text_members-push (x ∷ es) e listed text is are =
    push_step (string_bytes x.0) (as_str (view x.1)) (text_members (members_view es)) _ listed ((string_bytes e.0, text) ∷ []) (λ others some. text_members-push es e others text is some) are

none_step : {T U : Type 0} (o : Option T) (f : T → Option U) → ((t : T) → f t ≡ None) → option_and_then f o ≡ None
none_step None f none = refl
none_step (Some t) f none = none t

pub text_members-other : (es : List Entry) (e : Entry) (rest : List Entry) → as_str (view e.1) ≡ None → text_members (members_view (es ++ e ∷ rest)) ≡ None
text_members-other [] e rest is = rw is refl
text_members-other (x ∷ es) e rest is = none_step (as_str (view x.1)) _ (λ text. rw (text_members-other es e rest is) refl)

text_members-at : (o : Option (List ℕ)) (es : List Entry) (e : Entry) (listed more : List Header) → as_str (view e.1) ≡ o → text_members (members_view es) ≡ Some listed
    → option_map (λ text. listed ++ (string_bytes e.0, text) ∷ []) o ≡ Some more → text_members (members_view (es ++ e ∷ [])) ≡ Some more
text_members-at None es e listed more is are put = absurd (cc (put))
text_members-at (Some text) es e listed more is are put = text_members-push es e listed text is are ∙ put

-- the strings with one more, if it is one
pub text_members-more : (es : List Entry) (e : Entry) (listed more : List Header) → text_members (members_view es) ≡ Some listed
    → option_map (λ text. listed ++ (string_bytes e.0, text) ∷ []) (as_str (view e.1)) ≡ Some more → text_members (members_view (es ++ e ∷ [])) ≡ Some more
text_members-more es e listed more are put = text_members-at (as_str (view e.1)) es e listed more refl are put

names_of-append : (es rest : List Entry) → names_of (members_view (es ++ rest)) ≡ names_of (members_view es) ++ names_of (members_view rest)
names_of-append [] rest = refl
names_of-append (e ∷ es) rest = ap (λ names. string_bytes e.0 ∷ names) (names_of-append es rest)

-- ---- headers so far

pub HoldsMembers-none : (m : Headers) → m.entries ≡ [] → HoldsMembers [] m
unfolding IsStrictlySortedBy
HoldsMembers-none m none = rw none (record { listed = []; are = refl; same = IsPermutation-refl []; ordered = tt })

-- no value, and null
pub HoldsHeaders-absent : (o : Option Data) (m : Headers) → given o ≡ None → m.entries ≡ [] → HoldsHeaders o (headers_in m)
unfolding IsStrictlySortedBy
HoldsHeaders-absent o m absent none = rw none (record { listed = []; are = ap text_members_in absent; same = IsPermutation-refl []; ordered = tt })

-- ---- one member more

pub AddsMember-from : (name : List ℕ) (d : Data) (k v : String Global) (old new : Headers) → string_bytes k ≡ str_to_ascii_lowercase name → as_str d ≡ Some (string_bytes v)
    → is_some (tree.get string_cmp old k) ≡ false → new.entries ≡ insert_entry string_cmp old.entries k v → tree.IsOrdered string_cmp new → AddsMember name d old new
AddsMember-from name d k v old new key text absent inserted ordered = λ es e name_is d_is before.
    let header : Header = (string_bytes e.0, string_bytes v) in
    let put : IsPermutation ((string_bytes k, string_bytes v) ∷ headers_in old) (headers_in new) =
    rw inserted (IsPermutation-map header_of _ _ (insert_entry-IsPermutation string_cmp old.entries k v absent)) in
    let added : IsPermutation (folded header ∷ headers_in old) (headers_in new) = rw (name_is, ← key) put in
    record {
      listed = before.listed ++ header ∷ [];
      are = text_members-push es e before.listed (string_bytes v) (ap as_str d_is ∙ text) before.are;
      same = rw (map-append folded before.listed) (IsPermutation-push_more (map folded before.listed) (headers_in old) (headers_in new) (folded header) before.same added);
      ordered = ordered_entries new.entries ordered;
    }

-- a value that is not a string
pub RefusesMember-other : (name : List ℕ) (d : Data) (old : Headers) → as_str d ≡ None → RefusesMember name d old
RefusesMember-other name d old is = λ es rest e name_is d_is before headers.
    cc (subst IsSome (text_members-other es e rest (ap as_str d_is ∙ is)) headers.texts)

-- a name that is among those before it
pub RefusesMember-twice : (name : List ℕ) (d : Data) (k : String Global) (old : Headers) → string_bytes k ≡ str_to_ascii_lowercase name → is_some (tree.get string_cmp old k) ≡ true → RefusesMember name d old
RefusesMember-twice name d k old key found = λ es rest e name_is d_is before headers.
    let done = map folded before.listed in
    let names = IsPermutation-map (λ (h : Header). h.0) done (headers_in old) before.same in
    let later = map str_to_ascii_lowercase (names_of (members_view rest)) in
    let split : map str_to_ascii_lowercase (names_of (members_view (es ++ e ∷ rest))) ≡ keys_of done ++ string_bytes k ∷ later =
    ap (map str_to_ascii_lowercase) (names_of-append es (e ∷ rest))
    ∙ map-append str_to_ascii_lowercase (names_of (members_view es)) (string_bytes e.0 ∷ names_of (members_view rest))
    ∙ ap (λ front. front ++ str_to_ascii_lowercase (string_bytes e.0) ∷ later) (names_of-text_members (members_view es) before.listed before.are)
    ∙ ap (λ folded_name. keys_of done ++ folded_name ∷ later) (ap str_to_ascii_lowercase name_is ∙ sym key) in
    let any = list_any-IsPermutation (bytes_eq (string_bytes k)) (keys_of done) (keys_of (headers_in old)) names ∙ has_name k old found in
    let new = distinct_new (keys_of done) (string_bytes k) later (subst (IsDistinct bytes_eq) split headers.apart) in
    absurd (cc (new, any))

-- A value without a fault of shape is a batch: what each of its elements reads as.
use Rattle.std.proofs.Common.{◌≡◌, ◌∙◌, ◌||◌, arith, ◌⊎◌, inl, inr, ℕ, Bool, true, false, List, [], ◌∷◌, map, Option, None, Some, IsNone, IsSome, IsSomeAnd, option_map, suc, slice_get, bytes_eq, codes, refl, sym, ap, subst}
use Rattle.std.specs.declared.cmp.Ordering.{Ordering}
use Rattle.std.specs.declared.cmp.Ordering.TheVariants.{Less, Equal, Greater}
use Rattle.std.specs.BTreeMap.{insert_entry}
use Rattle.std.specs.Char.{to_ascii_lowercase}
use Rattle.std.specs.Cmp.Lexicographic.{slice_cmp}
use Rattle.std.specs.List.{AllByRecursion, AllZip, IsDistinct, list_all, list_any}
use Rattle.std.specs.List.Sorted.{IsPermutation, IsStrictlySortedBy}
use Rattle.std.specs.Map.{keys_of}
use Rattle.std.specs.Ordering.{is_eq, match_ordering, nat_cmp, ordering_reverse}
use Rattle.std.proofs.lemmas.Bool.{cases_Bool, cases_order}
use Rattle.std.proofs.lemmas.Cmp.{nat_list_cmp_total}
use Rattle.std.proofs.lemmas.List.Elements.{All-cons, All-nil}
use Rattle.std.proofs.lemmas.List.Sorted.{IsPermutation-refl, IsPermutation-trans, IsPermutation-sym, IsPermutation-cons, IsPermutation-middle, IsPermutation-map, list_any-IsPermutation}
use Rattle.std.proofs.lemmas.List.Sums.{AllPass-from_list_all, list_all-from_AllPass}
use Rattle.std.proofs.lemmas.Map.Text.{is_eq-slice_cmp}
use Rattle.std.proofs.lemmas.Slice.Eq.{bytes_eq-Decides}
use Rattle.serde_json.specs.Data.{Data, Members}
use Rattle.serde_json.specs.Find.{as_object, get}
use Rattle.odb_names.specs.Fronts.{FrontForm, plain, reserved, reference, bad, dollar, is_reserved, Refers, IsFrontOf, HasFront}
use Rattle.odb_names.specs.Identifiers.{is_unreserved, IsRequestId}
use Rattle.odb_names.specs.Methods.{Names, method_name}
use Rattle.odb_names.specs.Runs.{SplitsRun}
use Rattle.odb_names.specs.Segments.{is_in_segment}
use Rattle.odb_names.specs.declared.method.Method.{Method}
use Rattle.odb_names.specs.declared.method.Method.TheVariants.{Delete, Get, Patch, Post, Put}
use Rattle.odb_doc.specs.Headers.{Header, HasHeaders, IsInOrder, folded, header_names, listed_headers}
use Rattle.odb_doc.specs.Members.{given, text_at}
use Rattle.odb_doc.specs.Names.{distinct}
use Rattle.odb_doc.specs.batch.Bodies.{body_of}
use Rattle.odb_doc.specs.batch.LeastFault.{IsWellShaped}
use Rattle.odb_doc.specs.batch.Records.{IsBatchOf, ReadsAs, Record}
use Rattle.odb_doc.specs.batch.References.{RefersTo}
use Rattle.odb_doc.specs.batch.Shapes.{BreaksRequest, HasGroup, HasId, HasMethod, elements, listed_names, url_of}
use Rattle.odb_doc.proofs.FoldedNames.{names_in-text_members_in}
use Rattle.odb_doc.specs.declared.fault.RequestRule.{RequestRule}
use Rattle.odb_doc.specs.declared.fault.RequestRule.TheVariants as request

-- ---- the front of a URL

split_step : (test : ℕ → Bool) (passes : Bool) (x : ℕ) (xs : List ℕ) → test x ≡ passes → (run rest : List ℕ) × SplitsRun test xs run rest → (run rest : List ℕ) × SplitsRun test (x ∷ xs) run rest
split_step test true x xs is (run, rest, splits) = (x ∷ run, rest, record { whole = ap (λ text. x ∷ text) splits.whole; passes = All-cons (λ byte. test byte ≡ true) x run is splits.passes; stops = splits.stops })
split_step test false x xs is (run, rest, splits) =
    ([], x ∷ xs, record { whole = refl; passes = All-nil (λ byte. test byte ≡ true); stops = λ first more begins. let same : x ≡ first = cc (begins) in subst (λ byte. test byte ≡ false) same is })

some_split : (test : ℕ → Bool) (text : List ℕ) → (run rest : List ℕ) × SplitsRun test text run rest
some_split test [] = ([], [], record { whole = refl; passes = All-nil (λ byte. test byte ≡ true); stops = λ first more begins. absurd (cc (begins)) })
some_split test (x ∷ xs) = split_step test (test x) x xs refl (some_split test xs)

-- what begins with `$`, by its run and the rest
referring : (segment run rest : List ℕ) → Refers segment run rest → (front : FrontForm) × IsFrontOf segment front
referring segment run rest refers = elim (cases_Bool (is_reserved run)) [ inl is ↦ (reserved, (run, rest, refers, is)) | inr is ↦ other run rest refers is ]
  where
    other : (run rest : List ℕ) → Refers segment run rest → is_reserved run ≡ false → (front : FrontForm) × IsFrontOf segment front
    other [] rest refers is = (bad, ([], rest, refers, (λ taken. cc (is, taken)), inl refl))
    other (x ∷ run) [] refers is = (reference (x ∷ run), (refers, (λ none. cc (none)), (λ taken. cc (is, taken))))
    other (x ∷ run) (y ∷ rest) refers is = (bad, (x ∷ run, y ∷ rest, refers, (λ taken. cc (is, taken)), inr (λ none. cc (none))))

some_front_of : (segment : List ℕ) → (front : FrontForm) × IsFrontOf segment front
some_front_of [] = (plain, λ after begins. cc (begins))
some_front_of (x ∷ xs) =
    elim (cases_order x dollar) [
      | inl same ↦ let parts = some_split is_unreserved xs in referring (x ∷ xs) parts.0 parts.1 (record { after = xs; begins = ap (λ first. first ∷ xs) same; splits = parts.2 })
      | inr other ↦ (plain, λ after begins. let same : x ≡ dollar = cc (begins) in elim other [ inl below ↦ omega (arith, same, below) | inr above ↦ omega (arith, same, above) ])
    ]

some_front : (url : List ℕ) → (front : FrontForm) × HasFront url front
some_front url =
    let parts = some_split is_in_segment url in
    let front = some_front_of _ in
    (front.0, record { segment = parts.0; first = record { rest = parts.1; splits = parts.2 }; decoded = front.1 })

-- a URL has one front
abbrev pub HasOneFront : Type 0
HasOneFront = (url : List ℕ) (front other : FrontForm) → HasFront url front → HasFront url other → front ≡ other

some_reference : HasOneFront → (url : List ℕ) → ¬ HasFront url bad → (found : Option (List ℕ)) × RefersTo url found
some_reference one url good = at (some_front url).0 (some_front url).1
  where
    none : (front : FrontForm) → HasFront url front → ((id : List ℕ) → ¬ (front ≡ reference id)) → (found : Option (List ℕ)) × RefersTo url found
    none front has differs = (None, λ id refers. differs id (one url front (reference id) has refers))

    at : (front : FrontForm) → HasFront url front → (found : Option (List ℕ)) × RefersTo url found
    at plain has = none plain has (λ id same. cc (same))
    at reserved has = none reserved has (λ id same. cc (same))
    at (reference id) has = (Some id, has)
    at bad has = absurd (good has)

-- ---- identifiers and methods

some_value : {X : Type 0} (o : Option X) → ¬ IsNone o → (x : X) × (o ≡ Some x)
some_value None some = absurd (some refl)
some_value (Some x) some = (x, refl)

is_id : (text : List ℕ) → IsRequestId text ⊎ ¬ IsRequestId text
is_id [] = inr (λ id. id.0 refl)
is_id (x ∷ xs) = elim (cases_Bool (list_all is_unreserved (x ∷ xs))) [
  | inl passes ↦ inl ((λ none. cc (none)), AllPass-from_list_all is_unreserved (x ∷ xs) passes)
  | inr fails ↦ inr (λ id. cc (fails, list_all-from_AllPass is_unreserved (x ∷ xs) id.1))
]

some_id : (d : Data) → ¬ ((id : List ℕ) → ¬ HasId d id) → (id : List ℕ) × HasId d id
some_id d refused = at (text_at (codes "id") d) refl
  where
    at : (text : Option (List ℕ)) → text_at (codes "id") d ≡ text → (id : List ℕ) × HasId d id
    at None is = absurd (refused (λ id has. cc (is, has.text)))
    at (Some text) is = elim (is_id text) [
      | inl form ↦ (text, record { text = is; form = form })
      | inr fails ↦ absurd (refused (λ id has. let same : id ≡ text = cc (is, has.text) in fails (subst IsRequestId same has.form)))
    ]

names_or : (text : List ℕ) (method : Method) → Names text method ⊎ ¬ Names text method
names_or text method =
    let name = map to_ascii_lowercase text in
    let decides = bytes_eq-Decides name (method_name method) in
    elim (cases_Bool (bytes_eq name (method_name method))) [ inl same ↦ inl (decides.0 same) | inr differs ↦ inr (λ same. cc (differs, decides.1 same)) ]

some_method : (text : List ℕ) → ((method : Method) × Names text method) ⊎ ((method : Method) → ¬ Names text method)
some_method text = elim (names_or text Delete) [ inl is ↦ inl (Delete, is) | inr delete ↦ elim (names_or text Get) [ inl is ↦ inl (Get, is) | inr get ↦ elim (names_or text Patch) [ inl is ↦ inl (Patch, is) | inr patch ↦ elim (names_or text Post) [ inl is ↦ inl (Post, is) | inr post ↦ elim (names_or text Put) [ inl is ↦ inl (Put, is) | inr put ↦ inr (none delete get patch post put) ] ] ] ] ]
  where
    none : ¬ Names text Delete → ¬ Names text Get → ¬ Names text Patch → ¬ Names text Post → ¬ Names text Put → (method : Method) → ¬ Names text method
    none delete get patch post put Delete = delete
    none delete get patch post put Get = get
    none delete get patch post put Patch = patch
    none delete get patch post put Post = post
    none delete get patch post put Put = put

method_in : (d : Data) → ¬ ((method : Method) → ¬ HasMethod d method) → (method : Method) × HasMethod d method
method_in d refused = at (text_at (codes "method") d) refl
  where
    at : (text : Option (List ℕ)) → text_at (codes "method") d ≡ text → (method : Method) × HasMethod d method
    at None is = absurd (refused (λ method has. cc (is, has.text)))
    at (Some text) is = elim (some_method text) [
      | inl found ↦ (found.0, record { name = text; text = is; names = found.1 })
      | inr none ↦ absurd (refused (λ method has. let same : has.name ≡ text = cc (is, has.text) in none method (subst (λ name. Names name method) same has.names)))
    ]

some_group : (d : Data) → ¬ ((group : Option (List ℕ)) → ¬ HasGroup d group) → (group : Option (List ℕ)) × HasGroup d group
some_group d refused = absent (given (get (codes "atomicityGroup") d)) refl
  where
    none_of : ¬ (given (get (codes "atomicityGroup") d) ≡ None) → ((group : List ℕ) → ¬ HasGroup d (Some group)) → (group : Option (List ℕ)) → ¬ HasGroup d group
    none_of some other None = some
    none_of some other (Some group) = other group

    at : ¬ (given (get (codes "atomicityGroup") d) ≡ None) → (text : Option (List ℕ)) → text_at (codes "atomicityGroup") d ≡ text → (group : Option (List ℕ)) × HasGroup d group
    at some None is = absurd (refused (none_of some (λ group has. cc (is, has.0))))
    at some (Some text) is = elim (is_id text) [
      | inl form ↦ (Some text, (is, form))
      | inr fails ↦ absurd (refused (none_of some (λ group has. let same : group ≡ text = cc (is, has.0) in fails (subst IsRequestId same has.1))))
    ]

    absent : (o : Option Data) → given (get (codes "atomicityGroup") d) ≡ o → (group : Option (List ℕ)) × HasGroup d group
    absent None is = (None, is)
    absent (Some value) is = at (λ none. cc (is, none)) (text_at (codes "atomicityGroup") d) refl

-- ---- headers

-- one more header, which is above a name
put_above : (name : List ℕ) (h : Header) (es : List Header) → AllByRecursion (λ key. slice_cmp nat_cmp name key ≡ Less) (keys_of es) → slice_cmp nat_cmp name h.0 ≡ Less
    → AllByRecursion (λ key. slice_cmp nat_cmp name key ≡ Less) (keys_of (insert_entry (slice_cmp nat_cmp) es h.0 h.1))
put_above name h [] above less = (less, tt)
put_above name h (e ∷ es) above less = at (slice_cmp nat_cmp h.0 e.0) (put_above name h es above.1 less)
  where
    at : (o : Ordering) → AllByRecursion (λ key. slice_cmp nat_cmp name key ≡ Less) (keys_of (insert_entry (slice_cmp nat_cmp) es h.0 h.1))
        → AllByRecursion (λ key. slice_cmp nat_cmp name key ≡ Less) (keys_of (match_ordering o ((h.0, h.1) ∷ e ∷ es) ((e.0, h.1) ∷ es) (e ∷ insert_entry (slice_cmp nat_cmp) es h.0 h.1)))
    at Less rest = (less, above)
    at Equal rest = above
    at Greater rest = (above.0, rest)

all_above : (name other : List ℕ) (keys : List (List ℕ)) → slice_cmp nat_cmp name other ≡ Less → AllByRecursion (λ key. slice_cmp nat_cmp other key ≡ Less) keys → AllByRecursion (λ key. slice_cmp nat_cmp name key ≡ Less) keys
all_above name other [] less above = tt
all_above name other (key ∷ keys) less above = (nat_list_cmp_total.trans name other key less above.0, all_above name other keys less above.1)

neither : (b c : Bool) → (b || c) ≡ false → (b ≡ false) × (c ≡ false)
neither true c none = absurd (cc (none))
neither false c none = (refl, none)

put_step : (o : Ordering) (h e : Header) (es more : List Header) → slice_cmp nat_cmp h.0 e.0 ≡ o → IsInOrder (e ∷ es) → bytes_eq h.0 e.0 ≡ false → (slice_cmp nat_cmp h.0 e.0 ≡ Greater → AllByRecursion (λ key. slice_cmp nat_cmp e.0 key ≡ Less) (keys_of more)) → IsInOrder more → IsPermutation (h ∷ es) more
    → IsInOrder (match_ordering o (h ∷ e ∷ es) ((e.0, h.1) ∷ es) (e ∷ more)) × IsPermutation (h ∷ e ∷ es) (match_ordering o (h ∷ e ∷ es) ((e.0, h.1) ∷ es) (e ∷ more))
unfolding IsStrictlySortedBy
put_step Less h e es more is ordered differs above after same = (((is, all_above h.0 e.0 (keys_of es) is ordered.0), ordered), IsPermutation-refl (h ∷ e ∷ es))
put_step Equal h e es more is ordered differs above after same = absurd (cc (sym (ap is_eq is) ∙ is_eq-slice_cmp h.0 e.0, differs))
put_step Greater h e es more is ordered differs above after same =
    ((above is, after), IsPermutation-trans (h ∷ e ∷ es) (e ∷ h ∷ es) (e ∷ more) (IsPermutation-sym _ _ (IsPermutation-middle (e ∷ []) h es)) (IsPermutation-cons e (h ∷ es) more same))

-- a header with a new name, put into headers in order
put_in_order : (h : Header) (es : List Header) → IsInOrder es → list_any (bytes_eq h.0) (keys_of es) ≡ false
    → IsInOrder (insert_entry (slice_cmp nat_cmp) es h.0 h.1) × IsPermutation (h ∷ es) (insert_entry (slice_cmp nat_cmp) es h.0 h.1)
unfolding IsStrictlySortedBy
put_in_order h [] ordered apart = ((tt, tt), IsPermutation-refl (h ∷ []))
put_in_order h (e ∷ es) ordered apart =
    let differs = neither (bytes_eq h.0 e.0) (list_any (bytes_eq h.0) (keys_of es)) apart in
    let rest = put_in_order h es ordered.1 differs.1 in
    put_step _ h e es (insert_entry (slice_cmp nat_cmp) es h.0 h.1) refl ordered differs.0
    (λ greater. put_above e.0 h es ordered.0 (nat_list_cmp_total.antisymm e.0 h.0 ∙ ap ordering_reverse greater)) rest.0 rest.1

-- the names of headers that differ
none_equal : (name : List ℕ) (names : List (List ℕ)) → AllByRecursion (λ other. bytes_eq name other ≡ false) names → list_any (bytes_eq name) names ≡ false
none_equal name [] apart = refl
none_equal name (other ∷ names) apart = rw apart.0 (none_equal name names apart.1)

some_order : (headers : List Header) → IsDistinct bytes_eq (keys_of headers) → (ordered : List Header) × IsPermutation headers ordered × IsInOrder ordered
unfolding IsDistinct IsStrictlySortedBy
some_order [] apart = ([], IsPermutation-refl [], tt)
some_order (h ∷ headers) apart =
    let rest = some_order headers apart.1 in
    let name : Header → List ℕ = λ header. header.0 in
    let among : list_any (bytes_eq h.0) (keys_of headers) ≡ list_any (bytes_eq h.0) (keys_of rest.0) = list_any-IsPermutation (bytes_eq h.0) (keys_of headers) (keys_of rest.0) (IsPermutation-map name headers rest.0 rest.1) in
    let put = put_in_order h rest.0 rest.2 (sym among ∙ none_equal h.0 (keys_of headers) apart.0) in
    (insert_entry (slice_cmp nat_cmp) rest.0 h.0 h.1, IsPermutation-trans (h ∷ headers) (h ∷ rest.0) _ (IsPermutation-cons h headers rest.0 rest.1) put.1, put.0)

all_differ : (name : List ℕ) (names : List (List ℕ)) → AllByRecursion (λ other. bytes_eq name other ≡ false) names ⊎ ¬ AllByRecursion (λ other. bytes_eq name other ≡ false) names
all_differ name [] = inl tt
all_differ name (other ∷ names) = elim (cases_Bool (bytes_eq name other)) [
  | inl same ↦ inr (λ all. cc (same, all.0))
  | inr differs ↦ elim (all_differ name names) [ inl rest ↦ inl (differs, rest) | inr fails ↦ inr (λ all. fails all.1) ]
]

are_distinct : (names : List (List ℕ)) → IsDistinct bytes_eq names ⊎ ¬ IsDistinct bytes_eq names
unfolding IsDistinct
are_distinct [] = inl tt
are_distinct (name ∷ names) = elim (all_differ name names) [
  | inr fails ↦ inr (λ apart. fails apart.0)
  | inl differs ↦ elim (are_distinct names) [ inl rest ↦ inl (differs, rest) | inr fails ↦ inr (λ apart. fails apart.1) ]
]

some_headers : (d : Data) → ¬ IsNone (listed_headers d) → ¬ ¬ IsDistinct bytes_eq (header_names d) → (headers : List Header) × HasHeaders d headers
some_headers d texts apart = at (listed_headers d) refl
  where
    at : (listed : Option (List Header)) → listed_headers d ≡ listed → (headers : List Header) × HasHeaders d headers
    at None is = absurd (texts (subst IsNone (sym is) refl))
    at (Some listed) is = elim (are_distinct (header_names d)) [
      | inr fails ↦ absurd (apart fails)
      | inl distinct ↦
          let names : header_names d ≡ keys_of (map folded listed) = names_in-text_members_in (get (codes "headers") d) listed is in
          let ordered = some_order (map folded listed) (subst (IsDistinct bytes_eq) names distinct) in
          (ordered.0, record { listed = listed; are = is; same = ordered.1; ordered = ordered.2 })
    ]

-- ---- a request

-- an element that breaks no rule is a request
some_request : HasOneFront → (d : Data) → ((rule : RequestRule) → ¬ BreaksRequest rule d) → (r : Record) × ReadsAs d r
some_request one d good = at (as_object d) refl
  where
    at : (o : Option Members) → as_object d ≡ o → (r : Record) × ReadsAs d r
    at None is = absurd (good request.NotRequestObject (subst IsNone (sym is) refl))
    at (Some ms) is =
        let object : IsSome (as_object d) = subst IsSome (sym is) refl in
        let id = some_id d (λ none. good request.BadId (object, none)) in
        let method = method_in d (λ none. good request.BadMethod (object, none)) in
        let group = some_group d (λ none. good request.BadGroup (object, none)) in
        let headers = some_headers d (λ none. good request.BadHeaders (object, none)) (good request.HeaderTwice) in
        let url = some_value (url_of d) (λ none. good request.BadUrl (object, none)) in
        let names = some_value (listed_names d) (λ none. good request.BadDependsOn (object, none)) in
        let reference = some_reference one url.0 (λ refers. good request.BadReference (subst (λ o. IsSomeAnd o (λ u. HasFront u bad)) (sym url.1) refers)) in (
          record { id = id.0; method = method.0; url = url.0; group = group.0; names = distinct names.0; reference = reference.0; headers = headers.0; body = body_of d },
          record { id = id.1; method = method.1; url = url.1; group = group.1; names = ap (option_map distinct) names.1; reference = reference.1; headers = headers.1; body = refl },
        )

some_requests : HasOneFront → (ds : List Data) → ((rule : RequestRule) (i : ℕ) (d : Data) → slice_get ds i ≡ Some d → ¬ BreaksRequest rule d) → (rs : List Record) × AllZip ReadsAs ds rs
some_requests one [] good = ([], tt)
some_requests one (d ∷ ds) good =
    let first = some_request one d (λ which. good which 0 d refl) in
    let rest = some_requests one ds (λ rule i. good rule (suc i)) in
    (first.0 ∷ rest.0, (first.1, rest.1))

-- a value without a fault of shape is a batch
pub some_batch : HasOneFront → (value : Data) → IsWellShaped value → (requests : List Record) × IsBatchOf value requests
some_batch one value shaped =
    some_requests one (elements value) (λ rule i d there broken. shaped.1 rule i (subst (λ o. IsSomeAnd o (BreaksRequest rule)) (sym there) broken))

-- The names in `dependsOn` and what they resolve to, one by one.
use Rattle.std.proofs.Common.{◌≡◌, ◌∙◌, ◌+◌, ◌<◌, ℕ, zero, suc, Bool, true, false, cond, List, [], ◌∷◌, ◌++◌, length, take, Option, None, Some, slice_get, refl, ap, sym, arith, Contains, get_or, unwrap_or, option_map}
use Rattle.std.specs.Borrow.{Bor}
use Rattle.std.specs.List.{filter, filter_map, cons_option}
use Rattle.std.proofs.lemmas.List.{append-nil, map-append, take_more}
use Rattle.std.proofs.lemmas.Option.{get_or_from_slice_get, slice_get_within}
use Rattle.odb_doc.proofs.ElementLemmas.{Contains-head, Contains-tail}
use Rattle.odb_doc.specs.Names.{texts_in}
use Rattle.odb_doc.specs.batch.Records.{Record}
use Rattle.odb_check.specs.PlanGraph.{unit_needed}
use Rattle.odb_check.specs.Units.{unit_at}
use Rattle.odb_check.specs.declared.fault.NameRule.TheVariants as rules
use Rattle.odb_check.specs.declared.need.Need.{Need}
use Rattle.odb_check.specs.LeastNameFault.{HasGoodNames}
use Rattle.odb_check.specs.Needs.{further_names, need_of, needs_at}
use Rattle.odb_check.specs.Positions.{names_at, reference_at}
use Rattle.odb_check.proofs.NeedLemmas.{means_nothing}
use Rattle.odb_send.specs.Rests.{is_kept_name, is_kept_need}
use Rattle.odb_send.specs.Units.{marked}

-- each element means something: what they mean, at the same places
each_means : {X Y : Type 0} (f : X → Option Y) (xs ys : List X) → ((x : X) → Contains xs x → (y : Y) × (f x ≡ Some y)) → (k : ℕ) (d : X) → k < length xs → (y : Y) × (slice_get (filter_map f (xs ++ ys)) k ≡ Some y) × (f (get_or xs k d) ≡ Some y)
each_means f [] ys all k d within = absurd (omega arith)
each_means f (x ∷ xs) ys all zero d within =
    let (y, is) = all x (Contains-head x xs) in
    (y, ap (λ o. slice_get (cons_option o (filter_map f (xs ++ ys))) 0) is, is)
each_means f (x ∷ xs) ys all (suc k) d within =
    let (y, is) = all x (Contains-head x xs) in
    let rest = each_means f xs ys (λ z inside. all z (Contains-tail x z xs inside)) k d (omega arith) in
    (rest.0, ap (λ o. slice_get (cons_option o (filter_map f (xs ++ ys))) (suc k)) is ∙ rest.1, rest.2)

-- each name of a batch resolves to something
name_means : (rs : List Record) → HasGoodNames rs → (i : ℕ) (name : List ℕ) → Contains (names_at rs i) name → (need : Need) × (need_of rs name ≡ Some need)
name_means rs good i name listed = by_need (need_of rs name) refl
  where
    by_need : (o : Option Need) → need_of rs name ≡ o → (need : Need) × (need_of rs name ≡ Some need)
    by_need None none = let nothing = means_nothing rs name none in absurd (good rules.UnknownName i (record { name = name; listed = listed; holds = ((λ id. nothing.0 id.0 id.1), (λ group. nothing.1 group.0 group.1)) }))
    by_need (Some need) is = (need, is)

-- the need of the name at k
pub need_there : (rs : List Record) → HasGoodNames rs → (i k : ℕ) → k < length (names_at rs i) → (need : Need) × (slice_get (needs_at rs i) k ≡ Some need) × (need_of rs (get_or (names_at rs i) k []) ≡ Some need)
need_there rs good i k within = each_means (need_of rs) (names_at rs i) (further_names (names_at rs i) (reference_at rs i)) (name_means rs good i) k [] within

pub needs_long : (rs : List Record) → HasGoodNames rs → (i k : ℕ) → k < length (names_at rs i) → k < length (needs_at rs i)
needs_long rs good i k within = let there = need_there rs good i k within in slice_get_within (needs_at rs i) k there.0 there.1

-- whether the name at k is kept
pub kept_there : (rs : List Record) (kept : List Bool) → HasGoodNames rs → (i k : ℕ) (d : Need) → k < length (names_at rs i) → is_kept_name rs kept (get_or (names_at rs i) k []) ≡ marked kept (unit_needed (unit_at rs) (get_or (needs_at rs i) k d))
kept_there rs kept good i k d within =
    let there = need_there rs good i k within in
    ap (is_kept_need rs kept) there.2 ∙ ap (λ need. marked kept (unit_needed (unit_at rs) need)) (sym (get_or_from_slice_get (needs_at rs i) k there.0 d there.1))

-- ---- names that are kept

filter-push : {X : Type 0} (test : X → Bool) (xs : List X) (x : X) → filter test (xs ++ x ∷ []) ≡ filter test xs ++ cond (test x) (x ∷ []) []
filter-push test [] x = refl
filter-push test (y ∷ xs) x = by_first (test y) (filter-push test xs x)
  where
    by_first : (b : Bool) → filter test (xs ++ x ∷ []) ≡ filter test xs ++ cond (test x) (x ∷ []) [] → cond b (y ∷ filter test (xs ++ x ∷ [])) (filter test (xs ++ x ∷ [])) ≡ cond b (y ∷ filter test xs) (filter test xs) ++ cond (test x) (x ∷ []) []
    by_first true rest = ap (λ zs. y ∷ zs) rest
    by_first false rest = rest

texts_more : (names : List (Bor (List ℕ))) (k : ℕ) (d : Bor (List ℕ)) → k < length names → texts_in (take (k + 1) names) ≡ texts_in (take k names) ++ (get_or names k d).now ∷ []
texts_more names k d within = ap texts_in (take_more names k d within) ∙ map-append (λ (text : Bor (List ℕ)). text.now) (take k names) (get_or names k d ∷ [])

pub keep_next : (test : List ℕ → Bool) (names found : List (Bor (List ℕ))) (k : ℕ) (d : Bor (List ℕ)) → k < length names → texts_in found ≡ filter test (texts_in (take k names)) → test (get_or names k d).now ≡ true
    → texts_in (found ++ get_or names k d ∷ []) ≡ filter test (texts_in (take (k + 1) names))
keep_next test names found k d within before is =
    let name = get_or names k d in
    map-append (λ (text : Bor (List ℕ)). text.now) found (name ∷ [])
    ∙ ap (λ (xs : List (List ℕ)). xs ++ name.now ∷ []) before
    ∙ ap (λ b. filter test (texts_in (take k names)) ++ cond b (name.now ∷ []) []) (sym is)
    ∙ sym (filter-push test (texts_in (take k names)) name.now)
    ∙ ap (filter test) (sym (texts_more names k d within))

pub drop_next : (test : List ℕ → Bool) (names found : List (Bor (List ℕ))) (k : ℕ) (d : Bor (List ℕ)) → k < length names → texts_in found ≡ filter test (texts_in (take k names)) → test (get_or names k d).now ≡ false
    → texts_in found ≡ filter test (texts_in (take (k + 1) names))
drop_next test names found k d within before is =
    let name = get_or names k d in
    before
    ∙ sym (append-nil (filter test (texts_in (take k names))))
    ∙ ap (λ b. filter test (texts_in (take k names)) ++ cond b (name.now ∷ []) []) (sym is)
    ∙ sym (filter-push test (texts_in (take k names)) name.now)
    ∙ ap (filter test) (sym (texts_more names k d within))

-- the names of a request
pub names_of : (rs : List Record) (i : ℕ) (r : Record) → slice_get rs i ≡ Some r → names_at rs i ≡ r.names
names_of rs i r here = ap (λ (o : Option Record). unwrap_or (option_map (λ (q : Record). q.names) o) []) here

-- the name at k of those of a request
pub name_there : (names : List (Bor (List ℕ))) (k : ℕ) (d : Bor (List ℕ)) → k < length names → get_or (texts_in names) k [] ≡ (get_or names k d).now
name_there [] k d within = absurd (omega arith)
name_there (name ∷ names) zero d within = refl
name_there (name ∷ names) (suc k) d within = name_there names k d (omega arith)

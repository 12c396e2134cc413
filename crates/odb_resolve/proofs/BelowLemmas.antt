-- What is allowed begins with a root, and stays below it.
use Rattle.std.proofs.Common.{◌≡◌, ℕ, suc, Bool, true, false, cond, ◌&&◌, List, [], ◌∷◌, ◌++◌, Option, Some, None, is_some, option_and_then, ok_or, find, Result, Ok, Err, All, Contains, refl, sym, subst, inl, inr, arith}
use Rattle.std.specs.Borrow.{Bor}
use Rattle.std.proofs.lemmas.Bool.{cases_Bool, and_parts}
use Rattle.std.proofs.lemmas.List.Elements.{All-append}
use Rattle.percent_encoding.specs.Percent.{percent_decode}
use Rattle.odb_resolve.specs.declared.request.Answer.{Answer}
use Rattle.odb_resolve.specs.declared.request.Known.{Known}
use Rattle.odb_resolve.specs.declared.request.Service.{Service}
use Rattle.odb_resolve.specs.declared.refusal.Refusal.{Refusal}
use Rattle.odb_resolve.specs.declared.refusal.Refusal.TheVariants.{Unreadable, Outside}
use Rattle.odb_resolve.specs.Urls.{Url, read_url}
use Rattle.odb_resolve.specs.Joins.{join, extended}
use Rattle.odb_resolve.specs.Safety.{is_safe}
use Rattle.odb_resolve.specs.Roots.{encode, is_in_url, is_root, is_same_origin, is_below, below, sent_with, sent_below, within}
use Rattle.odb_resolve.specs.Resolutions.{allowed, is_unreadable, continues, named_location, place_by, below_place, below_answer, answer_of, url_by}
use Rattle.odb_resolve.specs.Below.{IsSentBelow}
use Rattle.odb_resolve.proofs.EncodedLemmas.{encoded_in_url}
use Rattle.odb_resolve.proofs.FolderLemmas.{folder_passes}

-- what is found is in the list, and passes the test
found : {X : Type 0} (test : X → Bool) (xs : List X) (x : X) → find test xs ≡ Some x → Contains xs x × (test x ≡ true)
found test [] x e = absurd (cc)
found {X} test (y ∷ ys) x e =
    elim (cases_Bool (test y)) [
      | inl passes ↦
          let same : y ≡ x = cc (rw passes at e) in
          ((0, omega arith, same), subst (λ (z : X). test z ≡ true) same passes)
      | inr fails ↦
          let later = found test ys x (rw fails at e) in
          ((suc later.0.0, omega (arith, later.0.1), later.0.2), later.1)
    ]

bound : {A B : Type 0} (o : Option A) (f : A → Option B) (b : B) → option_and_then f o ≡ Some b → (a : A) × (o ≡ Some a) × (f a ≡ Some b)
bound None f b e = absurd (cc)
bound (Some a) f b e = (a, refl, e)

-- a root and what is sent below it
sent_from_root : (roots : List (Bor (List ℕ))) (url : Url) (root : Bor (List ℕ)) (text : List ℕ) → Contains roots root → is_below url (encode url.path) root.now ≡ true → sent_below (encode url.path) url.query root.now ≡ Some text → IsSentBelow roots text
unfolding is_below sent_below
sent_from_root roots url root text listed fits sent =
    let path = encode url.path in
    let parts = and_parts (is_root root.now && is_same_origin url (read_url root.now)) (is_some (below path root.now)) fits in
    let root_is = (and_parts (is_root root.now) (is_same_origin url (read_url root.now)) parts.0).0 in
    let Passes : ℕ → Type 0 = λ byte. is_in_url byte ≡ true in
    let after = bound (below path root.now) (λ (more : List ℕ). sent_with url.query root.now more) text sent in
    let more = after.0 in
    let written_more : All Passes more = folder_passes Passes (percent_decode (read_url root.now).path) path more (encoded_in_url url.path) after.1 in
    let whole_if = after.2 in
    elim (cases_Bool (is_safe ((read_url root.now).path ++ more))) [
      | inl safe ↦
          let whole : root.now ++ more ++ encode url.query ≡ text = cc (rw safe at whole_if) in
          record {
            root = root;
            rest = more;
            query = encode url.query;
            listed = listed;
            root_read = root_is;
            whole = sym whole;
            safe = safe;
            written = All-append Passes more (encode url.query) written_more (encoded_in_url url.query);
          }
      | inr other ↦ absurd (cc (rw other at whole_if))
    ]

within_below : (roots : List (Bor (List ℕ))) (url : Url) (text : List ℕ) → within roots url ≡ Some text → IsSentBelow roots text
unfolding within
within_below roots url text e =
    let first = bound (find (λ (root : Bor (List ℕ)). is_below url (encode url.path) root.now) roots) (λ (root : Bor (List ℕ)). sent_below (encode url.path) url.query root.now) text e in
    let fits = found (λ (root : Bor (List ℕ)). is_below url (encode url.path) root.now) roots first.0 first.1 in
    sent_from_root roots url first.0 text fits.0 fits.1 first.2

some_from_ok : (o : Option (List ℕ)) (text : List ℕ) → ok_or o Outside ≡ Ok text → o ≡ Some text
some_from_ok None text e = absurd (cc)
some_from_ok (Some x) text e = cc

allowed_below : (roots : List (Bor (List ℕ))) (url : Url) (text : List ℕ) → allowed roots url ≡ Ok text → IsSentBelow roots text
allowed_below roots url text e = within_below roots url text (some_from_ok (within roots url) text e)

else_ok : (test : Bool) (refusal : Refusal) (outcome : Result (List ℕ) Refusal) (text : List ℕ) → cond test (Err refusal) outcome ≡ Ok text → outcome ≡ Ok text
else_ok true refusal outcome text e = absurd (cc)
else_ok false refusal outcome text e = e

then_ok : (test : Bool) (refusal : Refusal) (outcome : Result (List ℕ) Refusal) (text : List ℕ) → cond test outcome (Err refusal) ≡ Ok text → outcome ≡ Ok text
then_ok true refusal outcome text e = e
then_ok false refusal outcome text e = absurd (cc)

place_below : (roots : List (Bor (List ℕ))) (rest : List ℕ) (place : Result Url Refusal) (text : List ℕ) → below_place roots rest place ≡ Ok text → IsSentBelow roots text
place_below roots rest (Err refusal) text e = absurd (cc)
place_below roots rest (Ok place) text e =
    allowed_below roots (extended place rest) text (then_ok (continues rest) Unreadable (allowed roots (extended place rest)) text e)

answer_below : (roots : List (Bor (List ℕ))) (rest : List ℕ) (answer : Option Answer) (text : List ℕ) → below_answer roots rest answer ≡ Ok text → IsSentBelow roots text
answer_below roots rest None text e = absurd (cc)
answer_below roots rest (Some answer) text e = place_below roots rest (place_by answer (named_location answer.location)) text e

-- the URL of each request that is sent
pub url_below : (service : Service) (known : List Known) (url : List ℕ) (reference : Option (Bor (List ℕ))) (text : List ℕ) → url_by service known url reference ≡ Ok text → IsSentBelow service.roots.now text
url_below service known url None text e =
    let target = join (read_url service.base.now) (read_url url) in
    allowed_below service.roots.now target text (else_ok (is_unreadable url) Unreadable (allowed service.roots.now target) text e)
url_below service known url (Some id) text e = answer_below service.roots.now url (answer_of known id.now) text e

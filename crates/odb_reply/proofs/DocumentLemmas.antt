-- The responses that elements describe, one by one, and the first element that is not a response.
use Rattle.std.proofs.Common.{◌≡◌, ◌+◌, ◌<◌, ◌≤◌, ℕ, List, [], ◌∷◌, ◌++◌, length, take, get_or, subst, arith}
use Rattle.std.specs.List.{AllZip, All}
use Rattle.std.proofs.lemmas.List.{take_more, take_all, length-take, get_or-take}
use Rattle.std.proofs.lemmas.List.Elements.{All-more, All-nil}
use Rattle.std.proofs.lemmas.Option.{slice_get-get_or}
use Rattle.std.proofs.lemmas.Slice.Zip.{all_zipped_more}
use Rattle.serde_json.specs.Data.{Data}
use Rattle.odb_reply.specs.ResponseDocuments.{IsResponse, Entry, ReadsAs, IsFirstBad}

-- the first n elements describe these responses
pub record AreReadUpTo (ds : List Data) (entries : List Entry) (n : ℕ) : Type 0 where
  pub good : All IsResponse (take n ds)
  pub says : AllZip ReadsAs (take n ds) entries

pub AreReadUpTo-none : (ds : List Data) → AreReadUpTo ds [] 0
AreReadUpTo-none ds = record { good = All-nil IsResponse; says = tt }

-- one element more
pub AreReadUpTo-more : (ds : List Data) (entries : List Entry) (n : ℕ) (d : Data) (entry : Entry) → n < length ds → get_or ds n d ≡ d
    → AreReadUpTo ds entries n → IsResponse d → ReadsAs d entry → AreReadUpTo ds (entries ++ entry ∷ []) (n + 1)
AreReadUpTo-more ds entries n d entry within is before good says = record {
  good = All-more IsResponse ds n d within before.good (rw is good);
  says = rw (take_more ds n d within, is) (all_zipped_more ReadsAs (take n ds) entries d entry before.says says);
}

pub AreReadUpTo-good : (ds : List Data) (entries : List Entry) (n : ℕ) → length ds ≤ n → AreReadUpTo ds entries n → All IsResponse ds
AreReadUpTo-good ds entries n end read = rw (take_all n ds end) at read.good

pub AreReadUpTo-says : (ds : List Data) (entries : List Entry) (n : ℕ) → length ds ≤ n → AreReadUpTo ds entries n → AllZip ReadsAs ds entries
AreReadUpTo-says ds entries n end read = rw (take_all n ds end) at read.says

-- an element that is not a response is the first if those before it are responses
pub IsFirstBad-from : (ds : List Data) (entries : List Entry) (n : ℕ) (d : Data) → n < length ds → get_or ds n d ≡ d
    → AreReadUpTo ds entries n → ¬ IsResponse d → IsFirstBad ds n
IsFirstBad-from ds entries n d within is read bad = record {
  bad = rw (slice_get-get_or ds n d within, is) bad;
  before = λ i less.
      let inside : i < length ds = omega arith in
      let taken : i < length (take n ds) = omega (arith, length-take n ds) in
      let same : get_or (take n ds) i d ≡ get_or ds i d = get_or-take n ds i d less in
      rw (slice_get-get_or ds i d inside) (subst IsResponse same (read.good i d taken));
}

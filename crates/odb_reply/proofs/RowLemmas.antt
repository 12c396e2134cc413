-- The table of the responses: while it is filled, and what it determines of them.
use Rattle.std.proofs.Common.{◌≡◌, ◌∙◌, ◌+◌, ◌<◌, ◌≤◌, ℕ, List, [], ◌∷◌, ◌++◌, length, Some, None, option_map, slice_get, inl, inr, refl, ap, sym, arith}
use Rattle.std.proofs.lemmas.Bool.{cases_lt}
use Rattle.std.proofs.lemmas.List.{length_push}
use Rattle.std.proofs.lemmas.Option.{slice_get_within}
use Rattle.odb_doc.proofs.OneLeast.{by_phase}
use Rattle.odb_doc.specs.batch.Records.{Record}
use Rattle.odb_check.specs.Positions.{id_at}
use Rattle.odb_reply.specs.declared.match_fault.MatchRule.{MatchRule}
use Rattle.odb_reply.specs.declared.match_fault.MatchRule.TheVariants.{ResponseMissing}
use Rattle.odb_doc.specs.declared.rule_fault.RuleFault.TheVariants as faults
use Rattle.odb_reply.specs.ResponseDocuments.{Entry}
use Rattle.odb_reply.specs.Fits.{id_in}
use Rattle.odb_reply.specs.LeastMatchFault.{phase, RefusesMatch}
use Rattle.odb_reply.specs.MatchFaults.{Breaks, number}
use Rattle.odb_reply.specs.Places.{Places, AreNoted, AreListed, IsListed, IsOnce, HasAllPlaces, HasRows, NoneIn}
use Rattle.odb_check.proofs.PositionLemmas.{id_within}
use Rattle.odb_reply.proofs.PlaceLemmas.{none_of_responses, some_phase}
use Rattle.odb_reply.proofs.SliceLemmas.{slice_get-push, map_some, some_and}
use Rattle.odb_sched.proofs.ListLemmas.{slice_get-some}

-- one place more
pub AreListed-more : (es : List Entry) (found : Places) (n k : ℕ) (places statuses : List ℕ) (e : Entry) → AreListed es found n places statuses → slice_get found n ≡ Some (Some k) → slice_get es k ≡ Some e
    → AreListed es found (n + 1) (places ++ k ∷ []) (statuses ++ e.status ∷ [])
AreListed-more es found n k places statuses e before here given = record {
  places_count = length_push places k ∙ ap (λ m. m + 1) before.places_count;
  statuses_count = length_push statuses e.status ∙ ap (λ m. m + 1) before.statuses_count;
  each = each_more;
}
  where
    last : (i j status : ℕ) → i ≡ n → k ≡ j → e.status ≡ status → IsListed es found i j status
    last i j status at_end same is = record {
      found_at = ap (λ m. slice_get found m) at_end ∙ here ∙ ap (λ m. Some (Some m)) same;
      response = e;
      given = ap (λ m. slice_get es m) (sym same) ∙ given;
      status_is = is;
    }

    each_more : (i j status : ℕ) → slice_get (places ++ k ∷ []) i ≡ Some j → slice_get (statuses ++ e.status ∷ []) i ≡ Some status → IsListed es found i j status
    each_more i j status place is = elim (slice_get-push places k j i place) [
      | inl early ↦ elim (slice_get-push statuses e.status status i is) [
        | inl also ↦ before.each i j status early.1 also.1
        | inr late ↦ absurd (omega (arith, early.0, late.0, before.places_count, before.statuses_count))
      ]
      | inr late ↦ elim (slice_get-push statuses e.status status i is) [
        | inl early ↦ absurd (omega (arith, early.0, late.0, before.places_count, before.statuses_count))
        | inr also ↦ last i j status (late.0 ∙ before.places_count) late.1 also.1
      ]
    ]

-- what is listed at a position within
listed_at : (es : List Entry) (found : Places) (n i : ℕ) (places statuses : List ℕ) → AreListed es found n places statuses → i < n → (k : ℕ) × (status : ℕ) × IsListed es found i k status
listed_at es found n i places statuses listed less =
    let place = slice_get-some places i (omega (arith, listed.places_count)) in
    let status = slice_get-some statuses i (omega (arith, listed.statuses_count)) in
    (place.0, status.0, listed.each i place.0 status.0 place.1 status.1)

-- a request whose place was found has a response
none_found : (rs : List Record) (es : List Entry) (found : Places) (i k : ℕ) → AreNoted rs es (length es) found → slice_get found i ≡ Some (Some k) → NoneIn 2 rs es i
none_found rs es found i k noted is ResponseMissing (of_phase, broken) =
    let (id, at, missing) = some_and (id_at rs i) _ broken in
    let there = (noted.noted i k is).1 in
    let same : there.id ≡ id = cc (there.is, at) in
    missing k (there.has ∙ ap Some same)
none_found rs es found i k noted is rule (of_phase, broken) = omega (arith, of_phase)

past_requests : (rs : List Record) (es : List Entry) (i : ℕ) → length rs ≤ i → NoneIn 2 rs es i
past_requests rs es i past ResponseMissing (of_phase, broken) = let (id, at, missing) = some_and (id_at rs i) _ broken in omega (arith, past, id_within rs i id at)
past_requests rs es i past rule (of_phase, broken) = omega (arith, of_phase)

-- no rule of the first two phases is broken, once each response and each request has its place
pub HasAllPlaces-from : (rs : List Record) (es : List Entry) (found : Places) (places statuses : List ℕ) → IsOnce rs → AreNoted rs es (length es) found → AreListed es found (length found) places statuses
    → HasAllPlaces rs es
HasAllPlaces-from rs es found places statuses once noted listed p less rule i (of_phase, broken) = elim (some_phase rule) [
  | inl one ↦ none_of_responses rs es found once noted i rule (one, broken)
  | inr (inl two) ↦ elim (cases_lt i (length rs)) [
    | inl within ↦
        let row = listed_at es found (length found) i places statuses listed (omega (arith, noted.count)) in
        none_found rs es found i row.0 noted row.2.found_at rule (two, broken)
    | inr past ↦ past_requests rs es i past rule (two, broken)
  ]
  | inr (inr three) ↦ omega (arith, less, of_phase, three)
]

-- a request without a place has no response
missing_breaks : (rs : List Record) (es : List Entry) (found : Places) (i : ℕ) → IsOnce rs → AreNoted rs es (length es) found → slice_get found i ≡ Some None → Breaks rs es ResponseMissing i
missing_breaks rs es found i once noted none =
    let within : i < length rs = omega (arith, slice_get_within found i None none, noted.count) in
    let request = slice_get-some rs i within in
    let id : id_at rs i ≡ Some request.0.id = ap (option_map (λ (r : Record). r.id)) request.1 in
    rw request.1 (λ k has.
    let there = noted.each k request.0.id (let e = map_some (λ (e : Entry). e.id) (slice_get es k) request.0.id has in slice_get_within es k e.0 e.1) has in
    let same : there.0 ≡ i = once there.0 i request.0.id there.1 id in
    absurd (cc (there.2, none)))

number_73 : (rule : MatchRule) → phase rule ≡ 2 → 73 ≤ number rule
number_73 ResponseMissing of_phase = omega arith
number_73 rule of_phase = absurd (omega (arith, of_phase))

-- the first request without a place is the first misfit
pub RefusesMatch-missing : (rs : List Record) (es : List Entry) (found : Places) (n : ℕ) (places statuses : List ℕ) → IsOnce rs → AreNoted rs es (length es) found → AreListed es found n places statuses
    → slice_get found n ≡ Some None → RefusesMatch (faults.Broken n ResponseMissing) rs es
RefusesMatch-missing rs es found n places statuses once noted listed none = by_phase phase number (Breaks rs es) 2 n ResponseMissing
    (λ p less rule i broken. elim (some_phase rule) [ inl one ↦ none_of_responses rs es found once noted i rule (one, broken.1) | inr (inl two) ↦ omega (arith, less, broken.0, two) | inr (inr three) ↦ omega (arith, less, broken.0, three) ])
    (record {
      here = record {
        broken = (refl, missing_breaks rs es found n once noted none);
        least = λ other less broken. omega (arith, less, number_73 other broken.0);
      };
      before = λ other i less. let row = listed_at es found n i places statuses listed less in none_found rs es found i row.0 noted row.2.found_at other;
    })

-- the table has the places of the responses, and each request has one
pub HasRows-from : (rs : List Record) (es : List Entry) (found : Places) (places statuses : List ℕ) → IsOnce rs → AreNoted rs es (length es) found → AreListed es found (length found) places statuses
    → HasRows rs es places statuses
HasRows-from rs es found places statuses once noted listed = record {
  table = record {
    places_count = listed.places_count ∙ noted.count;
    statuses_count = listed.statuses_count ∙ noted.count;
    each = λ i k status place is.
        let row = listed.each i k status place is in
        let there = (noted.noted i k row.found_at).1 in
        let same : row.response.id ≡ there.id = cc (ap (option_map (λ (e : Entry). e.id)) row.given, there.has) in
        record {
          entry = row.response;
          given = row.given;
          id = there.is ∙ ap Some (sym same);
          status_is = row.status_is;
        };
  };
  only = λ i k e responds place.
      let has : id_in es responds.place ≡ Some e.id = ap (option_map (λ (e : Entry). e.id)) responds.given in
      let there = noted.each responds.place e.id (slice_get_within es responds.place e responds.given) has in
      let position : there.0 ≡ i = once there.0 i e.id there.1 responds.id in
      let within : i < length statuses = omega (arith, slice_get_within places i k place, listed.places_count, listed.statuses_count) in
      let status = slice_get-some statuses i within in
      let row = listed.each i k status.0 place status.1 in
      let same : responds.place ≡ k = cc (there.2, row.found_at, ap (slice_get found) position) in
      ap (slice_get es) (sym same) ∙ responds.given;
}

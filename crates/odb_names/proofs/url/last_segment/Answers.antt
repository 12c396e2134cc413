-- The path is cut after its last `/`, or not at all.
use Rattle.std.proofs.Common.{◌≡◌, ◌+◌, ◌<◌, ℕ, List, [], ◌∷◌, ◌++◌, length, take, drop, get_or, refl, sym, subst, inl, inr, ◌∙◌, ap}
use Rattle.std.proofs.lemmas.List.{take_more, take_rest, take-append-drop}
use Rattle.odb_names.specs.Runs.{SplitsRun}
use Rattle.odb_names.specs.Segments.{slash, HasNoSlash, is_in_path, IsLastSegment}
use Rattle.odb_names.proofs.url.last_segment.Goals as goal

-- the part after a `/` of the path, if no other one follows, is the last segment
after_slash : (url path rest : List ℕ) (i : ℕ) → SplitsRun is_in_path url path rest → i < length path → get_or path i 0 ≡ slash → HasNoSlash (drop (i + 1) path) → IsLastSegment url (drop (i + 1) path)
after_slash url path rest i splits within found none = record {
  before = take (i + 1) path;
  rest = rest;
  path = subst (λ (whole : List ℕ). SplitsRun is_in_path url whole rest) (sym (take-append-drop (i + 1) path)) splits;
  starts = inr (take i path, take_more path i 0 within ∙ ap (λ byte. take i path ++ byte ∷ []) found);
  inside = none;
}

pub returns-in-Some : goal.returns-in-Some
returns-in-Some c =
    rw take_rest (after_slash _ _ _ _ c.split_run.ensures c.in-Some.ensures.bound c.in-Some.ensures.found c.in-Some.ensures.last)

pub returns-in-None : goal.returns-in-None
returns-in-None c = record {
  before = [];
  rest = c.split_run.result.1.now;
  path = c.split_run.ensures;
  starts = inl refl;
  inside = c.in-None.ensures.none;
}

-- A text is split in one way into its longest run and the rest.
use Rattle.std.proofs.Common.{◌≡◌, ℕ, Bool, true, false, List, [], ◌∷◌, ◌++◌, refl}
use Rattle.std.specs.List.{AllPass}
use Rattle.std.proofs.lemmas.List.Elements.{All-head, All-tail}
use Rattle.odb_names.specs.Runs.{SplitsRun}

-- the rest does not begin with a character that passes
abbrev Stops : (ℕ → Bool) → List ℕ → Type 0
Stops test rest = (first : ℕ) (more : List ℕ) → rest ≡ first ∷ more → test first ≡ false

-- by the characters of the two runs, one by one
same_split : (test : ℕ → Bool) (run rest run' rest' : List ℕ) → AllPass test run → Stops test rest → AllPass test run' → Stops test rest' → run ++ rest ≡ run' ++ rest' → (run ≡ run') × (rest ≡ rest')
same_split test [] rest [] rest' _ _ _ _ same = (refl, same)
same_split test [] rest (x ∷ run') rest' _ stops passes' _ same =
    let fails = stops x (run' ++ rest') same in
    let first_passes = All-head (λ byte. test byte ≡ true) x run' passes' in
    cc
same_split test (x ∷ run) rest [] rest' passes _ _ stops' same =
    let fails = stops' x (run ++ rest) (cc) in
    let first_passes = All-head (λ byte. test byte ≡ true) x run passes in
    cc
same_split test (x ∷ run) rest (y ∷ run') rest' passes stops passes' stops' same =
    let Passes : ℕ → Type 0 = λ byte. test byte ≡ true in
    let tails : (run ≡ run') × (rest ≡ rest') = same_split test run rest run' rest' (All-tail Passes x run passes) stops (All-tail Passes y run' passes') stops' (cc) in
    let runs : run ≡ run' = tails.0 in
    ((cc), tails.1)

-- the runs are the same, and so are the rests
pub same_run : {test : ℕ → Bool} {text run rest run' rest' : List ℕ} → SplitsRun test text run rest → SplitsRun test text run' rest' → (run ≡ run') × (rest ≡ rest')
same_run {test} {text} {run} {rest} {run'} {rest'} one other =
    same_split test run rest run' rest' one.passes one.stops other.passes other.stops (cc (one.whole, other.whole))

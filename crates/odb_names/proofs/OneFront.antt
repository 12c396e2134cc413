-- A URL has one front.
use Rattle.std.proofs.Common.{◌≡◌, ℕ, List, refl, subst, ap, inl, inr}
use Rattle.percent_encoding.specs.Percent.{percent_decode}
use Rattle.odb_names.specs.Fronts.{FrontForm, plain, reserved, reference, bad, IsReserved, Refers, IsFrontOf, HasFront}
use Rattle.odb_names.specs.Runs.{SplitsRun}
use Rattle.odb_names.specs.Identifiers.{is_unreserved}
use Rattle.odb_names.proofs.OneRun.{same_run}

-- a segment refers in one way
same_refers : {segment run rest run' rest' : List ℕ} → Refers segment run rest → Refers segment run' rest' → (run ≡ run') × (rest ≡ rest')
same_refers {segment} {run} {rest} {run'} {rest'} one other =
    let same : one.after ≡ other.after = cc (one.begins, other.begins) in
    same_run (subst (λ (after : List ℕ). SplitsRun is_unreserved after run rest) same one.splits) other.splits

-- a segment that does not begin with `$` refers to nothing
plain_refers : {segment run rest : List ℕ} → IsFrontOf segment plain → Refers segment run rest → ⊥
plain_refers is_plain one = is_plain one.after one.begins

-- a segment has one front
same_front : (segment : List ℕ) (front other : FrontForm) → IsFrontOf segment front → IsFrontOf segment other → other ≡ front
same_front segment plain plain p q = refl
same_front segment plain reserved p q = absurd (plain_refers p q.2)
same_front segment plain (reference run) p q = absurd (plain_refers p q.0)
same_front segment plain bad p q = absurd (plain_refers p q.2)
same_front segment reserved plain p q = absurd (plain_refers q p.2)
same_front segment reserved reserved p q = refl
same_front segment reserved (reference run) p q =
    absurd (q.2 (subst IsReserved (same_refers p.2 q.0).0 p.3))
same_front segment reserved bad p q = absurd (q.3 (subst IsReserved (same_refers p.2 q.2).0 p.3))
same_front segment (reference run) plain p q = absurd (plain_refers q p.0)
same_front segment (reference run) reserved p q =
    absurd (p.2 (subst IsReserved (same_refers q.2 p.0).0 q.3))
same_front segment (reference run) (reference run') p q = ap reference (same_refers q.0 p.0).0
same_front segment (reference run) bad p q =
    let same = same_refers p.0 q.2 in
    elim q.4 [ inl none ↦ absurd (p.1 (cc)) | inr some ↦ absurd (some (cc)) ]
same_front segment bad plain p q = absurd (plain_refers q p.2)
same_front segment bad reserved p q = absurd (p.3 (subst IsReserved (same_refers q.2 p.2).0 q.3))
same_front segment bad (reference run) p q =
    let same = same_refers q.0 p.2 in
    elim p.4 [ inl none ↦ absurd (q.1 (cc)) | inr some ↦ absurd (some (cc)) ]
same_front segment bad bad p q = refl

-- two fronts of a URL are the same
pub one_front : (url : List ℕ) (front other : FrontForm) → HasFront url front → HasFront url other → other ≡ front
one_front url front other one two =
    let same : two.segment ≡ one.segment = (same_run two.first.splits one.first.splits).0 in
    same_front (percent_decode one.segment) front other one.decoded (subst (λ (segment : List ℕ). IsFrontOf (percent_decode segment) other) same two.decoded)

use Rattle.std.proofs.Common.{◌≡◌, ◌≢◌, ◌∙◌, [], ◌<◌, ℕ, Bool, List, Option, None, Some, length, get_or, refl, sym, ap, subst, arith}
use Rattle.std.specs.Prelude.{string_bytes}
use Rattle.std.proofs.lemmas.Bool.{true≢false}
use Rattle.odb_doc.specs.batch.Records.{Record, record_of}
use Rattle.odb_check.specs.Plans.{plan_records}
use Rattle.odb_check.specs.Units.{referred_at}
use Rattle.std.specs.Borrow.{Bor}
use Rattle.odb_send.specs.Answers.{Answer, answers_in, text_of}
use Rattle.odb_send.specs.declared.answers.Recorded.{Recorded}
use Rattle.odb_send.specs.Rests.{IsPlain, Leaves}
use Rattle.odb_send.specs.Rests.IsUrl.{same}
use Rattle.odb_send.proofs.UrlLemmas.{referred_within, url_made, lacks_recorded, lacks_plain, answered_at, one_position, within_if}
use Rattle.odb_send.proofs.urls.url_of.Goals as goal

pub if_left-requires-clause-referred : goal.if_left-requires-clause-referred
if_left-requires-clause-referred c =
    let rs = plan_records c.args.plan.now in
    within_if c.referred.result (length rs) (λ p is. referred_within rs c.args.i p (sym c.referred.ensures ∙ is))

pub bounds : goal.bounds
bounds c =
    let rs = plan_records c.args.plan.now in
    let leaves = c.in-Some.ensures (referred_at rs) c.args.i c.requires.stays (sym c.referred.ensures) in
    omega (arith, referred_within rs c.args.i c.in-Some.p leaves.refers, c.requires.answers)

pub returns-in_default-clause-url : goal.returns-in_default-clause-url
returns-in_default-clause-url c = same (c.in_default.ensures (referred_at (plan_records c.args.plan.now)) c.args.i c.requires.stays (sym c.referred.ensures))

pub returns-in_default-clause-missing : goal.returns-in_default-clause-missing
returns-in_default-clause-missing c p leaves none = absurd (c.in_default.ensures (referred_at (plan_records c.args.plan.now)) c.args.i c.requires.stays (sym c.referred.ensures) p leaves)

-- what is recorded for the request that the URL refers to
there : (rs : List Record) (kept : List Bool) (found : List Recorded) (i p : ℕ) (d : Recorded) (o : Option (Bor (List ℕ))) → length found ≡ length rs → Leaves rs kept i p → (get_or found p d).location ≡ o → (answers_in found p).location ≡ text_of o
there rs kept found i p d o count leaves is =
    let within : p < length found = omega (arith, referred_within rs i p leaves.refers, count) in
    ap (λ (a : Answer). a.location) (answered_at found p d within) ∙ ap text_of is

pub returns-in_default-location-clause-lacks : goal.returns-in_default-location-clause-lacks
returns-in_default-location-clause-lacks c =
    let rs = plan_records c.args.plan.now in
    let kept = c.args.kept.now in
    let found = c.args.answers.now in
    let leaves = c.in-Some.ensures (referred_at rs) c.args.i c.requires.stays (sym c.referred.ensures) in
    let recorded = there rs kept found c.args.i c.in-Some.p _ None c.requires.answers leaves c.in_default-location.is in
    (refl, refl, lacks_recorded rs kept (answers_in found) c.args.i c.in-Some.p leaves recorded)

pub returns-then-branch-clause-url : goal.returns-then-branch-clause-url
returns-then-branch-clause-url c =
    let rs = plan_records c.args.plan.now in
    let kept = c.args.kept.now in
    let found = c.args.answers.now in
    let location = c.in-Some-location.location in
    let made = string_bytes c.in_ok-made.made in
    let leaves = c.in-Some.ensures (referred_at rs) c.args.i c.requires.stays (sym c.referred.ensures) in
    let recorded = there rs kept found c.args.i c.in-Some.p _ (Some location) c.requires.answers leaves c.in-Some-location.is in
    let usable = c.in_ok-is_usable.ensures.0 c.if-branch.true in
    let plain : IsPlain made = subst IsPlain c.as_str.ensures.value usable.1 in
    url_made rs kept (answers_in found) c.args.i c.in-Some.p (record_of c.request.result.now) location.now made leaves c.request.ensures.value recorded usable.0 c.in_ok-made.ensures plain

pub returns-else-branch-clause-lacks : goal.returns-else-branch-clause-lacks
returns-else-branch-clause-lacks c =
    let rs = plan_records c.args.plan.now in
    let kept = c.args.kept.now in
    let found = c.args.answers.now in
    let location = c.in-Some-location.location in
    let made = string_bytes c.in_ok-made.made in
    let leaves = c.in-Some.ensures (referred_at rs) c.args.i c.requires.stays (sym c.referred.ensures) in
    let recorded = there rs kept found c.args.i c.in-Some.p _ (Some location) c.requires.answers leaves c.in-Some-location.is in
    let bad : ¬ ((location.now ≢ []) × IsPlain made) = λ usable. true≢false (sym (c.in_ok-is_usable.ensures.1 (usable.0, subst IsPlain (sym c.as_str.ensures.value) usable.1)) ∙ c.if-branch.false) in
    (refl, refl, lacks_plain rs kept (answers_in found) c.args.i c.in-Some.p (record_of c.request.result.now) location.now made leaves c.request.ensures.value recorded c.in_ok-made.ensures bad)

-- a Location is recorded for it
never : (rs : List Record) (kept : List Bool) (found : List Recorded) (i p q : ℕ) (d : Recorded) (location : Bor (List ℕ)) → length found ≡ length rs → Leaves rs kept i p → (get_or found p d).location ≡ Some location
    → Leaves rs kept i q → (answers_in found q).location ≡ None → ⊥
never rs kept found i p q d location count leaves recorded other none =
    let same : p ≡ q = one_position rs kept (referred_at rs) i p q leaves other in
    let bad : None ≡ Some location.now = sym none ∙ ap (λ r. (answers_in found r).location) (sym same) ∙ there rs kept found i p d (Some location) count leaves recorded in
    cc (bad)

pub returns-in_err-made-clause-missing : goal.returns-in_err-made-clause-missing
returns-in_err-made-clause-missing c q other none =
    let rs = plan_records c.args.plan.now in
    let leaves = c.in-Some.ensures (referred_at rs) c.args.i c.requires.stays (sym c.referred.ensures) in
    absurd (never rs c.args.kept.now c.args.answers.now c.args.i c.in-Some.p q _ c.in-Some-location.location c.requires.answers leaves c.in-Some-location.is other none)

pub returns-in_err-is_usable-clause-missing : goal.returns-in_err-is_usable-clause-missing
returns-in_err-is_usable-clause-missing c q other none =
    let rs = plan_records c.args.plan.now in
    let leaves = c.in-Some.ensures (referred_at rs) c.args.i c.requires.stays (sym c.referred.ensures) in
    absurd (never rs c.args.kept.now c.args.answers.now c.args.i c.in-Some.p q _ c.in-Some-location.location c.requires.answers leaves c.in-Some-location.is other none)

pub returns-then-branch-clause-missing : goal.returns-then-branch-clause-missing
returns-then-branch-clause-missing c q other none =
    let rs = plan_records c.args.plan.now in
    let leaves = c.in-Some.ensures (referred_at rs) c.args.i c.requires.stays (sym c.referred.ensures) in
    absurd (never rs c.args.kept.now c.args.answers.now c.args.i c.in-Some.p q _ c.in-Some-location.location c.requires.answers leaves c.in-Some-location.is other none)

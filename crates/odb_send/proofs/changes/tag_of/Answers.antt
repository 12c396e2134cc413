use Rattle.std.proofs.Common.{◌≡◌, ◌∙◌, ◌<◌, None, Some, length, refl, ap, sym, arith}
use Rattle.std.specs.Str.{str_to_ascii_lowercase}
use Rattle.odb_check.specs.Plans.{plan_records}
use Rattle.odb_send.specs.Answers.{Answer, answers_in, text_of}
use Rattle.odb_send.specs.Rests.{IsTag, tagged_at}
use Rattle.odb_send.specs.Rests.IsTag.{replaced, stays}
use Rattle.odb_send.proofs.UrlLemmas.{answered_at, tagged_within, within_if}
use Rattle.odb_send.proofs.changes.tag_of.Goals as goal

pub if_left-requires-clause-referred : goal.if_left-requires-clause-referred
if_left-requires-clause-referred c =
    let rs = plan_records c.args.plan.now in
    within_if c.tagged.result (length rs) (λ p is. tagged_within rs (str_to_ascii_lowercase c.args.name.now) c.args.i p (sym c.tagged.ensures ∙ is))

pub bounds : goal.bounds
bounds c =
    let rs = plan_records c.args.plan.now in
    let name = str_to_ascii_lowercase c.args.name.now in
    let leaves = c.in-Some.ensures (tagged_at rs name) c.args.i c.requires.stays (sym c.tagged.ensures) in
    omega (arith, tagged_within rs name c.args.i c.in-Some.p leaves.refers, c.requires.answers)

pub returns-in_default-clause-tag : goal.returns-in_default-clause-tag
returns-in_default-clause-tag c = stays (c.in_default.ensures (tagged_at (plan_records c.args.plan.now) (str_to_ascii_lowercase c.args.name.now)) c.args.i c.requires.stays (sym c.tagged.ensures))

pub returns-in_default-etag-clause-lacks : goal.returns-in_default-etag-clause-lacks
returns-in_default-etag-clause-lacks c =
    let rs = plan_records c.args.plan.now in
    let found = c.args.answers.now in
    let name = str_to_ascii_lowercase c.args.name.now in
    let p = c.in-Some.p in
    let leaves = c.in-Some.ensures (tagged_at rs name) c.args.i c.requires.stays (sym c.tagged.ensures) in
    let within : p < length found = omega (arith, tagged_within rs name c.args.i p leaves.refers, c.requires.answers) in
    let none : (answers_in found p).etag ≡ None = ap (λ (a : Answer). a.etag) (answered_at found p _ within) ∙ ap text_of c.in_default-etag.is in
    (refl, refl, record { position = p; leaves = leaves; none = none })

pub returns-clause-tag : goal.returns-clause-tag
returns-clause-tag c =
    let rs = plan_records c.args.plan.now in
    let found = c.args.answers.now in
    let name = str_to_ascii_lowercase c.args.name.now in
    let p = c.in-Some.p in
    let tag = c.in-Some-etag.etag.now in
    let leaves = c.in-Some.ensures (tagged_at rs name) c.args.i c.requires.stays (sym c.tagged.ensures) in
    let within : p < length found = omega (arith, tagged_within rs name c.args.i p leaves.refers, c.requires.answers) in
    let recorded : (answers_in found p).etag ≡ Some tag = ap (λ (a : Answer). a.etag) (answered_at found p _ within) ∙ ap text_of c.in-Some-etag.is in
    let is : IsTag rs c.args.kept.now (answers_in found) name c.args.i (Some tag) = replaced p tag leaves recorded in
    rw c.in_ok-from_str.ensures.ok is

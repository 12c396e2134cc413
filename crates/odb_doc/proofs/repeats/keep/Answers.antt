use Rattle.std.proofs.Common.{◌≡◌, ◌∙◌, ℕ, List, true, false, not, ap, bytes_eq, Bor}
use Rattle.std.specs.List.{list_any}
use Rattle.std.proofs.lemmas.List.{map-append}
use Rattle.odb_doc.specs.Names.{texts_in}
use Rattle.odb_doc.proofs.SetLemmas.{any_at, any_when_old, none_when_new, same_texts_more, put_new, put_old}
use Rattle.odb_doc.proofs.repeats.keep.Goals as goal

pub returns-in_ok-push-clause-texts : goal.returns-in_ok-push-clause-texts
returns-in_ok-push-clause-texts c =
    let text = c.args.text in
    let bytes = λ (t : Bor (List ℕ)). t.now in
    let any = any_at bytes text.now c.args.seen.now.keys ∙ c.requires text.now in
    let none : list_any (bytes_eq text.now) (texts_in c.args.texts.now.items) ≡ false = none_when_new _ _ (c.in_ok-insert.ensures.added ∙ ap not any) c.if-branch.true in
    rw c.in_ok-push.ensures.items (put_new c.args.texts.now.items text none)

pub returns-in_ok-push-clause-seen : goal.returns-in_ok-push-clause-seen
returns-in_ok-push-clause-seen c =
    let text = c.args.text in
    let bytes = λ (t : Bor (List ℕ)). t.now in
    let more = same_texts_more bytes c.args.seen.now.keys text (texts_in c.args.texts.now.items) c.requires in
    rw (c.in_ok-insert.ensures.keys, c.in_ok-push.ensures.items, map-append bytes c.args.texts.now.items) more

pub returns-else-branch-clause-texts : goal.returns-else-branch-clause-texts
returns-else-branch-clause-texts c =
    let text = c.args.text in
    let bytes = λ (t : Bor (List ℕ)). t.now in
    let any = any_at bytes text.now c.args.seen.now.keys ∙ c.requires text.now in
    let among : list_any (bytes_eq text.now) (texts_in c.args.texts.now.items) ≡ true = any_when_old _ _ (c.in_ok-insert.ensures.added ∙ ap not any) c.if-branch.false in
    put_old c.args.texts.now.items text among

use Rattle.std.proofs.Common.{◌≡◌, ◌∙◌, ℕ, List, true, false, not, ap, bytes_eq, get_or, length, refl, sym, take, Bor}
use Rattle.std.specs.List.{list_any}
use Rattle.std.proofs.lemmas.List.{length-map}
use Rattle.odb_doc.specs.Names.{texts_in}
use Rattle.odb_doc.proofs.RepeatLemmas.{no_text, apart_distinct, apart_more, at_split, none_repeats, seen_more}
use Rattle.odb_doc.proofs.SetLemmas.{any_at, any_when_old, none_when_new}
use Rattle.odb_doc.proofs.repeats.first_repeat.Goals as goal

pub returns-then-not-branch-clause-first : goal.returns-then-not-branch-clause-first
returns-then-not-branch-clause-first c =
    let texts = c.args.texts.now in
    none_repeats (texts_in texts) (length texts) (sym (length-map texts (λ (t : Bor (List ℕ)). t.now))) (apart_distinct (texts_in texts) (length texts) (c.in_ok-may_repeat.ensures.apart c.if-not-branch.true))

pub returns-then-not-branch-2-clause-first : goal.returns-then-not-branch-2-clause-first
returns-then-not-branch-2-clause-first c =
    let texts = c.args.texts.now in
    let k = c.loop-k.k in
    let x = get_or texts k no_text in
    let any = any_at (λ (t : Bor (List ℕ)). t.now) x.now c.loop-k.seen.keys ∙ c.loop-k.invariant.seen x.now in
    let old : list_any (bytes_eq x.now) (texts_in (take k texts)) ≡ true = any_when_old _ _ (c.in_ok-insert.ensures.added ∙ ap not any) c.if-not-branch-2.true in
    record { apart = c.loop-k.invariant.apart; again = at_split texts k x true c.loop-k-test.true refl old }

pub loop-k-preserved : goal.loop-k-preserved
loop-k-preserved c =
    let texts = c.args.texts.now in
    let k = c.loop-k.k in
    let x = get_or texts k no_text in
    let any = any_at (λ (t : Bor (List ℕ)). t.now) x.now c.loop-k.seen.keys ∙ c.loop-k.invariant.seen x.now in
    let new : list_any (bytes_eq x.now) (texts_in (take k texts)) ≡ false = none_when_new _ _ (c.in_ok-insert.ensures.added ∙ ap not any) c.if-not-branch-2.false in
    record {
      seen = rw c.in_ok-insert.ensures.keys (seen_more texts c.loop-k.seen.keys k x c.loop-k-test.true refl c.loop-k.invariant.seen);
      apart = apart_more (texts_in texts) k c.loop-k.invariant.apart (at_split texts k x false c.loop-k-test.true refl new);
    }

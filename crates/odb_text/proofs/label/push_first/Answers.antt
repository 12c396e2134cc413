use Rattle.std.proofs.Common.{◌≡◌, ◌∙◌, suc, [], ◌∷◌, ◌++◌, length, string_bytes, sym, ap, arith, append_assoc}
use Rattle.std.proofs.lemmas.Iterator.{YieldsList-from_chars}
use Rattle.std.proofs.lemmas.Iterator.Consumers.{YieldsList-turn, YieldsList-end}
use Rattle.std.proofs.lemmas.List.{length_push}
use Rattle.odb_text.specs.Labels.{first_shown, shown_char}
use Rattle.odb_text.proofs.LabelLemmas.{one_more, no_more}
use Rattle.odb_text.proofs.label.push_first.Goals as goal

pub loop-c-preserved : goal.loop-c-preserved
loop-c-preserved c =
    let turn = YieldsList-turn (YieldsList-from_chars c.args.piece.now c.utf8.piece (cc)) c.loop-c.yielded _ c.loop-c.yielded_by _ _ c.in-Some.c c.in-Some.is c.next.ensures.steps in
    let more = length_push c.loop-c.yielded c.in-Some.c in
    let next : suc (length c.loop-c.yielded) ≡ length (c.loop-c.yielded ++ c.in-Some.c ∷ []) = omega (arith, more) in (
      omega (arith, more, c.loop-c.invariant.0, c.if-left-eq0.false),
      c.in_ok-push_shown_char.ensures
          ∙ ap (λ text. text ++ shown_char c.in-Some.c) c.loop-c.invariant.1
          ∙ append_assoc (string_bytes c.args.text.now) (first_shown (length c.loop-c.yielded) c.args.piece.now) (shown_char c.in-Some.c)
          ∙ ap (λ text. string_bytes c.args.text.now ++ text) (sym (one_more c.args.piece.now (length c.loop-c.yielded) c.in-Some.c turn) ∙ ap (λ n. first_shown n c.args.piece.now) next),
    )

pub returns : goal.returns
returns c =
    let all = YieldsList-end (YieldsList-from_chars c.args.piece.now c.utf8.piece (cc)) c.loop-c.yielded _ c.loop-c.yielded_by _ _ c.in-None.is c.next.ensures.steps in
    c.loop-c.invariant.1 ∙ ap (λ text. string_bytes c.args.text.now ++ text) (no_more c.args.piece.now (length c.loop-c.yielded) c.args.count (omega (arith, all)) (omega (arith, all, c.loop-c.invariant.0)))

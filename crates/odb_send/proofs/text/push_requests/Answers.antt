use Rattle.std.proofs.Common.{◌≡◌, ◌∙◌, ◌++◌, ◌<◌, length, ap, sym, arith, string_bytes, append-nil}
use Rattle.serde_json.specs.Written.{comma_if}
use Rattle.odb_check.specs.Plans.{plan_records}
use Rattle.odb_send.specs.Rests.{change_at, changes, is_kept, kept, rest_record}
use Rattle.odb_send.specs.Texts.{bodies_in, request_text}
use Rattle.odb_send.proofs.LawLemmas.{slice_get-some}
use Rattle.odb_send.proofs.TextLemmas.{body_there, request_pushed, texts_left-none, texts_left-other}
use Rattle.odb_send.proofs.text.push_requests.Goals as goal
use Rattle.odb_send.proofs.text.push_requests.Goals.{then-is_kept+in_ok-push_request, else-is_kept}

pub loop-i-preserved : goal.loop-i-preserved
loop-i-preserved c =
    let rs = plan_records c.args.plan.now in
    let i = c.loop-i.i in
    let units = kept c.args.rest.now in
    let changed = changes c.args.rest.now in
    let spans = c.args.bodies.now in
    let bodies = bodies_in c.args.document.now spans in
    let within : i < length rs = omega (arith, c.loop-i-test.true, c.len-i-end.ensures.count) in
    let request = slice_get-some rs i within in
    let decides : c.is_kept.result ≡ is_kept rs units i = c.is_kept.ensures ∙ ap (λ us. is_kept rs us i) c.deref.ensures.value in
    elim c.if-is_kept.branch [
      | then-is_kept+in_ok-push_request w ↦
          let body = body_there c.args.document.now spans i (omega (arith, c.requires.bodies, within)) in
          let pushed = w.in_ok-push_request.ensures request.0 request.1 ∙ ap (λ b. string_bytes c.loop-i.text ++ (comma_if c.loop-i.later ++ request_text (rest_record rs units (change_at changed i) request.0) b)) (sym body) in
          rw (w.text-is, w.later-is) (request_pushed rs units changed bodies c.loop-i.later i request.0 (string_bytes c.loop-i.text) _ request.1 (sym decides ∙ w.if-is_kept.true) pushed ∙ c.loop-i.invariant)
      | else-is_kept w ↦
          rw (w.text-is, w.later-is) (ap (λ t. string_bytes c.loop-i.text ++ t) (sym (texts_left-other rs units changed bodies c.loop-i.later i request.0 request.1 (sym decides ∙ w.if-is_kept.false))) ∙ c.loop-i.invariant)
    ]

pub returns : goal.returns
returns c =
    let rs = plan_records c.args.plan.now in
    let none = texts_left-none rs (kept c.args.rest.now) (changes c.args.rest.now) (bodies_in c.args.document.now c.args.bodies.now) c.loop-i.later c.loop-i.i (omega (arith, c.loop-i-test.false, c.len-i-end.ensures.count)) in
    sym (append-nil (string_bytes c.loop-i.text)) ∙ ap (λ t. string_bytes c.loop-i.text ++ t) (sym none) ∙ c.loop-i.invariant

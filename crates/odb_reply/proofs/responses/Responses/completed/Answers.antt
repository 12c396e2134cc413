use Rattle.std.proofs.Common.{◌≡◌, ◌∙◌, ◌≤◌, ◌∷◌, ◌++◌, [], true, false, length, map, take, ap, sym, arith}
use Rattle.std.proofs.lemmas.List.{map-append, take_all}
use Rattle.std.proofs.lemmas.Option.{get_or_from_slice_get}
use Rattle.odb_reply.specs.Completed.{has_error, is_answered, not_performed, unanswered}
use Rattle.odb_check.specs.Plans.{plan_records}
use Rattle.odb_doc.specs.batch.Records.{record_of}
use Rattle.odb_reply.specs.ResponseDocuments.{entries, entry_of}
use Rattle.odb_sched.proofs.ListLemmas.{slice_get-some}
use Rattle.odb_reply.proofs.CompletedLemmas.{added_more, added_same, completed-all, completed-none, mark_of}
use Rattle.odb_reply.proofs.responses.Responses.completed.Goals as goal
use Rattle.odb_reply.proofs.responses.Responses.completed.Goals.{then-not-index+in_ok-push, else-not-index}

pub returns-then-not-has_error : goal.returns-then-not-has_error
returns-then-not-has_error c =
    let es = entries c.args.self in
    let none : has_error es ≡ false = ap (λ xs. has_error (map entry_of xs)) (sym c.deref.ensures.value) ∙ sym c.has_error.ensures ∙ c.if-not-has_error.true in
    sym (completed-none (plan_records c.args.plan.now) es none)

pub loop-i-preserved : goal.loop-i-preserved
loop-i-preserved c =
    let rs = plan_records c.args.plan.now in
    let es = entries c.args.self in
    let marks = c.in_ok-marks.marks.items in
    let i = c.loop-i.i in
    elim c.if-not-index.branch [
      | then-not-index+in_ok-push w ↦
          let r = record_of w.request.result.now in
          let mark = mark_of rs es marks i r c.in_ok-marks.ensures w.request.ensures.value in
          let missing : is_answered es r.id ≡ false = sym (get_or_from_slice_get marks i (is_answered es r.id) c.index.result.now mark) ∙ sym c.index.ensures ∙ w.if-not-index.true in
          ap (λ list. map entry_of list.items) w.list-is
          ∙ ap (map entry_of) w.in_ok-push.ensures.items
          ∙ map-append entry_of c.loop-i.list.items (w.not_performed.result ∷ [])
          ∙ ap (λ xs. xs ++ entry_of w.not_performed.result ∷ []) c.loop-i.invariant
          ∙ ap (λ e. (es ++ map not_performed (unanswered es (take i rs))) ++ e ∷ []) w.not_performed.ensures
          ∙ sym (added_more rs es i r w.request.ensures.value missing)
      | else-not-index w ↦
          let request = slice_get-some rs i (omega (arith, c.loop-i-test.true, c.len-i-end.ensures.count)) in
          let mark = mark_of rs es marks i request.0 c.in_ok-marks.ensures request.1 in
          let present : is_answered es request.0.id ≡ true = sym (get_or_from_slice_get marks i (is_answered es request.0.id) c.index.result.now mark) ∙ sym c.index.ensures ∙ w.if-not-index.false in
          ap (λ list. map entry_of list.items) w.list-is ∙ c.loop-i.invariant ∙ sym (added_same rs es i request.0 request.1 present)
    ]

pub returns : goal.returns
returns c =
    let rs = plan_records c.args.plan.now in
    let es = entries c.args.self in
    let some : has_error es ≡ true = ap (λ xs. has_error (map entry_of xs)) (sym c.deref.ensures.value) ∙ sym c.has_error.ensures ∙ c.if-not-has_error.false in
    let all : length rs ≤ c.loop-i.i = omega (arith, c.loop-i-test.false, c.len-i-end.ensures.count) in
    c.loop-i.invariant ∙ ap (λ xs. es ++ map not_performed (unanswered es xs)) (take_all c.loop-i.i rs all) ∙ sym (completed-all rs es some)

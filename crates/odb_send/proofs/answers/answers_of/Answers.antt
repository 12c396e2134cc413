use Rattle.std.proofs.Common.{◌≡◌, ◌∙◌, ◌+◌, ◌++◌, ◌∷◌, [], ℕ, suc, cond, List, Some, ap, ap₂, sym, arith, slice_get}
use Rattle.std.proofs.lemmas.List.{map-append}
use Rattle.std.proofs.lemmas.Option.{get_or_from_slice_get}
use Rattle.serde_json.specs.Data.{Data}
use Rattle.serde_json.specs.View.{view}
use Rattle.odb_check.specs.Firsts.{list_below}
use Rattle.odb_doc.specs.Statuses.{is_success}
use Rattle.odb_reply.specs.Fits.{places, statuses}
use Rattle.odb_send.specs.Answers.{Answer, answer_of, nothing, recorded, response_answer}
use Rattle.odb_send.proofs.answers.answers_of.Goals as goal

-- the answer by the place and the status of its response
by-row : (d : Data) (places statuses : List ℕ) (i place status : ℕ) → slice_get places i ≡ Some place → slice_get statuses i ≡ Some status → cond (is_success status) (response_answer d (Some place)) nothing ≡ recorded d places statuses i
by-row d places statuses i place status at of = ap₂ (λ s p. cond (is_success s) (response_answer d p) nothing) (sym (get_or_from_slice_get statuses i status 0 of)) (sym at)

pub loop-i-preserved : goal.loop-i-preserved
loop-i-preserved c =
    let d = view c.args.responses.now in
    let i = c.loop-i.i in
    let all = recorded d (places c.args.table.now) (statuses c.args.table.now) in
    let one : answer_of c.answer_at.result ≡ all i = c.answer_at.ensures d c.elements_of-elements.ensures ∙ by-row d (places c.args.table.now) (statuses c.args.table.now) i c.place.result c.status.result c.place.ensures c.status.ensures in
    let pushed : c.push.new.self.items ≡ c.loop-i.found.items ++ c.answer_at.result ∷ [] = c.in_ok-push.ensures.items in
    let next : suc i ≡ i + 1 = omega arith in
    rw (pushed, map-append) (ap₂ (λ (xs : List Answer) x. xs ++ x ∷ []) c.loop-i.invariant one ∙ ap (λ n. list_below n all) next)

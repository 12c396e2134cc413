use Rattle.std.proofs.Common.{◌≡◌, ◌∙◌, ◌++◌, ◌<◌, ℕ, List, length, append_assoc, ap, sym, codes, option_map, string_bytes, subst, arith}
use Rattle.std.proofs.lemmas.List.{get_or-map, length-map}
use Rattle.std.proofs.lemmas.Result.{on_ok_weaker}
use Rattle.std.proofs.lemmas.Option.{same_Some}
use Rattle.serde_json.specs.Data.{string}
use Rattle.serde_json.specs.Written.{comma_if}
use Rattle.odb_check.specs.Plans.{plan_records}
use Rattle.odb_doc.specs.batch.Records.{Record, record_of}
use Rattle.odb_doc.specs.Texts.{member_part}
use Rattle.odb_send.specs.Rests.{Change, change_at, change_of, changes, kept, rest_record, unchanged}
use Rattle.odb_send.specs.Marks.{url_in}
use Rattle.odb_send.specs.Texts.{body_part, request_text}
use Rattle.odb_send.proofs.DependsLemmas.{names_of}
use Rattle.odb_send.proofs.TextLemmas.{request_parts}
use Rattle.odb_spans.specs.Spans.{bytes_of}
use Rattle.odb_send.proofs.text.push_request.Goals as goal

-- a text to which six pieces are appended in turn, of which the first has two parts
appended : (t0 t1 t2 t3 t4 t5 t6 a b c d e f g : List ℕ) → t1 ≡ t0 ++ (a ++ b) → t2 ≡ t1 ++ c → t3 ≡ t2 ++ d → t4 ≡ t3 ++ e → t5 ≡ t4 ++ f → t6 ≡ t5 ++ g
    → t6 ≡ t0 ++ (a ++ (b ++ (c ++ (d ++ (e ++ (f ++ g))))))
appended t0 t1 t2 t3 t4 t5 t6 a b c d e f g e1 e2 e3 e4 e5 e6 = rw (e6, e5, e4, e3, e2, e1) (simp append_assoc)

pub returns : goal.returns
returns c =
    let rs = plan_records c.args.plan.now in
    let i = c.args.i in
    let own = record_of c.request-request.result.now in
    let before = string_bytes c.args.text.now in
    let body = option_map (bytes_of c.args.document.now) c.args.body in
    let change = change_at (changes c.args.rest.now) i in
    let listed = c.args.rest.now.changes.items in
    let found = c.index-change.result.now in
    let inside : i < length listed = omega (arith, length-map listed change_of, c.requires.changes, c.requires.request) in
    let same : change_of found ≡ change = ap change_of c.index-change.ensures ∙ sym (get_or-map change_of listed i found unchanged inside) in
    let headers = rw same at c.in_ok-push_headers.ensures in
    let names = rw (c.deref.ensures.value, names_of rs i own c.request-request.ensures.value) at c.in_ok-push_kept_names.ensures in
    on_ok_weaker c.push_request_end.result
    (λ end r here.
    let one : own ≡ r = same_Some own r (sym c.request-request.ensures.value ∙ here) in
    let ended = rw (c.url_in.ensures ∙ ap (λ (k : Change). url_in k.url own) same) at end in
    subst (λ (q : Record). string_bytes c.push_request_end.new.text ≡ before ++ (comma_if c.args.later ++ request_text (rest_record rs (kept c.args.rest.now) change q) body)) one
    (appended before _ _ _ _ _ _ (comma_if c.args.later) (codes "{") (member_part (codes "\"atomicityGroup\":") (option_map string own.group)) (body_part body) _ _ _ c.in_ok-push_open.ensures c.in_ok-push_group.ensures c.in_ok-push_body.ensures names headers ended
    ∙ ap (λ text. before ++ (comma_if c.args.later ++ text)) (sym (request_parts rs (kept c.args.rest.now) change own body)))) c.push_request_end.ensures

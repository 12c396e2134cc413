use Rattle.std.proofs.Common.{◌≡◌, ◌∙◌, ◌++◌, ℕ, List, append_assoc, ap, codes, nat_lt, option_map, string_bytes}
use Rattle.std.proofs.lemmas.Result.{on_ok_weaker}
use Rattle.serde_json.specs.Data.{string}
use Rattle.serde_json.specs.Written.{comma_if}
use Rattle.odb_doc.specs.Texts.{member_part}
use Rattle.odb_doc.specs.batch.Records.{record_of}
use Rattle.odb_doc.specs.batch.Batches.{records}
use Rattle.odb_doc.proofs.CanonicalLemmas.{requests_left-parts}
use Rattle.odb_doc.proofs.canonical.parts.push_request.Goals as goal

-- a text to which six pieces are appended in turn, of which the first has two parts, before what is left
appended : (t0 t1 t2 t3 t4 t5 t6 a b c d e f g left : List ℕ) → t1 ≡ t0 ++ (a ++ b) → t2 ≡ t1 ++ c → t3 ≡ t2 ++ d → t4 ≡ t3 ++ e → t5 ≡ t4 ++ f → t6 ≡ t5 ++ g
    → t0 ++ ((a ++ (b ++ (c ++ (d ++ (e ++ (f ++ g)))))) ++ left) ≡ t6 ++ left
appended t0 t1 t2 t3 t4 t5 t6 a b c d e f g left e1 e2 e3 e4 e5 e6 = rw (e6, e5, e4, e3, e2, e1) (simp append_assoc)

pub returns : goal.returns
returns c =
    let rs = records c.args.batch.now in
    let r = record_of c.request-request.result.now in
    let before = string_bytes c.args.text.now in
    let parts = requests_left-parts rs c.args.i r c.request-request.ensures.value in
    let names = rw c.as_slice.ensures at c.in_ok-push_names.ensures in
    let group = member_part (codes "\"atomicityGroup\":") (option_map string r.group) in
    let body = member_part (codes "\"body\":") r.body in
    on_ok_weaker c.push_request_end.result
    (λ end. ap (λ text. before ++ text) parts ∙ appended before _ _ _ _ _ _ (comma_if (nat_lt 0 c.args.i)) (codes "{") group body _ _ _ _ c.in_ok-push_open.ensures c.in_ok-push_group.ensures c.in_ok-push_body.ensures names c.in_ok-push_headers_member.ensures end) c.push_request_end.ensures

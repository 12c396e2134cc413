use Rattle.std.proofs.Common.{◌≡◌, ◌∙◌, ◌==◌, slice_index, is_some, true, false, sym, ap, arith}
use Rattle.fast_float.specs.Text.{minus, scan}
use Rattle.serde_json.specs.Read.{number_of, number_from}
use Rattle.odb_reply.proofs.PassLemmas.{after-minus}
use Rattle.odb_reply.proofs.pass.is_in_range.Goals as goal

pub returns-in-Some : goal.returns-in-Some
returns-in-Some c =
    let bytes = c.as_bytes-bytes.result.now in
    let negative : (slice_index bytes 0 == minus) ≡ true = grind arith in
    c.is_negative_in_range.ensures ∙ ap (λ parts. is_some (number_from true parts)) (c.scan.ensures.parts ∙ ap scan c.in-Some.ensures.cases.1) ∙ sym (ap is_some (after-minus bytes true negative)) ∙ ap (λ s. is_some (number_of s)) c.as_bytes-bytes.ensures.value

pub returns-in-None : goal.returns-in-None
returns-in-None c =
    let bytes = c.as_bytes-bytes.result.now in
    let unsigned : (slice_index bytes 0 == minus) ≡ false = grind arith in
    c.is_unsigned_in_range.ensures ∙ ap (λ parts. is_some (number_from false parts)) c.scan-in-None.ensures.parts ∙ sym (ap is_some (after-minus bytes false unsigned)) ∙ ap (λ s. is_some (number_of s)) c.as_bytes-bytes.ensures.value

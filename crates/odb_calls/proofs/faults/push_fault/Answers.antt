-- Where the words of a fault's line lie.
use Rattle.std.proofs.Common.{◌≡◌, ◌∙◌, ◌+◌, ◌++◌, List, ap, arith, length, refl, rules, string_bytes, ℕ}
use Rattle.std.proofs.lemmas.List.{length-append}
use Rattle.odb_doc.specs.Refusals.{printed}
use Rattle.odb_text.specs.Lines.{fault_line}
use Rattle.odb_calls.proofs.FaultLemmas.{length-line, words-at}
use Rattle.odb_calls.proofs.faults.push_fault.Goals as goal

pub returns-clause-words : goal.returns-clause-words
returns-clause-words c =
    let r = printed c.args.refusal in
    let old = string_bytes c.args.text.now in
    let line = fault_line r.code r.name r.place in
    let is = c.in_ok-push_str.ensures.bytes ∙ ap (λ (t : List ℕ). old ++ t) (c.as_str.ensures.value ∙ c.in_ok-line.ensures) in
    let start : c.len.result ≡ length old = search rules in
    let end : c.len-2.result ≡ length (string_bytes c.push_str.new.self) = search rules in
    let long : c.len-2.result ≡ length old + length line = end ∙ ap (λ (t : List ℕ). length t) is ∙ length-append old line in
    let lengths = length-line r.code r.name r.place in
    words-at old (string_bytes c.push_str.new.self) r _ is (omega (arith, start)) refl (omega (arith, start)) refl (omega (arith, start)) (omega (arith, start, long, lengths))

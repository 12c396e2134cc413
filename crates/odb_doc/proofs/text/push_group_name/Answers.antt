use Rattle.std.proofs.Common.{◌∙◌, ◌++◌, ap, codes, string_bytes}
use Rattle.serde_json.specs.Data.{string}
use Rattle.serde_json.specs.Written.{compact_text}
use Rattle.odb_doc.proofs.CanonicalLemmas.{pushed}
use Rattle.odb_doc.proofs.text.push_group_name.Goals as goal

pub returns : goal.returns
returns c =
    let group = compact_text (string c.args.group.now) in
    let begun = c.in_ok-push_quoted.ensures ∙ ap (λ text. text ++ group) c.in_ok-push_str.ensures.bytes in
    pushed c.push_str-2.result (string_bytes c.args.text.now) (codes "\"atomicityGroup\":") group (codes ",") _ _ begun c.push_str-2.ensures.bytes

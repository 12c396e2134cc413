use Rattle.std.proofs.Common.{◌∙◌, sym}
use Rattle.odb_doc.specs.Headers.{lent_header}
use Rattle.odb_send.specs.Rests.{change_of}
use Rattle.odb_send.proofs.HeaderLemmas.{if_match_value, if_none_match_value, other_value}
use Rattle.odb_send.proofs.headers.rest_value.Goals as goal

pub returns-then-is_named : goal.returns-then-is_named
returns-then-is_named c =
    let header = lent_header c.args.header.now in
    c.tag_or.ensures ∙ sym (if_match_value (change_of c.args.change.now) header.0 header.1 (sym c.is_named.ensures ∙ c.if-is_named.true))

pub returns-then-is_named-2 : goal.returns-then-is_named-2
returns-then-is_named-2 c =
    let header = lent_header c.args.header.now in
    c.tag_or-then-is_named-2.ensures ∙ sym (if_none_match_value (change_of c.args.change.now) header.0 header.1 (sym c.is_named-else-is_named.ensures ∙ c.if-is_named-2.true))

pub returns-else-is_named-2 : goal.returns-else-is_named-2
returns-else-is_named-2 c =
    let header = lent_header c.args.header.now in
    sym (other_value (change_of c.args.change.now) header.0 header.1 (sym c.is_named.ensures ∙ c.if-is_named.false) (sym c.is_named-else-is_named.ensures ∙ c.if-is_named-2.false))

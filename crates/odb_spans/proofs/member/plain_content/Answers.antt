use Rattle.std.proofs.Common.{◌-◌, length, arith}
use Rattle.odb_spans.proofs.NameLemmas.{plain-name}
use Rattle.odb_spans.proofs.member.plain_content.Goals as goal

pub returns-in-None : goal.returns-in-None
returns-in-None c k e =
    plain-name c.args.string.now k (length c.args.string.now - 1 - 1) (omega (arith, c.if-len-lt2.false)) c.if-string-ne34.false c.if-string-len-ne34.false (λ i less is. c.in-None.ensures i (omega arith) less is) e

use Rattle.std.proofs.Common.{◌∙◌, sym}
use Rattle.odb_names.proofs.Decoded.{nested_sign}
use Rattle.odb_names.proofs.url.may_be_nested.Goals as goal

pub returns-else-contains : goal.returns-else-contains
returns-else-contains c = λ nested. c.contains-else-contains.ensures.value ∙ nested_sign c.args.url.now nested (sym c.contains.ensures.value ∙ c.if-contains.false)

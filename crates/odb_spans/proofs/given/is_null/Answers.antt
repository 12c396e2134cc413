use Rattle.odb_spans.proofs.NullLemmas.{span-null}
use Rattle.odb_spans.proofs.given.is_null.Goals as goal

pub returns-then-span-document : goal.returns-then-span-document
returns-then-span-document c j is = span-null c.args.document.now c.args.span j is

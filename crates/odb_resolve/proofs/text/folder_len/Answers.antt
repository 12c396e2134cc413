use Rattle.std.proofs.Common.{sym}
use Rattle.odb_resolve.proofs.TextLemmas.{folder_none, folder_at}
use Rattle.odb_resolve.proofs.text.folder_len.Goals as goal

pub returns-in-Some-clause-value : goal.returns-in-Some-clause-value
returns-in-Some-clause-value c = sym (folder_at _ _ c.in-Some.ensures.bound c.in-Some.ensures.found c.in-Some.ensures.last)

pub returns-in-None-clause-value : goal.returns-in-None-clause-value
returns-in-None-clause-value c = sym (folder_none _ c.in-None.ensures.none)

use Rattle.std.proofs.Common.{Some}
use Rattle.odb_engine.specs.Contents.Given.{ByReader, InMemory}
use Rattle.odb_engine.proofs.PairLawLemmas.{pair-from, pair-to, parts-to, readers-from, readers-to, whole-documents, whole-line}
use Rattle.odb_engine.proofs.laws.every_pair.Goals as goal

pub returns : goal.returns
returns c = record {
  memory = λ task form batch second line text ended takes alone is.
      (let line_is = whole-line task takes line form ended text in
      let both_are = whole-documents task takes (InMemory second) batch form ended text in (
        λ so. both_are.1 (pair-to task takes alone batch second line is form ended text (line_is.0 so)),
        λ so. line_is.1 (pair-from task takes alone batch second line is form ended text (both_are.0 so)),
      ));
  readers = λ task form batch second line text ended takes alone is.
      (let line_is = whole-line task takes line form ended text in
      let both_are = whole-documents task takes (ByReader (Some second)) batch form ended text in (
        λ so. both_are.1 (readers-to task takes alone batch second line is form ended text (line_is.0 so)),
        λ so. line_is.1 (readers-from task takes alone batch second line is form ended text (both_are.0 so)),
      ));
  parts = λ task form line text batch second ended takes bytes is so. parts-to task takes bytes line batch second is form ended text so;
}

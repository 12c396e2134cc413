use Rattle.std.proofs.Common.{Some}
use Rattle.odb_engine.specs.Contents.Given.{ByReader, InMemory}
use Rattle.odb_engine.proofs.LawLemmas.{AreFunctional}
use Rattle.odb_engine.proofs.TaskLawLemmas.{AreOneText, documents-one, line-one}
use Rattle.odb_engine.proofs.MatchLawLemmas.{AreOneMatch}
use Rattle.odb_engine.proofs.OneLocatedLemmas.{AreOneLocated, ArePositions, located-documents, numbered-line}
use Rattle.odb_engine.proofs.laws.one_text.Goals as goal

pub returns : goal.returns
returns c =
    let batch : AreFunctional = record {
      one_shape = c.one_fault.ensures.one;
      no_shape = c.one_fault.ensures.none;
      one_batch = c.one_batch.ensures;
      one_name = c.one_fault-2.ensures.one;
      no_name = c.one_fault-2.ensures.none;
    } in
    let matching : AreOneMatch = record {
      one_fault = c.one_document.ensures.one;
      no_fault = c.one_document.ensures.none;
      one_list = c.one_document.ensures.entries;
      one_misfit = c.one_match.ensures.one;
      one_status = c.one_status.ensures.one;
      no_status = c.one_status.ensures.none;
      no_misfit = c.one_match.ensures.none;
      one_table = c.one_match.ensures.table;
    } in
    let law : AreOneText = record {
      batch = batch;
      matching = matching;
      rest = record { one_place = c.one_place.ensures; one_text = c.one_rest.ensures.text; one_fault = c.one_rest.ensures.fault; no_fault = c.one_rest.ensures.none };
      pair = λ line d first second other another json x y. (c.one_pair.ensures line d first second other another json x y).0;
      recorded = record { one_fault = c.one_record.ensures.one; no_fault = c.one_record.ensures.none; one_reading = c.one_record.ensures.outcomes };
      order = λ order outcomes first. record { course = c.every_order.ensures.one_course order outcomes first; fault = c.every_order.ensures.one_fault order outcomes first; apart = c.every_order.ensures.fault_or_end order outcomes first };
      history = record { one_fault = c.one_history.ensures.one; no_fault = c.one_history.ensures.none; one_reading = c.one_history.ensures.events };
      causes = record { one_refusal = c.every_cause.ensures.one_refusal; one_unknown = c.every_cause.ensures.one_unknown };
    } in
    let places : ArePositions = record { document = c.one_position.ensures.document; line = c.one_position.ensures.line } in
    let located : AreOneLocated = record { text = law; read = c.every_result.ensures.fault; positions = places } in
    record {
      task = λ task form bytes left. documents-one law task form (ByReader (Some left)) tt bytes;
      memory = λ task form bytes second. documents-one law task form (InMemory second) tt bytes;
      line = λ task form line. line-one law task form line;
      located = λ task form batch_name batch second_name second d json other. located-documents located task form batch_name batch second_name second d json other;
      numbered = λ numbers is_located task form name number line json. numbered-line located numbers is_located task form name number line json;
    }

use Rattle.std.proofs.Common.{◌≡◌, ◌∙◌, ◌⊎◌, Err, List, inl, inr, map, refl, subst, sym, true}
use Rattle.serde_json.specs.View.{view}
use Rattle.odb_doc.specs.Documents.{IsJson}
use Rattle.odb_doc.specs.Refusals.{Printed, printed}
use Rattle.odb_doc.specs.batch.Records.{Record}
use Rattle.odb_doc.specs.declared.fault.Place.TheVariants.{Batch}
use Rattle.odb_spans.specs.Positions.{is_in_batch}
use Rattle.odb_engine.specs.Answered.{HasSecond}
use Rattle.odb_engine.specs.Cascade.{AnswersValue}
use Rattle.odb_engine.specs.Contents.{Content, IsBytesOf, OfTaken, RefusesContent, bytes_in, given_of}
use Rattle.odb_engine.proofs.AllFaultLemmas.{halt-listed, noted-halted, noted-read, value-listed}
use Rattle.odb_engine.proofs.EngineLemmas.{Halted-both, err-weaker}
use Rattle.odb_engine.proofs.LocatedLemmas.{bytes-place}
use Rattle.odb_engine.proofs.SourceLemmas.{asked-for, found-bytes, halt-content, json-content, some-content, some-so, some-weaker, taken-weaker}
use Rattle.odb_engine.proofs.tasks.command.text_of.Goals as goal

pub returns-in-Err-clause-found : goal.returns-in-Err-clause-found
returns-in-Err-clause-found g c =
    let command = c.args.command.now in
    let place = g.C.Command.second_place command in
    let P = λ (content other : Content) (batch : List Record). OfTaken place (λ second. g.C.Command.writes command (bytes_in content) second batch) (given_of other) in
    let halt = c.in-Err.halt in
    let noted = c.noted.result in
    let bytes = g.R.Source.bytes_of c.read.new.self c.read.new.kept.bytes.items in
    let bytes_second = g.S.Source.bytes_of c.args.second.now c.args.second_kept.now.bytes.items in
    let AreKept = λ (content other : Content) (refusal : Printed). IsBytesOf content bytes × ((is_in_batch refusal.place ≡ true) ⊎ HasSecond place other bytes_second) in
    some-weaker (g.R.Source.given c.args.first.now) _ _
    (λ content is. (
      some-weaker (g.S.Source.given c.args.second.now) _ _
          (λ other _. (
            halt-content Batch (AnswersValue (P content other)) content c.args.setup.form noted (noted-halted (RefusesContent Batch content) halt noted c.noted.ensures.same is.0.1),
            λ has asked asked_second. noted-halted (AreKept content other) halt noted c.noted.ensures.same
                (Halted-both (RefusesContent Batch content) (λ refusal. IsBytesOf content bytes) (AreKept content other) (λ refusal refuses kept. (kept, inl (bytes-place content refusal refuses))) halt is.0.1 (is.1 (g.met.R.Document.has c.args.first.now) asked)),
          ))
          (some-content (g.S.Source.given c.args.second.now)),
      (
        λ lists. halt-listed content noted (map printed c.noted.new.faults.items) (noted-halted (RefusesContent Batch content) halt noted c.noted.ensures.same is.0.1) (c.noted.ensures.listed (c.lists_all.ensures ∙ lists)),
        inl refl,
      ),
    ))
    c.in-Err.ensures.value

pub returns-in-Err-clause-read : goal.returns-in-Err-clause-read
returns-in-Err-clause-read g c =
    let read = noted-read c.read.result (Err c.noted.result) c.in-Err.halt c.noted.result (g.R.Source.has_failed c.read.new.self) c.in-Err.is refl c.noted.ensures.same c.read.ensures.read in
    (λ e. inl (read.0 e), λ either. elim either [ inl f ↦ read.1 f | inr s ↦ absurd (g.met.S.Source.works c.args.second.now c.requires.second s) ])

pub returns-clause-found : goal.returns-clause-found
returns-clause-found g c =
    let command = c.args.command.now in
    let place = g.C.Command.second_place command in
    let second = c.args.second.now in
    let value = view c.in-Ok.value in
    let form = c.args.setup.form in
    let document = c.bytes-document.result.now in
    let has_first = g.met.R.Document.has c.args.first.now in
    let kept = c.bytes-document.ensures in
    let bytes = g.R.Source.bytes_of c.read.new.self c.read.new.kept.bytes.items in
    let bytes_second = g.S.Source.bytes_of c.text_in.new.second c.text_in.new.kept.bytes.items in
    let IsAt = λ (other : Content) (refusal : Printed). (is_in_batch refusal.place ≡ true) ⊎ HasSecond place other bytes_second in
    some-weaker (g.R.Source.given c.args.first.now) _ _
    (λ content is. (
      some-weaker (g.S.Source.given second) _ _
          (λ other so. (
            found-bytes (g.C.Command.takes_bytes command) (λ bytes batch. OfTaken place (λ second. g.C.Command.writes command bytes second batch) (given_of other)) document content value form c.text_in.result
                (λ bytes same batch form ended text. taken-weaker place (λ second. g.C.Command.writes command document second batch) (λ second. g.C.Command.writes command bytes second batch) (given_of other) form ended text
                (λ second. g.met.C.Command.alike command document bytes same second batch form ended text))
                (λ takes. subst (IsBytesOf content) (sym kept) (is.1 has_first (c.requires.bytes takes))) is.0.0.0 so.0,
            λ has asked asked_second. err-weaker (IsAt other) (λ (refusal : Printed). IsBytesOf content bytes × IsAt other refusal) (λ refusal second. (is.1 has_first asked, second)) c.text_in.result (so.1 has asked_second),
          ))
          c.text_in.ensures.found,
      (
        λ lists. value-listed content value (map printed c.text_in.new.faults.items) c.text_in.result is.0.0.0 (c.text_in.ensures.listed lists),
        asked-for _ content value second c.text_in.new.second is.0.0.0 is.0.0.1 c.text_in.ensures.asked,
      ),
    ))
    c.in-Ok.ensures.value

pub text_in-requires-clause-document : goal.text_in-requires-clause-document
text_in-requires-clause-document g c =
    let value = view c.in-Ok.value in
    let document = c.bytes-document.result.now in
    let kept = c.bytes-document.ensures in
    λ takes. some-so (g.R.Source.given c.args.first.now) _ (IsJson document value)
    (λ content is. json-content content document value (subst (IsBytesOf content) (sym kept) (is.1 (g.met.R.Document.has c.args.first.now) (c.requires.bytes takes))) is.0.0.0) c.in-Ok.ensures.value

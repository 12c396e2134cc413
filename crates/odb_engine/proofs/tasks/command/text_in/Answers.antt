-- The cascade of a command over the value of a document.
use Rattle.std.proofs.Common.{◌≡◌, ◌∙◌, ◌⊎◌, IfErr, List, inl, inr, map, subst, sym, true}
use Rattle.serde_json.specs.View.{view}
use Rattle.odb_check.specs.Plans.{plan_records}
use Rattle.odb_doc.specs.Faults.{document_row}
use Rattle.odb_doc.specs.Refusals.{Printed, printed}
use Rattle.odb_doc.specs.batch.Batches.{records}
use Rattle.odb_doc.specs.batch.LeastFault.{IsLeastFault}
use Rattle.odb_doc.specs.batch.Records.{IsBatchOf, Record}
use Rattle.odb_spans.specs.Positions.{is_in_batch}
use Rattle.odb_engine.specs.AllFaults.{AreFaultsOf}
use Rattle.odb_engine.specs.Answered.{AreNameFaultsOf, HasSecond}
use Rattle.odb_engine.specs.Cascade.{AnswersValue, HasFault, IsLeastOfBatch}
use Rattle.odb_engine.specs.Contents.{Content, OfTaken, given_of}
use Rattle.odb_engine.specs.declared.ending.Ended.TheVariants.{Refused}
use Rattle.odb_engine.specs.Forms.{fault_text}
use Rattle.odb_engine.specs.Halts.{Found, Halted, RefusesNamesOf}
use Rattle.odb_engine.proofs.AllFaultLemmas.{never-refused}
use Rattle.odb_engine.proofs.EngineLemmas.{Halted-weaker, err-all, exit-error, found-accepted, found-weaker, halt-names, reports}
use Rattle.odb_engine.proofs.LocatedLemmas.{name-place, shape-place}
use Rattle.odb_engine.proofs.SourceLemmas.{by-refusal, by-value, refused-alone, some-content, some-so, some-weaker}
use Rattle.odb_engine.proofs.tasks.command.text_in.Goals as goal

pub returns-in_err-batch_in-clause-found : goal.returns-in_err-batch_in-clause-found
returns-in_err-batch_in-clause-found g c =
    let place = g.C.Command.second_place c.args.command.now in
    let bytes = g.S.Source.bytes_of c.args.second.now c.args.kept.now.bytes.items in
    let IsAt = λ (other : Content) (refusal : Printed). (is_in_batch refusal.place ≡ true) ⊎ HasSecond place other bytes in
    let given = g.S.Source.given c.args.second.now in
    let value = view c.args.value.now in
    let form = c.args.setup.form in
    let least = c.in_err-batch_in.ensures.least in
    some-weaker given _ _
    (λ other _.
    let P = λ (batch : List Record). OfTaken place (λ second. g.C.Command.writes c.args.command.now c.args.document.now second batch) (given_of other) in (
      exit-error (Found (AnswersValue P value) form) _ _ c.from_residual.ensures.1
          (Halted-weaker (HasFault IsLeastFault document_row value) (λ refusal. AnswersValue P value form Refused (fault_text form refusal)) (λ refusal is. inl (reports (IsLeastOfBatch value) form refusal (inl is))) _ least),
      λ has asked. exit-error (λ r. IfErr r (Halted (IsAt other))) _ _ c.from_residual.ensures.1 (Halted-weaker (HasFault IsLeastFault document_row value) (IsAt other) (λ refusal is. inl (shape-place value refusal is)) _ least),
    ))
    (some-content given)

pub returns-in_err-plan-clause-found : goal.returns-in_err-plan-clause-found
returns-in_err-plan-clause-found g c =
    let place = g.C.Command.second_place c.args.command.now in
    let bytes = g.S.Source.bytes_of c.args.second.now c.args.kept.now.bytes.items in
    let IsAt = λ (other : Content) (refusal : Printed). (is_in_batch refusal.place ≡ true) ⊎ HasSecond place other bytes in
    let given = g.S.Source.given c.args.second.now in
    let value = view c.args.value.now in
    let batch = records c.in_ok-batch_in.field-0 in
    let least = c.in_err-plan.ensures.least in
    some-weaker given _ _
    (λ other _.
    let P = λ (batch : List Record). OfTaken place (λ second. g.C.Command.writes c.args.command.now c.args.document.now second batch) (given_of other) in (
      exit-error (Found (AnswersValue P value) c.args.setup.form) _ _ c.from_residual-in_err-plan.ensures.1 (halt-names P c.args.setup.form value _ c.in_ok-batch_in.ensures.good c.in_ok-batch_in.ensures.records _ least),
      λ has asked. exit-error (λ r. IfErr r (Halted (IsAt other))) _ _ c.from_residual-in_err-plan.ensures.1 (Halted-weaker (RefusesNamesOf batch) (IsAt other) (λ refusal is. inl (name-place batch refusal is)) _ least),
    ))
    (some-content given)

pub returns-in_err-other-clause-found : goal.returns-in_err-other-clause-found
returns-in_err-other-clause-found g c =
    let place = g.C.Command.second_place c.args.command.now in
    let bytes = g.S.Source.bytes_of c.second_in.new.second c.second_in.new.kept.bytes.items in
    let IsAt = λ (other : Content) (refusal : Printed). (is_in_batch refusal.place ≡ true) ⊎ HasSecond place other bytes in
    let halt = c.in_err-other.field-0.0 in
    let given = g.S.Source.given c.args.second.now in
    let value = view c.args.value.now in
    let form = c.args.setup.form in
    let planned = plan_records c.in_ok-plan.plan.value in
    let writes = g.C.Command.writes c.args.command.now c.args.document.now in
    let at = rw c.second_place.ensures at c.in_err-other.ensures.value in
    some-weaker given _ _
    (λ other is.
    let P = λ (batch : List Record). OfTaken place (λ second. writes second batch) (given_of other) in (
      found-accepted P value (records c.in_ok-batch_in.field-0) planned form _ c.in_ok-batch_in.ensures.good c.in_ok-batch_in.ensures.records c.in_ok-plan.ensures.good c.in_ok-plan.ensures.plan
          (exit-error (Found (P planned) form) halt _ c.from_residual-in_err-other.ensures.1 (by-refusal place (λ second. writes second planned) other form halt is.0.1)),
      λ has asked. exit-error (λ r. IfErr r (Halted (IsAt other))) halt _ c.from_residual-in_err-other.ensures.1 (Halted-weaker (λ refusal. HasSecond place other bytes) (IsAt other) (λ refusal has. inr has) halt (is.1 has asked)),
    ))
    at

pub returns-clause-found : goal.returns-clause-found
returns-clause-found g c =
    let place = g.C.Command.second_place c.args.command.now in
    let bytes = g.S.Source.bytes_of c.second_in.new.second c.second_in.new.kept.bytes.items in
    let IsAt = λ (other : Content) (refusal : Printed). (is_in_batch refusal.place ≡ true) ⊎ HasSecond place other bytes in
    let given = g.S.Source.given c.args.second.now in
    let value = view c.args.value.now in
    let form = c.args.setup.form in
    let planned = plan_records c.in_ok-plan.plan.value in
    let writes = g.C.Command.writes c.args.command.now c.args.document.now in
    let at = rw c.second_place.ensures at c.in_ok-other.ensures.value in
    some-weaker given _ _
    (λ other is.
    let P = λ (batch : List Record). OfTaken place (λ second. writes second batch) (given_of other) in (
      found-accepted P value (records c.in_ok-batch_in.field-0) planned form _ c.in_ok-batch_in.ensures.good c.in_ok-batch_in.ensures.records c.in_ok-plan.ensures.good c.in_ok-plan.ensures.plan
          (found-weaker (writes (view c.in_ok-other.other) planned) (P planned) form c.text.result (by-value place (λ second. writes second planned) other (view c.in_ok-other.other) is.0.0 form) c.text.ensures.found),
      λ has asked. err-all (IsAt other) (λ refusal. inr (is.1 has asked)) c.text.result,
    ))
    at

pub returns-in_err-batch_in-clause-listed : goal.returns-in_err-batch_in-clause-listed
returns-in_err-batch_in-clause-listed g c =
    let listed = map printed c.batch_in.new.faults.items in
    λ lists. exit-error (λ r. IfErr r (Halted (λ _. AreFaultsOf (view c.args.value.now) listed))) _ _ c.from_residual.ensures.1 (c.in_err-batch_in.ensures.listed (c.lists_all-all.ensures ∙ lists))

pub returns-in_err-plan-clause-listed : goal.returns-in_err-plan-clause-listed
returns-in_err-plan-clause-listed g c =
    let value = view c.args.value.now in
    let listed = map printed c.plan_in.new.faults.items in
    λ lists. exit-error (λ r. IfErr r (Halted (λ _. AreFaultsOf value listed))) _ _ c.from_residual-in_err-plan.ensures.1
    (Halted-weaker (λ _. AreNameFaultsOf (records c.in_ok-batch_in.field-0) listed) (λ _. AreFaultsOf value listed)
    (λ refusal are. inr (record { batch = records c.in_ok-batch_in.field-0; shaped = c.in_ok-batch_in.ensures.good; is_batch = c.in_ok-batch_in.ensures.records; holds = are })) _
    (c.in_err-plan.ensures.listed (c.lists_all-all.ensures ∙ lists)))

pub returns-in_err-other-clause-listed : goal.returns-in_err-other-clause-listed
returns-in_err-other-clause-listed g c =
    let command = c.args.command.now in
    let listed = map printed c.plan_in.new.faults.items in
    let Is = λ (refusal : Printed). AreFaultsOf (view c.args.value.now) listed in
    let halt = c.in_err-other.field-0.0 in
    λ lists. exit-error (λ r. IfErr r (Halted Is)) halt _ c.from_residual-in_err-other.ensures.1
    (some-so (g.S.Source.given c.args.second.now) _ (Halted Is halt) (λ other is. refused-alone c.second_place.result other halt Is (c.second_place.ensures ∙ g.met.C.Command.alone command lists) is.0.1) c.in_err-other.ensures.value)

pub returns-clause-listed : goal.returns-clause-listed
returns-clause-listed g c =
    let second = view c.in_ok-other.other in
    let batch = plan_records c.in_ok-plan.plan.value in
    let form = c.args.setup.form in
    let listed = map printed c.plan_in.new.faults.items in
    λ lists. never-refused (g.C.Command.writes c.args.command.now c.args.document.now second batch) (λ _. AreFaultsOf (view c.args.value.now) listed) form c.text.result c.text.ensures.found (λ text. g.met.C.Command.accepts c.args.command.now lists c.args.document.now second batch form text)

pub text-requires-clause-document : goal.text-requires-clause-document
text-requires-clause-document g c =
    λ takes. (view c.args.value.now, record { json = c.requires.document takes; is = subst (IsBatchOf (view c.args.value.now)) (sym c.in_ok-plan.ensures.plan) c.in_ok-batch_in.ensures.records })

use Rattle.std.proofs.Common.{List, ℕ, Result, IfOk, sym, subst}
use Rattle.std.specs.declared.alloc.AllocError.{AllocError}
use Rattle.serde_json.specs.Data.{Data}
use Rattle.odb_doc.specs.Documents.{IsJson}
use Rattle.odb_doc.specs.declared.fault.Place.{Place}
use Rattle.odb_spans.specs.Positions.{ValueLiesAt}
use Rattle.odb_spans.specs.declared.span.Span.{Span}
use Rattle.odb_spans.proofs.WholeLemmas.{whole-place}
use Rattle.odb_spans.proofs.locate.value_span.Goals as goal

abbrev Lies : List ℕ → Result Span AllocError → Place → Type 0
Lies text result place = IfOk result (λ span. (d : Data) → IsJson text d → ValueLiesAt text span d place)

pub returns-in-Batch-clause-lies : goal.returns-in-Batch-clause-lies
returns-in-Batch-clause-lies c d is = whole-place c.args.document.now c.whole_span.result c.args.place d c.in-Batch.is (c.whole_span.ensures.lies d is)

pub returns-in-Request-clause-lies : goal.returns-in-Request-clause-lies
returns-in-Request-clause-lies c = subst (Lies c.args.document.now c.element_span.result) (sym c.in-Request.is) c.element_span.ensures.lies

pub returns-in-Outcome-clause-lies : goal.returns-in-Outcome-clause-lies
returns-in-Outcome-clause-lies c = subst (Lies c.args.document.now c.element_span-in-Outcome.result) (sym c.in-Outcome.is) c.element_span-in-Outcome.ensures.lies

pub returns-in-Response-clause-lies : goal.returns-in-Response-clause-lies
returns-in-Response-clause-lies c = subst (Lies c.args.document.now c.element_span-in-Response.result) (sym c.in-Response.is) c.element_span-in-Response.ensures.lies

pub returns-in-Event-clause-lies : goal.returns-in-Event-clause-lies
returns-in-Event-clause-lies c = subst (Lies c.args.document.now c.element_span-in-Event.result) (sym c.in-Event.is) c.element_span-in-Event.ensures.lies

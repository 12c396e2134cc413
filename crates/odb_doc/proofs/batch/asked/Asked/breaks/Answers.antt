use Rattle.odb_doc.proofs.batch.asked.Asked.breaks.Goals as goal

pub returns-in-HeaderTwice : goal.returns-in-HeaderTwice
returns-in-HeaderTwice c = rw c.in-HeaderTwice.is c.has_header_twice.ensures

pub returns-in-BadBody : goal.returns-in-BadBody
returns-in-BadBody c = rw c.in-BadBody.is c.has_bad_body.ensures

pub returns-in-NestedBatch : goal.returns-in-NestedBatch
returns-in-NestedBatch c = rw c.in-NestedBatch.is c.has_nested_batch.ensures

pub returns-in-BadReference : goal.returns-in-BadReference
returns-in-BadReference c = rw c.in-BadReference.is c.has_bad_reference.ensures

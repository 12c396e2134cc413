use Rattle.std.proofs.Common.{◌∙◌, refl, rules, string_bytes, subst}
use Rattle.odb_reply.specs.Responses.{response_text}
use Rattle.odb_reply.proofs.ReadableLemmas.{readable-from}
use Rattle.odb_io.specs.Devices.{HasWritten, AppendsPrefix}
use Rattle.odb_reply.proofs.DoneLemmas.{labels_count, text_beside}
use Rattle.odb_reply.proofs.RestLemmas.{text_of-begun}
use Rattle.odb_io.proofs.WriteLemmas.{AppendsPrefix-none, AppendsPrefix-after, Appends-rest}
use Rattle.odb_reply.proofs.write.write_responses.Goals as goal

pub returns-in-Some-clause-err : goal.returns-in-Some-clause-err
returns-in-Some-clause-err g c = AppendsPrefix-none (g.W.Write.contents c.args.output.now.writer) (response_text c.args.done.now)

pub returns-in-Some-clause-write : goal.returns-in-Some-clause-write
returns-in-Some-clause-write g c = (λ e. absurd (cc (e)), λ failed. absurd (cc (failed, c.requires)))

pub returns-in-Some-clause-unwritten : goal.returns-in-Some-clause-unwritten
returns-in-Some-clause-unwritten g c = λ at same. refl

pub returns-clause-reads_back : goal.returns-clause-reads_back
returns-clause-reads_back g c = λ shallow.
    c.every_response.ensures.reads_back (readable-from c.args.done.now (c.in_default.ensures.held refl) (c.in_default.ensures.none refl) shallow)

pub returns-in_err-buffer-clause-err : goal.returns-in_err-buffer-clause-err
returns-in_err-buffer-clause-err g c =
    let part = AppendsPrefix-none (g.W.Write.contents c.args.output.now.writer) (response_text c.args.done.now) in
    search (rules, part)

pub returns-in_err-buffer_responses-clause-err : goal.returns-in_err-buffer_responses-clause-err
returns-in_err-buffer_responses-clause-err g c =
    let contents = g.W.Write.contents in
    let begun = (text_of-begun _ _ (string_bytes c.in_ok-buffer.buffer) c.in_ok-buffer.ensures.ok ∙ text_beside c.args.done.now c.run.result.now _ c.run.ensures.state c.plan.ensures.plan) in
    let part = subst (λ text. AppendsPrefix (contents c.args.output.now.writer) (contents c.buffer_responses.new.output.writer) text) begun c.in_err-buffer_responses.ensures.err in
    search (rules, part)

pub returns-in_err-put_text-clause-err : goal.returns-in_err-put_text-clause-err
returns-in_err-put_text-clause-err g c =
    let contents = g.W.Write.contents in
    let state = c.args.done.now in
    let old = contents c.args.output.now.writer in
    let mid = contents c.buffer_responses.new.output.writer in
    let last = string_bytes c.buffer_responses.new.buffer in
    let written = subst (λ text. HasWritten old mid text last) (text_of-begun _ _ (string_bytes c.in_ok-buffer.buffer) c.in_ok-buffer.ensures.ok ∙ text_beside state c.run.result.now _ c.run.ensures.state c.plan.ensures.plan) c.in_ok-buffer_responses.ensures.ok in
    let part = AppendsPrefix-after old mid (contents c.put_text.new.self.writer) (response_text state) last written (rw c.as_str.ensures.value at c.in_err-put_text.ensures.err) in
    search (rules, part)

pub returns-clause-ok : goal.returns-clause-ok
returns-clause-ok g c =
    let contents = g.W.Write.contents in
    let state = c.args.done.now in
    let old = contents c.args.output.now.writer in
    let mid = contents c.buffer_responses.new.output.writer in
    let last = string_bytes c.buffer_responses.new.buffer in
    let written = subst (λ text. HasWritten old mid text last) (text_of-begun _ _ (string_bytes c.in_ok-buffer.buffer) c.in_ok-buffer.ensures.ok ∙ text_beside state c.run.result.now _ c.run.ensures.state c.plan.ensures.plan) c.in_ok-buffer_responses.ensures.ok in
    Appends-rest old mid (contents c.put_text.new.self.writer) (response_text state) last written (rw c.as_str.ensures.value at c.in_ok-put_text.ensures.ok)

pub buffer_responses-requires-clause-labels : goal.buffer_responses-requires-clause-labels
buffer_responses-requires-clause-labels g c = labels_count c.args.done.now c.run.result.now _ c.run.ensures.state c.plan.ensures.plan c.plan.ensures.size

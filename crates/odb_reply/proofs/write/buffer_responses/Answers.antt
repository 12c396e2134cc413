use Rattle.std.proofs.Common.{◌≡◌, ◌++◌, ◌+◌, ◌≤◌, rules, length, string_bytes, arith, []}
use Rattle.odb_sched.specs.run.Answers.{answer}
use Rattle.odb_io.specs.Devices.{AppendsPrefix}
use Rattle.odb_reply.specs.Parts.{rest_text}
use Rattle.odb_reply.proofs.RestLemmas.{rest_text-last}
use Rattle.odb_io.proofs.WriteLemmas.{AppendsPrefix-part, AppendsPrefix-after, HasWritten-none, HasWritten-part, HasWritten-trans}
use Rattle.odb_reply.proofs.write.buffer_responses.Goals as goal

pub loop-i-init : goal.loop-i-init
loop-i-init g c =
    record { works = c.requires.works; written = HasWritten-none (g.W.Write.contents c.args.output.now.writer) (string_bytes c.args.buffer.now ++ rest_text (g.L.Labels.labels c.args.labels.now) [] (answer c.args.run.now) 0) }

pub returns-in_err-push_response-clause-err : goal.returns-in_err-push_response-clause-err
returns-in_err-push_response-clause-err g c =
    let part : AppendsPrefix (g.W.Write.contents c.args.output.now.writer) (g.W.Write.contents c.loop-i.output.writer) (string_bytes c.args.buffer.now ++ rest_text (g.L.Labels.labels c.args.labels.now) [] (answer c.args.run.now) 0) = (string_bytes c.loop-i.buffer ++ rest_text (g.L.Labels.labels c.args.labels.now) [] (answer c.args.run.now) c.loop-i.i, c.loop-i.invariant.written) in
    search (rules, part)

pub returns-in_err-write_full-clause-err : goal.returns-in_err-write_full-clause-err
returns-in_err-write_full-clause-err g c =
    let contents = g.W.Write.contents in
    let labels = g.L.Labels.labels c.args.labels.now in
    let answers = answer c.args.run.now in
    let mid = contents c.loop-i.output.writer in
    let new = contents c.write_full.new.output.writer in
    let later = rest_text labels [] answers (c.loop-i.i + 1) in
    let buffer = string_bytes c.push_response.new.text in
    let before = rw c.in_ok-push_response.ensures at c.loop-i.invariant.written in
    let part = AppendsPrefix-after (contents c.args.output.now.writer) mid new (string_bytes c.args.buffer.now ++ rest_text labels [] answers 0) (buffer ++ later) before (AppendsPrefix-part mid new buffer later c.in_err-write_full.ensures.err) in
    search (rules, part)

pub loop-i-preserved : goal.loop-i-preserved
loop-i-preserved g c =
    let contents = g.W.Write.contents in
    let labels = g.L.Labels.labels c.args.labels.now in
    let answers = answer c.args.run.now in
    let mid = contents c.loop-i.output.writer in
    let new = contents c.write_full.new.output.writer in
    let later = rest_text labels [] answers (c.loop-i.i + 1) in
    let buffer = string_bytes c.push_response.new.text in
    let left = string_bytes c.write_full.new.buffer in
    let before = rw c.in_ok-push_response.ensures at c.loop-i.invariant.written in
    record {
      works = search rules;
      written = HasWritten-trans (contents c.args.output.now.writer) mid new (string_bytes c.args.buffer.now ++ rest_text labels [] answers 0) (buffer ++ later) (left ++ later) before (HasWritten-part mid new buffer left later c.in_ok-write_full.ensures.ok);
    }

pub returns-in_err-push_str-clause-err : goal.returns-in_err-push_str-clause-err
returns-in_err-push_str-clause-err g c =
    let part : AppendsPrefix (g.W.Write.contents c.args.output.now.writer) (g.W.Write.contents c.loop-i.output.writer) (string_bytes c.args.buffer.now ++ rest_text (g.L.Labels.labels c.args.labels.now) [] (answer c.args.run.now) 0) = (string_bytes c.loop-i.buffer ++ rest_text (g.L.Labels.labels c.args.labels.now) [] (answer c.args.run.now) c.loop-i.i, c.loop-i.invariant.written) in
    search (rules, part)

pub returns-clause-ok : goal.returns-clause-ok
returns-clause-ok g c =
    let labels = g.L.Labels.labels c.args.labels.now in
    let answers = answer c.args.run.now in
    let all : length labels ≤ c.loop-i.i = omega (arith, c.requires.labels, c.len-i-end.ensures.size, c.loop-i-test.false) in
    let rest : string_bytes c.loop-i.buffer ++ rest_text labels [] answers c.loop-i.i ≡ string_bytes c.push_str.new.self = rest_text-last labels [] answers c.loop-i.i (string_bytes c.loop-i.buffer) (string_bytes c.push_str.new.self) all c.in_ok-push_str.ensures.bytes in
    rw rest at c.loop-i.invariant.written

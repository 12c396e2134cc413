use Rattle.std.proofs.Common.{◌≡◌, ◌++◌, [], false, string_bytes}
use Rattle.odb_sched.specs.run.Answers.{answer}
use Rattle.odb_io.specs.Devices.{HasWritten}
use Rattle.odb_reply.specs.Parts.{rest_text}
use Rattle.odb_reply.proofs.write.buffer_responses.Given as goal

-- the buffer, and then the remaining responses, are what is not written of the whole
abbrev pub invariant-loop-i : goal.invariant-loop-i
invariant-loop-i g l =
    record {
      works : l.output.failed ≡ false;
      written : HasWritten (g.W.Write.contents l.fn.output.writer) (g.W.Write.contents l.output.writer) (string_bytes l.fn.buffer ++ rest_text (g.L.Labels.labels l.labels) [] (answer l.run) 0) (string_bytes l.buffer ++ rest_text (g.L.Labels.labels l.labels) [] (answer l.run) l.i);
    }

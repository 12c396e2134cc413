-- Where a request is sent, for C.
use Rattle.std.proofs.Common.{string_bytes}
use Rattle.odb_calls.proofs.TargetLemmas.{resolves-by}
use Rattle.odb_ffi.proofs.resolve_exports.odb_resolve.Goals as goal

pub returns : goal.returns
returns c =
    resolves-by string_bytes c.args.base.now c.args.roots.now c.args.url.now c.args.sent.now c.args.location.now c.args.post c.give_target.result c.give_target.new.text_length c.args.text.now c.give_target.new.text c.target_of-target.result
    c.target_of-target.ensures.sent c.target_of-target.ensures.refused c.give_target.ensures.sent c.give_target.ensures.refused

use Rattle.percent_encoding.proofs.PercentLemmas.{IsAscii-percent_encode}
use Rattle.odb_resolve.proofs.root.within.Goals as goal

pub sent_below-requires : goal.sent_below-requires
sent_below-requires c = rw (c.as_bytes-in-Some.ensures.value, c.deref-in-Some.ensures.value, c.in_ok-path.ensures.value, c.percent_encode.ensures.text) (IsAscii-percent_encode _ _)

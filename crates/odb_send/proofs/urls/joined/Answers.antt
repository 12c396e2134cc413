use Rattle.odb_send.proofs.UrlLemmas.{rest_begins}
use Rattle.odb_send.proofs.urls.joined.Goals as goal

pub split_at-requires : goal.split_at-requires
split_at-requires c = rest_begins c.args.url.now c.after_first_segment-after.result.now c.after_first_segment-after.ensures

use Rattle.std.proofs.Common.{[], ◌∷◌}
use Rattle.odb_calls.specs.Sessions.{Report, Start}
use Rattle.odb_tests_calls.proofs.sessions.answers.Goals as goal

pub returns : goal.returns
returns c =
    c.every_session.ensures.joined c.args.live.now c.starts-started.new.live c.reports-reported.new.live (Start 0 c.starts-started.result ∷ []) (Report 0 204 [] [] c.reports-reported.result ∷ [])
    c.starts-started.ensures c.reports-reported.ensures

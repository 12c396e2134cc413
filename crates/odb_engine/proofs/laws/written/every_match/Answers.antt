use Rattle.odb_reply.specs.declared.match_fault.MatchRule.TheVariants.{ResponseMissing}
use Rattle.odb_reply.specs.declared.strictness.Strictness.{Strictness}
use Rattle.odb_reply.specs.declared.strictness.Strictness.TheVariants.{Requests, Units}
use Rattle.std.proofs.Common.{Option, None, Some}
use Rattle.odb_engine.specs.Written.{Allows}
use Rattle.odb_engine.proofs.ReadAgainLemmas.{AreReadings, ran-again, replayed-again}
use Rattle.odb_engine.proofs.WrittenLemmas.{AreMatchLaws, matched}
use Rattle.odb_engine.proofs.laws.written.every_match.Goals as goal

any : (strict : Option Strictness) → Allows Requests strict
any None = tt
any (Some Requests) = tt
any (Some Units) = tt

pub returns : goal.returns
returns c =
    let laws : AreMatchLaws = record {
      stays = λ batch entries fits. c.every_completion.ensures.unchanged batch entries ((c.one_match.ensures.fits batch entries).0 fits ResponseMissing);
      alone = c.every_possible_live.ensures.alone;
    } in
    let readings : AreReadings = record { held = c.every_value.ensures.held; nests = c.every_value.ensures.nests; outcomes = c.one_record.ensures.recordable; events = c.one_history.ensures.recordable } in
    record {
      fits = matched laws;
      replay = λ order policy form strict mode bytes outcomes text writes. matched laws Requests strict mode bytes text (any strict) (c.read_again.ensures.replay order policy form bytes outcomes text writes);
      run = λ policy form strict mode bytes events text writes. matched laws Requests strict mode bytes text (any strict) (c.read_again.ensures.run policy form bytes events text writes);
      replayed = λ order policy form strict mode bytes outcomes text writes. matched laws Requests strict mode bytes text (any strict) (replayed-again readings order policy form bytes outcomes text writes);
      ran = λ policy form strict mode bytes events text writes. matched laws Requests strict mode bytes text (any strict) (ran-again readings policy form bytes events text writes);
    }

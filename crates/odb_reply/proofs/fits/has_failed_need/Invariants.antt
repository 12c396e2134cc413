use Rattle.std.proofs.Common.{◌≡◌, drop, not}
use Rattle.std.specs.List.{list_any}
use Rattle.odb_reply.specs.Places.{is_satisfied}
use Rattle.odb_reply.specs.Fits.{statuses}
use Rattle.odb_reply.proofs.fits.has_failed_need.Given as goal

-- the result is that of the remaining needs
abbrev pub invariant-loop-need : goal.invariant-loop-need
invariant-loop-need l = list_any (λ need. not (is_satisfied (statuses l.table) l.units need)) (drop l.need-index l.need-items) ≡ list_any (λ need. not (is_satisfied (statuses l.table) l.units need)) l.need-items

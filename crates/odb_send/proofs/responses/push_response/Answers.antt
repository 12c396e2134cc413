-- The parts of one response.
use Rattle.std.proofs.Common.{refl, string_bytes}
use Rattle.odb_send.proofs.PartLemmas.{kept-part}
use Rattle.odb_send.proofs.responses.push_response.Goals as goal

pub returns-clause-parts : goal.returns-clause-parts
returns-clause-parts c = record {
  id = kept-part (string_bytes c.push_part.new.text) (string_bytes c.push_part_if.new.text) _ _ c.in_ok-group.ensures.text c.in_ok-id.ensures.part;
  group = c.in_ok-group.ensures.part;
  status = refl;
}

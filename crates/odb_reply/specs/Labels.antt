-- The id and the group that a caller gives of a request.
use Rattle.std.specs.Prelude.{option_map}
use Rattle.odb_reply.specs.declared.labels.Label.{Label}
use Rattle.odb_reply.specs.Responses.{LabelValue}

abbrev pub label_value : Label → LabelValue
label_value label = record { id = label.id.now; group = option_map (λ group. group.now) label.group }

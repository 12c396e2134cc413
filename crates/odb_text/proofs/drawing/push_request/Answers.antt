use Rattle.std.proofs.Common.{◌∙◌, ap, sym, subst, ◌≡◌, ◌++◌, OnOk, string_bytes}
use Rattle.std.specs.List.{flat_map}
use Rattle.odb_doc.specs.batch.Records.{record_of}
use Rattle.odb_check.specs.Levels.{level_at}
use Rattle.odb_check.specs.Needs.{needs_at}
use Rattle.odb_check.specs.Plans.{plan_records}
use Rattle.odb_check.specs.Units.{unit_at}
use Rattle.odb_text.specs.Drawings.{arrow_line, cluster_line, node_line, rank_line}
use Rattle.odb_text.specs.Rows.{row_at}
use Rattle.odb_text.proofs.DrawingLemmas.{four_parts, request_parts}
use Rattle.odb_text.proofs.drawing.push_request.Goals as goal

pub returns : goal.returns
returns c =
    let rs = plan_records c.args.plan.now in
    let request = record_of c.request-request.result.now in
    let arrows = subst (λ needs. OnOk c.push_arrows.result (string_bytes c.push_arrows.new.text ≡ string_bytes c.push_rank.new.text ++ flat_map (arrow_line rs c.args.i) needs)) c.needs.ensures.value c.push_arrows.ensures in
    subst (λ lines. OnOk c.push_arrows.result (string_bytes c.push_arrows.new.text ≡ string_bytes c.args.text.now ++ lines))
    (sym (request_parts rs c.args.i request c.request-request.ensures.value))
    (four_parts c.push_arrows.result (string_bytes c.args.text.now) (string_bytes c.push_node.new.text) (string_bytes c.push_cluster.new.text)
    (string_bytes c.push_rank.new.text) (string_bytes c.push_arrows.new.text)
    (node_line c.args.i request) (cluster_line (unit_at rs c.args.i) c.args.i request.group) (rank_line (level_at rs c.args.i) (row_at rs c.args.i) c.args.i) (flat_map (arrow_line rs c.args.i) (needs_at rs c.args.i))
    c.in_ok-push_node.ensures
    (c.in_ok-push_cluster.ensures ∙ ap (λ u. string_bytes c.push_node.new.text ++ cluster_line u c.args.i request.group) c.unit_of.ensures.value)
    (c.in_ok-push_rank.ensures ∙ ap (λ level. string_bytes c.push_cluster.new.text ++ rank_line level c.args.row c.args.i) c.level.ensures ∙ ap (λ row. string_bytes c.push_cluster.new.text ++ rank_line (level_at rs c.args.i) row c.args.i) c.requires.row)
    arrows)

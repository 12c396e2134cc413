use Rattle.std.proofs.Common.{◌≡◌, ◌∙◌, bytes_eq, codes, cond, true, option_map, string_bytes, Some, ap, sym}
use Rattle.std.proofs.lemmas.Cmp.{nat_list_eq_equiv}
use Rattle.serde_json.specs.Find.{as_number, as_str}
use Rattle.serde_json.specs.View.{number_view, view}
use Rattle.odb_doc.proofs.FoundParts.{kept_by_id, names_apart, other_name, set_by_other}
use Rattle.odb_doc.proofs.recorded.outcome.Parts.put.Goals as goal

pub returns-then-eq : goal.returns-then-eq
returns-then-eq c =
    let old = c.args.self.now in
    let id_name = c.args.id_name.now in
    let name = c.args.name.now in
    let d = view c.args.value.now in
    let apart = names_apart c.args.kind id_name c.requires in
    let same : bytes_eq id_name name ≡ true = sym c.if-eq.ensures in
    record {
      other = kept_by_id c.args.kind id_name name c.requires old.has_other (nat_list_eq_equiv.symm name id_name ∙ same);
      id = c.text_of.ensures ∙ ap (λ v. as_str (view v)) c.take.ensures.taken ∙ ap (λ b. cond b (as_str d) (option_map string_bytes old.id)) (sym same);
      status = ap (λ b. cond b (as_number d) (option_map number_view old.status)) (sym (other_name id_name name (codes "status") same apart.0));
      headers = ap (λ b. cond b (Some d) (option_map view old.headers)) (sym (other_name id_name name (codes "headers") same apart.1));
      body = ap (λ b. cond b (Some d) (option_map view old.body)) (sym (other_name id_name name (codes "body") same apart.2));
    }

pub returns-else-eq-4 : goal.returns-else-eq-4
returns-else-eq-4 c =
    let old = c.args.self.now in
    let id_name = c.args.id_name.now in
    let name = c.args.name.now in
    let d = view c.args.value.now in
    record {
      other = set_by_other c.args.kind id_name name c.requires old.has_other (nat_list_eq_equiv.symm name id_name ∙ sym c.if-eq.ensures) (sym c.if-eq-2.ensures) (sym c.if-eq-3.ensures) (sym c.if-eq-4.ensures);
      id = ap (λ b. cond b (as_str d) (option_map string_bytes old.id)) c.if-eq.ensures;
      status = ap (λ b. cond b (as_number d) (option_map number_view old.status)) (c.if-eq-2.ensures ∙ nat_list_eq_equiv.symm name (codes "status"));
      headers = ap (λ b. cond b (Some d) (option_map view old.headers)) (c.if-eq-3.ensures ∙ nat_list_eq_equiv.symm name (codes "headers"));
      body = ap (λ b. cond b (Some d) (option_map view old.body)) (c.if-eq-4.ensures ∙ nat_list_eq_equiv.symm name (codes "body"));
    }

use Rattle.std.proofs.Common.{◌∙◌, List, ℕ, subst, sym}
use Rattle.odb_doc.specs.batch.BodyKinds.{AsksFor}
use Rattle.odb_doc.proofs.TypeLemmas.{lower_same}
use Rattle.odb_doc.proofs.batch.media_type.BodyKind.of.Goals as goal

pub returns-in_ok-folded : goal.returns-in_ok-folded
returns-in_ok-folded c = record {
  name = c.media_type-name.result.now;
  has = c.media_type-name.ensures;
  asks = subst (λ (name : List ℕ). AsksFor name c.asked_by.result) c.in_ok-folded.ensures (rw c.as_slice.ensures.value at c.asked_by.ensures);
}

pub returns-else-has_uppercase : goal.returns-else-has_uppercase
returns-else-has_uppercase c = record {
  name = c.media_type-name.result.now;
  has = c.media_type-name.ensures;
  asks = subst (λ (name : List ℕ). AsksFor name c.asked_by-else-has_uppercase.result) (sym (lower_same c.media_type-name.result.now (sym c.has_uppercase.ensures ∙ c.if-has_uppercase.false))) c.asked_by-else-has_uppercase.ensures;
}

-- What canon writes of a batch is one text.
use Rattle.std.proofs.Common.{◌≡◌, ◌∙◌, ℕ, List, inl, inr, sym, ap}
use Rattle.std.proofs.lemmas.Bool.{cases_order}
use Rattle.odb_doc.specs.declared.fault.TextFault.TheVariants.{NotWhole}
use Rattle.odb_doc.specs.canonical.Canonical.{HasWholeBodies, IsFirstNotWhole}
use Rattle.odb_doc.specs.batch.Records.{Record}
use Rattle.odb_doc.specs.Refusals.{Printed}
use Rattle.odb_engine.specs.declared.form.Form.{Form}
use Rattle.odb_engine.specs.Cascade.{IsOne}
use Rattle.odb_engine.specs.Forms.{fault_text}
use Rattle.odb_engine.specs.Commands.{Canonical, IsNotWhole}
use Rattle.odb_doc.specs.Faults.{text_row}
use Rattle.std.proofs.lemmas.Option.{same_Some}

one_first : (batch : List Record) (at other : ℕ) → IsFirstNotWhole batch at → IsFirstNotWhole batch other → at ≡ other
one_first batch at other one two =
    elim (cases_order at other) [
      | inl same ↦ same
      | inr (inl less) ↦ absurd (one.holds (two.first at less))
      | inr (inr more) ↦ absurd (two.holds (one.first other more))
    ]

whole_no_first : (batch : List Record) (at : ℕ) → HasWholeBodies batch → ¬ IsFirstNotWhole batch at
whole_no_first batch at whole first = first.holds (whole at first.within)

one_not_whole : (batch : List Record) (s t : Printed) → IsNotWhole batch s → IsNotWhole batch t → s ≡ t
one_not_whole batch s t one two = same_Some s t (sym one.is ∙ ap (λ at. text_row (NotWhole at)) (one_first batch one.at two.at one.first two.first) ∙ two.is)

pub canonical_one : (batch : List Record) (form : Form) → IsOne (Canonical batch form)
canonical_one batch form a b s t (inl x) (inl y) = (x.ends ∙ sym y.ends, x.prints ∙ ap (fault_text form) (one_not_whole batch x.refusal y.refusal x.is y.is) ∙ sym y.prints)
canonical_one batch form a b s t (inl x) (inr y) = absurd (whole_no_first batch x.is.at y.0 x.is.first)
canonical_one batch form a b s t (inr x) (inl y) = absurd (whole_no_first batch y.is.at x.0 y.is.first)
canonical_one batch form a b s t (inr (here, ends)) (inr (there, ended)) = (ends.0 ∙ sym ended.0, ends.1 ∙ sym ended.1)

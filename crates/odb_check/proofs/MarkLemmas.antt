-- One more mark.
use Rattle.std.proofs.Common.{◌≡◌, ◌≤◌, ◌<◌, ℕ, Bool, false, ◌||◌, List, [], ◌∷◌, ◌++◌, refl, sym, ap, ◌∙◌, inl, inr, arith, length}
use Rattle.std.specs.Prelude.{◌==◌, slice_index, slice_set}
use Rattle.std.specs.List.{list_any}
use Rattle.std.proofs.Math.Bool.{or-false}
use Rattle.std.proofs.Math.ListN.{length-set}
use Rattle.std.proofs.lemmas.Bool.{eq-eqb, ne_eqb, or_right}
use Rattle.odb_doc.specs.batch.Records.{Record}
use Rattle.odb_check.specs.declared.need.Need.{Need}
use Rattle.odb_check.specs.declared.need.Need.TheVariants.{One, Group}
use Rattle.odb_check.specs.Marks.{ones_with, groups_with, same_need, AreMarksOf}
use Rattle.odb_check.specs.PlanGraph.{IsNeedAmong}
use Rattle.odb_check.specs.Units.{unit_count}
use Rattle.odb_check.proofs.AnyLemmas.{any_more}
use Rattle.odb_check.proofs.BelowLemmas.{set_cases}

-- a mark that another need leaves as it is
unmarked : (test : Need → Bool) (named : List Need) (need : Need) (v : Bool) → test need ≡ false → v ≡ list_any test named → v ≡ list_any test (named ++ need ∷ [])
unmarked test named need v is e = e ∙ sym (any_more test named need ∙ ap (λ w. list_any test named || w) is ∙ or-false (list_any test named))

-- the mark of a place, after that of a place p was set
marked : (kind : ℕ → Need) (named : List Need) (marks : List ℕ) (stamp p : ℕ) → p < length marks → ((q : ℕ) → same_need (kind q) (kind p) ≡ (q == p))
    → ((q : ℕ) → (slice_index marks q == stamp) ≡ list_any (same_need (kind q)) named) → (q : ℕ) → (slice_index (slice_set marks p stamp) q == stamp) ≡ list_any (same_need (kind q)) (named ++ kind p ∷ [])
marked kind named marks stamp p within is are q =
    elim (set_cases marks p stamp q within) [
      | inl (same, set) ↦ eq-eqb _ stamp set ∙ sym (any_more (same_need (kind q)) named (kind p) ∙ or_right (list_any (same_need (kind q)) named) _ (is q ∙ eq-eqb q p (sym same)))
      | inr (other, kept) ↦ ap (λ v. v == stamp) kept ∙ unmarked (same_need (kind q)) named (kind p) _ (is q ∙ ne_eqb q p (λ e. other (sym e))) (are q)
    ]

low_set : (marks : List ℕ) (p stamp : ℕ) → p < length marks → ((q : ℕ) → slice_index marks q ≤ stamp) → (q : ℕ) → slice_index (slice_set marks p stamp) q ≤ stamp
low_set marks p stamp within low q = elim (set_cases marks p stamp q within) [ inl (same, set) ↦ omega arith | inr (other, kept) ↦ omega (arith, low q) ]

pub marks_more : (rs : List Record) (named : List Need) (need : Need) (stamp : ℕ) (ones groups : List ℕ) → IsNeedAmong (length rs) (unit_count rs) need
    → AreMarksOf rs named stamp ones groups → AreMarksOf rs (named ++ need ∷ []) stamp (ones_with need stamp ones) (groups_with need stamp groups)
marks_more rs named (One p) stamp ones groups within marks =
    let inside : p < length ones = omega (arith, marks.up_to.ones_count) in
    record {
      up_to = record {
        ones_count = length-set ones p stamp ∙ marks.up_to.ones_count;
        groups_count = marks.up_to.groups_count;
        ones_low = low_set ones p stamp inside marks.up_to.ones_low;
        groups_low = marks.up_to.groups_low;
      };
      ones_are = marked One named ones stamp p inside (λ q. refl) marks.ones_are;
      groups_are = λ u. unmarked (same_need (Group u)) named (One p) (slice_index groups u == stamp) refl (marks.groups_are u);
    }
marks_more rs named (Group u) stamp ones groups within marks =
    let inside : u < length groups = omega (arith, marks.up_to.groups_count) in
    record {
      up_to = record {
        ones_count = marks.up_to.ones_count;
        groups_count = length-set groups u stamp ∙ marks.up_to.groups_count;
        ones_low = marks.up_to.ones_low;
        groups_low = low_set groups u stamp inside marks.up_to.groups_low;
      };
      ones_are = λ p. unmarked (same_need (One p)) named (Group u) (slice_index ones p == stamp) refl (marks.ones_are p);
      groups_are = marked Group named groups stamp u inside (λ v. refl) marks.groups_are;
    }

-- What the fronts are not that refer to nothing.
use Rattle.std.proofs.Common.{◌≡◌, ◌⊎◌, inl, inr, ℕ, List}
use Rattle.odb_names.specs.Fronts.{form, reference, bad}
use Rattle.odb_names.specs.declared.segment.Front.{Front}
use Rattle.odb_names.specs.declared.segment.Front.TheVariants as fronts

pub plain_not_bad : (front : Front) → (front ≡ fronts.Plain) ⊎ (front ≡ fronts.Reserved) → bad ≡ form front → ⊥
plain_not_bad fronts.Plain is same = cc (same)
plain_not_bad fronts.Reserved is same = cc (same)
plain_not_bad (fronts.Reference id) is same = cc (same)
plain_not_bad fronts.Bad is same = elim is [ inl here ↦ cc (here) | inr here ↦ cc (here) ]

pub plain_not_reference : (front : Front) (id : List ℕ) → (front ≡ fronts.Plain) ⊎ (front ≡ fronts.Reserved) → reference id ≡ form front → ⊥
plain_not_reference fronts.Plain id is same = cc (same)
plain_not_reference fronts.Reserved id is same = cc (same)
plain_not_reference (fronts.Reference other) id is same = elim is [ inl here ↦ cc (here) | inr here ↦ cc (here) ]
plain_not_reference fronts.Bad id is same = cc (same)

pub reference_not_bad : (id : List ℕ) → bad ≡ reference id → ⊥
reference_not_bad id same = cc (same)

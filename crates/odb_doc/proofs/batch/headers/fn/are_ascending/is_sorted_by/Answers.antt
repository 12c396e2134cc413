use Rattle.std.proofs.Common.{◌≡◌, ◌∙◌, ◌==◌, ap, refl}
use Rattle.std.specs.declared.cmp.Ordering.{Ordering}
use Rattle.std.specs.declared.cmp.Ordering.TheVariants.{Less, Equal, Greater}
use Rattle.std.specs.Ordering.{is_lt, ordering_index}
use Rattle.odb_doc.proofs.batch.headers.fn.are_ascending.is_sorted_by.Goals as goal

is_lt-index : (order : Ordering) → (ordering_index order == 0) ≡ is_lt order
is_lt-index Less = refl
is_lt-index Equal = refl
is_lt-index Greater = refl

pub returns : goal.returns
returns c =
    let order = rw (c.as_bytes.ensures.value, c.as_bytes-2.ensures.value) at c.folded_cmp.ensures in
    c.eq.ensures ∙ is_lt-index c.folded_cmp.result ∙ ap is_lt order

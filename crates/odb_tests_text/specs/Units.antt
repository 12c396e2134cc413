-- What has become of a unit of a batch, by the responses to it.
use Rattle.std.specs.Prelude.{◌≡◌, ℕ, Bool, true, false, List}
use Rattle.odb_doc.specs.batch.Records.{Record}
use Rattle.odb_send.specs.Units.{IsDone, IsInRest, IsLeftOut}

-- The unit is done, or it is in the rest; if neither, it is left out. What is done is not left out.
pub record HasFate (rs : List Record) (statuses : List ℕ) (u : ℕ) (done rest : Bool) : Type 0 where
  pub is_done : done ≡ true → IsDone rs statuses u × ¬ IsLeftOut rs statuses u
  pub in_rest : rest ≡ true → IsInRest rs statuses u
  pub left_out : done ≡ false → rest ≡ false → IsLeftOut rs statuses u × ¬ IsDone rs statuses u

-- One response per id (OData JSON Format 4.01, section 19.5).
use Rattle.std.specs.Prelude.{◌≡◌, ℕ, Bool, false, List, Some, option_map, unwrap_or, bytes_eq, codes, count_by, Contains, IsSomeAnd}
use Rattle.serde_json.specs.Data.{Data}
use Rattle.odb_doc.specs.Members.{text_at}
use Rattle.odb_doc.specs.batch.Records.{Record}
use Rattle.odb_check.specs.Positions.{id_at, IsId}
use Rattle.odb_reply.specs.ResponseDocuments.{responses_in}

-- whether the response has this id
abbrev pub has_id : List ℕ → Data → Bool
has_id id response = unwrap_or (option_map (bytes_eq id) (text_at (codes "id") response)) false

-- each id of the batch is that of exactly one response, and no response has another id
pub record HasOnePerId (requests : List Record) (value : Data) : Type 0 where
  pub one : (i : ℕ) (id : List ℕ) → id_at requests i ≡ Some id → count_by (has_id id) (responses_in value) ≡ 1
  pub known : (response : Data) → Contains (responses_in value) response → IsSomeAnd (text_at (codes "id") response) (IsId requests)

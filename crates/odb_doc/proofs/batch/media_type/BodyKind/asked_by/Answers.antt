use Rattle.std.proofs.Common.{◌-◌, codes, length, take, inl, inr, rules}
use Rattle.std.proofs.lemmas.Bool.Decides.{Decides-eqb}
use Rattle.std.proofs.lemmas.List.{nil_from_length}
use Rattle.std.proofs.lemmas.Slice.Eq.{ends_is}
use Rattle.odb_doc.proofs.batch.media_type.BodyKind.asked_by.Goals.{then-is_empty, else-is_empty, then-eq, else-eq}
use Rattle.odb_doc.proofs.batch.media_type.BodyKind.asked_by.Goals as goal

pub returns-then-ends_with : goal.returns-then-ends_with
returns-then-ends_with c =
    let name = c.args.name.now in
    elim c.if-is_empty.branch [
      | then-is_empty w ↦ inl (nil_from_length name (search rules))
      | else-is_empty w ↦ elim c.if-eq.branch [
        | then-eq v ↦ inr (inl (search rules))
        | else-eq v ↦ inr (inr (take (length name - 5) name, (ends_is Decides-eqb name (codes "+json") v.ends_with.result v.ends_with.ensures.value).0 (search rules)))
      ]
    ]

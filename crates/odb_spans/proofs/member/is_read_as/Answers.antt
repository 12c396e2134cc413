use Rattle.std.proofs.Common.{◌≡◌, Some, None, Option, sym}
use Rattle.std.proofs.lemmas.Bool.{true≢false}
use Rattle.serde_json.specs.Data.{Data, string}
use Rattle.serde_json.specs.View.{view}
use Rattle.odb_spans.proofs.ReadLemmas.{read-string}
use Rattle.odb_spans.proofs.member.is_read_as.Goals as goal

same-data : (o : Option Data) (d e : Data) → o ≡ Some d → o ≡ Some e → d ≡ e
same-data o d e p q = cc (p, q)

never : {P : Type 0} (o : Option Data) (d : Data) → o ≡ None → o ≡ Some d → P
never o d p q = absurd (cc (p, q))

pub returns-in-Ok : goal.returns-in-Ok
returns-in-Ok c k utf8 spelled = c.is_text.ensures k (same-data _ (view c.in-Ok.value) (string k) c.in-Ok.ensures.ok.1 (read-string _ k spelled))

pub returns-else-is_memory : goal.returns-else-is_memory
returns-else-is_memory c k utf8 spelled = never _ (string k) (c.in-Err.ensures.err (λ m. true≢false (sym (c.if-is_memory.ensures.1 m))) utf8) (read-string _ k spelled)

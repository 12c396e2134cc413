-- A word at the end of a text.
use Rattle.std.proofs.Common.{string_bytes, rules}
use Rattle.odb_calls.proofs.FaultLemmas.{last-word}
use Rattle.odb_calls.proofs.headers.push_word.Goals as goal

pub returns-clause-word : goal.returns-clause-word
returns-clause-word c = last-word (string_bytes c.args.text.now) c.args.word.now (string_bytes c.push_str.new.self) _ c.in_ok-push_str.ensures.bytes (search rules) (search rules)

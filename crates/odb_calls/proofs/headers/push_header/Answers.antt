-- A header at the end of a text.
use Rattle.std.proofs.Common.{string_bytes}
use Rattle.odb_calls.proofs.HeaderLemmas.{both, last-pair}
use Rattle.odb_calls.proofs.headers.push_header.Goals as goal

pub returns-clause-text : goal.returns-clause-text
returns-clause-text c = both (string_bytes c.args.text.now) c.args.name.now c.args.value.now (string_bytes c.push_word.new.text) (string_bytes c.push_word-2.new.text) c.in_ok-name.ensures.text c.in_ok-value.ensures.text

pub returns-clause-pair : goal.returns-clause-pair
returns-clause-pair c = last-pair (string_bytes c.args.text.now) c.args.name.now c.args.value.now (string_bytes c.push_word.new.text) (string_bytes c.push_word-2.new.text) _ _ c.in_ok-value.ensures.text c.in_ok-name.ensures.word c.in_ok-value.ensures.word

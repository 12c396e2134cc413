use Rattle.std.proofs.Common.{◌≡◌, ◌∙◌, ◌-◌, ◌<◌, [], ◌∷◌, length, true, false, Some, None, refl, ap, arith}
use Rattle.json.specs.Json.{after_end_array, read_key, value}
use Rattle.json.specs.Reads.{token_of}
use Rattle.json.proofs.Grammar.{value_is, read_key-shorter}
use Rattle.odb_reply.specs.Passes.{has_numbers, left_if, pass_value, pass_items, pass_members}
use Rattle.odb_reply.proofs.PassLemmas.{pass-number, pass-array, pass-object, too-deep-array, too-deep-object, item-passed, item-failed, items-over, member-passed, member-failed, key-failed, members-over}
use Rattle.odb_reply.proofs.pass.+pass.Goals as goal

pub pass_from-returns-in-String-clause-value : goal.pass_from-returns-in-String-clause-value
pass_from-returns-in-String-clause-value t c = rw (value_is c.args.depth (token_of c.args.token ∷ c.args.reader.now)) (grind arith)

pub pass_from-returns-then-is_in_range-clause-value : goal.pass_from-returns-then-is_in_range-clause-value
pass_from-returns-then-is_in_range-clause-value t c =
    ap (λ token. pass_value c.args.depth (token_of token ∷ c.args.reader.now)) c.in-Number.is ∙ pass-number c.args.depth c.in-Number.digits.now c.args.reader.now true (grind arith)

pub pass_from-returns-else-is_in_range-clause-value : goal.pass_from-returns-else-is_in_range-clause-value
pass_from-returns-else-is_in_range-clause-value t c =
    ap (λ token. pass_value c.args.depth (token_of token ∷ c.args.reader.now)) c.in-Number.is ∙ pass-number c.args.depth c.in-Number.digits.now c.args.reader.now false (grind arith)

pub pass_from-returns-then-depth-eq0-clause-value : goal.pass_from-returns-then-depth-eq0-clause-value
pass_from-returns-then-depth-eq0-clause-value t c =
    ap (λ token. pass_value c.args.depth (token_of token ∷ c.args.reader.now)) c.in-BeginArray.is ∙ too-deep-array c.args.depth c.args.reader.now (omega arith)

pub pass_from-returns-else-depth-eq0-clause-value : goal.pass_from-returns-else-depth-eq0-clause-value
pass_from-returns-else-depth-eq0-clause-value t c =
    let same : pass_value c.args.depth (token_of c.args.token ∷ c.args.reader.now) ≡ pass_items (c.args.depth - 1) c.args.reader.now =
    ap (λ token. pass_value c.args.depth (token_of token ∷ c.args.reader.now)) c.in-BeginArray.is ∙ pass-array c.args.depth c.args.reader.now (omega arith) in
    rw same c.pass_items.ensures.value

pub pass_from-returns-then-depth-eq0-2-clause-value : goal.pass_from-returns-then-depth-eq0-2-clause-value
pass_from-returns-then-depth-eq0-2-clause-value t c =
    ap (λ token. pass_value c.args.depth (token_of token ∷ c.args.reader.now)) c.in-BeginObject.is ∙ too-deep-object c.args.depth c.args.reader.now (omega arith)

pub pass_from-returns-else-depth-eq0-2-clause-value : goal.pass_from-returns-else-depth-eq0-2-clause-value
pass_from-returns-else-depth-eq0-2-clause-value t c =
    let same : pass_value c.args.depth (token_of c.args.token ∷ c.args.reader.now) ≡ pass_members (c.args.depth - 1) c.args.reader.now =
    ap (λ token. pass_value c.args.depth (token_of token ∷ c.args.reader.now)) c.in-BeginObject.is ∙ pass-object c.args.depth c.args.reader.now (omega arith) in
    rw same c.pass_members.ensures.value

pub pass_from-returns-in-EndObject-clause-value : goal.pass_from-returns-in-EndObject-clause-value
pass_from-returns-in-EndObject-clause-value t c = rw (value_is c.args.depth (token_of c.args.token ∷ c.args.reader.now)) (grind arith)

pub pass_value-returns-in_err-token-clause-value : goal.pass_value-returns-in_err-token-clause-value
pass_value-returns-in_err-token-clause-value t c =
    let empty : c.args.reader.now ≡ [] = grind arith in
    let none : pass_value c.args.depth c.args.reader.now ≡ None = ap (pass_value c.args.depth) empty ∙ ap (left_if has_numbers) (value_is c.args.depth []) in
    grind (arith, none)

pub pass_items-loop-reader-init : goal.pass_items-loop-reader-init
pass_items-loop-reader-init t c = (length c.args.reader.now, omega arith, omega arith, refl)

pub pass_items-loop-reader-preserved : goal.pass_items-loop-reader-preserved
pass_items-loop-reader-preserved t c =
    let l = c.loop-reader in
    let (turns, enough, shorter, same) = l.invariant in
    let going : (after_end_array l.reader ≡ None) × (c.take_end_array.new.self ≡ l.reader) = grind arith in
    let less : length c.pass_value.new.reader < length l.reader = rw (← going.1) c.in_ok-pass_value.ensures.shorter in
    (turns - 1, omega (arith, enough, less), omega (arith, shorter, less), same ∙ item-passed (value c.args.depth) turns l.reader _ (omega (arith, enough, less)) going.0 (rw (← going.1) c.in_ok-pass_value.ensures.value))

pub pass_items-returns-in_err-pass_value-clause-value : goal.pass_items-returns-in_err-pass_value-clause-value
pass_items-returns-in_err-pass_value-clause-value t c =
    let l = c.loop-reader in
    let (turns, enough, shorter, same) = l.invariant in
    let going : (after_end_array l.reader ≡ None) × (c.take_end_array.new.self ≡ l.reader) = grind arith in
    let none = same ∙ item-failed (value c.args.depth) turns l.reader going.0 (rw (← going.1) c.in_err-pass_value.ensures.value) in
    grind (arith, none)

pub pass_items-returns-clause-value : goal.pass_items-returns-clause-value
pass_items-returns-clause-value t c =
    let l = c.loop-reader in
    let (turns, enough, shorter, same) = l.invariant in
    same ∙ items-over (value c.args.depth) turns l.reader c.take_end_array.new.self enough (grind arith)

pub pass_members-loop-reader-init : goal.pass_members-loop-reader-init
pass_members-loop-reader-init t c = (length c.args.reader.now, omega arith, omega arith, refl)

pub pass_members-returns-in_err-next_key-clause-value : goal.pass_members-returns-in_err-next_key-clause-value
pass_members-returns-in_err-next_key-clause-value t c =
    let l = c.loop-reader in
    let (turns, enough, shorter, same) = l.invariant in
    let none = same ∙ key-failed (value c.args.depth) turns l.reader c.in_err-next_key.ensures.value in
    grind (arith, none)

pub pass_members-loop-reader-preserved : goal.pass_members-loop-reader-preserved
pass_members-loop-reader-preserved t c =
    let l = c.loop-reader in
    let (turns, enough, shorter, same) = l.invariant in
    let name = c.in-Some.field-0.now in
    let after = c.next_key.new.self in
    let named : read_key l.reader ≡ Some (Some name, after) = grind arith in
    let less = read_key-shorter l.reader (Some name) after named in
    let lesser = c.in_ok-pass_value.ensures.shorter in
    (turns - 1, omega (arith, enough, less, lesser), omega (arith, shorter, less, lesser), same ∙ member-passed (value c.args.depth) turns name l.reader after _ (omega (arith, enough, less)) named c.in_ok-pass_value.ensures.value)

pub pass_members-returns-in_err-pass_value-clause-value : goal.pass_members-returns-in_err-pass_value-clause-value
pass_members-returns-in_err-pass_value-clause-value t c =
    let l = c.loop-reader in
    let (turns, enough, shorter, same) = l.invariant in
    let name = c.in-Some.field-0.now in
    let after = c.next_key.new.self in
    let named : read_key l.reader ≡ Some (Some name, after) = grind arith in
    let none = same ∙ member-failed (value c.args.depth) turns name l.reader after named c.in_err-pass_value.ensures.value in
    grind (arith, none)

pub pass_members-returns-clause-value : goal.pass_members-returns-clause-value
pass_members-returns-clause-value t c =
    let l = c.loop-reader in
    let (turns, enough, shorter, same) = l.invariant in
    same ∙ members-over (value c.args.depth) turns l.reader c.next_key.new.self enough (grind arith)

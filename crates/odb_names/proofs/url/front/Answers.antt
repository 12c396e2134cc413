-- No front but the one that is returned is a front of the URL.
use Rattle.std.proofs.Common.{◌≡◌, false}
use Rattle.std.proofs.lemmas.Result.{IfOk-weaker}
use Rattle.odb_names.specs.declared.segment.Front.{Front}
use Rattle.odb_names.specs.Classes.{begins_with_sign}
use Rattle.odb_names.specs.Fronts.{FrontForm, form, plain, HasFront}
use Rattle.odb_names.proofs.Decoded.{plain_front}
use Rattle.odb_names.proofs.OneFront.{one_front}
use Rattle.odb_names.proofs.url.front.Goals as goal

pub returns-then-begins_with_sign-clause-only : goal.returns-then-begins_with_sign-clause-only
returns-then-begins_with_sign-clause-only c =
    let url = c.args.url.now in
    let only : (found : Front) → HasFront url (form found) → (other : FrontForm) → HasFront url other → other ≡ form found =
    λ found front other has. one_front url (form found) other front has in
    IfOk-weaker c.decoded_front.result _ _ only c.decoded_front.ensures.front

is_plain : (c : goal.Else-begins_with_sign) → HasFront c.args.url.now plain
is_plain c =
    let other : begins_with_sign c.args.url.now ≡ false = cc (c.begins_with_sign.ensures, c.if-begins_with_sign.false, c.as_bytes.ensures.value) in
    plain_front c.args.url.now other

pub returns-else-begins_with_sign-clause-front : goal.returns-else-begins_with_sign-clause-front
returns-else-begins_with_sign-clause-front c = is_plain c

pub returns-else-begins_with_sign-clause-only : goal.returns-else-begins_with_sign-clause-only
returns-else-begins_with_sign-clause-only c = λ other has. one_front c.args.url.now plain other (is_plain c) has

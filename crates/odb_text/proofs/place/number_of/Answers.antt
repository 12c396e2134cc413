use Rattle.std.proofs.Common.{◌≡◌, ◌≢◌, ◌∙◌, ◌<◌, [], ◌∷◌, length, inl, inr, sym, arith, true, false}
use Rattle.std.proofs.lemmas.Slice.Eq.{bytes_eq-Decides}
use Rattle.odb_text.proofs.PlaceLemmas.{begins, nonempty, read-none, read-some, text-of, zero-is}
use Rattle.odb_text.proofs.place.number_of.Goals as goal
use Rattle.odb_text.proofs.place.number_of.Goals.{then-is_empty-via-then-is_empty, then-is_empty-via-else-is_empty+then-digits-lt49, then-is_empty-via-else-is_empty+else-digits-lt49+then-digits-gt57}

pub returns-then-eq-clause-some : goal.returns-then-eq-clause-some
returns-then-eq-clause-some c = (bytes_eq-Decides c.args.digits.now c.as_slice.result.now).0 (sym c.eq.ensures ∙ c.if-eq.true) ∙ c.as_slice.ensures ∙ zero-is

pub returns-then-is_empty-clause-none : goal.returns-then-is_empty-clause-none
returns-then-is_empty-clause-none c = λ none n small is.
    let other : c.args.digits.now ≢ 48 ∷ [] = λ zero.
    let equal = (bytes_eq-Decides c.args.digits.now c.as_slice.result.now).1 (zero ∙ sym c.as_slice.ensures) in
    let yes : true ≡ false = sym equal ∙ sym c.eq.ensures ∙ c.if-eq.false in cc yes in
    let some : 0 < length c.args.digits.now = nonempty c.args.digits.now n small is in
    elim (begins c.args.digits.now n small is) [
      | inl zero ↦ other zero
      | inr range ↦ elim c.then-is_empty.branch [
        | then-is_empty-via-then-is_empty w ↦ grind arith
        | then-is_empty-via-else-is_empty+then-digits-lt49 w ↦ omega arith
        | then-is_empty-via-else-is_empty+else-digits-lt49+then-digits-gt57 w ↦ omega arith
      ]
    ]

pub returns-in-Ok-clause-some : goal.returns-in-Ok-clause-some
returns-in-Ok-clause-some c = read-some c.args.digits.now c.in-Ok.text.now c.parse.result c.ok.result c.in-Ok.ensures.cases.0 c.parse.ensures.value.0 c.ok.ensures.value (omega arith, omega arith)

pub returns-in-Ok-clause-none : goal.returns-in-Ok-clause-none
returns-in-Ok-clause-none c = read-none c.args.digits.now c.in-Ok.text.now c.parse.result c.ok.result c.in-Ok.ensures.cases.0 c.parse.ensures.value.0 c.ok.ensures.value (omega arith, omega arith)

pub returns-in-Err-clause-none : goal.returns-in-Err-clause-none
returns-in-Err-clause-none c = λ none n small is. c.in-Err.ensures.cases.0 (text-of c.args.digits.now n small is)

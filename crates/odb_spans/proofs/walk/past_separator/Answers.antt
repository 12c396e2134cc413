use Rattle.std.proofs.Common.{◌∙◌, ℕ, List, ◌+◌, ◌≤◌, length, refl, sym, ap, subst}
use Rattle.std.proofs.lemmas.Str.{IsCharBoundary-after_ascii}
use Rattle.json.specs.Lex.{fresh, after_key, operator, punctuate}
use Rattle.odb_spans.specs.Walks.{lexemes_from}
use Rattle.odb_spans.proofs.CutLemmas.{clear-byte, cut-byte}
use Rattle.odb_spans.proofs.WalkLemmas.{BeginWithToken, begins-token, begins-separator, comes-first, faces-none, none-past, face-token, face-separator, no-colon, past-colon, separator-kind}
use Rattle.odb_spans.proofs.walk.past_separator.Goals as goal

none-token : (text : List ℕ) (at : ℕ) → length text ≤ at → BeginWithToken (lexemes_from text at)
none-token text at past = subst BeginWithToken (sym (none-past text at past)) tt

pub returns-in_default-clause-faces : goal.returns-in_default-clause-faces
returns-in_default-clause-faces c q t ts inside good e =
    let text = c.args.text.now in
    let first = c.past_blanks-first in
    face-token text first.result t ts good q _ inside (none-token text first.result c.in_default.ensures) refl (ap (punctuate q) first.ensures.same ∙ e)

pub returns-in_default-clause-colon : goal.returns-in_default-clause-colon
returns-in_default-clause-colon c t ts good e =
    let text = c.args.text.now in
    let first = c.past_blanks-first in
    no-colon text first.result t ts good (lexemes_from text first.result) (none-token text first.result c.in_default.ensures) (ap (punctuate after_key) first.ensures.same ∙ e)

pub returns-then-is_separator-clause-faces : goal.returns-then-is_separator-clause-faces
returns-then-is_separator-clause-faces c q t ts inside good e =
    let text = c.args.text.now in
    let first = c.past_blanks-first in
    let is = separator-kind c.in-Some.kind _ (sym c.is_separator.ensures ∙ c.if-is_separator.true) c.in-Some.ensures.1 in
    face-separator text c.past_blanks.result t ts good q _ _ inside (begins-separator text first.result c.in-Some.ensures.0 is) c.past_blanks.ensures.same (ap (punctuate q) first.ensures.same ∙ e)

pub returns-then-is_separator-clause-colon : goal.returns-then-is_separator-clause-colon
returns-then-is_separator-clause-colon c t ts good e =
    let text = c.args.text.now in
    let first = c.past_blanks-first in
    let is = separator-kind c.in-Some.kind _ (sym c.is_separator.ensures ∙ c.if-is_separator.true) c.in-Some.ensures.1 in
    ap (punctuate fresh) c.past_blanks.ensures.same
    ∙ past-colon text first.result t ts good (lexemes_from text first.result) (lexemes_from text (first.result + 1)) (begins-separator text first.result c.in-Some.ensures.0 is) (ap (punctuate after_key) first.ensures.same ∙ e)

pub returns-then-is_separator-clause-boundary : goal.returns-then-is_separator-clause-boundary
returns-then-is_separator-clause-boundary c utf8 here =
    let text = c.args.text.now in
    let first = c.past_blanks-first in
    let is = separator-kind c.in-Some.kind _ (sym c.is_separator.ensures ∙ c.if-is_separator.true) c.in-Some.ensures.1 in
    c.past_blanks.ensures.boundary utf8 (IsCharBoundary-after_ascii text first.result utf8 c.in-Some.ensures.0 is.ascii)

pub returns-else-is_separator-clause-faces : goal.returns-else-is_separator-clause-faces
returns-else-is_separator-clause-faces c q t ts inside good e =
    let text = c.args.text.now in
    let first = c.past_blanks-first in
    let begins = begins-token text first.result c.in-Some.kind c.in-Some.ensures.0 c.in-Some.ensures.1 (sym c.is_separator.ensures ∙ c.if-is_separator.false) (first.ensures.solid c.in-Some.ensures.0) in
    face-token text first.result t ts good q _ inside begins refl (ap (punctuate q) first.ensures.same ∙ e)

pub returns-else-is_separator-clause-colon : goal.returns-else-is_separator-clause-colon
returns-else-is_separator-clause-colon c t ts good e =
    let text = c.args.text.now in
    let first = c.past_blanks-first in
    let begins = begins-token text first.result c.in-Some.kind c.in-Some.ensures.0 c.in-Some.ensures.1 (sym c.is_separator.ensures ∙ c.if-is_separator.false) (first.ensures.solid c.in-Some.ensures.0) in
    no-colon text first.result t ts good (lexemes_from text first.result) begins (ap (punctuate after_key) first.ensures.same ∙ e)

pub returns-in_default-clause-clear : goal.returns-in_default-clause-clear
returns-in_default-clause-clear c t ts good e from =
    let text = c.args.text.now in
    let first = c.past_blanks-first in
    no-colon text first.result t ts good (lexemes_from text first.result) (none-token text first.result c.in_default.ensures) (ap (punctuate after_key) first.ensures.same ∙ e)

pub returns-else-is_separator-clause-clear : goal.returns-else-is_separator-clause-clear
returns-else-is_separator-clause-clear c t ts good e from =
    let text = c.args.text.now in
    let first = c.past_blanks-first in
    let begins = begins-token text first.result c.in-Some.kind c.in-Some.ensures.0 c.in-Some.ensures.1 (sym c.is_separator.ensures ∙ c.if-is_separator.false) (first.ensures.solid c.in-Some.ensures.0) in
    no-colon text first.result t ts good (lexemes_from text first.result) begins (ap (punctuate after_key) first.ensures.same ∙ e)

pub returns-then-is_separator-clause-cut : goal.returns-then-is_separator-clause-cut
returns-then-is_separator-clause-cut c from =
    let text = c.args.text.now in
    let first = c.past_blanks-first in
    let is = separator-kind c.in-Some.kind _ (sym c.is_separator.ensures ∙ c.if-is_separator.true) c.in-Some.ensures.1 in
    c.past_blanks.ensures.cut (cut-byte text first.result operator c.in-Some.ensures.0 is.is refl (first.ensures.cut from))

pub returns-then-is_separator-clause-clear : goal.returns-then-is_separator-clause-clear
returns-then-is_separator-clause-clear c t ts good e from =
    let text = c.args.text.now in
    let first = c.past_blanks-first in
    let is = separator-kind c.in-Some.kind _ (sym c.is_separator.ensures ∙ c.if-is_separator.true) c.in-Some.ensures.1 in
    let cut = first.ensures.cut from in
    c.past_blanks.ensures.clear (cut-byte text first.result operator c.in-Some.ensures.0 is.is refl cut) (clear-byte text first.result operator c.in-Some.ensures.0 is.is refl cut)

pub returns-in_default-clause-clears : goal.returns-in_default-clause-clears
returns-in_default-clause-clears c q t ts inside good inner e from at =
    let text = c.args.text.now in
    let first = c.past_blanks-first in
    faces-none text first.result t ts c.in_default.ensures (face-token text first.result t ts good q _ inside (none-token text first.result c.in_default.ensures) refl (ap (punctuate q) first.ensures.same ∙ e))

pub returns-then-is_separator-clause-clears : goal.returns-then-is_separator-clause-clears
returns-then-is_separator-clause-clears c q t ts inside good inner e from at =
    let text = c.args.text.now in
    let first = c.past_blanks-first in
    let is = separator-kind c.in-Some.kind _ (sym c.is_separator.ensures ∙ c.if-is_separator.true) c.in-Some.ensures.1 in
    let cut = first.ensures.cut from in
    c.past_blanks.ensures.clear (cut-byte text first.result operator c.in-Some.ensures.0 is.is refl cut) (clear-byte text first.result operator c.in-Some.ensures.0 is.is refl cut)

pub returns-else-is_separator-clause-clears : goal.returns-else-is_separator-clause-clears
returns-else-is_separator-clause-clears c q t ts inside good inner e from at =
    let text = c.args.text.now in
    let first = c.past_blanks-first in
    let begins = begins-token text first.result c.in-Some.kind c.in-Some.ensures.0 c.in-Some.ensures.1 (sym c.is_separator.ensures ∙ c.if-is_separator.false) (first.ensures.solid c.in-Some.ensures.0) in
    first.ensures.clear from (at (comes-first text first.result t ts good q (lexemes_from text first.result) inside begins (ap (punctuate q) first.ensures.same ∙ e) inner))

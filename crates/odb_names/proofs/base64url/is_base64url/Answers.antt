-- The digits that the code cuts are those of the definition, since there are no others.
use Rattle.std.proofs.Common.{◌≡◌, ℕ, List, rules, subst}
use Rattle.std.specs.Prelude.{All}
use Rattle.std.proofs.lemmas.List.Elements.{All-head}
use Rattle.odb_names.specs.Base64Url.{IsBase64Url, is_base64url_digit}
use Rattle.odb_names.specs.Runs.{SplitsRun}
use Rattle.odb_names.proofs.OneRun.{same_run}
use Rattle.odb_names.proofs.base64url.is_base64url.Goals as goal

-- the digits are the longest run, since `=` is none
digits_are_run : {text : List ℕ} → (form : IsBase64Url text) → SplitsRun is_base64url_digit text form.digits form.padding
digits_are_run form = record {
  whole = form.whole;
  passes = form.passes;
  stops = λ first more e.
      let IsPad : ℕ → Type 0 = λ byte. byte ≡ 61 in
      let is_pad = All-head IsPad first more (subst (All IsPad) e form.padded.1) in
      rw is_pad;
}

pub returns-then-digits-ne1 : goal.returns-then-digits-ne1
returns-then-digits-ne1 c =
    (search rules, λ form. let same = same_run (rw c.as_bytes.ensures.value at c.split_run.ensures) (digits_are_run form) in search rules)

pub returns-else-digits-ne1 : goal.returns-else-digits-ne1
returns-else-digits-ne1 c =
    (search rules, λ form. let same = same_run (rw c.as_bytes.ensures.value at c.split_run.ensures) (digits_are_run form) in search rules)

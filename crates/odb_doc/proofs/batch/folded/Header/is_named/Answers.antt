use Rattle.std.proofs.Common.{◌≡◌, Bool, true, false, bytes_eq, refl, sym}
use Rattle.std.specs.Str.{str_to_ascii_lowercase}
use Rattle.std.proofs.lemmas.Slice.Eq.{bytes_eq-Decides}
use Rattle.odb_doc.proofs.batch.folded.Header.is_named.Goals as goal

same_test : (a b : Bool) → (a ≡ true → b ≡ true) → (b ≡ true → a ≡ true) → a ≡ b
same_test true b to from = sym (to refl)
same_test false true to from = from refl
same_test false false to from = refl

pub returns : goal.returns
returns c =
    let name = str_to_ascii_lowercase c.args.name.now in
    let written = str_to_ascii_lowercase c.args.self.now.written.now in
    let decides = bytes_eq-Decides name written in
    let test = c.eq_ignore_ascii_case.ensures.test in
    same_test c.eq_ignore_ascii_case.result (bytes_eq name written) (λ is. decides.1 (sym (test.0 is))) (λ equal. test.1 (sym (decides.0 equal)))

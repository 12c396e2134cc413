-- What a law says of two calls: two texts of one document.
use Rattle.std.proofs.Common.{◌≡◌, ℕ, List, Option, Some, None, Result, Ok, Err, IfOk, IfSome, subst}
use Rattle.odb_engine.specs.declared.ending.Ended.{Ended}
use Rattle.odb_engine.specs.declared.ending.Ended.TheVariants.{Done}
use Rattle.odb_engine.specs.declared.ending.EngineFault.{EngineFault}
use Rattle.odb_engine.specs.Engines.{WritesText}
use Rattle.odb_io.specs.Devices.{Writing}
use Rattle.odb_engine.specs.Cascade.{Writes, IsOne}
use Rattle.odb_engine.specs.Inputs.{IsDocumentOf, SomeDocument}

-- a reader with this left gives one document
abbrev pub IsOneDocument : List ℕ → Type 0
IsOneDocument left = (document other : List ℕ) → IsDocumentOf left document → IsDocumentOf left other → document ≡ other

-- two calls that may each write such a text of the reader's document have written one, and ended alike
pub one_written : {X : Type 0} (ended : X → Ended) (text : X → List ℕ) (left : List ℕ) → IsOneDocument left → (W : List ℕ → Writes) → ((bytes : List ℕ) → IsOne (W bytes)) → (a b : Option X)
    → IfSome a (λ x. SomeDocument (Some left) (λ bytes. W bytes (ended x) (text x))) → IfSome b (λ y. SomeDocument (Some left) (λ bytes. W bytes (ended y) (text y)))
    → IfSome a (λ x. IfSome b (λ y. (ended x ≡ ended y) × (text x ≡ text y)))
one_written ended text left document W one None b _ _ = tt
one_written ended text left document W one (Some x) None _ _ = tt
one_written ended text left document W one (Some x) (Some y) (bytes, gives, is) (others, give, too) =
    one others (ended x) (ended y) (text x) (text y) (subst (λ d. W d (ended x) (text x)) (document bytes others gives give) is) too

-- what holds of each result that may be written of a document holds of what a call wrote
pub done_written : {X : Type 0} (ended : X → Ended) (text : X → List ℕ) (left : List ℕ) (W : List ℕ → Writes) (Q : List ℕ → List ℕ → Type 0) → ((bytes written : List ℕ) → W bytes Done written → Q bytes written) → (a : Option X)
    → IfSome a (λ x. SomeDocument (Some left) (λ bytes. W bytes (ended x) (text x))) → IfSome a (λ x. ended x ≡ Done → SomeDocument (Some left) (λ bytes. Q bytes (text x)))
done_written ended text left W Q so None _ = tt
done_written ended text left W Q so (Some x) (bytes, gives, is) = λ done. (bytes, gives, so bytes (text x) (subst (λ e. W bytes e (text x)) done is))

-- what an engine has written that ended: what it may write of the document of a reader
pub written-of : {W : Type 0} (contents : W → Option (List ℕ)) (old new : Writing W) (P : List ℕ → Writes) (left : Option (List ℕ)) (E : List ℕ → Type 0) (result : Result Ended EngineFault)
    → ((bytes : List ℕ) → E bytes → IfOk result (λ ended. WritesText (contents old.writer) (contents new.writer) (P bytes ended))) → SomeDocument left E
    → IfOk result (λ ended. SomeDocument left (λ bytes. WritesText (contents old.writer) (contents new.writer) (P bytes ended)))
written-of contents old new P left E (Ok ended) so (bytes, gives, is) = (bytes, gives, so bytes is)
written-of contents old new P left E (Err fault) so some = tt

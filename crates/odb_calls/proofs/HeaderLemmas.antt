-- Headers in a text that grows.
use Rattle.std.proofs.Common.{◌≡◌, ◌∙◌, ℕ, List, [], ◌∷◌, ◌++◌, ap, append_assoc, refl}
use Rattle.std.specs.List.{AllZip}
use Rattle.odb_doc.specs.Headers as doc
use Rattle.odb_doc.specs.Refusals.{printed}
use Rattle.odb_engine.specs.Halts.{Halted}
use Rattle.odb_engine.specs.declared.halt.Halt.{Halt}
use Rattle.odb_engine.specs.declared.halt.Halt.TheVariants as halts
use Rattle.odb_calls.specs.declared.header.Header.{Header}
use Rattle.odb_calls.specs.declared.request.Part.{Part}
use Rattle.odb_calls.specs.Faults.{IsWord}
use Rattle.odb_calls.specs.Headers.{GivesHeaders, IsPair}
use Rattle.odb_calls.specs.Headers.GivesHeaders.{OutOfMemory, Refused}
use Rattle.odb_calls.specs.Refused.{RefusesHeaders}
use Rattle.odb_calls.specs.Returns.{halt_status}
use Rattle.odb_calls.proofs.FaultLemmas.{kept-word}

-- a name and a value, which were appended one after the other
pub last-pair : (old name value between new : List ℕ) (name_part value_part : Part) → new ≡ between ++ value → IsWord between name name_part → IsWord new value value_part
    → IsPair new (name, value) (record { name = name_part; value = value_part })
last-pair old name value between new name_part value_part is first second = record { name = kept-word between value new name name_part is first; value = second }

pub both : (old name value between new : List ℕ) → between ≡ old ++ name → new ≡ between ++ value → new ≡ old ++ (name ++ value)
both old name value between new first second = second ∙ ap (λ t. t ++ value) first ∙ append_assoc old name value

kept-pair : (old more new : List ℕ) (header : doc.Header) (pair : Header) → new ≡ old ++ more → IsPair old header pair → IsPair new header pair
kept-pair old more new header pair is held = record { name = kept-word old more new _ _ is held.name; value = kept-word old more new _ _ is held.value }

-- one header more, by a text that has grown
pub push-pair : (old more new : List ℕ) (headers : List doc.Header) (pairs : List Header) (header : doc.Header) (pair : Header) → new ≡ old ++ more → AllZip (IsPair old) headers pairs → IsPair new header pair
    → AllZip (IsPair new) (headers ++ header ∷ []) (pairs ++ pair ∷ [])
push-pair old more new [] [] header pair is zip last = (last, tt)
push-pair old more new [] (p ∷ pairs) header pair is zip last = absurd zip
push-pair old more new (h ∷ headers) [] header pair is zip last = absurd zip
push-pair old more new (h ∷ headers) (p ∷ pairs) header pair is zip last = (kept-pair old more new h p is zip.0, push-pair old more new headers pairs header pair is zip.1 last)

-- there are no pairs
pub not-given : (bytes : List ℕ) (halt : Halt) (status : ℕ) (text : List ℕ) (pairs : List Header) → status ≡ halt_status halt → Halted (RefusesHeaders bytes) halt → GivesHeaders bytes status 0 0 text text pairs pairs
not-given bytes (halts.Refused refusal) status text pairs is refused = Refused (printed refusal) refused is refl refl refl refl
not-given bytes halts.OutOfMemory status text pairs is refused = OutOfMemory (record { is = is; none = refl; same = refl }) refl refl
not-given bytes halts.Read status text pairs is refused = OutOfMemory (record { is = is; none = refl; same = refl }) refl refl

-- What a call returns that gives headers as pairs.
use Rattle.std.specs.Prelude.{◌≡◌, ℕ, List, Option}
use Rattle.std.specs.List.{AllZip}
use Rattle.serde_json.specs.Data.{Data}
use Rattle.odb_doc.specs.Refusals.{Printed}
use Rattle.odb_doc.specs.Headers as doc
use Rattle.odb_calls.specs.declared.header.Header.{Header}
use Rattle.odb_calls.specs.Faults.{IsWord}
use Rattle.odb_calls.specs.Lists.{Gives}
use Rattle.odb_calls.specs.Live.{IsPart}
use Rattle.odb_calls.specs.Refused.{RefusesHeaders}
use Rattle.odb_calls.specs.Returns.{IsOutOfMemory}

-- where the name of a header and its value lie in the text
pub record IsPair (text : List ℕ) (header : doc.Header) (pair : Header) : Type 0 where
  pub name : IsWord text header.0 pair.name
  pub value : IsWord text header.1 pair.value

-- The bytes are the JSON of a value, or there are none, and the pairs are its headers: the members of the object, with their names in
-- lower case, each name once, in byte order of the names.
pub record ArePairs (bytes text : List ℕ) (pairs : List Header) : Type 0 where
  pub value : Option Data
  pub is : IsPart bytes value
  pub headers : List doc.Header
  pub held : doc.HoldsHeaders value headers
  pub each : AllZip (IsPair text) headers pairs

-- what the call returns
pub data GivesHeaders (bytes : List ℕ) (status text_length count : ℕ) (text new_text : List ℕ) (pairs new_pairs : List Header) : Type 0 where
  Given : (found : List ℕ) (headers : List Header) → ArePairs bytes found headers → Gives found headers 0 status text_length count text new_text pairs new_pairs → GivesHeaders bytes status text_length count text new_text pairs new_pairs
  Refused : (refusal : Printed) → RefusesHeaders bytes refusal → status ≡ 1 → text_length ≡ 0 → count ≡ 0 → new_text ≡ text → new_pairs ≡ pairs → GivesHeaders bytes status text_length count text new_text pairs new_pairs
  OutOfMemory : IsOutOfMemory status text_length text new_text → count ≡ 0 → new_pairs ≡ pairs → GivesHeaders bytes status text_length count text new_text pairs new_pairs

-- What `serde_json` reads from the tokens of a value.
use Rattle.std.proofs.Common.{◌≡◌, ◌∙◌, ℕ, ◌≤◌, List, [], ◌∷◌, ◌++◌, Some, None, Option, option_and_then, option_map, append-nil, refl, sym, ap, arith}
use Rattle.json.specs.Json as json
use Rattle.json.specs.Lex.{tokens}
use Rattle.json.specs.Token.{Token}
use Rattle.json.specs.Tree.{json_tokens, depth}
use Rattle.json.proofs.Nesting.{value-depth}
use Rattle.odb_spans.proofs.TokenLemmas.{value-spells}
use Rattle.json.proofs.Printed.Trees.{value-json_tokens}
use Rattle.serde_json.specs.Data.{Data}
use Rattle.serde_json.specs.Read.{of_json, read, max_depth}
use Rattle.odb_doc.specs.Nesting.{NestsWithin}

-- a text with the tokens of a value is read as that value
pub read-tokens : (bytes : List ℕ) (j : json.Json) → tokens bytes ≡ json_tokens j → depth j ≤ max_depth → read bytes ≡ of_json j
read-tokens bytes j spelled shallow =
    ap (λ o. option_and_then of_json (option_and_then (λ p. json.if_last p.0 p.1) o))
    (ap (json.value max_depth) (spelled ∙ sym (append-nil (json_tokens j))) ∙ value-json_tokens j max_depth [] shallow)

-- a text with the tokens of a value nests as deep as the value
pub nests-tokens : (bytes : List ℕ) (j : json.Json) → tokens bytes ≡ json_tokens j → (n : ℕ) → depth j ≤ n → NestsWithin n bytes
nests-tokens bytes j spelled n shallow = ap (option_map (λ p. p.1)) (ap (json.value n) (spelled ∙ sym (append-nil (json_tokens j))) ∙ value-json_tokens j n [] shallow)

pub read-string : (bytes k : List ℕ) → tokens bytes ≡ Token.string k ∷ [] → read bytes ≡ Some (Data.string k)
read-string bytes k spelled = read-tokens bytes (json.string k) spelled (omega arith)

-- the tree of a text that was read
pub record IsTreeOf (text : List ℕ) (d : Data) : Type 0 where
  pub tree : json.Json
  pub spelled : tokens text ≡ json_tokens tree ++ []
  pub shallow : depth tree ≤ max_depth
  pub reads : of_json tree ≡ Some d

last-tree : (text : List ℕ) (d : Data) (o : Option (json.Json × List Token)) → json.value max_depth (tokens text) ≡ o → option_and_then of_json (option_and_then (λ p. json.if_last p.0 p.1) o) ≡ Some d → IsTreeOf text d
last-tree text d None is e = absurd (cc (e))
last-tree text d (Some (j, [])) is e = record { tree = j; spelled = value-spells max_depth (tokens text) [] j is; shallow = value-depth max_depth (tokens text) [] j is; reads = e }
last-tree text d (Some (j, t ∷ ts)) is e = absurd (cc (e))

pub tree-of : (text : List ℕ) (d : Data) → read text ≡ Some d → IsTreeOf text d
tree-of text d e = last-tree text d (json.value max_depth (tokens text)) refl e

-- The tokens of a document whose array holds objects, part by part, where the value of a member may be any text.
use Rattle.std.proofs.Common.{◌≡◌, ◌∙◌, ℕ, suc, ◌≤◌, max, List, [], ◌∷◌, ◌++◌, Bool, true, false, Option, Some, None, option_map, option_and_then, IfSome, codes, refl, sym, ap, ap₂, arith, append_assoc, append-nil}
use Rattle.std.specs.Prelude.{⊤}
use Rattle.json.specs.Json as json
use Rattle.json.specs.Lex.{Lexeme, token, colon, between, lex, Place, fresh, after_value, after_comma, after_key, begins_colon, may_begin, punctuate, tokens}
use Rattle.json.specs.Token.{Token, begin_object, end_object, begin_array, end_array, key}
use Rattle.json.specs.Tree as tree
use Rattle.json.specs.Word.{ends_word}
use Rattle.json.proofs.Grammar.{left_some}
use Rattle.json.proofs.Nesting.{value-depth}
use Rattle.json.proofs.Printed.Tokens.{tokens-print}
use Rattle.json.proofs.Printed.Trees.{value-json_tokens, ArePrintable-json_tokens}
use Rattle.json.proofs.Unique.Spelling.{value-json_tokens_back}
use Rattle.serde_json.proofs.OnLiterals.{serde_json_on_literals}
use Rattle.serde_json.proofs.Texts.{print-outline}
use Rattle.serde_json.specs.Data.{Data, null, boolean, number, string, array, object, Items, no_items, item, Members, no_members, member, put, depth, items_depth, members_depth}
use Rattle.serde_json.specs.Read.{of_json, of_items, of_members, read}
use Rattle.serde_json.specs.Written.{outline, items_outline, members_outline, comma_if, compact_text}
use Rattle.odb_doc.proofs.ReadBackLemmas.{outline-numbers, read_back}
use Rattle.odb_doc.proofs.SafeLemmas.{IsSafe}
use Rattle.odb_doc.specs.Texts.{member_part}
use Rattle.odb_doc.specs.Nesting.{NestsWithin}
use Rattle.odb_reply.proofs.PieceLemmas.{value-joined}

-- ---- the text of one value

-- the text is that of a tree which reads as the value and nests at most 124 deep
pub record IsPiece (text : List ℕ) (d : Data) : Type 0 where
  pub parsed : json.Json
  pub same : tokens text ≡ tree.json_tokens parsed
  pub reads : of_json parsed ≡ Some d
  pub shallow : tree.depth parsed ≤ 124

-- what is read of the tokens of a tree
pub read-tree : (text : List ℕ) (j : json.Json) → tokens text ≡ tree.json_tokens j → tree.depth j ≤ 127 → read text ≡ of_json j
read-tree text j same shallow =
    ap (λ o. option_and_then of_json (option_and_then (λ p. json.if_last p.0 p.1) o)) (ap (json.value 127) (same ∙ sym (append-nil (tree.json_tokens j))) ∙ value-json_tokens j 127 [] shallow)

piece-of : (text : List ℕ) (j : json.Json) (d : Data) → tokens text ≡ tree.json_tokens j → tree.depth j ≤ 124 → read text ≡ Some d → IsPiece text d
piece-of text j d same shallow is = record { parsed = j; same = same; reads = sym (read-tree text j same (omega (arith, shallow))) ∙ is; shallow = shallow }

pub piece-text : (text : List ℕ) (d : Data) → read text ≡ Some d → NestsWithin 124 text → IsPiece text d
piece-text text d is nests =
    let (j, found) = left_some (json.value 124 (tokens text)) [] nests in
    piece-of text j d (value-json_tokens_back 124 (tokens text) [] j found ∙ append-nil (tree.json_tokens j)) (value-depth 124 (tokens text) [] j found) is

mutual
  outline-depth : (d : Data) → tree.depth (outline d) ≡ depth d
  outline-depth null = refl
  outline-depth (boolean b) = refl
  outline-depth (number n) = refl
  outline-depth (string s) = refl
  outline-depth (array ds) = ap suc (items-depth ds)
  outline-depth (object ms) = ap suc (members-depth ms)

  items-depth : (ds : Items) → tree.items_depth (items_outline ds) ≡ items_depth ds
  items-depth no_items = refl
  items-depth (item d ds) = ap₂ max (outline-depth d) (items-depth ds)

  members-depth : (ms : Members) → tree.members_depth (members_outline ms) ≡ members_depth ms
  members-depth no_members = refl
  members-depth (member k d ms) = ap₂ max (outline-depth d) (members-depth ms)

pub piece-value : (d : Data) → IsSafe 124 d → IsPiece (compact_text d) d
piece-value d safe =
    let same : tokens (compact_text d) ≡ tree.json_tokens (outline d) = ap tokens (sym (print-outline d)) ∙ tokens-print (tree.json_tokens (outline d)) (ArePrintable-json_tokens (outline d) (outline-numbers d safe.held safe.whole)) in
    piece-of (compact_text d) (outline d) d same (rw (outline-depth d) safe.shallow) (read_back d safe.held safe.whole (omega (arith, safe.shallow)))

-- ---- the text of a member

-- the text is that of a name and a colon, whatever comes after it
abbrev pub IsName : List ℕ → List ℕ → Type 0
IsName head name = (rest : List ℕ) → lex between (head ++ rest) ≡ token (Token.string name) ∷ colon ∷ lex between rest

key-first : (p : Place) (name : List ℕ) (ls : List Lexeme) → may_begin p ≡ true → punctuate p (token (Token.string name) ∷ colon ∷ ls) ≡ key name ∷ punctuate fresh ls
unfolding punctuate
key-first fresh name ls begins = refl
key-first after_value name ls begins = absurd (cc (begins))
key-first after_comma name ls begins = refl
key-first after_key name ls begins = absurd (cc (begins))

pub member-joined : (p : Place) → may_begin p ≡ true → (head name : List ℕ) → IsName head name → (text : List ℕ) (d : Data) (piece : IsPiece text d) (rest : List ℕ) → ends_word rest ≡ true → begins_colon (lex between rest) ≡ false
    → punctuate p (lex between (head ++ (text ++ rest))) ≡ key name ∷ (tree.json_tokens piece.parsed ++ punctuate after_value (lex between rest))
member-joined p begins head name named text d piece rest ended no_colon =
    ap (punctuate p) (named (text ++ rest)) ∙ key-first p name (lex between (text ++ rest)) begins ∙ ap (λ ts. key name ∷ ts) (value-joined text rest piece.parsed piece.same ended no_colon)

-- the tree of a value, if there is one
abbrev pub Tree : Option Data → Type 0
Tree None = ⊤
Tree (Some d) = (j : json.Json) × (of_json j ≡ Some d) × (tree.depth j ≤ 124)

abbrev pub with_tree : List ℕ → (o : Option Data) → Tree o → json.Members → json.Members
with_tree name None t ms = ms
with_tree name (Some d) t ms = json.member name t.0 ms

-- what follows is read as these members, and then the rest
abbrev pub AreMembers : List ℕ → json.Members → List Token → Type 0
AreMembers text ms more = (p : Place) → may_begin p ≡ true → punctuate p (lex between text) ≡ tree.members_tokens ms ++ more

-- the text of a member that may be absent, and the comma after it
pub record IsPart (text name : List ℕ) (o : Option Data) : Type 0 where
  pub parsed : Tree o
  pub joined : (rest : List ℕ) (ms : json.Members) (more : List Token) → AreMembers rest ms more → AreMembers (text ++ rest) (with_tree name o parsed ms) more

pub no-part : (name : List ℕ) → IsPart [] name None
no-part name = record { parsed = tt; joined = λ rest ms more are. are }

comma-after : (rest : List ℕ) → punctuate after_value (lex between (44 ∷ rest)) ≡ punctuate after_comma (lex between rest)
unfolding lex punctuate
comma-after rest = refl

no-colon-comma : (rest : List ℕ) → begins_colon (lex between (44 ∷ rest)) ≡ false
unfolding lex
no-colon-comma rest = refl

pub some-part : (head name text : List ℕ) (d : Data) → IsName head name → IsPiece text d → IsPart (head ++ (text ++ 44 ∷ [])) name (Some d)
some-part head name text d named piece = record {
  parsed = (piece.parsed, piece.reads, piece.shallow);
  joined = λ rest ms more are p begins.
      ap (λ l. punctuate p (lex between l)) (append_assoc head (text ++ 44 ∷ []) rest ∙ ap (λ l. head ++ l) (append_assoc text (44 ∷ []) rest))
      ∙ member-joined p begins head name named text d piece (44 ∷ rest) refl (no-colon-comma rest)
      ∙ ap (λ ts. key name ∷ (tree.json_tokens piece.parsed ++ ts)) (comma-after rest ∙ are after_comma refl)
      ∙ ap (λ ts. key name ∷ ts) (sym (append_assoc (tree.json_tokens piece.parsed) (tree.members_tokens ms) more));
}

pub value-part : (head name : List ℕ) → IsName head name → (o : Option Data) → IfSome o (IsSafe 124) → IsPart (member_part head o) name o
value-part head name named None safe = no-part name
value-part head name named (Some d) safe = some-part head name (compact_text d) d named (piece-value d safe)

-- ---- the names

pub group-name : IsName (codes "\"atomicityGroup\":") (codes "atomicityGroup")
unfolding lex serde_json_on_literals
group-name rest = refl

pub body-name : IsName (codes "\"body\":") (codes "body")
unfolding lex serde_json_on_literals
body-name rest = refl

pub headers-name : IsName (codes "\"headers\":") (codes "headers")
unfolding lex serde_json_on_literals
headers-name rest = refl

pub id-name : IsName (codes "\"id\":") (codes "id")
unfolding lex serde_json_on_literals
id-name rest = refl

pub status-name : IsName (codes "\"status\":") (codes "status")
unfolding lex serde_json_on_literals
status-name rest = refl

-- ---- the text of an object

-- the text is that of these members and of the end of their object, whatever comes after it
abbrev pub EndsObject : List ℕ → json.Members → Type 0
EndsObject text ms = (rest : List ℕ) → AreMembers (text ++ rest) ms (punctuate after_value (lex between rest))

brace-after : (rest : List ℕ) → punctuate after_value (lex between (125 ∷ rest)) ≡ end_object ∷ punctuate after_value (lex between rest)
unfolding lex punctuate
brace-after rest = refl

no-colon-brace : (rest : List ℕ) → begins_colon (lex between (125 ∷ rest)) ≡ false
unfolding lex
no-colon-brace rest = refl

-- the last member and the end of the object
pub last-member : (head name text : List ℕ) (d : Data) → IsName head name → (piece : IsPiece text d) → EndsObject (head ++ (text ++ 125 ∷ [])) (json.member name piece.parsed json.no_members)
last-member head name text d named piece rest p begins =
    ap (λ l. punctuate p (lex between l)) (append_assoc head (text ++ 125 ∷ []) rest ∙ ap (λ l. head ++ l) (append_assoc text (125 ∷ []) rest))
    ∙ member-joined p begins head name named text d piece (125 ∷ rest) refl (no-colon-brace rest)
    ∙ ap (λ ts. key name ∷ (tree.json_tokens piece.parsed ++ ts)) (brace-after rest)
    ∙ ap (λ ts. key name ∷ ts) (sym (append_assoc (tree.json_tokens piece.parsed) (end_object ∷ []) (punctuate after_value (lex between rest))))

-- a member that may be absent, before others
pub member-before : (text name : List ℕ) (o : Option Data) (part : IsPart text name o) (others : List ℕ) (ms : json.Members) → EndsObject others ms → EndsObject (text ++ others) (with_tree name o part.parsed ms)
member-before text name o part others ms ends rest p begins =
    ap (λ l. punctuate p (lex between l)) (append_assoc text others rest)
    ∙ part.joined (others ++ rest) ms (punctuate after_value (lex between rest)) (ends rest) p begins

-- a member with a comma after it, before others
pub member-then : (head name text : List ℕ) (d : Data) → IsName head name → (piece : IsPiece text d) → (others : List ℕ) (ms : json.Members) → EndsObject others ms → EndsObject (head ++ (text ++ 44 ∷ others)) (json.member name piece.parsed ms)
unfolding some-part
member-then head name text d named piece others ms ends rest p begins =
    let split : head ++ (text ++ 44 ∷ others) ≡ (head ++ (text ++ 44 ∷ [])) ++ others = sym (append_assoc head (text ++ 44 ∷ []) others ∙ ap (λ l. head ++ l) (append_assoc text (44 ∷ []) others)) in
    ap (λ l. punctuate p (lex between (l ++ rest))) split
    ∙ member-before (head ++ (text ++ 44 ∷ [])) name (Some d) (some-part head name text d named piece) others ms ends rest p begins

pub with-tree-depth : (name : List ℕ) (o : Option Data) (t : Tree o) (ms : json.Members) → tree.members_depth ms ≤ 124 → tree.members_depth (with_tree name o t ms) ≤ 124
with-tree-depth name None t ms shallow = shallow
with-tree-depth name (Some d) t ms shallow = omega (arith, t.2, shallow)

open-brace : (p : Place) (rest : List ℕ) → may_begin p ≡ true → punctuate p (lex between (123 ∷ rest)) ≡ begin_object ∷ punctuate fresh (lex between rest)
unfolding lex punctuate
open-brace fresh rest begins = refl
open-brace after_value rest begins = absurd (cc (begins))
open-brace after_comma rest begins = refl
open-brace after_key rest begins = absurd (cc (begins))

-- the text is that of a tree which reads as the value and nests at most 125 deep, whatever comes after it
pub record IsObjectText (text : List ℕ) (d : Data) : Type 0 where
  pub parsed : json.Json
  pub joined : (p : Place) → may_begin p ≡ true → (rest : List ℕ) → punctuate p (lex between (text ++ rest)) ≡ tree.json_tokens parsed ++ punctuate after_value (lex between rest)
  pub reads : of_json parsed ≡ Some d
  pub shallow : tree.depth parsed ≤ 125

pub object-text : (text : List ℕ) (ms : json.Members) (found : Members) → EndsObject text ms → of_members ms no_members ≡ Some found → tree.members_depth ms ≤ 124 → IsObjectText (123 ∷ text) (object found)
object-text text ms found ends reads shallow = record {
  parsed = json.object ms;
  joined = λ p begins rest. open-brace p (text ++ rest) begins ∙ ap (λ ts. begin_object ∷ ts) (ends rest fresh refl);
  reads = ap (option_map object) reads;
  shallow = omega (arith, shallow);
}

-- ---- the text of objects in an array

-- the place before an element
abbrev pub place_before : Bool → Place
place_before false = fresh
place_before true = after_value

-- the text is that of the elements and of the end of their array, whatever comes after it
pub record AreObjectTexts (later : Bool) (text : List ℕ) (ds : Items) : Type 0 where
  pub trees : json.Items
  pub joined : (rest : List ℕ) → punctuate (place_before later) (lex between (text ++ rest)) ≡ tree.items_tokens trees ++ punctuate after_value (lex between rest)
  pub reads : of_items trees ≡ Some ds
  pub shallow : tree.items_depth trees ≤ 125

bracket-after : (later : Bool) (rest : List ℕ) → punctuate (place_before later) (lex between (93 ∷ rest)) ≡ end_array ∷ punctuate after_value (lex between rest)
unfolding lex punctuate
bracket-after false rest = refl
bracket-after true rest = refl

pub no-objects : (later : Bool) → AreObjectTexts later (codes "]") no_items
unfolding serde_json_on_literals
no-objects later = record { trees = json.no_items; joined = λ rest. bracket-after later rest; reads = refl; shallow = omega arith }

-- a comma first, unless it is the first element
comma-first : (later : Bool) (rest : List ℕ) (ts : List Token) → ((p : Place) → may_begin p ≡ true → punctuate p (lex between rest) ≡ ts) → punctuate (place_before later) (lex between (comma_if later ++ rest)) ≡ ts
unfolding lex punctuate
comma-first false rest ts reads = reads fresh refl
comma-first true rest ts reads = reads after_comma refl

pub one-object-more : (later : Bool) (text others : List ℕ) (d : Data) (ds : Items) → IsObjectText text d → AreObjectTexts true others ds → AreObjectTexts later (comma_if later ++ (text ++ others)) (item d ds)
one-object-more later text others d ds first next = record {
  trees = json.item first.parsed next.trees;
  joined = λ rest.
      ap (λ l. punctuate (place_before later) (lex between l)) (append_assoc (comma_if later) (text ++ others) rest ∙ ap (λ l. comma_if later ++ l) (append_assoc text others rest))
      ∙ comma-first later (text ++ (others ++ rest)) (tree.json_tokens first.parsed ++ punctuate after_value (lex between (others ++ rest))) (λ p begins. first.joined p begins (others ++ rest))
      ∙ ap (λ ts. tree.json_tokens first.parsed ++ ts) (next.joined rest)
      ∙ sym (append_assoc (tree.json_tokens first.parsed) (tree.items_tokens next.trees) (punctuate after_value (lex between rest)));
  reads = ap (option_and_then (λ e. option_map (item e) (of_items next.trees))) first.reads ∙ ap (option_map (item d)) next.reads;
  shallow = omega (arith, first.shallow, next.shallow);
}

-- ---- the text of a document of objects

-- the text begins an object with one member, which is an array
abbrev pub BeginsArray : List ℕ → List ℕ → Type 0
BeginsArray head name = (rest : List ℕ) → tokens (head ++ rest) ≡ begin_object ∷ key name ∷ begin_array ∷ punctuate fresh (lex between rest)

ended : (tail : List ℕ) → lex between tail ≡ [] → punctuate after_value (lex between (125 ∷ tail)) ≡ end_object ∷ []
unfolding lex punctuate
ended tail none = ap (λ ls. end_object ∷ punctuate after_value ls) none

-- the text, and after it maybe blanks, is read as the document
pub document-read : (head name text tail : List ℕ) (ds : Items) → BeginsArray head name → lex between tail ≡ [] → AreObjectTexts false text ds
    → read ((head ++ (text ++ codes "}")) ++ tail) ≡ Some (object (put name (array ds) no_members))
unfolding serde_json_on_literals
document-read head name text tail ds begun none are =
    let whole = json.object (json.member name (json.array are.trees) json.no_members) in
    let last = 125 ∷ tail in
    let same : tokens ((head ++ (text ++ codes "}")) ++ tail) ≡ tree.json_tokens whole =
    ap tokens (append_assoc head (text ++ codes "}") tail ∙ ap (λ l. head ++ l) (append_assoc text (codes "}") tail))
    ∙ begun (text ++ last)
    ∙ ap (λ ts. begin_object ∷ key name ∷ begin_array ∷ ts) (are.joined last ∙ ap (λ ts. tree.items_tokens are.trees ++ ts) (ended tail none)) in
    read-tree ((head ++ (text ++ codes "}")) ++ tail) whole same (omega (arith, are.shallow)) ∙ rw are.reads refl

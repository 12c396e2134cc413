-- The text of the rest of a batch: its canonical text, with each body as the bytes that the document of the batch has (OData
-- JSON Format 4.01, section 19.1).
use Rattle.std.specs.Prelude.{◌≡◌, ◌++◌, ℕ, Bool, true, false, List, [], ◌∷◌, map, Option, Some, None, option_map, codes}
use Rattle.serde_json.specs.Data.{Data, string}
use Rattle.serde_json.specs.Written.{comma_if}
use Rattle.odb_doc.specs.batch.Records.{Record}
use Rattle.odb_doc.specs.canonical.Canonical.{headers_value, names_value}
use Rattle.odb_doc.specs.Texts.{member_part, request_end}
use Rattle.odb_reply.specs.BodyTexts.{text_at}
use Rattle.odb_send.specs.declared.rest.Rest.{Rest}
use Rattle.odb_send.specs.Places.{AreBodiesIn}
use Rattle.odb_send.specs.Rests.{Change, change_at, changes, is_kept, kept, rest_record, select}
use Rattle.odb_spans.specs.declared.span.Span.{Span}
use Rattle.odb_spans.specs.Spans.{bytes_of}

-- the member `body` as it was written, and the comma after it
abbrev pub body_part : Option (List ℕ) → List ℕ
body_part None = []
body_part (Some bytes) = codes "\"body\":" ++ (bytes ++ codes ",")

-- a request with a body as it was written
abbrev pub request_text : Record → Option (List ℕ) → List ℕ
request_text r body =
    codes "{" ++ (member_part (codes "\"atomicityGroup\":") (option_map string r.group) ++ (body_part body ++ (member_part (codes "\"dependsOn\":") (names_value r.names) ++ (member_part (codes "\"headers\":") (headers_value r.headers) ++ request_end r.id r.method r.url))))

-- the request at a position as the rest has it
abbrev pub text_of_request : List Record → List Bool → List Change → List (Option (List ℕ)) → ℕ → Record → List ℕ
text_of_request rs units changes bodies i r = request_text (rest_record rs units (change_at changes i) r) (text_at bodies i)

-- the texts with commas between them, and one first if something stands before
abbrev pub joined : Bool → List (List ℕ) → List ℕ
joined later [] = []
joined later (text ∷ texts) = comma_if later ++ (text ++ joined true texts)

-- the text of the rest, by the bodies as they were written
unfoldable pub text_of : List Record → Rest → List (Option (List ℕ)) → List ℕ
text_of rs rest bodies = codes "{\"requests\":[" ++ (joined false (select (is_kept rs (kept rest)) (text_of_request rs (kept rest) (changes rest) bodies) 0 rs) ++ codes "]}")

-- the bytes of the spans
abbrev pub bodies_in : List ℕ → List (Option Span) → List (Option (List ℕ))
bodies_in document spans = map (option_map (bytes_of document)) spans

-- this is the text of the rest of the batch in the document, whose bodies lie at these spans
pub record IsTextOf (document : List ℕ) (d : Data) (rs : List Record) (rest : Rest) (text : List ℕ) : Type 0 where
  pub spans : List (Option Span)
  pub bodies : AreBodiesIn document d spans
  pub is : text ≡ text_of rs rest (bodies_in document spans)

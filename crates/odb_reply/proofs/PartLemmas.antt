-- The text of a response is that of its parts.
use Rattle.std.proofs.Common.{◌≡◌, ℕ, List, ◌++◌, Option, Some, None, option_map, decimal, refl, sym, codes, append_assoc, Result, Ok, Err, OnOk}
use Rattle.serde_json.specs.Data.{Data, unsigned, number, string, object, put, no_members}
use Rattle.serde_json.specs.Written.{compact_text}
use Rattle.serde_json.proofs.OnLiterals.{serde_json_on_literals}
use Rattle.odb_doc.specs.declared.recorded.outcome.Outcome.{Outcome}
use Rattle.odb_sched.specs.run.Answers.{status_of}
use Rattle.odb_doc.specs.canonical.Canonical.{with_some, headers_value}
use Rattle.odb_reply.specs.Responses.{LabelValue, response, answer_body, answer_headers}
use Rattle.odb_doc.specs.Texts.{member_part}
use Rattle.odb_reply.specs.BodyTexts.{response_with}

members_text_of : (group : Option (List ℕ)) (body headers : Option Data) (id : List ℕ) (status : ℕ)
    → compact_text (object (with_some (codes "atomicityGroup") (option_map string group) (with_some (codes "body") body (with_some (codes "headers") headers (put (codes "id") (string id) (put (codes "status") (number (unsigned status)) no_members))))))
    ≡ codes "{" ++ (member_part (codes "\"atomicityGroup\":") (option_map string group) ++ (member_part (codes "\"body\":") body ++ (member_part (codes "\"headers\":") headers ++ (codes "\"id\":" ++ (compact_text (string id) ++ (codes ",\"status\":" ++ (decimal status ++ codes "}")))))))
unfolding serde_json_on_literals
members_text_of None None None id status = refl
members_text_of None None (Some headers) id status = simp append_assoc
members_text_of None (Some body) None id status = simp append_assoc
members_text_of None (Some body) (Some headers) id status = simp append_assoc
members_text_of (Some group) None None id status = simp append_assoc
members_text_of (Some group) None (Some headers) id status = simp append_assoc
members_text_of (Some group) (Some body) None id status = simp append_assoc
members_text_of (Some group) (Some body) (Some headers) id status = simp append_assoc

-- without a text for its body, a response is that of the value
pub response-untexted : (label : LabelValue) (answer : Option Outcome) → response_with label answer None ≡ compact_text (response label answer)
response-untexted label None = sym (members_text_of label.group (answer_body None) (headers_value (answer_headers None)) label.id (status_of None))
response-untexted label (Some outcome) = sym (members_text_of label.group outcome.body (headers_value outcome.headers) label.id outcome.status)

-- what five steps have appended, if the last of them succeeds, and then the rest
pub five_parts : {E : Type 0} (result : Result (Unit {0}) E) (start first second third fourth last a b c d e f rest next : List ℕ)
    → first ≡ start ++ (a ++ b) → second ≡ first ++ c → third ≡ second ++ d → fourth ≡ third ++ e → OnOk result (last ≡ fourth ++ f)
    → rest ≡ (a ++ (b ++ (c ++ (d ++ (e ++ f))))) ++ next → OnOk result (start ++ rest ≡ last ++ next)
five_parts (Ok done) start first second third fourth last a b c d e f rest next one two three four five all = rw (all, five, four, three, two, one) (simp append_assoc)
five_parts (Err fault) start first second third fourth last a b c d e f rest next one two three four five all = tt

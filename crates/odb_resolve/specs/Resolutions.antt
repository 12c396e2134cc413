-- Where a request of a batch is sent and under which conditions, or why it is not sent: its URL with the `Location` in place of a
-- reference (OData JSON Format 4.01, section 19.2), and its `If-Match` and `If-None-Match` with an ETag in place of one (section 19.3).
use Rattle.std.specs.Prelude.{◌≡◌, ℕ, ◌==◌, Bool, cond, not, ◌&&◌, ◌||◌, List, drop, bytes_eq, Option, Some, None, option_map, option_and_then, ok_or, find, Result, Ok, Err}
use Rattle.std.specs.Borrow.{Bor}
use Rattle.std.specs.List.{list_any}
use Rattle.odb_resolve.specs.declared.request.Answer.{Answer}
use Rattle.odb_resolve.specs.declared.request.Known.{Known}
use Rattle.odb_resolve.specs.declared.request.Request.{Request}
use Rattle.odb_resolve.specs.declared.request.Service.{Service}
use Rattle.odb_resolve.specs.declared.refusal.Refusal.{Refusal}
use Rattle.odb_resolve.specs.declared.refusal.Refusal.TheVariants.{Unreadable, Outside, NoLocation, NoTag, NotAnswered}
use Rattle.odb_resolve.specs.declared.refusal.ResolveError.{ResolveError}
use Rattle.odb_resolve.specs.declared.refusal.ResolveError.TheVariants.{Refused, OutOfMemory}
use Rattle.odb_resolve.specs.declared.resolution.Resolved.{Resolved}
use Rattle.std.specs.Prelude.{string_bytes}
use Rattle.odb_resolve.specs.Texts.{begins}
use Rattle.odb_resolve.specs.Urls.{Url, read_url}
use Rattle.odb_resolve.specs.Joins.{is_empty, join, extended}
use Rattle.odb_resolve.specs.Safety.{is_ascii_control}
use Rattle.odb_resolve.specs.Roots.{within}

-- the number of a refusal
abbrev pub number_of : Refusal → ℕ
number_of Unreadable = 1
number_of Outside = 2
number_of NoLocation = 3
number_of NoTag = 4
number_of NotAnswered = 5

abbrev pub text_in : Option (Bor (List ℕ)) → Option (List ℕ)
text_in reference = option_map (λ text. text.now) reference

-- the text has an ASCII control character, which no URL has
abbrev pub is_unreadable : List ℕ → Bool
is_unreadable text = list_any is_ascii_control text

-- the URL as it is sent, if it leads below a root
abbrev pub allowed : List (Bor (List ℕ)) → Url → Result (List ℕ) Refusal
allowed roots url = ok_or (within roots url) Outside

-- where a request is sent that refers to no other
abbrev pub own_url : Service → List ℕ → Result (List ℕ) Refusal
own_url service text =
    cond (is_unreadable text) (Err Unreadable) (allowed service.roots.now (join (read_url service.base.now) (read_url text)))

-- the URL of what a request has made or returned, if its answer has a Location or not
abbrev pub place_by : Answer → Option (Bor (List ℕ)) → Result Url Refusal
place_by answer None = cond answer.is_post (Err NoLocation) (Ok (read_url answer.url.now))
place_by answer (Some location) =
    cond (is_unreadable location.now) (Err Unreadable) (Ok (join (read_url answer.url.now) (read_url location.now)))

-- the Location of an answer: an empty one names nothing, and is as none
abbrev pub named_location : Option (Bor (List ℕ)) → Option (Bor (List ℕ))
named_location None = None
named_location (Some location) = cond (is_empty location.now) None (Some location)

-- `/`, `?` or `#`
abbrev pub is_delimiter : ℕ → Bool
is_delimiter byte = (byte == 47) || (byte == 63) || (byte == 35)

-- the text may follow a reference
abbrev pub continues : List ℕ → Bool
continues text = not (is_unreadable text) && (is_empty text || begins is_delimiter text)

-- where a request is sent that refers to this place
abbrev pub below_place : List (Bor (List ℕ)) → List ℕ → Result Url Refusal → Result (List ℕ) Refusal
below_place roots text (Err refusal) = Err refusal
below_place roots text (Ok place) = cond (continues text) (allowed roots (extended place text)) (Err Unreadable)

abbrev pub below_answer : List (Bor (List ℕ)) → List ℕ → Option Answer → Result (List ℕ) Refusal
below_answer roots text None = Err NotAnswered
below_answer roots text (Some answer) = below_place roots text (place_by answer (named_location answer.location))

-- the request with the id
abbrev pub known_as : List Known → List ℕ → Option Known
known_as known id = find (λ one. bytes_eq one.id.now id) known

-- what it was answered
abbrev pub answer_of : List Known → List ℕ → Option Answer
answer_of known id = option_and_then (λ one. one.answer) (known_as known id)

-- where the request is sent
abbrev pub url_by : Service → List Known → List ℕ → Option (Bor (List ℕ)) → Result (List ℕ) Refusal
url_by service known text None = own_url service text
url_by service known text (Some id) = below_answer service.roots.now text (answer_of known id.now)

abbrev pub tag_in : Option Answer → Result (List ℕ) Refusal
tag_in None = Err NotAnswered
tag_in (Some answer) = ok_or (text_in answer.etag) NoTag

abbrev pub tag_or : List ℕ → Option Known → Result (List ℕ) Refusal
tag_or value None = Ok value
tag_or value (Some one) = tag_in one.answer

-- `$`
abbrev pub is_dollar : ℕ → Bool
is_dollar byte = byte == 36

-- the value of a header: the ETag of a request, if it is `$` and its id
abbrev pub value_of : List Known → List ℕ → Result (List ℕ) Refusal
value_of known value = cond (begins is_dollar value) (tag_or value (known_as known (drop 1 value))) (Ok value)

abbrev pub some_value : Result (List ℕ) Refusal → Result (Option (List ℕ)) Refusal
some_value (Ok value) = Ok (Some value)
some_value (Err refusal) = Err refusal

-- a header that the request may lack
abbrev pub condition : List Known → Option (Bor (List ℕ)) → Result (Option (List ℕ)) Refusal
condition known None = Ok None
condition known (Some value) = some_value (value_of known value.now)

-- what is sent
pub record Sending : Type 0 where
  pub url : List ℕ
  pub if_match : Option (List ℕ)
  pub if_none_match : Option (List ℕ)

-- the first refusal of URL, `If-Match` and `If-None-Match`, or all three
abbrev pub together : Result (List ℕ) Refusal → Result (Option (List ℕ)) Refusal → Result (Option (List ℕ)) Refusal → Result Sending Refusal
together (Err refusal) if_match if_none_match = Err refusal
together (Ok url) (Err refusal) if_none_match = Err refusal
together (Ok url) (Ok if_match) (Err refusal) = Err refusal
together (Ok url) (Ok if_match) (Ok if_none_match) = Ok (record { url = url; if_match = if_match; if_none_match = if_none_match })

-- what is sent of a request, or why it is not sent
abbrev pub resolution : Service → List Known → Request → Result Sending Refusal
resolution service known request =
    together (url_by service known request.url.now request.reference) (condition known request.if_match) (condition known request.if_none_match)

-- what is sent, by the value that a call returns
abbrev pub sending : Resolved → Sending
sending resolved = record {
  url = string_bytes resolved.url;
  if_match = text_in resolved.if_match;
  if_none_match = text_in resolved.if_none_match;
}

-- the error is this refusal, or out of memory, which says nothing
abbrev pub Explains : {A : Type 0} → ResolveError → Result A Refusal → Type 0
Explains (Refused refusal) outcome = outcome ≡ Err refusal
Explains OutOfMemory outcome = Unit {0}

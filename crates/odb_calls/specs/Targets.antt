-- What a call returns that says where a request is sent.
use Rattle.std.specs.Prelude.{◌≡◌, ◌≢◌, ◌==◌, ◌+◌, ℕ, not, List, [], ◌∷◌, map, Option, None, Some, Result, Ok, Err, IsUtf8}
use Rattle.std.specs.List.{slice_split}
use Rattle.odb_resolve.specs.declared.request.Answer.{Answer}
use Rattle.odb_resolve.specs.declared.request.Service.{Service}
use Rattle.odb_resolve.specs.declared.refusal.Refusal.{Refusal}
use Rattle.odb_resolve.specs.declared.refusal.Refusal.TheVariants.{Unreadable}
use Rattle.odb_resolve.specs.declared.refusal.ResolveError.{ResolveError}
use Rattle.odb_resolve.specs.declared.refusal.ResolveError.TheVariants as errors
use Rattle.odb_resolve.specs.Below.{IsSentBelow}
use Rattle.odb_resolve.specs.Resolutions.{below_answer, number_of, own_url, text_in}
use Rattle.odb_calls.specs.Returns.{Fills, IsOutOfMemory}

-- the roots in a text, between its newlines
abbrev pub roots_in : List ℕ → List (List ℕ)
roots_in text = slice_split (λ byte. byte == 10) text

-- a service has this base and these roots
pub record IsService (base roots : List ℕ) (service : Service) : Type 0 where
  pub base_is : service.base.now ≡ base
  pub roots_are : map (λ root. root.now) service.roots.now ≡ roots_in roots

-- a text, or none if it is empty
abbrev pub some_text : List ℕ → Option (List ℕ)
some_text [] = None
some_text (byte ∷ bytes) = Some (byte ∷ bytes)

-- what the request was answered that another one refers to
pub record IsAnswer (sent location : List ℕ) (post : ℕ) (answer : Answer) : Type 0 where
  pub url_is : answer.url.now ≡ sent
  pub location_is : text_in answer.location ≡ some_text location
  pub post_is : answer.is_post ≡ not (post == 0)

-- where a request leads, or why it is not sent: by its own URL, or below what the one that it refers to has made or returned
pub data Leads (service : Service) (url sent location : List ℕ) (post : ℕ) (found : Result (List ℕ) Refusal) : Type 0 where
  Own : sent ≡ [] → found ≡ own_url service url → Leads service url sent location post found
  Below : (answer : Answer) → sent ≢ [] → IsAnswer sent location post answer → found ≡ below_answer service.roots.now url (Some answer) → Leads service url sent location post found

-- five texts are UTF-8
abbrev pub AreTexts : List ℕ → List ℕ → List ℕ → List ℕ → List ℕ → Type 0
AreTexts base roots url sent location = IsUtf8 base × IsUtf8 roots × IsUtf8 url × IsUtf8 sent × IsUtf8 location

-- the request is sent there, which is below a root
pub record IsTarget (base roots url sent location : List ℕ) (post : ℕ) (target : List ℕ) : Type 0 where
  pub service : Service
  pub of : IsService base roots service
  pub leads : Leads service url sent location post (Ok target)
  pub below : IsSentBelow service.roots.now target

-- the request is not sent, for this refusal: one that it leads to, or that a text is not UTF-8
pub data IsRefused (base roots url sent location : List ℕ) (post : ℕ) (refusal : Refusal) : Type 0 where
  Led : (service : Service) → IsService base roots service → Leads service url sent location post (Err refusal) → IsRefused base roots url sent location post refusal
  NoText : ¬ AreTexts base roots url sent location → refusal ≡ Unreadable → IsRefused base roots url sent location post refusal

-- the error is a refusal of which this is true, or out of memory, which says nothing
abbrev pub Refuses : (Refusal → Type 0) → ResolveError → Type 0
Refuses P (errors.Refused refusal) = P refusal
Refuses P errors.OutOfMemory = Unit {0}

-- nothing is written, and the status is this
pub record HasNoText (wanted status text_length : ℕ) (old new : List ℕ) : Type 0 where
  pub is : status ≡ wanted
  pub none : text_length ≡ 0
  pub same : new ≡ old

-- what is returned of an error: 31 to 35 for the refusals 1 to 5
abbrev pub Ends : ResolveError → ℕ → ℕ → List ℕ → List ℕ → Type 0
Ends (errors.Refused refusal) status text_length old new = HasNoText (30 + number_of refusal) status text_length old new
Ends errors.OutOfMemory status text_length old new = IsOutOfMemory status text_length old new

-- what the call returns
pub data Resolves (base roots url sent location : List ℕ) (post status text_length : ℕ) (old new : List ℕ) : Type 0 where
  Sent : (target : List ℕ) → IsTarget base roots url sent location post target → Fills target 0 status text_length old new → Resolves base roots url sent location post status text_length old new
  Refused : (refusal : Refusal) → IsRefused base roots url sent location post refusal → HasNoText (30 + number_of refusal) status text_length old new → Resolves base roots url sent location post status text_length old new
  OutOfMemory : IsOutOfMemory status text_length old new → Resolves base roots url sent location post status text_length old new

-- What a call returns that opens a live run and gives what is to be sent of its requests.
use Rattle.std.specs.Prelude.{◌≡◌, ℕ, List, map, Option, Some, string_bytes}
use Rattle.odb_sched.specs.declared.policy.Policy.{Policy}
use Rattle.odb_send.specs.declared.requests.Requests.{Requests}
use Rattle.odb_engine.specs.declared.form.Form.TheVariants.{Lines}
use Rattle.odb_live.specs.declared.run.LiveRun.{LiveRun}
use Rattle.odb_engine.specs.Cascade.{Reports}
use Rattle.odb_live.specs.Live.{IsLeastOfOpening, Opens}
use Rattle.odb_live.specs.Requests.{Sends}
use Rattle.odb_calls.specs.declared.request.Request.{Request}
use Rattle.odb_calls.specs.Lists.{Gives}
use Rattle.odb_calls.specs.Options.{IsPolicy}
use Rattle.odb_calls.specs.Requests.{request_of}
use Rattle.odb_calls.specs.Returns.{IsWrongOption, NamesNone, Returns}

-- What the call returns, and what is in the place of the run then: the run that was opened, if what is to be sent fits into the
-- buffers. Where a document is refused, the text is the line of the least fault.
pub data OpensBy (mode width : ℕ) (batch events : List ℕ) (is : Option LiveRun) (status text_length count : ℕ) (text new_text : List ℕ) (requests new_requests : List Request) : Type 0 where
  Opened : (policy : Policy) (live : LiveRun) (found : Requests) → IsPolicy mode width policy → Opens policy batch events live → Sends batch found → Gives (string_bytes found.text) (map request_of found.parts.items) 0 status text_length count text new_text requests new_requests → (status ≡ 0 → is ≡ Some live) → OpensBy mode width batch events is status text_length count text new_text requests new_requests
  NotOpened : (policy : Policy) → IsPolicy mode width policy → Returns (Reports (IsLeastOfOpening policy batch events) Lines) status text_length text new_text → count ≡ 0 → new_requests ≡ requests → OpensBy mode width batch events is status text_length count text new_text requests new_requests
  WrongOption : NamesNone (IsPolicy mode width) → IsWrongOption status text_length text new_text → count ≡ 0 → new_requests ≡ requests → OpensBy mode width batch events is status text_length count text new_text requests new_requests

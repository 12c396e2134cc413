-- What a call returns that gives the next part of a live run.
use Rattle.std.specs.Prelude.{◌≡◌, ◌≢◌, ℕ, List, string_bytes}
use Rattle.odb_engine.specs.declared.form.Form.TheVariants.{Lines}
use Rattle.odb_live.specs.declared.run.LiveRun.{LiveRun}
use Rattle.odb_live.specs.declared.run.parts.Part.{Part}
use Rattle.odb_engine.specs.Cascade.{Reports}
use Rattle.odb_live.specs.LiveParts.{HasNoParts, IsLeastOfPart, IsPartIn, with_part}
use Rattle.odb_calls.specs.Lists.{Gives}
use Rattle.odb_calls.specs.Returns.{IsWrongOption, Returns}

-- What a call returns that gives the next part of a run, and what it leaves of the run: only if both texts and positions are written, the
-- requests of the part are in one. Where the batch is refused or a Location or an ETag is lacking, the text is the line of the fault.
pub data GivesPart (old new : LiveRun) (batch : List ℕ) (limit status text_length count : ℕ) (text new_text positions new_positions : List ℕ) : Type 0 where
  Given : (part : Part) → IsPartIn old batch limit part → Gives (string_bytes part.text) part.positions.items 0 status text_length count text new_text positions new_positions → (status ≡ 0 → new ≡ with_part old part.positions.items)
      → (status ≢ 0 → new ≡ old) → GivesPart old new batch limit status text_length count text new_text positions new_positions
  NotGiven : Returns (Reports (IsLeastOfPart old batch limit) Lines) status text_length text new_text → count ≡ 0 → new_positions ≡ positions → new ≡ old → GivesPart old new batch limit status text_length count text new_text positions new_positions
  NoParts : HasNoParts old batch limit → IsWrongOption status text_length text new_text → count ≡ 0 → new_positions ≡ positions → new ≡ old → GivesPart old new batch limit status text_length count text new_text positions new_positions

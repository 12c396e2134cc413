-- What a call returns that gives a text and a list, and what it leaves in the two buffers of its caller.
use Rattle.std.specs.Prelude.{◌≡◌, ◌<◌, ◌≤◌, ◌⊎◌, ℕ, List, ◌++◌, length, drop}

-- a list is at the start of a buffer, and the rest of the buffer is as it was
pub record BeginsWith {X : Type 0} (xs old new : List X) : Type 0 where
  pub fits : length xs ≤ length old
  pub begins : new ≡ xs ++ drop (length xs) old

-- both fit into their buffers
pub record AreGiven {X : Type 0} (lines : List ℕ) (items : List X) (done status : ℕ) (text new_text : List ℕ) (buffer new_buffer : List X) : Type 0 where
  pub is : status ≡ done
  pub has_text : BeginsWith lines text new_text
  pub has_items : BeginsWith items buffer new_buffer

-- one of them does not fit into its buffer, and both buffers are as they were
pub record AreTooLarge {X : Type 0} (lines : List ℕ) (items : List X) (status : ℕ) (text new_text : List ℕ) (buffer new_buffer : List X) : Type 0 where
  pub is : status ≡ 5
  pub larger : (length text < length lines) ⊎ (length buffer < length items)
  pub same_text : new_text ≡ text
  pub same_buffer : new_buffer ≡ buffer

-- what a call returns that has found this text and this list
pub record Gives {X : Type 0} (lines : List ℕ) (items : List X) (done status text_length count : ℕ) (text new_text : List ℕ) (buffer new_buffer : List X) : Type 0 where
  pub sets_length : text_length ≡ length lines
  pub sets_count : count ≡ length items
  pub so : AreGiven lines items done status text new_text buffer new_buffer ⊎ AreTooLarge lines items status text new_text buffer new_buffer

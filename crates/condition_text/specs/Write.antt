-- A text in the middle of lent bytes, and what is asked and told of a function that writes what it reads.
use Rattle.std.specs.Prelude.{ℕ, ◌+◌, ◌*◌, ◌-◌, ◌≤◌, ◌≡◌, Bool, true, false, List, [], ◌++◌, length, take, drop}
use Rattle.heads.specs.Got.{Got, ok, is_ok}
use Rattle.condition_text.specs.declared.page.Page.{Page}

-- the text stands from byte k on, r is where it ends, and all other bytes keep their values
pub record Wrote (text : List ℕ) (k : ℕ) (old new : List ℕ) (r : ℕ) : Type 0 where
  pub ends : r ≡ k + length text
  pub fits : r ≤ length old
  pub wrote : new ≡ take k old ++ (text ++ drop (k + length text) old)

-- a text where one is wanted
abbrev pub maybe : Bool → List ℕ → List ℕ
maybe true text = text
maybe false text = []

-- the text was added to what stood on a page
pub record Adds (text : List ℕ) (old new : Page) : Type 0 where
  pub wrote : Wrote text old.end old.bytes.now new.bytes.now new.end
  pub lent : new.bytes.ghost_name ≡ old.bytes.ghost_name

-- what is read at a word was accepted, and there is room from byte k on: 15 bytes for each word of a sheet
pub record Ready {A : Type 0} (g : Got A) (ws : List ℕ) (at k size : ℕ) : Type 0 where
  pub fine : is_ok g ≡ true
  pub inside : at ≤ length ws
  pub few : length ws ≤ 2048
  pub room : k + 15 * (length ws - at) ≤ size

-- what is read at a word ends at the word `next`, and its text, of no more than 15 bytes a word, stands from byte k up to `end`
pub record Put {A : Type 0} (g : Got A) (write text : A → List ℕ) (ws : List ℕ) (at k : ℕ) (old new : List ℕ) (next end : ℕ) : Type 0 where
  pub is : (x : A) (r : List ℕ) → g ≡ ok x r → (r ≡ drop next ws) × ((next ≡ at + length (write x)) × Wrote (text x) k old new end)
  pub from : at ≤ next
  pub within : next ≤ length ws
  pub short : end ≤ k + 15 * (next - at)

-- the same of a page, to whose text it was added
pub record PutOn {A : Type 0} (g : Got A) (write text : A → List ℕ) (ws : List ℕ) (at : ℕ) (old new : Page) (next : ℕ) : Type 0 where
  pub put : Put g write text ws at old.end old.bytes.now new.bytes.now next new.end
  pub lent : new.bytes.ghost_name ≡ old.bytes.ghost_name

-- Names that hang in chains by the slots of their texts, in words: the chains of `rows`, with a name's slot for its key.
use Rattle.std.specs.Prelude.{ℕ, ◌<◌, List, get_or}
use Rattle.tables.specs.Name.{name_at}
use Rattle.rows.specs.Rows.{Chained}

-- the text of the name i
abbrev pub text_in : (s places : List ℕ) → ℕ → List ℕ
text_in s places i = name_at s (get_or places i 0)

-- a slot stands for itself
abbrev pub itself : ℕ → ℕ
itself b = b

-- the slot of the name i
abbrev pub slot_in : (List ℕ → ℕ) → (s places : List ℕ) → ℕ → ℕ
slot_in slot s places i = slot (text_in s places i)

-- the words hold the chains of the first n names
pub record Hung (slot : List ℕ → ℕ) (s places : List ℕ) (m n : ℕ) (chains : List ℕ) : Type 0 where
  pub below : (x : List ℕ) → slot x < m
  pub chained : Chained itself m n (slot_in slot s places) chains

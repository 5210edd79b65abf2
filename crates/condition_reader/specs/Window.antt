-- The levels of brackets that a pass looks at, and what it keeps of them: flags as the bits of bytes, eight to a byte.
use Rattle.std.specs.Prelude.{ℕ, ◌/◌, ◌%◌, ◌-◌, ◌≡◌, Bool, false, cond, ◌&&◌, List, eqb, leb, ltb, get_or, Option, Some, None}
use Rattle.std.specs.Int.{bit_at}
use Rattle.condition_reader.specs.declared.window.Window.{Window}

-- whether a pass looks at a level
abbrev pub window : ℕ → ℕ → Bool
window low d = leb low d && ltb (d - low) 524288

-- where its flag stands
abbrev pub place_of : ℕ → ℕ → Option ℕ
place_of low d = cond (window low d) (Some (d - low)) None

abbrev pub flag_at : List ℕ → ℕ → Bool
flag_at l i = eqb (bit_at (get_or l (i / 8) 0) (i % 8)) 1

-- whether a comparison stands in a level's row, where the pass looks at it
abbrev pub marked : Window → ℕ → Bool
marked w d = window w.low d && flag_at w.flags (d - w.low)

-- a new window
pub record Clear (low : ℕ) (w : Window) : Type 0 where
  pub from : w.low ≡ low
  pub none : (d : ℕ) → marked w d ≡ false

-- the level d changes as g says, and no other
pub record Changes (d : ℕ) (g : Bool → Bool) (old new : Window) : Type 0 where
  pub from : new.low ≡ old.low
  pub here : (f : Bool) → marked old d ≡ (window old.low d && f) → marked new d ≡ (window old.low d && g f)
  pub elsewhere : (e : ℕ) → (e ≡ d → ⊥) → marked new e ≡ marked old e

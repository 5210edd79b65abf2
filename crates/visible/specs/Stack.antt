-- What is visible as a stack of entries in its words, and what the functions do to it.
use Rattle.std.specs.Prelude.{ℕ, suc, ◌≤◌, ◌≡◌, List, ◌∷◌, length}
use Rattle.scope.specs.Graph.{indexed}
use Rattle.semantics.specs.Resolve.{Hit, Seen, seen, once}
use Rattle.visible.specs.Visible.{name_at, variable_at, seens, seen_once, Tabled}
use Rattle.visible.specs.declared.Visible.{Visible}

abbrev pub entries : Visible → List Seen
entries v = seens v.names v.top v.words.now

-- the name and the variable of the entry i from below
abbrev pub entry_at : ℕ → Visible → ℕ × ℕ
entry_at i v = (name_at v.names v.words.now i, variable_at v.names v.words.now i)

-- the words hold the stack and its table
abbrev pub Sound : Visible → Type 0
Sound v = Tabled v.names v.top v.words.now

-- the words are those that were lent, and as many
pub record Still (old new : Visible) : Type 0 where
  pub names : new.names ≡ old.names
  pub lent : new.words.ghost_name ≡ old.words.ghost_name
  pub size : length new.words.now ≡ length old.words.now

-- one entry more
pub record Bound (x : ℕ) (h : Hit) (c : ℕ) (old new : Visible) : Type 0 where
  pub still : Still old new
  pub height : new.top ≡ suc old.top
  pub same : entries new ≡ seen (indexed x) h c ∷ entries old
  pub sound : Sound new

-- back to a height
pub record Cut (height : ℕ) (old new : Visible) : Type 0 where
  pub still : Still old new
  pub back : new.top ≡ height
  pub same : entries new ≡ seens old.names height old.words.now
  pub sound : Sound new

-- each visible name once, with its newest variable, all in the scope c and as what came over a WITH
pub record Restacked (c : ℕ) (old new : Visible) : Type 0 where
  pub still : Still old new
  pub same : entries new ≡ seen_once c (once (entries old))
  pub sound : Sound new
  pub few : new.top ≤ old.top

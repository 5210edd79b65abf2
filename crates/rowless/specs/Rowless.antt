-- The names of variables without a row in the binding table, and the places that names have in words: the sheet's names by their indices, then a place
-- for each entry.
use Rattle.std.specs.Prelude.{ℕ, suc, ◌+◌, ◌-◌, ◌*◌, ◌/◌, ◌^◌, ◌<◌, ◌≤◌, ◌≡◌, true, cond, List, ltb, length, get_or, Option, None, Some}
use mathlib.Core.List.{flat_map}
use Rattle.scope.specs.Graph.{Name, indexed, generated}
use Rattle.tables.specs.Distinct.{name_in, distinct}
use Rattle.tables.specs.Index.{index_of}
use Rattle.tables.specs.Name.{name_words}
use Rattle.tables.specs.VarName.{var_name}
use Rattle.semantics.specs.World.{listed_name}
use Rattle.rows.specs.Rows.{Chained}
use Rattle.rows.specs.Slot.{slot_of}
use Rattle.rowless.specs.declared.Rowless.{Rowless}

-- the variable of the entry i, and the place of its name
abbrev pub variable_at : List ℕ → ℕ → ℕ
variable_at entries i = get_or entries (i * 2) 0

abbrev pub place_at : List ℕ → ℕ → ℕ
place_at entries i = get_or entries (i * 2 + 1) 0

-- the name at a place
unfoldable pub named : Rowless → ℕ → Name
named r x = cond (ltb x r.listed) (indexed x) (generated (variable_at r.entries.now (x - r.listed)))

-- how many places are in use
abbrev pub places : Rowless → ℕ
places r = r.listed + r.count

-- half of the chains' words are slots, and there can be as many entries
abbrev pub most : Rowless → ℕ
most r = length r.chains.now / 2

-- the words hold the entries, each variable once
pub record Sound (r : Rowless) : Type 0 where
  pub some : 0 < most r
  pub small : most r < 2 ^ 31
  pub few : r.count ≤ most r
  pub room : most r * 2 ≤ length r.entries.now
  pub chained : Chained (slot_of r.mult (most r)) (most r) r.count (variable_at r.entries.now) r.chains.now
  pub apart : (i j : ℕ) → i < j → j < r.count → variable_at r.entries.now i ≡ variable_at r.entries.now j → ⊥
  pub placed : (i : ℕ) → i < r.count → place_at r.entries.now i < places r

-- no entry has the variable
abbrev pub Lacks : Rowless → ℕ → Type 0
Lacks r v = (i : ℕ) → i < r.count → variable_at r.entries.now i ≡ v → ⊥

-- the places are those of the variables' names, where `index` gives the index + 1 of the sheet's name with the text of a variable, or 0
pub record Right (index : ℕ → ℕ) (r : Rowless) : Type 0 where
  pub here : (i : ℕ) → i < r.count → named r (place_at r.entries.now i) ≡ listed_name (variable_at r.entries.now i) (index (variable_at r.entries.now i))
  pub all : (v : ℕ) → v < 2 ^ 32 → Lacks r v → index v ≡ 0

-- the words are those that were lent, and as many
pub record Still (old new : Rowless) : Type 0 where
  pub hung : new.chains.ghost_name ≡ old.chains.ghost_name
  pub listed : new.entries.ghost_name ≡ old.entries.ghost_name
  pub slots : length new.chains.now ≡ length old.chains.now
  pub room : length new.entries.now ≡ length old.entries.now

-- there may be more entries, and every place keeps its name
pub record Grows (old new : Rowless) : Type 0 where
  pub still : Still old new
  pub listed : new.listed ≡ old.listed
  pub count : old.count ≤ new.count
  pub same : (x : ℕ) → x < places old → named new x ≡ named old x

-- the entry of a variable
abbrev pub Finds : Rowless → ℕ → Option ℕ → Type 0
Finds r v (Some i) = (i < r.count) × (variable_at r.entries.now i ≡ v)
Finds r v None = Lacks r v

-- what one entry more asks: no other has its variable, and its place is in use then
pub record Room (v x : ℕ) (r : Rowless) : Type 0 where
  pub sound : Sound r
  pub lacks : Lacks r v
  pub few : r.count < most r
  pub placed : x ≤ places r

pub record Adds (v x : ℕ) (old new : Rowless) : Type 0 where
  pub still : Still old new
  pub listed : new.listed ≡ old.listed
  pub count : new.count ≡ suc old.count
  pub sound : Sound new
  pub variable : variable_at new.entries.now old.count ≡ v
  pub place : place_at new.entries.now old.count ≡ x
  pub variables : (i : ℕ) → i < old.count → variable_at new.entries.now i ≡ variable_at old.entries.now i
  pub places : (i : ℕ) → i < old.count → place_at new.entries.now i ≡ place_at old.entries.now i

-- another multiplier, where there is no entry yet
pub record Chosen (old new : Rowless) : Type 0 where
  pub same : new ≡ record old { mult = new.mult }
  pub sound : Sound new

-- x is the place of the name of a variable without a row
pub record Places (v : ℕ) (old new : Rowless) (x : ℕ) : Type 0 where
  pub grows : Grows old new
  pub sound : Sound new
  pub few : new.count ≤ suc old.count
  pub below : x < places new
  pub right : (index : ℕ → ℕ) → Right index old → Right index new
  pub name : (index : ℕ → ℕ) → Right index old → named new x ≡ listed_name v (index v)

-- the index + 1 of the name that has the text of a variable, or 0
abbrev pub index_in : List (List ℕ) → ℕ → ℕ
index_in names v = index_of (var_name v) names

-- what beginning with these names asks: each is there once, and three of their words have room for an entry
pub record Fresh (names : List (List ℕ)) (r : Rowless) : Type 0 where
  pub apart : distinct name_in names ≡ true
  pub fit : length (flat_map name_words names) < 3 * most r
  pub room : most r * 2 ≤ length r.entries.now
  pub small : most r < 2 ^ 31
  pub clear : (b : ℕ) → b < most r → get_or r.chains.now b 0 ≡ 0

-- the entries are those of the names that have the text of a variable; three words of names pay for each
pub record Begins (names : List (List ℕ)) (old new : Rowless) : Type 0 where
  pub still : Still old new
  pub listed : new.listed ≡ length names
  pub sound : Sound new
  pub right : Right (index_in names) new
  pub paid : 3 * new.count ≤ length (flat_map name_words names)

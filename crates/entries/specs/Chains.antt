-- Recorded uses in a lent list, found along chains of their use ids.
use Rattle.std.specs.Prelude.{ℕ, ◌+◌, ◌*◌, ◌^◌, ◌<◌, ◌≤◌, ◌≡◌, List, length, get_or}
use Rattle.rows.specs.Rows.{Hung}
use Rattle.semantics.specs.Log.{Write}
use Rattle.entries.specs.Filled.{recorded_width, recorded_words}
use Rattle.entries.specs.Adding.{Becomes}
use Rattle.entries.specs.declared.Recorded.{Recorded}

-- the use id of the entry i
abbrev pub id_at : List ℕ → ℕ → ℕ
id_at list i = get_or list (i * recorded_width) 0

-- the ids of the entries hang in the chains, and no two are equal
pub record Sound (r : Recorded) : Type 0 where
  pub within : r.made * recorded_width ≤ length r.list.now
  pub hung : Hung r.mult r.slots r.made (id_at r.list.now) r.chains.now
  pub apart : (i j : ℕ) → i < j → j < r.made → id_at r.list.now i ≡ id_at r.list.now j → ⊥

-- and there is room for k entries more
pub record Room (k : ℕ) (r : Recorded) : Type 0 where
  pub sound : Sound r
  pub listed : (r.made + k) * recorded_width ≤ length r.list.now
  pub hung : r.slots + (r.made + k) ≤ length r.chains.now
  pub small : r.made + k < 2 ^ 32

-- i is the place of the entry with a use id, or past the last where there is none
pub record Places (r : Recorded) (id i : ℕ) : Type 0 where
  pub within : i ≤ r.made
  pub here : i < r.made → id_at r.list.now i ≡ id
  pub first : (j : ℕ) → j < i → id_at r.list.now j ≡ id → ⊥

-- the words are those that were lent, and as many
pub record Still (old new : Recorded) : Type 0 where
  pub list : new.list.ghost_name ≡ old.list.ghost_name
  pub chains : new.chains.ghost_name ≡ old.chains.ghost_name
  pub slots : new.slots ≡ old.slots
  pub hung : length new.chains.now ≡ length old.chains.now

-- whatever entries the list has, it comes to have f of them, at most k more, and their ids hang in the chains
pub record Notes (k : ℕ) (f : List Write → List Write) (old new : Recorded) : Type 0 where
  pub still : Still old new
  pub sound : Sound new
  pub becomes : Becomes k recorded_words f old.list.now new.list.now old.made new.made

-- The pairs that a WITH holds, in their words: their names are the sheet's, by their indices.
use Rattle.std.specs.Prelude.{ℕ, zero, suc, ◌+◌, ◌*◌, ◌<◌, ◌≤◌, ◌≡◌, cond, List, [], ◌∷◌, ◌++◌, length, get_or, Option, None, Some}
use Rattle.scope.specs.Graph.{name, indexed}
use Rattle.semantics.specs.Resolve.{Pair, pair}
use Rattle.fused.specs.Clauses.{Taken}
use Rattle.steps.specs.Memory.{names_in, use_in}
use Rattle.steps.specs.declared.context.Context.{Context}
use Rattle.projection_walk.specs.declared.pairs.Pairs.{Pairs}

-- two words each, in order
unfoldable pub pairs_in : ℕ → List ℕ → List Pair
pairs_in zero held = []
pairs_in (suc n) held = pairs_in n held ++ (pair (indexed (get_or held (n * 2) 0)) (get_or held (n * 2 + 1) 0) ∷ [])

-- the name and the variable of the pair i
abbrev pub pair_at : ℕ → Pairs → ℕ × ℕ
pair_at i p = (get_or p.words.now (i * 2) 0, get_or p.words.now (i * 2 + 1) 0)

abbrev pub pairs_of : Pairs → List Pair
pairs_of p = pairs_in p.count p.words.now

-- what a WITH has taken of its projections so far, and the words that are left for it: one for each pair, one for a star
abbrev pub taken_by : Pairs → Taken
taken_by p = record { star = p.star; pairs = pairs_of p }

abbrev pub kept_of : Pairs → ℕ
kept_of p = p.count + cond p.star 1 0

-- the words are those that were lent, and as many
pub record Still (p p' : Pairs) : Type 0 where
  pub lent : p'.words.ghost_name ≡ p.words.ghost_name
  pub size : length p'.words.now ≡ length p.words.now

-- a pair was held
pub record Kept (x v : ℕ) (p p' : Pairs) : Type 0 where
  pub still : Still p p'
  pub count : p'.count ≡ suc p.count
  pub star : p'.star ≡ p.star
  pub same : pairs_of p' ≡ pairs_of p ++ (pair (indexed x) v ∷ [])

-- the names of pairs are indices below a number
unfoldable pub InNames : ℕ → List Pair → Type 0
InNames names [] = Unit {0}
InNames names (pair (name m x) v ∷ ps) = ((m ≡ 0) × (x < names)) × InNames names ps

-- any other expression with an alias: the use id stands with the names
pub record KeepsOther (c : Context) (p : Pairs) (alias : Option ℕ) : Type 0 where
  pub used : names_in c ≤ length c.uses.now
  pub named : (x : ℕ) → alias ≡ Some x → x < names_in c
  pub few : p.count < 4294967295
  pub room : (p.count + 1) * 2 ≤ length p.words.now

abbrev pub KeptAs : Option ℕ → Context → (p p' : Pairs) → Type 0
KeptAs None c p p' = p' ≡ p
KeptAs (Some x) c p p' = Kept x (use_in c x) p p'

pub record KeptOther (c : Context) (alias : Option ℕ) (p p' : Pairs) : Type 0 where
  pub kept : KeptAs alias c p p'

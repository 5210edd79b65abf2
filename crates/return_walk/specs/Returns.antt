-- What the walk over a RETURN asks and does: its projections, the aliases that it holds, and its sort keys, in which these are no use.
use Rattle.std.specs.Prelude.{ℕ, zero, suc, ◌+◌, ◌<◌, ◌≤◌, ◌≡◌, Bool, true, false, cond, ◌||◌, List, [], ◌∷◌, ◌++◌, eqb, length, get_or, Option, Some}
use Rattle.heads.specs.Got.{bind, word_in, any_word}
use Rattle.clauses.specs.Kind.{code_of}
use Rattle.clauses.specs.declared.kind.ClauseKind.{ClauseKind}
use Rattle.clauses.specs.declared.kind.ClauseKind.TheVariants.{SortedReturn}
use Rattle.semantics.specs.Resolve.{alias_in}
use Rattle.semantics.specs.Kinds.{general}
use Rattle.fused.specs.Fused.{Mode, rounds}
use Rattle.fused.specs.Clauses.{within, aliased, projections_go, hushed_row, return_go}
use Rattle.steps.specs.Memory.{names_in, world_at}
use Rattle.walk.specs.Goes.{Goer}
use Rattle.clause_parts.specs.Passes.{Held, Clear}
use Rattle.steps.specs.declared.context.Context.{Context}

-- the first k of the aliases that are held, a word each, in order
unfoldable pub aliases_in : ℕ → List ℕ → List ℕ
aliases_in zero held = []
aliases_in (suc k) held = aliases_in k held ++ (get_or held k 0 ∷ [])

-- they are below the number of names
pub record AllNamed (names k : ℕ) (held : List ℕ) : Type 0 where
  pub named : (j : ℕ) → j < k → get_or held j 0 < names

-- an alias is held, if there is one
pub record HeldAlias (k : ℕ) (alias : Option ℕ) (held held' : List ℕ) (r : ℕ) : Type 0 where
  pub kept : length held' ≡ length held
  pub more : r ≤ k + 1
  pub same : aliases_in r held' ≡ aliases_in k held ++ alias_in alias
  pub named : (names : ℕ) → AllNamed names k held → ((x : ℕ) → alias ≡ Some x → x < names) → AllNamed names r held'

-- whether x is one of the first k
unfoldable pub is_marked : ℕ → ℕ → List ℕ → Bool
is_marked x zero held = false
is_marked x (suc k) held = eqb x (get_or held k 0) || is_marked x k held

-- the marks of the first k are `to`, and all else is as before
pub record Marked (to k : ℕ) (held marks marks' : List ℕ) : Type 0 where
  pub kept : length marks' ≡ length marks
  pub at : (x : ℕ) → get_or marks' x 0 ≡ cond (is_marked x k held) to (get_or marks x 0)

-- whether a clause is a RETURN with sort keys
abbrev pub sorts : ClauseKind → Bool
sorts kind = eqb (code_of kind) (code_of SortedReturn)

-- what is asked of the words that are lent for sort keys: nothing without them
abbrev pub KeysIn : Bool → Context → Mode → (held marks : List ℕ) → Type 0
KeysIn true c m held marks = Held c held m × Clear c marks
KeysIn false c m held marks = Unit {0}

-- What is walked, in a mode.
module _ (c : Context) (mode : Mode) where
  -- projections of which nothing is held
  abbrev pub output_at : Goer
  output_at id s r = bind (word_in 0 (suc (names_in c)) r) (λ a r1. within (world_at c id) (names_in c) mode general s r1)

  abbrev pub outputs_at : ℕ → Goer
  outputs_at n id = rounds n (output_at id)

  abbrev pub returned_at : Goer
  returned_at id s r = bind (word_in 0 4294967296 r) (λ n r1. rounds n (output_at id) s r1)

  -- sort keys, in which these names are no use
  abbrev pub hushed_at : List ℕ → Goer
  hushed_at xs id = hushed_row (world_at c id) (names_in c) xs mode

  -- n projections and sort keys; a count, and as many
  abbrev pub keyed_at : ℕ → Goer
  keyed_at n id s r = bind (projections_go (world_at c id) (names_in c) aliased mode n [] s r) (λ x r2. hushed_at x.1 id x.0 r2)

  abbrev pub sorted_at : Goer
  sorted_at id s r = bind (any_word r) (λ n r1. keyed_at n id s r1)

  -- what is walked from outside its scope, sorted or not
  abbrev pub outside_at : Bool → Goer
  outside_at false = returned_at
  outside_at true = sorted_at

  -- a RETURN with its span from a to b, sorted or not
  abbrev pub return_at : Bool → (a b : ℕ) → Goer
  return_at sorts a b id = return_go (world_at c id) (names_in c) mode a b sorts

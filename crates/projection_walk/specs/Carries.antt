-- What the walk over the projections and the filter of a WITH asks and leaves: the pairs that they carry are held, and whether one is a star.
use Rattle.std.specs.Prelude.{ℕ, ◌+◌, ◌*◌, ◌<◌, ◌≤◌, ◌≡◌, true, List, length, Option, None, Some, Result, Ok, Err}
use Rattle.refusal.specs.Number.{number_of}
use Rattle.refusal.specs.declared.Refusal.{Refusal}
use Rattle.heads.specs.Got.{Got, ok, no, bind, any_word, flag}
use Rattle.heads.specs.Form.{read_form}
use Rattle.semantics.specs.World.{Direct}
use Rattle.semantics.specs.Resolve.{use_var}
use Rattle.semantics.specs.Kinds.{general, plain, at_row}
use Rattle.fused.specs.Fused.{Both, Mode, step, row_go}
use Rattle.fused.specs.Clauses.{within, direct_of, Taken, takes, projections_go}
use Rattle.rows.specs.Table.{row_in}
use Rattle.rowless.specs.Rowless.{Grows}
use Rattle.visible.specs.Visible.{seens}
use Rattle.visible.specs.Stack.{entries}
use Rattle.steps.specs.Memory.{words_in, names_in, is_the, world_at}
use Rattle.steps.specs.Hold.{Fit, Holds, Frame}
use Rattle.steps.specs.Hold as hold
use Rattle.walk.specs.Goes.{rest_in}
use Rattle.clause_parts.specs.Passes.{Unhushed}
use Rattle.projection_walk.specs.Pairs.{pairs_of, taken_by, kept_of, Still, InNames}
use Rattle.steps.specs.declared.Walk.{Walk}
use Rattle.steps.specs.declared.context.Context.{Context}
use Rattle.projection_walk.specs.declared.pairs.Pairs.{Pairs}

-- Projections of a WITH: the pairs that they carry are held behind those there are.
pub record ComesHolding (id : ℕ → ℕ) (c : Context) (w : Walk) (p : Pairs) (g : Got (Both × Taken)) : Type 0 where
  pub state : Both
  pub holds : Holds id c w state
  pub same : g ≡ ok (state, taken_by p) (rest_in c w)

-- what projections do, with what was taken so far
abbrev pub Projector : Type 0
Projector = (ℕ → ℕ) → Taken → Both → List ℕ → Got (Both × Taken)

-- A word is left for each pair and for a star, j words were read before. What was visible stays below, and places keep their names.
pub record Carried (j : ℕ) (c : Context) (w : Walk) (p : Pairs) (w' : Walk) (p' : Pairs) (G : Projector) : Type 0 where
  pub from : w.at ≤ w'.at
  pub paid : kept_of p' + w.at ≤ kept_of p + j + w'.at
  pub top : w.visible.top ≤ w'.visible.top
  pub below : seens w.visible.names w.visible.top w'.visible.words.now ≡ entries w.visible
  pub grows : Grows w.rowless w'.rowless
  pub named : InNames (names_in c) (pairs_of p) → InNames (names_in c) (pairs_of p')
  pub fit : (k : ℕ) → Fit (j + k + kept_of p) c w → Fit (k + kept_of p') c w'
  pub goes : (id : ℕ → ℕ) (s : Both) → Holds id c w s → ComesHolding id c w' p' (G id (taken_by p) s (rest_in c w))

-- it went on, or is refused
abbrev pub CarriesAs : ℕ → Context → Walk → Pairs → Walk → Pairs → Projector → Result (Unit {0}) Refusal → Type 0
CarriesAs j c w p w' p' G (Ok u) = Carried j c w p w' p' G
CarriesAs j c w p w' p' G (Err e) = (id : ℕ → ℕ) (s : Both) → Holds id c w s → G id (taken_by p) s (rest_in c w) ≡ no (number_of e)

pub record Carries (j : ℕ) (c : Context) (w : Walk) (p : Pairs) (w' : Walk) (p' : Pairs) (G : Projector) (r : Result (Unit {0}) Refusal) : Type 0 where
  pub still : hold.Still w w'
  pub held : Still p p'
  pub carries : CarriesAs j c w p w' p' G r

-- while projections are walked: a word was read for each pair that is held and for a star, and j more; each name is a use
pub record Holding (j : ℕ) (c : Context) (w : Walk) (p : Pairs) : Type 0 where
  pub room : 2 * length (words_in c) ≤ length p.words.now
  pub few : kept_of p + j ≤ w.at
  pub unhushed : Unhushed c

-- A projection that is a Var or a name: F is its use, and what it carries is held, or that it is a star.
pub record Adds (c : Context) (w : Walk) (p : Pairs) (w' : Walk) (p' : Pairs) (F : (ℕ → ℕ) → Both → Both) (alias : Option ℕ) (d : Direct) : Type 0 where
  pub at : w'.at ≡ w.at
  pub still : hold.Still w w'
  pub held : Still p p'
  pub frame : Frame 0 w w'
  pub more : kept_of p' ≤ kept_of p + 1
  pub named : InNames (names_in c) (pairs_of p) → InNames (names_in c) (pairs_of p')
  pub fit : (k : ℕ) → Fit (3 + k + kept_of p) c w → Fit (k + kept_of p') c w'
  pub goes : (id : ℕ → ℕ) (s : Both) → Holds id c w s → Holds id c w' (F id s)
  pub taken : (id : ℕ → ℕ) (s : Both) → Holds id c w s → taken_by p' ≡ takes (world_at c id) alias d (F id s).names.visible (taken_by p)

-- the use of a variable as a projection, in the general setting
abbrev pub var_use : Context → Mode → ℕ → (ℕ → ℕ) → Both → Both
var_use c m v id = step m (use_var (world_at c id) v (row_in c.rows v)) (at_row general (row_in c.rows v))

-- the alias is one of the names, if there is one
abbrev pub Within : ℕ → Option ℕ → Type 0
Within names None = Unit {0}
Within names (Some x) = x < names

-- a projection that is no star
abbrev pub NoStar : Context → Option ℕ → ℕ → Type 0
NoStar c alias x = alias ≡ None → is_the x c.star ≡ true → ⊥

-- What is walked, in a mode.
module _ (c : Context) (mode : Mode) where
  abbrev pub projections_at : ℕ → Projector
  projections_at n id q = projections_go (world_at c id) (names_in c) (takes (world_at c id)) mode n q

  -- the expression of a projection with the alias
  abbrev pub carried_at : Option ℕ → Projector
  carried_at alias id q s r =
      bind (within (world_at c id) (names_in c) mode general s r)
      (λ u r2. ok (u, takes (world_at c id) alias (direct_of (read_form (names_in c) r)) u.names.visible q) r2)

  -- projections and a filter, with what was taken so far
  abbrev pub filtered_at : Projector
  filtered_at id q s r =
      bind (any_word r)
      (λ n r1. bind (projections_at n id q s r1)
      (λ x r2. bind (flag r2)
      (λ g r3. bind (row_go (within (world_at c id) (names_in c) mode) g plain x.0 r3) (λ u r4. ok (u, x.1) r4))))

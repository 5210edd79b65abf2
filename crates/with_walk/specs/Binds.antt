-- What the walk over a WITH asks and leaves: what it has taken is carried by a barrier, and bound in a new Root.
use Rattle.std.specs.Prelude.{ℕ, ◌+◌, ◌*◌, ◌<◌, ◌≤◌, ◌≡◌, Bool, true, false, cond, List, [], ◌∷◌, eqb, length}
use Rattle.clauses.specs.Kind.{code_of}
use Rattle.clauses.specs.declared.kind.ClauseKind.{ClauseKind}
use Rattle.clauses.specs.declared.kind.ClauseKind.TheVariants.{SortedWith}
use Rattle.scope.specs.Graph.{root_scope}
use Rattle.semantics.specs.World.{World}
use Rattle.semantics.specs.Resolve.{hit, Seen, seen, binds, State, Pair, pair, enter, standing, bind_all, barrier}
use Rattle.fused.specs.Fused.{Both, Mode}
use Rattle.fused.specs.Clauses.{all_of, with_go}
use Rattle.visible.specs.Visible.{seens}
use Rattle.visible.specs.Stack.{entries, Sound, Restacked}
use Rattle.steps.specs.Memory.{names_in, world_at}
use Rattle.steps.specs.Named.{as_named}
use Rattle.steps.specs.Hold.{Binding, Fits, Fit, Holds, Still, Left, on_names}
use Rattle.walk.specs.Goes.{Goer}
use Rattle.projection_walk.specs.Pairs.{pairs_in, pairs_of, InNames, kept_of, taken_by}
use Rattle.steps.specs.declared.Walk.{Walk}
use Rattle.steps.specs.declared.context.Context.{Context}
use Rattle.projection_walk.specs.declared.pairs.Pairs.{Pairs}

-- a new Root under the barrier, where the pairs are bound above what is seen of the names before
abbrev pub rooted_on : (List Seen) → World → (a b : ℕ) → List Pair → State → State
rooted_on below w a b ps y =
    let t = barrier w a b ps y in
    bind_all w ps (enter root_scope b b (standing below t.cur t))

-- of names before, what is seen below the pairs: nothing where there is a star, which carries them all
abbrev pub under_star : Bool → List Seen → List Seen
under_star star l = cond star [] l

-- the first `top` names that are visible
abbrev pub first_seen : ℕ → Walk → List Seen
first_seen top w = as_named w.rowless (seens w.visible.names top w.visible.words.now)

-- What a WITH leaves: of the names before it the first `top` are seen below the pairs, or each of them is carried by a star.
pub record Rebinds (c : Context) (p : Pairs) (w w' : Walk) (a b top : ℕ) : Type 0 where
  pub at : w'.at ≡ w.at
  pub still : Still w w'
  pub fit : (k : ℕ) → Fit (2 + k + kept_of p) c w → w.rowless.listed + (top + p.count) + k ≤ w.at → Fit k c w'
  pub goes : (id : ℕ → ℕ) (s : Both) → Holds id c w s →
      Holds id c w' (on_names (rooted_on (under_star p.star (first_seen top w)) (world_at c id) a b (all_of (taken_by p) (first_seen top w))) s)

-- pairs are seen in the current scope, without an event
abbrev pub seen_by : List Pair → State → State
seen_by [] s = s
seen_by (pair x v ∷ ps) s = seen_by ps (standing (seen x (hit v 1) s.cur ∷ s.visible) s.cur s)

-- how many of them are the first of their name in the scope c, above a list
unfoldable pub firsts : ℕ → List Pair → List Seen → ℕ
firsts c [] l = 0
firsts c (pair x v ∷ ps) l = cond (binds c x l) 0 1 + firsts c ps (seen x (hit v 1) c ∷ l)

-- the first n pairs are seen
pub record SeesAll (n : ℕ) (p : Pairs) (c : Context) (w w' : Walk) : Type 0 where
  pub fit : (i k l : ℕ) → Fits i k l c w → InNames w.rowless.listed (pairs_in n p.words.now) → w.rowless.listed + (w.visible.top + n) + k ≤ w.at + 1 → Fits i k l c w'
  pub goes : (id : ℕ → ℕ) (s : Both) → InNames w.rowless.listed (pairs_in n p.words.now) → Holds id c w s → Holds id c w' (on_names (seen_by (pairs_in n p.words.now)) s)

-- they are, beside which nothing changes but what is visible, and r of them are first
pub record SeesFirst (n : ℕ) (p : Pairs) (w w' : Walk) (r : ℕ) : Type 0 where
  pub still : Still w w'
  pub same : w' ≡ record w { visible = w'.visible }
  pub first : r ≡ firsts w.cur (pairs_in n p.words.now) (entries w.visible)
  pub few : r ≤ n
  pub all : (c : Context) → SeesAll n p c w w'

abbrev pub Sees : Pairs → (w w' : Walk) → ℕ → Type 0
Sees p = SeesFirst p.count p

-- what seeing them asks: their names have places, and the stack and its words have room
pub record SeesIn (w : Walk) (p : Pairs) : Type 0 where
  pub short : w.cur < 2147483648
  pub binding : Binding w
  pub wide : p.count * 2 ≤ length p.words.now
  pub named : InNames w.rowless.listed (pairs_of p)
  pub few : w.visible.top + p.count < 4294967296
  pub places : w.rowless.listed ≤ w.visible.names
  pub room : w.visible.names + (w.visible.top + p.count) * 4 ≤ length w.visible.words.now

-- where there is a star, each name that is seen is seen once, in the current scope: r of them
pub record Spreads (star : Bool) (w w' : Walk) (r : ℕ) : Type 0 where
  pub same : w' ≡ record w { visible = w'.visible }
  pub yes : star ≡ true → (r ≡ w'.visible.top) × Restacked w.cur w.visible w'.visible
  pub no : star ≡ false → (w' ≡ w) × (r ≡ 0)

-- what was carried and bound is counted: the counts have room for it
pub record Countable (held star first : ℕ) (w : Walk) : Type 0 where
  pub taken : w.taken + (star + held) < 4294967296
  pub made : w.made + (star + first) < 4294967296

pub record CountsPairs (held star first : ℕ) (w w' : Walk) : Type 0 where
  pub same : w' ≡ record w { taken = w.taken + (star + held); made = w.made + (star + first) }

-- what binding above the first `top` names asks
pub record BindsIn (top : ℕ) (w : Walk) (p : Pairs) : Type 0 where
  pub wide : p.count * 2 ≤ length p.words.now
  pub named : InNames w.rowless.listed (pairs_of p)
  pub low : top ≤ w.visible.top
  pub room : w.rowless.listed + (top + p.count) ≤ w.at

-- what seeing the pairs alone again asks: the stack is above a height, and there is room for the pairs
pub record SeesAgainIn (height root : ℕ) (w : Walk) (p : Pairs) : Type 0 where
  pub short : root < 2147483648
  pub sound : Sound w.visible
  pub low : height ≤ w.visible.top
  pub wide : p.count * 2 ≤ length p.words.now
  pub named : InNames w.rowless.listed (pairs_of p)
  pub few : p.count < 4294967296
  pub places : w.rowless.listed ≤ w.visible.names
  pub room : w.visible.names + p.count * 4 ≤ length w.visible.words.now

-- with a star what is seen up to the height is all of it; else the pairs are seen above nothing
pub record Again (p : Pairs) (root : ℕ) (w w' : Walk) : Type 0 where
  pub between : Walk
  pub count : ℕ
  pub left : Left w between 0 root
  pub sees : Sees p between w' count

pub record SeesAgain (p : Pairs) (height root : ℕ) (w w' : Walk) : Type 0 where
  pub yes : p.star ≡ true → Left w w' height root
  pub no : p.star ≡ false → Again p root w w'

-- whether a clause is a WITH with sort keys
abbrev pub sorts : ClauseKind → Bool
sorts kind = eqb (code_of kind) (code_of SortedWith)

-- a WITH from a to b in a mode, sorted or not
module _ (c : Context) (mode : Mode) where
  abbrev pub with_at : Bool → (a b : ℕ) → Goer
  with_at sorts a b id = with_go (world_at c id) (names_in c) mode a b sorts

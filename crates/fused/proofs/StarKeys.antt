-- Sort keys, read and walked in one, where a list stands behind the visible one in which nothing more is found, all of it bound up to n: it
-- makes no difference (`row-alike`). So the sort keys of a WITH with a star don't need the list before it (`star-sort`).
use Rattle.std.specs.Prelude.{None}
use Prim.Native.Nat.{ℕ, suc, ◌≤◌, ◌<◌}
use native.Mathlib.Omega.{arith}
use mathlib.Core.Path.{◌≡◌, refl, ap, sym, ◌∙◌}
use mathlib.Core.Bool.{Bool, true, false, cond, true≢false}
use mathlib.Core.List.{List, [], ◌∷◌, ◌++◌, reverse}
use Rattle.scope.specs.Graph.{root_scope, with_barrier, carried, Name}
use Rattle.heads.specs.Got.{ok, bind}
use Rattle.expr.specs.Tree.{Exprs}
use Rattle.clauses.specs.Read.{counted_exprs}
use Rattle.semantics.specs.Log.{carry}
use Rattle.semantics.specs.World.{World}
use Rattle.semantics.specs.Resolve.{State, Seen, Pair, pair, lookup, binds, once, say, enter, leave, standing, resolves, carry_all, bind_all, barrier, fresh}
use Rattle.semantics.specs.Kinds.{plain}
use Rattle.theorems.proofs.Alike.{keys-alike, seen_in, bound-seen, bound-last, all_found}
use Rattle.fused.specs.Fused.{Both, Mode, when, left}
use Rattle.fused.specs.Clauses.{Taken, all_of, counted_row, rooted_by, sort_go}
use Rattle.fused.proofs.Apart.{map-map, each, acts}
use Rattle.fused.proofs.ApartClauses.{counted-law}

-- as v, but with a list behind what is visible
abbrev pub behind : List Seen → Both → Both
behind B v = record { names = standing (v.names.visible ++ B) v.names.cur v.names; kinds = v.kinds; olds = v.olds }

pub carry-last : (w : World) (ps : List Pair) (s : State) → (carry_all w ps s).last ≡ s.last
unfolding carry_all
carry-last w [] s = refl
carry-last w (pair x v ∷ ps) s = carry-last w ps (say (carry (carried s.cur x v)) s)

module _ (w : World) (names : ℕ) where
  pub row-alike : (m : Mode) (v : Both) (B : List Seen) (n : ℕ) (r : List ℕ) → m.resolves ≡ true
      → ((x : Name) → lookup x v.names.visible ≡ None → lookup x B ≡ None) → ((d : ℕ) (x : Name) → n < d → binds d x B ≡ false) → n ≤ v.names.last
      → bind (counted_row w names m (behind B v) r) (λ z r2. ok (left m v z) r2) ≡ bind (counted_row w names m v r) (λ z r2. ok (left m v z) r2)
  row-alike m v B n r e f g p =
      rw (← (counted-law w names m (behind B v) r), ← (counted-law w names m v r))
      (map-map (counted_exprs names r) (λ es. acts w m plain es (behind B v)) (left m v)
      ∙ each (counted_exprs names r) _ _ one
      ∙ sym (map-map (counted_exprs names r) (λ es. acts w m plain es v) (left m v)))
    where
      named : (q : Bool) → q ≡ true → (es : Exprs) → when q (leave v.names) (when q (resolves w es) (behind B v).names) ≡ when q (leave v.names) (when q (resolves w es) v.names)
      named true q es = keys-alike w es v.names v.names.visible B v.names.cur n f g p
      named false q es = absurd (true≢false (sym q))

      one : (es : Exprs) → left m v (acts w m plain es (behind B v)) ≡ left m v (acts w m plain es v)
      one es = λ i. record { names = named m.resolves e es i; kinds = (acts w m plain es v).kinds; olds = (acts w m plain es v).olds }

  -- a WITH's new Root with a star, and its sort keys
  pub star-sort : (m : Mode) (a b : ℕ) (q : Taken) (s u : Both) (n : ℕ) (r : List ℕ) → m.resolves ≡ true → q.star ≡ true
      → ((d : ℕ) (x : Name) → n < d → binds d x s.names.visible ≡ false) → n ≤ u.names.last
      → (let v = rooted_by w names m a b (all_of q s.names.visible) u in sort_go w names m a b true s v r ≡ bind (counted_row w names m v r) (λ z r2. ok (left m v z) r2))
  star-sort m a b q s u n r e star g p = go m.resolves e
    where
      ps : List Pair
      ps = all_of q s.names.visible

      root : State
      root = let y = barrier w a b ps u.names in enter root_scope b b (standing [] y.cur y)

      mode : Bool → Mode
      mode c = record { resolves = c; checks = m.checks }

      finds : (x : Name) → lookup x (bind_all w ps root).visible ≡ None → lookup x s.names.visible ≡ None
      finds x h = all_found s.names.visible q.pairs root.cur x (ap (λ (c : Bool). lookup x (seen_in root.cur (cond c (reverse (once s.names.visible)) [] ++ q.pairs) [])) (sym star) ∙ ap (lookup x) (sym (bound-seen w ps root)) ∙ h)

      last : n ≤ (bind_all w ps root).last
      last = omega (arith, p, bound-last w ps root, barrier-last)
        where
          barrier-last : (barrier w a b ps u.names).last ≡ suc u.names.last
          barrier-last = unfold barrier in carry-last w ps (enter with_barrier a b u.names)

      go : (c : Bool) → c ≡ true → (let v = rooted_by w names (mode c) a b ps u in sort_go w names (mode c) a b true s v r ≡ bind (counted_row w names (mode c) v r) (λ z r2. ok (left (mode c) v z) r2))
      go true c = unfold fresh in row-alike (mode true) (rooted_by w names (mode true) a b ps u) s.names.visible n r refl finds g last
      go false c = absurd (true≢false (sym c))

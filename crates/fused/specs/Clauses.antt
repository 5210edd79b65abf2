-- Clauses and arms, read and walked in one.
use Rattle.std.specs.Prelude.{ℕ, zero, suc, Bool, true, false, cond, ◌||◌, List, [], ◌∷◌, ◌++◌, reverse, Option}
use Rattle.scope.specs.Graph.{unwind_scope, call_scope, return_scope, indexed}
use Rattle.heads.specs.Got.{Got, ok, no, bind, look, word_in, any_word, flag}
use Rattle.heads.specs.Form.{read_form}
use Rattle.heads.specs.declared.Form.{Form}
use Rattle.heads.specs.declared.Form.TheVariants.{Leaf, Var, Unresolved, Prop, Two, Slice, Many, BinOp, UnaryOp, Case, IsNull, PatternPredicate, ListComprehension, PatternComprehension, ListPredicate, MapProjection}
use Rattle.clauses.specs.Tree.{Yield, yield, Opening, match, create, merge}
use Rattle.clauses.specs.Read.{max_depth, alias_of, read_yield}
use Rattle.tables.specs.Row.{value_kind}
use Rattle.semantics.specs.World.{World, hush, opens, Direct, a_var, a_name, other, yield_name, name_of}
use Rattle.semantics.specs.Resolve.{Seen, Pair, enter, leave, standing, bind_name, bind_anew, once, carries, is_all, barrier, fresh, alias_in}
use Rattle.semantics.specs.Kinds.{Setting, general, plain}
use Rattle.fused.specs.Fused.{Both, Mode, unresolving, Go, when, step, rounds, row_go, left, mark_go, pattern_go, expr_go}

-- the two forms of an expression that a WITH may carry, by its head
abbrev pub direct_form : Form → Direct
direct_form (Leaf k) = other
direct_form (Var v) = a_var v
direct_form (Unresolved x) = a_name x
direct_form (Prop x) = other
direct_form (Two k) = other
direct_form (Slice b) = other
direct_form (Many k n) = other
direct_form (BinOp o) = other
direct_form (UnaryOp o) = other
direct_form (Case b n) = other
direct_form IsNull = other
direct_form PatternPredicate = other
direct_form (ListComprehension g) = other
direct_form (PatternComprehension a b g) = other
direct_form (ListPredicate g) = other
direct_form (MapProjection n) = other

abbrev pub direct_of : Got Form → Direct
direct_of (ok f r) = direct_form f
direct_of (no c) = other

-- after a Return its scope is current, and what was visible before it
abbrev pub returned : Mode → Both → Both → Both
returned m s u = record { names = when m.resolves (standing s.names.visible (suc s.names.last)) u.names; kinds = u.kinds; olds = u.olds }

-- in the new Root of a WITH, v, what was visible before it, at s, is seen too
abbrev pub beside : Mode → Both → Both → Both
beside m s v =
    record { names = when m.resolves (standing (v.names.visible ++ s.names.visible) v.names.cur) v.names; kinds = v.kinds; olds = v.olds }

-- the alias of a projection, whatever its expression, behind those there are
abbrev pub aliased : Option ℕ → Direct → List Seen → List ℕ → List ℕ
aliased a d vis xs = xs ++ alias_in a

-- what a WITH takes of its projections: whether one is a star, and the pairs of the others
pub record Taken : Type 0 where
  pub star : Bool
  pub pairs : List Pair

abbrev pub nothing : Taken
nothing = record { star = false; pairs = [] }

abbrev pub takes : World → Option ℕ → Direct → List Seen → Taken → Taken
takes w a d vis q = record { star = q.star || is_all w a d; pairs = q.pairs ++ carries w a d vis }

-- all that it carries, where vis is visible
abbrev pub all_of : Taken → List Seen → List Pair
all_of q vis = cond q.star (reverse (once vis)) [] ++ q.pairs

-- an arm is walked by names alone, from scope 0, with nothing visible
abbrev pub in_arms : Mode → Mode
in_arms m = record { resolves = m.resolves; checks = false }

-- where there are so many names
module _ (w : World) (names : ℕ) where
  abbrev pub within : Mode → Setting → Go
  within = expr_go w names max_depth

  -- projections, each an alias and an expression, and what is kept of them: what a WITH takes, or the aliases of a RETURN
  unfoldable pub projections_go : {A : Type 0} → (keep : Option ℕ → Direct → List Seen → A → A) → Mode → ℕ → A → Both → List ℕ → Got (Both × A)
  projections_go keep m zero q s r = ok (s, q) r
  projections_go keep m (suc n) q s r =
      bind (word_in 0 (suc names) r)
      (λ a r1. bind (within m general s r1)
      (λ u r2. projections_go keep m n (keep (alias_of a) (direct_of (read_form names r1)) u.names.visible q) u r2))

  abbrev pub counted_row : Mode → Go
  counted_row m s r = bind (any_word r) (λ n r2. row_go (within m) n plain s r2)

module _ (w : World) (names : ℕ) where
  -- a count and as many expressions, where these names are no use
  abbrev pub hushed_row : List ℕ → Mode → Go
  hushed_row xs = counted_row (hush xs w) names

  abbrev pub yielded : Mode → ℕ → ℕ → Yield → Both → Both
  yielded m a b (yield x alias v) = step m (bind_anew w a b (indexed (yield_name x alias)) v value_kind) []

  unfoldable pub yield_go : Mode → ℕ → ℕ → Go
  yield_go m a b s r = bind (read_yield names r) (λ y r2. ok (yielded m a b y s) r2)

  -- what follows the kind and the span of a clause
  module _ (m : Mode) (a b : ℕ) where
    unfoldable pub opening_go : Opening → Go
    opening_go o s r = pattern_go w (within w names) m (step m (enter (opens o) a b) [] s) r

    -- a WITH's new Root, where the pairs are bound; its sort keys, if it has them, see what was visible before it too
    abbrev pub rooted_by : List Pair → Both → Both
    rooted_by ps = step m (λ y. fresh w b ps (barrier w a b ps y)) []

    abbrev pub sort_go : Bool → Both → Both → List ℕ → Got Both
    sort_go false s v r = ok v r
    sort_go true s v r = bind (counted_row w names m (beside m s v) r) (λ z r2. ok (left m v z) r2)

    unfoldable pub with_go : Bool → Go
    with_go sorts s r =
        bind (any_word r)
        (λ n r1. bind (projections_go w names (takes w) m n nothing s r1)
        (λ x r2. bind (flag r2) (λ g r3. bind (row_go (within w names m) g plain x.0 r3) (λ u r4. sort_go sorts s (rooted_by (all_of x.1 s.names.visible) u) r4))))

    -- a RETURN's sort keys, if it has them, where its aliases are no use
    abbrev pub keys_go : Bool → List ℕ → Go
    keys_go false xs s r = ok s r
    keys_go true xs s r = hushed_row xs m s r

    unfoldable pub return_go : Bool → Go
    return_go sorts s r =
        bind (any_word r)
        (λ n r1. bind (projections_go w names aliased m n [] (step m (λ y. leave y (enter return_scope a b y)) [] s) r1)
        (λ x r2. bind (keys_go sorts x.1 x.0 r2) (λ u r3. ok (returned m s u) r3)))

    unfoldable pub unwind_go : Go
    unwind_go s r =
        bind (any_word r)
        (λ v r1. within w names (unresolving m) general (step m (λ y. bind_name (name_of w v) v value_kind (enter unwind_scope a b y)) [] s) r1)

    unfoldable pub call_go : Go
    call_go s r =
        bind (counted_row w names (unresolving m) (step m (enter call_scope a b) [] s) r) (λ u r1. bind (any_word r1) (λ n r2. rounds n (yield_go m a b) u r2))

    unfoldable pub marked_go : ℕ → Go
    marked_go kind s r = bind (any_word r) (λ n r1. rounds n (mark_go w (within w names) m kind) s r1)

    unfoldable pub body_go : ℕ → Go
    body_go kind s r =
        look kind
        ((1, bind (flag r) (λ o r1. opening_go (match o) s r1))
        ∷ (2, row_go (within w names m) 1 plain s r)
        ∷ (3, with_go false s r)
        ∷ (4, return_go false s r)
        ∷ (5, unwind_go s r)
        ∷ (6, opening_go create s r)
        ∷ (7, opening_go merge s r)
        ∷ (8, marked_go 1 s r)
        ∷ (9, marked_go 2 s r)
        ∷ (10, counted_row w names m s r)
        ∷ (11, call_go s r)
        ∷ (12, with_go true s r)
        ∷ (13, return_go true s r)
        ∷ [])
        (no 5)

  unfoldable pub clause_go : Mode → Go
  clause_go m s r = bind (any_word r) (λ kind r1. bind (any_word r1) (λ a r2. bind (word_in a 4294967296 r2) (λ b r3. body_go m a b kind s r3)))

  unfoldable pub arm_go : Mode → Go
  arm_go m s r =
      bind (any_word r)
      (λ a r1. bind (word_in a 4294967296 r1)
      (λ b r2. bind (any_word r2) (λ n r3. rounds n (clause_go (in_arms m)) (step (in_arms m) (standing [] 0) [] s) r3)))

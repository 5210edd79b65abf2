-- Clauses and arms read from words (document 01, "Clause"; causes 5 and 6).
use Rattle.std.specs.Prelude.{ℕ, zero, suc, List, [], ◌∷◌, Option, None, Some}
use Rattle.heads.specs.Got.{Got, ok, no, bind, look, word_in, any_word, flag, counted}
use Rattle.expr.specs.Tree.{Exprs}
use Rattle.expr.specs.Read.{Reader, read_expr, times, no_more, marks, pattern}
use Rattle.clauses.specs.Tree.{Projection, projection, Yield, yield, Opening, match, create, merge, Reading, where', set, remove, delete, Keys, unsorted, sorted, Clause, opening, reading, with', return, unwind, call, Arm, arm}

-- "depth 19 is accepted and 20 gets refusal 6"
abbrev pub max_depth : ℕ
max_depth = 19

-- "alias + 1 or 0"
abbrev pub alias_of : ℕ → Option ℕ
alias_of zero = None
alias_of (suc x) = Some x

-- where there are so many names
module _ (names : ℕ) where
  abbrev pub clause_expr : Reader
  clause_expr = read_expr names max_depth

  unfoldable pub read_projection : List ℕ → Got Projection
  read_projection ws = bind (word_in 0 (suc names) ws) (λ a r. bind (clause_expr r) (λ e r2. ok (projection (alias_of a) e) r2))

  unfoldable pub read_yield : List ℕ → Got Yield
  read_yield ws =
      bind (word_in 0 names ws) (λ x r. bind (word_in 0 (suc names) r) (λ a r2. bind (any_word r2) (λ v r3. ok (yield x (alias_of a) v) r3)))

  -- a count, and as many expressions
  unfoldable pub counted_exprs : List ℕ → Got Exprs
  counted_exprs ws = bind (any_word ws) (λ n r. times n clause_expr no_more r)

  -- a count, and as many marks of a kind with their expressions
  unfoldable pub counted_marks : ℕ → List ℕ → Got Exprs
  counted_marks kind ws = bind (any_word ws) (λ n r. marks kind n clause_expr r)

  -- the sort keys of a clause that has none, and of one that has a count of them
  unfoldable pub no_keys : List ℕ → Got Keys
  no_keys ws = ok unsorted ws

  unfoldable pub some_keys : List ℕ → Got Keys
  some_keys ws = bind (counted_exprs ws) (λ es r. ok (sorted es) r)

  -- What follows the kind and the span, a clause kind each; K reads the sort keys.
  module _ (a b : ℕ) where
    unfoldable pub read_match : List ℕ → Got Clause
    read_match ws = bind (flag ws) (λ o r. bind (pattern clause_expr r) (λ s r2. ok (opening (match o) a b s) r2))

    unfoldable pub read_opening : Opening → List ℕ → Got Clause
    read_opening o ws = bind (pattern clause_expr ws) (λ s r. ok (opening o a b s) r)

    unfoldable pub read_where : List ℕ → Got Clause
    read_where ws = bind (times 1 clause_expr no_more ws) (λ es r. ok (reading where' a b es) r)

    unfoldable pub read_with : (List ℕ → Got Keys) → List ℕ → Got Clause
    read_with K ws =
        bind (counted read_projection ws)
        (λ ps r. bind (flag r) (λ g r2. bind (times g clause_expr no_more r2) (λ es r3. bind (K r3) (λ ks r4. ok (with' a b ps es ks) r4))))

    unfoldable pub read_return : (List ℕ → Got Keys) → List ℕ → Got Clause
    read_return K ws = bind (counted read_projection ws) (λ ps r. bind (K r) (λ ks r2. ok (return a b ps ks) r2))

    unfoldable pub read_unwind : List ℕ → Got Clause
    read_unwind ws = bind (any_word ws) (λ v r. bind (clause_expr r) (λ e r2. ok (unwind a b v e) r2))

    unfoldable pub read_marked : Reading → ℕ → List ℕ → Got Clause
    read_marked which kind ws = bind (counted_marks kind ws) (λ es r. ok (reading which a b es) r)

    unfoldable pub read_delete : List ℕ → Got Clause
    read_delete ws = bind (counted_exprs ws) (λ es r. ok (reading delete a b es) r)

    unfoldable pub read_call : List ℕ → Got Clause
    read_call ws = bind (counted_exprs ws) (λ es r. bind (counted read_yield r) (λ ys r2. ok (call a b es ys) r2))

    unfoldable pub read_body : ℕ → List ℕ → Got Clause
    read_body kind ws =
        look kind
        ((1, read_match ws)
        ∷ (2, read_where ws)
        ∷ (3, read_with no_keys ws)
        ∷ (4, read_return no_keys ws)
        ∷ (5, read_unwind ws)
        ∷ (6, read_opening create ws)
        ∷ (7, read_opening merge ws)
        ∷ (8, read_marked set 1 ws)
        ∷ (9, read_marked remove 2 ws)
        ∷ (10, read_delete ws)
        ∷ (11, read_call ws)
        ∷ (12, read_with some_keys ws)
        ∷ (13, read_return some_keys ws)
        ∷ [])
        (no 5)

  -- "Clause: kind, start, end, then"
  unfoldable pub read_clause : List ℕ → Got Clause
  read_clause ws = bind (any_word ws) (λ kind r. bind (any_word r) (λ a r2. bind (word_in a 4294967296 r2) (λ b r3. read_body a b kind r3)))

  -- "Arm: start, end, clause count, clauses"
  unfoldable pub read_arm : List ℕ → Got Arm
  read_arm ws = bind (any_word ws) (λ a r. bind (word_in a 4294967296 r) (λ b r2. bind (counted read_clause r2) (λ cs r3. ok (arm a b cs) r3)))

-- `unfolding clausal` opens all of the above
unfoldable pub clausal : Unit {0}
unfolding read_projection read_yield counted_exprs counted_marks no_keys some_keys read_match read_opening read_where read_with read_return read_unwind read_marked read_delete read_call read_body read_clause read_arm
clausal = tt

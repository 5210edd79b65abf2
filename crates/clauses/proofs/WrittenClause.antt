-- What reads is what is written, and is well-formed: where a reader gives a clause or an arm, the words that it passed are the
-- clause's words, and its names are in the table. The same of many of a kind, by induction on how many.
use Prim.Native.Nat.{ℕ, zero, suc, ◌<◌}
use native.Mathlib.Omega.{arith}
use mathlib.Core.Bool.{Bool, true, false, cond}
use mathlib.Core.Path.{◌≡◌, refl, ap}
use mathlib.Core.List.{List, ◌∷◌, ◌++◌, append_assoc, flat_map}
use lib.Dec.{eqb}
use lib.ListN.{length}
use borrow.Author.Tests.{eqb-true}
use Rattle.heads.specs.Got.{Got, ok, many, counted}
use Rattle.expr.specs.Tree.{Exprs, kid_count, mark_count}
use Rattle.expr.specs.Read.{no_more, times, pattern}
use Rattle.expr.specs.Write.{writes}
use Rattle.expr.specs.Well.{IsWord, IsSpan, Wells}
use Rattle.expr.proofs.Inverse.{Gives, gave, none, so, after, word-gives}
use Rattle.expr.proofs.Written.{IsRow, IsPatterned, expr-gives, row_gives, marks-gives, pattern-gives}
use Rattle.clauses.specs.Tree.{delete, Keys, Clause, Arm}
use Rattle.clauses.specs.Read.{max_depth, alias_of, clause_expr, read_projection, read_yield, counted_exprs, counted_marks, no_keys, some_keys, read_with, read_return, read_body, read_clause, read_arm, clausal}
use Rattle.clauses.specs.Write.{alias_word, write_projection, write_yield, counted_words, opening_code, opening_flag, reading_code, reading_count, key_code, write_keys, write_clause, write_arm}
use Rattle.clauses.specs.Well.{Each, WellAlias, WellProjection, WellYield, WellOpening, WellReading, WellMany, WellKeys, WellClause, WellArm}

-- what is read from ws before r is x, written there and well-formed
abbrev pub Is : {A : Type 0} → (A → List ℕ) → (A → Type 0) → List ℕ → A → List ℕ → Type 0
Is write Well ws x r = (ws ≡ write x ++ r) × Well x

abbrev pub IsMany : {A : Type 0} → (A → List ℕ) → (A → Type 0) → ℕ → List ℕ → List A → List ℕ → Type 0
IsMany write Well n ws xs r = (ws ≡ flat_map write xs ++ r) × Each Well xs × (length xs ≡ n)

module _ {A : Type 0} {one : List ℕ → Got A} (write : A → List ℕ) (Well : A → Type 0)
    (reads : (ws : List ℕ) → Gives (one ws) (Is write Well ws)) where
  pub many-gives : (n : ℕ) (ws : List ℕ) → Gives (many one n ws) (IsMany write Well n ws)
  unfolding many flat_map Each
  many-gives zero ws = gave (refl, tt, refl)
  many-gives (suc n) ws =
      after (reads ws)
      (λ x r p. after (many-gives n r) (λ xs s q. gave (cc (append_assoc (write x) (flat_map write xs) s), (p.1, q.1), ap suc q.2)))

  pub counted-gives : (ws : List ℕ) → Gives (counted one ws) (Is (counted_words write) (WellMany Well) ws)
  unfolding counted counted_words WellMany
  counted-gives ws = after (word-gives 0 4294967296 ws) (λ n r p. so (many-gives n r) (λ xs s q. (cc, (omega (arith, q.2), q.1))))

pub many-written : {A : Type 0} {one : List ℕ → Got A} (write : A → List ℕ) (Well : A → Type 0) →
    ((ws : List ℕ) (x : A) (r : List ℕ) → one ws ≡ ok x r → (ws ≡ write x ++ r) × Well x) →
    (n : ℕ) (ws : List ℕ) (xs : List A) (r : List ℕ) → many one n ws ≡ ok xs r → (ws ≡ flat_map write xs ++ r) × Each Well xs × (length xs ≡ n)
many-written write Well reads n ws xs r e = (many-gives write Well (λ ws. record { given = reads ws }) n ws).given xs r e

-- marks of a kind that a count stands before
abbrev WellMarks : ℕ → ℕ → Exprs → Type 0
WellMarks names kind es = (kid_count es ≡ 0) × IsWord (mark_count es) × Wells names kind es max_depth

-- an entry of a table of readers, or the rest of the table
entry : {A : Type 0} {g h : Got A} {Q : A → List ℕ → Type 0} (k j : ℕ) → (k ≡ j → Gives g Q) → Gives h Q → Gives (cond (eqb k j) g h) Q
entry {A} {g} {h} {Q} k j p q = go (eqb k j) (eqb-true k j)
  where
    go : (b : Bool) → (b ≡ true → k ≡ j) → Gives (cond b g h) Q
    go true e = p (e refl)
    go false e = q

alias-word : (a : ℕ) → alias_word (alias_of a) ≡ a
alias-word zero = refl
alias-word (suc x) = refl

alias-well : (names a : ℕ) → a < suc names → WellAlias names (alias_of a)
unfolding WellAlias
alias-well names zero h = tt
alias-well names (suc x) h = omega arith

module _ (names : ℕ) where
  projection-gives : (ws : List ℕ) → Gives (read_projection names ws) (Is write_projection (WellProjection names) ws)
  unfolding read_projection write_projection WellProjection
  projection-gives ws =
      after (word-gives 0 (suc names) ws)
      (λ a r p. after (expr-gives names max_depth r) (λ e s q. gave (cc (alias-word a), (alias-well names a p.2, q.1))))

  projections : (ws : List ℕ) → Gives (counted (read_projection names) ws) (Is (counted_words write_projection) (WellMany (WellProjection names)) ws)
  projections = counted-gives write_projection (WellProjection names) projection-gives

  yield-gives : (ws : List ℕ) → Gives (read_yield names ws) (Is write_yield (WellYield names) ws)
  unfolding read_yield write_yield WellYield
  yield-gives ws =
      after (word-gives 0 names ws)
      (λ x r p. after (word-gives 0 (suc names) r)
      (λ a s q. after (word-gives 0 4294967296 s) (λ v t h. gave (cc (alias-word a), (p.2, alias-well names a q.2, h.2)))))

  steps : (ws : List ℕ) → Gives (pattern (clause_expr names) ws) (IsPatterned names max_depth ws)
  steps = pattern-gives names max_depth (clause_expr names) (expr-gives names max_depth)

  row : (n : ℕ) (ws : List ℕ) → Gives (times n (clause_expr names) no_more ws) (IsRow names max_depth 0 n 0 ws)
  row = row_gives names max_depth (clause_expr names) (expr-gives names max_depth)

  exprs-gives : (ws : List ℕ) → Gives (counted_exprs names ws) (Is (λ es. kid_count es ∷ writes es) (WellReading names delete) ws)
  unfolding counted_exprs WellReading
  exprs-gives ws = after (word-gives 0 4294967296 ws) (λ n r p. so (row n r) (λ es s q. (cc, (q.marked, omega (arith, q.kids), q.well))))

  marked-gives : (kind : ℕ) (ws : List ℕ) → Gives (counted_marks names kind ws) (Is (λ es. mark_count es ∷ writes es) (WellMarks names kind) ws)
  unfolding counted_marks
  marked-gives kind ws =
      after (word-gives 0 4294967296 ws)
      (λ n r p. so (marks-gives names max_depth (clause_expr names) (expr-gives names max_depth) kind n r) (λ es s q. (cc, (q.kids, omega (arith, q.marked), q.well))))

  -- sort keys, none or a count of them: `which` picks the clause's kind
  abbrev IsKeys : (ℕ → ℕ → ℕ) → List ℕ → Keys → List ℕ → Type 0
  IsKeys which ws ks r = (ws ≡ write_keys ks ++ r) × WellKeys names ks × ((c d : ℕ) → key_code c d ks ≡ which c d)

  no_keys_lem : (ws : List ℕ) → Gives (no_keys names ws) (IsKeys (λ c d. c) ws)
  unfolding no_keys write_keys WellKeys key_code
  no_keys_lem ws = gave (refl, tt, λ c d. refl)

  some-keys : (ws : List ℕ) → Gives (some_keys names ws) (IsKeys (λ c d. d) ws)
  unfolding some_keys write_keys WellKeys key_code
  some-keys ws = after (exprs-gives ws) (λ es r q. gave (q.0, q.1, λ c d. refl))

  module _ (K : List ℕ → Got Keys) (which : ℕ → ℕ → ℕ) (keys-give : (ws : List ℕ) → Gives (K ws) (IsKeys which ws)) (a b kind : ℕ) (ws : List ℕ) (h : IsSpan a b) where
    with-gives : kind ≡ which 3 12 → Gives (read_with names a b K ws) (Is write_clause (WellClause names) (kind ∷ a ∷ b ∷ ws))
    unfolding read_with write_clause WellClause
    with-gives k =
        after (projections ws)
        (λ ps r p. after (word-gives 0 2 r)
        (λ g s i. after (row g s)
        (λ es t q. after (keys-give t)
        (λ ks u j. gave (simp append_assoc (let e = j.2 3 12 in cc), (h, p.1, omega (arith, q.kids), q.marked, q.well, j.1))))))

    return-gives : kind ≡ which 4 13 → Gives (read_return names a b K ws) (Is write_clause (WellClause names) (kind ∷ a ∷ b ∷ ws))
    unfolding read_return write_clause WellClause
    return-gives k =
        after (projections ws)
        (λ ps r p. after (keys-give r) (λ ks u j. gave (simp append_assoc (let e = j.2 4 13 in cc), (h, p.1, j.1))))

  body-gives : (a b kind : ℕ) (ws : List ℕ) → IsSpan a b → Gives (read_body names a b kind ws) (Is write_clause (WellClause names) (kind ∷ a ∷ b ∷ ws))
  unfolding clausal write_clause opening_code opening_flag reading_code reading_count WellClause WellOpening WellReading
  body-gives a b kind ws h =
      entry kind 1 (λ k. after (word-gives 0 2 ws) (λ o r p. after (steps r) (λ s t q. gave (cc, (h, p.2, q.1)))))  -- Match
      (entry kind 2 (λ k. after (row 1 ws) (λ es r q. gave (cc, (h, (q.kids, q.marked, q.well)))))  -- Where
      (entry kind 3 (with-gives (no_keys names) (λ c d. c) no_keys_lem a b kind ws h)  -- With
      (entry kind 4 (return-gives (no_keys names) (λ c d. c) no_keys_lem a b kind ws h)  -- Return
      (entry kind 5  -- Unwind
      (λ k. after (word-gives 0 4294967296 ws)
      (λ v r p. after (expr-gives names max_depth r) (λ e s q. gave (cc, (h, p.2, q.1)))))
      (entry kind 6 (λ k. after (steps ws) (λ s r q. gave (cc, (h, tt, q.1))))  -- Create
      (entry kind 7 (λ k. after (steps ws) (λ s r q. gave (cc, (h, tt, q.1))))  -- Merge
      (entry kind 8 (λ k. after (marked-gives 1 ws) (λ es r q. gave (cc, (h, q.1))))  -- Set
      (entry kind 9 (λ k. after (marked-gives 2 ws) (λ es r q. gave (cc, (h, q.1))))  -- Remove
      (entry kind 10 (λ k. after (exprs-gives ws) (λ es r q. gave (cc, (h, q.1))))  -- Delete
      (entry kind 11  -- Call
      (λ k. after (exprs-gives ws)
      (λ es r p. after (counted-gives write_yield (WellYield names) yield-gives r) (λ ys s q. gave (simp append_assoc (cc), (h, p.1, q.1)))))
      (entry kind 12 (with-gives (some_keys names) (λ c d. d) some-keys a b kind ws h)  -- With, sorted
      (entry kind 13 (return-gives (some_keys names) (λ c d. d) some-keys a b kind ws h)  -- Return, sorted
      none))))))))))))

  pub clause-gives : (ws : List ℕ) → Gives (read_clause names ws) (Is write_clause (WellClause names) ws)
  unfolding read_clause
  clause-gives ws =
      after (word-gives 0 4294967296 ws)
      (λ kind r p. after (word-gives 0 4294967296 r)
      (λ a s q. after (word-gives a 4294967296 s) (λ b t h. let e : ws ≡ kind ∷ a ∷ b ∷ t = cc in rw e (body-gives a b kind t (h.1, h.2)))))

  pub arm-gives : (ws : List ℕ) → Gives (read_arm names ws) (Is write_arm (WellArm names) ws)
  unfolding read_arm write_arm WellArm
  arm-gives ws =
      after (word-gives 0 4294967296 ws)
      (λ a r p. after (word-gives a 4294967296 r)
      (λ b s h. after (counted-gives write_clause (WellClause names) clause-gives s) (λ cs t q. gave (cc, ((h.1, h.2), q.1)))))

  pub clause-written : (ws : List ℕ) (c : Clause) (r : List ℕ) → read_clause names ws ≡ ok c r → (ws ≡ write_clause c ++ r) × WellClause names c
  clause-written ws = (clause-gives ws).given

  pub arm_written : (ws : List ℕ) (a : Arm) (r : List ℕ) → read_arm names ws ≡ ok a r → (ws ≡ write_arm a ++ r) × WellArm names a
  arm_written ws = (arm-gives ws).given

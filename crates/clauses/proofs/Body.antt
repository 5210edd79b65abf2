-- What follows the kind and the span of a clause: which words it is does not go by the span, and no words are right after a code that no
-- kind has.
use Prim.Native.Nat.{ℕ}
use Rattle.std.proofs.Common.{Err, ◌≤◌, length, drop, arith}
use Rattle.refusal.specs.Number.{number_of}
use Rattle.refusal.specs.declared.Refusal.{Refusal}
use mathlib.Core.Path.{◌≡◌, refl, sym}
use mathlib.Core.Bool.{Bool, true, false, cond}
use mathlib.Core.List.{List}
use Rattle.heads.specs.Got.{Got, ok, no, bind, bare, any_word, flag, counted}
use Rattle.heads.specs.Answer.{Ans}
use Rattle.heads.proofs.Shapes.{bare-map}
use Rattle.expr.specs.Read.{no_more, times, pattern, maybe_pattern}
use Rattle.clauses.specs.Tree.{Opening, Reading, where', delete, Keys, unsorted, opening, reading, return}
use Rattle.clauses.specs.Kind.{code_of, Decodes}
use Rattle.clauses.specs.declared.kind.ClauseKind.{ClauseKind}
use Rattle.clauses.specs.declared.kind.ClauseKind.TheVariants.{Match, Where, With, Return, Unwind, Create, Merge, Set, Remove, Delete, Call, SortedWith, SortedReturn}
use lib.Dec.{eqb}
use borrow.Author.Tests.{ne_eqb}
use Rattle.clauses.specs.Read.{clause_expr, read_projection, read_yield, counted_exprs, counted_marks, no_keys, some_keys, read_match, read_opening, read_where, read_with, read_return, read_unwind, read_marked, read_delete, read_call, read_body}

bare-both : {A : Type 0} (b : Bool) (x y : Got A) → bare (cond b x y) ≡ cond b (bare x) (bare y)
bare-both true x y = refl
bare-both false x y = refl

bare-same : {A B : Type 0} (g : Got A) (k l : A → List ℕ → Got B) → ((x : A) (r : List ℕ) → bare (k x r) ≡ bare (l x r)) → bare (bind g k) ≡ bare (bind g l)
bare-same (ok x r) k l e = e x r
bare-same (no c) k l e = refl

module _ (names a b : ℕ) (ws : List ℕ) where
  opening-bare : (o : Opening) → bare (read_opening names a b o ws) ≡ bare (maybe_pattern true (clause_expr names) ws)
  unfolding read_opening maybe_pattern
  opening-bare o = bare-map (pattern (clause_expr names) ws) (λ s. opening o a b s)

  where-bare : bare (read_where names a b ws) ≡ bare (times 1 (clause_expr names) no_more ws)
  unfolding read_where
  where-bare = bare-map (times 1 (clause_expr names) no_more ws) (λ es. reading where' a b es)

  return-bare : bare (read_return names a b (no_keys names) ws) ≡ bare (counted (read_projection names) ws)
  unfolding read_return no_keys
  return-bare = bare-map (counted (read_projection names) ws) (λ ps. return a b ps unsorted)

  marked-bare : (which : Reading) (kind : ℕ) → bare (read_marked names a b which kind ws) ≡ bare (counted_marks names kind ws)
  unfolding read_marked
  marked-bare which kind = bare-map (counted_marks names kind ws) (λ es. reading which a b es)

  delete-bare : bare (read_delete names a b ws) ≡ bare (counted_exprs names ws)
  unfolding read_delete
  delete-bare = bare-map (counted_exprs names ws) (λ es. reading delete a b es)

  match-bare : bare (read_match names a b ws) ≡ bare (read_match names 0 0 ws)
  unfolding read_match
  match-bare = bare-same (flag ws) _ _ (λ o r. bare-same (pattern (clause_expr names) r) _ _ (λ s r2. refl))

  with-bare : (K : List ℕ → Got Keys) → bare (read_with names a b K ws) ≡ bare (read_with names 0 0 K ws)
  unfolding read_with
  with-bare K =
      bare-same (counted (read_projection names) ws) _ _
      (λ ps r. bare-same (flag r) _ _ (λ g r2. bare-same (times g (clause_expr names) no_more r2) _ _ (λ es r3. bare-same (K r3) _ _ (λ ks r4. refl))))

  sorted-bare : bare (read_return names a b (some_keys names) ws) ≡ bare (read_return names 0 0 (some_keys names) ws)
  unfolding read_return
  sorted-bare = bare-same (counted (read_projection names) ws) _ _ (λ ps r. bare-same (some_keys names r) _ _ (λ ks r2. refl))

  unwind-bare : bare (read_unwind names a b ws) ≡ bare (read_unwind names 0 0 ws)
  unfolding read_unwind
  unwind-bare = bare-same (any_word ws) _ _ (λ v r. bare-same (clause_expr names r) _ _ (λ e r2. refl))

  call-bare : bare (read_call names a b ws) ≡ bare (read_call names 0 0 ws)
  unfolding read_call
  call-bare = bare-same (counted_exprs names ws) _ _ (λ es r. bare-same (counted (read_yield names) r) _ _ (λ ys r2. refl))

pub body-bare : (names a b : ℕ) (ws : List ℕ) (kind : ℕ) → bare (read_body names a b kind ws) ≡ bare (read_body names 0 0 kind ws)
unfolding read_body
body-bare names a b ws kind =
    simp (bare-both, opening-bare, where-bare, return-bare, marked-bare, delete-bare, match-bare names a b ws, with-bare names a b ws, sorted-bare names a b ws, unwind-bare names a b ws, call-bare names a b ws)

-- a code that no kind has
pub no-kind : (names a b code : ℕ) (e : Refusal) {ws : List ℕ} {at : ℕ} → at ≤ length ws → Decodes code (Err e) → Ans ws at (bare (read_body names a b code (drop at ws))) (no (number_of e)) at
unfolding read_body
no-kind names a b code e l h =
    let other : (k : ClauseKind) → eqb code (code_of k) ≡ false = λ k. ne_eqb _ _ (λ x. h.1 k (sym x)) in
    record {
      same = simp (h.0, other Match, other Where, other With, other Return, other Unwind, other Create, other Merge, other Set, other Remove, other Delete, other Call, other SortedWith, other SortedReturn);
      from = omega arith;
      within = l;
    }

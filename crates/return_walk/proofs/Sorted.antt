-- Projections of a RETURN whose aliases are held (`Sorting`: k of them, of n projections i were walked), and then its sort keys. It begins with
-- none held (`none_held`); a turn reads an alias, holds it and walks an expression (`expr-ready`, `turned`), or one of these is refused
-- (`no-alias`, `fell-expr`); at the end the sort keys are left (`ended`).
use Rattle.std.specs.Prelude.{Some, Result, Ok, Err}
use Rattle.std.specs.Result.{IsErr, IsErrAnd}
use Prim.Native.Nat.{ℕ, zero, suc, ◌+◌, ◌-◌, ◌<◌, ◌≤◌}
use native.Mathlib.Omega.{arith}
use native.Mathlib.Numerals.{add-one}
use mathlib.Core.Path.{◌≡◌, refl, ap, ◌∙◌}
use mathlib.Core.List.{List, [], ◌++◌}
use lib.ListN.{length}
use Rattle.refusal.specs.declared.Refusal.{Refusal}
use Rattle.heads.specs.Got.{Got, ok, no, bind, word_in}
use Rattle.heads.proofs.Chain.{Chain, step, last, run}
use Rattle.clauses.specs.Read.{max_depth, alias_of}
use Rattle.semantics.specs.Resolve.{alias_in}
use Rattle.semantics.specs.Kinds.{general}
use Rattle.fused.specs.Fused.{Both, Mode}
use Rattle.fused.specs.Clauses.{within, aliased, projections_go}
use Rattle.steps.specs.Memory.{names_in, world_at}
use Rattle.steps.specs.Hold.{Ready}
use Rattle.steps.specs.declared.Walk.{Walk}
use Rattle.steps.specs.declared.context.Context.{Context}
use Rattle.walk.specs.Goes.{Walked, expr_at}
use Rattle.walk.proofs.Stage.{Rest, Stage, start, ready, recast, fewer, go, fell}
use Rattle.clause_parts.specs.Passes.{Next}
use Rattle.clause_parts.proofs.Passing.{past, no_word, in_range}
use Rattle.return_walk.specs.Returns.{aliases_in, AllNamed, HeldAlias, hushed_at, keyed_at}

module _ (c : Context) (mode : Mode) where
  -- the sort keys, where these names are no use
  abbrev finish : (ℕ → ℕ) → Both × List ℕ → Chain Both
  finish id x = last (hushed_at c mode x.1 id x.0)

  -- projections, with the aliases so far, and the sort keys
  abbrev pub Remaining : ℕ → List ℕ → Rest
  Remaining left xs id s t = step (projections_go (world_at c id) (names_in c) aliased mode left xs t) (finish id)

  -- the same with a projection more before them
  abbrev pub OneMore : ℕ → List ℕ → Rest
  OneMore left xs id s t =
      step (word_in 0 (names_in c + 1))
      (λ a. step (within (world_at c id) (names_in c) mode general t) (λ u. Remaining left (xs ++ alias_in (alias_of a)) id s u))

  unroll : (left k : ℕ) (xs : List ℕ) (id : ℕ → ℕ) (s t : Both) (r : List ℕ) → left ≡ suc k → run (Remaining left xs id s t) r ≡ run (OneMore k xs id s t) r
  unfolding projections_go
  unroll left k xs id s t r l =
      ap (λ (n : ℕ). run (Remaining n xs id s t) r) l ∙ rw (add-one (names_in c)) (alias (word_in 0 (suc (names_in c)) r))
    where
      P : ℕ → Both → List ℕ → Got (Both × List ℕ)
      P a u r2 = projections_go (world_at c id) (names_in c) aliased mode k (xs ++ alias_in (alias_of a)) u r2

      F : Both × List ℕ → List ℕ → Got Both
      F x r2 = hushed_at c mode x.1 id x.0 r2

      expr : (a : ℕ) (g : Got Both) → bind (bind g (λ u r2. P a u r2)) F ≡ bind g (λ u r2. bind (P a u r2) F)
      expr a (ok u r2) = refl
      expr a (no e) = refl

      alias : (g : Got ℕ) → bind (bind g (λ a r1. bind (within (world_at c id) (names_in c) mode general t r1) (λ u r2. P a u r2))) F
          ≡ bind g (λ a r1. bind (within (world_at c id) (names_in c) mode general t r1) (λ u r2. bind (P a u r2) F))
      alias (ok a r1) = expr a (within (world_at c id) (names_in c) mode general t r1)
      alias (no e) = refl

pub record Sorting (c : Context) (w₀ : Walk) (held₀ : List ℕ) (mode : Mode) (n : ℕ) (w : Walk) (held : List ℕ) (k i : ℕ) : Type 0 where
  pub stage : Stage (Some max_depth) 0 c w₀ (keyed_at c mode n) 0 w (Remaining c mode (n - i) (aliases_in k held))
  pub few : k ≤ w.at
  pub named : AllNamed (names_in c) k held
  pub kept : length held ≡ length held₀

pub none_held : {c : Context} {w : Walk} {held : List ℕ} {mode : Mode} {n : ℕ} → Ready 0 c w → Sorting c w held mode n w held 0 0
unfolding aliases_in
none_held {c} {mode = mode} {n} h =
    let z : n ≡ n - 0 = omega arith in
    record {
      stage = start (Remaining c mode (n - 0) []) h (λ id s r. ap (λ (k : ℕ). run (Remaining c mode k [] id s s) r) z);
      few = omega arith;
      named = record { named = λ j l. absurd (omega arith) };
      kept = refl;
    }

-- the alias of a word within the names
alias-in : {names : ℕ} (a : ℕ) → a < names + 1 → (x : ℕ) → alias_of a ≡ Some x → x < names
alias-in zero h x q = cc
alias-in (suc a) h x q = let z : a ≡ x = cc in omega arith

module _ {c : Context} {w₀ : Walk} {held₀ : List ℕ} {mode : Mode} {n : ℕ} {w : Walk} {held : List ℕ} {k i : ℕ} (o : Sorting c w₀ held₀ mode n w held k i) where
  -- none is left: the sort keys are
  pub ended : n ≤ i → Stage (Some max_depth) 0 c w₀ (keyed_at c mode n) 0 w (λ id s t. last (hushed_at c mode (aliases_in k held) id t))
  unfolding projections_go
  ended h =
      let z : n - i ≡ 0 = omega arith in
      recast (λ id s t. last (hushed_at c mode (aliases_in k held) id t)) o.stage (λ id s t r. ap (λ (l : ℕ). run (Remaining c mode l (aliases_in k held) id s t) r) z)

  module _ (h : i < n) where
    unrolled : Stage (Some max_depth) 0 c w₀ (keyed_at c mode n) 0 w (OneMore c mode (n - (i + 1)) (aliases_in k held))
    unrolled =
        let z : n - i ≡ suc (n - (i + 1)) = omega arith in
        recast (OneMore c mode (n - (i + 1)) (aliases_in k held)) o.stage (λ id s t r. unroll c mode (n - i) (n - (i + 1)) (aliases_in k held) id s t r z)

    pub no-alias : {w1 : Walk} {e : Refusal} (r : Result (Unit {0}) Refusal) → Next c 0 (names_in c + 1) w w1 (Err e) → IsErr r × IsErrAnd r (λ y. y ≡ e) → Walked max_depth c w₀ w1 (keyed_at c mode n) r
    no-alias r x q = no_word r unrolled x q

    module _ {w1 : Walk} {a : ℕ} (x : Next c 0 (names_in c + 1) w w1 (Ok a)) where
      alias-stage : Stage (Some max_depth) 0 c w₀ (keyed_at c mode n) 1 w1
          (λ id s t. step (within (world_at c id) (names_in c) mode general t) (λ u. Remaining c mode (n - (i + 1)) (aliases_in k held ++ alias_in (alias_of a)) id s u))
      alias-stage = past unrolled x

      pub expr-ready : Ready 0 c w₀ → Ready 0 c w1
      expr-ready g = ready (omega arith) g alias-stage

      alias-at : w1.at ≡ w.at + 1
      alias-at = ap (λ (v : Walk). v.at) x.now

      module _ {w' : Walk} where
        pub fell-expr : {e : Refusal} (r : Result (Unit {0}) Refusal) → Walked max_depth c w1 w' (expr_at c max_depth mode general) (Err e) → IsErr r × IsErrAnd r (λ y. y ≡ e) → Walked max_depth c w₀ w' (keyed_at c mode n) r
        fell-expr r y q = fell r alias-stage y q

        pub turned : {held' : List ℕ} {k' : ℕ} {u : Unit {0}} → HeldAlias k (alias_of a) held held' k' → Walked max_depth c w1 w' (expr_at c max_depth mode general) (Ok u) → Sorting c w₀ held₀ mode n w' held' k' (i + 1)
        turned d y =
            record {
              stage = rw d.same (fewer 0 (omega arith) (go alias-stage y (omega arith)));
              few = omega (arith, d.more, o.few, alias-at, y.goes.from);
              named = d.named (names_in c) o.named (alias-in a (in_range x).1);
              kept = d.kept ∙ o.kept;
            }

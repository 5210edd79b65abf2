-- The body of a clause by its kind (`body_is`), and none where no kind has its code (`no-kind`); with more words before it (`more`).
use Rattle.std.specs.Prelude.{None, Result, Ok, Err}
use Prim.Native.Nat.{ℕ, ◌≤◌}
use native.Mathlib.Omega.{arith}
use mathlib.Core.Path.{◌≡◌, sym}
use mathlib.Core.Bool.{false}
use lib.Dec.{eqb}
use borrow.Author.Tests.{ne_eqb}
use Rattle.refusal.specs.declared.Refusal.{Refusal}
use Rattle.heads.proofs.Chain.{last}
use Rattle.clauses.specs.Kind.{code_of, Decodes}
use Rattle.clauses.specs.declared.kind.ClauseKind.{ClauseKind}
use Rattle.clauses.specs.declared.kind.ClauseKind.TheVariants.{Match, Where, With, Return, Unwind, Create, Merge, Set, Remove, Delete, Call, SortedWith, SortedReturn}
use Rattle.fused.specs.Fused.{Mode}
use Rattle.fused.specs.Clauses.{body_go}
use Rattle.steps.specs.declared.Walk.{Walk}
use Rattle.steps.specs.declared.context.Context.{Context}
use Rattle.steps.proofs.Held.{lower}
use Rattle.walk.specs.Goes.{Goer, Refuses}
use Rattle.walk.proofs.Stage.{Stage}
use Rattle.clause_parts.specs.Passes.{Passes}
use Rattle.clause_walk.specs.Clauses.{body_at}

pub more : {i j : ℕ} {c : Context} {w w' : Walk} {G : Goer} (r : Result (Unit {0}) Refusal) → i ≤ j → Passes i c w w' G r → Passes j c w w' G r
more (Ok u) l x =
    let y = x.passes in
    record { still = x.still; passes = record { from = y.from; fit = λ k f. y.fit k (lower (omega arith) (omega arith) (omega arith) f); goes = y.goes } }
more (Err e) l x = record { still = x.still; passes = x.passes }

module _ {c : Context} {w : Walk} (m : Mode) (a b : ℕ) where
  pub body_is : {w' : Walk} {kind : ClauseKind} {r : Result (Unit {0}) Refusal} (k : ClauseKind) → kind ≡ k → Passes 3 c w w' (body_at c m a b (code_of k)) r → Passes 3 c w w' (body_at c m a b (code_of kind)) r
  body_is k e x = rw e x

-- no body is right after a code that no kind has
pub no-kind : {c : Context} {w w1 : Walk} {G : Goer} {j free : ℕ} {e : Refusal} (m : Mode) (a b code : ℕ) → Stage None j c w G free w1 (λ id u v. last (body_at c m a b code id v)) → Decodes code (Err e) → Refuses c w G e
unfolding body_go
no-kind m a b code o h =
    let other : (k : ClauseKind) → eqb code (code_of k) ≡ false = λ k. ne_eqb _ _ (λ x. h.1 k (sym x)) in
    record {
      same = λ id s g. rw (o.on id s g).same (simp (h.0, other Match, other Where, other With, other Return, other Unwind, other Create, other Merge, other Set, other Remove, other Delete, other Call, other SortedWith, other SortedReturn));
    }

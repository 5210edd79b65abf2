-- What the walk of a clause carries, where names are resolved (`walked-carries`): it is reading and then the definition's clause.
use Prim.Native.Nat.{ℕ}
use mathlib.Core.Path.{◌≡◌, sym, ◌∙◌, subst}
use mathlib.Core.Bool.{Bool, true, false}
use mathlib.Core.List.{List}
use Rattle.heads.specs.Got.{Got, ok, no, bind}
use Rattle.clauses.specs.Tree.{Clause}
use Rattle.clauses.specs.Read.{read_clause}
use Rattle.semantics.specs.World.{World}
use Rattle.semantics.specs.Resolve.{State, clause}
use Rattle.fused.specs.Fused.{Both, Mode, when}
use Rattle.fused.proofs.ApartClauses.{walks, apart-clause}
use Rattle.expr.proofs.Inverse.{never}
use Rattle.steps.specs.Memory.{names_in, world_at}
use Rattle.steps.specs.declared.context.Context.{Context}
use Rattle.clause_walk.specs.Clauses.{clause_at}
use Rattle.arm_walk.proofs.Carrying.{Carrying, clause-carries}

resolved : (w : World) (b : Bool) (k : Clause) (s : State) → b ≡ true → Carrying s (when b (clause w k) s)
resolved w true k s q = clause-carries w k s
resolved w false k s q = never (cc)

pub walked-carries : (c : Context) (m : Mode) (id : ℕ → ℕ) (s t : Both) (r rest : List ℕ) → m.resolves ≡ true → clause_at c m id s r ≡ ok t rest → Carrying s.names t.names
walked-carries c m id s t r rest q e = go (read_clause (names_in c) r) (sym (apart-clause w (names_in c) m s r) ∙ e)
  where
    w : World
    w = world_at c id

    go : (g : Got Clause) → bind g (λ k r2. ok (walks w m k s) r2) ≡ ok t rest → Carrying s.names t.names
    go (ok k r2) e =
        let z : walks w m k s ≡ t = cc in
        subst (λ (u : Both). Carrying s.names u.names) z (resolved w m.resolves k s.names q)
    go (no n) e = never (cc)

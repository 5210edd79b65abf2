-- An arm takes what its clauses take (`arm-takes`): the words that it reads first say nothing (`Moved`), and with nothing visible the log stays.
use Rattle.std.specs.Prelude.{Ok}
use Prim.Native.Nat.{ℕ}
use mathlib.Core.Path.{◌≡◌}
use mathlib.Core.List.{List, []}
use Rattle.heads.specs.Got.{ok, word_in}
use Rattle.semantics.specs.Resolve.{standing}
use Rattle.fused.specs.Fused.{Both}
use Rattle.fused.specs.Clauses.{arm_go}
use Rattle.visible.specs.Visible.{seens}
use Rattle.steps.specs.Named.{as_named}
use Rattle.steps.specs.Hold.{Holds, Left, on_names}
use Rattle.steps.specs.declared.Walk.{Walk}
use Rattle.steps.specs.declared.context.Context.{Context}
use Rattle.walk.specs.Goes.{rest_in}
use Rattle.walk.proofs.Stage.{placed-holds}
use Rattle.clause_parts.specs.Passes.{Next}
use Rattle.clause_parts.proofs.Cleared.{cut_holds, cut_at}
use Rattle.clause_walk.specs.Clauses.{names_alone}
use Rattle.arm_walk.specs.Clauses.{both_walks, clauses_at, arm_at}
use Rattle.arm_walk.specs.Taking.{Takes}

-- a word x was read
record Moved (c : Context) (lo hi : ℕ) (w w' : Walk) (x : ℕ) : Type 0 where
  got : word_in lo hi (rest_in c w) ≡ ok x (rest_in c w')
  holds : {id : ℕ → ℕ} {s : Both} → Holds id c w s → Holds id c w' s

moved : {c : Context} {lo hi : ℕ} {w w' : Walk} {x : ℕ} → Next c lo hi w w' (Ok x) → Moved c lo hi w w' x
moved n = rw n.now (record { got = n.got.same; holds = λ h. placed-holds h })

pub arm-takes : {c : Context} {w w1 w2 w3 w4 : Walk} {out new : List ℕ} {a b n : ℕ} → Next c 0 4294967296 w w1 (Ok a) → Next c a 4294967296 w1 w2 (Ok b) → Next c 0 4294967296 w2 w3 (Ok n) →
    Left w3 w4 0 0 → Takes c w4 out new (clauses_at c names_alone n) → Takes c w out new (arm_at c both_walks)
unfolding arm_go seens as_named
arm-takes n1 n2 n3 l x =
    let p1 = moved n1 in
    let p2 = moved n2 in
    let p3 = moved n3 in
    record {
      kept = x.kept;
      takes = λ id s t rest old h e y. x.takes id (on_names (standing [] 0) s) t rest old (cut_holds l (p3.holds (p2.holds (p1.holds h)))) (rw (cut_at l) (rw (p1.got, p2.got, p3.got) at e)) y;
    }

-- A walk in a Context where aliases are marked is one in the Context itself in which they are no use (`hushed-walk`).
use Rattle.std.proofs.Common.{Bor}
use Rattle.std.specs.Prelude.{Result, Ok, Err}
use Prim.Native.Nat.{ℕ}
use mathlib.Core.Path.{◌≡◌, ap, sym, ◌∙◌}
use mathlib.Core.List.{List}
use Rattle.refusal.specs.declared.Refusal.{Refusal}
use Rattle.clauses.specs.Read.{max_depth}
use Rattle.semantics.specs.World.{World}
use Rattle.fused.specs.Fused.{Both, Mode, Go}
use Rattle.fused.specs.Clauses.{counted_row}
use Rattle.steps.specs.Memory.{names_in}
use Rattle.steps.specs.Hold.{Fits, Holds}
use Rattle.steps.specs.declared.Walk.{Walk}
use Rattle.steps.specs.declared.context.Context.{Context}
use Rattle.walk.specs.Goes.{Walked, rest_in}
use Rattle.clause_parts.specs.Passes.{Clear, counted_at}
use Rattle.return_walk.specs.Returns.{aliases_in, Marked, hushed_at}
use Rattle.return_walk.proofs.Marking.{hushing, hushed-world}

-- what is hushed says nothing of where a walk stands; and `c` hushed by its own marks is `c`
module _ {c : Context} (h : Bor (List ℕ)) where
  fits_on : {e t u : ℕ} {w : Walk} → Fits e t u c w → Fits e t u (hushing c h) w
  fits_on f =
      record {
        listed = f.listed;
        heads = f.heads;
        numbered = f.numbered;
        right = f.right;
        below = f.below;
        sound = f.sound;
        descends = f.descends;
        cur = f.cur;
        last = f.last;
        count = f.count;
        stack = f.stack;
        rowless = f.rowless;
        olds = f.olds;
        needs = f.needs;
        within = f.within;
        names = f.names;
        binders = f.binders;
        room = f.room;
      }

  holds_on : {id : ℕ → ℕ} {w : Walk} {s : Both} → Holds id c w s → Holds id (hushing c h) w s
  holds_on j = record { visible = j.visible; cur = j.cur; last = j.last; log = j.log; kinds = j.kinds; olds = j.olds; counts = j.counts; uses = j.uses }

module _ {c : Context} (h : Bor (List ℕ)) {k : ℕ} {held marks : List ℕ} (clear : Clear c marks) (o : Marked 1 k held marks h.now) where
  same-go : (mode : Mode) (id : ℕ → ℕ) → counted_at (hushing c h) mode id ≡ hushed_at c mode (aliases_in k held) id
  same-go mode id = ap (λ (w : World). counted_row w (names_in c) mode) (hushed-world h clear o id)

  pub hushed-walk : {w w' : Walk} (mode : Mode) (r : Result (Unit {0}) Refusal) → Walked max_depth (hushing c h) w w' (counted_at (hushing c h) mode) r → Walked max_depth c w w' (hushed_at c mode (aliases_in k held)) r
  hushed-walk {w} mode (Ok u) x =
      let y = x.goes in
      record {
        still = x.still;
        goes = record {
          from = y.from;
          fit = λ k f. fits_on {c = hushing c h} c.hushed (y.fit k (fits_on h f));
          frame = y.frame;
          goes = λ id s j. let z = y.goes id s (holds_on h j) in
              record { state = z.state; holds = holds_on {c = hushing c h} c.hushed z.holds; same = ap (λ (g : Go). g s (rest_in c w)) (sym (same-go mode id)) ∙ z.same };
        };
      }
  hushed-walk {w} mode (Err e) x =
      record { still = x.still; goes = record { same = λ id s j. ap (λ (g : Go). g s (rest_in c w)) (sym (same-go mode id)) ∙ x.goes.same id s (holds_on h j) } }

-- Why "Before and after a WITH" leaves out what sort keys say: `MATCH (a) MATCH (b) WITH a ORDER BY [(b) | b], b` and `MATCH (a) MATCH (a)
-- WITH a ORDER BY [(b) | b], b` agree (`agreeing-keys`), but the keys see b in the first half of the one alone. In the other the
-- comprehension's scope binds it, and the name after it is not found (`left_out`, computed). So with these scopes the bindings would not be
-- the same (`besides-needed`).
use Rattle.std.specs.Prelude.{None, Some}
use Prim.Native.Nat.{ℕ}
use native.Mathlib.Omega.{arith}
use mathlib.Core.Path.{◌≡◌, refl}
use mathlib.Core.Bool.{true, false}
use mathlib.Core.List.{[], ◌∷◌, map}
use Rattle.words.specs.Fnv.{use_id, fnv1_of, fnv_from, fnv_step}
use Rattle.expr.specs.Tree.{var, comprehension, done, more, Steps}
use Rattle.expr.specs.Erase.{erase_e}
use Rattle.clauses.specs.Tree.{match, opening, sorted, projection}
use Rattle.clauses.specs.Erase.{erase_c, erase_a}
use Rattle.scope.specs.Graph.{scope, indexed}
use Rattle.sheet.specs.Statement.{Statement}
use Rattle.semantics.specs.Log.{finding, found, missing, bound, write, open', bind, answer, find, logs}
use Rattle.semantics.specs.Resolve.{walk}
use Rattle.semantics.specs.Lists.{bindings, lists}
use Rattle.semantics.specs.Cases.{small, node_a, node_b, name_b}
use Rattle.theorems.specs.Compare.{number_entry, moved, from}
use Rattle.theorems.specs.Site.{Cut, whole, Site, in_head, new_root, keys_log, sites}
use Rattle.theorems.specs.With.{Agree}

-- MATCH (a), MATCH of a node, WITH a ORDER BY [(b) | b], b
abbrev sorted_after : Steps → Cut
sorted_after second =
    record {
      before = opening (match 0) 0 1 node_a ∷ opening (match 0) 1 2 second ∷ [];
      start = 2;
      stop = 3;
      projections = projection None (var 1) ∷ [];
      filter = done;
      keys = sorted (more (comprehension 3 4 node_b (more name_b done)) (more name_b done));
      after = [];
    }

abbrev site : Steps → Site
site second = in_head (sorted_after second)

abbrev statement : Steps → Statement
statement second = small (whole (sorted_after second)) []

pub agreeing-keys : Agree true (statement node_b) (statement node_a) (site node_b) (site node_a)
unfolding small node_a node_b name_b erase_e erase_c erase_a logs walk lists sites
agreeing-keys = record { stands₁ = refl; stands₂ = refl; sort = refl; names = refl; table = refl; carried = refl; keys = refl; clauses = refl; arms = refl }

pub left_out : (keys_log true (statement node_b) (site node_b)
    ≡ open' (scope 9 (Some 4) 3 4) ∷ answer (write 0xFAF3A282 (found 2 1 0)) ∷ answer (write 0xFAF3A282 (found 2 1 0)) ∷ [])
    × (keys_log true (statement node_a) (site node_a)
    ≡ open' (scope 9 (Some 4) 3 4) ∷ bind false false (bound 5 (indexed 1) 2 1) ∷ answer (write 0xFAF3A282 (found 2 1 0)) ∷ answer (write 0xFAF3A282 missing) ∷ find (finding 1001 0 0 (Some (indexed 1)) 0 0) ∷ [])
unfolding small node_a node_b name_b logs walk sites use_id fnv1_of fnv_from fnv_step
left_out = (refl, refl)

pub besides-needed : let r₁ = new_root true (statement node_b) (site node_b) in let r₂ = new_root true (statement node_a) (site node_a) in
    map (number_entry (moved r₁ r₂)) (from r₁ (bindings true (statement node_b))) ≡ from r₂ (bindings true (statement node_a)) → ⊥
unfolding small node_a node_b name_b logs walk lists sites number_entry moved from
besides-needed e = let z : ◌≡◌ {A = ℕ} 0 1 = cc in omega arith

-- A take's loop, by the definition's look: `starts`, with 32 queues to look at; `passes`, an empty one; `stops`, at one that waits; `ends`,
-- after all.
use Prim.Native.Nat.{ℕ, zero, suc, ◌+◌, ◌-◌, ◌%◌, ◌≤◌, ◌<◌}
use mathlib.Core.List.{List}
use mathlib.Core.Path.{◌≡◌, refl, sym, ◌∙◌}
use native.Mathlib.Numerals.{add-one}
use native.Mathlib.Omega.{arith}
use lib.ListN.{get_or}
use Rattle.dispatcher.specs.Dispatcher.{taken_one, taken_none, begins, serve_or, look, take}
use Rattle.dispatcher.specs.Words.{items_from, queues_from, queue_of, last_of, state_of, Takes, Serves}
use Rattle.dispatcher.proofs.Ring.{queue-at, queues-set}

-- the words are as they were, and what is left of the take is a look from the queue q on
pub record Round (ws us : List ℕ) (q steps : ℕ) : Type 0 where
  pub kept : us ≡ ws
  pub below : q < 32
  pub most : steps ≤ 32
  pub same : take (state_of ws) ≡ look (32 - steps) steps q (state_of ws)

begins-at : (w : ℕ) → begins (last_of w) ≡ w % 32
begins-at zero = refl
begins-at (suc w) = omega arith

pub starts : (ws : List ℕ) → Round ws ws ((get_or ws 576 0 % 32 + 0) % 32) 0
unfolding take
starts ws =
    let same : (get_or ws 576 0 % 32 + 0) % 32 ≡ get_or ws 576 0 % 32 = omega arith in
    record { kept = refl; below = omega arith; most = omega arith; same = rw (begins-at (get_or ws 576 0), same) refl }

module _ (ws us : List ℕ) (q steps : ℕ) (r : Round ws us q steps) where
  -- the queue q is looked at
  looked : steps < 32 → take (state_of ws) ≡ serve_or (queue_of ws q) q (steps + 1) (queues_from ws 0 32) (look (32 - (steps + 1)) (steps + 1) ((q + 1) % 32) (state_of ws))
  unfolding look
  looked l =
      let n : 32 - steps ≡ suc (32 - (steps + 1)) = omega arith in
      r.same ∙ rw (n, queue-at ws q r.below, add-one steps) refl

  pub passes : (next : ℕ) → next ≡ (q + 1) % 32 → steps < 32 → get_or us (544 + q) 0 ≡ 0 → Round ws us next (steps + 1)
  unfolding items_from
  passes next n l e = record {
    kept = r.kept;
    below = omega arith;
    most = omega arith;
    same = looked l ∙ rw (rw r.kept at e, n) refl;
  }

  pub stops : (after : List ℕ) (item : ℕ) → steps < 32 → Serves q us after item → Takes ws after (taken_one q item (steps + 1))
  stops after item l h =
      let s : Serves q ws after item = rw r.kept at h in
      record { same = sym (looked l ∙ rw (s.front, queues-set ws after q r.below s.others, s.last) refl); kept = tt }

  pub ends : 32 ≤ steps → Takes ws us (taken_none 32)
  unfolding look
  ends h =
      let all : steps ≡ 32 = omega (arith, r.most) in
      record { same = rw r.kept (sym (rw all at r.same)); kept = r.kept }

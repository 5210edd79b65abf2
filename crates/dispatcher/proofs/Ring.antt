-- A queue's places as a ring: one more item goes to the first free place, the oldest goes out by moving the first place on. `adds-done` and
-- `serves` say it of the words that the code stores; `queues-set`, that such stores set one queue and leave the others.
use Prim.Native.Nat.{ℕ, zero, suc, ◌+◌, ◌*◌, ◌-◌, ◌%◌, ◌≤◌, ◌<◌, min}
use mathlib.Core.Bool.{Bool, true, false, cond}
use mathlib.Core.List.{List, [], ◌∷◌, ◌++◌}
use mathlib.Core.Path.{◌≡◌, refl, sym, ◌∙◌, ap}
use native.Mathlib.Omega.{arith}
use borrow.Author.Tests.{lt-ltb, le-ltb, le-leb, lt-leb, eqb-true, eqb-false}
use lib.Dec.{eqb}
use lib.ListN.{length, get_or, set, length-set}
use lib.Seq.{get_or-set_same, get_or-set_other, ext_get_or}
use Rattle.std.specs.Prelude.{Err}
use Rattle.dispatcher.specs.declared.error.AddError.TheVariants.{NoQueue, Full}
use Rattle.dispatcher.specs.Dispatcher.{done, waiting, add}
use Rattle.dispatcher.specs.Words.{items_from, count_of, queue_of, queues_from, Adds, Serves}
use Rattle.dispatcher.proofs.Lists.{set-one}

pub length-items : (ws : List ℕ) (q f n : ℕ) → length (items_from ws q f n) ≡ n
unfolding items_from
length-items ws q f zero = refl
length-items ws q f (suc n) = ap suc (length-items ws q (suc f) n)

-- places count modulo 16
items-modulo : (ws : List ℕ) (q f g n : ℕ) → f % 16 ≡ g % 16 → items_from ws q f n ≡ items_from ws q g n
unfolding items_from
items-modulo ws q f g zero e = refl
items-modulo ws q f g (suc n) e =
    let d : suc f % 16 ≡ suc g % 16 = omega arith in
    rw (e, items-modulo ws q (suc f) (suc g) n d) refl

-- other words of a queue's items are the same items
items-same : (ws us : List ℕ) (q f n : ℕ) → ((j : ℕ) → j < 16 → get_or us (q * 16 + j) 0 ≡ get_or ws (q * 16 + j) 0) → items_from us q f n ≡ items_from ws q f n
unfolding items_from
items-same ws us q f zero h = refl
items-same ws us q f (suc n) h = rw (h (f % 16) (omega arith), items-same ws us q (suc f) n h) refl

-- one more item stands at the end
items_more : (ws : List ℕ) (q f n : ℕ) → items_from ws q f (suc n) ≡ items_from ws q f n ++ (get_or ws (q * 16 + (f + n) % 16) 0 ∷ [])
unfolding items_from
items_more ws q f zero = let e : f + 0 ≡ f = omega arith in rw e refl
items_more ws q f (suc n) =
    let e : f + suc n ≡ suc f + n = omega arith in
    rw e (ap (λ (l : List ℕ). get_or ws (q * 16 + f % 16) 0 ∷ l) (items_more ws q (suc f) n))

-- a store to a place that none of the items has
items-set : (ws : List ℕ) (q f n p x : ℕ) → ((i : ℕ) → i < n → (f + i) % 16 ≡ p → ⊥) → items_from (set ws (q * 16 + p) x) q f n ≡ items_from ws q f n
unfolding items_from
items-set ws q f zero p x h = refl
items-set ws q f (suc n) p x h =
    let g : (q * 16 + f % 16 ≡ q * 16 + p) → ⊥ = λ e. h 0 (omega arith) (omega arith) in
    let t : (i : ℕ) → i < n → (suc f + i) % 16 ≡ p → ⊥ = λ i l e. h (suc i) (omega arith) (omega arith) in
    rw (get_or-set_other ws (q * 16 + p) (q * 16 + f % 16) x 0 g, items-set ws q (suc f) n p x t) refl

pub length-queues : (ws : List ℕ) (q n : ℕ) → length (queues_from ws q n) ≡ n
unfolding queues_from
length-queues ws q zero = refl
length-queues ws q (suc n) = ap suc (length-queues ws (suc q) n)

queues-at : (ws : List ℕ) (q n i : ℕ) → i < n → waiting (queues_from ws q n) i ≡ queue_of ws (q + i)
unfolding queues_from
queues-at ws q zero i h = absurd (omega arith)
queues-at ws q (suc n) zero h = let e : q + 0 ≡ q = omega arith in rw e refl
queues-at ws q (suc n) (suc i) h = let e : q + suc i ≡ suc q + i = omega arith in rw e (queues-at ws (suc q) n i (omega arith))

-- what waits in one of the 32
pub queue-at : (ws : List ℕ) (q : ℕ) → q < 32 → waiting (queues_from ws 0 32) q ≡ queue_of ws q
queue-at ws q h = queues-at ws 0 32 q h ∙ (let e : 0 + q ≡ q = omega arith in rw e refl)

-- words in which one queue is another than before
pub queues-set : (ws us : List ℕ) (q : ℕ) → q < 32 → ((i : ℕ) → i < 32 → (i ≡ q → ⊥) → queue_of us i ≡ queue_of ws i) → queues_from us 0 32 ≡ set (queues_from ws 0 32) q (queue_of us q)
queues-set ws us q h f = ext_get_or [] (queues_from us 0 32) (set (queues_from ws 0 32) q (queue_of us q)) (length-queues us 0 32 ∙ sym (length-set (queues_from ws 0 32) q (queue_of us q) ∙ length-queues ws 0 32)) at_each
  where
    at_each : (i : ℕ) → i < length (queues_from us 0 32) → waiting (queues_from us 0 32) i ≡ waiting (set (queues_from ws 0 32) q (queue_of us q)) i
    at_each i l =
        let m : i < 32 = omega (arith, length-queues us 0 32) in
        queue-at us i m ∙ sym (set-one (queues_from ws 0 32) q i (queue_of us q) (omega (arith, length-queues ws 0 32)) ∙ by m (eqb q i) refl)
      where
        by : i < 32 → (b : Bool) → eqb q i ≡ b → cond b (queue_of us q) (waiting (queues_from ws 0 32) i) ≡ queue_of us i
        by m true e = rw (eqb-true q i e) refl
        by m false e = queue-at ws i m ∙ sym (f i m (λ z. eqb-false q i e (sym z)))

-- fewer than 16 places on, no place is the same
apart : (f n i : ℕ) → i < n → n < 16 → (f + i) % 16 ≡ (f % 16 + n) % 16 → ⊥
apart f n i l m e = omega arith

-- a number above 31 is refused
pub adds-nowhere : (ws : List ℕ) (q x : ℕ) → 31 < q → Adds q x ws ws (Err NoQueue)
unfolding add
adds-nowhere ws q x h = record { same = rw (lt-ltb 31 q h) refl; kept = refl }

module _ (ws : List ℕ) (q : ℕ) (long : length ws ≡ 577) (below : q < 32) where
  length_at : length (waiting (queues_from ws 0 32) q) ≡ count_of ws q
  length_at = ap length (queue-at ws q below) ∙ length-items ws q (get_or ws (512 + q) 0) (count_of ws q)

  -- a full queue is refused
  pub adds-full : (x : ℕ) → 16 ≤ get_or ws (544 + q) 0 → Adds q x ws ws (Err Full)
  unfolding add
  adds-full x h = record { same = rw (le-ltb 31 q (omega arith), length_at, le-leb 16 (count_of ws q) (omega arith)) refl; kept = refl }

  module _ (x : ℕ) (room : get_or ws (544 + q) 0 < 16) where
    -- the first free place, and the words with the item there and one more in the count
    abbrev pub free : ℕ
    free = q * 16 + (get_or ws (512 + q) 0 % 16 + get_or ws (544 + q) 0) % 16

    abbrev pub with_item : List ℕ
    with_item = set (set ws free x) (544 + q) (get_or ws (544 + q) 0 + 1)

    other_word : (k : ℕ) → (k ≡ free → ⊥) → (k ≡ 544 + q → ⊥) → get_or with_item k 0 ≡ get_or ws k 0
    other_word k f g = get_or-set_other (set ws free x) (544 + q) k (get_or ws (544 + q) 0 + 1) 0 g ∙ get_or-set_other ws free k x 0 f

    others : (i : ℕ) → i < 32 → (i ≡ q → ⊥) → queue_of with_item i ≡ queue_of ws i
    others i l n =
        rw (other_word (512 + i) (λ e. omega arith) (λ e. omega arith), other_word (544 + i) (λ e. omega arith) (λ e. omega arith))
        (items-same ws with_item i (get_or ws (512 + i) 0) (count_of ws i) (λ j m. other_word (i * 16 + j) (λ e. omega arith) (λ e. omega arith)))

    -- the items that wait stand where they stood
    olds : items_from with_item q (get_or ws (512 + q) 0) (get_or ws (544 + q) 0) ≡ items_from ws q (get_or ws (512 + q) 0) (get_or ws (544 + q) 0)
    olds =
        let f = get_or ws (512 + q) 0 in
        let n = get_or ws (544 + q) 0 in
        items-same (set ws free x) with_item q f n (λ j m. get_or-set_other (set ws free x) (544 + q) (q * 16 + j) (n + 1) 0 (λ e. omega arith)) ∙
        items-set ws q f n ((f % 16 + n) % 16) x (λ i l e. apart f n i l room e)

    -- and the new one behind them
    new : get_or with_item (q * 16 + (get_or ws (512 + q) 0 + get_or ws (544 + q) 0) % 16) 0 ≡ x
    new =
        let e : q * 16 + (get_or ws (512 + q) 0 + get_or ws (544 + q) 0) % 16 ≡ free = omega arith in
        rw e (get_or-set_other (set ws free x) (544 + q) free (get_or ws (544 + q) 0 + 1) 0 (λ k. omega arith) ∙ get_or-set_same ws free x 0 (omega arith))

    more : queue_of with_item q ≡ queue_of ws q ++ (x ∷ [])
    more =
        let f = get_or ws (512 + q) 0 in
        let n = get_or ws (544 + q) 0 in
        let a : get_or with_item (512 + q) 0 ≡ f = other_word (512 + q) (λ e. omega arith) (λ e. omega arith) in
        let b : get_or with_item (544 + q) 0 ≡ n + 1 = get_or-set_same (set ws free x) (544 + q) (n + 1) 0 (omega (arith, length-set ws free x)) in
        let c : min (n + 1) 16 ≡ suc n = omega arith in
        let d : min n 16 ≡ n = omega arith in
        rw (a, b, c, d) (items_more with_item q f n ∙ rw (olds, new) refl)

    pub adds-done : Adds q x ws with_item done
    unfolding add
    adds-done =
        let z : get_or with_item 576 0 ≡ get_or ws 576 0 = other_word 576 (λ e. omega arith) (λ e. omega arith) in
        record {
          same = rw (le-ltb 31 q (omega arith), length_at, lt-leb 16 (count_of ws q) (omega arith), queue-at ws q below, z, queues-set ws with_item q below others, more) refl;
          kept = tt;
        }

  module _ (count : ℕ) (counts : count ≡ count_of ws q) (waits : 0 < get_or ws (544 + q) 0) where
    -- the words with the first place moved on, one less in the count, and q served last
    abbrev pub without : List ℕ
    without = set (set (set ws (512 + q) (get_or ws (512 + q) 0 % 16 + 1)) (544 + q) (count - 1)) 576 (q + 1)

    other : (k : ℕ) → (k ≡ 512 + q → ⊥) → (k ≡ 544 + q → ⊥) → (k ≡ 576 → ⊥) → get_or without k 0 ≡ get_or ws k 0
    other k a b c =
        get_or-set_other (set (set ws (512 + q) (get_or ws (512 + q) 0 % 16 + 1)) (544 + q) (count - 1)) 576 k (q + 1) 0 c ∙
        get_or-set_other (set ws (512 + q) (get_or ws (512 + q) 0 % 16 + 1)) (544 + q) k (count - 1) 0 b ∙
        get_or-set_other ws (512 + q) k (get_or ws (512 + q) 0 % 16 + 1) 0 a

    place : (i j : ℕ) → i < 32 → j < 16 → get_or without (i * 16 + j) 0 ≡ get_or ws (i * 16 + j) 0
    place i j l m = other (i * 16 + j) (λ e. omega arith) (λ e. omega arith) (λ e. omega arith)

    fewer : queue_of without q ≡ items_from ws q (suc (get_or ws (512 + q) 0)) (count - 1)
    fewer =
        let f = get_or ws (512 + q) 0 in
        let s = set ws (512 + q) (f % 16 + 1) in
        let t = set s (544 + q) (count - 1) in
        let a : get_or without (512 + q) 0 ≡ f % 16 + 1 = get_or-set_other t 576 (512 + q) (q + 1) 0 (λ e. omega arith) ∙ get_or-set_other s (544 + q) (512 + q) (count - 1) 0 (λ e. omega arith) ∙ get_or-set_same ws (512 + q) (f % 16 + 1) 0 (omega arith) in
        let b : get_or without (544 + q) 0 ≡ count - 1 = get_or-set_other t 576 (544 + q) (q + 1) 0 (λ e. omega arith) ∙ get_or-set_same s (544 + q) (count - 1) 0 (omega (arith, length-set ws (512 + q) (f % 16 + 1))) in
        let c : min (count - 1) 16 ≡ count - 1 = omega arith in
        rw (a, b, c)
        (items-same ws without q (f % 16 + 1) (count - 1) (λ j m. place q j below m) ∙ items-modulo ws q (f % 16 + 1) (suc f) (count - 1) (omega arith))

    pub serves : Serves q ws without (get_or without (q * 16 + get_or ws (512 + q) 0 % 16) 0)
    unfolding items_from
    serves =
        let f = get_or ws (512 + q) 0 in
        let n : count_of ws q ≡ suc (count - 1) = omega arith in
        let s = set (set ws (512 + q) (f % 16 + 1)) (544 + q) (count - 1) in
        let l : get_or without 576 0 ≡ suc q = get_or-set_same s 576 (q + 1) 0 (omega (arith, length-set (set ws (512 + q) (f % 16 + 1)) (544 + q) (count - 1), length-set ws (512 + q) (f % 16 + 1))) ∙ omega arith in
        let m : q % 32 ≡ q = omega arith in
        record {
          front = rw (n, fewer, place q (f % 16) below (omega arith)) refl;
          others = λ i k d.
              rw (other (512 + i) (λ e. omega arith) (λ e. omega arith) (λ e. omega arith), other (544 + i) (λ e. omega arith) (λ e. omega arith) (λ e. omega arith))
              (items-same ws without i (get_or ws (512 + i) 0) (count_of ws i) (λ j h. place i j k h));
          last = rw (l, m) refl;
        }

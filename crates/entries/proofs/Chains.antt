-- Laws of recorded uses and the chains of their ids.
--     found-place               what is found along the chain of an id's slot is its place
--     noted-again, noted-anew   an answer is stored in the place of the same use, or as the last and its id is hung up
--     none-recorded             a list without entries, over slots that are cleared
--     none-noted                no answer
--     room-less, room-left      room for fewer entries, and what room there is after answers
use Rattle.std.proofs.Common.{ℕ, zero, suc, ◌≡◌, ◌+◌, ◌-◌, ◌*◌, ◌^◌, ◌<◌, ◌≤◌, Bool, true, false, List, [], ◌∷◌, length, get_or, set, drop, refl, sym, ap, ◌∙◌, arith}
use Rattle.std.specs.Prelude.{Option, None, Some, unwrap_or}
use Rattle.std.proofs.lemmas.List.{get_or-set_same, get_or-set_other}
use mathlib.Core.List.{flat_map}
use borrow.Author.Count.{below_more}
use borrow.Author.Tests.{eq-eqb, ne_eqb, eqb-true, eqb-false, ltb-true, ltb-false}
use lib.Dec.{eqb, ltb}
use lib.Seq.{sets, get_or-append-add}
use Rattle.semantics.specs.Log.{Answer, Write, write}
use Rattle.semantics.specs.Lists.{note}
use Rattle.rows.specs.Rows.{seek, Hung, Hangs, Empty}
use Rattle.tables.specs.Index.{number_of}
use Rattle.rows.specs.Slot.{slot_of}
use Rattle.rows.proofs.Chains.{seek-le, seek_hit, seek-miss, chained-alike}
use Rattle.rows.proofs.Hanging.{added, none-hung}
use Rattle.entries.specs.Filled.{filled, recorded_width, recorded_words, answer_words}
use Rattle.entries.specs.Adding.{Becomes, place}
use Rattle.entries.specs.Chains.{id_at, Sound, Room, Places, Still, Notes}
use Rattle.entries.specs.declared.Recorded.{Recorded}
use Rattle.entries.proofs.Filling.{filled-append, sized-recorded}
use Rattle.entries.proofs.Adding.{none-added, one_set}
use Rattle.entries.proofs.Placing.{is_use, note-over}

-- words that are stored alter those in their places alone
sets-before : (vs l : List ℕ) (p q : ℕ) → q < p → get_or (sets l p vs) q 0 ≡ get_or l q 0
sets-before [] l p q h = refl
sets-before (v ∷ vs) l p q h = sets-before vs (set l p v) (suc p) q (omega arith) ∙ get_or-set_other l p q v 0 (λ z. omega arith)

sets-after : (vs l : List ℕ) (p q : ℕ) → p + length vs ≤ q → get_or (sets l p vs) q 0 ≡ get_or l q 0
sets-after [] l p q h = refl
sets-after (v ∷ vs) l p q h = sets-after vs (set l p v) (suc p) q (omega arith) ∙ get_or-set_other l p q v 0 (λ z. omega arith)

module _ (id : ℕ) (a : Answer) (out : List ℕ) (i : ℕ) where
  abbrev stored : List ℕ
  stored = sets out (i * recorded_width) (recorded_words (write id a))

  own-id : suc i * recorded_width ≤ length out → id_at stored i ≡ id
  unfolding recorded_words
  own-id h =
      let p = i * recorded_width in
      sets-before (answer_words a) (set out p id) (suc p) p (omega arith) ∙ get_or-set_same out p id 0 (omega arith)

  other-ids : (j : ℕ) → (j ≡ i → ⊥) → id_at stored j ≡ id_at out j
  other-ids j h = go (ltb j i) refl
    where
      go : (b : Bool) → ltb j i ≡ b → id_at stored j ≡ id_at out j
      go true e = sets-before (recorded_words (write id a)) out (i * recorded_width) (j * recorded_width) (omega (arith, ltb-true j i e))
      go false e = sets-after (recorded_words (write id a)) out (i * recorded_width) (j * recorded_width) (omega (arith, ltb-false j i e, sized-recorded (write id a)))

-- the place of the first with an id, told by the words
next-id : (w : Write) (es : List Write) (old : List ℕ) (i : ℕ) → id_at (filled old (flat_map recorded_words (w ∷ es))) (suc i) ≡ id_at (filled (drop (length (recorded_words w)) old) (flat_map recorded_words es)) i
unfolding flat_map
next-id w es old i =
    let along : suc i * recorded_width ≡ length (recorded_words w) + i * recorded_width = omega (arith, sized-recorded w) in
    rw (along, filled-append old (recorded_words w) (flat_map recorded_words es)) (get_or-append-add (recorded_words w) _ (i * recorded_width) 0)

first-id : (j : ℕ) (b : Answer) (es : List Write) (old : List ℕ) → id_at (filled old (flat_map recorded_words (write j b ∷ es))) 0 ≡ j
unfolding flat_map recorded_words
first-id j b es old = rw (filled-append old (recorded_words (write j b)) (flat_map recorded_words es)) refl

place-told : (id i : ℕ) (es : List Write) (old : List ℕ) → i ≤ length es → (i < length es → id_at (filled old (flat_map recorded_words es)) i ≡ id) → ((j : ℕ) → j < i → id_at (filled old (flat_map recorded_words es)) j ≡ id → ⊥) → place (is_use id) es ≡ i
unfolding place
place-told id i [] old h k f = omega arith
place-told id zero (write j b ∷ es) old h k f = rw (eq-eqb id j (sym (k (omega arith)) ∙ first-id j b es old)) refl
place-told id (suc i) (write j b ∷ es) old h k f =
    let rest = drop (length (recorded_words (write j b))) old in
    let here : eqb id j ≡ false = ne_eqb id j (λ e. f 0 (omega arith) (first-id j b es old ∙ sym e)) in
    rw here (ap suc (place-told id i es rest (omega arith) (λ l. sym (next-id (write j b) es old i) ∙ k (omega arith)) (λ n l e. f (suc n) (omega arith) (next-id (write j b) es old n ∙ e))))

-- what is found along the chain of an id's slot is its place
pub found-place : (r : Recorded) (id : ℕ) (o : Option ℕ) {i : ℕ} → Sound r → number_of o ≡ seek (id_at r.list.now) id r.made → i ≡ unwrap_or o r.made → Places r id i
found-place r id (Some j) s e q =
    let within : j < r.made = omega (arith, seek-le (id_at r.list.now) id r.made) in
    let here : id_at r.list.now j ≡ id = seek_hit (id_at r.list.now) id r.made j (sym e) in
    rw q (record { within = omega arith; here = λ l. here; first = λ k l h. s.apart k j l within (h ∙ sym here) })
found-place r id None s e q =
    rw q (record { within = omega arith; here = λ l. absurd (omega arith); first = λ k l. seek-miss (id_at r.list.now) id r.made k (sym e) l })

-- an answer that is stored in its place
module _ (id : ℕ) (a : Answer) (i : ℕ) (old new : Recorded) (room : Room 1 old) (p : Places old id i) (still : Still old new) (mult : new.mult ≡ old.mult)
    (written : new.list.now ≡ sets old.list.now (i * recorded_width) (recorded_words (write id a))) where
  long : suc i * recorded_width ≤ length old.list.now
  long = omega (arith, room.listed, p.within)

  own : id_at new.list.now i ≡ id
  own = rw written (own-id id a old.list.now i long)

  other : (j : ℕ) → (j ≡ i → ⊥) → id_at new.list.now j ≡ id_at old.list.now j
  other j h = rw written (other-ids id a old.list.now i j h)

  becomes : {r : ℕ} → r ≡ suc i + (old.made - suc i) → Becomes 1 recorded_words (note (write id a)) old.list.now new.list.now old.made r
  becomes e =
      rw written
      (one_set recorded_words recorded_width sized-recorded (write id a) i p.within long e
      (λ was es h. note-over id a es ∙ rw (place-told id i es was (omega (arith, h.count, p.within)) (λ l. rw h.wrote at (p.here (omega (arith, h.count)))) (λ j l. rw h.wrote at (p.first j l)))))

  pub noted-again : i < old.made → new.made ≡ old.made → new.chains.now ≡ old.chains.now → Notes 1 (note (write id a)) old new
  noted-again h made chains =
      let b = becomes {r = new.made} (omega arith) in
      record {
        still = still;
        sound = record {
          within = omega (arith, room.sound.within, b.kept);
          hung = record {
            some = rw still.slots room.sound.hung.some;
            small = rw still.slots room.sound.hung.small;
            chained = rw (mult, still.slots, made, chains) (chained-alike (λ j l. sym (same j)) room.sound.hung.chained);
          };
          apart = λ j k l m e. room.sound.apart j k l (omega arith) (sym (same j) ∙ e ∙ same k);
        };
        becomes = b;
      }
    where
      same : (j : ℕ) → id_at new.list.now j ≡ id_at old.list.now j
      same j = go (eqb j i) refl
        where
          go : (b : Bool) → eqb j i ≡ b → id_at new.list.now j ≡ id_at old.list.now j
          go true e = rw (eqb-true j i e) (own ∙ sym (p.here h))
          go false e = other j (eqb-false j i e)

  pub noted-anew : {slot : ℕ} → i ≡ old.made → new.made ≡ suc old.made → slot ≡ slot_of old.mult old.slots id → Hangs old.slots slot i old.chains.now new.chains.now → Notes 1 (note (write id a)) old new
  noted-anew at made here hangs =
      let b = becomes {r = new.made} (omega arith) in
      let same : (j : ℕ) → j < old.made → id_at new.list.now j ≡ id_at old.list.now j = λ j l. other j (λ e. omega arith) in
      let before : Hung old.mult old.slots old.made (id_at new.list.now) old.chains.now = record { some = room.sound.hung.some; small = room.sound.hung.small; chained = chained-alike (λ j l. sym (same j l)) room.sound.hung.chained } in
      record {
        still = still;
        sound = record {
          within = omega (arith, room.listed, b.kept);
          hung = rw (mult, still.slots, made) (added here (sym (rw at at own)) (rw at at hangs) before);
          apart = λ j k l m e. below_more (λ k. (j : ℕ) → j < k → id_at new.list.now j ≡ id_at new.list.now k → ⊥) old.made
              (λ k m j l e. room.sound.apart j k l m (sym (same j (omega arith)) ∙ e ∙ same k m))
              (λ j l e. p.first j (omega arith) (sym (same j l) ∙ e ∙ rw at at own))
              k (omega arith) j l e;
        };
        becomes = b;
      }

-- no entry yet
pub none-recorded : (r : Recorded) (n : ℕ) → r.made ≡ 0 → Empty r.slots n r.chains.now → n * recorded_width ≤ length r.list.now → n < 2 ^ 32 → Room n r
none-recorded r n e w h l = record {
  sound = record {
    within = omega arith;
    hung = rw e (none-hung r.mult r.slots n (id_at r.list.now) r.chains.now w);
    apart = λ i j k m q. absurd (omega arith);
  };
  listed = omega arith;
  hung = omega (arith, w.room);
  small = omega arith;
}

-- no answer
pub none-noted : {f : List Write → List Write} {r : Recorded} → Sound r → ((es : List Write) → f es ≡ es) → Notes 1 f r r
none-noted s e = record { still = record { list = refl; chains = refl; slots = refl; hung = refl }; sound = s; becomes = none-added e }

-- room for fewer, and what is left after answers
pub room-less : {m n : ℕ} {r : Recorded} → m ≤ n → Room n r → Room m r
room-less h r = record { sound = r.sound; listed = omega (arith, r.listed); hung = omega (arith, r.hung); small = omega (arith, r.small) }

pub room-left : {k n m : ℕ} {f : List Write → List Write} {old new : Recorded} → n ≡ k + m → Room n old → Notes k f old new → Room m new
room-left e r w = record {
  sound = w.sound;
  listed = omega (arith, r.listed, w.becomes.few, w.becomes.kept);
  hung = omega (arith, r.hung, w.becomes.few, w.still.hung, w.still.slots);
  small = omega (arith, r.small, w.becomes.few);
}

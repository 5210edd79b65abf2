-- Laws of the entries: one is found along its chain (`finds`), one more is added (`adds`), a place has its name (`named-listed`,
-- `named-entry`), and a name gets its place (`place-new`).
use Rattle.std.proofs.Common.{ℕ, suc, ◌≡◌, ◌≢◌, ◌+◌, ◌-◌, ◌*◌, ◌/◌, ◌^◌, ◌<◌, ◌≤◌, Bool, true, false, cond, List, length, get_or, set, refl, sym, subst, ap, ◌∙◌, arith}
use Rattle.std.specs.Prelude.{Option, None, Some}
use Rattle.std.proofs.lemmas.List.{length-set, get_or-set_same, get_or-set_other}
use borrow.Author.Count.{below_more}
use borrow.Author.Tests.{lt-ltb, le-ltb, ltb-false}
use lib.Dec.{ltb}
use Rattle.scope.specs.Graph.{indexed, generated}
use Rattle.semantics.specs.World.{listed_name}
use Rattle.tables.specs.Index.{number_of}
use Rattle.rows.specs.Rows.{keyed, seek, Hangs}
use Rattle.rows.proofs.Chains.{seek-le, seek_hit, seek-miss, none-chained, chained-alike}
use Rattle.rows.specs.Slot.{slot_of}
use Rattle.rowless.specs.Rowless.{variable_at, place_at, named, places, most, Sound, Lacks, Right, Still, Finds, Room, Chosen, Adds, Places}
use Rattle.rowless.specs.declared.Rowless.{Rowless}

pub finds : (r : Rowless) (v : ℕ) (o : Option ℕ) → number_of o ≡ seek (variable_at r.entries.now) v r.count → Finds r v o
finds r v (Some i) e =
    (omega (arith, seek-le (variable_at r.entries.now) v r.count), seek_hit (variable_at r.entries.now) v r.count i (sym e))
finds r v None e = λ i h q. seek-miss (variable_at r.entries.now) v r.count i (sym e) h q

-- where there is no entry, any multiplier does
pub chosen : (r : Rowless) (k : ℕ) → r.count ≡ 0 → Sound r → Sound (record r { mult = k })
chosen r k e s = record {
  some = s.some;
  small = s.small;
  few = s.few;
  room = s.room;
  chained = rw e (none-chained (slot_of k (most r)) (variable_at r.entries.now) (most r) r.chains.now (omega (arith, s.chained.room)) (λ b h. omega (arith, s.chained.heads b h, seek-le (keyed (slot_of r.mult (most r)) (variable_at r.entries.now)) b r.count)));
  apart = s.apart;
  placed = s.placed;
}

pub re-room : {v x : ℕ} {old mid : Rowless} → Room v x old → Chosen old mid → Room v x mid
re-room {v} {x} {old} {mid} r c = record {
  sound = c.sound;
  lacks = subst (λ (m : Rowless). Lacks m v) (sym c.same) r.lacks;
  few = omega (arith, r.few, ap (λ (m : Rowless). m.count) c.same, ap most c.same);
  placed = omega (arith, r.placed, ap places c.same);
}

pub re-adds : {v x : ℕ} {old mid new : Rowless} → Chosen old mid → Adds v x mid new → Adds v x old new
re-adds {v} {x} {old} {mid} {new} c a = go mid.mult (subst (λ (m : Rowless). Adds v x m new) c.same a)
  where
    go : (k : ℕ) → Adds v x (record old { mult = k }) new → Adds v x old new
    go k a = record { still = record { hung = a.still.hung; listed = a.still.listed; slots = a.still.slots; room = a.still.room }; listed = a.listed; count = a.count; sound = a.sound; variable = a.variable; place = a.place; variables = a.variables; places = a.places }

-- one entry more, as the code writes it
module _ (v x slot : ℕ) (old new : Rowless) (room : Room v x old) (still : Still old new) (listed : new.listed ≡ old.listed) (count : new.count ≡ suc old.count)
    (hangs : Hangs (most old) slot old.count old.chains.now new.chains.now) (mult : new.mult ≡ old.mult) (here : slot ≡ slot_of old.mult (most old) v)
    (written : new.entries.now ≡ set (set old.entries.now (old.count * 2) v) (old.count * 2 + 1) x) where
  abbrev n : ℕ
  n = old.count

  abbrev mid : List ℕ
  mid = set old.entries.now (n * 2) v

  sound : Sound old
  sound = room.sound

  long : n * 2 + 1 < length mid
  long = omega (arith, length-set old.entries.now (n * 2) v, sound.room, room.few)

  variable : variable_at new.entries.now n ≡ v
  variable = rw written (get_or-set_other mid (n * 2 + 1) (n * 2) x 0 (λ z. omega arith) ∙ get_or-set_same old.entries.now (n * 2) v 0 (omega (arith, long)))

  place : place_at new.entries.now n ≡ x
  place = rw written (get_or-set_same mid (n * 2 + 1) x 0 long)

  keep : (p : ℕ) → p < n * 2 → get_or new.entries.now p 0 ≡ get_or old.entries.now p 0
  keep p h = rw written (get_or-set_other mid (n * 2 + 1) p x 0 (λ z. omega arith) ∙ get_or-set_other old.entries.now (n * 2) p v 0 (λ z. omega arith))

  variables : (i : ℕ) → i < n → variable_at new.entries.now i ≡ variable_at old.entries.now i
  variables i h = keep (i * 2) (omega arith)

  placed : (i : ℕ) → i < n → place_at new.entries.now i ≡ place_at old.entries.now i
  placed i h = keep (i * 2 + 1) (omega arith)

  slots : most new ≡ most old
  slots = ap (λ (k : ℕ). k / 2) still.slots

  apart : (j : ℕ) → j < n + 1 → (i : ℕ) → i < j → variable_at new.entries.now i ≢ variable_at new.entries.now j
  apart =
      below_more (λ j. (i : ℕ) → i < j → variable_at new.entries.now i ≢ variable_at new.entries.now j) n
      (λ j h i l e. sound.apart i j l h (sym (variables i (omega arith)) ∙ e ∙ variables j h))
      (λ i l e. room.lacks i l (sym (variables i l) ∙ e ∙ variable))

  within : (i : ℕ) → i < n + 1 → place_at new.entries.now i < places new
  within =
      below_more (λ i. place_at new.entries.now i < places new) n
      (λ i h. omega (arith, placed i h, sound.placed i h))
      (omega (arith, place, room.placed))

  sound-more : Sound new
  sound-more = record {
    some = rw slots sound.some;
    small = rw slots sound.small;
    few = omega (arith, slots, room.few);
    room = omega (arith, slots, sound.room, still.room);
    chained = rw (slots, count, mult) (hangs.chained (slot_of old.mult (most old)) (variable_at new.entries.now) (rw variable here) (chained-alike (λ i h. sym (variables i h)) sound.chained));
    apart = λ i j l h. apart j (omega arith) i l;
    placed = λ i h. within i (omega arith);
  }

  pub adds : Adds v x old new
  adds = record {
    still = still;
    listed = listed;
    count = count;
    sound = sound-more;
    variable = variable;
    place = place;
    variables = variables;
    places = placed;
  }

-- an old place keeps its name
named-alike : (old new : Rowless) → new.listed ≡ old.listed → ((i : ℕ) → i < old.count → variable_at new.entries.now i ≡ variable_at old.entries.now i) → (x : ℕ) → x < places old → named new x ≡ named old x
unfolding named
named-alike old new l same x h = rw l (go (ltb x old.listed) refl)
  where
    go : (b : Bool) → ltb x old.listed ≡ b → cond b (indexed x) (generated (variable_at new.entries.now (x - old.listed))) ≡ cond b (indexed x) (generated (variable_at old.entries.now (x - old.listed)))
    go true e = refl
    go false e = ap generated (same (x - old.listed) (omega (arith, ltb-false x old.listed e)))

-- a place below the sheet's names, and an entry's own
pub named-listed : (r : Rowless) (x : ℕ) → x < r.listed → named r x ≡ indexed x
unfolding named
named-listed r x h = rw (lt-ltb x r.listed h)

pub named-entry : (r : Rowless) (x : ℕ) → r.listed ≤ x → named r x ≡ generated (variable_at r.entries.now (x - r.listed))
unfolding named
named-entry r x h = rw (le-ltb x r.listed h)

-- the place of a name that has none yet: no name of the sheet has the text
pub place-new : {v : ℕ} {old new : Rowless} → v < 2 ^ 32 → Sound old → Lacks old v → Adds v (places old) old new → Places v old new (places old)
unfolding listed_name
place-new {v} {old} {new} h s lacks a =
    let same = named-alike old new a.listed a.variables in
    let own : places old - new.listed ≡ old.count = omega (arith, a.listed) in
    let mine : named new (places old) ≡ generated v = named-entry new (places old) (omega (arith, a.listed)) ∙ ap generated (ap (variable_at new.entries.now) own ∙ a.variable) in
    let name : (index : ℕ → ℕ) → Right index old → named new (places old) ≡ listed_name v (index v) = λ index w. rw (w.all v h lacks) mine in
    record {
      grows = record { still = a.still; listed = a.listed; count = omega (arith, a.count); same = same };
      sound = a.sound;
      few = omega (arith, a.count);
      below = omega (arith, a.listed, a.count);
      right = λ index w. record {
        here = λ i l. below_more (λ i. named new (place_at new.entries.now i) ≡ listed_name (variable_at new.entries.now i) (index (variable_at new.entries.now i))) old.count
            (λ i l. rw (a.places i l, a.variables i l) (same (place_at old.entries.now i) (s.placed i l) ∙ w.here i l))
            (rw (a.place, a.variable) (name index w)) i (omega (arith, a.count));
        all = λ u k others. w.all u k (λ i l q. others i (omega (arith, a.count)) (a.variables i l ∙ q));
      };
      name = name;
    }

-- A list that is filled an event at a time: the loop that all lists share.
--     Loop                      what a loop keeps; `begin`, `turn` and `finish` are its start, a turn and its end
--     next-after, next-put      what one event more gives
use Prim.Native.Nat.{ℕ, suc, ◌+◌, ◌-◌, ◌*◌, ◌<◌, ◌≤◌}
use native.Mathlib.Numerals.{add-one}
use native.Mathlib.Omega.{arith}
use mathlib.Core.Path.{◌≡◌, refl, sym, ◌∙◌}
use mathlib.Core.List.{List, [], ◌∷◌, ◌++◌, flat_map, append-nil, append_assoc, reverse-cons}
use lib.ListN.{length}
use Rattle.semantics.specs.Log.{Event, Finding, Write, answer_of, answers_in}
use Rattle.semantics.specs.Lists.{note, notes}
use Rattle.theorems.proofs.Views.{pick-append}
use Rattle.finding.specs.Logged.{logged_at}
use Rattle.steps.specs.Said.{events, event_at, findings}
use Rattle.entries.specs.Adding.{Holds, Becomes}
use Rattle.lists_fill.specs.Said.{events_in, told_in}

-- The loop, over a list that had k entries: of n events i are passed, and the list has what they make of its entries, whatever the use ids
-- of names are.
pub record Loop {A : Type 0} (words : A → List ℕ) (f : (ℕ → ℕ) → ℕ → List A → List A) (n k : ℕ) (old out : List ℕ) (i m : ℕ) : Type 0 where
  pub within : i ≤ n
  pub few : m ≤ k + i
  pub kept : length out ≡ length old
  pub holds : (id : ℕ → ℕ) (was : List ℕ) (es : List A) → Holds words was old k es → Holds words was out m (f id i es)

module _ {A : Type 0} {words : A → List ℕ} {f : (ℕ → ℕ) → ℕ → List A → List A} {n k : ℕ} {old : List ℕ} where
  pub begin : ((id : ℕ → ℕ) (es : List A) → f id 0 es ≡ es) → Loop words f n k old old 0 k
  begin e = record { within = omega arith; few = omega arith; kept = refl; holds = λ id was es h. rw (e id es) h }

  pub turn : {out new : List ℕ} {i m r : ℕ} {g : (ℕ → ℕ) → List A → List A} → Loop words f n k old out i m → i < n → ((id : ℕ → ℕ) → Becomes 1 words (g id) out new m r) → ((id : ℕ → ℕ) (es : List A) → f id (i + 1) es ≡ g id (f id i es)) → Loop words f n k old new (i + 1) r
  turn {out} {new} {i} l h b e =
      let one = b (λ x. x) in
      record {
        within = omega arith;
        few = omega (arith, l.few, one.few);
        kept = one.kept ∙ l.kept;
        holds = λ id was es w. rw (e id es) ((b id).holds was (f id i es) (l.holds id was es w));
      }

  pub finish : {out : List ℕ} {i m : ℕ} → Loop words f n k old out i m → n ≤ i → (id : ℕ → ℕ) → Becomes n words (f id n) old out k m
  finish {out} {i} l h id =
      let all : i ≡ n = omega (arith, l.within) in
      record { few = omega (arith, l.few); kept = l.kept; holds = rw all at (l.holds id) }

-- one event more, and one finding more
pub next-event : (id : ℕ → ℕ) (l : List ℕ) (i : ℕ) → events_in id (i + 1) l ≡ events_in id i l ++ (event_at id l (i * 6) ∷ [])
unfolding events_in events
next-event id l i = rw (add-one i) (reverse-cons (event_at id l (i * 6)) (events id i l))

pub next-told : (l : List ℕ) (i : ℕ) → told_in (i + 1) l ≡ told_in i l ++ (logged_at l (length l - suc i * 6) ∷ [])
unfolding told_in findings
next-told l i = rw (add-one i) (reverse-cons (logged_at l (length l - suc i * 6)) (findings i l))

-- what they give comes last
pub next-after : {A : Type 0} (pick : Event → List A) (l : List ℕ) (i : ℕ) (id : ℕ → ℕ) (es : List A) → es ++ flat_map pick (events_in id (i + 1) l) ≡ (es ++ flat_map pick (events_in id i l)) ++ pick (event_at id l (i * 6))
unfolding flat_map
next-after pick l i id es =
    let e : flat_map pick (events_in id (i + 1) l) ≡ flat_map pick (events_in id i l) ++ pick (event_at id l (i * 6)) = rw (next-event id l i) (pick-append pick (events_in id i l) (event_at id l (i * 6) ∷ []) ∙ rw append-nil) in
    rw e (sym (append_assoc es (flat_map pick (events_in id i l)) (pick (event_at id l (i * 6)))))

pub told-after : (l : List ℕ) (i : ℕ) (es : List Finding) → es ++ told_in (i + 1) l ≡ (es ++ told_in i l) ++ (logged_at l (length l - suc i * 6) ∷ [])
told-after l i es = rw (next-told l i) (sym (append_assoc es (told_in i l) (logged_at l (length l - suc i * 6) ∷ [])))

-- or is put into the list, one by one
module _ {A B : Type 0} (put : B → List A → List A) (puts : List B → List A → List A) (none : (es : List A) → puts [] es ≡ es) (more : (b : B) (bs : List B) (es : List A) → puts (b ∷ bs) es ≡ puts bs (put b es)) where
  puts-append : (bs cs : List B) (es : List A) → puts (bs ++ cs) es ≡ puts cs (puts bs es)
  puts-append [] cs es = rw none
  puts-append (b ∷ bs) cs es = rw (more, more) (puts-append bs cs (put b es))

  next-put : (pick : Event → List B) (l : List ℕ) (i : ℕ) (id : ℕ → ℕ) (es : List A) → puts (flat_map pick (events_in id (i + 1) l)) es ≡ puts (pick (event_at id l (i * 6))) (puts (flat_map pick (events_in id i l)) es)
  next-put pick l i id es =
      let e : flat_map pick (events_in id (i + 1) l) ≡ flat_map pick (events_in id i l) ++ pick (event_at id l (i * 6)) = next-after pick l i id [] in
      rw e (puts-append (flat_map pick (events_in id i l)) (pick (event_at id l (i * 6))) es)

pub next-answer : (l : List ℕ) (i : ℕ) (id : ℕ → ℕ) (es : List Write) → notes (answers_in (events_in id (i + 1) l)) es ≡ notes (answer_of (event_at id l (i * 6))) (notes (answers_in (events_in id i l)) es)
unfolding answers_in notes
next-answer = next-put note notes (λ ws. refl) (λ x xs ws. refl) answer_of

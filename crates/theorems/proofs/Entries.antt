-- The bindings list and the recorded list of a log in pieces, each binding in scopes above those of the ones before.
-- `Inside lo hi bs` and `Ranged lo hi es`: what is bound, and what is listed, stands in scopes above lo, up to hi (`inside-binds`,
-- `puts-ranged`). `puts-pieces`: the list has the first piece's entries and then the second's; `puts-four` and `besides-four`: so in four
-- pieces, and from the second's scopes up, besides the third's, it has those of the second and the fourth; `puts-up`: renumbering goes
-- through. `last_write` is the last answer written for a use id: `answer-only`, what the
-- recorded list has for it; `answer-pieces`, that of the second piece if it writes one; `notes-append`, records in two pieces.
use Rattle.std.specs.Prelude.{Option, None, Some}
use Prim.Native.Nat.{ℕ, suc, ◌+◌, ◌≤◌, ◌<◌}
use native.Mathlib.Omega.{arith}
use mathlib.Core.Path.{◌≡◌, refl, sym, ◌∙◌, ap, ap₂, subst}
use mathlib.Core.Bool.{Bool, true, false, cond, ◌&&◌}
use mathlib.Core.List.{List, [], ◌∷◌, ◌++◌, map, append-nil, Memᴰ}
use lib.Dec.{T, eqb, leb, ltb, eqb→eq, leb→le, le→leb, ltb→lt, lt→ltb}
use Rattle.scope.specs.Graph.{carried, Entry, entry, Name, same_name}
use Rattle.semantics.specs.Log.{Answer, Bound, bound, Write, write, Event, open', bind, carry, answer, find, binds_in, logs}
use Rattle.semantics.specs.Lists.{put, puts, note, notes, answer_for}
use Rattle.theorems.proofs.Moved.{number_bound, up, eqb-up}
use Rattle.theorems.proofs.Within.{Within, nil, cons, inside}
use Rattle.theorems.specs.Compare.{number_entry, from, besides}
use Rattle.theorems.proofs.Tests.{bool-ext, holds, eq→eqb, ne→eqb}

-- Recorded: the last write counts.
unfoldable pub last_write : ℕ → List Write → Option Answer → Option Answer
last_write i [] d = d
last_write i (write j b ∷ xs) d = last_write i xs (cond (eqb i j) (Some b) d)

answer-note : (i j : ℕ) (b : Answer) (ws : List Write) → answer_for i (note (write j b) ws) ≡ cond (eqb i j) (Some b) (answer_for i ws)
unfolding answer_for note
answer-note i j b [] = refl
answer-note i j b (write h a ∷ ws) = go (eqb j h) refl (answer-note i j b ws)
  where
    skip : (x y : Bool) (r : Option Answer) → (T x → T y → ⊥) → cond y (Some a) (cond x (Some b) r) ≡ cond x (Some b) (cond y (Some a) r)
    skip true true r f = absurd (f tt tt)
    skip true false r f = refl
    skip false true r f = refl
    skip false false r f = refl

    same : (x y : Bool) (r : Option Answer) → x ≡ y → cond x (Some b) r ≡ cond x (Some b) (cond y (Some a) r)
    same true y r e = refl
    same false y r e = rw (← e) refl

    go : (t : Bool) → eqb j h ≡ t → answer_for i (note (write j b) ws) ≡ cond (eqb i j) (Some b) (answer_for i ws)
        → answer_for i (cond t (write j b ∷ ws) (write h a ∷ note (write j b) ws)) ≡ cond (eqb i j) (Some b) (cond (eqb i h) (Some a) (answer_for i ws))
    go true e ih = same (eqb i j) (eqb i h) (answer_for i ws) (ap (eqb i) (eqb→eq j h (subst T (sym e) tt)))
    go false e ih = rw ih (skip (eqb i j) (eqb i h) (answer_for i ws) (λ x y. subst T e (eq→eqb j h (sym (eqb→eq i j x) ∙ eqb→eq i h y))))

answer-notes : (i : ℕ) (xs ws : List Write) → answer_for i (notes xs ws) ≡ last_write i xs (answer_for i ws)
unfolding notes last_write
answer-notes i [] ws = refl
answer-notes i (write j b ∷ xs) ws = answer-notes i xs (note (write j b) ws) ∙ ap (last_write i xs) (answer-note i j b ws)

pub answer-only : (i : ℕ) (xs : List Write) → answer_for i (notes xs []) ≡ last_write i xs None
unfolding answer_for
answer-only i xs = answer-notes i xs []

pub notes-append : (xs ys ws : List Write) → notes (xs ++ ys) ws ≡ notes ys (notes xs ws)
unfolding notes
notes-append [] ys ws = refl
notes-append (x ∷ xs) ys ws = notes-append xs ys (note x ws)

last-append : (i : ℕ) (xs ys : List Write) (d : Option Answer) → last_write i (xs ++ ys) d ≡ last_write i ys (last_write i xs d)
unfolding last_write
last-append i [] ys d = refl
last-append i (write j b ∷ xs) ys d = last-append i xs ys (cond (eqb i j) (Some b) d)

-- What comes before a list that writes i does not matter.
last_written : (i : ℕ) (a : Answer) {xs : List Write} → Memᴰ (write i a) xs → (d e : Option Answer) → last_write i xs d ≡ last_write i xs e
unfolding last_write
last_written i a (Memᴰ.head {x = write j b} p) d e =
    let q : i ≡ j = cc in
    rw (bool-ext (eqb i j) true (λ t. tt) (λ t. eq→eqb i j q)) refl
last_written i a (Memᴰ.tail {x = write j b} m) d e = last_written i a m (cond (eqb i j) (Some b) d) (cond (eqb i j) (Some b) e)

-- The answer for an id that the second piece writes.
pub answer-pieces : (i : ℕ) (a : Answer) (xs ys : List Write) → Memᴰ (write i a) ys → answer_for i (notes (xs ++ ys) []) ≡ last_write i ys None
answer-pieces i a xs ys m = answer-notes i (xs ++ ys) [] ∙ last-append i xs ys (answer_for i []) ∙ last_written i a m (last_write i xs (answer_for i [])) None

-- Bindings: two pieces whose scopes do not meet.
abbrev pub scope_in : ℕ → ℕ → Entry → Type 0
scope_in lo hi (entry s x v k r) = (lo < s) × (s ≤ hi)

pub data Ranged (lo hi : ℕ) : List Entry → Type 0 where
  none' : Ranged lo hi []
  more' : {e : Entry} {es : List Entry} → scope_in lo hi e → Ranged lo hi es → Ranged lo hi (e ∷ es)

put-ranged : {lo hi : ℕ} (s : ℕ) (x : Name) (v k : ℕ) {es : List Entry} → lo < s → s ≤ hi → Ranged lo hi es → Ranged lo hi (put (bound s x v k) es)
unfolding put
put-ranged s x v k a b none' = more' {e = entry s x v k None} (a, b) none'
put-ranged {lo} {hi} s x v k a b (more' {e = entry t y u j r} {es = es} h p) = go (eqb s t && same_name x y) (put-ranged s x v k a b p)
  where
    go : (c : Bool) → Ranged lo hi (put (bound s x v k) es) → Ranged lo hi (cond c (entry s x v k (Some u) ∷ es) (entry t y u j r ∷ put (bound s x v k) es))
    go true q = more' {e = entry s x v k (Some u)} (a, b) p
    go false q = more' {e = entry t y u j r} h q

-- All bindings of a log lie where the log is within.
pub data Inside (lo hi : ℕ) : List Bound → Type 0 where
  none'' : Inside lo hi []
  more'' : {s : ℕ} {x : Name} {v k : ℕ} {bs : List Bound} → lo < s → s ≤ hi → Inside lo hi bs → Inside lo hi (bound s x v k ∷ bs)

pub inside-binds : {lo hi : ℕ} {l : List Event} → Within lo hi l → Inside lo hi (binds_in l)
unfolding logs inside
inside-binds nil = none''
inside-binds (cons {e = open' s} h p) = inside-binds p
inside-binds (cons {e = bind o g (bound s x v k)} h p) = more'' h.0 h.1 (inside-binds p)
inside-binds (cons {e = carry (carried b x v)} h p) = inside-binds p
inside-binds (cons {e = answer a} h p) = inside-binds p
inside-binds (cons {e = find f} h p) = inside-binds p

pub puts-ranged : {lo hi : ℕ} {bs : List Bound} {es : List Entry} → Inside lo hi bs → Ranged lo hi es → Ranged lo hi (puts bs es)
unfolding puts
puts-ranged none'' q = q
puts-ranged (more'' {s = s} {x = x} {v = v} {k = k} a b p) q = puts-ranged p (put-ranged s x v k a b q)

pub puts-append : (xs ys : List Bound) (es : List Entry) → puts (xs ++ ys) es ≡ puts ys (puts xs es)
unfolding puts
puts-append [] ys es = refl
puts-append (x ∷ xs) ys es = puts-append xs ys (put x es)

-- A binding above passes by the entries below.
put-past : {lo mid : ℕ} (s : ℕ) (x : Name) (v k : ℕ) {us : List Entry} (es : List Entry) → mid < s → Ranged lo mid us → put (bound s x v k) (us ++ es) ≡ us ++ put (bound s x v k) es
unfolding put
put-past s x v k es a none' = refl
put-past s x v k es a (more' {e = entry t y u j r} h p) = rw (ne→eqb s t (λ q. omega arith), put-past s x v k es a p) refl

puts-past : {lo mid hi : ℕ} {bs : List Bound} {us : List Entry} (es : List Entry) → Inside mid hi bs → Ranged lo mid us → puts bs (us ++ es) ≡ us ++ puts bs es
unfolding puts
puts-past es none'' q = refl
puts-past {us = us} es (more'' {s = s} {x = x} {v = v} {k = k} {bs = bs} a b p) q =
    ap (puts bs) (put-past s x v k es a q) ∙ puts-past (put (bound s x v k) es) p q

from-append : (r : ℕ) (us bs : List Entry) → from r (us ++ bs) ≡ from r us ++ from r bs
unfolding from
from-append r [] bs = refl
from-append r (entry s x v k o ∷ us) bs = go (leb r s) (from-append r us bs)
  where
    go : (c : Bool) → from r (us ++ bs) ≡ from r us ++ from r bs
        → cond c (entry s x v k o ∷ from r (us ++ bs)) (from r (us ++ bs)) ≡ cond c (entry s x v k o ∷ from r us) (from r us) ++ from r bs
    go true ih = ap (◌∷◌ (entry s x v k o)) ih
    go false ih = ih

from-below : {lo r : ℕ} {us : List Entry} → Ranged lo r us → from (suc r) us ≡ []
unfolding from
from-below none' = refl
from-below {r = r} (more' {e = entry s x v k o} h p) =
    rw (bool-ext (leb (suc r) s) false (λ t. let q = leb→le (suc r) s t in omega arith) (λ t. absurd t)) (from-below p)

from-above : {r hi : ℕ} {us : List Entry} → Ranged r hi us → from (suc r) us ≡ us
unfolding from
from-above none' = refl
from-above {r} (more' {e = entry s x v k o} h p) =
    rw (bool-ext (leb (suc r) s) true (λ t. tt) (λ t. le→leb (suc r) s h.0)) (ap (◌∷◌ (entry s x v k o)) (from-above p))

-- The entries that the first piece makes, and then those that the second makes.
pub puts-pieces : {lo mid hi : ℕ} {xs ys : List Bound} → Inside lo mid xs → Inside mid hi ys → puts (xs ++ ys) [] ≡ puts xs [] ++ puts ys []
puts-pieces {xs = xs} {ys = ys} p q = puts-append xs ys [] ∙ ap (puts ys) (sym (append-nil (puts xs []))) ∙ puts-past [] q (puts-ranged p none')

-- The entries that the second piece makes.
from_pieces : {mid hi : ℕ} {xs ys : List Bound} → Inside 0 mid xs → Inside mid hi ys → from (suc mid) (puts (xs ++ ys) []) ≡ puts ys []
from_pieces {mid} {hi} {xs} {ys} p q =
    let low : Ranged 0 mid (puts xs []) = puts-ranged p none' in
    let high : Ranged mid hi (puts ys []) = puts-ranged q none' in
    ap (from (suc mid)) (puts-pieces p q) ∙ from-append (suc mid) (puts xs []) (puts ys []) ∙ ap₂ ◌++◌ (from-below low) (from-above high)

inside-wide : {lo lo' hi hi' : ℕ} {bs : List Bound} → lo' ≤ lo → hi ≤ hi' → Inside lo hi bs → Inside lo' hi' bs
inside-wide a b none'' = none''
inside-wide a b (more'' {s = s} {x = x} {v = v} {k = k} i j p) = more'' {s = s} {x = x} {v = v} {k = k} (omega arith) (omega arith) (inside-wide a b p)

inside-join : {lo hi : ℕ} {xs ys : List Bound} → Inside lo hi xs → Inside lo hi ys → Inside lo hi (xs ++ ys)
inside-join none'' q = q
inside-join (more'' i j p) q = more'' i j (inside-join p q)

-- The entries besides those of the n scopes after r: all of others, none of these.
besides-append : (r n : ℕ) (us bs : List Entry) → besides r n (us ++ bs) ≡ besides r n us ++ besides r n bs
unfolding besides
besides-append r n [] bs = refl
besides-append r n (entry s x v k o ∷ us) bs = go (ltb r s && leb s (r + n)) (besides-append r n us bs)
  where
    go : (c : Bool) → besides r n (us ++ bs) ≡ besides r n us ++ besides r n bs
        → cond c (besides r n (us ++ bs)) (entry s x v k o ∷ besides r n (us ++ bs)) ≡ cond c (besides r n us) (entry s x v k o ∷ besides r n us) ++ besides r n bs
    go true ih = ih
    go false ih = ap (◌∷◌ (entry s x v k o)) ih

besides-others : {lo hi : ℕ} (r n : ℕ) {us : List Entry} → ((s : ℕ) → lo < s → s ≤ hi → r < s → s ≤ r + n → ⊥) → Ranged lo hi us → besides r n us ≡ us
unfolding besides
besides-others r n f none' = refl
besides-others r n f (more' {e = entry s x v k o} h p) = rw (go (ltb r s) (leb s (r + n)) (λ t u. f s h.0 h.1 (ltb→lt r s t) (leb→le s (r + n) u))) (ap (◌∷◌ (entry s x v k o)) (besides-others r n f p))
  where
    go : (a b : Bool) → (T a → T b → ⊥) → (a && b) ≡ false
    go true true g = absurd (g tt tt)
    go true false g = refl
    go false b g = refl

besides-own : (r n : ℕ) {us : List Entry} → Ranged r (r + n) us → besides r n us ≡ []
unfolding besides
besides-own r n none' = refl
besides-own r n (more' {e = entry s x v k o} h p) = rw (holds (ltb r s) (lt→ltb r s h.0), holds (leb s (r + n)) (le→leb s (r + n) h.1)) (besides-own r n p)

-- Four pieces: up to r, in the scope after it, in the n scopes after that, and above.
module _ (r n : ℕ) {hi : ℕ} {os bs cs ds : List Bound} (a : Inside 0 r os) (b : Inside r (suc r) bs) (c : Inside (suc r) (suc r + n) cs) (d : Inside (suc r + n) hi ds) (top : suc r + n ≤ hi) where
  last-two : Inside (suc r) hi (cs ++ ds)
  last-two = inside-join (inside-wide (omega arith) top c) (inside-wide {hi' = hi} (omega arith) (omega arith) d)

  all_three : Inside r hi (bs ++ (cs ++ ds))
  all_three = inside-join (inside-wide (omega arith) (omega arith) b) (inside-wide {hi' = hi} (omega arith) (omega arith) last-two)

  puts-three : puts (bs ++ (cs ++ ds)) [] ≡ puts bs [] ++ (puts cs [] ++ puts ds [])
  puts-three = puts-pieces b last-two ∙ ap (λ es. puts bs [] ++ es) (puts-pieces c d)

  pub puts-four : puts (os ++ (bs ++ (cs ++ ds))) [] ≡ puts os [] ++ (puts bs [] ++ (puts cs [] ++ puts ds []))
  puts-four = puts-pieces a all_three ∙ ap (λ es. puts os [] ++ es) puts-three

  pub besides-four : besides (suc r) n (from (suc r) (puts (os ++ (bs ++ (cs ++ ds))) [])) ≡ puts (bs ++ ds) []
  besides-four =
      ap (besides (suc r) n) (from_pieces a all_three ∙ puts-three) ∙ besides-append (suc r) n (puts bs []) (puts cs [] ++ puts ds [])
      ∙ ap₂ ◌++◌ (besides-others (suc r) n (λ s i j k l. omega arith) (puts-ranged b none'))
      (besides-append (suc r) n (puts cs []) (puts ds [])
      ∙ ap₂ ◌++◌ (besides-own (suc r) n (puts-ranged c none')) (besides-others (suc r) n (λ s i j k l. omega arith) (puts-ranged d none')))
      ∙ sym (puts-pieces b (inside-wide {hi' = hi} (omega arith) (omega arith) d))

-- Numbers moved up.
put_up : (m : ℕ) (b : Bound) (es : List Entry) → put (number_bound (up m) b) (map (number_entry (up m)) es) ≡ map (number_entry (up m)) (put b es)
unfolding put number_bound number_entry
put_up m (bound s x v k) [] = refl
put_up m (bound s x v k) (entry t y u j r ∷ es) = rw (eqb-up m s t) (go (eqb s t && same_name x y) (put_up m (bound s x v k) es))
  where
    go : (c : Bool) → put (bound (up m s) x v k) (map (number_entry (up m)) es) ≡ map (number_entry (up m)) (put (bound s x v k) es)
        → cond c (entry (up m s) x v k (Some u) ∷ map (number_entry (up m)) es) (entry (up m t) y u j r ∷ put (bound (up m s) x v k) (map (number_entry (up m)) es))
        ≡ map (number_entry (up m)) (cond c (entry s x v k (Some u) ∷ es) (entry t y u j r ∷ put (bound s x v k) es))
    go true ih = refl
    go false ih = ap (◌∷◌ (entry (up m t) y u j r)) ih

pub puts-up : (m : ℕ) (bs : List Bound) (es : List Entry) → puts (map (number_bound (up m)) bs) (map (number_entry (up m)) es) ≡ map (number_entry (up m)) (puts bs es)
unfolding puts
puts-up m [] es = refl
puts-up m (b ∷ bs) es = ap (puts (map (number_bound (up m)) bs)) (put_up m b es) ∙ puts-up m bs (put b es)

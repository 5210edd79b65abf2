-- Laws of names in chains: whether a text is a name, by the newest that is the same (`named`), and whether each is new (`fresh-next`); one name
-- more is hung up (`one_more`), none yet (`none-hung`), and those that hang are the first (`first-hung`). The words of a text, four bytes each
-- (`words_chunks`, `next-word`).
use Prim.Native.Nat.{ℕ, zero, suc, ◌+◌, ◌%◌, ◌<◌, ◌≤◌}
use native.Mathlib.Omega.{arith}
use native.Mathlib.Nat.{mod-lt}
use mathlib.Core.Path.{◌≡◌, refl, ap, sym, ◌∙◌}
use mathlib.Core.Bool.{Bool, true, false, cond, not, ◌&&◌, ◌||◌}
use mathlib.Core.List.{List, [], ◌∷◌, ◌++◌, map-append}
use Rattle.std.specs.Prelude.{map, take, drop}
use Rattle.std.proofs.Common.{add-one}
use Rattle.std.proofs.lemmas.List.{take_all}
use Rattle.words.proofs.Words.{drop-word, drop-none, word_of, words_chunks}
use Rattle.std.proofs.Math.ListN.{drop_of_length-le}
use Rattle.std.proofs.Math.Seq.{drop-cons}
use Rattle.tables.specs.Name.{name_at}
use lib.ListN.{length, get_or}
use lib.Seq.{get_or-take, length-take-le, take-suc}
use Rattle.tables.specs.Distinct.{same_bytes, name_in, fresh_after}
use Rattle.std.specs.Prelude.{None, Some, Option, is_some}
use Rattle.tables.specs.Index.{number_of}
use Rattle.rows.specs.Rows.{newest, Hangs, Emptied}
use Rattle.rows.proofs.Chains.{none-chained, chained-alike}
use Rattle.name_chains.specs.Slot.{hash_of, slot_of}
use Rattle.tables.specs.Answer.{names_at}
use Rattle.name_chains.specs.Hung.{text_in, itself, slot_in, Hung}

pub slot-below : (mult m : ℕ) → 0 < m → (x : List ℕ) → slot_of mult m x < m
unfolding slot_of
slot-below mult m h x =
    let t = hash_of mult x % 4294967296 in
    let p : t < 4294967296 = mod-lt _ (omega arith) in
    grind (arith, p, h)

-- whether there is one, by its number + 1
abbrev pub some : ℕ → Bool
some zero = false
some (suc i) = true

some-or : (b : Bool) (t q : ℕ) → some (cond b (suc t) q) ≡ b || some q
some-or true t q = refl
some-or false t q = refl

swap : (a b c : Bool) → a || (b || c) ≡ b || (a || c)
swap true true c = refl
swap true false c = refl
swap false b c = refl

last-in : (x y : List ℕ) (ys : List (List ℕ)) → name_in x (ys ++ (y ∷ [])) ≡ same_bytes x y || name_in x ys
unfolding name_in
last-in x y [] = refl
last-in x y (z ∷ ys) = rw (last-in x y ys) (swap (same_bytes x z) (same_bytes x y) (name_in x ys))

named-some : (s places x : List ℕ) (n : ℕ) → n ≤ length places → name_in x (names_at s (take n places)) ≡ some (newest (λ i. same_bytes x (text_in s places i)) n)
unfolding newest name_in
named-some s places x zero h = refl
named-some s places x (suc t) h =
    let same = same_bytes x (text_in s places t) in
    rw (take-suc places t 0 (omega arith), map-append)
    (last-in x (text_in s places t) (names_at s (take t places)) ∙ ap (◌||◌ same) (named-some s places x t (omega arith)) ∙ sym (some-or same t _))

all-named : (s places x : List ℕ) → name_in x (names_at s places) ≡ some (newest (λ i. same_bytes x (text_in s places i)) (length places))
all-named s places x = rw (take_all (length places) places (omega arith)) at (named-some s places x (length places) (omega arith))

-- a text is one of the names where the newest that is the same is some name
pub named : (s places x : List ℕ) (r : Option ℕ) → number_of r ≡ newest (λ i. same_bytes x (text_in s places i)) (length places) → is_some r ≡ name_in x (names_at s places)
named s places x None e = sym (all-named s places x ∙ ap some (sym e))
named s places x (Some i) e = sym (all-named s places x ∙ ap some (sym e))

-- the name i is not one of those before it, and so on
pub fresh-next : (s places : List ℕ) (i : ℕ) → i < length places → fresh_after name_in (names_at s (take i places)) (names_at s (drop i places)) ≡ (not (name_in (text_in s places i) (names_at s (take i places))) && fresh_after name_in (names_at s (take (i + 1) places)) (names_at s (drop (i + 1) places)))
unfolding fresh_after
fresh-next s places i h = rw (drop-word places i h, add-one i, take-suc places i 0 h, map-append)

-- the names that hang are the first
pub first-hung : {slot : List ℕ → ℕ} {m n : ℕ} {chains : List ℕ} (s places : List ℕ) → n ≤ length places → Hung slot s places m n chains → Hung slot s (take n places) m (length (take n places)) chains
first-hung {slot} {m} {n} {chains} s places h w =
    let all : length (take n places) ≡ n = length-take-le n places h in
    let same : (i : ℕ) → i < n → slot_in slot s places i ≡ slot_in slot s (take n places) i = λ i l. ap (λ p. slot (name_at s p)) (sym (get_or-take n places i 0 l)) in
    rw all (record { below = w.below; chained = chained-alike same w.chained })

-- one name more
pub one_more : {slot : List ℕ → ℕ} {s places : List ℕ} {m n x : ℕ} {old new : List ℕ} → Hung slot s places m n old → x ≡ slot_in slot s places n → Hangs m x n old new → Hung slot s places m (suc n) new
one_more {slot} {s} {places} w e a = record { below = w.below; chained = a.chained itself (slot_in slot s places) e w.chained }

-- none yet
pub none-hung : {m n : ℕ} {old new : List ℕ} (mult : ℕ) (s places : List ℕ) → Emptied n old new m → Hung (slot_of mult m) s places m 0 new
none-hung {m} {new = new} mult s places c =
    record { below = slot-below mult m c.empty.some; chained = none-chained itself (slot_in (slot_of mult m) s places) m new (omega (arith, c.empty.room)) c.empty.zeros }

-- one more, four bytes
pub next-word : (es : List (List ℕ)) (i : ℕ) → i < length es → map word_of (drop i es) ≡ word_of (get_or es i []) ∷ map word_of (drop (i + 1) es)
next-word es i h = rw (add-one, drop-cons es i [])

-- for the functions, by what they do
pub ruleset hashing = (words_chunks, next-word, drop-word, drop-none, drop_of_length-le)

pub ruleset adding = (fresh-next, drop-none)

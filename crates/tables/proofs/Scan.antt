-- Reading names one after the other: what holds before each, and that it holds again after one was read.
use Prim.Native.Nat.{ℕ, zero, suc, ◌+◌, ◌-◌, ◌*◌, ◌/◌, ◌<◌, ◌≤◌}
use native.Mathlib.Numerals.{add-one}
use native.Mathlib.Omega.{arith}
use mathlib.Core.Path.{◌≡◌, refl, sym, ap, ◌∙◌}
use mathlib.Core.Bool.{Bool, true, false, false≢true}
use mathlib.Core.List.{List, [], ◌∷◌, ◌++◌, map, map-append, append-nil}
use borrow.Author.Tests.{eqb-true, eqb-false}
use lib.Dec.{eqb}
use lib.ListN.{length, take, drop, set}
use lib.Seq.{append_snoc, take-suc-set}
use Rattle.words.proofs.Words.{drop-word, drop-none}
use Rattle.words.specs.Fnv.{use_id}
use Rattle.heads.specs.Got.{Got, ok, no, bind, many}
use Rattle.heads.specs.Answer.{Ans, read_end}
use Rattle.refusal.specs.declared.Refusal.{Refusal}
use Rattle.refusal.proofs.Handed.{handed}
use Rattle.std.specs.Prelude.{None, Result, Ok, Err}
use Rattle.std.specs.Result.{IsErr, IsErrAnd, result_eq}
use Rattle.std.proofs.Common.{nat_eq}
use Rattle.tables.specs.Name.{read_name, name_at, name_words, places_from}
use Rattle.tables.specs.Answer.{name_got, name_ends, names_in, whole, Scanned, ReadWhole}

-- where names end, of which the first begins at the byte p
unfoldable pub end_from : ℕ → List (List ℕ) → ℕ
end_from p [] = p
end_from p (x ∷ xs) = end_from (p + length (name_words x) * 4) xs

places-more : (p : ℕ) (xs : List (List ℕ)) (x : List ℕ) → places_from p (xs ++ (x ∷ [])) ≡ places_from p xs ++ (end_from p xs ∷ [])
unfolding places_from end_from
places-more p [] x = refl
places-more p (y ∷ xs) x = ap (◌∷◌ p) (places-more (p + length (name_words y) * 4) xs x)

end_more : (p : ℕ) (xs : List (List ℕ)) (x : List ℕ) → end_from p (xs ++ (x ∷ [])) ≡ end_from p xs + length (name_words x) * 4
unfolding end_from
end_more p [] x = refl
end_more p (y ∷ xs) x = end_more (p + length (name_words y) * 4) xs x

-- of n names the first i stand before the byte p and in the two tables; `left` are to come
pub record Scan (s : List ℕ) (n : ℕ) (tab ids : List ℕ) (p i left : ℕ) : Type 0 where
  pub count : i + left ≡ n
  pub apart : i * 4 ≤ p
  pub within : p ≤ length s
  pub same : many read_name n s ≡ bind (many read_name left (drop p s)) (λ xs r. ok (names_in s i tab ++ xs) r)
  pub fit : take i ids ≡ map use_id (names_in s i tab)
  pub placed : take i tab ≡ places_from 0 (names_in s i tab)
  pub ends : p ≡ end_from 0 (names_in s i tab)

-- what one name's reading says
abbrev pub Named : List ℕ → ℕ → Result ℕ Refusal → Type 0
Named s p r = name_ends s p r × Ans s p (read_name (drop p s)) (name_got s p r) (read_end s r)

none_yet : (g : Got (List (List ℕ))) → g ≡ bind g (λ xs r. ok ([] ++ xs) r)
none_yet (ok xs r) = refl
none_yet (no c) = refl

pub begin : {s : List ℕ} {n : ℕ} {tab ids : List ℕ} → Scan s n tab ids 0 0 n
unfolding places_from end_from
begin {s} {n} =
    record { count = omega arith; apart = omega arith; within = omega arith; same = none_yet (many read_name n s); fit = refl; placed = refl; ends = refl }

one_more : (g : Got (List (List ℕ))) (a : List (List ℕ)) (x : List ℕ) → bind (bind g (λ xs r. ok (x ∷ xs) r)) (λ xs r. ok (a ++ xs) r) ≡ bind g (λ xs r. ok (a ++ (x ∷ []) ++ xs) r)
one_more (ok xs r) a x = ap (λ (l : List (List ℕ)). ok l r) (sym (append_snoc a x xs))
one_more (no c) a x = refl

names_more : (s tab : List ℕ) (i p : ℕ) → i < length tab → names_in s (i + 1) (set tab i p) ≡ names_in s i tab ++ (name_at s p ∷ [])
names_more s tab i p h = rw (add-one i, take-suc-set tab i p h, map-append)

module _ {s tab ids : List ℕ} {n p i : ℕ} where
  -- a name takes a word at least, so there are as many words as names before it and one more
  pub room : {left q : ℕ} → Scan s n tab ids p i left → Named s p (Ok q) → i < length s / 4
  unfolding name_words
  room {left} {q} x b = omega arith

  pub turn : (left : ℕ) {q id : ℕ} → Scan s n tab ids p i left → Named s p (Ok q) → 0 < left → i < length tab → i < length ids → id ≡ use_id (name_at s p) → Scan s n (set tab i p) (set ids i id) q (i + 1) (left - 1)
  unfolding many name_words
  turn zero x b h t u f = absurd (omega arith)
  turn (suc k) {q} {id} x b h t u f =
      let less : suc k - 1 ≡ k = omega arith in
      record {
        count = omega arith;
        apart = omega arith;
        within = b.1.within;
        same = x.same ∙ rw (b.1.same, less, names_more s tab i p t) (one_more (many read_name k (drop q s)) (names_in s i tab) (name_at s p));
        fit = rw (names_more s tab i p t, map-append, add-one i, take-suc-set ids i id u, x.fit, f);
        placed = rw (names_more s tab i p t, places-more, add-one i) (cc (take-suc-set tab i p t, x.placed, x.ends));
        ends = rw (names_more s tab i p t, end_more, ← x.ends) b.0;
      }

  pub refused : (left : ℕ) (k : Refusal) (r : Result ℕ Refusal) → Scan s n tab ids p i left → Named s p (Err k) → 0 < left → IsErr r × IsErrAnd r (λ y. y ≡ k) → Scanned s n tab ids r
  unfolding many
  refused zero k r x b h f = absurd (omega arith)
  refused (suc m) k r x b h f = rw (handed k r f) (record { same = x.same ∙ rw b.1.same; fit = tt; placed = tt; ends = tt })

  pub done : (left : ℕ) → Scan s n tab ids p i left → left ≤ 0 → Scanned s n tab ids (Ok p)
  unfolding many
  done (suc k) x h = absurd (omega arith)
  done zero x h =
      let all : i ≡ n = omega arith in
      record { same = x.same ∙ rw (append-nil (names_in s i tab), all); fit = rw all at x.fit; placed = rw all at x.placed; ends = omega arith }

-- the scan of all bytes: it refuses, ends too early, or reaches the end
module _ {s tab ids : List ℕ} {n : ℕ} where
  not-whole : whole (many read_name n s) ≡ None → ReadWhole s n tab ids false
  not-whole e = record { same = e; uses = λ f. absurd (false≢true f); placed = λ f. absurd (false≢true f); many = λ f. absurd (false≢true f) }

  reached : (p : ℕ) (b : Bool) → eqb p (length s) ≡ b → Scanned s n tab ids (Ok p) → ReadWhole s n tab ids b
  reached p true e x =
      let h = eqb-true p (length s) e in
      record { same = rw (x.same, drop-none s p (omega arith)); uses = λ e. x.fit; placed = λ e. x.placed; many = λ e. omega (arith, x.ends) }
  reached p false e x =
      let h = eqb-false p (length s) e in
      not-whole (rw (x.same, drop-word s p (omega (arith, x.ends))))

  pub scanned_whole : (F : Refusal → Refusal → Bool) (r : Result ℕ Refusal) {b : Bool} → Scanned s n tab ids r → b ≡ result_eq nat_eq F r (Ok (length s)) → ReadWhole s n tab ids b
  scanned_whole F (Ok p) x e = reached p _ (sym e) x
  scanned_whole F (Err k) x e = rw e (not-whole (rw x.same))

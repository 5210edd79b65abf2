-- When a plain head reads: its word is there, and in the range that the definition gives it.
use Prim.Native.Nat.{ℕ, ◌+◌, ◌≤◌, ◌<◌}
use native.Mathlib.Omega.{arith}
use mathlib.Core.Path.{◌≡◌, refl, ◌∙◌}
use mathlib.Core.Bool.{Bool, true, false, not, ◌||◌}
use mathlib.Core.List.{List}
use lib.Dec.{leb, ltb}
use lib.ListN.{length, get_or, drop}
use borrow.Author.Tests.{lt-ltb, le-ltb, le-leb, leb-true, leb-false, ltb-true, ltb-false}
use Rattle.words.proofs.Words.{drop-word, drop-none, word_none}
use Rattle.heads.specs.Got.{ok, no, bind, word_in}
use Rattle.heads.specs.Form.{read_form, rest_of, shape_of, limit_of, form_none, form_one}
use Rattle.heads.specs.declared.Form.{Form}
use Rattle.expr.proofs.Inverse.{never, low-back}
use Rattle.flat.specs.Plain.{plain_codes, word_codes, bit_of, has, parts_of, is_out, Simple}
use Rattle.flat.proofs.Codes.{Each, ◌▹◌, Sort, bare, worded, has-below, simple-sort}

below : (n a : ℕ) → ltb a n ≡ not (leb n a)
below n a = go (leb n a) refl
  where
    go : (b : Bool) → leb n a ≡ b → ltb a n ≡ not b
    go true e = le-ltb a n (leb-true n a e)
    go false e = lt-ltb a n (leb-false n a e)

above : (n a : ℕ) → ltb a n ≡ not (leb n a || false)
above n a = below n a ∙ go (leb n a)
  where
    go : (b : Bool) → not b ≡ not (b || false)
    go true = refl
    go false = refl

-- the test of the word, by the code: a head of one word passes it
record Range (names code a : ℕ) : Type 0 where
  none : shape_of code ≡ 1 → is_out code names a ≡ false
  one : shape_of code ≡ 2 → ltb a (limit_of names code) ≡ not (is_out code names a)

ranges : Each (λ code. code < 26 → has plain_codes code ≡ true → (names a : ℕ) → a < 4294967296 → Range names code a)
unfolding shape_of limit_of
ranges =
    (λ p h names a l. never (cc))
    ▹ (λ p h names a l. record { none = λ s. refl; one = λ s. never (cc) })  -- 1 Leaf
    ▹ (λ p h names a l. record { none = λ s. refl; one = λ s. never (cc) })  -- 2 Leaf
    ▹ (λ p h names a l. record { none = λ s. refl; one = λ s. never (cc) })  -- 3 Leaf
    ▹ (λ p h names a l. record { none = λ s. refl; one = λ s. never (cc) })  -- 4 Leaf
    ▹ (λ p h names a l. record { none = λ s. refl; one = λ s. never (cc) })  -- 5 Leaf
    ▹ (λ p h names a l. record { none = λ s. refl; one = λ s. never (cc) })  -- 6 Leaf
    ▹ (λ p h names a l. record { none = λ s. never (cc); one = λ s. lt-ltb a 4294967296 l })  -- 7 Var
    ▹ (λ p h names a l. record { none = λ s. never (cc); one = λ s. above names a })  -- 8 Unresolved
    ▹ (λ p h names a l. record { none = λ s. never (cc); one = λ s. above names a })  -- 9 Prop
    ▹ (λ p h names a l. record { none = λ s. refl; one = λ s. never (cc) })  -- 10 Two
    ▹ (λ p h names a l. never (cc))  -- 11 Slice
    ▹ (λ p h names a l. record { none = λ s. never (cc); one = λ s. lt-ltb a 4294967296 l })  -- 12 Many
    ▹ (λ p h names a l. record { none = λ s. never (cc); one = λ s. lt-ltb a 4294967296 l })  -- 13 Many
    ▹ (λ p h names a l. record { none = λ s. never (cc); one = λ s. lt-ltb a 4294967296 l })  -- 14 Many
    ▹ (λ p h names a l. record { none = λ s. never (cc); one = λ s. below 20 a })  -- 15 BinOp
    ▹ (λ p h names a l. record { none = λ s. never (cc); one = λ s. above 2 a })  -- 16 UnaryOp
    ▹ (λ p h names a l. never (cc))  -- 17 Case
    ▹ (λ p h names a l. record { none = λ s. refl; one = λ s. never (cc) })  -- 18 IsNull
    ▹ (λ p h names a l. record { none = λ s. refl; one = λ s. never (cc) })  -- 19 Two
    ▹ (λ p h names a l. never (cc))  -- 20 PatternPredicate
    ▹ (λ p h names a l. record { none = λ s. never (cc); one = λ s. above 2 a })  -- 21 ListComprehension
    ▹ (λ p h names a l. never (cc))  -- 22 PatternComprehension
    ▹ (λ p h names a l. record { none = λ s. never (cc); one = λ s. above 2 a })  -- 23 ListPredicate
    ▹ (λ p h names a l. never (cc))  -- 24 MapProjection
    ▹ (λ p h names a l. record { none = λ s. refl; one = λ s. never (cc) })  -- 25 Leaf
    ▹ record { at = λ k p h names a l. absurd (omega arith) }

module _ (ws : List ℕ) (at names : ℕ) (h : has plain_codes (get_or ws at 0) ≡ true) where
  abbrev code : ℕ
  code = get_or ws at 0

  abbrev next : ℕ
  next = get_or ws (at + 1) 0

  abbrev end : ℕ
  end = at + 1 + bit_of word_codes code

  pub there : at < length ws
  there = go (ltb at (length ws)) refl
    where
      go : (b : Bool) → ltb at (length ws) ≡ b → at < length ws
      go true e = ltb-true at (length ws) e
      go false e = let z = word_none ws at (ltb-false at (length ws) e) in never (cc)

  rest-is : read_form names (drop at ws) ≡ rest_of names code (drop (at + 1) ws)
  unfolding read_form
  rest-is = let b = has-below plain_codes code h in rw (drop-word ws at there, low-back 4294967296 code (drop (at + 1) ws) (omega arith))

  -- no word follows
  module _ (w : bit_of word_codes code ≡ 0) (s : shape_of code ≡ 1) where
    none_is : read_form names (drop at ws) ≡ ok (form_none code) (drop (at + 1) ws)
    unfolding rest_of
    none_is = rest-is ∙ rw s

  -- one does
  module _ (s : shape_of code ≡ 2) where
    one-is : read_form names (drop at ws) ≡ bind (word_in 0 (limit_of names code) (drop (at + 1) ws)) (λ a r. ok (form_one code a) r)
    unfolding rest_of
    one-is = rest-is ∙ rw s

  -- a word is missing
  pub missing : length ws < end → read_form names (drop at ws) ≡ no 5
  unfolding word_in
  missing l = go (simple-sort code h)
    where
      go : Sort Simple code → read_form names (drop at ws) ≡ no 5
      go (bare w s q) = absurd (omega (arith, w, there))
      go (worded w s q) = one-is s ∙ rw (drop-none ws (at + 1) (omega (arith, w)))

  module _ (l : next < 4294967296) (m : end ≤ length ws) where
    range : Range names code next
    range = ranges.at code (has-below plain_codes code h) h names next l

    -- a word is out of range
    pub out_of : is_out code names next ≡ true → read_form names (drop at ws) ≡ no 5
    unfolding word_in
    out_of o = go (simple-sort code h)
      where
        go : Sort Simple code → read_form names (drop at ws) ≡ no 5
        go (bare w s q) = let z = range.none s in never (cc)
        go (worded w s q) = one-is s ∙ rw (drop-word ws (at + 1) (omega (arith, w)), le-leb 0 next (omega arith), range.one s, o)

    -- the head reads
    pub read_is : is_out code names next ≡ false → (f : Form) × (Simple f (parts_of code next) × (read_form names (drop at ws) ≡ ok f (drop end ws)))
    unfolding word_in
    read_is o = go (simple-sort code h)
      where
        go : Sort Simple code → (f : Form) × (Simple f (parts_of code next) × (read_form names (drop at ws) ≡ ok f (drop end ws)))
        go (bare w s q) =
            let z : at + 1 ≡ end = omega (arith, w) in
            (form_none code, (q next, rw z at (none_is w s)))
        go (worded w s q) =
            let z : at + 1 + 1 ≡ end = omega (arith, w) in
            (form_one code next, (q next, one-is s ∙ rw (drop-word ws (at + 1) (omega (arith, w)), le-leb 0 next (omega arith), range.one s, o, z)))

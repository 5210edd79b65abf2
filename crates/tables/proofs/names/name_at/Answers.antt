-- The first four bytes from p on make the length, and the text stands after them; where the length or the text doesn't end within s, the
-- definition's test fails.
use Rattle.std.proofs.Common.{rules, ◌≡◌, ◌∙◌, ℕ, ◌+◌, ◌-◌, ◌<◌, ◌≤◌, List, [], length, take, drop, arith, Bor, ◌⊎◌, inl, inr}
use Rattle.std.specs.Prelude.{Option, None, Some, MatchOption, slice_range}
use Rattle.std.specs.Option.{UnwrapsOrElse}
use Rattle.tables.specs.Name.{length_at, name_at}
use lib.ListN.{get_or, length-drop}
use lib.Seq.{take-length, drop-drop, get_or-take, get_or-drop}
use Rattle.words.specs.Words.{le32}
use Rattle.tables.proofs.Text.{text-whole, text-none}
use Rattle.tables.proofs.names.name_at.Goals as goal

front-byte : (s : List ℕ) (p : ℕ) {from : List ℕ} (i : ℕ) → from ≡ drop p s → i < 4 → get_or (take 4 from) i 0 ≡ get_or s (p + i) 0
front-byte s p {from} i e h = get_or-take 4 from i 0 h ∙ rw e (get_or-drop p s i 0)

rest-whole : (s : List ℕ) (p : ℕ) {from : List ℕ} → from ≡ slice_range s p (length s) → from ≡ drop p s
rest-whole s p e =
    let long : length s - p ≡ length (drop p s) = omega (arith, length-drop p s) in
    e ∙ rw long (take-length (drop p s))

first-four : (s : List ℕ) (p : ℕ) {from four : List ℕ} → from ≡ drop p s → four ≡ take 4 from → le32 (get_or four 0 0) (get_or four 1 0) (get_or four 2 0) (get_or four 3 0) ≡ length_at s p
first-four s p e f =
    let none : p + 0 ≡ p = omega arith in
    rw (f, front-byte s p 0 e (omega arith), front-byte s p 1 e (omega arith), front-byte s p 2 e (omega arith), front-byte s p 3 e (omega arith), none)

module _ (s : List ℕ) (p n : ℕ) {from rest : List ℕ} (e : from ≡ drop p s) (f : rest ≡ drop 4 from) (same : n ≡ length_at s p) (long : length rest + 4 + p ≡ length s) {P : Bor (List ℕ) → Type 0} (r : Bor (List ℕ)) (default : (y : Bor (List ℕ)) → P y → y.now ≡ []) where
  text : (o : Option (Bor (List ℕ))) → MatchOption o ((n < 0) ⊎ (length rest < n)) (λ x. (0 ≤ n) × (n ≤ length rest) × (x.now ≡ slice_range rest 0 n) × (length x.now + 0 ≡ n)) → UnwrapsOrElse o P r → r.now ≡ name_at s p
  text None m u = default r u ∙ text-none s p (short m)
    where
      short : (n < 0) ⊎ (length rest < n) → length s < p + 4 + length_at s p
      short (inl h) = absurd (omega arith)
      short (inr h) = omega arith
  text (Some x) m u =
      let there : rest ≡ drop (p + 4) s = f ∙ rw (e, drop-drop 4 p s) in
      let size : n - 0 ≡ p + 4 + n - (p + 4) = omega arith in
      rw (u, m.2, there, size) (text-whole s p n same (omega (arith, m.1)))

pub returns-in_default : goal.returns-in_default
returns-in_default c =
    let l = rw c.in_default.is at c.get.ensures.lookup in
    text-none c.args.s.now c.args.p (past l.0)
  where
    past : (length c.args.s.now < c.args.p) ⊎ (length c.args.s.now < length c.args.s.now) → length c.args.s.now < c.args.p + 4 + length_at c.args.s.now c.args.p
    past (inl h) = omega arith
    past (inr h) = absurd (omega arith)

pub returns-in_default-split_first_chunk : goal.returns-in_default-split_first_chunk
returns-in_default-split_first_chunk c =
    let l = c.in-Some.ensures.lookup in
    let k = rw c.in_default-split_first_chunk.is at c.split_first_chunk.ensures.cases in
    text-none c.args.s.now c.args.p (omega (arith, l.0.3, k))

pub returns : goal.returns
returns c =
    let l = c.in-Some.ensures.lookup in
    let k = c.in-Some-split_first_chunk.ensures.cases in
    let e = rest-whole c.args.s.now c.args.p l.0.2 in
    text c.args.s.now c.args.p c.from_le_bytes.result e k.1 (c.from_le_bytes.ensures ∙ first-four c.args.s.now c.args.p e k.0) (omega (arith, l.0.3, k.2)) c.unwrap_or_default.result (λ y h. search rules) c.get-2.result c.get-2.ensures.lookup.0 c.unwrap_or_default.ensures

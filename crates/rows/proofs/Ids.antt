-- Laws of the variables of the rows: one is found exactly where it is among them (`sought`), and distinct ones differ (`once`).
use Prim.Native.Nat.{ℕ, zero, suc, ◌+◌, ◌-◌, ◌*◌, ◌<◌, ◌≤◌}
use native.Mathlib.Omega.{arith}
use native.Mathlib.Numerals.{add-one}
use mathlib.Core.Path.{◌≡◌, refl, sym, ◌∙◌}
use mathlib.Core.Logic.{◌≢◌}
use mathlib.Core.Bool.{Bool, true, false, false≢true, not, cond, ◌&&◌}
use mathlib.Core.List.{List}
use lib.Dec.{eqb}
use lib.ListN.{length, drop, get_or}
use borrow.Author.Tests.{ne_eqb, eqb-false}
use Rattle.heads.specs.Answer.{row_ids, is_in}
use Rattle.heads.proofs.Bindings.{rows_more}
use Rattle.tables.specs.Distinct.{fresh_after, distinct}
use Rattle.tables.proofs.Ids.{fresh-id}
use Rattle.tables.proofs.Fresh.{both}
use Rattle.std.specs.Prelude as code
use Rattle.std.specs.Prelude.{None, Some, is_some}
use Rattle.tables.specs.Index.{number_of}
use Rattle.rows.specs.Rows.{id_at, seek}
use Rattle.rows.proofs.Chains.{seek-le, seek_hit, seek-miss}

-- the first row, and those after it
in-more : (ws : List ℕ) (p n v : ℕ) → p < length ws → is_in v (row_ids (suc n) (drop p ws)) ≡ cond (eqb v (get_or ws p 0)) true (is_in v (row_ids n (drop (p + 5) ws)))
in-more ws p n v h =
    let l : suc n - 1 ≡ n = omega arith in
    rw l at (rows_more ws p (suc n) v (omega arith) h)

neither : (b c : Bool) → cond b true c ≡ false → (b ≡ false) × (c ≡ false)
neither true c e = absurd (false≢true (sym e))
neither false c e = (refl, e)

not-among : (ws : List ℕ) (p n v j : ℕ) → p + n * 5 ≤ length ws → is_in v (row_ids n (drop p ws)) ≡ false → j < n → get_or ws (p + j * 5) 0 ≢ v
not-among ws p zero v j h e l = absurd (omega arith)
not-among ws p (suc n) v zero h e l =
    let s = neither (eqb v (get_or ws p 0)) _ (sym (in-more ws p n v (omega arith)) ∙ e) in
    let z : p + 0 * 5 ≡ p = omega arith in
    rw z (λ q. eqb-false v (get_or ws p 0) s.0 (sym q))
not-among ws p (suc n) v (suc j) h e l =
    let s = neither (eqb v (get_or ws p 0)) _ (sym (in-more ws p n v (omega arith)) ∙ e) in
    let z : p + suc j * 5 ≡ p + 5 + j * 5 = omega arith in
    rw z (not-among ws (p + 5) n v j (omega arith) s.1 (omega arith))

among_none : (ws : List ℕ) (p n v : ℕ) → p + n * 5 ≤ length ws → ((j : ℕ) → j < n → get_or ws (p + j * 5) 0 ≢ v) → is_in v (row_ids n (drop p ws)) ≡ false
unfolding is_in row_ids
among_none ws p zero v h k = refl
among_none ws p (suc n) v h k =
    let z : p + 0 * 5 ≡ p = omega arith in
    in-more ws p n v (omega arith)
    ∙ rw (ne_eqb v (get_or ws p 0) (λ q. (rw z at (k 0 (omega arith))) (sym q)))
    (among_none ws (p + 5) n v (omega arith) (λ j l. let y : p + suc j * 5 ≡ p + 5 + j * 5 = omega arith in rw y at (k (suc j) (omega arith))))

-- whether the variable i stands among those before it, and whether from i on none does
abbrev among : List ℕ → ℕ → ℕ → Bool
among ws rows i = is_in (id_at ws rows i) (row_ids i (drop rows ws))

abbrev pub fresh : List ℕ → (rows n : ℕ) → ℕ → Bool
fresh ws rows n i = fresh_after is_in (row_ids i (drop rows ws)) (row_ids (n - i) (drop (rows + i * 5) ws))

module _ (ws : List ℕ) (rows n : ℕ) (fit : rows + n * 5 ≤ length ws) where
  sought-none : (v : ℕ) → seek (id_at ws rows) v n ≡ 0 → is_in v (row_ids n (drop rows ws)) ≡ false
  sought-none v e = among_none ws rows n v fit (λ j l. seek-miss (id_at ws rows) v n j e l)

  sought-in : (v : ℕ) → 0 < seek (id_at ws rows) v n → is_in v (row_ids n (drop rows ws)) ≡ true
  sought-in v h = go (is_in v (row_ids n (drop rows ws))) refl
    where
      go : (b : Bool) → is_in v (row_ids n (drop rows ws)) ≡ b → b ≡ true
      go true e = refl
      go false e =
          let s : seek (id_at ws rows) v n ≡ suc (seek (id_at ws rows) v n - 1) = omega arith in
          absurd (not-among ws rows n v (seek (id_at ws rows) v n - 1) fit e (omega (arith, seek-le (id_at ws rows) v n)) (seek_hit (id_at ws rows) v n _ s))

  -- so the code's answer says whether it is among them
  pub sought : (v : ℕ) (r : code.Option ℕ) → number_of r ≡ seek (id_at ws rows) v n → is_in v (row_ids n (drop rows ws)) ≡ is_some r
  sought v None e = sought-none v (sym e)
  sought v (Some i) e = sought-in v (omega arith)

  pub fresh-all : distinct is_in (row_ids n (drop rows ws)) ≡ fresh ws rows n 0
  unfolding distinct row_ids
  fresh-all =
      let a : n - 0 ≡ n = omega arith in
      let b : rows + 0 * 5 ≡ rows = omega arith in
      rw (a, b)

  pub fresh-none : (i : ℕ) → n ≤ i → fresh ws rows n i ≡ true
  unfolding fresh_after row_ids
  fresh-none i h = let a : n - i ≡ 0 = omega arith in rw a

  pub fresh-more : (i : ℕ) → i < n → fresh ws rows n i ≡ (not (among ws rows i) && fresh ws rows n (i + 1))
  fresh-more i h = fresh-id ws rows n i h (omega arith)

  module _ (d : distinct is_in (row_ids n (drop rows ws)) ≡ true) where
    step : (i : ℕ) → i < n → fresh ws rows n i ≡ true → (not (among ws rows i) ≡ true) × (fresh ws rows n (i + 1) ≡ true)
    step i h e = both (not (among ws rows i)) (fresh ws rows n (i + 1)) (sym (fresh-more i h) ∙ e)

    fresh_at : (i : ℕ) → i ≤ n → fresh ws rows n i ≡ true
    fresh_at zero h = sym fresh-all ∙ d
    fresh_at (suc i) h = rw (add-one i) at (step i (omega arith) (fresh_at i (omega arith))).1

    new-at : (j : ℕ) → j < n → among ws rows j ≡ false
    new-at j h = go (among ws rows j) (step j h (fresh_at j (omega arith))).0
      where
        go : (b : Bool) → not b ≡ true → b ≡ false
        go true e = absurd (false≢true e)
        go false e = refl

    pub once : (i j : ℕ) → i < j → j < n → id_at ws rows i ≢ id_at ws rows j
    once i j l h = not-among ws rows j (id_at ws rows j) i (omega arith) (new-at j h) l

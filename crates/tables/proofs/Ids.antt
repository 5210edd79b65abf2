-- Laws of the variables of the bindings: a binding more at the front, and one more at the end.
use Prim.Native.Nat.{ℕ, zero, suc, ◌+◌, ◌-◌, ◌*◌, ◌<◌}
use native.Mathlib.Omega.{arith}
use mathlib.Core.Path.{◌≡◌}
use mathlib.Core.Bool.{not, ◌&&◌}
use mathlib.Core.List.{List, [], ◌∷◌, ◌++◌}
use lib.ListN.{length, drop, get_or}
use lib.Seq.{drop-drop}
use Rattle.words.proofs.Words.{drop-word, length-words}
use Rattle.heads.specs.Answer.{row_ids, is_in}
use Rattle.tables.specs.Distinct.{fresh_after}

ids-first : (ws : List ℕ) (p n : ℕ) → p < length ws → row_ids (suc n) (drop p ws) ≡ get_or ws p 0 ∷ row_ids n (drop (p + 5) ws)
unfolding row_ids
ids-first ws p n h =
    let five : p + 1 + 4 ≡ p + 5 = omega arith in
    rw (drop-word ws p h, drop-drop 4 (p + 1) ws, five)

ids-last : (ws : List ℕ) (p i : ℕ) → p + i * 5 < length ws → row_ids (suc i) (drop p ws) ≡ row_ids i (drop p ws) ++ (get_or ws (p + i * 5) 0 ∷ [])
unfolding row_ids
ids-last ws p zero h =
    let none : p + 0 * 5 ≡ p = omega arith in
    rw none (ids-first ws p 0 (omega arith))
ids-last ws p (suc i) h =
    let on : p + suc i * 5 ≡ p + 5 + i * 5 = omega arith in
    rw (ids-first ws p (suc i) (omega arith), ids-first ws p i (omega arith), on, ids-last ws (p + 5) i (omega arith))

-- one binding on: its variable doesn't stand among those before it, and none after it does
pub fresh-id : (ws : List ℕ) (rows n i : ℕ) → i < n → rows + i * 5 < length ws → fresh_after is_in (row_ids i (drop rows ws)) (row_ids (n - i) (drop (rows + i * 5) ws)) ≡ (not (is_in (get_or ws (rows + i * 5) 0) (row_ids i (drop rows ws))) && fresh_after is_in (row_ids (i + 1) (drop rows ws)) (row_ids (n - (i + 1)) (drop (rows + (i + 1) * 5) ws)))
unfolding fresh_after
fresh-id ws rows n i h lt =
    let one : n - i ≡ suc (n - (i + 1)) = omega arith in
    let more : i + 1 ≡ suc i = omega arith in
    let on : rows + i * 5 + 5 ≡ rows + (i + 1) * 5 = omega arith in
    rw (one, ids-first ws (rows + i * 5) (n - (i + 1)) lt, on, ← ids-last ws rows i lt, more)

-- how many words there are
pub ruleset lengths = (length-words)

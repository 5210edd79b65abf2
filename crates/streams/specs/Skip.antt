-- What is read past, and a length that is read.
use Rattle.std.specs.Prelude.{ℕ, ◌≡◌, Bool, ⊤, cond, List, leb, length, take, drop, Option, Some, None}
use Rattle.std.specs.Int.{w32, from_le_bytes}

-- n of the known bytes are gone, or all where they are fewer; and whether there were n
abbrev pub Skips : ℕ → (old new : Option (List ℕ)) → Bool → Type 0
Skips n None new all = ⊤
Skips n (Some xs) None all = ⊥
Skips n (Some xs) (Some ys) all = (ys ≡ drop n xs) × (all ≡ leb n (length xs))

-- the first four bytes as a number, the lowest first; none where they are fewer
abbrev pub length_at : List ℕ → Option ℕ
length_at xs = cond (leb 4 (length xs)) (Some (from_le_bytes w32 (take 4 xs))) None

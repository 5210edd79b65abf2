-- Laws of the names section: what the scan of its bytes says of reading it, and of a name found in it.
use Prim.Native.Nat.{ℕ, ◌*◌, ◌<◌, ◌≤◌}
use native.Mathlib.Omega.{arith}
use mathlib.Core.Path.{◌≡◌, refl, ◌∙◌}
use mathlib.Core.Bool.{Bool, true, false, false≢true}
use mathlib.Core.List.{List, [], ◌∷◌}
use lib.ListN.{length, take, get_or, length-take, length-map}
use borrow.Author.Tests.{lt-ltb, le-ltb}
use lib.Seq.{length-take-le, get_or-take, take-take, take-length}
use Rattle.heads.specs.Got.{Got, ok, no}
use Rattle.std.specs.Prelude.{Option, None, Some, Result, Ok, Err}
use Rattle.std.specs.Result.{IsErr, IsErrAnd}
use Rattle.refusal.specs.declared.Refusal.{Refusal}
use Rattle.refusal.proofs.Handed.{handed}
use Rattle.refusal.specs.declared.Refusal.TheVariants as refusals
use Rattle.tables.specs.Distinct.{name_in, distinct}
use Rattle.tables.specs.Name.{name_at}
use Rattle.tables.specs.Answer.{names_in, whole, ReadWhole}
use Rattle.tables.proofs.Front.{get_d_map}
use Rattle.sheet.specs.Read.{Sheet, accepted, refused, unless, entire, read_names, locate, read_text}
use Rattle.sheet.specs.declared.trailer.Places.{Places}
use Rattle.sheet.specs.Answer.{sheet_of, names_if, Tabled, found, found_end, FindsIn, FindsName}

-- the bytes are no n names (`names-none`), or they are, and then the names are to be distinct (`names-whole`)
abbrev given : {A : Type 0} → ℕ → Option A → Sheet A
given c (Some a) = accepted a
given c None = refused c

entire-whole : {A : Type 0} (c : ℕ) (g : Got A) → entire c g ≡ given c (whole g)
entire-whole c (ok a []) = refl
entire-whole c (ok a (w ∷ ws)) = refl
entire-whole c (no d) = refl

module _ {s : List ℕ} {n : ℕ} {tab ids : List ℕ} where
  pub names-none : ReadWhole s n tab ids false → Tabled n s tab ids false
  unfolding read_names
  names-none x =
      record { same = rw (entire-whole, x.same); uses = λ f. absurd (false≢true f); placed = λ f. absurd (false≢true f); many = λ f. absurd (false≢true f) }

  pub names-whole : {b : Bool} → ReadWhole s n tab ids true → b ≡ distinct name_in (names_in s n tab) → Tabled n s tab ids b
  unfolding read_names
  names-whole {b} x d = record { same = rw (entire-whole, x.same, ← d) (decided b); uses = λ e. x.uses refl; placed = λ e. x.placed refl; many = λ e. x.many refl }
    where
      decided : (b : Bool) → unless 3 b (accepted (names_in s n tab)) ≡ names_if b (names_in s n tab)
      decided true = refl
      decided false = refl

-- the name with the index i is the text whose place the table has there
pub name_of : (s tab : List ℕ) (n i : ℕ) → n ≤ length tab → i < n → name_at (take (length s) s) (get_or tab i 0) ≡ get_or (names_in s n tab) i []
name_of s tab n i h lt =
    rw (take-length s, get_d_map (name_at s) (take n tab) i 0 [] (omega (arith, length-take-le n tab h)), get_or-take n tab i 0 lt)

-- what is found of n names: with the index i, past them, and where they are none
module _ {s tab ids : List ℕ} {n : ℕ} (i : ℕ) where
  pub find_at : Tabled n s tab ids true → n ≤ length tab → i < n → FindsIn n i s (Ok (get_or tab i 0, length s))
  find_at x h lt =
      let long : length (names_in s n tab) ≡ n = length-map (take n tab) (name_at s) ∙ length-take-le n tab h in
      record {
        same = rw (x.same, long, lt-ltb i n lt, ← x.placed refl, get_or-take n tab i 0 lt);
        reads = rw (x.same, lt-ltb i n lt, name_of s tab n i h lt);
        within = omega arith;
      }

  pub find_past : Tabled n s tab ids true → n ≤ length tab → n ≤ i → FindsIn n i s (Err refusals.Word)
  find_past x h le =
      let long : length (names_in s n tab) ≡ n = length-map (take n tab) (name_at s) ∙ length-take-le n tab h in
      record { same = rw (x.same, long, le-ltb i n le); reads = rw (x.same, le-ltb i n le); within = omega arith }

  pub find_none : Tabled n s tab ids false → FindsIn n i s (Err refusals.Names)
  find_none x = record { same = rw x.same; reads = rw x.same; within = omega arith }

-- a name that was found in a part of the sheet is the sheet's
found_part : (s : List ℕ) (e : ℕ) (r : Result (ℕ × ℕ) Refusal) → found_end r ≤ length (take e s) → (found s r ≡ found (take e s) r) × (found_end r ≤ length s)
found_part s e (Ok (p, f)) h =
    let l = length-take e s in
    (rw (take-take f e s (omega arith)), omega arith)
found_part s e (Err c) h = (refl, omega arith)

pub find-part : {s : List ℕ} {p : Places} (i : ℕ) {r : Result (ℕ × ℕ) Refusal} → locate s ≡ accepted p → p.rows * 4 ≤ length s → FindsIn p.names i (take (p.rows * 4) s) r → FindsName i s r
unfolding read_text
find-part {s} {p} i {r} e h x =
    let long : length (take (p.rows * 4) s) ≡ p.rows * 4 = length-take-le (p.rows * 4) s h in
    let y = found_part s (p.rows * 4) r x.within in
    record { same = rw e (rw long at x.same); reads = y.0 ∙ x.reads ∙ rw e; within = y.1 }

-- a sheet that is refused by its trailer has no name
pub not_found : (s : List ℕ) (i : ℕ) (e : Refusal) (r : Result (ℕ × ℕ) Refusal) → sheet_of {A = Places} (Err e) ≡ locate s → IsErr r × IsErrAnd r (λ y. y ≡ e) → FindsName i s r
unfolding read_text
not_found s i e r h f = rw (handed e r f) (record { same = rw (← h); reads = rw (← h); within = omega arith })

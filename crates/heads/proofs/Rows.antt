-- A loop that reads the same thing n times: its invariant, and the laws of its turns.
use Rattle.std.proofs.Common.{◌≡◌, ◌∙◌, refl, ap, ℕ, zero, suc, ◌+◌, ◌-◌, ◌<◌, ◌≤◌, List, ◌∷◌, length, drop, Result, arith}
use Rattle.std.specs.Result.{IsErr, IsErrAnd}
use Rattle.refusal.specs.Number.{number_of}
use Rattle.refusal.specs.declared.Refusal.{Refusal}
use Rattle.heads.specs.Got.{Got, ok, no, next, bare, many}
use Rattle.heads.specs.Answer.{Ans, read_got, read_end}
use Rattle.heads.proofs.Reading.{refused}
use Rattle.heads.proofs.Shapes.{Rest, bare-bind, bare-map}

-- how n are read, and how one is
pub record Rows : Type 0 where
  pub all : ℕ → Rest
  pub one : Rest
  pub more : (k : ℕ) (ws : List ℕ) → all (suc k) ws ≡ next (one ws) (λ r. all k r)
  pub end : (ws : List ℕ) → all 0 ws ≡ ok tt ws

-- the loop's invariant: of the n from at on, i are read, up to p
pub record Row (R : Rows) (ws : List ℕ) (at n i p : ℕ) : Type 0 where
  pub same : R.all n (drop at ws) ≡ R.all (n - i) (drop p ws)
  pub from : at ≤ p
  pub within : p ≤ length ws

pub row_begun : (R : Rows) (ws : List ℕ) (at n : ℕ) → at ≤ length ws → Row R ws at n 0 at
row_begun R ws at n h =
    let z : n - 0 ≡ n = omega arith in
    record { same = rw z; from = omega arith; within = h }

-- where some are left, the next one decides
ahead : (R : Rows) (n i : ℕ) (r : List ℕ) {x : Got (Unit {0})} → i < n → R.one r ≡ x → R.all (n - i) r ≡ next x (λ s. R.all (n - (i + 1)) s)
ahead R n i r h e =
    let l : n - i ≡ suc (n - (i + 1)) = omega arith in
    ap (λ (k : ℕ). R.all k r) l ∙ R.more (n - (i + 1)) r ∙ ap (λ (x : Got (Unit {0})). next x (λ s. R.all (n - (i + 1)) s)) e

module _ {R : Rows} {ws : List ℕ} {at n i p : ℕ} (l : Row R ws at n i p) where
  pub row_next : {q : ℕ} → i < n → Ans ws p (R.one (drop p ws)) (ok tt (drop q ws)) q → Row R ws at n (i + 1) q
  row_next h x = record { same = l.same ∙ ahead R n i _ h x.same; from = omega arith; within = x.within }

  pub row_stop : {q : ℕ} (e : Refusal) (r : Result ℕ Refusal) → i < n → Ans ws p (R.one (drop p ws)) (no (number_of e)) q → IsErr r × IsErrAnd r (λ y. y ≡ e) → Ans ws at (R.all n (drop at ws)) (read_got ws r) (read_end ws r)
  row_stop e r h x f = refused e r f (record { same = l.same ∙ ahead R n i _ h x.same; from = omega arith; within = x.within })

  pub row_done : n ≤ i → Ans ws at (R.all n (drop at ws)) (ok tt (drop p ws)) p
  row_done h =
      let z : n - i ≡ 0 = omega arith in
      record { same = l.same ∙ ap (λ (k : ℕ). R.all k (drop p ws)) z ∙ R.end (drop p ws); from = l.from; within = l.within }

-- rows with more to read after them
next-next : (g : Got (Unit {0})) (h k l : Rest) → ((r : List ℕ) → h r ≡ next (k r) l) → next g h ≡ next (next g k) l
next-next (ok a r) h k l e = e r
next-next (no c) h k l e = refl

pub rows-rest : (R : Rows) (F : ℕ → Rest) (K : Rest) → ((k : ℕ) (ws : List ℕ) → F (suc k) ws ≡ next (R.one ws) (λ r. F k r)) → ((ws : List ℕ) → F 0 ws ≡ K ws) → (n : ℕ) (ws : List ℕ) → F n ws ≡ next (R.all n ws) K
rows-rest R F K m e zero ws = rw (R.end ws) (e ws)
rows-rest R F K m e (suc n) ws = rw (R.more n ws) (m n ws ∙ next-next (R.one ws) _ _ _ (rows-rest R F K m e n))

-- n of a kind
module _ {A : Type 0} (one : List ℕ → Got A) where
  pub many_more : (n : ℕ) (ws : List ℕ) → bare (many one (suc n) ws) ≡ next (bare (one ws)) (λ r. bare (many one n r))
  unfolding many
  many_more n ws = bare-bind (one ws) _ _ (λ x r. bare-map (many one n r) (λ xs. x ∷ xs))

  pub many-end : (ws : List ℕ) → bare (many one 0 ws) ≡ ok tt ws
  unfolding many
  many-end ws = refl

  abbrev pub many_rows : Rows
  many_rows = record { all = λ n r. bare (many one n r); one = λ r. bare (one r); more = many_more; end = many-end }

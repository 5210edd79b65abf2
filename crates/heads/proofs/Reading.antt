-- Laws of readers run one after the other: what was read moves on, what was not is the definition's refusal, and the end of a reader
-- that reads no more.
use Rattle.std.proofs.Common.{◌≡◌, ◌∙◌, refl, ℕ, Bool, true, false, ◌≤◌, List, length, drop, Result, arith}
use Rattle.std.specs.Prelude.{cond}
use Rattle.std.specs.Result.{IsErr, IsErrAnd}
use Rattle.refusal.specs.Number.{number_of}
use Rattle.refusal.specs.declared.Refusal.{Refusal}
use Rattle.refusal.proofs.Handed.{handed}
use borrow.Author.Tests.{eq-eqb, ne_eqb}
use Rattle.words.proofs.Words.{drop-word, drop-none}
use Rattle.heads.specs.Got.{Got, ok, no, bind, bare, counted}
use Rattle.heads.specs.Form.{case_rest, comp_rest, read_form}
use Rattle.heads.specs.Head.{read_maybe, read_part, read_elem}
use Rattle.heads.specs.Answer.{Ans, got, end, read_got, read_end}

-- what a `?` answers
pub refused : {ws : List ℕ} {at : ℕ} {g : Got (Unit {0})} (e : Refusal) {p : ℕ} (r : Result ℕ Refusal) → IsErr r × IsErrAnd r (λ y. y ≡ e) → Ans ws at g (no (number_of e)) p → Ans ws at g (read_got ws r) (read_end ws r)
refused e r h a = rw (handed e r h) (record { same = a.same; from = omega arith; within = omega arith })

module _ {A B : Type 0} {ws : List ℕ} {at : ℕ} {g : Got A} (k : A → List ℕ → Got B) where
  pub onward : {x : A} {p : ℕ} {h : Got B} {e : ℕ} → Ans ws at g (ok x (drop p ws)) p → Ans ws p (k x (drop p ws)) h e → Ans ws at (bind g k) h e
  onward a b = record { same = rw (a.same, b.same); from = omega arith; within = b.within }

  pub none : {c p : ℕ} → Ans ws at g (no c) p → Ans ws at (bind g k) (no c) p
  none a = record { same = rw a.same; from = a.from; within = a.within }

  pub halted : (e : Refusal) {p : ℕ} (r : Result (B × ℕ) Refusal) → Ans ws at g (no (number_of e)) p → IsErr r × IsErrAnd r (λ y. y ≡ e) → Ans ws at (bind g k) (got ws r) (end ws r)
  halted e r a h = rw (handed e r h) (record { same = rw a.same; from = omega arith; within = omega arith })

-- the same where only the words after it are told
module _ {A B : Type 0} {ws : List ℕ} {at : ℕ} {g : Got A} (k : A → List ℕ → Got B) where
  pub past : {x : A} {p : ℕ} {h : Got (Unit {0})} {e : ℕ} → Ans ws at g (ok x (drop p ws)) p → Ans ws p (bare (k x (drop p ws))) h e → Ans ws at (bare (bind g k)) h e
  past a b = record { same = rw (a.same, b.same); from = omega arith; within = b.within }

  pub failed : (e : Refusal) {p : ℕ} (r : Result ℕ Refusal) → Ans ws at g (no (number_of e)) p → IsErr r × IsErrAnd r (λ y. y ≡ e) → Ans ws at (bare (bind g k)) (read_got ws r) (read_end ws r)
  failed e r a h = refused e r h (record { same = rw a.same; from = a.from; within = a.within })

pub was_read : {B : Type 0} (g : Got B) {r : List ℕ} → bare g ≡ ok tt r → (x : B) × (g ≡ ok x r)
was_read (ok x s) e = (x, cc)
was_read (no n) e = cc

was_not : {B : Type 0} (g : Got B) {n : ℕ} → bare g ≡ no n → g ≡ no n
was_not (ok x s) e = cc
was_not (no n) e = cc

-- and where only the words after what was read before are known
module _ {A B : Type 0} {ws : List ℕ} {at : ℕ} (g : Got A) (k : A → List ℕ → Got B) where
  pub beyond : {p : ℕ} {h : Got (Unit {0})} {e : ℕ} → Ans ws at (bare g) (ok tt (drop p ws)) p → ((x : A) → Ans ws p (bare (k x (drop p ws))) h e) → Ans ws at (bare (bind g k)) h e
  beyond a b =
      let z = was_read g a.same in
      past k (record { same = z.1; from = a.from; within = a.within }) (b z.0)

  pub stopped : (e : Refusal) {p : ℕ} (r : Result ℕ Refusal) → Ans ws at (bare g) (no (number_of e)) p → IsErr r × IsErrAnd r (λ y. y ≡ e) → Ans ws at (bare (bind g k)) (read_got ws r) (read_end ws r)
  stopped e r a h = failed k e r (record { same = was_not g a.same; from = a.from; within = a.within }) h

-- nothing is read after it
ended_bare : {A B : Type 0} (g : Got A) (k : A → List ℕ → Got B) → ((x : A) (s : List ℕ) → bare (k x s) ≡ ok tt s) → bare (bind g k) ≡ bare g
ended_bare (ok x s) k f = f x s
ended_bare (no n) k f = refl

pub ended : {A B : Type 0} {ws : List ℕ} {at : ℕ} {h : Got (Unit {0})} {e : ℕ} (g : Got A) (k : A → List ℕ → Got B) → ((x : A) (s : List ℕ) → bare (k x s) ≡ ok tt s) → Ans ws at (bare g) h e → Ans ws at (bare (bind g k)) h e
ended g k f a = record { same = ended_bare g k f ∙ a.same; from = a.from; within = a.within }

pub over : {A : Type 0} {ws : List ℕ} {at : ℕ} {x : A} → at ≤ length ws → Ans ws at (ok x (drop at ws)) (ok x (drop at ws)) at
over h = record { same = refl; from = omega arith; within = h }

-- a test that chooses what is read
module _ {A : Type 0} {ws : List ℕ} {at : ℕ} {h : Got A} {e : ℕ} (x y : Got A) where
  pub chosen : (b : Bool) → b ≡ true → Ans ws at x h e → Ans ws at (cond b x y) h e
  chosen b t a = rw t a

  pub otherwise : (b : Bool) → b ≡ false → Ans ws at y h e → Ans ws at (cond b x y) h e
  otherwise b f a = rw f a

-- `unfolding readers` opens the readers' definitions
unfoldable pub readers : Unit {0}
unfolding counted case_rest comp_rest read_form read_maybe read_part read_elem
readers = tt

-- what is read first, and what is read after it
pub ruleset steps = (onward, halted, past, failed, beyond, stopped, ended, over, chosen, otherwise)

-- the words from a place on have a first one, or there are none
pub ruleset from_there = (drop-word, drop-none)

-- a test of equality that holds or not
pub ruleset tests = (eq-eqb, ne_eqb)

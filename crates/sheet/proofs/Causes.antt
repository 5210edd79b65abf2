-- From answers to verdicts: a section's, and two sections' one after the other.
use Prim.Native.Nat.{ℕ}
use mathlib.Core.Path.{◌≡◌, refl, sym, ap, ◌∙◌}
use mathlib.Core.Bool.{Bool, true, false}
use mathlib.Core.List.{List, [], ◌∷◌}
use borrow.Author.Tests.{ltb-true, ltb-false}
use lib.Dec.{ltb}
use lib.ListN.{length, take, drop}
use Rattle.words.specs.Words.{words}
use Rattle.words.proofs.Words.{drop-word, drop-none}
use Rattle.heads.specs.Got.{Got, ok, no, bare, many}
use Rattle.heads.specs.Answer.{Ans, words_of}
use Rattle.heads.specs.declared.Section.{Section}
use Rattle.std.specs.Prelude.{Result, not}
use Rattle.std.specs.Result.{IsErr, IsErrAnd}
use Rattle.refusal.specs.Number.{number_of}
use Rattle.refusal.specs.declared.Refusal.{Refusal}
use Rattle.refusal.proofs.Handed.{handed}
use Rattle.sheet.specs.Read.{Sheet, accepted, refused, then', unless, used_up}
use Rattle.sheet.specs.Answer.{sheet_of, judged, reached, section_of, Part}
use Rattle.sheet.specs.declared.trailer.Places.{Places}
use Rattle.sheet.proofs.Cutting.{part-words, held}

-- ---- a section
by_shape : {A : Type 0} (g : Got A) → judged (used_up g) ≡ judged (used_up (bare g))
by_shape (ok a []) = refl
by_shape (ok a (w ∷ ws)) = refl
by_shape (no c) = refl

ends : (p : ℕ) (ws : List ℕ) (b : Bool) → ltb p (length ws) ≡ b → unless 5 (not b) (accepted tt) ≡ judged (used_up {A = Unit {0}} (ok tt (drop p ws)))
ends p ws true e = rw (drop-word ws p (ltb-true p (length ws) e))
ends p ws false e = rw (drop-none ws p (ltb-false p (length ws) e))

-- what a `?` answers
pub refusal_told : {A : Type 0} (e : Refusal) (r : Result A Refusal) → IsErr r × IsErrAnd r (λ y. y ≡ e) → sheet_of r ≡ refused (number_of e)
refusal_told e r f = rw (handed e r f)

-- a section of the sheet, read in the words up to where it ends
module _ {A : Type 0} (one : ℕ → List ℕ → Got A) (s : List ℕ) (p : Places) (n from to : ℕ) {x : Section} (h : Part s p to x) where
  abbrev section_got : List ℕ → ℕ → Got (List A)
  section_got ws names = many (one names) n (drop from ws)

  abbrev got_here : Got (List A)
  got_here = section_got (take to (words s)) p.names

  pub part_refused : {q : ℕ} (e : Refusal) (r : Result (Unit {0}) Refusal) → Ans (words_of x) from (bare (many (one x.names) n (drop from (words_of x)))) (no (number_of e)) q → IsErr r × IsErrAnd r (λ y. y ≡ e) → sheet_of r ≡ judged (section_of one s p n from to)
  part_refused {q} e r a f =
      let b = held h (λ ws names rows. Ans ws from (bare (section_got ws names)) (no (number_of e)) q) a in
      refusal_told e r f ∙ sym (by_shape got_here ∙ rw b.same)

  pub part_read : {q end : ℕ} (r : Result (Unit {0}) Refusal) → Ans (words_of x) from (bare (many (one x.names) n (drop from (words_of x)))) (ok tt (drop q (words_of x))) q → end ≡ length (words_of x) → sheet_of r ≡ reached q end → sheet_of r ≡ judged (section_of one s p n from to)
  part_read {q} r a e f =
      let b = held h (λ ws names rows. Ans ws from (bare (section_got ws names)) (ok tt (drop q ws)) q) a in
      f ∙ ap (reached q) (e ∙ ap length (part-words h)) ∙ ends q (take to (words s)) _ refl ∙ sym (by_shape got_here ∙ rw b.same)

-- ---- one after the other
module _ {A B : Type 0} (y : Sheet B) where
  pub then-refused : (x : Sheet A) {c : ℕ} → refused c ≡ judged x → refused c ≡ judged {A = A × B} (then' x (λ a. then' y (λ b. accepted (a, b))))
  then-refused (accepted a) e = cc
  then-refused (refused d) e = e

  pub then-accepted : (x : Sheet A) {u : Sheet (Unit {0})} → accepted tt ≡ judged x → u ≡ judged y → u ≡ judged {A = A × B} (then' x (λ a. then' y (λ b. accepted (a, b))))
  then-accepted (accepted a) f g = g ∙ paired a y
    where
      paired : (a : A) (y : Sheet B) → judged y ≡ judged {A = A × B} (then' y (λ b. accepted (a, b)))
      paired a (accepted b) = refl
      paired a (refused d) = refl
  then-accepted (refused d) f g = cc

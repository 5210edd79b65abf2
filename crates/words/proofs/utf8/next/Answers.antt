-- Where bytes are to come, the byte must lie in the first of their ranges, and then one byte less is to come.
use Rattle.std.proofs.Common.{◌≡◌, ℕ, zero, suc, ◌-◌, ◌<◌, ◌≤◌, ◌⊎◌, replicate, refl, arith, ◌∙◌, inl, inr}
use Rattle.std.proofs.Math.Option.{some, none}
use Rattle.std.proofs.lemmas.Bool.Decides.{nat_tests}
use Rattle.words.specs.Utf8.{step, ranges, trail}
use Rattle.words.proofs.utf8.next.Goals as goal

trails : (n : ℕ) → ranges n 0x80 0xBF ≡ replicate n trail
trails zero = refl
trails (suc n) = refl

goes : (n lo hi b : ℕ) → 0 < n → lo ≤ b → b ≤ hi → some (ranges (n - 1) 0x80 0xBF) ≡ step (ranges n lo hi) b
unfolding step
goes zero lo hi b h l u = absurd (omega arith)
goes (suc n) lo hi b h l u = let less : suc n - 1 ≡ n = omega arith in rw (less, trails n) (grind (arith, nat_tests))

stops : (n lo hi b : ℕ) → 0 < n → (b < lo) ⊎ (hi < b) → none ≡ step (ranges n lo hi) b
unfolding step
stops zero lo hi b h o = absurd (omega arith)
stops (suc n) lo hi b h o = grind (arith, nat_tests)

pub returns-then-b-p : goal.returns-then-b-p
returns-then-b-p c = stops _ _ _ _ (omega arith) (elim c.then-b-p.either [ inl l ↦ inl l | inr r ↦ inr r.1 ])

pub returns : goal.returns
returns c = c.to_come.ensures ∙ goes _ _ _ _ (omega arith) (omega arith) (omega arith)

-- The number of a cause tells the cause (`same_cause`), by a table of the causes at their numbers; and it is `small`.
use Rattle.std.proofs.Common.{◌≡◌, ◌∙◌, refl, sym, ap, ℕ, ◌<◌, [], ◌∷◌, get_or, arith}
use Rattle.refusal.specs.Number.{number_of}
use Rattle.refusal.specs.declared.Refusal.{Refusal}
use Rattle.refusal.specs.declared.Refusal.TheVariants.{Size, Places, Names, Bindings, Word, Depth, Entries, Asked, Page, Room}

abbrev cause_at : ℕ → Refusal
cause_at n = get_or (Size ∷ Size ∷ Places ∷ Names ∷ Bindings ∷ Word ∷ Depth ∷ Depth ∷ Entries ∷ Asked ∷ Page ∷ []) n Room

placed : (e : Refusal) → (cause_at (number_of e) ≡ e) × (number_of e < 13)
placed Size = (refl, omega arith)
placed Places = (refl, omega arith)
placed Names = (refl, omega arith)
placed Bindings = (refl, omega arith)
placed Word = (refl, omega arith)
placed Depth = (refl, omega arith)
placed Entries = (refl, omega arith)
placed Asked = (refl, omega arith)
placed Page = (refl, omega arith)
placed Room = (refl, omega arith)

pub same_cause : (a b : Refusal) → number_of a ≡ number_of b → a ≡ b
same_cause a b n = sym (placed a).0 ∙ ap cause_at n ∙ (placed b).0

pub small : (e : Refusal) → number_of e < 13
small e = (placed e).1

-- What an event gives each list: one entry, or nothing where it is of another sort; six words of no sort are a finding (`no-sort`).
use Rattle.std.specs.Prelude.{◌≢◌, Option, None, Some}
use Prim.Native.Nat.{ℕ, zero, suc, ◌+◌, ◌*◌, ◌≤◌}
use native.Mathlib.Omega.{arith}
use mathlib.Core.Path.{◌≡◌, refl, sym, ap, subst, ◌∙◌}
use mathlib.Core.Bool.{Bool, false}
use lib.Dec.{eqb}
use mathlib.Core.List.{List, [], ◌∷◌}
use borrow.Author.Tests.{ne_eqb}
use lib.ListN.{length}
use lib.Seq.{sets}
use Rattle.scope.specs.Flat.{scope_width, parent_of}
use Rattle.scope.specs.Graph.{scope}
use Rattle.semantics.specs.Log as log
use Rattle.semantics.specs.Log.{find, scope_of, bind_of, answer_of, find_of}
use Rattle.theorems.specs.Woven.{barrier_of}
use Rattle.steps.specs.Said.{sort_number, event_of}
use Rattle.steps.specs.declared.log.Sort.{Sort}
use Rattle.steps.specs.declared.log.Sort.TheVariants as sorts
use Rattle.finding.specs.Flat.{finding_width, finding_words}
use Rattle.finding.specs.Records.{words_of, finding_by}
use Rattle.finding.specs.Logged.{logged}
use Rattle.finding.specs.declared.Finding as records
use Rattle.entries.specs.Filled.{parent_word, scope_words}
use Rattle.entries.specs.Adding.{Becomes, after}
use Rattle.entries.specs.declared.Binding as bindings
use Rattle.entries.specs.declared.Found as founds
use Rattle.std.specs.declared.option.Option as options
use Rattle.lists_fill.specs.Adding.{said}
use Rattle.lists_fill.specs.Weaving.{barrier_in}
use Rattle.lists_fill.specs.declared.Logged.{Logged}
use Rattle.lists_fill.specs.declared.Logged.TheVariants.{Scope, Binding, Variable, Name, Finding}
use Rattle.entries.proofs.Filling.{sized-scope, sized-finding}
use Rattle.entries.proofs.Adding.{one-added}

module _ (id : ℕ → ℕ) where
  pub no-sort : {sort : ℕ} (a b c d e : ℕ) → ((s : Sort) → sort_number s ≢ sort) → event_of id sort a b c d e ≡ find (logged sort a b c d e)
  no-sort {sort} a b c d e h =
      let other : (s : Sort) → eqb sort (sort_number s) ≡ false = λ s. ne_eqb sort (sort_number s) (λ q. h s (sym q)) in
      rw (other sorts.Scope, other sorts.Binding, other sorts.Rebinding, other sorts.Variable, other sorts.Name)

  pub no-scope : (e : Logged) → ((k p a b : ℕ) → e ≡ Scope k p a b → ⊥) → scope_of (said id e) ≡ []
  unfolding scope_of
  no-scope (Scope k p a b) h = absurd (h k p a b refl)
  no-scope (Binding again b) h = refl
  no-scope (Variable f) h = refl
  no-scope (Name x f) h = refl
  no-scope (Finding f) h = refl

  pub no-barrier : (e : Logged) → ((k p a b : ℕ) → e ≡ Scope k p a b → ⊥) → barrier_in (said id e) ≡ None
  unfolding barrier_in
  no-barrier (Scope k p a b) h = absurd (h k p a b refl)
  no-barrier (Binding again b) h = refl
  no-barrier (Variable f) h = refl
  no-barrier (Name x f) h = refl
  no-barrier (Finding f) h = refl

  pub no-binding : (e : Logged) → ((again : Bool) (b : bindings.Binding) → e ≡ Binding again b → ⊥) → bind_of (said id e) ≡ []
  unfolding bind_of
  no-binding (Scope k p a b) h = refl
  no-binding (Binding again b) h = absurd (h again b refl)
  no-binding (Variable f) h = refl
  no-binding (Name x f) h = refl
  no-binding (Finding f) h = refl

  pub no_answer : (e : Logged) → ((f : founds.Found) → e ≡ Variable f → ⊥) → ((x : ℕ) (f : options.Option founds.Found) → e ≡ Name x f → ⊥) → answer_of (said id e) ≡ []
  unfolding answer_of
  no_answer (Scope k p a b) h g = refl
  no_answer (Binding again b) h g = refl
  no_answer (Variable f) h g = absurd (h f refl)
  no_answer (Name x f) h g = absurd (g x f refl)
  no_answer (Finding f) h g = refl

  pub no-finding : (e : Logged) → ((f : records.Finding) → e ≡ Finding f → ⊥) → find_of (said id e) ≡ []
  unfolding find_of
  no-finding (Scope k p a b) h = refl
  no-finding (Binding again b) h = refl
  no-finding (Variable f) h = refl
  no-finding (Name x f) h = refl
  no-finding (Finding f) h = absurd (h f refl)

-- the words of an event after m entries
parent-word : (b : ℕ) → parent_word (parent_of b) ≡ b
parent-word zero = refl
parent-word (suc b) = refl

-- and those of a record are its finding's
finding-words : (f : records.Finding) → finding_words (finding_by f) ≡ words_of f
finding-words f = go f.code f.start f.end f.mark f.name f.one f.two
  where
    go : (c a b m x o t : ℕ) → finding_words (finding_by (record { code = c; start = a; end = b; name = x; one = o; two = t; mark = m })) ≡ c ∷ a ∷ b ∷ x ∷ o ∷ t ∷ m ∷ []
    go c a b zero zero o t = refl
    go c a b zero (suc x) o t = refl
    go c a b (suc m) x o t = refl

module _ (out : List ℕ) (m : ℕ) where
  pub one-scope : (k p a b : ℕ) → (m + 1) * scope_width ≤ length out → Becomes 1 scope_words (after (scope k (parent_of p) a b ∷ [])) out (sets out (m * scope_width) (k ∷ p ∷ a ∷ b ∷ [])) m (m + 1)
  unfolding scope_words
  one-scope k p a b h = rw parent-word at (one-added scope_words scope_width sized-scope out m (scope k (parent_of p) a b) (omega arith))

  pub one_told : (f : records.Finding) {g : log.Finding} → finding_by f ≡ g → (m + 1) * finding_width ≤ length out → Becomes 1 finding_words (after (g ∷ [])) out (sets out (m * finding_width) (words_of f)) m (m + 1)
  one_told f {g} e h =
      let stored : List ℕ → Type 0 = λ ws. Becomes 1 finding_words (after (g ∷ [])) out (sets out (m * finding_width) ws) m (m + 1) in
      subst stored (ap finding_words (sym e) ∙ finding-words f) (one-added finding_words finding_width sized-finding out m g (omega arith))

  pub one-finding : (id : ℕ → ℕ) (f : records.Finding) → (m + 1) * finding_width ≤ length out → Becomes 1 finding_words (after (find_of (said id (Finding f)))) out (sets out (m * finding_width) (words_of f)) m (m + 1)
  unfolding find_of
  one-finding id f h = one_told f refl h

-- the barrier above a scope, where it is a Root
module _ (id : ℕ → ℕ) (k p a b : ℕ) where
  pub not-root : (k ≡ 1 → ⊥) → barrier_in (said id (Scope k p a b)) ≡ None
  unfolding barrier_in
  not-root h = go (parent_of p)
    where
      go : (o : Option ℕ) → barrier_of (scope k o a b) ≡ None
      go None = refl
      go (Some p) = rw (ne_eqb k 1 h)

  pub root : k ≡ 1 → barrier_in (said id (Scope k p a b)) ≡ parent_of p
  unfolding barrier_in
  root h = rw h (go (parent_of p))
    where
      go : (o : Option ℕ) → barrier_of (scope 1 o a b) ≡ o
      go None = refl
      go (Some p) = refl

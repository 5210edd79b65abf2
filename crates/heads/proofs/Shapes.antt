-- What `bare` keeps of a reader put together from others: that something is read and what follows, or the cause, and not what it is.
use Prim.Native.Nat.{ℕ}
use mathlib.Core.Path.{◌≡◌, refl}
use mathlib.Core.List.{List}
use Rattle.heads.specs.Got.{Got, ok, no, bind, next, bare}

-- how words are read on, where only what follows them matters
abbrev pub Rest : Type 0
Rest = List ℕ → Got (Unit {0})

module _ {A B : Type 0} where
  -- what follows goes by the words alone
  pub bare-bind : (g : Got A) (k : A → List ℕ → Got B) (h : Rest) → ((a : A) (r : List ℕ) → bare (k a r) ≡ h r) → bare (bind g k) ≡ next (bare g) h
  bare-bind (ok a r) k h e = e a r
  bare-bind (no c) k h e = refl

  -- what follows goes by what was read
  pub bare-head : (g : Got A) (k : A → List ℕ → Got B) (h : A → Rest) → ((a : A) (r : List ℕ) → bare (k a r) ≡ h a r) → bare (bind g k) ≡ bind g h
  bare-head (ok a r) k h e = e a r
  bare-head (no c) k h e = refl

  -- what follows goes by what was read for a while, and then by the words alone
  pub bare-row : (g : Got A) (k : A → List ℕ → Got B) (one : A → Rest) (h : Rest) → ((a : A) (r : List ℕ) → bare (k a r) ≡ next (one a r) h) → bare (bind g k) ≡ next (bind g one) h
  bare-row (ok a r) k one h e = e a r
  bare-row (no c) k one h e = refl

  -- nothing more is read
  pub bare-map : (g : Got A) (f : A → B) → bare (bind g (λ a r. ok (f a) r)) ≡ bare g
  bare-map (ok a r) f = refl
  bare-map (no c) f = refl

  -- what follows, put another way
  pub bind-each : (g : Got A) (k l : A → List ℕ → Got B) → ((a : A) (r : List ℕ) → k a r ≡ l a r) → bind g k ≡ bind g l
  bind-each (ok a r) k l e = e a r
  bind-each (no c) k l e = refl

  pub bind-bind : {C : Type 0} (g : Got A) (k : A → List ℕ → Got B) (l : B → List ℕ → Got C) → bind (bind g k) l ≡ bind g (λ a r. bind (k a r) l)
  bind-bind (ok a r) k l = refl
  bind-bind (no c) k l = refl

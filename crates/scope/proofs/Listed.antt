-- The entries of a list: those in use are arrays of a flat list's words, and a loop comes to them one after another.
use Rattle.std.proofs.Common.{◌≡◌, ℕ, zero, suc, ◌+◌, ◌<◌, ◌≤◌, List, [], ◌∷◌, length, get_or, take, drop, map, refl, ap, ◌∙◌, get_or-take, arith}
use Rattle.std.proofs.lemmas.List.{length-map}
use Rattle.std.proofs.Math.ListN.{drop_of_length-le}
use Rattle.std.proofs.Math.Numerals.{add-one}
use Rattle.std.proofs.Math.Seq.{drop-cons}
use Rattle.std.specs.Simd.{first_chunks}
use Rattle.std.specs.Prelude.{Bool, true, false, cond, ◌&&◌, ◌||◌, eqb, Some}
use Rattle.std.specs.List.{find, list_any}
use Rattle.std.specs.Option.{option_map}
use Rattle.scope.specs.Graph.{name, same_name}
use Rattle.scope.specs.Lookup.{bound_in, carries}
use Rattle.scope.specs.Flat.{entries_of, scope_of, scopes_of, binding_of, bindings_of, carried_of, carrieds_of}

-- there are as many entries as arrays
pub ruleset counted = (length-map)

module _ {A : Type 0} (one : List ℕ → A) where
  module _ (es : List (List ℕ)) (i : ℕ) where
    pub next_listed : i < length es → map one (drop i es) ≡ one (get_or es i []) ∷ map one (drop (i + 1) es)
    next_listed h = rw (add-one, drop-cons es i [])

    pub none_listed : length es ≤ i → map one (drop i es) ≡ []
    none_listed h = rw (drop_of_length-le es h)

  listed : (width : ℕ) → ((ws : List ℕ) → one (take width ws) ≡ one ws) → (n : ℕ) (ws : List ℕ) → map one (first_chunks width n ws) ≡ entries_of width one n ws
  unfolding entries_of
  listed width same zero ws = refl
  listed width same (suc n) ws = rw (same ws, listed width same n (drop width ws))

-- an entry is made of its own words
word : (width i : ℕ) (ws : List ℕ) → i < width → get_or (take width ws) i 0 ≡ get_or ws i 0
word width i ws h = rw get_or-take

pub scopes_listed : (n : ℕ) (ws : List ℕ) → map scope_of (first_chunks 4 n ws) ≡ scopes_of n ws
scopes_listed = listed scope_of 4 (λ ws. rw (word 4 0 ws (omega arith), word 4 1 ws (omega arith), word 4 2 ws (omega arith), word 4 3 ws (omega arith)))

pub bindings_listed : (n : ℕ) (ws : List ℕ) → map binding_of (first_chunks 7 n ws) ≡ bindings_of n ws
bindings_listed = listed binding_of 7 (λ ws. rw (word 7 0 ws (omega arith), word 7 1 ws (omega arith), word 7 2 ws (omega arith), word 7 3 ws (omega arith), word 7 4 ws (omega arith), word 7 5 ws (omega arith), word 7 6 ws (omega arith)))

pub carried_listed : (n : ℕ) (ws : List ℕ) → map carried_of (first_chunks 4 n ws) ≡ carrieds_of n ws
carried_listed = listed carried_of 4 (λ ws. rw (word 4 0 ws (omega arith), word 4 1 ws (omega arith), word 4 2 ws (omega arith), word 4 3 ws (omega arith)))

-- a search among the entries is a search among their words
pub bound_found : (es : List (List ℕ)) (s m x : ℕ) → option_map (λ e. get_or e 2 0) (find (λ e. eqb (get_or e 0 0) s && (eqb (get_or e 6 0) m && eqb (get_or e 1 0) x)) es) ≡ bound_in (map binding_of es) s (name m x)
unfolding bound_in same_name
bound_found [] s m x = refl
bound_found (e ∷ es) s m x = go (eqb (get_or e 0 0) s && (eqb (get_or e 6 0) m && eqb (get_or e 1 0) x)) (bound_found es s m x)
  where
    go : (b : Bool) → option_map (λ e. get_or e 2 0) (find (λ e. eqb (get_or e 0 0) s && (eqb (get_or e 6 0) m && eqb (get_or e 1 0) x)) es) ≡ bound_in (map binding_of es) s (name m x) →
        option_map (λ (e : List ℕ). get_or e 2 0) (cond b (Some e) (find (λ e. eqb (get_or e 0 0) s && (eqb (get_or e 6 0) m && eqb (get_or e 1 0) x)) es)) ≡ cond b (Some (get_or e 2 0)) (bound_in (map binding_of es) s (name m x))
    go true h = refl
    go false h = h

pub carries_any : (es : List (List ℕ)) (s m x : ℕ) → list_any (λ e. eqb (get_or e 0 0) s && (eqb (get_or e 3 0) m && eqb (get_or e 1 0) x)) es ≡ carries (map carried_of es) s (name m x)
unfolding carries same_name
carries_any [] s m x = refl
carries_any (e ∷ es) s m x = ap (◌||◌ (eqb (get_or e 0 0) s && (eqb (get_or e 3 0) m && eqb (get_or e 1 0) x))) (carries_any es s m x)

-- so where what is found is told
pub carried_where : (es : List (List ℕ)) (s m x : ℕ) {b : Bool} → b ≡ list_any (λ e. eqb (get_or e 0 0) s && (eqb (get_or e 3 0) m && eqb (get_or e 1 0) x)) es → b ≡ carries (map carried_of es) s (name m x)
carried_where es s m x e = e ∙ carries_any es s m x

-- the first arrays of all arrays are the first
pub front : {X : Type 0} (n k m : ℕ) (ws : List X) → k ≤ m → take k (first_chunks n m ws) ≡ first_chunks n k ws
front n zero m ws h = refl
front n (suc k) zero ws h = absurd (omega arith)
front n (suc k) (suc m) ws h = ap (λ t. take n ws ∷ t) (front n k m (drop n ws) (omega arith))

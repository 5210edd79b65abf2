-- Laws of what is stored in lists: words copied to a place are stored there one by one, and where a flat list begins with a list of
-- findings, the records that `into` stores are theirs; what is stored in a list's front is stored in the list (`into-front`).
use mathlib.Core.Path.{◌≡◌, refl, sym, ap, ◌∙◌}
use Prim.Native.Nat.{ℕ, zero, suc, ◌+◌, ◌*◌, ◌<◌, ◌≤◌}
use native.Mathlib.Nat.{not-suc-le-zero, le_of_suc-le-suc, le_of_lt, le_refl}
use native.Mathlib.Omega.{arith}
use mathlib.Core.List.{List, [], ◌∷◌, ◌++◌, map, flat_map, append_assoc}
use lib.ListN.{length, get_or, set, take, drop, length-map, length-set, take-append-drop}
use borrow.Rule.Slice.PartMut.{put_mid}
use Rattle.std.proofs.lemmas.Slice.{put_mid-paste}
use Rattle.std.proofs.lemmas.List.Edits.{paste_all}
use lib.Seq.{sets, sets-eq, length-take-le, take-length, take-suc, drop-cons, append_snoc, set_at, set-append_left}
use Rattle.semantics.specs.Log.{finding}
use Rattle.semantics.specs.Log as log
use Rattle.finding.specs.Flat.{name_word, mark_word, finding_words}
use Rattle.finding.specs.declared.Finding.{Finding}
use Rattle.finding.specs.Records.{nothing, nth, record_of, record_at, into, with_records}

-- words that are copied over a part of a list are stored there one by one
pub copied-sets : (at k : ℕ) (l ys vs : List ℕ) → ys ≡ vs → k ≡ length vs → at + k ≤ length l → put_mid at k l ys ≡ sets l at vs
copied-sets at k l ys vs e n room =
    let long : at + length vs ≤ length l = omega arith in
    put_mid-paste at k l ys vs k e refl n ∙ paste_all l at vs k n ∙ rw n (sym (rw append_assoc at (sets-eq vs l at long)))

-- what is stored in the front of a list is stored in the list
length_into : (fs : List Finding) (flat : List ℕ) (n : ℕ) → length (into fs flat n) ≡ length fs
unfolding into
length_into fs flat zero = refl
length_into fs flat (suc n) = simp length-set (length_into fs flat n)

pub into-front : (fs : List Finding) (flat : List ℕ) (n k : ℕ) → k ≤ n → n ≤ length fs → into (take n fs) flat k ++ drop n fs ≡ into fs flat k
unfolding into
into-front fs flat n zero h l = take-append-drop n fs
into-front fs flat n (suc k) h l =
    let front = into (take n fs) flat k in
    sym (set-append_left front (drop n fs) k (record_at flat k) (omega (arith, length_into (take n fs) flat k, length-take-le n fs l)))
    ∙ ap (λ (t : List Finding). set t k (record_at flat k)) (into-front fs flat n k (omega arith) l)

-- the record after seven words is the record of what follows them
module _ (a b c d e f g : ℕ) (l : List ℕ) where
  abbrev seven : List ℕ
  seven = a ∷ b ∷ c ∷ d ∷ e ∷ f ∷ g ∷ l

  past : (i k : ℕ) → get_or seven (suc i * 7 + k) 0 ≡ get_or l (i * 7 + k) 0
  past i k = ap (λ (n : ℕ). get_or seven n 0) (seven-more i k)
    where
      seven-more : (i k : ℕ) → suc i * 7 + k ≡ suc (suc (suc (suc (suc (suc (suc (i * 7 + k)))))))
      seven-more i k = omega arith

  record-past : (i : ℕ) → record_at seven (suc i) ≡ record_at l i
  record-past i = λ j. record { code = past_first i j; start = past i 1 j; end = past i 2 j; name = past i 3 j; one = past i 4 j; two = past i 5 j; mark = past i 6 j }
    where
      seven-more : (i : ℕ) → suc i * 7 ≡ suc (suc (suc (suc (suc (suc (suc (i * 7)))))))
      seven-more i = omega arith

      past_first : (i : ℕ) → get_or seven (suc i * 7) 0 ≡ get_or l (i * 7) 0
      past_first i = ap (λ (n : ℕ). get_or seven n 0) (seven-more i)

record_of_lem : (fs : List log.Finding) (rest : List ℕ) (i : ℕ) → i < length fs → record_at (flat_map finding_words fs ++ rest) i ≡ nth (map record_of fs) i
unfolding flat_map
record_of_lem [] rest i h = absurd (not-suc-le-zero h)
record_of_lem (finding c a b x o t ∷ fs) rest zero h = refl
record_of_lem (finding c a b x o t ∷ fs) rest (suc i) h = record-past c a b (name_word x) o t (mark_word x) (flat_map finding_words fs ++ rest) i ∙ record_of_lem fs rest i (le_of_suc-le-suc h)

-- a store at n of a list whose front is the first n of gs
stored : (gs ys : List Finding) (n : ℕ) → n < length gs → n < length ys → set (take n gs ++ drop n ys) n (nth gs n) ≡ take (suc n) gs ++ drop (suc n) ys
stored gs ys n hg hy =
    ap (λ (t : List Finding). set (take n gs ++ t) n (nth gs n)) (drop-cons ys n nothing hy)
    ∙ set_at (take n gs) (nth ys n) (drop (suc n) ys) (nth gs n) n (length-take-le n gs (le_of_lt hg))
    ∙ sym (append_snoc (take n gs) (nth gs n) (drop (suc n) ys))
    ∙ sym (ap (λ (t : List Finding). t ++ drop (suc n) ys) (take-suc gs n nothing hg))

module _ (old : List Finding) (fs : List log.Finding) (rest : List ℕ) where
  abbrev gs : List Finding
  gs = map record_of fs

  -- the first n of them
  some : (n : ℕ) → n ≤ length fs → n ≤ length old → into old (flat_map finding_words fs ++ rest) n ≡ take n gs ++ drop n old
  unfolding into
  some zero hf ho = refl
  some (suc n) hf ho =
      ap (λ (t : List Finding). set t n (record_at (flat_map finding_words fs ++ rest) n)) (some n (le_of_lt hf) (le_of_lt ho))
      ∙ ap (set (take n gs ++ drop n old) n) (record_of_lem fs rest n hf)
      ∙ stored gs old n (rw (length-map fs record_of) hf) ho

  pub into-records : {flat : List ℕ} → flat ≡ flat_map finding_words fs ++ rest → length fs ≤ length old → into old flat (length fs) ≡ with_records old fs
  unfolding with_records
  into-records {flat} e h =
      ap (λ (l : List ℕ). into old l (length fs)) e
      ∙ some (length fs) (le_refl (length fs)) h
      ∙ ap (λ (n : ℕ). take n gs ++ drop (length fs) old) (sym (length-map fs record_of))
      ∙ ap (λ (t : List Finding). t ++ drop (length fs) old) (take-length gs)

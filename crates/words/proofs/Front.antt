-- A text that fits is written whole and answered by its length.
use Prim.Native.Nat.{ℕ, ◌≤◌}
use mathlib.Core.Path.{◌≡◌, refl}
use mathlib.Core.List.{List, ◌++◌}
use borrow.Author.Tests.{le-leb}
use lib.ListN.{length, drop}
use Rattle.words.specs.Front.{put_front, put_length}

module _ (text page : List ℕ) (k : ℕ) (long : length text ≡ k) where
  pub put-fits : k ≤ length page → (k ≡ put_length text page) × (text ++ drop k page ≡ put_front text page)
  unfolding put_front put_length
  put-fits h = rw (long, le-leb k (length page) h) (refl, refl)

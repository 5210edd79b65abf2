-- What is seen of a check call that is lent the first n entries of a list of 2,048 marker records.
use Rattle.refusal.specs.declared.Refusal.{Refusal}
use Rattle.std.specs.Prelude.{ℕ, ◌≡◌, true, List, ◌++◌, take, drop, replicate, Result}
use Rattle.finding.specs.declared.Finding.{Finding}
use Rattle.finding.specs.Records.{out_of}
use Rattle.checker.specs.Checked.{Lent, answered}
use Rattle.checker.specs.declared.Counts.{Counts}
use Rattle.records.specs.Checked.{answer_for, left_for}

-- the list to begin with
unfoldable pub marks : Finding → List Finding
marks f = replicate 2048 f

-- the lent lists with these records
abbrev pub lent_with : {F : Type 0} → Lent F → List Finding → Lent Finding
lent_with l records = record { scopes = l.scopes; bindings = l.bindings; carried = l.carried; recorded = l.recorded; findings = records }

abbrev pub marked : {F : Type 0} → Lent F → ℕ → Finding → Lent Finding
marked l n f = lent_with l (take n (marks f))

-- the list after the call: what was lent as the call leaves it, and the markers after it
unfoldable pub after : List ℕ → Lent Finding → ℕ → Finding → List Finding
after s l n f = (left_for true s l).findings ++ drop n (marks f)

-- the call's answer, and the list's records as they are copied over flat words
abbrev pub Ran : List ℕ → Lent Finding → ℕ → Finding → Result Counts Refusal → (before flat : List ℕ) → Type 0
Ran s l n f r before flat = (answered r ≡ answer_for true s l) × (flat ≡ out_of before (after s l n f) 2048)

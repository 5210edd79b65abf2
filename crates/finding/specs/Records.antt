-- Finding records, as their words are (Flat), and how they go into a lent list.
use Rattle.std.specs.Prelude.{ℕ, zero, suc, ◌+◌, ◌*◌, List, [], ◌∷◌, ◌++◌, map, length, get_or, set, drop}
use Rattle.std.proofs.lemmas.List.Edits.{sets}
use Rattle.finding.specs.Flat.{finding_width, name_word, mark_word, cited_by}
use Rattle.semantics.specs.Log.{finding}
use Rattle.semantics.specs.Log as log
use Rattle.finding.specs.declared.Finding.{Finding}

-- a record of zeros, for what lies past the end
abbrev pub nothing : Finding
nothing = record { code = 0; start = 0; end = 0; name = 0; one = 0; two = 0; mark = 0 }

abbrev pub nth : List Finding → ℕ → Finding
nth fs i = get_or fs i nothing

-- a finding of the definition as a record
abbrev pub record_of : log.Finding → Finding
record_of (finding c a b x o t) = record { code = c; start = a; end = b; name = name_word x; one = o; two = t; mark = mark_word x }

-- a record as a finding of the definition
abbrev pub finding_by : Finding → log.Finding
finding_by f = finding f.code f.start f.end (cited_by f.mark f.name) f.one f.two

-- the six words of a log from p on
abbrev pub six_at : List ℕ → ℕ → List ℕ
six_at l p = get_or l p 0 ∷ get_or l (p + 1) 0 ∷ get_or l (p + 2) 0 ∷ get_or l (p + 3) 0 ∷ get_or l (p + 4) 0 ∷ get_or l (p + 5) 0 ∷ []

-- the record at place i of a flat list, seven words a record
abbrev pub record_at : List ℕ → ℕ → Finding
record_at flat i = record {
  code = get_or flat (i * finding_width) 0;
  start = get_or flat (i * finding_width + 1) 0;
  end = get_or flat (i * finding_width + 2) 0;
  name = get_or flat (i * finding_width + 3) 0;
  one = get_or flat (i * finding_width + 4) 0;
  two = get_or flat (i * finding_width + 5) 0;
  mark = get_or flat (i * finding_width + 6) 0;
}

-- fs with its first n entries the first n records of a flat list
unfoldable pub into : List Finding → List ℕ → ℕ → List Finding
into fs flat zero = fs
into fs flat (suc n) = set (into fs flat n) n (record_at flat n)

-- a record's seven words
abbrev pub words_of : Finding → List ℕ
words_of f = f.code ∷ f.start ∷ f.end ∷ f.name ∷ f.one ∷ f.two ∷ f.mark ∷ []

-- a flat list with its first n records the first n of fs
unfoldable pub out_of : List ℕ → List Finding → ℕ → List ℕ
out_of flat fs zero = flat
out_of flat fs (suc n) = sets (out_of flat fs n) (n * finding_width) (words_of (nth fs n))

-- the records of findings at the front of a list, "entries past a count are untouched"
unfoldable pub with_records : List Finding → List log.Finding → List Finding
with_records old fs = map record_of fs ++ drop (length fs) old

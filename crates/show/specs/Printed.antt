-- What the programs print of a sheet, warnings on: its listing, or its refusal (document 01, "Label-desk cases").
use Rattle.std.specs.Prelude.{ℕ, true, cond, List, ◌++◌, leb, length}
use Rattle.words.specs.Decimal.{decimal}
use Rattle.sheet.specs.Read.{Sheet, accepted, refused}
use Rattle.texts.specs.Bytes.{bytes}
use Rattle.listing.specs.Listing.{listing}

-- "the program's page has 65,536 bytes"
abbrev pub page_size : ℕ
page_size = 65536

-- "A refusal prints `refused`, a blank and its number"
unfoldable pub refusal_text : ℕ → List ℕ
refusal_text c = (bytes "refused " ++ decimal c) ++ bytes "\n"

-- a text that fits the page; else cause 10, "longer than the lent bytes"
unfoldable pub on_page : Sheet (List ℕ) → List ℕ
on_page (accepted text) = cond (leb (length text) page_size) text (refusal_text 10)
on_page (refused c) = refusal_text c

unfoldable pub printed : List ℕ → List ℕ
printed s = on_page (listing true s)

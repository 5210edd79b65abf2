-- The listing of a sheet's bytes, or its refusal: 1 to 6, and 8 where a list of 2,048 entries is too short for the answer (document 02, CR 2).
use Rattle.std.specs.Prelude.{ℕ, Bool, ◌&&◌, List, leb, length}
use Rattle.sheet.specs.Statement.{Statement}
use Rattle.sheet.specs.Olds.{old_exists}
use Rattle.sheet.specs.Read.{Sheet, accepted, then', unless, read_sheet}
use Rattle.semantics.specs.Lists.{scopes, bindings, carried_list, recorded, findings}
use Rattle.lines.specs.Lines.{listed}

-- "Listing and programs work with lists of 2,048 entries each"
abbrev pub entries : ℕ
entries = 2048

unfoldable pub fits : Bool → Statement → Bool
fits warns st =
    leb (length (scopes warns st)) entries
    && (leb (length (bindings warns st)) entries
    && (leb (length (carried_list warns st)) entries && (leb (length (recorded warns st)) entries && leb (length (findings warns st)) entries)))

unfoldable pub listing : Bool → List ℕ → Sheet (List ℕ)
listing warns s = then' (read_sheet s) (λ st. unless 8 (fits warns st) (accepted (listed st.names (findings warns st) (old_exists st))))

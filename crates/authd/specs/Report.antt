-- What is told of a table when it closes.
use Rattle.std.specs.Prelude.{ℕ, List, [], ◌∷◌, ◌++◌, codes, decimal}
use Rattle.nonce_table.specs.declared.closing.Closed.{Closed}

-- `calls N issued N admitted N repeated N`
abbrev pub report_line : Closed → List ℕ
report_line closed =
    codes "calls " ++ decimal closed.calls ++ codes " issued " ++ decimal closed.issued ++ codes " admitted " ++ decimal closed.admitted
    ++ codes " repeated " ++ decimal closed.repeated ++ 10 ∷ []

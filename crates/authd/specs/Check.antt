-- What `check` does: it reads a store and spaces, and prints how many there are of each.
use Rattle.std.specs.Prelude.{◌≡◌, ℕ, List, [], ◌∷◌, ◌++◌, length, Result, Ok, Err, codes, decimal}
use Rattle.auth_decide.specs.declared.site.Site.{Site}
use Rattle.connection_loop.specs.Account.{LinkState}
use Rattle.origin_core.specs.Outside.{FilesState}
use Rattle.authd.specs.Endings.{Ending}
use Rattle.authd.specs.Loading.{LoadsSite}
use Rattle.authd.specs.Printing.{Prints}
use Rattle.authd.specs.declared.failure.Failure.{Failure}

-- `store N spaces M`
abbrev pub counts_line : ℕ → ℕ → List ℕ
counts_line entries spaces = codes "store " ++ decimal entries ++ codes " spaces " ++ decimal spaces ++ 10 ∷ []

-- Without a site nothing is printed.
abbrev pub PrintsCounts : Result Site Failure → LinkState → LinkState → Ending → Type 0
PrintsCounts (Err other) link link' ending = (ending ≡ Err other) × (link' ≡ link)
PrintsCounts (Ok site) link link' ending =
    (link'.left ≡ link.left) × Prints (counts_line (length site.store) (length site.spaces)) link.written link'.written ending

-- The files are read as for a site without files of its own, the store first.
abbrev pub Checks : {F : Type 0} → (F → FilesState) → List ℕ → List ℕ → F → F → LinkState → LinkState → Ending → Type 0
Checks at store spaces files files' link link' ending =
    (site : Result Site Failure) × LoadsSite at files files' store spaces [] site × PrintsCounts site link link' ending

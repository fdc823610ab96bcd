-- Lists whose items each fit what stands before them.
use Rattle.std.specs.Prelude.{List, [], ◌∷◌, ◌++◌}

-- each item fits the items before it, where `before` stands before the first
abbrev pub EachFits : {T : Type 0} → (List T → T → Type 0) → List T → List T → Type 0
EachFits Fits before [] = Unit {0}
EachFits Fits before (item ∷ items) = Fits before item × EachFits Fits (before ++ item ∷ []) items

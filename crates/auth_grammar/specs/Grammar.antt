-- The forms of an element, and of a list of elements (RFC 9110 sections 5.6 and 11). Every byte knows its place, so that names do.
use Rattle.std.specs.Prelude.{◌≡◌, ℕ, Bool, ◌⊎◌, ◌+◌, List, [], ◌∷◌, ◌++◌, IsTrue}
use Rattle.auth_grammar.specs.declared.kinds.Kind.{Kind}
use Rattle.auth_grammar.specs.Kinds.{kind_of, is_token, is_token68, is_white, is_space, is_equals, is_quotable, is_escapable}
use Rattle.auth_grammar.specs.declared.items.Param.{Param}
use Rattle.auth_grammar.specs.declared.elements.Element.{Element}
use Rattle.auth_grammar.specs.declared.elements.Element.TheVariants.{Blank, Scheme, SchemeToken68, SchemeParam, Further}

-- a byte of a text, and its place there
pub record Spot : Type 0 where
  pub at : ℕ
  pub byte : ℕ

-- a text whose bytes know their places
abbrev pub Text : Type 0
Text = List Spot

-- the bytes, the first of which stands at a place
abbrev pub spots : ℕ → List ℕ → Text
spots at [] = []
spots at (b ∷ text) = record { at = at; byte = b } ∷ spots (at + 1) text

-- the bytes without their places
abbrev pub bytes : Text → List ℕ
bytes [] = []
bytes (b ∷ text) = b.byte ∷ bytes text

-- the text is not empty and begins at a place
abbrev pub StartsAt : Text → ℕ → Type 0
StartsAt [] at = ⊥
StartsAt (b ∷ text) at = b.at ≡ at

-- each byte is of such a kind
abbrev pub AllOf : (Kind → Bool) → Text → Type 0
AllOf p [] = Unit {0}
AllOf p (b ∷ text) = IsTrue (p (kind_of b.byte)) × AllOf p text

-- one or more bytes, each of such a kind
abbrev pub SomeOf : (Kind → Bool) → Text → Type 0
SomeOf p [] = ⊥
SomeOf p (b ∷ text) = IsTrue (p (kind_of b.byte)) × AllOf p text

-- a token68: one or more of its bytes, then any number of `=` (RFC 9110 section 11.2)
abbrev pub IsToken68 : Text → Type 0
IsToken68 text = (body equals : Text) × (text ≡ body ++ equals) × SomeOf is_token68 body × AllOf is_equals equals

-- what stands between two quotes means a value: each byte stands for itself, or after a backslash (RFC 9110 section 5.6.4)
abbrev pub Quotes : Text → List ℕ → Type 0
Quotes text [] = text ≡ []
Quotes text (v ∷ value) =
    ((b : Spot) × (rest : Text) × (text ≡ b ∷ rest) × (b.byte ≡ v) × IsTrue (is_quotable (kind_of v)) × Quotes rest value)
    ⊎ ((c b : Spot) × (rest : Text) × (text ≡ c ∷ b ∷ rest) × (c.byte ≡ 92) × (b.byte ≡ v)
    × IsTrue (is_escapable (kind_of v)) × Quotes rest value)

-- a value: a token, or what has the form of a token68, or a quoted string
abbrev pub IsValue : Text → List ℕ → Type 0
IsValue text value =
    (SomeOf is_token text × (bytes text ≡ value))
    ⊎ (IsToken68 text × (bytes text ≡ value))
    ⊎ ((left right : Spot) × (inner : Text) × (text ≡ left ∷ inner ++ right ∷ []) × (left.byte ≡ 34) × (right.byte ≡ 34)
    × Quotes inner value)

-- a parameter: a name that stands at a place, `=` and a value, with white space round the `=`
abbrev pub IsParam : Text → ℕ → Param → Type 0
IsParam text at p = (name before : Text) × (equals : Spot) × (after value : Text) × (text ≡ name ++ before ++ equals ∷ after ++ value)
    × (bytes name ≡ p.name) × StartsAt name at × (equals.byte ≡ 61)
    × SomeOf is_token name × AllOf is_white before × AllOf is_white after × IsValue value p.value

-- the five forms of an element: nothing, a scheme, a scheme with a token68, a scheme with a parameter, and a parameter
abbrev pub IsForm : Text → Element → Type 0
IsForm text Blank = text ≡ []
IsForm text (Scheme scheme) = (bytes text ≡ scheme) × SomeOf is_token text
IsForm text (SchemeToken68 scheme token68) =
    (name spaces rest : Text) × (text ≡ name ++ spaces ++ rest) × (bytes name ≡ scheme) × (bytes rest ≡ token68)
    × SomeOf is_token name × SomeOf is_space spaces × IsToken68 rest
IsForm text (SchemeParam scheme at param) = (name spaces rest : Text) × (text ≡ name ++ spaces ++ rest) × (bytes name ≡ scheme)
    × SomeOf is_token name × SomeOf is_space spaces × IsParam rest at param
IsForm text (Further at param) = IsParam text at param

-- an element, with white space round its form
abbrev pub IsElement : Text → Element → Type 0
IsElement text element = (left form right : Text) × (text ≡ left ++ form ++ right)
    × AllOf is_white left × AllOf is_white right × IsForm form element

-- the text is these elements, one or more, with a comma between each two (RFC 9110 section 5.6.1)
abbrev pub Splits : Text → List Element → Type 0
Splits text [] = ⊥
Splits text (element ∷ []) = IsElement text element
Splits text (element ∷ next ∷ elements) =
    (front : Text) × (comma : Spot) × (back : Text) × (text ≡ front ++ comma ∷ back) × (comma.byte ≡ 44)
    × IsElement front element × Splits back (next ∷ elements)

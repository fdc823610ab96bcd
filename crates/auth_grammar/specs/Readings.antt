-- An element byte by byte. A reading is one way to understand the bytes that have come of an element; its meaning is which
-- element it makes with the bytes that are left.
use Rattle.std.specs.Prelude.{◌≡◌, ℕ, Bool, true, false, cond, ◌&&◌, ◌⊎◌, List, [], ◌∷◌, ◌++◌, IsTrue, Option, Some, None}
use Rattle.auth_grammar.specs.declared.kinds.Kind.{Kind}
use Rattle.auth_grammar.specs.Kinds.{kind_of, is_token, is_token68, is_white, is_space, is_tab, is_equals, is_quotable, is_escapable, is_quote, is_backslash}
use Rattle.auth_grammar.specs.Grammar.{Spot, Text}
use Rattle.auth_grammar.specs.declared.elements.Element.{Element}
use Rattle.auth_grammar.specs.declared.elements.Element.TheVariants.{Blank, Scheme, SchemeToken68, SchemeParam, Further}

-- which elements may come where parameters, or schemes, may begin
abbrev pub Allowed : Bool → Bool → Element → Type 0
Allowed params schemes Blank = Unit {0}
Allowed params schemes (Scheme s) = IsTrue schemes
Allowed params schemes (SchemeToken68 s x) = IsTrue schemes
Allowed params schemes (SchemeParam s at p) = IsTrue schemes
Allowed params schemes (Further at p) = IsTrue params

-- bytes of a kind go to what was read so far, and then what is left goes on by next
abbrev pub Run : (Kind → Bool) → (List ℕ → Text → Type 0) → List ℕ → Text → Type 0
Run p next sofar [] = next sofar []
Run p next sofar (b ∷ text) = (IsTrue (p (kind_of b.byte)) × Run p next (sofar ++ b.byte ∷ []) text) ⊎ next sofar (b ∷ text)

-- bytes of a kind are passed over
abbrev pub Skip : (Kind → Bool) → (Text → Type 0) → Text → Type 0
Skip p next [] = next []
Skip p next (b ∷ text) = (IsTrue (p (kind_of b.byte)) × Skip p next text) ⊎ next (b ∷ text)

-- one byte of a kind begins a run, or other
abbrev pub Begin : (Kind → Bool) → (ℕ → List ℕ → Text → Type 0) → (Text → Type 0) → Text → Type 0
Begin p next other [] = other []
Begin p next other (b ∷ text) = (IsTrue (p (kind_of b.byte)) × Run p (next b.at) (b.byte ∷ []) text) ⊎ other (b ∷ text)

-- the same where it is allowed
abbrev pub Opens : Bool → (Kind → Bool) → (ℕ → List ℕ → Text → Type 0) → (Text → Type 0) → Text → Type 0
Opens allowed p next other [] = other []
Opens allowed p next other (b ∷ text) = (IsTrue (allowed && p (kind_of b.byte)) × Run p (next b.at) (b.byte ∷ []) text) ⊎ other (b ∷ text)

-- one byte of a kind, or other
abbrev pub One : (Kind → Bool) → (Text → Type 0) → (Text → Type 0) → Text → Type 0
One p next other [] = other []
One p next other (b ∷ text) = (IsTrue (p (kind_of b.byte)) × next text) ⊎ other (b ∷ text)

-- nothing is left
abbrev pub Ends : Type 0 → Text → Type 0
Ends P [] = P
Ends P (b ∷ text) = ⊥

-- inside quotes, after a backslash or not
abbrev pub Within : (List ℕ → Text → Type 0) → Bool → List ℕ → Text → Type 0
Within next true value [] = ⊥
Within next false value [] = ⊥
Within next true value (b ∷ text) = (IsTrue (is_escapable (kind_of b.byte)) × Within next false (value ++ b.byte ∷ []) text) ⊎ ⊥
Within next false value (b ∷ text) =
    (IsTrue (is_quote (kind_of b.byte)) × next value text)
    ⊎ ((IsTrue (is_quotable (kind_of b.byte)) × Within next false (value ++ b.byte ∷ []) text)
    ⊎ ((IsTrue (is_backslash (kind_of b.byte)) × Within next true value text) ⊎ ⊥))

-- an element with a parameter
abbrev pub with_value : Option (List ℕ) → ℕ → List ℕ → List ℕ → Element
with_value None at name value = Further at (record { name = name; value = value })
with_value (Some scheme) at name value = SchemeParam scheme at (record { name = name; value = value })

-- one way to read what has come of an element
pub data Reading : Type 0 where
  Start : (params schemes : Bool) → Reading
  InScheme : (scheme : List ℕ) → Reading
  AfterScheme : (scheme : List ℕ) → Reading
  InToken68 : (scheme text : List ℕ) → Reading
  Padding : (scheme text : List ℕ) → Reading
  InName : (scheme : Option (List ℕ)) (at : ℕ) (name : List ℕ) → Reading
  AfterName : (scheme : Option (List ℕ)) (at : ℕ) (name : List ℕ) → Reading
  AfterEquals : (scheme : Option (List ℕ)) (at : ℕ) (name : List ℕ) → Reading
  InValue : (scheme : Option (List ℕ)) (at : ℕ) (name value : List ℕ) → Reading
  InLoose : (scheme : Option (List ℕ)) (at : ℕ) (name value : List ℕ) → Reading
  LoosePadding : (scheme : Option (List ℕ)) (at : ℕ) (name value : List ℕ) → Reading
  InQuotes : (scheme : Option (List ℕ)) (at : ℕ) (name value : List ℕ) → Reading
  Escaped : (scheme : Option (List ℕ)) (at : ℕ) (name value : List ℕ) → Reading
  Trailing : (made : Element) → Reading

-- what may come before the end of an element that is made
abbrev pub Trail : Element → Element → Text → Type 0
Trail e made = Skip is_white (Ends (made ≡ e))

-- the `=` at the end of a token68 or a loose value
abbrev pub Pads : Element → (List ℕ → Element) → List ℕ → Text → Type 0
Pads e made = Run is_equals (λ text. Trail e (made text))

-- what comes behind the `=` of a parameter
abbrev pub ValueRest : Element → Option (List ℕ) → ℕ → List ℕ → Text → Type 0
ValueRest e s at n =
    Skip is_white (Begin is_token (λ _ v. Trail e (with_value s at n v))
    (Begin is_token68 (λ _. Pads e (with_value s at n))
    (One is_quote (Within (λ v. Trail e (with_value s at n v)) false [])
    (Ends ⊥))))

-- what comes behind the name of a parameter
abbrev pub NameRest : Element → Option (List ℕ) → ℕ → List ℕ → Text → Type 0
NameRest e s at n = Skip is_white (One is_equals (ValueRest e s at n) (Ends ⊥))

-- what comes behind a scheme and spaces where nothing else does: nothing, or a tab and white space
abbrev pub TabRest : Element → List ℕ → Text → Type 0
TabRest e s = One is_tab (Trail e (Scheme s)) (Ends (Scheme s ≡ e))

-- what comes behind a scheme and a space
abbrev pub SpaceRest : Element → List ℕ → Text → Type 0
SpaceRest e s = Skip is_space (Begin is_token68 (λ _. Pads e (SchemeToken68 s)) (Begin is_token (NameRest e (Some s)) (TabRest e s)))

-- what comes behind a scheme
abbrev pub SchemeRest : Element → List ℕ → Text → Type 0
SchemeRest e s = One is_space (SpaceRest e s) (TabRest e s)

-- the bytes that are left make this element of what was read
abbrev pub Means : Element → Reading → Text → Type 0
Means e (Start params schemes) =
    Skip is_white (Opens schemes is_token (λ _. SchemeRest e) (Opens params is_token (NameRest e None) (Ends (Blank ≡ e))))
Means e (InScheme s) = Run is_token (SchemeRest e) s
Means e (AfterScheme s) = SpaceRest e s
Means e (InToken68 s x) = Run is_token68 (Pads e (SchemeToken68 s)) x
Means e (Padding s x) = Pads e (SchemeToken68 s) x
Means e (InName s at n) = Run is_token (NameRest e s at) n
Means e (AfterName s at n) = NameRest e s at n
Means e (AfterEquals s at n) = ValueRest e s at n
Means e (InValue s at n v) = Run is_token (λ w. Trail e (with_value s at n w)) v
Means e (InLoose s at n v) = Run is_token68 (Pads e (with_value s at n)) v
Means e (LoosePadding s at n v) = Pads e (with_value s at n) v
Means e (InQuotes s at n v) = Within (λ w. Trail e (with_value s at n w)) false v
Means e (Escaped s at n v) = Within (λ w. Trail e (with_value s at n w)) true v
Means e (Trailing made) = Trail e made

-- the readings after one more byte, each where its test says so
abbrev pub moves : Kind → Spot → Reading → List (Bool × Reading)
moves k b (Start params schemes) =
    (is_white k, Start params schemes) ∷ (schemes && is_token k, InScheme (b.byte ∷ []))
    ∷ (params && is_token k, InName None b.at (b.byte ∷ [])) ∷ []
moves k b (InScheme s) = (is_token k, InScheme (s ++ b.byte ∷ [])) ∷ (is_space k, AfterScheme s) ∷ (is_tab k, Trailing (Scheme s)) ∷ []
moves k b (AfterScheme s) =
    (is_space k, AfterScheme s) ∷ (is_token68 k, InToken68 s (b.byte ∷ []))
    ∷ (is_token k, InName (Some s) b.at (b.byte ∷ [])) ∷ (is_tab k, Trailing (Scheme s)) ∷ []
moves k b (InToken68 s x) =
    (is_token68 k, InToken68 s (x ++ b.byte ∷ [])) ∷ (is_equals k, Padding s (x ++ b.byte ∷ []))
    ∷ (is_white k, Trailing (SchemeToken68 s x)) ∷ []
moves k b (Padding s x) = (is_equals k, Padding s (x ++ b.byte ∷ [])) ∷ (is_white k, Trailing (SchemeToken68 s x)) ∷ []
moves k b (InName s at n) =
    (is_token k, InName s at (n ++ b.byte ∷ [])) ∷ (is_white k, AfterName s at n) ∷ (is_equals k, AfterEquals s at n) ∷ []
moves k b (AfterName s at n) = (is_white k, AfterName s at n) ∷ (is_equals k, AfterEquals s at n) ∷ []
moves k b (AfterEquals s at n) =
    (is_white k, AfterEquals s at n) ∷ (is_token k, InValue s at n (b.byte ∷ []))
    ∷ (is_token68 k, InLoose s at n (b.byte ∷ [])) ∷ (is_quote k, InQuotes s at n []) ∷ []
moves k b (InValue s at n v) = (is_token k, InValue s at n (v ++ b.byte ∷ [])) ∷ (is_white k, Trailing (with_value s at n v)) ∷ []
moves k b (InLoose s at n v) =
    (is_token68 k, InLoose s at n (v ++ b.byte ∷ [])) ∷ (is_equals k, LoosePadding s at n (v ++ b.byte ∷ []))
    ∷ (is_white k, Trailing (with_value s at n v)) ∷ []
moves k b (LoosePadding s at n v) =
    (is_equals k, LoosePadding s at n (v ++ b.byte ∷ [])) ∷ (is_white k, Trailing (with_value s at n v)) ∷ []
moves k b (InQuotes s at n v) =
    (is_quote k, Trailing (with_value s at n v)) ∷ (is_quotable k, InQuotes s at n (v ++ b.byte ∷ []))
    ∷ (is_backslash k, Escaped s at n v) ∷ []
moves k b (Escaped s at n v) = (is_escapable k, InQuotes s at n (v ++ b.byte ∷ [])) ∷ []
moves k b (Trailing made) = (is_white k, Trailing made) ∷ []

-- the bytes make this element of one of the readings whose tests say so
abbrev pub Guarded : Element → List (Bool × Reading) → Text → Type 0
Guarded e [] text = ⊥
Guarded e (g ∷ gs) text = (IsTrue g.0 × Means e g.1 text) ⊎ Guarded e gs text

-- the bytes make this element of one of the readings
abbrev pub AnyMeans : Element → List Reading → Text → Type 0
AnyMeans e [] text = ⊥
AnyMeans e (r ∷ rs) text = Means e r text ⊎ AnyMeans e rs text

-- the readings whose tests say so
abbrev pub kept : List (Bool × Reading) → List Reading
kept [] = []
kept (g ∷ gs) = cond g.0 (g.1 ∷ kept gs) (kept gs)

-- the readings after one more byte
abbrev pub after : Kind → Spot → List Reading → List Reading
after k b [] = []
after k b (r ∷ rs) = kept (moves k b r) ++ after k b rs

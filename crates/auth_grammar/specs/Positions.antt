-- A position stands for the one or two readings that are left of an element. Here is what it means that the table of turns is right.
use Rattle.std.specs.Prelude.{◌≡◌, ℕ, Bool, false, drop, ◌⊎◌, List, [], ◌∷◌, ◌++◌, Option, Some, None, IsSome, unwrap_or}
use Rattle.auth_grammar.specs.Kinds.{kind_of, is_plain, is_quotable, is_token, is_token68}
use Rattle.auth_grammar.specs.Grammar.{Spot}
use Rattle.auth_grammar.specs.declared.elements.Element.{Element}
use Rattle.auth_grammar.specs.declared.elements.Element.TheVariants.{Blank, Scheme, SchemeToken68}
use Rattle.auth_grammar.specs.Readings.{Reading, after, with_value}
use Rattle.auth_grammar.specs.Readings.Reading.{Start, InScheme, AfterScheme, InToken68, Padding, InName, AfterName, AfterEquals, InValue, InLoose, LoosePadding, InQuotes, Escaped, Trailing}
use Rattle.auth_grammar.specs.declared.kinds.Kind.{Kind}
use Rattle.auth_grammar.specs.declared.kinds.Kind.TheVariants.{Comma}
use Rattle.auth_grammar.specs.declared.position.Position.{Position}
use Rattle.auth_grammar.specs.declared.position.Position.TheVariants as At
use Rattle.auth_grammar.specs.declared.kept.Kept.{Kept}
use Rattle.auth_grammar.specs.declared.position.Turn.{Turn}
use Rattle.auth_grammar.specs.declared.position.Turn.TheVariants as To
use Rattle.auth_grammar.specs.declared.position.Effect.{Effect}
use Rattle.auth_grammar.specs.declared.position.Effect.TheVariants as Keep

-- the scheme before a second word
abbrev pub first_of : Kept → List ℕ
first_of w = unwrap_or w.scheme []

-- the ways to read what has come
abbrev pub readings : Bool → Bool → Position → Kept → List Reading
readings params schemes At.Start w = Start params schemes ∷ []
readings params schemes At.Word w = InScheme w.word ∷ InName w.scheme w.at w.word ∷ []
readings params schemes At.WordSpace w = AfterScheme w.word ∷ AfterName w.scheme w.at w.word ∷ []
readings params schemes At.WordWhite w = Trailing (Scheme w.word) ∷ AfterName w.scheme w.at w.word ∷ []
readings params schemes At.Scheme w = InScheme w.word ∷ []
readings params schemes At.SchemeSpace w = AfterScheme w.word ∷ []
readings params schemes At.SchemeWhite w = Trailing (Scheme w.word) ∷ []
readings params schemes At.Second w = InToken68 (first_of w) w.word ∷ InName w.scheme w.at w.word ∷ []
readings params schemes At.SecondWhite w = Trailing (SchemeToken68 (first_of w) w.word) ∷ AfterName w.scheme w.at w.word ∷ []
readings params schemes At.SecondEquals w = Padding (first_of w) (w.word ++ 61 ∷ []) ∷ AfterEquals w.scheme w.at w.word ∷ []
readings params schemes At.SecondEqualsWhite w =
    Trailing (SchemeToken68 (first_of w) (w.word ++ 61 ∷ [])) ∷ AfterEquals w.scheme w.at w.word ∷ []
readings params schemes At.Token68 w = InToken68 (first_of w) w.word ∷ []
readings params schemes At.Padding w = Padding (first_of w) w.word ∷ []
readings params schemes At.Token68White w = Trailing (SchemeToken68 (first_of w) w.word) ∷ []
readings params schemes At.Name w = InName w.scheme w.at w.word ∷ []
readings params schemes At.NameWhite w = AfterName w.scheme w.at w.word ∷ []
readings params schemes At.Equals w = AfterEquals w.scheme w.at w.word ∷ []
readings params schemes At.Value w = InValue w.scheme w.at w.word w.value ∷ InLoose w.scheme w.at w.word w.value ∷ []
readings params schemes At.Token w = InValue w.scheme w.at w.word w.value ∷ []
readings params schemes At.Loose w = InLoose w.scheme w.at w.word w.value ∷ []
readings params schemes At.LoosePadding w = LoosePadding w.scheme w.at w.word w.value ∷ []
readings params schemes At.Quoted w = InQuotes w.scheme w.at w.word w.value ∷ []
readings params schemes At.Escaped w = Escaped w.scheme w.at w.word w.value ∷ []
readings params schemes At.ValueWhite w = Trailing (with_value w.scheme w.at w.word w.value) ∷ []

-- the element that may end here
abbrev pub ending : Position → Kept → Option Element
ending At.Start w = Some Blank
ending At.Word w = Some (Scheme w.word)
ending At.WordSpace w = Some (Scheme w.word)
ending At.WordWhite w = Some (Scheme w.word)
ending At.Scheme w = Some (Scheme w.word)
ending At.SchemeSpace w = Some (Scheme w.word)
ending At.SchemeWhite w = Some (Scheme w.word)
ending At.Second w = Some (SchemeToken68 (first_of w) w.word)
ending At.SecondWhite w = Some (SchemeToken68 (first_of w) w.word)
ending At.SecondEquals w = Some (SchemeToken68 (first_of w) (w.word ++ 61 ∷ []))
ending At.SecondEqualsWhite w = Some (SchemeToken68 (first_of w) (w.word ++ 61 ∷ []))
ending At.Token68 w = Some (SchemeToken68 (first_of w) w.word)
ending At.Padding w = Some (SchemeToken68 (first_of w) w.word)
ending At.Token68White w = Some (SchemeToken68 (first_of w) w.word)
ending At.Name w = None
ending At.NameWhite w = None
ending At.Equals w = None
ending At.Value w = Some (with_value w.scheme w.at w.word w.value)
ending At.Token w = Some (with_value w.scheme w.at w.word w.value)
ending At.Loose w = Some (with_value w.scheme w.at w.word w.value)
ending At.LoosePadding w = Some (with_value w.scheme w.at w.word w.value)
ending At.Quoted w = None
ending At.Escaped w = None
ending At.ValueWhite w = Some (with_value w.scheme w.at w.word w.value)

-- what is kept of a byte, beside what was kept
abbrev pub kept_after : Effect → Kept → Spot → Kept
kept_after Keep.Nothing w b = w
kept_after Keep.FirstWord w b = record { scheme = None; word = b.byte ∷ []; at = b.at; value = w.value }
kept_after Keep.NextWord w b = record { scheme = Some w.word; word = b.byte ∷ []; at = b.at; value = w.value }
kept_after Keep.Word w b = record w { word = w.word ++ b.byte ∷ [] }
kept_after Keep.LateWord w b = record w { word = (w.word ++ 61 ∷ []) ++ b.byte ∷ [] }
kept_after Keep.OpenValue w b = record w { value = [] }
kept_after Keep.FirstValue w b = record w { value = b.byte ∷ [] }
kept_after Keep.Value w b = record w { value = w.value ++ b.byte ∷ [] }

-- the kinds of bytes behind which the word goes on at the same position
abbrev pub word_stays : Position → Kind → Bool
word_stays At.Word k = is_token k
word_stays At.Scheme k = is_token k
word_stays At.Second k = is_plain k
word_stays At.Token68 k = is_token68 k
word_stays At.Name k = is_token k
word_stays _ k = false

-- the same of the value
abbrev pub value_stays : Position → Kind → Bool
value_stays At.Value k = is_plain k
value_stays At.Token k = is_token k
value_stays At.Loose k = is_token68 k
value_stays At.Quoted k = is_quotable k
value_stays _ k = false

-- the kinds of bytes that go where the byte before them went, by that effect at that position
abbrev pub stays : Effect → Position → Kind → Bool
stays Keep.Nothing p k = false
stays Keep.FirstWord p k = word_stays p k
stays Keep.NextWord p k = word_stays p k
stays Keep.Word p k = word_stays p k
stays Keep.LateWord p k = word_stays p k
stays Keep.OpenValue p k = value_stays p k
stays Keep.FirstValue p k = value_stays p k
stays Keep.Value p k = value_stays p k

-- what is kept of a byte at a place and of those that go where it went
abbrev pub kept_run : Effect → Kept → ℕ → List ℕ → Kept
kept_run Keep.Nothing w at run = w
kept_run Keep.FirstWord w at run = record { scheme = None; word = run; at = at; value = w.value }
kept_run Keep.NextWord w at run = record { scheme = Some w.word; word = run; at = at; value = w.value }
kept_run Keep.Word w at run = record w { word = w.word ++ run }
kept_run Keep.LateWord w at run = record w { word = (w.word ++ 61 ∷ []) ++ run }
kept_run Keep.OpenValue w at run = record w { value = drop 1 run }
kept_run Keep.FirstValue w at run = record w { value = run }
kept_run Keep.Value w at run = record w { value = w.value ++ run }

-- the readings after a turn, before which the element has not ended
abbrev pub readings_after : Bool → Bool → Turn → Kept → Spot → List Reading
readings_after params schemes To.Dead w b = []
readings_after params schemes To.End w b = []
readings_after params schemes (To.Go p e) w b = readings params schemes p (kept_after e w b)

-- an element may end before a comma only at a turn to its end
abbrev pub EndsElement : Turn → Kind → Option Element → Type 0
EndsElement To.Dead k made = k ≡ Comma → made ≡ None
EndsElement To.End k made = (k ≡ Comma) × IsSome made
EndsElement (To.Go p e) k made = k ≡ Comma → made ≡ None

-- the same readings, or the same where each stands twice
abbrev pub Leaves : List Reading → List Reading → Type 0
Leaves rs qs = (rs ≡ qs) ⊎ (rs ++ rs ≡ qs)

-- the turn is right: the readings after it are those that the byte leaves of those before it
abbrev pub Turns : Position → Kind → Bool → Bool → Turn → Type 0
Turns position k params schemes t = (w : Kept) (b : Spot) → kind_of b.byte ≡ k
    → Leaves (readings_after params schemes t w b) (after k b (readings params schemes position w)) × EndsElement t k (ending position w)

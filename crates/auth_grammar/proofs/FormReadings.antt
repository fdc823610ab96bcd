use Rattle.std.proofs.Common.{◌≡◌, ℕ, Bool, true, false, ◌&&◌, ◌⊎◌, inl, inr, List, [], ◌∷◌, ◌++◌, IsTrue, Option, Some, None, refl, ap, sym, ◌∙◌, append_assoc, subst, arith, append-nil}
use Rattle.std.proofs.lemmas.Bool.Decides.{nat_tests}
use Rattle.auth_grammar.specs.declared.kinds.Kind.{Kind}
use Rattle.auth_grammar.specs.declared.kinds.Kind.TheVariants.{Comma, Space, Tab}
use Rattle.auth_grammar.specs.Kinds.{kind_of, is_token, is_token68, is_white, is_space, is_tab, is_equals, is_quotable, is_escapable, is_quote, is_backslash, is_comma}
use Rattle.auth_grammar.specs.declared.items.Param.{Param}
use Rattle.auth_grammar.specs.Grammar.{Spot, Text, bytes, StartsAt, AllOf, SomeOf, IsToken68, Quotes, IsValue, IsForm, IsElement}
use Rattle.auth_grammar.specs.declared.elements.Element.{Element}
use Rattle.auth_grammar.specs.declared.elements.Element.TheVariants.{Blank, Scheme, SchemeToken68, SchemeParam, Further}
use Rattle.auth_grammar.specs.Readings.{Allowed, Run, Skip, Begin, Opens, One, Ends, Within, with_value, Trail, Pads, ValueRest, NameRest, SpaceRest, SchemeRest, TabRest, Means}
use Rattle.auth_grammar.specs.Readings.Reading.{Start}

pub quote_is : (b : ℕ) → IsTrue (is_quote (kind_of b)) → b ≡ 34
unfolding kind_of
quote_is b h = grind (arith, nat_tests)

pub equals_is : (b : ℕ) → IsTrue (is_equals (kind_of b)) → b ≡ 61
unfolding kind_of
equals_is b h = grind (arith, nat_tests)

pub backslash_is : (b : ℕ) → IsTrue (is_backslash (kind_of b)) → b ≡ 92
unfolding kind_of
backslash_is b h = grind (arith, nat_tests)

pub comma_is : (b : ℕ) → IsTrue (is_comma (kind_of b)) → b ≡ 44
unfolding kind_of
comma_is b h = grind (arith, nat_tests)

pub quote_34 : IsTrue (is_quote (kind_of 34))
unfolding kind_of
quote_34 = refl

pub equals_61 : IsTrue (is_equals (kind_of 61))
unfolding kind_of
equals_61 = refl

pub backslash_92 : IsTrue (is_backslash (kind_of 92))
unfolding kind_of
backslash_92 = refl

pub kind_44 : kind_of 44 ≡ Comma
unfolding kind_of
kind_44 = refl

-- runs
run_done : (p : Kind → Bool) (next : List ℕ → Text → Type 0) (sofar : List ℕ) (text : Text) → next sofar text → Run p next sofar text
run_done p next sofar [] h = h
run_done p next sofar (b ∷ text) h = inr h

run_from : (p : Kind → Bool) (next : List ℕ → Text → Type 0) (part : Text) (sofar : List ℕ) (rest : Text) → AllOf p part → next (sofar ++ bytes part) rest → Run p next sofar (part ++ rest)
run_from p next [] sofar rest a h = run_done p next sofar rest (subst (λ (x : List ℕ). next x rest) (append-nil sofar) h)
run_from p next (b ∷ part) sofar rest a h = inl (a.0, run_from p next part (sofar ++ b.byte ∷ []) rest a.1 (subst (λ (x : List ℕ). next x rest) (sym (append_assoc sofar (b.byte ∷ []) (bytes part))) h))

run_to : (p : Kind → Bool) (next : List ℕ → Text → Type 0) (sofar : List ℕ) (text : Text) → Run p next sofar text → (part rest : Text) × (text ≡ part ++ rest) × AllOf p part × next (sofar ++ bytes part) rest
run_to p next sofar [] h = ([], [], refl, tt, subst (λ (x : List ℕ). next x []) (sym (append-nil sofar)) h)
run_to p next sofar (b ∷ text) (inl h) =
    let r = run_to p next (sofar ++ b.byte ∷ []) text h.1 in
    (b ∷ r.0, r.1, ap (λ (x : Text). b ∷ x) r.2, (h.0, r.3), subst (λ (x : List ℕ). next x r.1) (append_assoc sofar (b.byte ∷ []) (bytes r.0)) r.4)
run_to p next sofar (b ∷ text) (inr h) = ([], b ∷ text, refl, tt, subst (λ (x : List ℕ). next x (b ∷ text)) (sym (append-nil sofar)) h)

skip_done : (p : Kind → Bool) (next : Text → Type 0) (text : Text) → next text → Skip p next text
skip_done p next [] h = h
skip_done p next (b ∷ text) h = inr h

skip_from : (p : Kind → Bool) (next : Text → Type 0) (part rest : Text) → AllOf p part → next rest → Skip p next (part ++ rest)
skip_from p next [] rest a h = skip_done p next rest h
skip_from p next (b ∷ part) rest a h = inl (a.0, skip_from p next part rest a.1 h)

skip_to : (p : Kind → Bool) (next : Text → Type 0) (text : Text) → Skip p next text → (part rest : Text) × (text ≡ part ++ rest) × AllOf p part × next rest
skip_to p next [] h = ([], [], refl, tt, h)
skip_to p next (b ∷ text) (inl h) =
    let r = skip_to p next text h.1 in
    (b ∷ r.0, r.1, ap (λ (x : Text). b ∷ x) r.2, (h.0, r.3), r.4)
skip_to p next (b ∷ text) (inr h) = ([], b ∷ text, refl, tt, h)

begin_from : (p : Kind → Bool) (next : ℕ → List ℕ → Text → Type 0) (other : Text → Type 0) (part rest : Text) → (at : ℕ) → StartsAt part at → SomeOf p part → next at (bytes part) rest → Begin p next other (part ++ rest)
begin_from p next other [] rest at i a h = absurd a
begin_from p next other (b ∷ part) rest at i a h = inl (a.0, run_from p (next b.at) part (b.byte ∷ []) rest a.1 (subst (λ (x : ℕ). next x (b.byte ∷ bytes part) rest) (sym i) h))

begin_other : (p : Kind → Bool) (next : ℕ → List ℕ → Text → Type 0) (other : Text → Type 0) (text : Text) → other text → Begin p next other text
begin_other p next other [] h = h
begin_other p next other (b ∷ text) h = inr h

begin_to : (p : Kind → Bool) (next : ℕ → List ℕ → Text → Type 0) (other : Text → Type 0) (text : Text) → Begin p next other text → ((part rest : Text) × (text ≡ part ++ rest) × (at : ℕ) × StartsAt part at × SomeOf p part × next at (bytes part) rest) ⊎ other text
begin_to p next other [] h = inr h
begin_to p next other (b ∷ text) (inl h) =
    let r = run_to p (next b.at) (b.byte ∷ []) text h.1 in
    inl (b ∷ r.0, r.1, ap (λ (x : Text). b ∷ x) r.2, b.at, refl, (h.0, r.3), r.4)
begin_to p next other (b ∷ text) (inr h) = inr h

pub both : (x y : Bool) → IsTrue x → IsTrue y → IsTrue (x && y)
both true y h k = k
both false y h k = absurd (cc (h))

pub left_of : (x y : Bool) → IsTrue (x && y) → IsTrue x
left_of true y h = refl
left_of false y h = h

pub right_of : (x y : Bool) → IsTrue (x && y) → IsTrue y
right_of true y h = h
right_of false y h = absurd (cc (h))

opens_from : (allowed : Bool) (p : Kind → Bool) (next : ℕ → List ℕ → Text → Type 0) (other : Text → Type 0) (part rest : Text) → IsTrue allowed → (at : ℕ) → StartsAt part at → SomeOf p part → next at (bytes part) rest → Opens allowed p next other (part ++ rest)
opens_from allowed p next other [] rest m at i a h = absurd a
opens_from allowed p next other (b ∷ part) rest m at i a h = inl (both allowed (p (kind_of b.byte)) m a.0, run_from p (next b.at) part (b.byte ∷ []) rest a.1 (subst (λ (x : ℕ). next x (b.byte ∷ bytes part) rest) (sym i) h))

opens_other : (allowed : Bool) (p : Kind → Bool) (next : ℕ → List ℕ → Text → Type 0) (other : Text → Type 0) (text : Text) → other text → Opens allowed p next other text
opens_other allowed p next other [] h = h
opens_other allowed p next other (b ∷ text) h = inr h

opens_to : (allowed : Bool) (p : Kind → Bool) (next : ℕ → List ℕ → Text → Type 0) (other : Text → Type 0) (text : Text) → Opens allowed p next other text → ((part rest : Text) × (text ≡ part ++ rest) × IsTrue allowed × (at : ℕ) × StartsAt part at × SomeOf p part × next at (bytes part) rest) ⊎ other text
opens_to allowed p next other [] h = inr h
opens_to allowed p next other (b ∷ text) (inl h) =
    let r = run_to p (next b.at) (b.byte ∷ []) text h.1 in
    inl (b ∷ r.0, r.1, ap (λ (x : Text). b ∷ x) r.2, left_of allowed (p (kind_of b.byte)) h.0, b.at, refl, (right_of allowed (p (kind_of b.byte)) h.0, r.3), r.4)
opens_to allowed p next other (b ∷ text) (inr h) = inr h

-- the end
trail_from : (e made : Element) (w : Text) → AllOf is_white w → made ≡ e → Trail e made w
trail_from e made [] a h = h
trail_from e made (b ∷ w) a h = inl (a.0, trail_from e made w a.1 h)

trail_to : (e made : Element) (w : Text) → Trail e made w → AllOf is_white w × (made ≡ e)
trail_to e made [] h = (tt, h)
trail_to e made (b ∷ w) (inl h) = let r = trail_to e made w h.1 in ((h.0, r.0), r.1)
trail_to e made (b ∷ w) (inr h) = absurd h

ends_none : (text : Text) → Ends ⊥ text → ⊥
ends_none [] h = h
ends_none (b ∷ text) h = h

-- quotes
within_from : (next : List ℕ → Text → Type 0) (value sofar : List ℕ) (inner : Text) (q : Spot) (rest : Text) → q.byte ≡ 34 → Quotes inner value → next (sofar ++ value) rest → Within next false sofar (inner ++ q ∷ rest)
within_from next [] sofar inner q rest k i h = subst (λ (x : Text). Within next false sofar (x ++ q ∷ rest)) (sym i) (inl (subst (λ (x : ℕ). IsTrue (is_quote (kind_of x))) (sym k) quote_34, subst (λ (x : List ℕ). next x rest) (append-nil sofar) h))
within_from next (v ∷ value) sofar inner q rest k (inl i) h =
    let same : List ℕ = sofar ++ i.0.byte ∷ [] in
    let here : next ((sofar ++ v ∷ []) ++ value) rest = subst (λ (x : List ℕ). next x rest) (sym (append_assoc sofar (v ∷ []) value)) h in
    subst (λ (x : Text). Within next false sofar (x ++ q ∷ rest)) (sym i.2)
    (inr (inl (subst (λ (x : ℕ). IsTrue (is_quotable (kind_of x))) (sym i.3) i.4, subst (λ (x : ℕ). Within next false (sofar ++ x ∷ []) (i.1 ++ q ∷ rest)) (sym i.3) (within_from next value (sofar ++ v ∷ []) i.1 q rest k i.5 here))))
within_from next (v ∷ value) sofar inner q rest k (inr i) h =
    let here : next ((sofar ++ v ∷ []) ++ value) rest = subst (λ (x : List ℕ). next x rest) (sym (append_assoc sofar (v ∷ []) value)) h in
    subst (λ (x : Text). Within next false sofar (x ++ q ∷ rest)) (sym i.3)
    (inr (inr (inl (
      subst (λ (x : ℕ). IsTrue (is_backslash (kind_of x))) (sym i.4) backslash_92,
      inl (subst (λ (x : ℕ). IsTrue (is_escapable (kind_of x))) (sym i.5) i.6, subst (λ (x : ℕ). Within next false (sofar ++ x ∷ []) (i.2 ++ q ∷ rest)) (sym i.5) (within_from next value (sofar ++ v ∷ []) i.2 q rest k i.7 here)),
    ))))

abbrev Closed : (List ℕ → Text → Type 0) → List ℕ → Text → Type 0
Closed next sofar text = (value : List ℕ) × (inner : Text) × (q : Spot) × (rest : Text) × (text ≡ inner ++ q ∷ rest) × (q.byte ≡ 34) × Quotes inner value × next (sofar ++ value) rest

abbrev Inside : (List ℕ → Text → Type 0) → Bool → List ℕ → Text → Type 0
Inside next false sofar text = Closed next sofar text
Inside next true sofar text = (b : Spot) × (more : Text) × (text ≡ b ∷ more) × IsTrue (is_escapable (kind_of b.byte)) × Closed next (sofar ++ b.byte ∷ []) more

within_to : (next : List ℕ → Text → Type 0) (escaped : Bool) (sofar : List ℕ) (text : Text) → Within next escaped sofar text → Inside next escaped sofar text
within_to next true sofar [] h = absurd h
within_to next false sofar [] h = absurd h
within_to next true sofar (b ∷ text) (inl h) = (b, text, refl, h.0, within_to next false (sofar ++ b.byte ∷ []) text h.1)
within_to next true sofar (b ∷ text) (inr h) = absurd h
within_to next false sofar (b ∷ text) (inl h) =
    ([], [], b, text, refl, quote_is b.byte h.0, refl, subst (λ (x : List ℕ). next x text) (sym (append-nil sofar)) h.1)
within_to next false sofar (b ∷ text) (inr (inl h)) =
    let r = within_to next false (sofar ++ b.byte ∷ []) text h.1 in
    (b.byte ∷ r.0, b ∷ r.1, r.2, r.3, ap (λ (x : Text). b ∷ x) r.4, r.5, inl (b, r.1, refl, refl, h.0, r.6), subst (λ (x : List ℕ). next x r.3) (append_assoc sofar (b.byte ∷ []) r.0) r.7)
within_to next false sofar (b ∷ text) (inr (inr (inl h))) =
    let s = within_to next true sofar text h.1 in
    let r = s.4 in
    (s.0.byte ∷ r.0, b ∷ s.0 ∷ r.1, r.2, r.3, ap (λ (x : Text). b ∷ x) (s.2 ∙ ap (λ (x : Text). s.0 ∷ x) r.4), r.5, inr (b, s.0, r.1, refl, backslash_is b.byte h.0, refl, s.3, r.6), subst (λ (x : List ℕ). next x r.3) (append_assoc sofar (s.0.byte ∷ []) r.0) r.7)
within_to next false sofar (b ∷ text) (inr (inr (inr h))) = absurd h

pub bytes_append : (a b : Text) → bytes (a ++ b) ≡ bytes a ++ bytes b
bytes_append [] b = refl
bytes_append (x ∷ a) b = ap (λ (y : List ℕ). x.byte ∷ y) (bytes_append a b)

begins_at : (p : Kind → Bool) (a : Text) → SomeOf p a → (at : ℕ) × StartsAt a at
begins_at p [] h = absurd h
begins_at p (b ∷ a) h = (b.at, refl)

-- `=` at the end of a token68
pads_from : (e : Element) (made : List ℕ → Element) (sofar : List ℕ) (equals w : Text) → AllOf is_equals equals → AllOf is_white w → made (sofar ++ bytes equals) ≡ e → Pads e made sofar (equals ++ w)
pads_from e made sofar equals w a c h = run_from is_equals (λ text. Trail e (made text)) equals sofar w a (trail_from e (made (sofar ++ bytes equals)) w c h)

token68_from : (e : Element) (made : List ℕ → Element) (other : Text → Type 0) (text w : Text) → IsToken68 text → AllOf is_white w → made (bytes text) ≡ e → Begin is_token68 (λ _. Pads e made) other (text ++ w)
token68_from e made other text w i c h =
    let regrouped : text ++ w ≡ i.0 ++ (i.1 ++ w) = ap (λ (x : Text). x ++ w) i.2 ∙ append_assoc i.0 i.1 w in
    let first = begins_at is_token68 i.0 i.3 in
    subst (λ (x : Text). Begin is_token68 (λ _. Pads e made) other x) (sym regrouped)
    (begin_from is_token68 (λ _. Pads e made) other i.0 (i.1 ++ w) first.0 first.1 i.3 (pads_from e made (bytes i.0) i.1 w i.4 c (sym (ap made (ap bytes i.2 ∙ bytes_append i.0 i.1)) ∙ h)))

abbrev Token68Then : Element → (List ℕ → Element) → Text → Type 0
Token68Then e made text = (form w : Text) × (text ≡ form ++ w) × IsToken68 form × AllOf is_white w × (made (bytes form) ≡ e)

token68_to : (e : Element) (made : List ℕ → Element) (other : Text → Type 0) (text : Text) → Begin is_token68 (λ _. Pads e made) other text → Token68Then e made text ⊎ other text
token68_to e made other text h = elim (begin_to is_token68 (λ _. Pads e made) other text h) [
  | inl r ↦ (let q = run_to is_equals (λ x. Trail e (made x)) (bytes r.0) r.1 r.6 in
      let t = trail_to e (made (bytes r.0 ++ bytes q.0)) q.1 q.4 in
      inl (r.0 ++ q.0, q.1, r.2 ∙ ap (λ (x : Text). r.0 ++ x) q.2 ∙ sym (append_assoc r.0 q.0 q.1), (r.0, q.0, refl, r.5, q.3), t.0, ap made (bytes_append r.0 q.0) ∙ t.1))
  | inr o ↦ inr o
]

-- a value, and white space after it
abbrev QuotedForm : Element → Option (List ℕ) → ℕ → List ℕ → Text → Type 0
QuotedForm e s at n = One is_quote (Within (λ v. Trail e (with_value s at n v)) false []) (Ends ⊥)

abbrev LooseForms : Element → Option (List ℕ) → ℕ → List ℕ → Text → Type 0
LooseForms e s at n = Begin is_token68 (λ _. Pads e (with_value s at n)) (QuotedForm e s at n)

abbrev ValueAlternatives : Element → Option (List ℕ) → ℕ → List ℕ → Text → Type 0
ValueAlternatives e s at n = Begin is_token (λ _ v. Trail e (with_value s at n v)) (LooseForms e s at n)

value_from : (e : Element) (s : Option (List ℕ)) (at : ℕ) (n : List ℕ) (text : Text) (value : List ℕ) (w : Text) → IsValue text value → AllOf is_white w → with_value s at n value ≡ e → ValueAlternatives e s at n (text ++ w)
value_from e s at n text value w (inl i) c h =
    let first = begins_at is_token text i.0 in
    begin_from is_token (λ _ v. Trail e (with_value s at n v)) (LooseForms e s at n) text w first.0 first.1 i.0 (trail_from e (with_value s at n (bytes text)) w c (ap (with_value s at n) i.1 ∙ h))
value_from e s at n text value w (inr (inl i)) c h =
    begin_other is_token (λ _ v. Trail e (with_value s at n v)) (LooseForms e s at n) (text ++ w) (token68_from e (with_value s at n) (QuotedForm e s at n) text w i.0 c (ap (with_value s at n) i.1 ∙ h))
value_from e s at n text value w (inr (inr i)) c h =
    let regrouped : text ++ w ≡ i.0 ∷ (i.2 ++ i.1 ∷ w) = ap (λ (x : Text). x ++ w) i.3 ∙ ap (λ (x : Text). i.0 ∷ x) (append_assoc i.2 (i.1 ∷ []) w) in
    subst (λ (x : Text). ValueAlternatives e s at n x) (sym regrouped)
    (inr (inr (inl (subst (λ (x : ℕ). IsTrue (is_quote (kind_of x))) (sym i.4) quote_34, within_from (λ v. Trail e (with_value s at n v)) value [] i.2 i.1 w i.5 i.6 (trail_from e (with_value s at n value) w c h)))))

abbrev ValueThen : Element → Option (List ℕ) → ℕ → List ℕ → Text → Type 0
ValueThen e s at n text = (form : Text) × (value : List ℕ) × (w : Text) × (text ≡ form ++ w) × IsValue form value × AllOf is_white w × (with_value s at n value ≡ e)

quoted_to : (e : Element) (s : Option (List ℕ)) (at : ℕ) (n : List ℕ) (text : Text) → QuotedForm e s at n text → ValueThen e s at n text
quoted_to e s at n [] h = absurd h
quoted_to e s at n (b ∷ text) (inr h) = absurd h
quoted_to e s at n (b ∷ text) (inl h) =
    let r = within_to (λ v. Trail e (with_value s at n v)) false [] text h.1 in
    let t = trail_to e (with_value s at n r.0) r.3 r.7 in
    (b ∷ r.1 ++ r.2 ∷ [], r.0, r.3, ap (λ (x : Text). b ∷ x) (r.4 ∙ sym (append_assoc r.1 (r.2 ∷ []) r.3)), inr (inr (b, r.2, r.1, refl, quote_is b.byte h.0, r.5, r.6)), t.0, t.1)

value_to : (e : Element) (s : Option (List ℕ)) (at : ℕ) (n : List ℕ) (text : Text) → ValueAlternatives e s at n text → ValueThen e s at n text
value_to e s at n text h = elim (begin_to is_token (λ _ v. Trail e (with_value s at n v)) (LooseForms e s at n) text h) [
  | inl r ↦ (let t = trail_to e (with_value s at n (bytes r.0)) r.1 r.6 in (r.0, bytes r.0, r.1, r.2, inl (r.5, refl), t.0, t.1))
  | inr o ↦ elim (token68_to e (with_value s at n) (QuotedForm e s at n) text o) [
    | inl q ↦ (q.0, bytes q.0, q.1, q.2, inr (inl (q.3, refl)), q.4, q.5)
    | inr o2 ↦ quoted_to e s at n text o2
  ]
]

-- a whole parameter from its name on
param_from : (e : Element) (s : Option (List ℕ)) (at : ℕ) (p : Param) (before : Text) (q : Spot) (after value w : Text) → q.byte ≡ 61 → AllOf is_white before → AllOf is_white after → IsValue value p.value → AllOf is_white w → with_value s at p.name p.value ≡ e
    → NameRest e s at p.name (before ++ q ∷ (after ++ (value ++ w)))
param_from e s at p before q after value w k a b v c h =
    skip_from is_white (One is_equals (ValueRest e s at p.name) (Ends ⊥)) before (q ∷ (after ++ (value ++ w))) a
    (inl (subst (λ (x : ℕ). IsTrue (is_equals (kind_of x))) (sym k) equals_61, skip_from is_white (ValueAlternatives e s at p.name) after (value ++ w) b (value_from e s at p.name value p.value w v c h)))

abbrev ParamThen : Element → Option (List ℕ) → ℕ → List ℕ → Text → Type 0
ParamThen e s at n text = (before : Text) × (q : Spot) × (after form : Text) × (value : List ℕ) × (w : Text) × (text ≡ before ++ q ∷ (after ++ (form ++ w))) × (q.byte ≡ 61) × AllOf is_white before × AllOf is_white after × IsValue form value × AllOf is_white w × (with_value s at n value ≡ e)

equals_to : (next : Text → Type 0) (text : Text) → One is_equals next (Ends ⊥) text → (q : Spot) × (more : Text) × (text ≡ q ∷ more) × (q.byte ≡ 61) × next more
equals_to next [] h = absurd h
equals_to next (b ∷ text) (inl h) = (b, text, refl, equals_is b.byte h.0, h.1)
equals_to next (b ∷ text) (inr h) = absurd h

param_to : (e : Element) (s : Option (List ℕ)) (at : ℕ) (n : List ℕ) (text : Text) → NameRest e s at n text → ParamThen e s at n text
param_to e s at n text h =
    let r = skip_to is_white (One is_equals (ValueRest e s at n) (Ends ⊥)) text h in
    let q = equals_to (ValueRest e s at n) r.1 r.4 in
    let u = skip_to is_white (ValueAlternatives e s at n) q.1 q.4 in
    let v = value_to e s at n u.1 u.4 in
    (r.0, q.0, u.0, v.0, v.1, v.2, parts text r.0 r.1 q.0 q.1 u.0 u.1 (v.0 ++ v.2) r.2 q.2 u.2 v.3, q.3, r.3, u.3, v.4, v.5, v.6)
  where
    parts : (text before behind : Text) (q : Spot) (more after value end : Text) → text ≡ before ++ behind → behind ≡ q ∷ more → more ≡ after ++ value → value ≡ end → text ≡ before ++ q ∷ (after ++ end)
    parts text before behind q more after value end a b c d = cc

abbrev IsSolid : Element → Type 0
IsSolid Blank = ⊥
IsSolid e = Unit {0}

abbrev SpaceParam : Element → List ℕ → Text → Type 0
SpaceParam e s = Begin is_token (NameRest e (Some s)) (TabRest e s)

abbrev SpaceForms : Element → List ℕ → Text → Type 0
SpaceForms e s = Begin is_token68 (λ _. Pads e (SchemeToken68 s)) (SpaceParam e s)

abbrev NameForms : Element → Bool → Text → Type 0
NameForms e params = Opens params is_token (NameRest e None) (Ends (Blank ≡ e))

abbrev StartForms : Element → Bool → Bool → Text → Type 0
StartForms e params schemes = Opens schemes is_token (λ _. SchemeRest e) (NameForms e params)

one_other : (p : Kind → Bool) (next other : Text → Type 0) (text : Text) → other text → One p next other text
one_other p next other [] h = h
one_other p next other (b ∷ text) h = inr h

all_append : (p : Kind → Bool) (a b : Text) → AllOf p a → AllOf p b → AllOf p (a ++ b)
all_append p [] b h k = k
all_append p (x ∷ a) b h k = (h.0, all_append p a b h.1 k)

skip_all : (p : Kind → Bool) (next : Text → Type 0) (a : Text) → AllOf p a → next [] → Skip p next a
skip_all p next [] h k = k
skip_all p next (x ∷ a) h k = inl (h.0, skip_all p next a h.1 k)

white_cases : (k : Kind) → IsTrue (is_white k) → IsTrue (is_space k) ⊎ IsTrue (is_tab k)
white_cases Space h = inl refl
white_cases Tab h = inr refl
white_cases _ h = absurd (cc (h))

white_space : (e : Element) (s : List ℕ) (w : Text) → AllOf is_white w → Scheme s ≡ e → SpaceRest e s w
white_space e s [] a h = h
white_space e s (b ∷ w) a h = elim (white_cases (kind_of b.byte) a.0) [
  | inl k ↦ inl (k, white_space e s w a.1 h)
  | inr k ↦ inr (inr (inr (inl (k, trail_from e (Scheme s) w a.1 h))))
]

white_scheme : (e : Element) (s : List ℕ) (w : Text) → AllOf is_white w → Scheme s ≡ e → SchemeRest e s w
white_scheme e s [] a h = h
white_scheme e s (b ∷ w) a h = elim (white_cases (kind_of b.byte) a.0) [
  | inl k ↦ inl (k, white_space e s w a.1 h)
  | inr k ↦ inr (inl (k, trail_from e (Scheme s) w a.1 h))
]

tab_is_white : (k : Kind) → IsTrue (is_tab k) → IsTrue (is_white k)
tab_is_white Tab h = refl
tab_is_white _ h = absurd (cc (h))

tab_to : (e : Element) (s : List ℕ) (w : Text) → TabRest e s w → AllOf is_white w × (Scheme s ≡ e)
tab_to e s [] h = (tt, h)
tab_to e s (b ∷ w) (inl h) = let u = trail_to e (Scheme s) w h.1 in ((tab_is_white (kind_of b.byte) h.0, u.0), u.1)
tab_to e s (b ∷ w) (inr h) = absurd h

spaces_from : (e : Element) (s : List ℕ) (spaces rest : Text) → SomeOf is_space spaces → SpaceForms e s rest → SchemeRest e s (spaces ++ rest)
spaces_from e s [] rest a h = absurd a
spaces_from e s (b ∷ spaces) rest a h = inl (a.0, skip_from is_space (SpaceForms e s) spaces rest a.1 h)

param_regrouped : (text w name before : Text) (q : Spot) (after value : Text) → text ≡ name ++ before ++ q ∷ after ++ value → text ++ w ≡ name ++ (before ++ q ∷ (after ++ (value ++ w)))
param_regrouped text w name before q after value h = ap (λ (x : Text). x ++ w) h ∙ simp append_assoc

form_from : (params schemes : Bool) (e : Element) (form w : Text) → Allowed params schemes e → IsForm form e → AllOf is_white w → IsSolid e → StartForms e params schemes (form ++ w)
form_from params schemes Blank form w m i c h = absurd h
form_from params schemes (Scheme s) form w m i c h =
    let first = begins_at is_token form i.1 in
    let e : Element = Scheme s in
    opens_from schemes is_token (λ _. SchemeRest e) (NameForms e params) form w m first.0 first.1 i.1 (subst (λ (x : List ℕ). SchemeRest e x w) (sym i.0) (white_scheme e s w c refl))
form_from params schemes (SchemeToken68 s x) form w m i c h =
    let e : Element = SchemeToken68 s x in
    let first = begins_at is_token i.0 i.6 in
    let regrouped : form ++ w ≡ i.0 ++ (i.1 ++ (i.2 ++ w)) = ap (λ (x : Text). x ++ w) i.3 ∙ simp append_assoc in
    subst (λ (x : Text). StartForms e params schemes x) (sym regrouped)
    (opens_from schemes is_token (λ _. SchemeRest e) (NameForms e params) i.0 (i.1 ++ (i.2 ++ w)) m first.0 first.1 i.6
    (subst (λ (x : List ℕ). SchemeRest e x (i.1 ++ (i.2 ++ w))) (sym i.4)
    (spaces_from e s i.1 (i.2 ++ w) i.7 (token68_from e (SchemeToken68 s) (SpaceParam e s) i.2 w i.8 c (ap (SchemeToken68 s) i.5)))))
form_from params schemes (SchemeParam s at p) form w m i c h =
    let e : Element = SchemeParam s at p in
    let q = i.7 in
    let first = begins_at is_token i.0 i.5 in
    let back : Text = q.1 ++ q.2 ∷ (q.3 ++ (q.4 ++ w)) in
    let inner : i.2 ++ w ≡ q.0 ++ back = param_regrouped i.2 w q.0 q.1 q.2 q.3 q.4 q.5 in
    let outer : form ++ w ≡ i.0 ++ (i.1 ++ (i.2 ++ w)) = ap (λ (x : Text). x ++ w) i.3 ∙ simp append_assoc in
    subst (λ (x : Text). StartForms e params schemes x) (sym (outer ∙ ap (λ (x : Text). i.0 ++ (i.1 ++ x)) inner))
    (opens_from schemes is_token (λ _. SchemeRest e) (NameForms e params) i.0 (i.1 ++ (q.0 ++ back)) m first.0 first.1 i.5
    (subst (λ (x : List ℕ). SchemeRest e x (i.1 ++ (q.0 ++ back))) (sym i.4)
    (spaces_from e s i.1 (q.0 ++ back) i.6
    (begin_other is_token68 (λ _. Pads e (SchemeToken68 s)) (SpaceParam e s) (q.0 ++ back)
    (begin_from is_token (NameRest e (Some s)) (TabRest e s) q.0 back at q.7 q.9
    (subst (λ (x : List ℕ). NameRest e (Some s) at x back) (sym q.6) (param_from e (Some s) at p q.1 q.2 q.3 q.4 w q.8 q.10 q.11 q.12 c refl)))))))
form_from params schemes (Further at p) form w m i c h =
    let e : Element = Further at p in
    let back : Text = i.1 ++ i.2 ∷ (i.3 ++ (i.4 ++ w)) in
    subst (λ (x : Text). StartForms e params schemes x) (sym (param_regrouped form w i.0 i.1 i.2 i.3 i.4 i.5))
    (opens_other schemes is_token (λ _. SchemeRest e) (NameForms e params) (i.0 ++ back)
    (opens_from params is_token (NameRest e None) (Ends (Blank ≡ e)) i.0 back m at i.7 i.9
    (subst (λ (x : List ℕ). NameRest e None at x back) (sym i.6) (param_from e None at p i.1 i.2 i.3 i.4 w i.8 i.10 i.11 i.12 c refl))))

blank_from : (params schemes : Bool) (text left form right : Text) → text ≡ left ++ form ++ right → form ≡ [] → AllOf is_white left → AllOf is_white right → Means Blank (Start params schemes) text
blank_from params schemes text left form right h k a b =
    let shorter : text ≡ left ++ right = h ∙ ap (λ (x : Text). left ++ x ++ right) k ∙ ap (λ (x : Text). x ++ right) (append-nil left) in
    subst (λ (x : Text). Means Blank (Start params schemes) x) (sym shorter) (skip_all is_white (StartForms Blank params schemes) (left ++ right) (all_append is_white left right a b) refl)

solid_from : (params schemes : Bool) (e : Element) (text left form right : Text) → text ≡ left ++ form ++ right → IsForm form e → AllOf is_white left → AllOf is_white right → Allowed params schemes e → IsSolid e → Means e (Start params schemes) text
solid_from params schemes e text left form right h i a b m n =
    subst (λ (x : Text). Means e (Start params schemes) x) (sym (h ∙ append_assoc left form right))
    (skip_from is_white (StartForms e params schemes) left (form ++ right) a (form_from params schemes e form right m i b n))

-- an element is what the first reading means
pub element_from : (params schemes : Bool) (e : Element) (text : Text) → IsElement text e → Allowed params schemes e → Means e (Start params schemes) text
element_from params schemes Blank text h m = blank_from params schemes text h.0 h.1 h.2 h.3 h.6 h.4 h.5
element_from params schemes (Scheme s) text h m = solid_from params schemes (Scheme s) text h.0 h.1 h.2 h.3 h.6 h.4 h.5 m tt
element_from params schemes (SchemeToken68 s x) text h m = solid_from params schemes (SchemeToken68 s x) text h.0 h.1 h.2 h.3 h.6 h.4 h.5 m tt
element_from params schemes (SchemeParam s at p) text h m = solid_from params schemes (SchemeParam s at p) text h.0 h.1 h.2 h.3 h.6 h.4 h.5 m tt
element_from params schemes (Further at p) text h m = solid_from params schemes (Further at p) text h.0 h.1 h.2 h.3 h.6 h.4 h.5 m tt

-- a form, and white space after it
abbrev FormThen : Bool → Bool → Element → Text → Type 0
FormThen params schemes e text = (form w : Text) × (text ≡ form ++ w) × AllOf is_white w × IsForm form e × Allowed params schemes e

made_is : (params schemes : Bool) (made e : Element) (text : Text) → made ≡ e → FormThen params schemes made text → FormThen params schemes e text
made_is params schemes made e text h k = subst (λ (x : Element). FormThen params schemes x text) h k

param_form : (params schemes : Bool) (e : Element) (at : ℕ) (n text : Text) → StartsAt n at → SomeOf is_token n → IsTrue params → ParamThen e None at (bytes n) text → FormThen params schemes e (n ++ text)
param_form params schemes e at n text i a m r =
    made_is params schemes (with_value None at (bytes n) r.4) e (n ++ text) r.12
    (n ++ r.0 ++ r.1 ∷ r.2 ++ r.3, r.5, ap (λ (x : Text). n ++ x) r.6 ∙ simp append_assoc, r.11, (n, r.0, r.1, r.2, r.3, refl, refl, i, r.7, a, r.8, r.9, r.10), m)

space_param_form : (params schemes : Bool) (e : Element) (s spaces : Text) (at : ℕ) (n text : Text) → SomeOf is_token s → IsTrue schemes → SomeOf is_space spaces → StartsAt n at → SomeOf is_token n → ParamThen e (Some (bytes s)) at (bytes n) text → FormThen params schemes e (s ++ (spaces ++ (n ++ text)))
space_param_form params schemes e s spaces at n text a m c i d r =
    made_is params schemes (with_value (Some (bytes s)) at (bytes n) r.4) e (s ++ (spaces ++ (n ++ text))) r.12 (
      s ++ spaces ++ (n ++ r.0 ++ r.1 ∷ r.2 ++ r.3),
      r.5,
      ap (λ (x : Text). s ++ (spaces ++ (n ++ x))) r.6 ∙ simp append_assoc,
      r.11,
      (s, spaces, n ++ r.0 ++ r.1 ∷ r.2 ++ r.3, refl, refl, a, c, (n, r.0, r.1, r.2, r.3, refl, refl, i, r.7, d, r.8, r.9, r.10)),
      m,
    )

space_white : (a : Text) → AllOf is_space a → AllOf is_white a
space_white [] h = tt
space_white (b ∷ a) h = (space_is_white (kind_of b.byte) h.0, space_white a h.1)
  where
    space_is_white : (k : Kind) → IsTrue (is_space k) → IsTrue (is_white k)
    space_is_white Space h = refl
    space_is_white _ h = absurd (cc (h))

scheme_form : (params schemes : Bool) (e : Element) (s w : Text) → SomeOf is_token s → IsTrue schemes → AllOf is_white w → Scheme (bytes s) ≡ e → FormThen params schemes e (s ++ w)
scheme_form params schemes e s w a m c h = made_is params schemes (Scheme (bytes s)) e (s ++ w) h (s, w, refl, c, (refl, a), m)

spaces_to : (params schemes : Bool) (e : Element) (s spaces rest : Text) → SomeOf is_token s → IsTrue schemes → SomeOf is_space spaces → AllOf is_space spaces → SpaceForms e (bytes s) rest → FormThen params schemes e (s ++ (spaces ++ rest))
spaces_to params schemes e s spaces rest a m c d h = elim (token68_to e (SchemeToken68 (bytes s)) (SpaceParam e (bytes s)) rest h) [
  | inl q ↦ made_is params schemes (SchemeToken68 (bytes s) (bytes q.0)) e (s ++ (spaces ++ rest)) q.5
      (s ++ spaces ++ q.0, q.1, ap (λ (x : Text). s ++ (spaces ++ x)) q.2 ∙ simp append_assoc, q.4, (s, spaces, q.0, refl, refl, refl, a, c, q.3), m)
  | inr o ↦ elim (begin_to is_token (NameRest e (Some (bytes s))) (TabRest e (bytes s)) rest o) [
    | inl r ↦ subst (λ (x : Text). FormThen params schemes e (s ++ (spaces ++ x))) (sym r.2) (space_param_form params schemes e s spaces r.3 r.0 r.1 a m c r.4 r.5 (param_to e (Some (bytes s)) r.3 (bytes r.0) r.1 r.6))
    | inr t ↦ (let u = tab_to e (bytes s) rest t in scheme_form params schemes e s (spaces ++ rest) a m (all_append is_white spaces rest (space_white spaces d) u.0) u.1)
  ]
]

scheme_to : (params schemes : Bool) (e : Element) (s rest : Text) → SomeOf is_token s → IsTrue schemes → SchemeRest e (bytes s) rest → FormThen params schemes e (s ++ rest)
scheme_to params schemes e s [] a m h = scheme_form params schemes e s [] a m tt h
scheme_to params schemes e s (b ∷ rest) a m (inl h) =
    let r = skip_to is_space (SpaceForms e (bytes s)) rest h.1 in
    subst (λ (x : Text). FormThen params schemes e (s ++ b ∷ x)) (sym r.2) (spaces_to params schemes e s (b ∷ r.0) r.1 a m (h.0, r.3) (h.0, r.3) r.4)
scheme_to params schemes e s (b ∷ rest) a m (inr h) = let u = tab_to e (bytes s) (b ∷ rest) h in scheme_form params schemes e s (b ∷ rest) a m u.0 u.1

blank_to : (params schemes : Bool) (e : Element) (text : Text) → Ends (Blank ≡ e) text → FormThen params schemes e text
blank_to params schemes e [] h = made_is params schemes Blank e [] h ([], [], refl, tt, refl, tt)
blank_to params schemes e (b ∷ text) h = absurd h

start_to : (params schemes : Bool) (e : Element) (text : Text) → StartForms e params schemes text → FormThen params schemes e text
start_to params schemes e text h = elim (opens_to schemes is_token (λ _. SchemeRest e) (NameForms e params) text h) [
  | inl r ↦ subst (λ (x : Text). FormThen params schemes e x) (sym r.2) (scheme_to params schemes e r.0 r.1 r.6 r.3 r.7)
  | inr o ↦ elim (opens_to params is_token (NameRest e None) (Ends (Blank ≡ e)) text o) [
    | inl r ↦ subst (λ (x : Text). FormThen params schemes e x) (sym r.2) (param_form params schemes e r.4 r.0 r.1 r.5 r.6 r.3 (param_to e None r.4 (bytes r.0) r.1 r.7))
    | inr n ↦ blank_to params schemes e text n
  ]
]

pub element_to : (params schemes : Bool) (e : Element) (text : Text) → Means e (Start params schemes) text → IsElement text e × Allowed params schemes e
element_to params schemes e text h =
    let r = skip_to is_white (StartForms e params schemes) text h in
    let f = start_to params schemes e r.1 r.4 in
    ((r.0, f.0, f.1, r.2 ∙ ap (λ (x : Text). r.0 ++ x) f.2 ∙ sym (append_assoc r.0 f.0 f.1), r.3, f.3, f.4), f.5)

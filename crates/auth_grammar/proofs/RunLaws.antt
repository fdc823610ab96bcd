use Rattle.std.proofs.Common.{arith, suc, ◌≡◌, ◌&&◌, ◌+◌, ◌⊎◌, inl, inr, ℕ, Bool, true, false, cond, List, [], ◌∷◌, ◌++◌, length, take, refl, ap, sym, subst, append_assoc, IsTrue, None}
use Rattle.std.proofs.lemmas.List.{append-nil}
use Rattle.std.specs.List.{list_all, prefix_len}
use Rattle.auth_grammar.specs.Grammar.{Spot}
use Rattle.auth_grammar.specs.Kinds.{kind_of, is_plain, is_quotable, is_token, is_token68}
use Rattle.auth_grammar.specs.Readings.{after}
use Rattle.auth_grammar.specs.Positions.{Leaves, ending, kept_after, kept_run, readings, stays, value_stays, word_stays}
use Rattle.auth_grammar.specs.States.{Follows}
use Rattle.auth_grammar.specs.Collecting.{rules}
use Rattle.auth_grammar.specs.declared.collected.Collected.{Collected}
use Rattle.auth_grammar.specs.declared.grammar.Grammar.{Grammar}
use Rattle.auth_grammar.specs.declared.kept.Kept.{Kept}
use Rattle.auth_grammar.specs.declared.kinds.Kind.{Kind}
use Rattle.auth_grammar.specs.declared.kinds.Kind.TheVariants.{Comma}
use Rattle.auth_grammar.specs.declared.kinds.Kind.TheVariants as Of
use Rattle.auth_grammar.specs.declared.position.Position.{Position}
use Rattle.auth_grammar.specs.declared.position.Position.TheVariants as At
use Rattle.auth_grammar.specs.declared.position.Effect.{Effect}
use Rattle.auth_grammar.specs.declared.position.Effect.TheVariants as Keep
use Rattle.auth_grammar.proofs.CollectingLaws.{laws}
use Rattle.auth_grammar.proofs.StateLaws.{follows_on}

-- the bytes of a prefix of which each passes do so
prefix_all : {X : Type 0} (p : X → Bool) (xs : List X) → IsTrue (list_all p (take (prefix_len p xs) xs))
prefix_all p [] = refl
prefix_all p (x ∷ xs) = go (p x) refl (prefix_all p xs)
  where
    go : (b : Bool) → p x ≡ b → IsTrue (list_all p (take (prefix_len p xs) xs)) → IsTrue (list_all p (take (cond b (1 + prefix_len p xs) 0) (x ∷ xs)))
    go true e h =
        let one : suc (prefix_len p xs) ≡ 1 + prefix_len p xs = omega arith in
        subst (λ (n : ℕ). IsTrue (list_all p (take n (x ∷ xs)))) one (rw e h)
    go false e h = refl

pub run_stays : (p : ℕ → Bool) (rest : List ℕ) (n : ℕ) → n ≡ prefix_len p rest → IsTrue (list_all p (take n rest))
run_stays p rest n h = subst (λ (m : ℕ). IsTrue (list_all p (take m rest))) (sym h) (prefix_all p rest)

plain_kinds : (k : Kind) → IsTrue (is_plain k) → k ≡ Of.Plain
plain_kinds Of.Comma h = absurd (cc h)
plain_kinds Of.Space h = absurd (cc h)
plain_kinds Of.Tab h = absurd (cc h)
plain_kinds Of.Equals h = absurd (cc h)
plain_kinds Of.Quote h = absurd (cc h)
plain_kinds Of.Backslash h = absurd (cc h)
plain_kinds Of.Slash h = absurd (cc h)
plain_kinds Of.Plain h = refl
plain_kinds Of.Mark h = absurd (cc h)
plain_kinds Of.Quotable h = absurd (cc h)
plain_kinds Of.Control h = absurd (cc h)

token_kinds : (k : Kind) → IsTrue (is_token k) → (k ≡ Of.Plain) ⊎ (k ≡ Of.Mark)
token_kinds Of.Comma h = absurd (cc h)
token_kinds Of.Space h = absurd (cc h)
token_kinds Of.Tab h = absurd (cc h)
token_kinds Of.Equals h = absurd (cc h)
token_kinds Of.Quote h = absurd (cc h)
token_kinds Of.Backslash h = absurd (cc h)
token_kinds Of.Slash h = absurd (cc h)
token_kinds Of.Plain h = inl refl
token_kinds Of.Mark h = inr refl
token_kinds Of.Quotable h = absurd (cc h)
token_kinds Of.Control h = absurd (cc h)

token68_kinds : (k : Kind) → IsTrue (is_token68 k) → (k ≡ Of.Slash) ⊎ (k ≡ Of.Plain)
token68_kinds Of.Comma h = absurd (cc h)
token68_kinds Of.Space h = absurd (cc h)
token68_kinds Of.Tab h = absurd (cc h)
token68_kinds Of.Equals h = absurd (cc h)
token68_kinds Of.Quote h = absurd (cc h)
token68_kinds Of.Backslash h = absurd (cc h)
token68_kinds Of.Slash h = inl refl
token68_kinds Of.Plain h = inr refl
token68_kinds Of.Mark h = absurd (cc h)
token68_kinds Of.Quotable h = absurd (cc h)
token68_kinds Of.Control h = absurd (cc h)

-- a byte of this kind leaves the readings of a position, with what is kept of it
abbrev Goes : Position → Kind → Effect → Type 0
Goes p k e = (params schemes : Bool) (w : Kept) (b : Spot)
    → Leaves (readings params schemes p (kept_after e w b)) (after k b (readings params schemes p w)) × (k ≡ Comma → ending p w ≡ None)

word_goes : (p : Position) (k : Kind) → IsTrue (word_stays p k) → Goes p k Keep.Word
word_goes At.Start k h = absurd (cc h)
word_goes At.Word k h = elim (token_kinds k h) [ inl e ↦ rw e (λ params schemes w b. (inl refl, λ q. absurd (cc q))) | inr e ↦ rw e (λ params schemes w b. (inl refl, λ q. absurd (cc q))) ]
word_goes At.WordSpace k h = absurd (cc h)
word_goes At.WordWhite k h = absurd (cc h)
word_goes At.Scheme k h = elim (token_kinds k h) [ inl e ↦ rw e (λ params schemes w b. (inl refl, λ q. absurd (cc q))) | inr e ↦ rw e (λ params schemes w b. (inl refl, λ q. absurd (cc q))) ]
word_goes At.SchemeSpace k h = absurd (cc h)
word_goes At.SchemeWhite k h = absurd (cc h)
word_goes At.Second k h = rw (plain_kinds k h) (λ params schemes w b. (inl refl, λ q. absurd (cc q)))
word_goes At.SecondWhite k h = absurd (cc h)
word_goes At.SecondEquals k h = absurd (cc h)
word_goes At.SecondEqualsWhite k h = absurd (cc h)
word_goes At.Token68 k h = elim (token68_kinds k h) [ inl e ↦ rw e (λ params schemes w b. (inl refl, λ q. absurd (cc q))) | inr e ↦ rw e (λ params schemes w b. (inl refl, λ q. absurd (cc q))) ]
word_goes At.Padding k h = absurd (cc h)
word_goes At.Token68White k h = absurd (cc h)
word_goes At.Name k h = elim (token_kinds k h) [ inl e ↦ rw e (λ params schemes w b. (inl refl, λ q. absurd (cc q))) | inr e ↦ rw e (λ params schemes w b. (inl refl, λ q. absurd (cc q))) ]
word_goes At.NameWhite k h = absurd (cc h)
word_goes At.Equals k h = absurd (cc h)
word_goes At.Value k h = absurd (cc h)
word_goes At.Token k h = absurd (cc h)
word_goes At.Loose k h = absurd (cc h)
word_goes At.LoosePadding k h = absurd (cc h)
word_goes At.Quoted k h = absurd (cc h)
word_goes At.Escaped k h = absurd (cc h)
word_goes At.ValueWhite k h = absurd (cc h)

quoted_goes : (k : Kind) → IsTrue (is_quotable k) → Goes At.Quoted k Keep.Value
quoted_goes Of.Comma h params schemes w b = (inl refl, λ q. refl)
quoted_goes Of.Space h params schemes w b = (inl refl, λ q. absurd (cc q))
quoted_goes Of.Tab h params schemes w b = (inl refl, λ q. absurd (cc q))
quoted_goes Of.Equals h params schemes w b = (inl refl, λ q. absurd (cc q))
quoted_goes Of.Quote h params schemes w b = absurd (cc h)
quoted_goes Of.Backslash h params schemes w b = absurd (cc h)
quoted_goes Of.Slash h params schemes w b = (inl refl, λ q. absurd (cc q))
quoted_goes Of.Plain h params schemes w b = (inl refl, λ q. absurd (cc q))
quoted_goes Of.Mark h params schemes w b = (inl refl, λ q. absurd (cc q))
quoted_goes Of.Quotable h params schemes w b = (inl refl, λ q. absurd (cc q))
quoted_goes Of.Control h params schemes w b = absurd (cc h)

value_goes : (p : Position) (k : Kind) → IsTrue (value_stays p k) → Goes p k Keep.Value
value_goes At.Start k h = absurd (cc h)
value_goes At.Word k h = absurd (cc h)
value_goes At.WordSpace k h = absurd (cc h)
value_goes At.WordWhite k h = absurd (cc h)
value_goes At.Scheme k h = absurd (cc h)
value_goes At.SchemeSpace k h = absurd (cc h)
value_goes At.SchemeWhite k h = absurd (cc h)
value_goes At.Second k h = absurd (cc h)
value_goes At.SecondWhite k h = absurd (cc h)
value_goes At.SecondEquals k h = absurd (cc h)
value_goes At.SecondEqualsWhite k h = absurd (cc h)
value_goes At.Token68 k h = absurd (cc h)
value_goes At.Padding k h = absurd (cc h)
value_goes At.Token68White k h = absurd (cc h)
value_goes At.Name k h = absurd (cc h)
value_goes At.NameWhite k h = absurd (cc h)
value_goes At.Equals k h = absurd (cc h)
value_goes At.Value k h = rw (plain_kinds k h) (λ params schemes w b. (inl refl, λ q. absurd (cc q)))
value_goes At.Token k h = elim (token_kinds k h) [ inl e ↦ rw e (λ params schemes w b. (inl refl, λ q. absurd (cc q))) | inr e ↦ rw e (λ params schemes w b. (inl refl, λ q. absurd (cc q))) ]
value_goes At.Loose k h = elim (token68_kinds k h) [ inl e ↦ rw e (λ params schemes w b. (inl refl, λ q. absurd (cc q))) | inr e ↦ rw e (λ params schemes w b. (inl refl, λ q. absurd (cc q))) ]
value_goes At.LoosePadding k h = absurd (cc h)
value_goes At.Quoted k h = quoted_goes k h
value_goes At.Escaped k h = absurd (cc h)
value_goes At.ValueWhite k h = absurd (cc h)

-- what is kept of the bytes behind the first
abbrev further : Effect → Effect
further Keep.Nothing = Keep.Nothing
further Keep.FirstWord = Keep.Word
further Keep.NextWord = Keep.Word
further Keep.Word = Keep.Word
further Keep.LateWord = Keep.Word
further Keep.OpenValue = Keep.Value
further Keep.FirstValue = Keep.Value
further Keep.Value = Keep.Value

stay_goes : (e : Effect) (p : Position) (k : Kind) → IsTrue (stays e p k) → Goes p k (further e)
stay_goes Keep.Nothing p k h = absurd (cc h)
stay_goes Keep.FirstWord p k h = word_goes p k h
stay_goes Keep.NextWord p k h = word_goes p k h
stay_goes Keep.Word p k h = word_goes p k h
stay_goes Keep.LateWord p k h = word_goes p k h
stay_goes Keep.OpenValue p k h = value_goes p k h
stay_goes Keep.FirstValue p k h = value_goes p k h
stay_goes Keep.Value p k h = value_goes p k h

-- one byte more of a run
kept_more : (e : Effect) (p : Position) (k : Kind) (w : Kept) (at : ℕ) (f : ℕ) (fs : List ℕ) (b : Spot) → IsTrue (stays e p k)
    → kept_after (further e) (kept_run e w at (f ∷ fs)) b ≡ kept_run e w at (f ∷ (fs ++ b.byte ∷ []))
kept_more Keep.Nothing p k w at f fs b h = absurd (cc h)
kept_more Keep.FirstWord p k w at f fs b h = refl
kept_more Keep.NextWord p k w at f fs b h = refl
kept_more Keep.Word p k w at f fs b h = ap (λ (x : List ℕ). record w { word = x }) (append_assoc w.word (f ∷ fs) (b.byte ∷ []))
kept_more Keep.LateWord p k w at f fs b h = ap (λ (x : List ℕ). record w { word = x }) (append_assoc (w.word ++ 61 ∷ []) (f ∷ fs) (b.byte ∷ []))
kept_more Keep.OpenValue p k w at f fs b h = refl
kept_more Keep.FirstValue p k w at f fs b h = refl
kept_more Keep.Value p k w at f fs b h = ap (λ (x : List ℕ). record w { value = x }) (append_assoc w.value (f ∷ fs) (b.byte ∷ []))

-- a run of one byte
pub kept_one : (e : Effect) (w : Kept) (at b : ℕ) → kept_run e w at (b ∷ []) ≡ kept_after e w (record { at = at; byte = b })
kept_one Keep.Nothing w at b = refl
kept_one Keep.FirstWord w at b = refl
kept_one Keep.NextWord w at b = refl
kept_one Keep.Word w at b = refl
kept_one Keep.LateWord w at b = refl
kept_one Keep.OpenValue w at b = refl
kept_one Keep.FirstValue w at b = refl
kept_one Keep.Value w at b = refl

both : (a b : Bool) → IsTrue (a && b) → IsTrue a × IsTrue b
both true b h = (refl, h)
both false b h = absurd (cc h)

-- a run of bytes that go where the first of them went
pub run_on : (g : Grammar) (c : Collected) (e : Effect) (p : Position) (w : Kept) (at : ℕ) (fed : List ℕ) (f : ℕ) (fs bs : List ℕ) → IsTrue (list_all (λ b. stays e p (kind_of b)) bs)
    → Follows (rules g) c p (kept_run e w at (f ∷ fs)) (fed ++ f ∷ fs) → Follows (rules g) c p (kept_run e w at (f ∷ (fs ++ bs))) (fed ++ f ∷ (fs ++ bs))
run_on g c e p w at fed f fs [] h s = subst (λ (x : List ℕ). Follows (rules g) c p (kept_run e w at (f ∷ x)) (fed ++ f ∷ x)) (sym (append-nil fs)) s
run_on g c e p w at fed f fs (b ∷ bs) h s =
    let t = both (stays e p (kind_of b)) (list_all (λ b. stays e p (kind_of b)) bs) h in
    let v : Kept = kept_run e w at (f ∷ fs) in
    let here : Spot = record { at = length (fed ++ f ∷ fs); byte = b } in
    let goes = stay_goes e p (kind_of b) t.0 ((rules g).params c) ((rules g).schemes c) v here in
    let next = follows_on (rules g) (laws g) c p p v (kept_after (further e) v here) (fed ++ f ∷ fs) b s goes.0 goes.1 in
    let same = kept_more e p (kind_of b) w at f fs here t.0 in
    subst (λ (x : List ℕ). Follows (rules g) c p (kept_run e w at (f ∷ x)) (fed ++ f ∷ x)) (append_assoc fs (b ∷ []) bs)
    (run_on g c e p w at fed f (fs ++ b ∷ []) bs t.1
    (subst (λ (x : Kept). Follows (rules g) c p x (fed ++ f ∷ (fs ++ b ∷ []))) same
    (subst (λ (x : List ℕ). Follows (rules g) c p (kept_after (further e) v here) x) (append_assoc fed (f ∷ fs) (b ∷ [])) next)))

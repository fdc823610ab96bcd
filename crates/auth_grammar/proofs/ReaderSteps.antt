use Rattle.std.proofs.Common.{◌≡◌, ℕ, zero, suc, Bool, List, [], ◌∷◌, ◌++◌, Option, Some, None, refl, ap, sym, ◌∙◌, append_assoc, subst, IsSome, ◌≤◌, ◌<◌, ◌+◌, ◌-◌, length, take, drop, arith, Result, Ok, Err, IfOk, IfErr}
use Rattle.std.proofs.lemmas.List.{take-append-drop, length-take-le, length-drop}
use Rattle.std.proofs.Math.Seq.{take-length, take-append-add, take-add}
use Rattle.auth_grammar.specs.Kinds.{kind_of}
use Rattle.auth_grammar.specs.declared.kinds.Kind.{Kind}
use Rattle.auth_grammar.specs.declared.kept.Kept.{Kept}
use Rattle.auth_grammar.specs.declared.position.Position.{Position}
use Rattle.auth_grammar.specs.declared.position.Position.TheVariants as At
use Rattle.auth_grammar.specs.declared.position.Turn.{Turn}
use Rattle.auth_grammar.specs.declared.position.Turn.TheVariants as To
use Rattle.auth_grammar.specs.declared.reader.Reader.{Reader}
use Rattle.auth_grammar.specs.declared.grammar.Grammar.{Grammar}
use Rattle.auth_grammar.specs.declared.groups.Grouped.{Grouped}
use Rattle.auth_grammar.specs.declared.collected.Collected.{Collected}
use Rattle.auth_grammar.specs.declared.elements.Element.{Element}
use Rattle.auth_grammar.specs.declared.error.GrammarError.{GrammarError}
use Rattle.auth_grammar.specs.declared.error.GrammarError.TheVariants.{NotGrammar, Twice, OutOfMemory}
use Rattle.auth_grammar.specs.Grammar.{Spot}
use Rattle.auth_grammar.specs.Reach.{Begins, Stops}
use Rattle.auth_grammar.specs.Positions.{ending, kept_after, kept_run, Turns, EndsElement}
use Rattle.auth_grammar.specs.Items.{Spells, SpellsOnly}
use Rattle.auth_grammar.specs.Collecting.{rules, begun_of, add_element, takes_param, takes_scheme, finished, joined}
use Rattle.auth_grammar.specs.Steps.{with_ended, Does, Steps, Finishes}
use Rattle.auth_grammar.specs.Answers.{Refuses}
use Rattle.auth_grammar.specs.States.{Follows}
use Rattle.auth_grammar.proofs.StateLaws.{follows_begun, follows_on, follows_end, follows_dead, follows_begins, follows_made, follows_only, some_is}
use Rattle.auth_grammar.proofs.RunLaws.{kept_one, run_on}
use Rattle.auth_grammar.proofs.CollectingLaws.{laws, makes_end, spelled_to, spelled_from}

module _ (k : Grammar) where
  -- the reader has read these bytes
  abbrev pub HasRead : Reader → List ℕ → Type 0
  HasRead r fed = Follows (rules k) r.collected r.position r.kept fed

  moved : (c d : Collected) (p q : Position) (w v : Kept) (fed : List ℕ) → d ≡ c → q ≡ p → v ≡ w → Follows (rules k) c p w fed → Follows (rules k) d q v fed
  moved c d p q w v fed e f h s =
      subst (λ (x : Collected). Follows (rules k) x q v fed) (sym e)
      (subst (λ (x : Position). Follows (rules k) c x v fed) (sym f)
      (subst (λ (x : Kept). Follows (rules k) c p x fed) (sym h) s))

  -- what a step leaves, which reads so many of the bytes that are left
  abbrev pub After : Reader → List ℕ → List ℕ → ℕ → Type 0
  After new fed rest zero = (more : List ℕ) (x : Grouped) → Spells k ((fed ++ take 1 rest) ++ more) x → ⊥
  After new fed rest (suc n) = HasRead new (fed ++ take (suc n) rest)

  turned : (old new : Reader) (fed : List ℕ) (b : ℕ) (bs : List ℕ) (count : ℕ) (t : Turn) → HasRead old fed
      → Turns old.position (kind_of b) (takes_param old.collected) (takes_scheme old.collected) t
      → Does t old (length fed) (b ∷ bs) count new → After new fed (b ∷ bs) count
  turned old new fed b bs count To.Dead f u d =
      let v = u old.kept (record { at = length fed; byte = b }) refl in
      subst (λ (n : ℕ). After new fed (b ∷ bs) n) (sym d)
      (λ more x h. follows_dead (rules k) (laws k) old.collected old.position old.kept fed b f v.0 v.1 more x (spelled_to k ((fed ++ b ∷ []) ++ more) x h))
  turned old new fed b bs count To.End f u d =
      let v = u old.kept (record { at = length fed; byte = b }) refl in
      let s = some_is (ending old.position old.kept) v.1.1 in
      subst (λ (n : ℕ). After new fed (b ∷ bs) n) (sym d.0)
      (moved (add_element old.collected s.0) new.collected At.Start new.position new.kept new.kept (fed ++ b ∷ []) (d.2 ∙ ap (with_ended old.collected) s.1) d.1 refl
      (follows_end (rules k) (laws k) old.collected old.position old.kept new.kept s.0 fed b f v.0 v.1.0 s.1))
  turned old new fed b bs zero (To.Go p e) f u d = absurd (omega (arith, d.0))
  turned old new fed b bs (suc n) (To.Go p e) f u d =
      let c : Spot = record { at = length fed; byte = b } in
      let v = u old.kept c refl in
      let first = follows_on (rules k) (laws k) old.collected old.position p old.kept (kept_after e old.kept c) fed b f v.0 v.1 in
      let one = subst (λ (w : Kept). Follows (rules k) old.collected p w (fed ++ b ∷ [])) (sym (kept_one e old.kept (length fed) b)) first in
      moved old.collected new.collected p new.position (kept_run e old.kept (length fed) (b ∷ take n bs)) new.kept (fed ++ b ∷ take n bs) d.5 d.3 d.4
      (run_on k old.collected e p old.kept (length fed) fed b [] (take n bs) d.2 one)

  pub stepped : (old new : Reader) (fed : List ℕ) (at : ℕ) (rest : List ℕ) (count : ℕ) → at ≡ length fed → 1 ≤ length rest → HasRead old fed → Steps old at rest count new → After new fed rest count
  stepped old new fed at [] count a l f s = absurd (omega (arith, l))
  stepped old new fed at (b ∷ bs) count a l f s = turned old new fed b bs count s.0 f s.1 (subst (λ (n : ℕ). Does s.0 old n (b ∷ bs) count new) a s.2)

  pub reads_begins : (r : Reader) (fed : List ℕ) → HasRead r fed → Begins (Spells k) fed
  reads_begins r fed f = let b = follows_begins (rules k) (laws k) r.collected r.position r.kept fed f in (b.0, b.1, spelled_from k (fed ++ b.0) b.1 b.2)

  -- the end of a text
  finished_ok : (r : Reader) (text : List ℕ) (x : Grouped) (e : Element) → HasRead r text → ending r.position r.kept ≡ Some e → finished (add_element r.collected e) ≡ Some x → Spells k text x
  finished_ok r text x e f h g = spelled_from k text x (follows_made (rules k) (laws k) r.collected r.position r.kept text e x f h (makes_end (add_element r.collected e) ∙ g))

  clash : {A : Type 0} (o : Option A) (x : A) → o ≡ None → o ≡ Some x → ⊥
  clash o x n s = cc

  finished_err : (r : Reader) (text : List ℕ) (at : ℕ) → HasRead r text → at ≡ length text
      → ((e : Element) → ending r.position r.kept ≡ Some e → finished (add_element r.collected e) ≡ None) → Stops (Spells k) text at
  finished_err r text at f a n = record {
    reach = record {
      within = omega arith;
      begins = subst (λ (y : List ℕ). Begins (Spells k) y) (sym (ap (λ (m : ℕ). take m text) a ∙ take-length text)) (reads_begins r text f);
      longest = λ m low high h. absurd (omega arith);
    };
    none = λ x h.
        let l = follows_only (rules k) (laws k) r.collected r.position r.kept text x f (spelled_to k text x h) in
        clash (finished (add_element r.collected l.0)) x (n l.0 l.1) (sym (makes_end (add_element r.collected l.0)) ∙ l.2);
  }

  -- a byte more, and what is left
  more_of : (text : List ℕ) (i n : ℕ) → i < n → n ≤ length text → take n text ≡ take (i + 1) text ++ take (n - (i + 1)) (drop (i + 1) text)
  more_of text i n low high =
      let front : List ℕ = take (i + 1) text in
      let back : List ℕ = drop (i + 1) text in
      let size : length front ≡ i + 1 = length-take-le (i + 1) text (omega arith) in
      let count : n ≡ length front + (n - (i + 1)) = omega arith in
      ap (λ (x : List ℕ). take n x) (sym (take-append-drop (i + 1) text)) ∙ ap (λ (x : ℕ). take x (front ++ back)) count ∙ take-append-add front back (n - (i + 1))

  -- a text stops where some text goes on to a place and none past it
  pub dead_stops : (text : List ℕ) (i : ℕ) → Begins (Spells k) (take i text) → i < length text → ((rest : List ℕ) (x : Grouped) → Spells k (take (i + 1) text ++ rest) x → ⊥) → Stops (Spells k) text i
  dead_stops text i f l d = record {
    reach = record {
      within = omega arith;
      begins = f;
      longest = λ n low high h. d (take (n - (i + 1)) (drop (i + 1) text) ++ h.0) h.1
          (subst (λ (y : List ℕ). Spells k y h.1) (ap (λ (y : List ℕ). y ++ h.0) (more_of text i n low high) ∙ append_assoc (take (i + 1) text) (take (n - (i + 1)) (drop (i + 1) text)) h.0) h.2);
    };
    none = λ x h. d (drop (i + 1) text) x (subst (λ (y : List ℕ). Spells k y x) (sym (take-append-drop (i + 1) text)) h);
  }

  pub begun_reads : (r : Reader) → r.collected ≡ begun_of k → r.position ≡ At.Start → HasRead r []
  begun_reads r c p = moved (begun_of k) r.collected At.Start r.position r.kept r.kept [] c p refl (follows_begun (rules k) (laws k) r.kept)

  step_after : (old new : Reader) (text : List ℕ) (i at count : ℕ) → HasRead old (take i text) → at ≡ i → i < length text → Steps old at (drop i text) count new → After new (take i text) (drop i text) count
  step_after old new text i at count f a l s =
      let size : length (take i text) ≡ i = length-take-le i text (omega arith) in
      let left : length (drop i text) ≡ length text - i = length-drop i text in
      stepped old new (take i text) at (drop i text) count (omega arith) (omega arith) f s

  pub step_on : (old new : Reader) (text : List ℕ) (i at count : ℕ) → HasRead old (take i text) → at ≡ i → i < length text → Steps old at (drop i text) count new → 1 ≤ count → HasRead new (take (i + count) text)
  step_on old new text i at count f a l s some =
      subst (λ (y : List ℕ). HasRead new y) (sym (take-add i count text)) (read_some count some (step_after old new text i at count f a l s))
    where
      read_some : (n : ℕ) → 1 ≤ n → After new (take i text) (drop i text) n → HasRead new (take i text ++ take n (drop i text))
      read_some zero some h = absurd (omega (arith, some))
      read_some (suc n) some h = h

  pub step_dead : (old new : Reader) (text : List ℕ) (i at count : ℕ) → HasRead old (take i text) → at ≡ i → i < length text → Steps old at (drop i text) count new → count ≡ 0 → Stops (Spells k) text at
  step_dead old new text i at count f a l s none =
      let dead = subst (λ (n : ℕ). After new (take i text) (drop i text) n) none (step_after old new text i at count f a l s) in
      subst (λ (x : ℕ). Stops (Spells k) text x) (sym a)
      (dead_stops text i (reads_begins old (take i text) f) l
      (λ more x h. dead more x (subst (λ (y : List ℕ). Spells k (y ++ more) x) (take-add i 1 text) h)))

  finished_only : (r : Reader) (text : List ℕ) (x : Grouped) (e : Element) → HasRead r text → ending r.position r.kept ≡ Some e → finished (add_element r.collected e) ≡ Some x → (y : Grouped) → Spells k text y → y ≡ x
  finished_only r text x e f h g y s =
      let l = follows_only (rules k) (laws k) r.collected r.position r.kept text y f (spelled_to k text y s) in
      same l.0 (cc (h, l.1)) l.2
    where
      same : (d : Element) → d ≡ e → joined (add_element r.collected d) [] [] ≡ Some y → y ≡ x
      same d i p = (let q : finished (add_element r.collected e) ≡ Some y = sym (makes_end (add_element r.collected e)) ∙ subst (λ (z : Element). joined (add_element r.collected z) [] [] ≡ Some y) i p in cc (q, g))

  pub end_spelled : (r : Reader) (text : List ℕ) (at : ℕ) (res : Result Grouped GrammarError) → HasRead r text → at ≡ length text → Finishes r at res → IfOk res (λ x. SpellsOnly k text x)
  end_spelled r text at (Ok x) f a h = (finished_ok r text x h.0 f h.1 h.2, finished_only r text x h.0 f h.1 h.2)
  end_spelled r text at (Err e) f a h = tt

  pub end_refused : (r : Reader) (text : List ℕ) (at : ℕ) (res : Result Grouped GrammarError) → HasRead r text → at ≡ length text → Finishes r at res → IfErr res (λ e. Refuses k text e)
  end_refused r text at (Ok x) f a h = tt
  end_refused r text at (Err (NotGrammar n)) f a h = finished_err r text n f (h.0 ∙ a) h.1
  end_refused r text at (Err (Twice n name)) f a h = absurd h
  end_refused r text at (Err OutOfMemory) f a h = tt

-- what is left of a text, as it is cut
pub steps_left : (old new : Reader) (at : ℕ) (text : List ℕ) (i count : ℕ) → Steps old at (take (length text - i) (drop i text)) count new → Steps old at (drop i text) count new
steps_left old new at text i count s =
    subst (λ (y : List ℕ). Steps old at y count new) (ap (λ (n : ℕ). take n (drop i text)) (sym (length-drop i text)) ∙ take-length (drop i text)) s

-- a step reads no more than is left
pub step_within : (old new : Reader) (at : ℕ) (rest : List ℕ) (count : ℕ) → 1 ≤ length rest → Steps old at rest count new → count ≤ length rest
step_within old new at rest count some s = within s.0 s.2
  where
    within : (t : Turn) → Does t old at rest count new → count ≤ length rest
    within To.Dead d = omega (arith, d)
    within To.End d = omega (arith, d.0, some)
    within (To.Go p e) d = d.1

-- a turn to an element's end is where one may end
pub turns_to_end : (p : Position) (b : ℕ) (k : Kind) (params schemes : Bool) (t : Turn) (w : Kept) → k ≡ kind_of b → Turns p k params schemes t → t ≡ To.End → IsSome (ending p w)
turns_to_end p b k params schemes t w h u e =
    (let v : EndsElement To.End k (ending p w) = subst (λ (x : Turn). EndsElement x k (ending p w)) e (u w (record { at = 0; byte = b }) (sym h)).1 in v.1)

pub if_ok_map : {A E : Type 0} (P Q : A → Type 0) (r : Result A E) → ((x : A) → P x → Q x) → IfOk r P → IfOk r Q
if_ok_map P Q (Ok x) f h = f x h
if_ok_map P Q (Err e) f h = h

-- How far texts of a form go on, and the messages that they spell.
use Rattle.std.proofs.Common.{◌≡◌, ◌+◌, ◌-◌, ◌<◌, ◌≤◌, ℕ, Bool, true, false, List, [], ◌∷◌, ◌++◌, refl, sym, ◌∙◌, ap, subst, length, take, length-append, append_assoc, suc, arith}
use Rattle.std.proofs.Math.Seq.{take-append-add}
use Rattle.std.proofs.lemmas.List.{take_at}
use Rattle.auth_grammar.specs.Reach.{Stops}
use Rattle.scram_text.specs.Parts.{LedBy}
use Rattle.scram_text.specs.Reaching.{Halts, Reaches}
use Rattle.scram_text.proofs.PartLaws.{led_none, led_off, led_on}

-- a byte that leads on, and no byte that does
pub halts_on : (test : ℕ → Bool) (Form : List ℕ → Type 0) (b : ℕ) (text : List ℕ) (at : ℕ) → test b ≡ true → Halts Form text at → Halts (LedBy test Form) (b ∷ text) (1 + at)
halts_on test Form b text at leads halts = record { reach = led_on test Form b text at leads halts.reach; none = led_none test Form b text halts.none }

pub halts_off : (test : ℕ → Bool) (Form : List ℕ → Type 0) (one : ℕ) (word : List ℕ) → test one ≡ true → Form word → (text : List ℕ) → ((b : ℕ) (left : List ℕ) → text ≡ b ∷ left → test b ≡ false) → Halts (LedBy test Form) text 0
halts_off test Form one word leads follows text fails = record {
  reach = led_off test Form one word leads follows text fails;
  none = λ led. let fail : test led.first ≡ false = fails led.first led.more led.cut in let wrong : true ≡ false = sym led.leads ∙ fail in cc;
}

-- a text behind others of the same length
pub moved : (Form : List ℕ → Type 0) (text : List ℕ) (m n : ℕ) → m ≡ n → Halts Form text m → Halts Form text n
moved Form text m n same halts = let P : ℕ → Type 0 = λ k. Halts Form text k in subst P same halts

module _ {X : Type 0} (Spells : List ℕ → X → Type 0) (Form : List ℕ → Type 0) (form : (t : List ℕ) (x : X) → Spells t x → Form t) (spelled : (t : List ℕ) → Form t → (x : X) × Spells t x) where
  -- where a text of the form stops, no message goes on
  pub stops : (text : List ℕ) (at : ℕ) → Halts Form text at → Stops Spells text at
  stops text at halts =
      let reach = halts.reach in
      let front_is : take at text ≡ reach.front = ap (λ (t : List ℕ). take at t) reach.cut ∙ take_at reach.front reach.back at reach.long in
      record {
        none = λ x spells. halts.none (form text x spells);
        reach = record {
          within = (let e = ap length reach.cut in let l = reach.long in let s = length-append reach.front reach.back in omega arith);
          begins = (reach.rest, (spelled (take at text ++ reach.rest) (subst Form (ap (λ (t : List ℕ). t ++ reach.rest) (sym front_is)) reach.lives)).0, (spelled (take at text ++ reach.rest) (subst Form (ap (λ (t : List ℕ). t ++ reach.rest) (sym front_is)) reach.lives)).1);
          longest = λ n past within begins. go n past within begins.0 (form (take n text ++ begins.0) begins.1 begins.2) reach.back refl;
        };
      }
    where
      go : (n : ℕ) → at < n → n ≤ length text → (rest : List ℕ) → Form (take n text ++ rest) → (back : List ℕ) → halts.reach.back ≡ back → ⊥
      go n past within rest is [] none =
          let e = ap length halts.reach.cut in let s = length-append halts.reach.front halts.reach.back in let l = halts.reach.long in let z = ap length none in absurd (omega arith)
      go n past within rest is (b ∷ left) some =
          let m = n - at - 1 in
          let long = halts.reach.long in
          let count : n ≡ length halts.reach.front + (1 + m) = omega arith in
          let cut : text ≡ halts.reach.front ++ b ∷ left = halts.reach.cut ∙ ap (λ (w : List ℕ). halts.reach.front ++ w) some in
          let taken : take n text ≡ halts.reach.front ++ b ∷ take m left = ap (λ (t : List ℕ). take n t) cut ∙ ap (λ (k : ℕ). take k (halts.reach.front ++ b ∷ left)) count ∙ take-append-add halts.reach.front (b ∷ left) (1 + m) ∙ ap (λ (w : List ℕ). halts.reach.front ++ w) (one m) in
          halts.reach.stuck b left (take m left ++ rest) some (subst Form (ap (λ (w : List ℕ). w ++ rest) taken ∙ append_assoc halts.reach.front (b ∷ take m left) rest) is)
        where
          one : (m : ℕ) → take (1 + m) (b ∷ left) ≡ b ∷ take m left
          one m = let e : 1 + m ≡ suc m = omega arith in rw e refl

-- two forms of the same texts
pub same_reach : (F G : List ℕ → Type 0) → ((t : List ℕ) → F t → G t) → ((t : List ℕ) → G t → F t) → (text : List ℕ) (at : ℕ) → Reaches F text at → Reaches G text at
same_reach F G to from text at reach = record {
  front = reach.front;
  back = reach.back;
  cut = reach.cut;
  long = reach.long;
  rest = reach.rest;
  lives = to (reach.front ++ reach.rest) reach.lives;
  stuck = λ b left more e is. reach.stuck b left more e (from (reach.front ++ b ∷ more) is);
}

use Rattle.std.proofs.Common.{◌≡◌, ℕ, List, [], ◌++◌, Option, Some, None, Result, Ok, Err, refl, ap, sym, ◌∙◌, subst, ◌<◌, ◌+◌, ◌^◌, length, take, arith, lit<, is_err, is_ok, cond, false}
use Rattle.std.proofs.lemmas.List.{length-append, take-append-le}
use Rattle.auth_grammar.specs.declared.error.GrammarError.{GrammarError}
use Rattle.auth_grammar.specs.declared.error.GrammarError.TheVariants.{NotGrammar}
use Rattle.auth_grammar.specs.declared.grammar.Grammar.{Grammar}
use Rattle.auth_grammar.specs.declared.grammar.Grammar.TheVariants.{Challenges}
use Rattle.auth_grammar.specs.declared.walker.Walker.{Walker}
use Rattle.auth_grammar.specs.Items.{Spells}
use Rattle.auth_grammar.specs.Reach.{Begins, Stops}
use Rattle.auth_grammar.specs.Walks.{Stands, walker_of}
use Rattle.auth_grammar.specs.Feeds.{Fed, IsFed}
use Rattle.auth_grammar.proofs.ReaderSteps.{dead_stops}
use Rattle.auth_grammar.proofs.WalkLaws.{stands_begins, begun_walker}

-- a text that stops before its end stops there however it goes on
pub stops_longer : (k : Grammar) (text more : List ℕ) (at : ℕ) → Stops (Spells k) text at → at < length text → Stops (Spells k) (text ++ more) at
stops_longer k text more at s low =
    let size : length (text ++ more) ≡ length text + length more = length-append text more in
    let front : take at (text ++ more) ≡ take at text = take-append-le at text more (omega arith) in
    let past : take (at + 1) (text ++ more) ≡ take (at + 1) text = take-append-le (at + 1) text more (omega arith) in
    dead_stops k (text ++ more) at (subst (λ (x : List ℕ). Begins (Spells k) x) (sym front) s.reach.begins) (omega arith)
    (λ rest x h. s.reach.longest (at + 1) (omega arith) (omega arith) (rest, x, subst (λ (y : List ℕ). Spells k (y ++ rest) x) past h))

abbrev fed_of : List ℕ → Option ℕ → Fed
fed_of text fault = record { text = text; fault = fault }

pub repeats : (r : Fed) (walker : Walker) (text piece : List ℕ) (fault : Option ℕ) (n : ℕ) → fed_of text fault ≡ r → fault ≡ Some n → IsFed walker text fault
    → (at : ℕ) → r.fault ≡ Some at → (◌≡◌ {A = Result (Unit {0}) GrammarError} (Err (NotGrammar n)) (Err (NotGrammar at))) × (r ≡ r) × Stops (Spells Challenges) (r.text ++ piece) at
repeats r walker text piece fault n v f i at h =
    let e : n ≡ at = same (sym f ∙ ap (λ (x : Fed). x.fault) v ∙ h) in
    let s : Stops (Spells Challenges) text n × (n < length text) = subst (λ (x : Option ℕ). IsFed walker text x) f i in (
      refusal e,
      refl,
      subst (λ (x : Fed). Stops (Spells Challenges) (x.text ++ piece) at) v (subst (λ (x : ℕ). Stops (Spells Challenges) (text ++ piece) x) e (stops_longer Challenges text piece n s.0 s.1)),
    )
  where
    same : {a b : ℕ} → Some a ≡ Some b → a ≡ b
    same q = cc

    refusal : {a b : ℕ} → a ≡ b → ◌≡◌ {A = Result (Unit {0}) GrammarError} (Err (NotGrammar a)) (Err (NotGrammar b))
    refusal q = cc

pub takes : (r : Fed) (walker next : Walker) (text new piece : List ℕ) (fault : Option ℕ) → fed_of text fault ≡ r → r.fault ≡ None → IsFed walker text fault → new ≡ text ++ piece
    → (Stands Challenges walker text → Stands Challenges next (text ++ piece)) → (fed_of new fault ≡ fed_of (r.text ++ piece) None) × Begins (Spells Challenges) new
takes r walker next text new piece fault v n i e w =
    let f : fault ≡ None = ap (λ (x : Fed). x.fault) v ∙ n in
    let s : Stands Challenges walker text = subst (λ (x : Option ℕ). IsFed walker text x) f i in (
      ap (λ (x : List ℕ). fed_of x fault) (e ∙ ap (λ (x : Fed). x.text ++ piece) v) ∙ ap (fed_of (r.text ++ piece)) f,
      subst (λ (x : List ℕ). Begins (Spells Challenges) x) (sym e) (stands_begins Challenges next (text ++ piece) (w s)),
    )

pub begun_fed : (walker : Walker) (text : List ℕ) → text ≡ [] → walker ≡ walker_of Challenges → Stands Challenges walker text × (length text < 2 ^ 32)
begun_fed walker text e h = (subst (λ (x : List ℕ). Stands Challenges walker x) (sym e) (begun_walker Challenges walker h), subst (λ (x : List ℕ). length x < 2 ^ 32) (sym e) (lit< tt))

-- a vector that was extended
pub extended : {A B : Type 0} (result : Result A B) (new grown old : List ℕ) → is_err result ≡ false → new ≡ cond (is_ok result) grown old → new ≡ grown
extended (Ok x) new grown old h e = e
extended (Err x) new grown old h e = absurd (cc (h))

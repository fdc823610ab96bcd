use Rattle.std.proofs.Common.{◌≢◌, ◌++◌, ℕ, List, inr, refl, sym, ◌∙◌}
use Rattle.std.specs.Cmp.Lexicographic.{other_text}
use Rattle.cred_store.specs.Texts.{header, title}
use Rattle.cred_store.specs.declared.version.Version.{Version}
use Rattle.cred_store.specs.declared.version.Version.TheVariants.{One, Two}
use Rattle.cred_store.proofs.version.behind_header.Goals as goal

no_title : (text : List ℕ) → text ≢ title One → text ≢ title Two → (v : Version) → text ≢ title v
no_title text one two One = one
no_title text one two Two = two

no_header : (text : List ℕ) → ((rest : List ℕ) → text ≢ header One ++ rest) → ((rest : List ℕ) → text ≢ header Two ++ rest) →
    (v : Version) (rest : List ℕ) → text ≢ header v ++ rest
no_header text one two One = one
no_header text one two Two = two

pub returns-in-Some-clause-ok : goal.returns-in-Some-clause-ok
unfolding header
returns-in-Some-clause-ok c = c.in-Some.ensures.some

pub returns-in-Some-behind-clause-ok : goal.returns-in-Some-behind-clause-ok
unfolding header
returns-in-Some-behind-clause-ok c = c.in-Some-behind.ensures.some

pub returns-in-None-clause-err : goal.returns-in-None-clause-err
unfolding header
returns-in-None-clause-err c =
    let text = c.args.text.now in
    inr (
      refl,
      no_title text (other_text text (title One) (sym c.if-eq.false ∙ c.eq.ensures)) (other_text text (title Two) (sym c.if-eq-2.false ∙ c.eq-else-eq.ensures)),
      no_header text c.in_default.ensures.none c.in-None.ensures.none,
    )

-- What is found in parameters that were written.
use Rattle.std.proofs.Common.{◌≡◌, ℕ, Bool, true, false, cond, List, [], ◌∷◌, ◌++◌, Option, Some, None, codes, refl, ap, sym, ◌∙◌}
use Rattle.std.specs.Prelude.{option_map, find}
use Rattle.std.specs.Option.{option_or}
use Rattle.auth_grammar.specs.Names.{same_name}
use Rattle.auth_grammar.specs.declared.items.Param.{Param}
use Rattle.digest_fields.specs.declared.field.FieldName.{FieldName}
use Rattle.digest_fields.specs.Field.{field_text, given}
use Rattle.digest_fields.specs.Write.{written, written_some, written_true}

-- whether a parameter is the one that is looked for
abbrev pub same_field : FieldName → FieldName → Bool
same_field wanted name = same_name (field_text name) (field_text wanted)

-- the value of the first, where it passes
value_cond : {X : Type 0} (f : X → List ℕ) (test : Bool) (x : X) (o : Option X)
    → option_map f (cond test (Some x) o) ≡ cond test (Some (f x)) (option_map f o)
value_cond f true x o = refl
value_cond f false x o = refl

-- the first list, or else the second
option_or_cond : {X : Type 0} (test : Bool) (x : X) (o p : Option X)
    → cond test (Some x) (option_or o p) ≡ option_or (cond test (Some x) o) p
option_or_cond true x o p = refl
option_or_cond false x o p = refl

-- what is found in two lists
pub given-append : (wanted : FieldName) (first second : List Param)
    → given wanted (first ++ second) ≡ option_or (given wanted first) (given wanted second)
unfolding given
given-append wanted [] second = refl
given-append wanted (p ∷ first) second =
    let test : Bool = same_name p.name (field_text wanted) in
    let found = λ (ps : List Param). find (λ q. same_name q.name (field_text wanted)) ps in
    value_cond (λ q. q.value) test p (found (first ++ second))
    ∙ ap (λ (o : Option (List ℕ)). cond test (Some p.value) o) (given-append wanted first second)
    ∙ option_or_cond test p.value (given wanted first) (given wanted second)
    ∙ ap (λ (o : Option (List ℕ)). option_or o (given wanted second)) (sym (value_cond (λ q. q.value) test p (found first)))

-- what is found in one parameter
pub given-written : (wanted name : FieldName) (value : List ℕ)
    → given wanted (written name value) ≡ cond (same_field wanted name) (Some value) None
unfolding given
given-written wanted name value = value_cond (λ (q : Param). q.value) (same_field wanted name) (record { name = field_text name; value = value }) None

-- the same either way
either_way : (test : Bool) (value : Option (List ℕ)) → value ≡ cond test value value
either_way true value = refl
either_way false value = refl

-- what is found in a parameter that may be there
pub given-written_some : (wanted name : FieldName) (value : Option (List ℕ))
    → given wanted (written_some name value) ≡ cond (same_field wanted name) value None
unfolding given
given-written_some wanted name (Some value) = given-written wanted name value
given-written_some wanted name None = either_way (same_field wanted name) None

-- what is found in a parameter that may be true
pub given-written_true : (wanted name : FieldName) (flag : Bool)
    → given wanted (written_true name flag) ≡ cond (same_field wanted name) (cond flag (Some (codes "true")) None) None
unfolding given
given-written_true wanted name true = given-written wanted name (codes "true")
given-written_true wanted name false = either_way (same_field wanted name) None

-- nothing behind a value that may be there
pub option_or-none : {X : Type 0} (o : Option X) → option_or o None ≡ o
option_or-none None = refl
option_or-none (Some x) = refl

-- what is found in any of them
pub ruleset lookups = (given-append, given-written, given-written_some, given-written_true, option_or-none)

-- Finding the space of a path.
use Rattle.std.proofs.Common.{◌≡◌, ◌≢◌, ◌==◌, ◌<◌, ◌≤◌, ◌+◌, ℕ, Bool, true, false, ◌||◌, cond, List, [], ◌∷◌, ◌++◌, length, drop, take, get_or, Option, Some, None, refl, sym, ap, ◌∙◌, arith, append_assoc, Bor, eq-eqb}
use Rattle.std.specs.Prelude.{nat_eq, nat_lt, bytes_eq, filter, IfSome, option_copied, if◌then◌else◌}
use Rattle.std.specs.List.{starts_with}
use Rattle.std.proofs.lemmas.Bool.{eqb-true}
use Rattle.std.proofs.lemmas.Bool.Decides.{nat_tests, Decides-eqb}
use Rattle.std.proofs.lemmas.List.{append-nil, append_cancel_left, take_more}
use Rattle.std.proofs.lemmas.List.Elements.{filter-append}
use Rattle.std.proofs.lemmas.Slice.Eq.{bytes_eq-Decides, starts_is}
use Rattle.spaces_map.specs.Follows.{EachFits}
use Rattle.spaces_map.specs.Lines.{IsTerms}
use Rattle.spaces_map.specs.Spaces.{holds, later_of, longer_of, longest, space_of}
use Rattle.spaces_map.specs.Texts.{MayFollow}
use Rattle.spaces_map.specs.declared.space.Space.{Space}

-- ---- paths behind a prefix

same_bool : (a b : Bool) → (a ≡ true → b ≡ true) → (b ≡ true → a ≡ true) → a ≡ b
same_bool true b p q = sym (p refl)
same_bool false true p q = q refl
same_bool false false p q = refl

not_true : (b : Bool) → (b ≡ true → ⊥) → b ≡ false
not_true true never = absurd (never refl)
not_true false never = refl

neither : (a b : Bool) → a ≡ false → b ≡ false → a || b ≡ false
neither a b p q = ap (λ (x : Bool). x || b) p ∙ q

-- where the prefix goes on with a slash
goes_on : (path prefix : List ℕ) → starts_with nat_eq path (prefix ++ 47 ∷ []) ≡ true → path ≡ prefix ++ 47 ∷ drop (length (prefix ++ 47 ∷ [])) path
goes_on path prefix is =
    (starts_is Decides-eqb path (prefix ++ 47 ∷ []) (starts_with nat_eq path (prefix ++ 47 ∷ [])) refl).0 is
    ∙ append_assoc prefix (47 ∷ []) (drop (length (prefix ++ 47 ∷ [])) path)

begins : (path prefix rest : List ℕ) → path ≡ prefix ++ 47 ∷ rest → starts_with nat_eq path (prefix ++ 47 ∷ []) ≡ true
begins path prefix rest is =
    (starts_is Decides-eqb path (prefix ++ 47 ∷ []) (starts_with nat_eq path (prefix ++ 47 ∷ [])) refl).1 rest (is ∙ sym (append_assoc prefix (47 ∷ []) rest))

pub outside : (path prefix : List ℕ) → ((rest : List ℕ) → path ≢ prefix ++ rest) → false ≡ bytes_eq path prefix || starts_with nat_eq path (prefix ++ 47 ∷ [])
outside path prefix none =
    sym (neither (bytes_eq path prefix) (starts_with nat_eq path (prefix ++ 47 ∷ []))
    (not_true (bytes_eq path prefix) (λ e. none [] ((bytes_eq-Decides path prefix).0 e ∙ sym (append-nil prefix))))
    (not_true (starts_with nat_eq path (prefix ++ 47 ∷ [])) (λ e. none (47 ∷ drop (length (prefix ++ 47 ∷ [])) path) (goes_on path prefix e))))

pub itself : (path prefix rest : List ℕ) → path ≡ prefix ++ rest → length rest < 1 → true ≡ bytes_eq path prefix || starts_with nat_eq path (prefix ++ 47 ∷ [])
itself path prefix [] is short =
    sym (ap (λ (b : Bool). b || starts_with nat_eq path (prefix ++ 47 ∷ [])) ((bytes_eq-Decides path prefix).1 (is ∙ append-nil prefix)))
itself path prefix (x ∷ rest) is short = absurd (omega arith)

head_is : (x y : ℕ) (a b : List ℕ) → x ∷ a ≡ y ∷ b → x ≡ y
head_is x y a b e = cc

not_nil : (x : ℕ) (a : List ℕ) → x ∷ a ≡ [] → ⊥
not_nil x a e = cc

further : (path prefix : List ℕ) (x : ℕ) (rest : List ℕ) → path ≡ prefix ++ x ∷ rest → (x == 47) ≡ bytes_eq path prefix || starts_with nat_eq path (prefix ++ 47 ∷ [])
further path prefix x rest is =
    let other : bytes_eq path prefix ≡ false = not_true (bytes_eq path prefix)
    (λ e. not_nil x rest (append_cancel_left prefix (x ∷ rest) [] (sym is ∙ (bytes_eq-Decides path prefix).0 e ∙ sym (append-nil prefix)))) in
    same_bool (x == 47) (starts_with nat_eq path (prefix ++ 47 ∷ []))
    (λ e. begins path prefix rest (is ∙ ap (λ (n : ℕ). prefix ++ n ∷ rest) (eqb-true x 47 e)))
    (λ e. eq-eqb x 47 (head_is x 47 rest (drop (length (prefix ++ 47 ∷ [])) path)
    (append_cancel_left prefix (x ∷ rest) (47 ∷ drop (length (prefix ++ 47 ∷ [])) path) (sym is ∙ goes_on path prefix e))))
    ∙ sym (ap (λ (b : Bool). b || starts_with nat_eq path (prefix ++ 47 ∷ [])) other)

pub beyond : (path prefix rest : List ℕ) → path ≡ prefix ++ rest → 1 ≤ length rest →
    nat_eq (get_or rest 0 0) 47 ≡ bytes_eq path prefix || starts_with nat_eq path (prefix ++ 47 ∷ [])
beyond path prefix [] is long = absurd (omega arith)
beyond path prefix (x ∷ rest) is long = further path prefix x rest is

-- ---- the longest so far

step : (x : Space) (longest : Option Space) (s : Space) → longer_of x (Some (later_of longest s)) ≡ Some (later_of (longer_of x longest) s)
step x None s = elim (nat_lt (length x.prefix) (length s.prefix)) as (λ v. (if v then Some s else Some x) ≡ Some (if v then s else x)) [ true ↦ refl | false ↦ refl ]
step x (Some b) s = grind (arith, nat_tests)

longest_push : (spaces : List Space) (s : Space) → longest (spaces ++ s ∷ []) ≡ Some (later_of (longest spaces) s)
longest_push [] s = refl
longest_push (x ∷ spaces) s = ap (λ (o : Option Space). longer_of x o) (longest_push spaces s) ∙ step x (longest spaces) s

kept : (path : List ℕ) (s : Space) (b : Bool) → holds s.prefix path ≡ b → filter (λ space. holds space.prefix path) (s ∷ []) ≡ cond b (s ∷ []) []
kept path s b e = ap (λ (v : Bool). cond v (s ∷ []) []) e

-- one more space that holds the path
pub held : (path : List ℕ) (spaces : List Space) (s : Space) → holds s.prefix path ≡ true → space_of path (spaces ++ s ∷ []) ≡ Some (later_of (space_of path spaces) s)
held path spaces s e =
    let fits : Space → Bool = λ space. holds space.prefix path in
    ap longest (filter-append fits spaces (s ∷ []) ∙ ap (λ (l : List Space). filter fits spaces ++ l) (kept path s true e)) ∙ longest_push (filter fits spaces) s

-- one more that doesn't
pub not_held : (path : List ℕ) (spaces : List Space) (s : Space) → holds s.prefix path ≡ false → space_of path (spaces ++ s ∷ []) ≡ space_of path spaces
not_held path spaces s e =
    let fits : Space → Bool = λ space. holds space.prefix path in
    ap longest (filter-append fits spaces (s ∷ []) ∙ ap (λ (l : List Space). filter fits spaces ++ l) (kept path s false e) ∙ append-nil (filter fits spaces))

next_space : (spaces : List Space) (i : ℕ) (s : Space) → i < length spaces → s ≡ get_or spaces i s → take (i + 1) spaces ≡ take i spaces ++ s ∷ []
next_space spaces i s within is = take_more spaces i s within ∙ ap (λ (x : Space). take i spaces ++ x ∷ []) (sym is)

-- the best so far after one that holds the path
pub one_held : (path : List ℕ) (spaces : List Space) (i : ℕ) (s : Space) (best : Option Space) → i < length spaces → s ≡ get_or spaces i s → best ≡ space_of path (take i spaces) →
    holds s.prefix path ≡ true → Some (later_of best s) ≡ space_of path (take (i + 1) spaces)
one_held path spaces i s best within is found e =
    ap (λ (o : Option Space). Some (later_of o s)) found ∙ sym (held path (take i spaces) s e) ∙ ap (space_of path) (sym (next_space spaces i s within is))

-- and after one that doesn't
pub none_held : (path : List ℕ) (spaces : List Space) (i : ℕ) (s : Space) (best : Option Space) → i < length spaces → s ≡ get_or spaces i s → best ≡ space_of path (take i spaces) →
    holds s.prefix path ≡ false → best ≡ space_of path (take (i + 1) spaces)
none_held path spaces i s best within is found e =
    found ∙ sym (not_held path (take i spaces) s e) ∙ ap (space_of path) (sym (next_space spaces i s within is))

-- ---- what is found

abbrev pub HasTerms : Space → Type 0
HasTerms space = IsTerms space.mode space.offers space.realm

longer_has : (x : Space) (found : Option Space) → HasTerms x → IfSome found HasTerms → IfSome (longer_of x found) HasTerms
longer_has x None mine theirs = mine
longer_has x (Some s) mine theirs =
    elim (nat_lt (length x.prefix) (length s.prefix)) as (λ v. IfSome (if v then Some s else Some x) HasTerms) [ true ↦ theirs | false ↦ mine ]

-- the space that is found has terms
pub found_has : (path : List ℕ) (before spaces : List Space) → EachFits MayFollow before spaces → IfSome (space_of path spaces) HasTerms
found_has path before [] each = tt
found_has path before (x ∷ spaces) each =
    let fits : Space → Bool = λ space. holds space.prefix path in
    let more : IfSome (longest (filter fits spaces)) HasTerms = found_has path (before ++ x ∷ []) spaces each.1 in
    elim (holds x.prefix path) as (λ v. IfSome (longest (cond v (x ∷ filter fits spaces) (filter fits spaces))) HasTerms) [
      | true ↦ longer_has x (longest (filter fits spaces)) each.0.line.terms more
      | false ↦ more
    ]

pub copied_has : (P : Space → Type 0) (found : Option (Bor Space)) → IfSome (option_copied found) P → IfSome found (λ space. P space.now)
copied_has P None has = tt
copied_has P (Some s) has = has

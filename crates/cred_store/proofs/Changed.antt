-- What look-ups find after a change.
use Rattle.std.proofs.Common.{◌≡◌, ◌≢◌, ℕ, Bool, true, false, ◌&&◌, not, cond, if◌then◌else◌, List, [], ◌∷◌, filter, Option, Some, None, refl, sym, ap, ◌∙◌, true≢false}
use Rattle.std.specs.Cmp.Lexicographic.{same_text}
use Rattle.std.specs.List.{find}
use Rattle.std.specs.Option.{option_and_then}
use Rattle.std.specs.Ordering.{is_eq}
use Rattle.std.specs.Str.{bytes_eq}
use Rattle.std.specs.declared.cmp.Ordering.{Ordering}
use Rattle.std.specs.declared.cmp.Ordering.TheVariants.{Less, Equal, Greater}
use Rattle.std.proofs.lemmas.Cmp.{alike_right}
use Rattle.auth_hash.specs.declared.algorithm.Algorithm.{Algorithm}
use Rattle.cred_store.specs.Changes.{by_order, flagged, put, switched, with_flag, without}
use Rattle.cred_store.specs.Keys.{Key, entry_cmp, key_at, key_of}
use Rattle.cred_store.specs.LookUps.{entry_of, ha1_of, is_keyed, is_of, keys_of, scram_of, secret_of}
use Rattle.cred_store.specs.declared.entry.Entry.{Entry}
use Rattle.cred_store.specs.declared.kind.SecretKind.{SecretKind}
use Rattle.cred_store.specs.declared.kind.SecretKind.TheVariants as kinds
use Rattle.cred_store.proofs.Order.{keyed, keys_total}
use Rattle.cred_store.proofs.Bytes.{both_first, both_second}
use Rattle.cred_store.proofs.Searches.{find_alike, has_key}

-- ---- put

-- two tests of which one fails at least
either_way : {X : Type 0} (a b : Bool) (x y z : X) → (a ≡ true → b ≡ true → ⊥) → cond a x (cond b y z) ≡ cond b y (cond a x z)
either_way true true x y z apart = absurd (apart refl refl)
either_way true false x y z apart = refl
either_way false true x y z apart = refl
either_way false false x y z apart = refl

-- two tests that are one
same_way : {X : Type 0} (a b : Bool) (x y z : X) → b ≡ a → cond a x z ≡ cond a x (cond b y z)
same_way true b x y z same = refl
same_way false b x y z same = ap (λ (v : Bool). cond v y z) (sym same)

tied : (o : Ordering) → is_eq o ≡ true → o ≡ Equal
tied Less e = absurd (true≢false (sym e))
tied Equal e = refl
tied Greater e = absurd (true≢false (sym e))

module _ (k : Key) (e : Entry) where
  apart : (x : Entry) → entry_cmp x e ≡ Less → has_key k x ≡ true → has_key k e ≡ true → ⊥
  apart x below here there =
      let same = alike_right keys_total (key_of e) k (key_of x) (tied _ there) in
      let level : Less ≡ Equal = sym below ∙ same ∙ tied _ here in
      less_not_equal level
    where
      less_not_equal : Less ≢ Equal
      less_not_equal level = cc

  pub find_put : (xs : List Entry) → find (has_key k) (put e xs) ≡ (if has_key k e then Some e else find (has_key k) xs)
  find_put [] = refl
  find_put (x ∷ xs) = by (entry_cmp x e) refl (find_put xs)
    where
      by : (o : Ordering) → entry_cmp x e ≡ o → find (has_key k) (put e xs) ≡ (if has_key k e then Some e else find (has_key k) xs) →
          find (has_key k) (by_order o (x ∷ put e xs) (e ∷ xs) (e ∷ x ∷ xs)) ≡ (if has_key k e then Some e else find (has_key k) (x ∷ xs))
      by Less is more =
          ap (λ (o : Option Entry). cond (has_key k x) (Some x) o) more
          ∙ either_way (has_key k x) (has_key k e) (Some x) (Some e) (find (has_key k) xs) (apart x is)
      by Equal is more = same_way (has_key k e) (has_key k x) (Some e) (Some x) (find (has_key k) xs) (ap is_eq (keys_total.congr (key_of x) (key_of e) k is))
      by Greater is more = refl

then_if : {V : Type 0} (f : Entry → Option V) (b : Bool) (e : Entry) (o : Option Entry) → option_and_then f (cond b (Some e) o) ≡ cond b (f e) (option_and_then f o)
then_if f true e o = refl
then_if f false e o = refl

look_put : {V : Type 0} (f : Entry → Option V) (e : Entry) (xs : List Entry) (name realm : List ℕ) (kind : SecretKind) →
    option_and_then f (entry_of name realm kind (put e xs)) ≡ (if is_keyed name realm kind e then f e else option_and_then f (entry_of name realm kind xs))
look_put f e xs name realm kind =
    let k = key_at name realm kind in
    let keys = find_alike (is_keyed name realm kind) (has_key k) (keyed name realm kind) in
    ap (option_and_then f) (keys (put e xs) ∙ find_put k e xs)
    ∙ then_if f (has_key k e) e (find (has_key k) xs)
    ∙ ap (λ (b : Bool). cond b (f e) (option_and_then f (find (has_key k) xs))) (sym (keyed name realm kind e))
    ∙ ap (λ (o : Option Entry). cond (is_keyed name realm kind e) (f e) (option_and_then f o)) (sym (keys xs))

pub secret_put : (e : Entry) (xs : List Entry) (name realm : List ℕ) (alg : Algorithm) →
    secret_of name realm alg (put e xs) ≡ (if is_keyed name realm (kinds.Digest alg) e then ha1_of e else secret_of name realm alg xs)
secret_put e xs name realm alg = look_put ha1_of e xs name realm (kinds.Digest alg)

pub scram_put : (e : Entry) (xs : List Entry) (name realm : List ℕ) →
    scram_of name realm (put e xs) ≡ (if is_keyed name realm kinds.ScramSha256 e then keys_of e else scram_of name realm xs)
scram_put e xs name realm = look_put keys_of e xs name realm kinds.ScramSha256

-- ---- without

module _ (p q : Entry → Bool) where
  find_filter_none : ((x : Entry) → p x ≡ true → q x ≡ false) → (xs : List Entry) → find p (filter q xs) ≡ None
  find_filter_none out [] = refl
  find_filter_none out (x ∷ xs) = by (q x) refl (find_filter_none out xs)
    where
      not_here : (b : Bool) → p x ≡ b → q x ≡ true → p x ≡ false
      not_here true here kept = absurd (true≢false (sym kept ∙ out x here))
      not_here false here kept = here

      by : (b : Bool) → q x ≡ b → find p (filter q xs) ≡ None → find p (cond b (x ∷ filter q xs) (filter q xs)) ≡ None
      by true kept more = ap (λ (v : Bool). cond v (Some x) (find p (filter q xs))) (not_here (p x) refl kept) ∙ more
      by false kept more = more

  find_filter_all : ((x : Entry) → p x ≡ true → q x ≡ true) → (xs : List Entry) → find p (filter q xs) ≡ find p xs
  find_filter_all stays [] = refl
  find_filter_all stays (x ∷ xs) = by (q x) refl (find_filter_all stays xs)
    where
      not_here : (b : Bool) → p x ≡ b → q x ≡ false → p x ≡ false
      not_here true here left = absurd (true≢false (sym (stays x here) ∙ left))
      not_here false here left = here

      by : (b : Bool) → q x ≡ b → find p (filter q xs) ≡ find p xs → find p (cond b (x ∷ filter q xs) (filter q xs)) ≡ find p (x ∷ xs)
      by true kept more = ap (λ (o : Option Entry). cond (p x) (Some x) o) more
      by false left more = more ∙ ap (λ (v : Bool). cond v (Some x) (find p xs)) (sym (not_here (p x) refl left))

-- an entry with a key is of another name and realm exactly where the key is
of_key : (name realm : List ℕ) (kind : SecretKind) (n r : List ℕ) (x : Entry) → is_keyed name realm kind x ≡ true → is_of n r x ≡ bytes_eq name n && bytes_eq realm r
of_key name realm kind n r x here =
    let of_it = both_first (is_of name realm x) _ here in
    let one = same_text x.name name (sym (both_first (bytes_eq x.name name) _ of_it)) in
    let two = same_text x.realm realm (sym (both_second (bytes_eq x.name name) _ of_it)) in
    ap (λ (l : List ℕ). bytes_eq l n && bytes_eq x.realm r) one ∙ ap (λ (l : List ℕ). bytes_eq name n && bytes_eq l r) two

look_without : {V : Type 0} (f : Entry → Option V) (n r : List ℕ) (xs : List Entry) (name realm : List ℕ) (kind : SecretKind) →
    option_and_then f (entry_of name realm kind (without n r xs)) ≡ (if bytes_eq name n && bytes_eq realm r then None else option_and_then f (entry_of name realm kind xs))
look_without {V} f n r xs name realm kind = by (bytes_eq name n && bytes_eq realm r) refl
  where
    by : (b : Bool) → bytes_eq name n && bytes_eq realm r ≡ b →
        option_and_then f (entry_of name realm kind (without n r xs)) ≡ (if b then None else option_and_then f (entry_of name realm kind xs))
    by true is = ap (option_and_then f)
        (find_filter_none (is_keyed name realm kind) (λ e. not (is_of n r e)) (λ x here. ap not (of_key name realm kind n r x here ∙ is)) xs)
    by false is = ap (option_and_then f)
        (find_filter_all (is_keyed name realm kind) (λ e. not (is_of n r e)) (λ x here. ap not (of_key name realm kind n r x here ∙ is)) xs)

pub secret_without : (n r : List ℕ) (xs : List Entry) (name realm : List ℕ) (alg : Algorithm) →
    secret_of name realm alg (without n r xs) ≡ (if bytes_eq name n && bytes_eq realm r then None else secret_of name realm alg xs)
secret_without n r xs name realm alg = look_without ha1_of n r xs name realm (kinds.Digest alg)

pub scram_without : (n r : List ℕ) (xs : List Entry) (name realm : List ℕ) →
    scram_of name realm (without n r xs) ≡ (if bytes_eq name n && bytes_eq realm r then None else scram_of name realm xs)
scram_without n r xs name realm = look_without keys_of n r xs name realm kinds.ScramSha256

-- ---- flags

-- a flag is no part of a key
same_key : (n r : List ℕ) (on : Bool) (name realm : List ℕ) (kind : SecretKind) (x : Entry) → is_keyed name realm kind (switched n r on x) ≡ is_keyed name realm kind x
same_key n r on name realm kind x = by (is_of n r x)
  where
    by : (b : Bool) → is_keyed name realm kind (if b then flagged on x else x) ≡ is_keyed name realm kind x
    by true = refl
    by false = refl

module _ (n r : List ℕ) (name realm : List ℕ) (kind : SecretKind) {V : Type 0} (f : Entry → Option V) (off : (x : Entry) → f (flagged false x) ≡ None) where
  switched_look : (x : Entry) → is_keyed name realm kind x ≡ true → f (switched n r false x) ≡ (if bytes_eq name n && bytes_eq realm r then None else f x)
  switched_look x here = ap (λ (b : Bool). f (if b then flagged false x else x)) (of_key name realm kind n r x here) ∙ by (bytes_eq name n && bytes_eq realm r)
    where
      by : (b : Bool) → f (if b then flagged false x else x) ≡ (if b then None else f x)
      by true = off x
      by false = refl

  none_either : (b : Bool) → (if b then None else option_and_then f None) ≡ None
  none_either true = refl
  none_either false = refl

  pub look_off : (xs : List Entry) → option_and_then f (entry_of name realm kind (with_flag n r false xs)) ≡
      (if bytes_eq name n && bytes_eq realm r then None else option_and_then f (entry_of name realm kind xs))
  look_off [] = sym (none_either (bytes_eq name n && bytes_eq realm r))
  look_off (x ∷ xs) =
      ap (λ (b : Bool). option_and_then f (cond b (Some (switched n r false x)) (entry_of name realm kind (with_flag n r false xs)))) (same_key n r false name realm kind x)
      ∙ by (is_keyed name realm kind x) refl (look_off xs)
    where
      by : (b : Bool) → is_keyed name realm kind x ≡ b →
          option_and_then f (entry_of name realm kind (with_flag n r false xs)) ≡ (if bytes_eq name n && bytes_eq realm r then None else option_and_then f (entry_of name realm kind xs)) →
          option_and_then f (cond b (Some (switched n r false x)) (entry_of name realm kind (with_flag n r false xs))) ≡
          (if bytes_eq name n && bytes_eq realm r then None else option_and_then f (cond b (Some x) (entry_of name realm kind xs)))
      by true here more = switched_look x here
      by false other more = more

pub secret_off : (n r : List ℕ) (xs : List Entry) (name realm : List ℕ) (alg : Algorithm) →
    secret_of name realm alg (with_flag n r false xs) ≡ (if bytes_eq name n && bytes_eq realm r then None else secret_of name realm alg xs)
secret_off n r xs name realm alg = look_off n r name realm (kinds.Digest alg) ha1_of (λ x. refl) xs

pub scram_off : (n r : List ℕ) (xs : List Entry) (name realm : List ℕ) →
    scram_of name realm (with_flag n r false xs) ≡ (if bytes_eq name n && bytes_eq realm r then None else scram_of name realm xs)
scram_off n r xs name realm = look_off n r name realm kinds.ScramSha256 keys_of (λ x. refl) xs

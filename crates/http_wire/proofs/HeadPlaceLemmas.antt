-- Where a head stands, as more bytes come.
use Rattle.std.proofs.Common.{◌≡◌, ◌∷◌, [], ◌++◌, ◌<◌, ◌≤◌, ◌+◌, ◌-◌, ℕ, zero, suc, List, length, take, drop, Option, Some, None, Bool, true, false, cond, ◌⊎◌, inl, inr, sym, refl, ap, ◌∙◌, subst, length-drop, arith}
use Rattle.std.specs.Prelude.{◌==◌, ◌&&◌, nat_lt, slice_range}
use Rattle.std.specs.Option.{option_map}
use Rattle.std.proofs.lemmas.Bool.{ltb-true, and_parts}
use Rattle.std.proofs.lemmas.List.{drop-append-le}
use Rattle.http_wire.specs.HeadPlace.{empty_line, blank_len, ends_here, head_len, place_after, head_place}

empty_if : (t s : Bool) (one two none : ℕ) → nat_lt 0 none ≡ false → nat_lt 0 (cond t one none) ≡ true → cond t one (cond s two none) ≡ cond t one none
empty_if true s one two none e h = refl
empty_if false s one two none e h = cc

-- an empty line stays one
pub empty_line_more : (bytes more : List ℕ) → nat_lt 0 (empty_line bytes) ≡ true → empty_line (bytes ++ more) ≡ empty_line bytes
empty_line_more [] more h = cc
empty_line_more (b ∷ []) [] h = refl
empty_line_more (b ∷ []) (c ∷ more) h = empty_if (b == 10) (b == 13 && c == 10) 1 2 0 refl h
empty_line_more (b ∷ c ∷ bytes) more h = refl

pub some_if : (t : Bool) (x o : Option ℕ) (n : ℕ) → cond t x (option_map suc o) ≡ Some n → (t ≡ true) ⊎ ((m : ℕ) × (o ≡ Some m) × (n ≡ suc m))
some_if true x o n h = inl refl
some_if false x None n h = cc
some_if false x (Some m) n h = inr (m, refl, cc)

one_byte : (t : Bool) (n : ℕ) → cond (t && false) (Some 1) None ≡ Some n → false ≡ true
one_byte true n h = cc
one_byte false n h = cc

-- what holds a head's end doesn't begin with an empty line that comes later
pub empty_line_later : (bytes more : List ℕ) (m : ℕ) → head_len bytes ≡ Some m → empty_line (bytes ++ more) ≡ empty_line bytes
empty_line_later [] more m h = cc
empty_line_later (b ∷ []) more m h = let no : false ≡ true = one_byte (b == 10) m h in cc
empty_line_later (b ∷ c ∷ bytes) more m h = refl

if_more : (t : Bool) (x o o' : Option ℕ) (n : ℕ) → ((m : ℕ) → o ≡ Some m → o' ≡ Some m) → cond t x (option_map suc o) ≡ Some n → cond t x (option_map suc o') ≡ Some n
if_more true x o o' n f h = h
if_more false x None o' n f h = cc
if_more false x (Some m) o' n f h = ap (λ (o : Option ℕ). option_map suc o) (f m refl) ∙ h

-- a head's end stays where it is
pub head_len_more : (bytes more : List ℕ) (n : ℕ) → head_len bytes ≡ Some n → head_len (bytes ++ more) ≡ Some n
head_len_more [] more n h = cc
head_len_more (b ∷ bytes) more n h =
    let same : empty_line (bytes ++ more) ≡ empty_line bytes =
    elim (some_if (ends_here b bytes) (Some (suc (empty_line bytes))) (head_len bytes) n h) [
      | inl t ↦ empty_line_more bytes more (and_parts (b == 10) (nat_lt 0 (empty_line bytes)) t).1
      | inr m ↦ empty_line_later bytes more m.0 m.1
    ] in
    ap (λ (e : ℕ). cond (b == 10 && nat_lt 0 e) (Some (suc e)) (option_map suc (head_len (bytes ++ more)))) same
    ∙ if_more (ends_here b bytes) (Some (suc (empty_line bytes))) (head_len bytes) (head_len (bytes ++ more)) n (head_len_more bytes more) h

empty_le_if : (t s : Bool) (n : ℕ) → cond t 1 (cond s 2 0) ≤ suc (suc n)
empty_le_if true s n = omega arith
empty_le_if false true n = omega arith
empty_le_if false false n = omega arith

empty_one_if : (t : Bool) → cond t 1 0 ≤ 1
empty_one_if true = omega arith
empty_one_if false = omega arith

pub empty_line_le : (bytes : List ℕ) → empty_line bytes ≤ length bytes
empty_line_le [] = omega arith
empty_line_le (b ∷ []) = empty_one_if (b == 10)
empty_line_le (b ∷ c ∷ bytes) = empty_le_if (b == 10) (b == 13 && c == 10) (length bytes)

-- a head takes bytes, and is in the text
pub head_len_within : (bytes : List ℕ) (n : ℕ) → head_len bytes ≡ Some n → (0 < n) × (n ≤ length bytes)
head_len_within [] n h = cc
head_len_within (b ∷ bytes) n h =
    elim (some_if (ends_here b bytes) (Some (suc (empty_line bytes))) (head_len bytes) n h) [
      | inl t ↦
          let now : cond true (Some (suc (empty_line bytes))) (option_map suc (head_len bytes)) ≡ Some n = subst (λ (x : Bool). cond x (Some (suc (empty_line bytes))) (option_map suc (head_len bytes)) ≡ Some n) t h in
          let is : suc (empty_line bytes) ≡ n = cc in
          let le : empty_line bytes ≤ length bytes = empty_line_le bytes in
          (omega arith, omega arith)
      | inr m ↦ let le : (0 < m.0) × (m.0 ≤ length bytes) = head_len_within bytes m.0 m.1 in (omega arith, omega arith)
    ]

-- the empty lines before a head stay the same
blank_if : (t s : Bool) (k k' n : ℕ) (b c : ℕ) (bytes more : List ℕ) →
    (head_len (drop k (c ∷ bytes)) ≡ Some n → k' ≡ k) →
    (l l' : ℕ) → (head_len (drop l bytes) ≡ Some n → l' ≡ l) →
    head_len (drop (cond t (suc k) (cond s (suc (suc l)) 0)) (b ∷ c ∷ bytes)) ≡ Some n →
    cond t (suc k') (cond s (suc (suc l')) 0) ≡ cond t (suc k) (cond s (suc (suc l)) 0)
blank_if true s k k' n b c bytes more f l l' g h = ap suc (f h)
blank_if false true k k' n b c bytes more f l l' g h = ap (λ (x : ℕ). suc (suc x)) (g h)
blank_if false false k k' n b c bytes more f l l' g h = refl

one_blank : (t : Bool) (b n : ℕ) → head_len (drop (cond t 1 0) (b ∷ [])) ≡ Some n → false ≡ true
one_blank true b n h = cc
one_blank false b n h = one_byte (b == 10) n h

pub blank_len_more : (bytes more : List ℕ) (n : ℕ) → head_len (drop (blank_len bytes) bytes) ≡ Some n → blank_len (bytes ++ more) ≡ blank_len bytes
blank_len_more [] more n h = cc
blank_len_more (b ∷ []) more n h = let no : false ≡ true = one_blank (b == 10) b n h in cc
blank_len_more (b ∷ c ∷ bytes) more n h =
    blank_if (b == 10) (b == 13 && c == 10) (blank_len (c ∷ bytes)) (blank_len (c ∷ (bytes ++ more))) n b c bytes more
    (blank_len_more (c ∷ bytes) more n) (blank_len bytes) (blank_len (bytes ++ more)) (blank_len_more bytes more n) h

blank_le_if : (t s : Bool) (k l n : ℕ) → k ≤ suc n → l ≤ n → cond t (suc k) (cond s (suc (suc l)) 0) ≤ suc (suc n)
blank_le_if true s k l n p q = omega arith
blank_le_if false true k l n p q = omega arith
blank_le_if false false k l n p q = omega arith

pub blank_len_le : (bytes : List ℕ) → blank_len bytes ≤ length bytes
blank_len_le [] = omega arith
blank_len_le (b ∷ []) = empty_one_if (b == 10)
blank_len_le (b ∷ c ∷ bytes) = blank_le_if (b == 10) (b == 13 && c == 10) (blank_len (c ∷ bytes)) (blank_len bytes) (length bytes) (blank_len_le (c ∷ bytes)) (blank_len_le bytes)

-- a head at a place in the bytes
pub record IsPlace (bytes : List ℕ) (place : ℕ × ℕ) : Type 0 where
  pub first : place.0 ≡ blank_len bytes
  pub len : ℕ
  pub found : head_len (drop place.0 bytes) ≡ Some len
  pub last : place.1 ≡ place.0 + len
  pub ordered : place.0 < place.1
  pub in_range : place.1 ≤ length bytes

mapped : (start : ℕ) (o : Option ℕ) (place : ℕ × ℕ) → option_map (λ n. (start, start + n)) o ≡ Some place → (n : ℕ) × (o ≡ Some n) × (place.0 ≡ start) × (place.1 ≡ start + n)
mapped start None place h = cc
mapped start (Some n) place h = let is : (start, start + n) ≡ place = cc in (n, refl, sym (ap (λ (p : ℕ × ℕ). p.0) is), sym (ap (λ (p : ℕ × ℕ). p.1) is))

pub place_is : (bytes : List ℕ) (place : ℕ × ℕ) → head_place bytes ≡ Some place → IsPlace bytes place
unfolding head_place
place_is bytes place h =
    let m = mapped (blank_len bytes) (head_len (drop (blank_len bytes) bytes)) place h in
    let within : (0 < m.0) × (m.0 ≤ length (drop (blank_len bytes) bytes)) = head_len_within (drop (blank_len bytes) bytes) m.0 m.1 in
    let size : length (drop (blank_len bytes) bytes) ≡ length bytes - blank_len bytes = length-drop (blank_len bytes) bytes in
    let le : blank_len bytes ≤ length bytes = blank_len_le bytes in
    let first : place.0 ≡ blank_len bytes = m.2 in
    let last : place.1 ≡ blank_len bytes + m.0 = m.3 in
    record {
      first = first;
      len = m.0;
      found = subst (λ (k : ℕ). head_len (drop k bytes) ≡ Some m.0) (sym first) m.1;
      last = omega arith;
      ordered = omega arith;
      in_range = omega arith;
    }

-- the place of a head stays as more bytes come
pub head_place_more : (bytes more : List ℕ) (place : ℕ × ℕ) → head_place bytes ≡ Some place → head_place (bytes ++ more) ≡ Some place
unfolding head_place
head_place_more bytes more place h =
    let m = mapped (blank_len bytes) (head_len (drop (blank_len bytes) bytes)) place h in
    let blank : blank_len (bytes ++ more) ≡ blank_len bytes = blank_len_more bytes more m.0 m.1 in
    let cut : drop (blank_len bytes) (bytes ++ more) ≡ drop (blank_len bytes) bytes ++ more = drop-append-le (blank_len bytes) bytes more (blank_len_le bytes) in
    let found : head_len (drop (blank_len bytes) (bytes ++ more)) ≡ Some m.0 = rw cut (head_len_more (drop (blank_len bytes) bytes) more m.0 m.1) in
    ap (λ (k : ℕ). place_after k (bytes ++ more)) blank ∙ ap (λ (o : Option ℕ). option_map (λ n. (blank_len bytes, blank_len bytes + n)) o) (found ∙ sym m.1) ∙ h

-- ---- no empty line stands before a head

blank_max_if : (t s : Bool) (b c : ℕ) (bytes : List ℕ) (k l : ℕ) → t ≡ (b == 10) → s ≡ (b == 13 && c == 10) →
    empty_line (drop k (c ∷ bytes)) ≡ 0 → empty_line (drop l bytes) ≡ 0 →
    empty_line (drop (cond t (suc k) (cond s (suc (suc l)) 0)) (b ∷ c ∷ bytes)) ≡ 0
blank_max_if true s b c bytes k l e f p q = p
blank_max_if false true b c bytes k l e f p q = q
blank_max_if false false b c bytes k l e f p q = ap (λ (x : Bool). cond x 1 (cond (b == 13 && c == 10) 2 0)) (sym e) ∙ ap (λ (x : Bool). cond x 2 0) (sym f)

pub blank_max : (bytes : List ℕ) → empty_line (drop (blank_len bytes) bytes) ≡ 0
blank_max [] = refl
blank_max (b ∷ []) = one (b == 10) b refl
  where
    one : (t : Bool) (b : ℕ) → t ≡ (b == 10) → empty_line (drop (cond t 1 0) (b ∷ [])) ≡ 0
    one true b e = refl
    one false b e = ap (λ (x : Bool). cond x 1 0) (sym e)
blank_max (b ∷ c ∷ bytes) = blank_max_if (b == 10) (b == 13 && c == 10) b c bytes (blank_len (c ∷ bytes)) (blank_len bytes) refl refl (blank_max (c ∷ bytes)) (blank_max bytes)

-- a head has two bytes or more
head_len_two : (bytes : List ℕ) (n : ℕ) → head_len bytes ≡ Some n → 2 ≤ n
head_len_two [] n h = cc
head_len_two (b ∷ bytes) n h =
    elim (some_if (ends_here b bytes) (Some (suc (empty_line bytes))) (head_len bytes) n h) [
      | inl t ↦
          let now : cond true (Some (suc (empty_line bytes))) (option_map suc (head_len bytes)) ≡ Some n = subst (λ (x : Bool). cond x (Some (suc (empty_line bytes))) (option_map suc (head_len bytes)) ≡ Some n) t h in
          let is : suc (empty_line bytes) ≡ n = cc in
          let more : 0 < empty_line bytes = ltb-true 0 (empty_line bytes) (and_parts (b == 10) (nat_lt 0 (empty_line bytes)) t).1 in
          omega arith
      | inr m ↦ let le : 2 ≤ m.0 = head_len_two bytes m.0 m.1 in omega arith
    ]

empty_line_take : (n : ℕ) (bytes : List ℕ) → 2 ≤ n → empty_line (take n bytes) ≡ empty_line bytes
empty_line_take zero bytes l = absurd (omega arith)
empty_line_take (suc zero) bytes l = absurd (omega arith)
empty_line_take (suc (suc n)) [] l = refl
empty_line_take (suc (suc n)) (b ∷ []) l = refl
empty_line_take (suc (suc n)) (b ∷ c ∷ bytes) l = refl

pub no_blank_place : (bytes : List ℕ) (place : ℕ × ℕ) → head_place bytes ≡ Some place → empty_line (slice_range bytes place.0 place.1) ≡ 0
no_blank_place bytes place h =
    let p = place_is bytes place h in
    let len : place.1 - place.0 ≡ p.len = let e = p.last in omega arith in
    let two : 2 ≤ place.1 - place.0 = let le : 2 ≤ p.len = head_len_two (drop place.0 bytes) p.len p.found in omega arith in
    empty_line_take (place.1 - place.0) (drop place.0 bytes) two ∙ ap (λ (k : ℕ). empty_line (drop k bytes)) p.first ∙ blank_max bytes

-- ---- the text of a head alone

empty_line_self : (bytes : List ℕ) → empty_line (take (empty_line bytes) bytes) ≡ empty_line bytes
empty_line_self [] = refl
empty_line_self (b ∷ []) = by (b == 10) b refl
  where
    by : (t : Bool) (b : ℕ) → (b == 10) ≡ t → empty_line (take (cond t 1 0) (b ∷ [])) ≡ cond t 1 0
    by true b e = ap (λ (x : Bool). cond x 1 0) e
    by false b e = refl
empty_line_self (b ∷ c ∷ bytes) = by (b == 10) (b == 13 && c == 10) refl refl
  where
    by : (t s : Bool) → (b == 10) ≡ t → (b == 13 && c == 10) ≡ s → empty_line (take (cond t 1 (cond s 2 0)) (b ∷ c ∷ bytes)) ≡ cond t 1 (cond s 2 0)
    by true s e f = ap (λ (x : Bool). cond x 1 0) e
    by false true e f = ap (λ (x : Bool). cond x 1 (cond (b == 13 && c == 10) 2 0)) e ∙ ap (λ (x : Bool). cond x 2 0) f
    by false false e f = refl

unmapped : (o : Option ℕ) (n : ℕ) → option_map suc o ≡ Some n → (m : ℕ) × (o ≡ Some m) × (suc m ≡ n)
unmapped None n e = cc
unmapped (Some m) n e = (m, refl, cc)

-- a head ends where its text ends
pub head_len_take : (bytes : List ℕ) (n : ℕ) → head_len bytes ≡ Some n → head_len (take n bytes) ≡ Some n
head_len_take [] n h = cc
head_len_take (b ∷ bytes) n h = pick (ends_here b bytes) refl (λ m e. head_len_take bytes m e)
  where
    pick : (t : Bool) → ends_here b bytes ≡ t → ((m : ℕ) → head_len bytes ≡ Some m → head_len (take m bytes) ≡ Some m) → head_len (take n (b ∷ bytes)) ≡ Some n
    pick true e later =
        let is : Some (suc (empty_line bytes)) ≡ Some n = ap (λ (x : Bool). cond x (Some (suc (empty_line bytes))) (option_map suc (head_len bytes))) (sym e) ∙ h in
        let same : suc (empty_line bytes) ≡ n = cc in
        let k = empty_line bytes in
        subst (λ (x : ℕ). head_len (take x (b ∷ bytes)) ≡ Some x) same
        (ap (λ (x : ℕ). cond (b == 10 && nat_lt 0 x) (Some (suc x)) (option_map suc (head_len (take k bytes)))) (empty_line_self bytes)
        ∙ ap (λ (x : Bool). cond x (Some (suc k)) (option_map suc (head_len (take k bytes)))) e)
    pick false e later =
        let mapped : option_map suc (head_len bytes) ≡ Some n = ap (λ (x : Bool). cond x (Some (suc (empty_line bytes))) (option_map suc (head_len bytes))) (sym e) ∙ h in
        let m = unmapped (head_len bytes) n mapped in
        let two : 2 ≤ m.0 = head_len_two bytes m.0 m.1 in
        subst (λ (x : ℕ). head_len (take x (b ∷ bytes)) ≡ Some x) m.2
        (ap (λ (x : ℕ). cond (b == 10 && nat_lt 0 x) (Some (suc x)) (option_map suc (head_len (take m.0 bytes)))) (empty_line_take m.0 bytes two)
        ∙ ap (λ (x : Bool). cond x (Some (suc (empty_line bytes))) (option_map suc (head_len (take m.0 bytes)))) e
        ∙ ap (option_map suc) (later m.0 m.1))

-- The texts that may stand at a place are those that write bytes.
use Rattle.std.proofs.Common.{◌≡◌, ◌≢◌, ℕ, zero, suc, ◌+◌, ◌-◌, ◌*◌, ◌/◌, ◌%◌, ◌<◌, ◌≤◌, ◌==◌, ◌&&◌, Bool, true, false, List, [], ◌∷◌, length, refl, sym, ◌∙◌, ap, subst, arith, inl, inr, if◌then◌else◌}
use Rattle.std.specs.declared.option.Option.{Option}
use Rattle.std.specs.declared.option.Option.TheVariants.{None, Some}
use Rattle.std.proofs.lemmas.Bool.Decides.{Decides-eqb}
use Rattle.base64.specs.Engines.{standard}
use Rattle.base64.specs.GeneralPurpose.{IsBytes}
use Rattle.base64.proofs.EngineFacts.{encode_of-nil}
use Rattle.scram_text.specs.Base64Places.{ends_in_zeros, is_end, may_follow, next_place, symbol_value}
use Rattle.scram_text.specs.Bytes.{base64_text, is_symbol}
use Rattle.scram_text.specs.Contents.{WritesDigest, WritesSalt}
use Rattle.scram_text.specs.declared.base64_places.Place.{Place}
use Rattle.scram_text.specs.declared.base64_places.Place.TheVariants.{Start, Group, One, Two, Three, Sign, End, Sized}
use Rattle.scram_text.proofs.Base64Groups.{Writes, WritesSome, symbol, symbol_at, tail_bytes, text_of_more, text_of_one, text_of_two, text_some, writes_more, writes_none, writes_one, writes_two}
use Rattle.scram_text.proofs.Base64Steps.{end_empty, led_by_either, led_by_sign, led_by_symbol, one_step, sign_end, sized_next, sized_on, stepped}
use Rattle.scram_text.proofs.ByteTests.{both}

at_place : (p q : Place) (t : List ℕ) → p ≡ q → may_follow p t ≡ true → may_follow q t ≡ true
at_place p q t same follows = subst (λ (x : Place). may_follow x t ≡ true) same follows

-- a fourth byte behind three characters, if what stands behind it writes bytes
fourth_writes : (a b c : ℕ) (t : List ℕ) → is_symbol a ≡ true → is_symbol b ≡ true → is_symbol c ≡ true → may_follow (Three (ends_in_zeros 4 c)) t ≡ true
    → ((d : ℕ) (left : List ℕ) → t ≡ d ∷ left → may_follow Group left ≡ true → WritesSome left) → WritesSome (a ∷ b ∷ c ∷ t)
fourth_writes a b c [] sa sb sc follows rest = cc
fourth_writes a b c (d ∷ t) sa sb sc follows rest =
    let s = stepped (Three (ends_in_zeros 4 c)) d t follows in
    elim (led_by_either d (ends_in_zeros 4 c) Group End s.to s.leads) [
      | inl on ↦
          let found = rest d t refl (at_place s.to Group t on.1 s.follows) in
          record { long = 3 + found.long; writes = writes_more a b c d t found.long sa sb sc on.0 found.writes }
      | inr sign ↦
          let empty = end_empty t (at_place s.to End t sign.2 s.follows) in
          let cut : a ∷ b ∷ c ∷ d ∷ t ≡ a ∷ b ∷ c ∷ 61 ∷ [] = ap (λ (x : ℕ). a ∷ b ∷ c ∷ x ∷ t) sign.1 ∙ ap (λ (w : List ℕ). a ∷ b ∷ c ∷ 61 ∷ w) empty in
          subst WritesSome (sym cut) (record { long = 2; writes = writes_two a b c sa sb sc sign.0 })
    ]

three_write : (a b c : ℕ) (t : List ℕ) → may_follow Group (a ∷ b ∷ c ∷ t) ≡ true → ((d : ℕ) (left : List ℕ) → t ≡ d ∷ left → may_follow Group left ≡ true → WritesSome left) → WritesSome (a ∷ b ∷ c ∷ t)
three_write a b c t follows behind =
    let s = stepped Group a (b ∷ c ∷ t) follows in
    let led = led_by_symbol a One s.to s.leads in
    let s2 = stepped One b (c ∷ t) (at_place s.to One (b ∷ c ∷ t) led.1 s.follows) in
    let led2 = led_by_symbol b (Two (ends_in_zeros 16 b)) s2.to s2.leads in
    let s3 = stepped (Two (ends_in_zeros 16 b)) c t (at_place s2.to (Two (ends_in_zeros 16 b)) (c ∷ t) led2.1 s2.follows) in
    elim (led_by_either c (ends_in_zeros 16 b) (Three (ends_in_zeros 4 c)) Sign s3.to s3.leads) [
      | inl on ↦ fourth_writes a b c t led.0 led2.0 on.0 (at_place s3.to (Three (ends_in_zeros 4 c)) t on.1 s3.follows) behind
      | inr sign ↦
          let rest = sign_end t (at_place s3.to Sign t sign.2 s3.follows) in
          let cut : a ∷ b ∷ c ∷ t ≡ a ∷ b ∷ 61 ∷ 61 ∷ [] = ap (λ (x : ℕ). a ∷ b ∷ x ∷ t) sign.1 ∙ ap (λ (w : List ℕ). a ∷ b ∷ 61 ∷ w) rest in
          subst WritesSome (sym cut) (record { long = 1; writes = writes_one a b led.0 led2.0 sign.0 })
    ]

behind_one : (d e : ℕ) (t left : List ℕ) → d ∷ t ≡ e ∷ left → (may_follow Group t ≡ true → WritesSome t) → may_follow Group left ≡ true → WritesSome left
behind_one d e t left is here follows =
    let same : t ≡ left = cc in
    subst WritesSome same (here (subst (λ (w : List ℕ). may_follow Group w ≡ true) (sym same) follows))

-- what may stand between groups writes bytes
pub group_writes : (t : List ℕ) → may_follow Group t ≡ true → WritesSome t
group_writes [] follows = record { long = 0; writes = writes_none }
group_writes (a ∷ []) follows =
    let s = stepped Group a [] follows in
    let led = led_by_symbol a One s.to s.leads in
    absurd (let wrong : false ≡ true = at_place s.to One [] led.1 s.follows in cc)
group_writes (a ∷ b ∷ []) follows =
    let s = stepped Group a (b ∷ []) follows in
    let led = led_by_symbol a One s.to s.leads in
    let s2 = stepped One b [] (at_place s.to One (b ∷ []) led.1 s.follows) in
    let led2 = led_by_symbol b (Two (ends_in_zeros 16 b)) s2.to s2.leads in
    absurd (let wrong : false ≡ true = at_place s2.to (Two (ends_in_zeros 16 b)) [] led2.1 s2.follows in cc)
group_writes (a ∷ b ∷ c ∷ []) follows = three_write a b c [] follows (λ d left is. cc)
group_writes (a ∷ b ∷ c ∷ d ∷ t) follows = three_write a b c (d ∷ t) follows (λ e left is more. behind_one d e t left is (λ here. group_writes t here) more)

-- how symbols lead on
on_symbol : (b : ℕ) (next : Place) → is_symbol b ≡ true → (if is_symbol b then Some next else None) ≡ Some next
on_symbol b next is = let f : Bool → Option Place = λ t. if t then Some next else None in ap f is

on_either : (b : ℕ) (on : Place) (other : Option Place) → is_symbol b ≡ true → (if is_symbol b then Some on else other) ≡ Some on
on_either b on other is = let f : Bool → Option Place = λ t. if t then Some on else other in ap f is

step : (p q : Place) (b : ℕ) (t : List ℕ) → next_place p b ≡ Some q → may_follow p (b ∷ t) ≡ may_follow q t
step p q b t e = ap is_end (one_step p q b t e)

pub two_on : (a b : ℕ) (t : List ℕ) → is_symbol a ≡ true → is_symbol b ≡ true → may_follow Group (a ∷ b ∷ t) ≡ may_follow (Two (ends_in_zeros 16 b)) t
two_on a b t sa sb = step Group One a (b ∷ t) (on_symbol a One sa) ∙ step One (Two (ends_in_zeros 16 b)) b t (on_symbol b (Two (ends_in_zeros 16 b)) sb)

pub three_on : (a b c : ℕ) (t : List ℕ) → is_symbol a ≡ true → is_symbol b ≡ true → is_symbol c ≡ true → may_follow Group (a ∷ b ∷ c ∷ t) ≡ may_follow (Three (ends_in_zeros 4 c)) t
three_on a b c t sa sb sc =
    two_on a b (c ∷ t) sa sb ∙ step (Two (ends_in_zeros 16 b)) (Three (ends_in_zeros 4 c)) c t (on_either c (Three (ends_in_zeros 4 c)) (if ends_in_zeros 16 b && (c == 61) then Some Sign else None) sc)

four_on : (a b c d : ℕ) (t : List ℕ) → is_symbol a ≡ true → is_symbol b ≡ true → is_symbol c ≡ true → is_symbol d ≡ true → may_follow Group (a ∷ b ∷ c ∷ d ∷ t) ≡ may_follow Group t
four_on a b c d t sa sb sc sd =
    three_on a b c (d ∷ t) sa sb sc ∙ step (Three (ends_in_zeros 4 c)) Group d t (on_either d Group (if ends_in_zeros 4 c && (d == 61) then Some End else None) sd)

-- the last bits of a character's value
sixteen : (v : ℕ) → v < 64 → v % 16 ≡ 0 → ends_in_zeros 16 (symbol v) ≡ true
sixteen v small none = (Decides-eqb (symbol_value (symbol v) % 16) 0).1 (ap (λ (x : ℕ). x % 16) (symbol_at v small).1 ∙ none)

fourth : (v : ℕ) → v < 64 → v % 4 ≡ 0 → ends_in_zeros 4 (symbol v) ≡ true
fourth v small none = (Decides-eqb (symbol_value (symbol v) % 4) 0).1 (ap (λ (x : ℕ). x % 4) (symbol_at v small).1 ∙ none)

padded_two : (zeros : Bool) → zeros ≡ true → may_follow (Two zeros) (61 ∷ 61 ∷ []) ≡ true
padded_two true is = refl
padded_two false is = cc

padded_three : (zeros : Bool) → zeros ≡ true → may_follow (Three zeros) (61 ∷ []) ≡ true
padded_three true is = refl
padded_three false is = cc

-- and bytes are written so
pub written_group : (m : List ℕ) → IsBytes m → may_follow Group (base64_text m) ≡ true
written_group [] fit = ap (may_follow Group) (encode_of-nil standard)
written_group (x ∷ []) fit =
    let px = tail_bytes x [] fit in
    let lx = px.0 in
    ap (may_follow Group) (text_of_one x)
    ∙ two_on (symbol (x / 4)) (symbol (x % 4 * 16)) (61 ∷ 61 ∷ []) (symbol_at (x / 4) (omega arith)).0 (symbol_at (x % 4 * 16) (omega arith)).0
    ∙ padded_two (ends_in_zeros 16 (symbol (x % 4 * 16))) (sixteen (x % 4 * 16) (omega arith) (omega arith))
written_group (x ∷ y ∷ []) fit =
    let px = tail_bytes x (y ∷ []) fit in
    let py = tail_bytes y [] px.1 in
    let lx = px.0 in
    let ly = py.0 in
    ap (may_follow Group) (text_of_two x y)
    ∙ three_on (symbol (x / 4)) (symbol (x % 4 * 16 + y / 16)) (symbol (y % 16 * 4)) (61 ∷ []) (symbol_at (x / 4) (omega arith)).0 (symbol_at (x % 4 * 16 + y / 16) (omega arith)).0 (symbol_at (y % 16 * 4) (omega arith)).0
    ∙ padded_three (ends_in_zeros 4 (symbol (y % 16 * 4))) (fourth (y % 16 * 4) (omega arith) (omega arith))
written_group (x ∷ y ∷ z ∷ m) fit =
    let px = tail_bytes x (y ∷ z ∷ m) fit in
    let py = tail_bytes y (z ∷ m) px.1 in
    let pz = tail_bytes z m py.1 in
    let lx = px.0 in
    let ly = py.0 in
    let lz = pz.0 in
    ap (may_follow Group) (text_of_more x y z m)
    ∙ four_on (symbol (x / 4)) (symbol (x % 4 * 16 + y / 16)) (symbol (y % 16 * 4 + z / 64)) (symbol (z % 64)) (base64_text m)
    (symbol_at (x / 4) (omega arith)).0 (symbol_at (x % 4 * 16 + y / 16) (omega arith)).0 (symbol_at (y % 16 * 4 + z / 64) (omega arith)).0 (symbol_at (z % 64) (omega arith)).0
    ∙ written_group m pz.1

-- salts
at_start : (t : List ℕ) → t ≢ [] → may_follow Start t ≡ may_follow Group t
at_start [] some = absurd (some refl)
at_start (b ∷ t) some = refl

start_some : (t : List ℕ) → may_follow Start t ≡ true → t ≢ []
start_some t follows none = let wrong : may_follow Start [] ≡ true = subst (λ (w : List ℕ). may_follow Start w ≡ true) none follows in let e : false ≡ true = wrong in cc

pub salt_from : (t : List ℕ) → may_follow Start t ≡ true → (salt : List ℕ) × WritesSalt t salt
salt_from t follows =
    let some = start_some t follows in
    let found = group_writes t (sym (at_start t some) ∙ follows) in
    go found.writes.bytes found.writes.fit found.writes.is some
  where
    go : (m : List ℕ) → IsBytes m → t ≡ base64_text m → t ≢ [] → (salt : List ℕ) × WritesSalt t salt
    go [] fit is some = absurd (some (is ∙ encode_of-nil standard))
    go (x ∷ m) fit is some = (x ∷ m, record { is_salt = record { some = omega arith; bytes = fit }; written = is })

pub salt_to : (t : List ℕ) → ((salt : List ℕ) × WritesSalt t salt) → may_follow Start t ≡ true
salt_to t is =
    at_start t (λ none. text_some is.0 is.1.is_salt.some (sym is.1.written ∙ none)) ∙ ap (may_follow Group) is.1.written ∙ written_group is.0 is.1.is_salt.bytes

-- texts of a size
sized_last : (b : ℕ) (to : Place) → next_place (Sized 1) b ≡ Some to → (is_symbol b ≡ true) × (ends_in_zeros 4 b ≡ true) × (to ≡ Sized 0)
sized_last b to e = elim (is_symbol b && ends_in_zeros 4 b) as (λ t. (is_symbol b && ends_in_zeros 4 b) ≡ t → (if t then Some (Sized 0) else None) ≡ Some to → (is_symbol b ≡ true) × (ends_in_zeros 4 b ≡ true) × (to ≡ Sized 0)) [
  | true ↦ λ is same. let parts = both (is_symbol b) (ends_in_zeros 4 b) is in (parts.0, parts.1, cc)
  | false ↦ λ is same. cc
] refl e

sized_sign : (t : List ℕ) → may_follow (Sized 0) t ≡ true → t ≡ 61 ∷ []
sized_sign [] follows = cc
sized_sign (b ∷ t) follows =
    let s = stepped (Sized 0) b t follows in
    let led = led_by_sign b true End s.to s.leads in
    ap (λ (x : ℕ). x ∷ t) led.1 ∙ ap (λ (w : List ℕ). 61 ∷ w) (end_empty t (at_place s.to End t led.2 s.follows))

-- one more character of those to come
record Taken (n : ℕ) (text : List ℕ) : Type 0 where
  pub first : ℕ
  pub more : List ℕ
  pub cut : text ≡ first ∷ more
  pub is : is_symbol first ≡ true
  pub follows : may_follow (Sized (n - 1)) more ≡ true

taken : (n : ℕ) (t : List ℕ) → 2 ≤ n → may_follow (Sized n) t ≡ true → Taken n t
taken n [] more follows = cc
taken n (b ∷ t) more follows =
    let s = stepped (Sized n) b t follows in
    let led = sized_on n b s.to more s.leads in
    record { first = b; more = t; cut = refl; is = led.0; follows = at_place s.to (Sized (n - 1)) t led.1 s.follows }

sized_as : (m n : ℕ) (t : List ℕ) → m ≡ n → may_follow (Sized m) t ≡ true → may_follow (Sized n) t ≡ true
sized_as m n t same follows = subst (λ (k : ℕ). may_follow (Sized k) t ≡ true) same follows

pub sized_writes : (k n : ℕ) (t : List ℕ) → n ≡ 4 * k + 3 → may_follow (Sized n) t ≡ true → Writes t (3 * k + 2)
sized_writes zero n t is follows =
    let a = taken n t (omega arith) follows in
    let b = taken (n - 1) a.more (omega arith) a.follows in
    last a.first b.first b.more (a.cut ∙ ap (λ (w : List ℕ). a.first ∷ w) b.cut) a.is b.is (sized_as (n - 1 - 1) 1 b.more (omega arith) b.follows)
  where
    last : (a b : ℕ) (rest : List ℕ) → t ≡ a ∷ b ∷ rest → is_symbol a ≡ true → is_symbol b ≡ true → may_follow (Sized 1) rest ≡ true → Writes t 2
    last a b [] cut sa sb follows = cc
    last a b (c ∷ rest) cut sa sb follows =
        let s = stepped (Sized 1) c rest follows in
        let led = sized_last c s.to s.leads in
        let sign = sized_sign rest (at_place s.to (Sized 0) rest led.2 s.follows) in
        let P : List ℕ → Type 0 = λ w. Writes w 2 in
        subst P (sym (cut ∙ ap (λ (w : List ℕ). a ∷ b ∷ c ∷ w) sign)) (writes_two a b c sa sb led.0 led.1)
sized_writes (suc k) n t is follows =
    let a = taken n t (omega arith) follows in
    let b = taken (n - 1) a.more (omega arith) a.follows in
    let c = taken (n - 1 - 1) b.more (omega arith) b.follows in
    let d = taken (n - 1 - 1 - 1) c.more (omega arith) c.follows in
    let rest = sized_writes k (n - 1 - 1 - 1 - 1) d.more (omega arith) d.follows in
    let cut : t ≡ a.first ∷ b.first ∷ c.first ∷ d.first ∷ d.more = a.cut ∙ ap (λ (w : List ℕ). a.first ∷ w) (b.cut ∙ ap (λ (w : List ℕ). b.first ∷ w) (c.cut ∙ ap (λ (w : List ℕ). c.first ∷ w) d.cut)) in
    let long : 3 + (3 * k + 2) ≡ 3 * suc k + 2 = omega arith in
    let P : List ℕ → Type 0 = λ w. Writes w (3 * suc k + 2) in
    let Q : ℕ → Type 0 = λ l. Writes (a.first ∷ b.first ∷ c.first ∷ d.first ∷ d.more) l in
    subst P (sym cut) (subst Q long (writes_more a.first b.first c.first d.first d.more (3 * k + 2) a.is b.is c.is d.is rest))

-- characters of a sized text lead on
sized_stop : (b : ℕ) → is_symbol b ≡ true → ends_in_zeros 4 b ≡ true → next_place (Sized 1) b ≡ Some (Sized 0)
sized_stop b is zeros = let f : Bool → Option Place = λ t. if t then Some (Sized 0) else None in ap f (let g : Bool → Bool = λ t. t && ends_in_zeros 4 b in ap g is ∙ zeros)

sized_same : (m n : ℕ) (t : List ℕ) → m ≡ n → may_follow (Sized m) t ≡ may_follow (Sized n) t
sized_same m n t same = ap (λ (k : ℕ). may_follow (Sized k) t) same

pub written_sized : (k n : ℕ) (m : List ℕ) → n ≡ 4 * k + 3 → length m ≡ 3 * k + 2 → IsBytes m → may_follow (Sized n) (base64_text m) ≡ true
written_sized k n [] is long fit = absurd (omega arith)
written_sized k n (x ∷ []) is long fit = absurd (omega arith)
written_sized zero n (x ∷ y ∷ []) is long fit =
    let px = tail_bytes x (y ∷ []) fit in
    let py = tail_bytes y [] px.1 in
    let lx = px.0 in
    let ly = py.0 in
    let a = symbol (x / 4) in
    let b = symbol (x % 4 * 16 + y / 16) in
    let c = symbol (y % 16 * 4) in
    sized_same n 3 (base64_text (x ∷ y ∷ [])) (omega arith) ∙ ap (may_follow (Sized 3)) (text_of_two x y)
    ∙ step (Sized 3) (Sized 2) a (b ∷ c ∷ 61 ∷ []) (sized_next 3 a (omega arith) (symbol_at (x / 4) (omega arith)).0)
    ∙ step (Sized 2) (Sized 1) b (c ∷ 61 ∷ []) (sized_next 2 b (omega arith) (symbol_at (x % 4 * 16 + y / 16) (omega arith)).0)
    ∙ step (Sized 1) (Sized 0) c (61 ∷ []) (sized_stop c (symbol_at (y % 16 * 4) (omega arith)).0 (fourth (y % 16 * 4) (omega arith) (omega arith)))
written_sized (suc k) n (x ∷ y ∷ []) is long fit = absurd (omega arith)
written_sized zero n (x ∷ y ∷ z ∷ m) is long fit = absurd (omega arith)
written_sized (suc k) n (x ∷ y ∷ z ∷ m) is long fit =
    let px = tail_bytes x (y ∷ z ∷ m) fit in
    let py = tail_bytes y (z ∷ m) px.1 in
    let pz = tail_bytes z m py.1 in
    let lx = px.0 in
    let ly = py.0 in
    let lz = pz.0 in
    let a = symbol (x / 4) in
    let b = symbol (x % 4 * 16 + y / 16) in
    let c = symbol (y % 16 * 4 + z / 64) in
    let d = symbol (z % 64) in
    let rest = base64_text m in
    ap (may_follow (Sized n)) (text_of_more x y z m)
    ∙ step (Sized n) (Sized (n - 1)) a (b ∷ c ∷ d ∷ rest) (sized_next n a (omega arith) (symbol_at (x / 4) (omega arith)).0)
    ∙ step (Sized (n - 1)) (Sized (n - 1 - 1)) b (c ∷ d ∷ rest) (sized_next (n - 1) b (omega arith) (symbol_at (x % 4 * 16 + y / 16) (omega arith)).0)
    ∙ step (Sized (n - 1 - 1)) (Sized (n - 1 - 1 - 1)) c (d ∷ rest) (sized_next (n - 1 - 1) c (omega arith) (symbol_at (y % 16 * 4 + z / 64) (omega arith)).0)
    ∙ step (Sized (n - 1 - 1 - 1)) (Sized (n - 1 - 1 - 1 - 1)) d rest (sized_next (n - 1 - 1 - 1) d (omega arith) (symbol_at (z % 64) (omega arith)).0)
    ∙ written_sized k (n - 1 - 1 - 1 - 1) m (omega arith) (omega arith) pz.1

-- digests
pub digest_from : (t : List ℕ) → may_follow (Sized 43) t ≡ true → (digest : List ℕ) × WritesDigest t digest
digest_from t follows = let found = sized_writes 10 43 t refl follows in (found.bytes, record { is_digest = record { long = found.length_is; bytes = found.fit }; written = found.is })

pub digest_to : (t : List ℕ) → ((digest : List ℕ) × WritesDigest t digest) → may_follow (Sized 43) t ≡ true
digest_to t is = ap (may_follow (Sized 43)) is.1.written ∙ written_sized 10 43 is.0 refl is.1.is_digest.long is.1.is_digest.bytes

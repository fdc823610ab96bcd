-- Attributes: what they hold, and how far they go on.
use Rattle.std.proofs.Common.{◌≡◌, ◌≢◌, ◌==◌, ◌+◌, ◌-◌, ◌&&◌, ◌||◌, nat_lt, if◌then◌else◌, ℕ, true, false, List, [], ◌∷◌, refl, sym, ◌∙◌, ap, subst, inl, inr, arith}
use Rattle.std.specs.List.{list_all}
use Rattle.scram_text.specs.Bytes.{HasNoComma, base64_text, escape, escaped, is_symbol}
use Rattle.scram_text.specs.Contents.{Holds, has_letter, is_of}
use Rattle.scram_text.specs.Parts.{IsAttribute, IsWith, LedBy}
use Rattle.scram_text.specs.Reaching.{Reaches}
use Rattle.scram_text.specs.declared.attribute.Attribute.{Attribute}
use Rattle.scram_text.specs.declared.attribute.Attribute.TheVariants.{Name, Nonce, Extension, Inner, Binding, Salt, Count, Proof, Signature, Fault}
use Rattle.scram_text.specs.declared.runs.Class.{Class}
use Rattle.scram_text.specs.declared.runs.Class.TheVariants.{Nonce as NonceByte, Value as ValueByte, Symbol}
use Rattle.scram_text.specs.declared.base64_places.Place.{Place}
use Rattle.scram_text.specs.declared.base64_places.Place.TheVariants.{Start, Group, One, Two, Three, Sign, End, Sized}
use Rattle.scram_text.specs.declared.flag.Flag.{Flag}
use Rattle.scram_text.specs.declared.flag.Flag.TheVariants.{N, Y}
use Rattle.scram_text.specs.Base64Places.{ends_in_zeros, may_follow, next_place}
use Rattle.scram_text.specs.Flags.{header}
use Rattle.std.specs.Prelude.{decimal}
use Rattle.std.specs.Char.{is_ascii_digit}
use Rattle.std.specs.declared.option.Option.TheVariants.{None, Some}
use Rattle.scram_text.proofs.Base64Groups.{header_n, header_y}
use Rattle.scram_text.proofs.Base64Steps.{stepped, word_at}
use Rattle.scram_text.proofs.Base64Texts.{digest_from, digest_to, salt_from, salt_to}
use Rattle.scram_text.proofs.ReauthLaws.{decimal_digits}
use Rattle.scram_text.proofs.NameBytes.{written, comma, equals, itself}
use Rattle.scram_text.proofs.PartLaws.{led_on, led_off, no_comma_cons, no_comma_join}
use Rattle.scram_text.proofs.ByteTests.{both, same_or_not, some_all}

-- a letter and a content that each attribute may have
pub letter_of : (a : Attribute) → (b : ℕ) × (has_letter a b ≡ true)
letter_of Name = (110, refl)
letter_of Nonce = (114, refl)
letter_of Extension = (97, refl)
letter_of Inner = (97, refl)
letter_of Binding = (99, refl)
letter_of Salt = (115, refl)
letter_of Count = (105, refl)
letter_of Proof = (112, refl)
letter_of Signature = (118, refl)
letter_of Fault = (101, refl)

pub word_of : (a : Attribute) → (w : List ℕ) × Holds a w
word_of Name = (97 ∷ [], (97 ∷ [], record { plain = refl; written = refl }))
word_of Nonce = (97 ∷ [], refl)
word_of Extension = (97 ∷ [], refl)
word_of Inner = (97 ∷ [], refl)
word_of Binding = (base64_text (header N), (N, refl))
word_of Salt = (65 ∷ 65 ∷ 65 ∷ 65 ∷ [], salt_from (65 ∷ 65 ∷ 65 ∷ 65 ∷ []) refl)
word_of Count = (decimal 1, (1, record { is_count = record { some = omega arith; fits = omega arith }; written = refl }))
word_of Proof = ((word_at (Sized 43)).0, digest_from (word_at (Sized 43)).0 (word_at (Sized 43)).1)
word_of Signature = ((word_at (Sized 43)).0, digest_from (word_at (Sized 43)).0 (word_at (Sized 43)).1)
word_of Fault = (97 ∷ [], refl)

pub attribute_of : (a : Attribute) → (w : List ℕ) × IsAttribute a w
attribute_of a = (
  (letter_of a).0 ∷ 61 ∷ (word_of a).0,
  record {
    first = (letter_of a).0;
    more = 61 ∷ (word_of a).0;
    cut = refl;
    leads = (letter_of a).1;
    follows = record { first = 61; more = (word_of a).0; cut = refl; leads = refl; follows = (word_of a).1 };
  },
)

-- a byte that each class has
pub class_word : (c : Class) → is_of c 97 ≡ true
class_word NonceByte = refl
class_word ValueByte = refl
class_word Symbol = refl

-- the bytes of a class are no commas
class_whole : (c : Class) (b : ℕ) → is_of c b ≡ true → b ≢ 44
class_whole NonceByte b passes is = let e : is_of NonceByte 44 ≡ true = subst (λ (x : ℕ). is_of NonceByte x ≡ true) is passes in cc
class_whole ValueByte b passes is = let e : is_of ValueByte 44 ≡ true = subst (λ (x : ℕ). is_of ValueByte x ≡ true) is passes in cc
class_whole Symbol b passes is =
    let e : is_of Symbol 44 ≡ true = subst (λ (x : ℕ). is_of Symbol x ≡ true) is passes in cc

run_whole : (c : Class) (text : List ℕ) → list_all (is_of c) text ≡ true → HasNoComma text
run_whole c [] all = refl
run_whole c (b ∷ text) all =
    let parts = both (is_of c b) (list_all (is_of c) text) all in
    no_comma_cons b text (class_whole c b parts.0) (run_whole c text parts.1)

-- nor is a byte of a written name
escape_whole : (b : ℕ) → HasNoComma (escape b)
escape_whole b = elim (written b) [
  | comma is e ↦ rw e refl
  | equals is e ↦ rw e refl
  | itself not44 not61 e ↦ rw e (no_comma_cons b [] not44 refl)
]

name_whole : (name : List ℕ) → HasNoComma (escaped name)
name_whole [] = refl
name_whole (b ∷ name) = no_comma_join (escape b) (escaped name) (escape_whole b) (name_whole name)

-- nor one of a base64 text
no_comma_at : (p : Place) → next_place p 44 ≡ None
no_comma_at Start = refl
no_comma_at Group = refl
no_comma_at One = refl
no_comma_at (Two true) = refl
no_comma_at (Two false) = refl
no_comma_at (Three true) = refl
no_comma_at (Three false) = refl
no_comma_at Sign = refl
no_comma_at End = refl
no_comma_at (Sized n) = elim (n == 0) as (λ t. (if t then (if 44 == 61 then Some End else None) else (if is_symbol 44 && (nat_lt 1 n || ends_in_zeros 4 44) then Some (Sized (n - 1)) else None)) ≡ None) [ true ↦ refl | false ↦ refl ]

place_whole : (text : List ℕ) (p : Place) → may_follow p text ≡ true → HasNoComma text
place_whole [] p follows = refl
place_whole (b ∷ text) p follows =
    let s = stepped p b text follows in
    no_comma_cons b text (λ is. let wrong : None ≡ Some s.to = sym (no_comma_at p) ∙ subst (λ (x : ℕ). next_place p x ≡ Some s.to) is s.leads in cc) (place_whole text s.to s.follows)

-- nor a digit
digits_whole : (text : List ℕ) → list_all is_ascii_digit text ≡ true → HasNoComma text
digits_whole [] all = refl
digits_whole (b ∷ text) all =
    let parts = both (is_ascii_digit b) (list_all is_ascii_digit text) all in
    no_comma_cons b text (λ is. let wrong : is_ascii_digit 44 ≡ true = subst (λ (x : ℕ). is_ascii_digit x ≡ true) is parts.0 in cc) (digits_whole text parts.1)

header_whole : (flag : Flag) → HasNoComma (base64_text (header flag))
header_whole N = subst HasNoComma (sym header_n) refl
header_whole Y = subst HasNoComma (sym header_y) refl

pub content_whole : (a : Attribute) (text : List ℕ) → Holds a text → HasNoComma text
content_whole Name text holds = subst HasNoComma (sym holds.1.written) (name_whole holds.0)
content_whole Nonce text holds = run_whole NonceByte text (some_all (is_of NonceByte) text holds)
content_whole Extension text holds = run_whole ValueByte text (some_all (is_of ValueByte) text holds)
content_whole Inner text holds = run_whole ValueByte text (some_all (is_of ValueByte) text holds)
content_whole Binding text holds = subst HasNoComma (sym holds.1) (header_whole holds.0)
content_whole Salt text holds = place_whole text Start (salt_to text holds)
content_whole Count text holds = subst HasNoComma (sym holds.1.written) (digits_whole (decimal holds.0) (decimal_digits holds.0 holds.1.is_count.fits))
content_whole Proof text holds = place_whole text (Sized 43) (digest_to text holds)
content_whole Signature text holds = place_whole text (Sized 43) (digest_to text holds)
content_whole Fault text holds = run_whole ValueByte text (some_all (is_of ValueByte) text holds)

letter_whole : (a : Attribute) (b : ℕ) → has_letter a b ≡ true → b ≢ 44
letter_whole Name b has is = let e : has_letter Name 44 ≡ true = subst (λ (x : ℕ). has_letter Name x ≡ true) is has in cc
letter_whole Nonce b has is = let e : has_letter Nonce 44 ≡ true = subst (λ (x : ℕ). has_letter Nonce x ≡ true) is has in cc
letter_whole Extension b has is = let e : has_letter Extension 44 ≡ true = subst (λ (x : ℕ). has_letter Extension x ≡ true) is has in cc
letter_whole Inner b has is = let e : has_letter Inner 44 ≡ true = subst (λ (x : ℕ). has_letter Inner x ≡ true) is has in cc
letter_whole Binding b has is = let e : has_letter Binding 44 ≡ true = subst (λ (x : ℕ). has_letter Binding x ≡ true) is has in cc
letter_whole Salt b has is = let e : has_letter Salt 44 ≡ true = subst (λ (x : ℕ). has_letter Salt x ≡ true) is has in cc
letter_whole Count b has is = let e : has_letter Count 44 ≡ true = subst (λ (x : ℕ). has_letter Count x ≡ true) is has in cc
letter_whole Proof b has is = let e : has_letter Proof 44 ≡ true = subst (λ (x : ℕ). has_letter Proof x ≡ true) is has in cc
letter_whole Signature b has is = let e : has_letter Signature 44 ≡ true = subst (λ (x : ℕ). has_letter Signature x ≡ true) is has in cc
letter_whole Fault b has is = let e : has_letter Fault 44 ≡ true = subst (λ (x : ℕ). has_letter Fault x ≡ true) is has in cc

-- no comma stands in an attribute
pub attribute_whole : (a : Attribute) (part : List ℕ) → IsAttribute a part → HasNoComma part
attribute_whole a part is =
    let equals = is.follows in
    let sign : (61 == 44) ≡ false = refl in
    let rest : HasNoComma is.more = subst HasNoComma (sym equals.cut) (no_comma_cons equals.first equals.more (λ e. let f : (44 == 61) ≡ true = subst (λ (x : ℕ). (x == 61) ≡ true) e equals.leads in cc) (content_whole a equals.more equals.follows)) in
    subst HasNoComma (sym is.cut) (no_comma_cons is.first is.more (letter_whole a is.first is.leads) rest)

pub with_is : (a : Attribute) (part content : List ℕ) → IsWith a part content → IsAttribute a part
with_is a part content is = record { first = is.letter; more = 61 ∷ content; cut = is.cut; leads = is.has; follows = record { first = 61; more = content; cut = refl; leads = refl; follows = is.holds } }

-- how far a part goes on: behind the sign, to the sign, not at all
pub goes_behind : (a : Attribute) (part more content : List ℕ) (letter at : ℕ) → part ≡ letter ∷ more → has_letter a letter ≡ true → more ≡ 61 ∷ content → Reaches (Holds a) content at
    → Reaches (IsAttribute a) part (2 + at)
goes_behind a part more content letter at cut has sign reach =
    let P : List ℕ → Type 0 = λ t. Reaches (IsAttribute a) t (2 + at) in
    subst P (sym (cut ∙ ap (λ (w : List ℕ). letter ∷ w) sign))
    (let Q : ℕ → Type 0 = λ n. Reaches (IsAttribute a) (letter ∷ 61 ∷ content) n in
    subst Q (let e : 1 + (1 + at) ≡ 2 + at = omega arith in e)
    (led_on (has_letter a) (LedBy (λ b. b == 61) (Holds a)) letter (61 ∷ content) (1 + at) has (led_on (λ b. b == 61) (Holds a) 61 content at refl reach)))

pub goes_to_sign : (a : Attribute) (part more : List ℕ) (letter : ℕ) → part ≡ letter ∷ more → has_letter a letter ≡ true → ((content : List ℕ) → more ≡ 61 ∷ content → ⊥)
    → Reaches (IsAttribute a) part 1
goes_to_sign a part more letter cut has no_sign =
    let P : List ℕ → Type 0 = λ t. Reaches (IsAttribute a) t 1 in
    subst P (sym cut)
    (led_on (has_letter a) (LedBy (λ b. b == 61) (Holds a)) letter more 0 has (led_off (λ b. b == 61) (Holds a) 61 (word_of a).0 refl (word_of a).1 more (λ b left is. other b left is)))
  where
    other : (b : ℕ) (left : List ℕ) → more ≡ b ∷ left → (b == 61) ≡ false
    other b left is = elim (same_or_not b 61) [
      | inl same ↦ absurd (no_sign left (is ∙ ap (λ (x : ℕ). x ∷ left) same.0))
      | inr differs ↦ differs.1
    ]

pub goes_nowhere : (a : Attribute) (part : List ℕ) → ((b : ℕ) (left : List ℕ) → part ≡ b ∷ left → has_letter a b ≡ false) → Reaches (IsAttribute a) part 0
goes_nowhere a part none = led_off (has_letter a) (LedBy (λ b. b == 61) (Holds a)) (letter_of a).0 (61 ∷ (word_of a).0) (letter_of a).1 (record { first = 61; more = (word_of a).0; cut = refl; leads = refl; follows = (word_of a).1 }) part none

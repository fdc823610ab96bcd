-- A line is told by its parts.
use Rattle.std.proofs.Common.{◌≡◌, ◌≢◌, ◌==◌, ◌+◌, ◌<◌, ℕ, Bool, true, false, ◌&&◌, ◌||◌, nat_le, cond, List, [], ◌∷◌, ◌++◌, length, refl, sym, ap, ◌∙◌, true≢false, arith}
use Rattle.std.specs.List.{list_any, list_all}
use Rattle.std.proofs.lemmas.List.Sums.{sum_by-append, sum_by-cons}
use Rattle.auth_grammar.specs.Plain.{is_plain_byte, is_plain_name}
use Rattle.auth_hash.specs.HexText.{is_lower_digit}
use Rattle.auth_hash.specs.declared.algorithm.Algorithm.{Algorithm}
use Rattle.auth_hash.specs.declared.algorithm.Algorithm.TheVariants.{Md5, Sha256, Sha512t256}
use Rattle.scram_proof.specs.declared.keys.ScramKeys.{ScramKeys}
use Rattle.cred_store.specs.Faults.{HasParts, HasTail, IsFlag, colons, line_colons, tail_colons}
use Rattle.cred_store.specs.Kinds.{IsSecret, kind_name, kind_of}
use Rattle.cred_store.specs.Texts.{HasFlag, IsEntry, entry_text, tail_of}
use Rattle.cred_store.specs.Values.{HasNo, flag_text, text_of}
use Rattle.cred_store.specs.declared.entry.Entry.{Entry}
use Rattle.cred_store.specs.declared.entry.Secret.{Secret}
use Rattle.cred_store.specs.declared.entry.Secret.TheVariants.{Digest, Scram}
use Rattle.cred_store.specs.declared.kind.SecretKind.{SecretKind}
use Rattle.cred_store.specs.declared.kind.SecretKind.TheVariants as kinds
use Rattle.cred_store.specs.declared.version.Version.{Version}
use Rattle.cred_store.specs.declared.version.Version.TheVariants.{One, Two}
use Rattle.cred_store.proofs.Bytes.{both_second, cut_once, digits_pass, neither_first, neither_second, no_cons, no_in_both, passes_no}
use Rattle.cred_store.proofs.KeyTexts.{no_keys, one_keys}

-- ---- counting colons

abbrev one_if : Bool → ℕ
one_if b = cond b 1 0

colons_cons : (x : ℕ) (a : List ℕ) → colons (x ∷ a) ≡ cond (x == 58) 1 0 + colons a
colons_cons x a = sum_by-cons (λ (y : ℕ). cond (y == 58) 1 0) x a

pub no_colons : (a : List ℕ) → HasNo 58 a → colons a ≡ 0
no_colons [] p = refl
no_colons (x ∷ a) p =
    omega (arith, colons_cons x a, ap one_if (neither_first (x == 58) _ p), no_colons a (neither_second (x == 58) _ p))

pub colons_at : (a b : List ℕ) → HasNo 58 a → colons (a ++ 58 ∷ b) ≡ 1 + colons b
colons_at a b p = omega (arith, sum_by-append (λ (x : ℕ). cond (x == 58) 1 0) a (58 ∷ b), colons_cons 58 b, no_colons a p)

some_colon_first : (x : ℕ) (a : List ℕ) (v : Bool) → x == 58 ≡ v → v || list_any (λ b. b == 58) a ≡ true → (list_any (λ b. b == 58) a ≡ true → 0 < colons a) → 0 < colons (x ∷ a)
some_colon_first x a true is e more = omega (arith, colons_cons x a, ap one_if is)
some_colon_first x a false is e more = omega (arith, colons_cons x a, ap one_if is, more e)

pub some_colon : (a : List ℕ) → list_any (λ b. b == 58) a ≡ true → 0 < colons a
some_colon [] e = absurd (true≢false (sym e))
some_colon (x ∷ a) e = some_colon_first x a (x == 58) refl e (some_colon a)

-- what stands behind the kind
pub tail_short : (version : Version) (tail : List ℕ) → (version ≡ Two) × HasNo 58 tail → colons tail ≢ tail_colons version
tail_short One tail h e = cc (h.0)
tail_short Two tail h e = omega (arith, no_colons tail h.1)

pub tail_more : (version : Version) (tail flag value : List ℕ) → tail ≡ tail_of version flag value → IsFlag version flag → list_any (λ b. b == 58) value ≡ true →
    colons tail ≢ tail_colons version
tail_more One tail flag value cut p some e = omega (arith, ap colons cut, some_colon value some)
tail_more Two tail flag value cut p some e = omega (arith, ap colons cut, colons_at flag value p, some_colon value some)

tail_count : (version : Version) (tail flag value : List ℕ) → HasTail version tail flag value → colons tail ≡ tail_colons version
tail_count One tail flag value h = ap colons h.parts ∙ no_colons value h.no_value
tail_count Two tail flag value h = omega (arith, ap colons h.parts, colons_at flag value h.is_flag, no_colons value h.no_value)

-- a line with no colon, with one, with two, and with another count behind the kind
module _ (version : Version) where
  pub none_at_all : (line : List ℕ) → HasNo 58 line → colons line ≢ line_colons version
  none_at_all line p e = omega (arith, no_colons line p)

  pub one_alone : (line a rest : List ℕ) → line ≡ a ++ 58 ∷ rest → HasNo 58 a → HasNo 58 rest → colons line ≢ line_colons version
  one_alone line a rest cut p q e = omega (arith, ap colons cut, colons_at a rest p, no_colons rest q)

  pub two_alone : (line a b more rest : List ℕ) → line ≡ a ++ 58 ∷ more → HasNo 58 a → more ≡ b ++ 58 ∷ rest → HasNo 58 b → HasNo 58 rest → colons line ≢ line_colons version
  two_alone line a b more rest cut p again q r e =
      omega (arith, ap colons cut, colons_at a more p, ap colons again, colons_at b rest q, no_colons rest r)

  pub other_tail : (line a b c more rest tail : List ℕ) → line ≡ a ++ 58 ∷ more → HasNo 58 a → more ≡ b ++ 58 ∷ rest → HasNo 58 b →
      rest ≡ c ++ 58 ∷ tail → HasNo 58 c → colons tail ≢ tail_colons version → colons line ≢ line_colons version
  other_tail line a b c more rest tail cut p again q third r other e =
      other (omega (arith, ap colons cut, colons_at a more p, ap colons again, colons_at b rest q, ap colons third, colons_at c tail r))

  pub whole_parts : (line a b c more rest tail flag value : List ℕ) → line ≡ a ++ 58 ∷ more → HasNo 58 a → more ≡ b ++ 58 ∷ rest → HasNo 58 b →
      rest ≡ c ++ 58 ∷ tail → HasNo 58 c → HasTail version tail flag value → HasParts version line a b c flag value
  whole_parts line a b c more rest tail flag value cut p again q third r h = record {
    parts = cut ∙ ap (λ (l : List ℕ). a ++ 58 ∷ l) (again ∙ ap (λ (l : List ℕ). b ++ 58 ∷ l) (third ∙ ap (λ (l : List ℕ). c ++ 58 ∷ l) h.parts));
    no_name = p;
    no_realm = q;
    no_kind = r;
    is_flag = h.is_flag;
    no_value = h.no_value;
  }

  pub count_of_parts : (line name realm kind flag value : List ℕ) → HasParts version line name realm kind flag value → colons line ≡ line_colons version
  count_of_parts line name realm kind flag value h =
      let tail : HasTail version (tail_of version flag value) flag value = record { parts = refl; is_flag = h.is_flag; no_value = h.no_value } in
      omega (
        arith,
        ap colons h.parts,
        colons_at name (realm ++ 58 ∷ (kind ++ 58 ∷ tail_of version flag value)) h.no_name,
        colons_at realm (kind ++ 58 ∷ tail_of version flag value) h.no_realm,
        colons_at kind (tail_of version flag value) h.no_kind,
        tail_count version (tail_of version flag value) flag value tail,
      )

-- the colons tell the parts
tails_are : (version : Version) (flag value f v : List ℕ) → IsFlag version flag → IsFlag version f → tail_of version flag value ≡ tail_of version f v → (flag ≡ f) × (value ≡ v)
tails_are One flag value f v p q same = (p ∙ sym q, same)
tails_are Two flag value f v p q same = cut_once 58 flag value f v p q same

pub parts_are : (version : Version) (line a b c f d name realm kind flag value : List ℕ) → HasParts version line a b c f d → HasParts version line name realm kind flag value →
    (a ≡ name) × (b ≡ realm) × (c ≡ kind) × (f ≡ flag) × (d ≡ value)
parts_are version line a b c f d name realm kind flag value h g =
    let one = cut_once 58 a _ name _ h.no_name g.no_name (sym h.parts ∙ g.parts) in
    let two = cut_once 58 b _ realm _ h.no_realm g.no_realm one.1 in
    let three = cut_once 58 c _ kind _ h.no_kind g.no_kind two.1 in
    let four = tails_are version f d flag value h.is_flag g.is_flag three.1 in
    (one.0, two.0, three.0, four.0, four.1)

-- ---- the parts of an entry

pub plain_bytes : (name : List ℕ) → is_plain_name name ≡ true → list_all is_plain_byte name ≡ true
plain_bytes name e = both_second (nat_le 1 (length name) && nat_le (length name) 64) _ e

kind_no_colon : (kind : SecretKind) → HasNo 58 (kind_name kind)
kind_no_colon (kinds.Digest Md5) = refl
kind_no_colon (kinds.Digest Sha256) = refl
kind_no_colon (kinds.Digest Sha512t256) = refl
kind_no_colon kinds.ScramSha256 = refl

kind_no_feed : (kind : SecretKind) → HasNo 10 (kind_name kind)
kind_no_feed (kinds.Digest Md5) = refl
kind_no_feed (kinds.Digest Sha256) = refl
kind_no_feed (kinds.Digest Sha512t256) = refl
kind_no_feed kinds.ScramSha256 = refl

flag_no_colon : (on : Bool) → HasNo 58 (flag_text on)
flag_no_colon true = refl
flag_no_colon false = refl

flag_no_feed : (on : Bool) → HasNo 10 (flag_text on)
flag_no_feed true = refl
flag_no_feed false = refl

value_no_colon : (s : Secret) → IsSecret s → HasNo 58 (text_of s)
value_no_colon (Digest alg ha1) h = passes_no is_lower_digit 58 refl ha1 (digits_pass ha1 h.form.1)
value_no_colon (Scram keys) h = no_keys 58 refl refl refl refl refl keys h

value_no_feed : (s : Secret) → IsSecret s → HasNo 10 (text_of s)
value_no_feed (Digest alg ha1) h = passes_no is_lower_digit 10 refl ha1 (digits_pass ha1 h.form.1)
value_no_feed (Scram keys) h = no_keys 10 refl refl refl refl refl keys h

flag_fits : (version : Version) (on : Bool) → HasFlag version on → IsFlag version (flag_text on)
flag_fits One on h = ap flag_text h
flag_fits Two on h = flag_no_colon on

pub entry_parts : (version : Version) (line : List ℕ) (e : Entry) → IsEntry version e → line ≡ entry_text version e →
    HasParts version line e.name e.realm (kind_name (kind_of e.secret)) (flag_text e.on) (text_of e.secret)
entry_parts version line e h is = record {
  parts = is;
  no_name = passes_no is_plain_byte 58 refl e.name (plain_bytes e.name h.name);
  no_realm = passes_no is_plain_byte 58 refl e.realm (plain_bytes e.realm h.realm);
  no_kind = kind_no_colon (kind_of e.secret);
  is_flag = flag_fits version e.on h.flag;
  no_value = value_no_colon e.secret h.secret;
}

tail_no_feed : (version : Version) (on : Bool) (value : List ℕ) → HasNo 10 value → HasNo 10 (tail_of version (flag_text on) value)
tail_no_feed One on value none = none
tail_no_feed Two on value none = no_in_both 10 (flag_text on) _ (flag_no_feed on) (no_cons 10 58 value refl none)

pub no_feed : (version : Version) (e : Entry) → IsEntry version e → HasNo 10 (entry_text version e)
no_feed version e h =
    let tail = tail_of version (flag_text e.on) (text_of e.secret) in
    let kind = kind_name (kind_of e.secret) in
    no_in_both 10 e.name (58 ∷ (e.realm ++ 58 ∷ (kind ++ 58 ∷ tail))) (passes_no is_plain_byte 10 refl e.name (plain_bytes e.name h.name))
    (no_cons 10 58 (e.realm ++ 58 ∷ (kind ++ 58 ∷ tail)) refl
    (no_in_both 10 e.realm (58 ∷ (kind ++ 58 ∷ tail)) (passes_no is_plain_byte 10 refl e.realm (plain_bytes e.realm h.realm))
    (no_cons 10 58 (kind ++ 58 ∷ tail) refl
    (no_in_both 10 kind (58 ∷ tail) (kind_no_feed (kind_of e.secret))
    (no_cons 10 58 tail refl (tail_no_feed version e.on (text_of e.secret) (value_no_feed e.secret h.secret)))))))

-- ---- a line tells its entry

pub one_kind : (a b : SecretKind) → kind_name a ≡ kind_name b → a ≡ b
one_kind (kinds.Digest Md5) (kinds.Digest Md5) e = refl
one_kind (kinds.Digest Md5) (kinds.Digest Sha256) e = cc
one_kind (kinds.Digest Md5) (kinds.Digest Sha512t256) e = cc
one_kind (kinds.Digest Md5) kinds.ScramSha256 e = cc
one_kind (kinds.Digest Sha256) (kinds.Digest Md5) e = cc
one_kind (kinds.Digest Sha256) (kinds.Digest Sha256) e = refl
one_kind (kinds.Digest Sha256) (kinds.Digest Sha512t256) e = cc
one_kind (kinds.Digest Sha256) kinds.ScramSha256 e = cc
one_kind (kinds.Digest Sha512t256) (kinds.Digest Md5) e = cc
one_kind (kinds.Digest Sha512t256) (kinds.Digest Sha256) e = cc
one_kind (kinds.Digest Sha512t256) (kinds.Digest Sha512t256) e = refl
one_kind (kinds.Digest Sha512t256) kinds.ScramSha256 e = cc
one_kind kinds.ScramSha256 (kinds.Digest Md5) e = cc
one_kind kinds.ScramSha256 (kinds.Digest Sha256) e = cc
one_kind kinds.ScramSha256 (kinds.Digest Sha512t256) e = cc
one_kind kinds.ScramSha256 kinds.ScramSha256 e = refl

pub one_flag : (a b : Bool) → flag_text a ≡ flag_text b → a ≡ b
one_flag true true e = refl
one_flag true false e = cc
one_flag false true e = cc
one_flag false false e = refl

same_algorithm_in : (a b : Algorithm) → kinds.Digest a ≡ kinds.Digest b → a ≡ b
same_algorithm_in a b e = cc

one_secret : (s t : Secret) → IsSecret s → IsSecret t → kind_of s ≡ kind_of t → text_of s ≡ text_of t → s ≡ t
one_secret (Digest a x) (Digest b y) h g p q = ap (λ (v : Algorithm). Digest v x) (same_algorithm_in a b p) ∙ ap (λ (v : List ℕ). Digest b v) q
one_secret (Digest a x) (Scram l) h g p q = cc
one_secret (Scram k) (Digest b y) h g p q = cc
one_secret (Scram k) (Scram l) h g p q = ap (λ (v : ScramKeys). Scram v) (one_keys k l h g q)

same_entry : (e f : Entry) → e.name ≡ f.name → e.realm ≡ f.realm → e.secret ≡ f.secret → e.on ≡ f.on → e ≡ f
same_entry e f p q r s = λ i. record { name = p i; realm = q i; secret = r i; on = s i }

pub one_entry : (version : Version) (e f : Entry) → IsEntry version e → IsEntry version f → entry_text version e ≡ entry_text version f → e ≡ f
one_entry version e f h g same =
    let are = parts_are version (entry_text version e) _ _ _ _ _ _ _ _ _ _ (entry_parts version (entry_text version e) e h refl) (entry_parts version (entry_text version e) f g same) in
    same_entry e f are.0 are.1 (one_secret e.secret f.secret h.secret g.secret (one_kind _ _ are.2) are.4) (one_flag e.on f.on are.3)

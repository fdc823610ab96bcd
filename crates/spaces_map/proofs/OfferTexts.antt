-- A text of kinds is that of one list of offers.
use Rattle.std.proofs.Common.{◌≡◌, ◌≢◌, ◌==◌, ◌<◌, ◌+◌, ℕ, Bool, true, false, ◌&&◌, not, cond, List, [], ◌∷◌, ◌++◌, length, map, codes, suc, get_or, take, drop, drop-cons, refl, sym, ap, ◌∙◌, subst, arith}
use Rattle.std.specs.Prelude.{All}
use Rattle.std.specs.List.{list_all, slice_split, join_with_byte}
use Rattle.std.proofs.lemmas.List.{append-nil, take-append-drop, take_more, map-append, length-map}
use Rattle.std.proofs.Math.Seq.{take-length}
use Rattle.std.proofs.lemmas.List.Elements.{All-nil, All-cons}
use Rattle.std.proofs.lemmas.List.Splits.{slice_split_none, slice_split_at, length-slice_split, join_with_byte-slice_split}
use Rattle.auth_hash.specs.declared.algorithm.Algorithm.{Algorithm}
use Rattle.auth_hash.specs.declared.algorithm.Algorithm.TheVariants.{Md5, Sha256, Sha512t256}
use Rattle.spaces_map.specs.Follows.{EachFits}
use Rattle.auth_hash.specs.Algorithm.{algorithm_name}
use Rattle.spaces_map.specs.Kinds.{flag_text, kind_name, offer_text, kinds_text, IsOther, IsOffers}
use Rattle.spaces_map.specs.Lines.{is_visible}
use Rattle.spaces_map.specs.declared.space.Offer.{Offer}
use Rattle.spaces_map.specs.declared.space.OfferKind.{OfferKind}
use Rattle.spaces_map.specs.declared.space.OfferKind.TheVariants.{Digest, ScramSha256}
use Rattle.spaces_map.proofs.Cuts.{Lacks, lacks_by, lacks_append, lacks_cons, all_append, neither_first, neither_second}
use Rattle.spaces_map.proofs.Flags.{last_of, last_append, ends_otherwise, flag_is, flag_cut}
use Rattle.spaces_map.proofs.Follows.{fits_at}

-- ---- the flags

-- no name of an algorithm ends in `-sess`
algorithm_plain : (alg : Algorithm) (front : List ℕ) → algorithm_name alg ≢ front ++ codes "-sess"
algorithm_plain Md5 = ends_otherwise _ _ (codes "MD5") refl
algorithm_plain Sha256 = ends_otherwise _ _ (codes "SHA-256") refl
algorithm_plain Sha512t256 = ends_otherwise _ _ (codes "SHA-512-256") refl

-- no name of a kind ends as `+int` or `+hash` do
kind_end : (kind : OfferKind) → ((last_of (kind_name kind) == 116) ≡ false) × ((last_of (kind_name kind) == 104) ≡ false)
kind_end (Digest Md5 true) = (refl, refl)
kind_end (Digest Md5 false) = (refl, refl)
kind_end (Digest Sha256 true) = (refl, refl)
kind_end (Digest Sha256 false) = (refl, refl)
kind_end (Digest Sha512t256 true) = (refl, refl)
kind_end (Digest Sha512t256 false) = (refl, refl)
kind_end ScramSha256 = (refl, refl)

kind_plain : (kind : OfferKind) (front : List ℕ) → kind_name kind ≢ front ++ codes "+int"
kind_plain kind = ends_otherwise _ _ (kind_name kind) (kind_end kind).0

with_int_end : (kind : OfferKind) (auth_int : Bool) → (last_of (kind_name kind ++ flag_text (codes "+int") auth_int) == 104) ≡ false
with_int_end kind true = ap (λ (n : ℕ). n == 104) (last_append (kind_name kind) 43 (codes "int"))
with_int_end kind false = ap (λ (l : List ℕ). last_of l == 104) (append-nil (kind_name kind)) ∙ (kind_end kind).1

int_plain : (kind : OfferKind) (auth_int : Bool) (front : List ℕ) → kind_name kind ++ flag_text (codes "+int") auth_int ≢ front ++ codes "+hash"
int_plain kind auth_int = ends_otherwise _ _ (kind_name kind ++ flag_text (codes "+int") auth_int) (with_int_end kind auth_int)

-- ---- reading

pub no_kind : (name rest : List ℕ) (session : Bool) → name ≢ codes "SCRAM-SHA-256" → name ≡ rest ++ flag_text (codes "-sess") session →
    (session ≡ false → (front : List ℕ) → name ≢ front ++ codes "-sess") → ((alg : Algorithm) → rest ≢ algorithm_name alg) → (kind : OfferKind) → name ≢ kind_name kind
no_kind name rest session other_scheme text absent none ScramSha256 is = other_scheme is
no_kind name rest session other_scheme text absent none (Digest alg other) is =
    none alg (flag_is (codes "-sess") name (algorithm_name alg) rest session other (algorithm_plain alg) absent text is).1

pub no_offer : (part rest name : List ℕ) (userhash auth_int : Bool) → part ≡ rest ++ flag_text (codes "+hash") userhash →
    (userhash ≡ false → (front : List ℕ) → part ≢ front ++ codes "+hash") → rest ≡ name ++ flag_text (codes "+int") auth_int →
    (auth_int ≡ false → (front : List ℕ) → rest ≢ front ++ codes "+int") → ((kind : OfferKind) → name ≢ kind_name kind) → (offer : Offer) → part ≢ offer_text offer
no_offer part rest name userhash auth_int text absent more missing none offer is =
    let behind = (flag_is (codes "+hash") part _ rest userhash offer.userhash (int_plain offer.kind offer.auth_int) absent text is).1 in
    none offer.kind (flag_is (codes "+int") rest (kind_name offer.kind) name auth_int offer.auth_int (kind_plain offer.kind) missing more behind).1

-- ---- an offer has one text

algorithm_of : List ℕ → Algorithm
algorithm_of name = cond (length name == 3) Md5 (cond (length name == 7) Sha256 Sha512t256)

algorithm_back : (alg : Algorithm) → algorithm_of (algorithm_name alg) ≡ alg
unfolding algorithm_of
algorithm_back Md5 = refl
algorithm_back Sha256 = refl
algorithm_back Sha512t256 = refl

-- no name of Digest is as long as that of SCRAM
other_scheme : (alg : Algorithm) (session : Bool) → kind_name (Digest alg session) ≢ kind_name ScramSha256
other_scheme Md5 true is = absurd (let no = ap (λ (l : List ℕ). length l) is in omega (arith, no))
other_scheme Md5 false is = absurd (let no = ap (λ (l : List ℕ). length l) is in omega (arith, no))
other_scheme Sha256 true is = absurd (let no = ap (λ (l : List ℕ). length l) is in omega (arith, no))
other_scheme Sha256 false is = absurd (let no = ap (λ (l : List ℕ). length l) is in omega (arith, no))
other_scheme Sha512t256 true is = absurd (let no = ap (λ (l : List ℕ). length l) is in omega (arith, no))
other_scheme Sha512t256 false is = absurd (let no = ap (λ (l : List ℕ). length l) is in omega (arith, no))

one_kind : (a b : OfferKind) → kind_name a ≡ kind_name b → a ≡ b
one_kind ScramSha256 ScramSha256 is = refl
one_kind ScramSha256 (Digest b t) is = absurd (other_scheme b t (sym is))
one_kind (Digest a s) ScramSha256 is = absurd (other_scheme a s is)
one_kind (Digest a s) (Digest b t) is =
    let parts = flag_cut (codes "-sess") (algorithm_name a) (algorithm_name b) s t (algorithm_plain a) (algorithm_plain b) is in
    let same : a ≡ b = sym (algorithm_back a) ∙ ap algorithm_of parts.1 ∙ algorithm_back b in
    ap (λ (alg : Algorithm). Digest alg s) same ∙ ap (λ (session : Bool). Digest b session) parts.0

one_record : (k l : OfferKind) (i j h g : Bool) → k ≡ l → i ≡ j → h ≡ g → let a : Offer = record { kind = k; auth_int = i; userhash = h } in let b : Offer = record { kind = l; auth_int = j; userhash = g } in a ≡ b
one_record k l i j h g p q r = cc

pub one_offer : (a b : Offer) → offer_text a ≡ offer_text b → a ≡ b
one_offer a b is =
    let outer = flag_cut (codes "+hash") _ _ a.userhash b.userhash (int_plain a.kind a.auth_int) (int_plain b.kind b.auth_int) is in
    let inner = flag_cut (codes "+int") _ _ a.auth_int b.auth_int (kind_plain a.kind) (kind_plain b.kind) outer.1 in
    one_record a.kind b.kind a.auth_int b.auth_int a.userhash b.userhash (one_kind a.kind b.kind inner.1) inner.0 outer.0

-- ---- the bytes of kinds

-- a visible byte other than the comma
abbrev is_kind_byte : ℕ → Bool
is_kind_byte b = is_visible b && not (b == 44)

kind_bytes : (kind : OfferKind) → list_all is_kind_byte (kind_name kind) ≡ true
kind_bytes (Digest Md5 true) = refl
kind_bytes (Digest Md5 false) = refl
kind_bytes (Digest Sha256 true) = refl
kind_bytes (Digest Sha256 false) = refl
kind_bytes (Digest Sha512t256 true) = refl
kind_bytes (Digest Sha512t256 false) = refl
kind_bytes ScramSha256 = refl

int_bytes : (flag : Bool) → list_all is_kind_byte (flag_text (codes "+int") flag) ≡ true
int_bytes true = refl
int_bytes false = refl

hash_bytes : (flag : Bool) → list_all is_kind_byte (flag_text (codes "+hash") flag) ≡ true
hash_bytes true = refl
hash_bytes false = refl

offer_bytes : (offer : Offer) → list_all is_kind_byte (offer_text offer) ≡ true
offer_bytes offer =
    let int : List ℕ = flag_text (codes "+int") offer.auth_int in
    all_append is_kind_byte (kind_name offer.kind ++ int) (flag_text (codes "+hash") offer.userhash)
    (all_append is_kind_byte (kind_name offer.kind) int (kind_bytes offer.kind) (int_bytes offer.auth_int)) (hash_bytes offer.userhash)

offer_lacks : (d : ℕ) → is_kind_byte d ≡ false → (offer : Offer) → Lacks d (offer_text offer)
offer_lacks d other offer = lacks_by is_kind_byte d other (offer_text offer) (offer_bytes offer)

-- no space and no control stands in a text of kinds
pub kinds_lack : (d : ℕ) → is_kind_byte d ≡ false → (44 == d) ≡ false → (offers : List Offer) → Lacks d (kinds_text offers)
kinds_lack d other comma [] = refl
kinds_lack d other comma (o ∷ []) = offer_lacks d other o
kinds_lack d other comma (o ∷ p ∷ offers) =
    lacks_append d (offer_text o) (44 ∷ kinds_text (p ∷ offers)) (offer_lacks d other o) (lacks_cons d 44 (kinds_text (p ∷ offers)) comma (kinds_lack d other comma (p ∷ offers)))

-- ---- the parts of a text of kinds

abbrev pub parts_of : List ℕ → List (List ℕ)
parts_of kinds = slice_split (λ b. b == 44) kinds

all_lack : (d : ℕ) (text : List ℕ) → Lacks d text → All (λ b. (b == d) ≡ false) text
all_lack d [] lacks = All-nil (λ b. (b == d) ≡ false)
all_lack d (x ∷ text) lacks = All-cons (λ b. (b == d) ≡ false) x text (neither_first (x == d) _ lacks) (all_lack d text (neither_second (x == d) _ lacks))

split_kinds : (o : Offer) (offers : List Offer) → parts_of (kinds_text (o ∷ offers)) ≡ map offer_text (o ∷ offers)
split_kinds o [] = slice_split_none (λ b. b == 44) (offer_text o) (all_lack 44 (offer_text o) (offer_lacks 44 refl o))
split_kinds o (p ∷ offers) =
    slice_split_at (λ b. b == 44) (offer_text o) 44 (kinds_text (p ∷ offers)) (all_lack 44 (offer_text o) (offer_lacks 44 refl o)) refl
    ∙ ap (λ (l : List (List ℕ)). offer_text o ∷ l) (split_kinds p offers)

pub kinds_parts : (offers : List Offer) → 0 < length offers → parts_of (kinds_text offers) ≡ map offer_text offers
kinds_parts [] some = absurd (omega arith)
kinds_parts (o ∷ offers) some = split_kinds o offers

first_is : (x y : List ℕ) (xs ys : List (List ℕ)) → x ∷ xs ≡ y ∷ ys → x ≡ y
first_is x y xs ys e = cc

others_are : (x y : List ℕ) (xs ys : List (List ℕ)) → x ∷ xs ≡ y ∷ ys → xs ≡ ys
others_are x y xs ys e = cc

-- the offer of a part in the middle
offer_at : (all before : List Offer) (part : List ℕ) (after : List (List ℕ)) → map offer_text all ≡ map offer_text before ++ part ∷ after →
    (offer : Offer) × (rest : List Offer) × (all ≡ before ++ offer ∷ rest) × (part ≡ offer_text offer)
offer_at [] [] part after is = absurd (cc)
offer_at [] (b ∷ before) part after is = absurd (cc)
offer_at (a ∷ all) [] part after is = (a, all, refl, sym (first_is (offer_text a) part (map offer_text all) after is))
offer_at (a ∷ all) (b ∷ before) part after is =
    let more = offer_at all before part after (others_are (offer_text a) (offer_text b) (map offer_text all) (map offer_text before ++ part ∷ after) is) in
    let same : a ≡ b = one_offer a b (first_is (offer_text a) (offer_text b) (map offer_text all) (map offer_text before ++ part ∷ after) is) in
    (more.0, more.1, ap (λ (o : Offer). o ∷ all) same ∙ ap (λ (l : List Offer). b ∷ l) more.2, more.3)

-- a part that is no other offer's
pub no_offers : (kinds : List ℕ) (before : List Offer) (part : List ℕ) (after : List (List ℕ)) → parts_of kinds ≡ map offer_text before ++ part ∷ after →
    ((offer : Offer) → IsOther before offer → part ≢ offer_text offer) → (offers : List Offer) → IsOffers offers → kinds ≢ kinds_text offers
no_offers kinds before part after parts none offers form is =
    let at = offer_at offers before part after (sym (kinds_parts offers form.some) ∙ ap parts_of (sym is) ∙ parts) in
    let P : List Offer → Type 0 = λ l. EachFits IsOther [] l in
    none at.0 (fits_at IsOther [] before at.0 at.1 (subst P at.2 form.apart)) at.3

-- ---- the loop over the parts

-- a part that is no other offer's, behind those that are
pub no_more : (kinds : List ℕ) (before : List Offer) (part : List ℕ) (n : ℕ) → map offer_text before ≡ take n (parts_of kinds) →
    (n < length (parts_of kinds)) × (part ≡ get_or (parts_of kinds) n part) →
    ((offer : Offer) → IsOther before offer → part ≢ offer_text offer) → (offers : List Offer) → IsOffers offers → kinds ≢ kinds_text offers
no_more kinds before part n names at none =
    let parts = parts_of kinds in
    no_offers kinds before part (drop (suc n) parts) (
    sym (take-append-drop n parts) ∙ ap (λ (l : List (List ℕ)). l ++ drop n parts) (sym names) ∙ ap (λ (l : List (List ℕ)). map offer_text before ++ l) (drop-cons parts n part at.0)
    ∙ ap (λ (l : List ℕ). map offer_text before ++ l ∷ drop (suc n) parts) (sym at.1)
    ) none

-- one more offer
pub one_more : (kinds : List ℕ) (before : List Offer) (offer : Offer) (part : List ℕ) (n m : ℕ) → map offer_text before ≡ take n (parts_of kinds) →
    (n < length (parts_of kinds)) × (part ≡ get_or (parts_of kinds) n part) → part ≡ offer_text offer → m ≡ n + 1 → map offer_text (before ++ offer ∷ []) ≡ take m (parts_of kinds)
one_more kinds before offer part n m names at is next =
    let parts = parts_of kinds in
    map-append offer_text before (offer ∷ []) ∙ ap (λ (l : List (List ℕ)). l ++ offer_text offer ∷ []) names ∙ ap (λ (l : List ℕ). take n parts ++ l ∷ []) (sym is ∙ at.1)
    ∙ sym (take_more parts n part at.0) ∙ ap (λ (i : ℕ). take i parts) (sym next)

-- an empty text has one part too
some_part : (kinds : List ℕ) → 0 < length (parts_of kinds)
some_part kinds = let e = length-slice_split (λ b. b == 44) kinds in omega arith

-- all the offers
pub all_read : (kinds : List ℕ) (offers : List Offer) (n : ℕ) → map offer_text offers ≡ take n (parts_of kinds) → n ≡ length (parts_of kinds) → EachFits IsOther [] offers →
    IsOffers offers × (kinds ≡ kinds_text offers)
all_read kinds offers n names end apart =
    let parts = parts_of kinds in
    let same : map offer_text offers ≡ parts = names ∙ ap (λ (i : ℕ). take i parts) end ∙ take-length parts in
    let count : length offers ≡ length parts = sym (length-map offers offer_text) ∙ ap (λ (l : List (List ℕ)). length l) same in
    let some : 0 < length parts = some_part kinds in
    (record { some = omega arith; apart = apart }, sym (ap (join_with_byte 44) same ∙ join_with_byte-slice_split 44 kinds))

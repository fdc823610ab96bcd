-- The first message of a server: its forms, and that a text is one at most.
use Rattle.std.proofs.Common.{◌≡◌, ◌≤◌, ◌<◌, ◌^◌, ℕ, true, List, [], ◌∷◌, ◌++◌, refl, sym, ◌∙◌, ap, subst, length, length-append, append_assoc, append-nil, arith}
use Rattle.std.specs.Prelude.{IfOk, decimal}
use Rattle.std.specs.declared.result.Result.{Result}
use Rattle.std.specs.declared.result.Result.TheVariants.{Ok, Err}
use Rattle.std.proofs.lemmas.Fmt.{decimal_injective, length-decimal-le}
use Rattle.scram_text.specs.Bytes.{IsCount, IsSalt, base64_text, is_nonce_byte, some_of}
use Rattle.scram_text.specs.Contents.{WritesCount, WritesSalt}
use Rattle.scram_text.specs.Parts.{Ends, HoldsFirst, HoldsLast, IsAttribute, Then}
use Rattle.scram_text.specs.ServerFirsts.{CutsServerFirst, IsServerFirst, IsServerFirstText, ServerFirstParts, SpellsServerFirst, server_first_text}
use Rattle.scram_text.specs.ServerFirstAnswers.{AnswersServerFirst, server_first_parts}
use Rattle.scram_text.specs.declared.attribute.Attribute.TheVariants.{Nonce, Salt, Count}
use Rattle.scram_text.specs.declared.error.ScramError.{ScramError}
use Rattle.scram_text.specs.declared.server_first.ServerFirst.{ServerFirst}
use Rattle.scram_text.proofs.AttributeForms.{attribute_at, content_in, cut_first, cut_last, first_in, first_word, is_letter_of, last_in, last_word}
use Rattle.scram_text.proofs.AttributeLaws.{content_whole}
use Rattle.scram_text.proofs.Base64Groups.{base64_injective, base64_long}
use Rattle.scram_text.proofs.ClientFirstUnique.{tail_of}
use Rattle.scram_text.proofs.ExtensionLaws.{at_comma, no_extensions}
use Rattle.scram_text.proofs.PartLaws.{parted}

abbrev pub BehindNonce : List ℕ → Type 0
BehindNonce = Then (IsAttribute Salt) (Ends (IsAttribute Count))

-- a text behind the nonce
pub salt_word : (w : List ℕ) × BehindNonce w
salt_word = first_word Salt (Ends (IsAttribute Count)) (last_word Count).0 (last_word Count).1

-- the parts make the message
pub cuts_of : (text nonce rest salt last count : List ℕ) → HoldsFirst Nonce text nonce rest → HoldsFirst Salt rest salt last → HoldsLast Count last count → CutsServerFirst text nonce salt count
cuts_of text nonce rest salt last count first second third = record {
  extensions = third.more;
  cut = cut_first Nonce 114 text nonce rest (is_letter_of 114) first
      ∙ ap (λ (w : List ℕ). 114 ∷ 61 ∷ (nonce ++ 44 ∷ w)) (cut_first Salt 115 rest salt last (is_letter_of 115) second ∙ ap (λ (w : List ℕ). 115 ∷ 61 ∷ (salt ++ 44 ∷ w)) (cut_last Count 105 last count (is_letter_of 105) third));
  holds_nonce = first.is.holds;
  holds_salt = second.is.holds;
  holds_count = third.is.holds;
  are_extensions = third.extensions;
}

-- the message with what stands behind it
pub opened : (nonce salt : List ℕ) (i : ℕ) (more : List ℕ) → server_first_text nonce salt i ++ more ≡ 114 ∷ 61 ∷ (nonce ++ 44 ∷ 115 ∷ 61 ∷ (base64_text salt ++ 44 ∷ 105 ∷ 61 ∷ (decimal i ++ more)))
opened nonce salt i more =
    ap (λ (w : List ℕ). 114 ∷ 61 ∷ w) (append_assoc nonce (44 ∷ 115 ∷ 61 ∷ (base64_text salt ++ 44 ∷ 105 ∷ 61 ∷ decimal i)) more
    ∙ ap (λ (w : List ℕ). nonce ++ 44 ∷ 115 ∷ 61 ∷ w) (append_assoc (base64_text salt) (44 ∷ 105 ∷ 61 ∷ decimal i) more))

pub spelled_parts : (text nonce salt count s : List ℕ) (i : ℕ) → CutsServerFirst text nonce salt count → WritesSalt salt s → WritesCount count i → SpellsServerFirst text (record { nonce = nonce; salt = s; i = i })
spelled_parts text nonce salt count s i cuts is_salt is_count = record {
  extensions = cuts.extensions;
  cut = cuts.cut
      ∙ ap (λ (w : List ℕ). 114 ∷ 61 ∷ (nonce ++ 44 ∷ 115 ∷ 61 ∷ (w ++ 44 ∷ 105 ∷ 61 ∷ (count ++ cuts.extensions)))) is_salt.written
      ∙ ap (λ (w : List ℕ). 114 ∷ 61 ∷ (nonce ++ 44 ∷ 115 ∷ 61 ∷ (base64_text s ++ 44 ∷ 105 ∷ 61 ∷ (w ++ cuts.extensions)))) is_count.written
      ∙ sym (opened nonce s i cuts.extensions);
  is_nonce = cuts.holds_nonce;
  is_salt = is_salt.is_salt;
  is_count = is_count.is_count;
  are_extensions = cuts.are_extensions;
}

-- a message is a text of the form, and the other way round
pub form_of : (text : List ℕ) (parts : ServerFirstParts) → SpellsServerFirst text parts → IsServerFirstText text
form_of text parts spells = record {
  part = 114 ∷ 61 ∷ parts.nonce;
  more = 115 ∷ 61 ∷ (base64_text parts.salt ++ 44 ∷ 105 ∷ 61 ∷ (decimal parts.i ++ spells.extensions));
  cut = spells.cut ∙ opened parts.nonce parts.salt parts.i spells.extensions;
  is_part = attribute_at Nonce 114 parts.nonce refl spells.is_nonce;
  is_more = record {
    part = 115 ∷ 61 ∷ base64_text parts.salt;
    more = 105 ∷ 61 ∷ (decimal parts.i ++ spells.extensions);
    cut = refl;
    is_part = attribute_at Salt 115 (base64_text parts.salt) refl (parts.salt, record { is_salt = spells.is_salt; written = refl });
    is_more = record { part = 105 ∷ 61 ∷ decimal parts.i; more = spells.extensions; cut = refl; is_part = attribute_at Count 105 (decimal parts.i) refl (parts.i, record { is_count = spells.is_count; written = refl }); extensions = spells.are_extensions };
  };
}

pub spelled_by : (text : List ℕ) → IsServerFirstText text → (parts : ServerFirstParts) × SpellsServerFirst text parts
spelled_by text is =
    let nonce = content_in Nonce is.part is.is_part in
    let salt = content_in Salt is.is_more.part is.is_more.is_part in
    let count = content_in Count is.is_more.is_more.part is.is_more.is_more.is_part in
    let cuts = cuts_of text nonce.0 is.more salt.0 is.is_more.more count.0 (first_in Nonce BehindNonce text is) (first_in Salt (Ends (IsAttribute Count)) is.more is.is_more) (last_in Count is.is_more.more is.is_more.is_more) in
    (record { nonce = nonce.0; salt = salt.1.holds.0; i = count.1.holds.0 }, spelled_parts text nonce.0 salt.0 count.0 salt.1.holds.0 count.1.holds.0 cuts salt.1.holds.1 count.1.holds.1)

-- a text is one message at most
pub spelled_once : (text : List ℕ) (p q : ServerFirstParts) → SpellsServerFirst text p → SpellsServerFirst text q → p ≡ q
spelled_once text p q x y =
    let same = sym (x.cut ∙ opened p.nonce p.salt p.i x.extensions) ∙ y.cut ∙ opened q.nonce q.salt q.i y.extensions in
    let behind = λ (r : ServerFirstParts) (e : List ℕ). 115 ∷ 61 ∷ (base64_text r.salt ++ 44 ∷ 105 ∷ 61 ∷ (decimal r.i ++ e)) in
    let one = parted p.nonce q.nonce (44 ∷ behind p x.extensions) (44 ∷ behind q y.extensions) (content_whole Nonce p.nonce x.is_nonce) (content_whole Nonce q.nonce y.is_nonce) refl refl (tail_of (tail_of same)) in
    let two = parted (base64_text p.salt) (base64_text q.salt) (44 ∷ 105 ∷ 61 ∷ (decimal p.i ++ x.extensions)) (44 ∷ 105 ∷ 61 ∷ (decimal q.i ++ y.extensions))
    (content_whole Salt (base64_text p.salt) (p.salt, record { is_salt = x.is_salt; written = refl })) (content_whole Salt (base64_text q.salt) (q.salt, record { is_salt = y.is_salt; written = refl })) refl refl (tail_of (tail_of (tail_of one.1))) in
    let three = parted (decimal p.i) (decimal q.i) x.extensions y.extensions (content_whole Count (decimal p.i) (p.i, record { is_count = x.is_count; written = refl })) (content_whole Count (decimal q.i) (q.i, record { is_count = y.is_count; written = refl }))
    (at_comma x.extensions x.are_extensions) (at_comma y.extensions y.are_extensions) (tail_of (tail_of (tail_of two.1))) in
    parts_same one.0 (base64_injective p.salt q.salt x.is_salt.bytes y.is_salt.bytes two.0) (numbers x.is_count.fits y.is_count.fits three.0)
  where
    numbers : p.i < 2 ^ 32 → q.i < 2 ^ 32 → decimal p.i ≡ decimal q.i → p.i ≡ q.i
    numbers a b same = decimal_injective p.i q.i (omega arith) (omega arith) same

    parts_same : p.nonce ≡ q.nonce → p.salt ≡ q.salt → p.i ≡ q.i → p ≡ q
    parts_same a b c k = record { nonce = a k; salt = b k; i = c k }

pub only_answer : (text : List ℕ) (answer : Result ServerFirst ScramError) → AnswersServerFirst text answer → IfOk answer (λ m. (parts : ServerFirstParts) → SpellsServerFirst text parts → parts ≡ server_first_parts m)
only_answer text (Ok m) told = λ parts spells. spelled_once text parts (server_first_parts m) spells told.0
only_answer text (Err error) told = tt

-- a new message is one that is taken
pub new_is : (nonce salt n s text : List ℕ) (i : ℕ) → some_of is_nonce_byte nonce ≡ true → IsSalt salt → IsCount i → n ≡ nonce → s ≡ salt → text ≡ server_first_text nonce salt i → length (server_first_text nonce salt i) ≤ 256
    → IsServerFirst text (record { nonce = n; salt = s; i = i })
new_is nonce salt n s text i is_nonce is_salt is_count n_is s_is text_is short =
    let N : List ℕ → Type 0 = λ x. IsServerFirst text (record { nonce = x; salt = s; i = i }) in
    let S : List ℕ → Type 0 = λ x. IsServerFirst text (record { nonce = nonce; salt = x; i = i }) in
    let T : List ℕ → Type 0 = λ x. IsServerFirst x (record { nonce = nonce; salt = salt; i = i }) in
    subst N (sym n_is) (subst S (sym s_is) (subst T (sym text_is) (record {
      spells = record { extensions = []; cut = sym (append-nil (server_first_text nonce salt i)); is_nonce = is_nonce; is_salt = is_salt; is_count = is_count; are_extensions = no_extensions };
      short = short;
    })))

-- a message that is written is taken
pub written_is : (text written : List ℕ) (parts : ServerFirstParts) → written ≡ text → IsServerFirst text parts → SpellsServerFirst written parts × (text ≡ written) × (length written ≤ 256)
written_is text written parts same is =
    (subst (λ (t : List ℕ). SpellsServerFirst t parts) (sym same) is.spells, sym same, subst (λ (t : List ℕ). length t ≤ 256) (sym same) is.short)

-- a message of a short nonce and salt is short
pub short_text : (nonce salt : List ℕ) (i : ℕ) → length nonce ≤ 164 → length salt ≤ 32 → i < 2 ^ 32 → length (server_first_text nonce salt i) ≤ 256
short_text nonce salt i short_nonce short_salt below =
    let digits = length-decimal-le 10 i (omega arith) (omega arith) (omega arith) in
    let symbols = base64_long salt in
    let a = length-append nonce (44 ∷ 115 ∷ 61 ∷ (base64_text salt ++ 44 ∷ 105 ∷ 61 ∷ decimal i)) in
    let b = length-append (base64_text salt) (44 ∷ 105 ∷ 61 ∷ decimal i) in
    omega (arith, digits, symbols, a, b)

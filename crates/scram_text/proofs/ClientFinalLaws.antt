-- The last message of a client: its forms, and that a text is one at most.
use Rattle.std.proofs.Common.{◌≡◌, ◌+◌, ◌-◌, ℕ, suc, true, List, [], ◌∷◌, ◌++◌, refl, sym, ◌∙◌, ap, subst, take, length, length-append, append_assoc, append-nil, arith}
use Rattle.std.specs.Prelude.{IfOk}
use Rattle.std.specs.declared.result.Result.{Result}
use Rattle.std.specs.declared.result.Result.TheVariants.{Ok, Err}
use Rattle.std.proofs.lemmas.List.{take_at}
use Rattle.base64.specs.Rfc4648.{padding_len, unpadded_len}
use Rattle.scram_text.specs.Bytes.{IsDigest, base64_text, is_nonce_byte, some_of}
use Rattle.scram_text.specs.Flags.{header}
use Rattle.scram_text.specs.Contents.{WritesDigest, WritesHeader}
use Rattle.scram_text.specs.Parts.{HoldsFirst, HoldsTail, IsAttribute, IsTail, Then, before_commas, behind_commas}
use Rattle.scram_text.specs.ClientFinals.{ClientFinalParts, CutsClientFinal, IsClientFinalText, IsWithout, SpellsClientFinal, client_final_text, without_text}
use Rattle.scram_text.specs.ClientFinalAnswers.{AnswersClientFinal, client_final_parts}
use Rattle.scram_text.specs.declared.attribute.Attribute.TheVariants.{Binding, Inner, Nonce, Proof}
use Rattle.scram_text.specs.declared.client_final.ClientFinal.{ClientFinal}
use Rattle.scram_text.specs.declared.error.ScramError.{ScramError}
use Rattle.scram_text.specs.declared.flag.Flag.{Flag}
use Rattle.scram_text.specs.declared.flag.Flag.TheVariants.{N, Y}
use Rattle.scram_text.proofs.AttributeForms.{attribute_at, content_in, cut_first, first_in, first_word, is_letter_of}
use Rattle.scram_text.proofs.AttributeLaws.{content_whole}
use Rattle.scram_text.proofs.Base64Groups.{base64_injective, base64_long, header_n, header_y}
use Rattle.scram_text.proofs.ClientFirstUnique.{tail_of}
use Rattle.scram_text.proofs.ExtensionLaws.{all_at_comma}
use Rattle.scram_text.proofs.PartLaws.{parted}
use Rattle.scram_text.proofs.ReauthLaws.{same_ends}
use Rattle.scram_text.proofs.TailLaws.{commas_moved, tail_in, tail_word}

-- a text behind the header
pub nonce_word : (w : List ℕ) × Then (IsAttribute Nonce) IsTail w
nonce_word = first_word Nonce IsTail tail_word.0 tail_word.1

-- the parts make the message
pub cuts_of : (text binding rest nonce tail proof : List ℕ) → HoldsFirst Binding text binding rest → HoldsFirst Nonce rest nonce tail → HoldsTail tail proof → CutsClientFinal text binding nonce proof
cuts_of text binding rest nonce tail proof first second third = record {
  extensions = behind_commas third.before.parts;
  cut = cut_first Binding 99 text binding rest (is_letter_of 99) first
      ∙ ap (λ (w : List ℕ). 99 ∷ 61 ∷ (binding ++ 44 ∷ w)) (cut_first Nonce 114 rest nonce tail (is_letter_of 114) second
      ∙ ap (λ (w : List ℕ). 114 ∷ 61 ∷ (nonce ++ w)) (ap (λ (w : List ℕ). 44 ∷ w) third.before.cut ∙ commas_moved third.before.parts third.last
      ∙ ap (λ (w : List ℕ). behind_commas third.before.parts ++ 44 ∷ w) (third.is.cut ∙ ap (λ (x : ℕ). x ∷ 61 ∷ proof) (is_letter_of 112 third.is.letter third.is.has))));
  holds_binding = first.is.holds;
  holds_nonce = second.is.holds;
  holds_proof = third.is.holds;
  are_extensions = record { parts = third.before.parts; cut = refl; each = third.before.each };
}

-- what stands before the proof, with what stands behind it
pub opened : (flag : Flag) (nonce more : List ℕ) → without_text flag nonce ++ more ≡ 99 ∷ 61 ∷ (base64_text (header flag) ++ 44 ∷ 114 ∷ 61 ∷ (nonce ++ more))
opened flag nonce more = ap (λ (w : List ℕ). 99 ∷ 61 ∷ w) (append_assoc (base64_text (header flag)) (44 ∷ 114 ∷ 61 ∷ nonce) more)

-- the message cut before its proof
pub cut_before : (text binding nonce proof : List ℕ) (flag : Flag) → (cuts : CutsClientFinal text binding nonce proof) → WritesHeader binding flag → text ≡ (without_text flag nonce ++ cuts.extensions) ++ 44 ∷ 112 ∷ 61 ∷ proof
cut_before text binding nonce proof flag cuts is =
    cuts.cut ∙ ap (λ (w : List ℕ). 99 ∷ 61 ∷ (w ++ 44 ∷ 114 ∷ 61 ∷ (nonce ++ (cuts.extensions ++ 44 ∷ 112 ∷ 61 ∷ proof)))) is
    ∙ sym (opened flag nonce (cuts.extensions ++ 44 ∷ 112 ∷ 61 ∷ proof)) ∙ sym (append_assoc (without_text flag nonce) cuts.extensions (44 ∷ 112 ∷ 61 ∷ proof))

without_is : (text binding nonce proof : List ℕ) (flag : Flag) → (cuts : CutsClientFinal text binding nonce proof) → IsWithout (without_text flag nonce ++ cuts.extensions) flag nonce
without_is text binding nonce proof flag cuts = record { extensions = cuts.extensions; cut = refl; is_nonce = cuts.holds_nonce; are_extensions = cuts.are_extensions }

pub spelled_parts : (text binding nonce proof : List ℕ) (flag : Flag) (without digest : List ℕ) → (cuts : CutsClientFinal text binding nonce proof) → WritesHeader binding flag → without ≡ take (length text - length proof - 3) text → WritesDigest proof digest
    → SpellsClientFinal text (record { flag = flag; nonce = nonce; without = without; proof = digest })
spelled_parts text binding nonce proof flag without digest cuts is_flag without_of is_digest =
    let whole = cut_before text binding nonce proof flag cuts is_flag in
    let front = without_text flag nonce ++ cuts.extensions in
    let long : length front ≡ length text - length proof - 3 = (let e = ap length whole ∙ length-append front (44 ∷ 112 ∷ 61 ∷ proof) in omega (arith, e)) in
    let same : without ≡ front = without_of ∙ ap (take (length text - length proof - 3)) whole ∙ take_at front (44 ∷ 112 ∷ 61 ∷ proof) (length text - length proof - 3) long in
    let P : List ℕ → Type 0 = λ w. SpellsClientFinal text (record { flag = flag; nonce = nonce; without = w; proof = digest }) in
    subst P (sym same) (record { cut = whole ∙ ap (λ (w : List ℕ). front ++ 44 ∷ 112 ∷ 61 ∷ w) is_digest.written; is_without = without_is text binding nonce proof flag cuts; is_proof = is_digest.is_digest })

-- the same with a copy of the nonce, and of the message itself
pub spells_nonce : (text binding nonce n proof : List ℕ) (flag : Flag) (without digest : List ℕ) → (cuts : CutsClientFinal text binding nonce proof) → WritesHeader binding flag → n ≡ nonce → without ≡ take (length text - length proof - 3) text → WritesDigest proof digest
    → SpellsClientFinal text (record { flag = flag; nonce = n; without = without; proof = digest })
spells_nonce text binding nonce n proof flag without digest cuts is_flag same without_of is_digest =
    let P : List ℕ → Type 0 = λ x. SpellsClientFinal text (record { flag = flag; nonce = x; without = without; proof = digest }) in
    subst P (sym same) (spelled_parts text binding nonce proof flag without digest cuts is_flag without_of is_digest)

pub read_is : (text binding nonce n proof : List ℕ) (flag : Flag) (without digest : List ℕ) → (cuts : CutsClientFinal text binding nonce proof) → WritesHeader binding flag → n ≡ nonce → without ≡ take (length text - length proof - 3) text → WritesDigest proof digest
    → SpellsClientFinal (client_final_text without digest) (record { flag = flag; nonce = n; without = without; proof = digest })
read_is text binding nonce n proof flag without digest cuts is_flag same without_of is_digest =
    let spells = spells_nonce text binding nonce n proof flag without digest cuts is_flag same without_of is_digest in
    let P : List ℕ → Type 0 = λ t. SpellsClientFinal t (record { flag = flag; nonce = n; without = without; proof = digest }) in
    subst P spells.cut spells

-- a message is a text of the form, and the other way round
pub form_of : (text : List ℕ) (parts : ClientFinalParts) → SpellsClientFinal text parts → IsClientFinalText text
form_of text parts spells =
    let are = spells.is_without.are_extensions in
    let last = 112 ∷ 61 ∷ base64_text parts.proof in
    record {
      part = 99 ∷ 61 ∷ base64_text (header parts.flag);
      more = 114 ∷ 61 ∷ (parts.nonce ++ 44 ∷ (before_commas are.parts ++ last));
      cut = spells.cut ∙ ap (λ (w : List ℕ). w ++ 44 ∷ last) spells.is_without.cut ∙ append_assoc (without_text parts.flag parts.nonce) spells.is_without.extensions (44 ∷ last)
          ∙ opened parts.flag parts.nonce (spells.is_without.extensions ++ 44 ∷ last)
          ∙ ap (λ (w : List ℕ). 99 ∷ 61 ∷ (base64_text (header parts.flag) ++ 44 ∷ 114 ∷ 61 ∷ (parts.nonce ++ w))) (ap (λ (w : List ℕ). w ++ 44 ∷ last) are.cut ∙ sym (commas_moved are.parts last));
      is_part = attribute_at Binding 99 (base64_text (header parts.flag)) refl (parts.flag, refl);
      is_more = record {
        part = 114 ∷ 61 ∷ parts.nonce;
        more = before_commas are.parts ++ last;
        cut = refl;
        is_part = attribute_at Nonce 114 parts.nonce refl spells.is_without.is_nonce;
        is_more = record {
          last = last;
          before = record { parts = are.parts; cut = refl; each = are.each };
          is_last = attribute_at Proof 112 (base64_text parts.proof) refl (parts.proof, record { is_digest = spells.is_proof; written = refl });
        };
      };
    }

pub spelled_by : (text : List ℕ) → IsClientFinalText text → (parts : ClientFinalParts) × SpellsClientFinal text parts
spelled_by text is =
    let binding = content_in Binding is.part is.is_part in
    let nonce = content_in Nonce is.is_more.part is.is_more.is_part in
    let proof = content_in Proof is.is_more.is_more.last is.is_more.is_more.is_last in
    let cuts = cuts_of text binding.0 is.more nonce.0 is.is_more.more proof.0 (first_in Binding (Then (IsAttribute Nonce) IsTail) text is) (first_in Nonce IsTail is.more is.is_more) (tail_in is.is_more.more is.is_more.is_more) in
    let without = take (length text - length proof.0 - 3) text in (
      record { flag = binding.1.holds.0; nonce = nonce.0; without = without; proof = proof.1.holds.0 },
      spelled_parts text binding.0 nonce.0 proof.0 binding.1.holds.0 without proof.1.holds.0 cuts binding.1.holds.1 refl proof.1.holds.1,
    )

-- the length of a digest's text
digest_long : (d : List ℕ) → IsDigest d → length (base64_text d) ≡ 44
digest_long d is = base64_long d ∙ ap (λ (n : ℕ). unpadded_len n + padding_len n) is.long

-- a header is of one flag
header_unique : (f g : Flag) → base64_text (header f) ≡ base64_text (header g) → f ≡ g
header_unique N N same = refl
header_unique Y Y same = refl
header_unique N Y same = let e = sym header_n ∙ same ∙ header_y in let wrong : ◌≡◌ {A = ℕ} 98 101 = cc in absurd (omega (arith, wrong))
header_unique Y N same = let e = sym header_y ∙ same ∙ header_n in let wrong : ◌≡◌ {A = ℕ} 101 98 = cc in absurd (omega (arith, wrong))

without_unique : (text : List ℕ) (f g : Flag) (m n : List ℕ) → IsWithout text f m → IsWithout text g n → (f ≡ g) × (m ≡ n)
without_unique text f g m n x y =
    let same = sym (x.cut ∙ opened f m x.extensions) ∙ y.cut ∙ opened g n y.extensions in
    let one = parted (base64_text (header f)) (base64_text (header g)) (44 ∷ 114 ∷ 61 ∷ (m ++ x.extensions)) (44 ∷ 114 ∷ 61 ∷ (n ++ y.extensions)) (content_whole Binding (base64_text (header f)) (f, refl)) (content_whole Binding (base64_text (header g)) (g, refl)) refl refl (tail_of (tail_of same)) in
    (header_unique f g one.0, (parted m n x.extensions y.extensions (content_whole Nonce m x.is_nonce) (content_whole Nonce n y.is_nonce) (all_at_comma Inner x.extensions x.are_extensions) (all_at_comma Inner y.extensions y.are_extensions) (tail_of (tail_of (tail_of one.1)))).0)

-- a text is one message at most
pub spelled_once : (text : List ℕ) (p q : ClientFinalParts) → SpellsClientFinal text p → SpellsClientFinal text q → p ≡ q
spelled_once text p q x y =
    let ends = same_ends p.without (44 ∷ 112 ∷ 61 ∷ base64_text p.proof) q.without (44 ∷ 112 ∷ 61 ∷ base64_text q.proof) (sym x.cut ∙ y.cut) (ap (λ (n : ℕ). suc (suc (suc n))) (digest_long p.proof x.is_proof ∙ sym (digest_long q.proof y.is_proof))) in
    let proof = base64_injective p.proof q.proof x.is_proof.bytes y.is_proof.bytes (tail_of (tail_of (tail_of ends.1))) in
    let W : List ℕ → Type 0 = λ w. IsWithout w q.flag q.nonce in
    let rest = without_unique p.without p.flag q.flag p.nonce q.nonce x.is_without (subst W (sym ends.0) y.is_without) in
    parts_same rest.0 rest.1 ends.0 proof
  where
    parts_same : p.flag ≡ q.flag → p.nonce ≡ q.nonce → p.without ≡ q.without → p.proof ≡ q.proof → p ≡ q
    parts_same f n w d i = record { flag = f i; nonce = n i; without = w i; proof = d i }

pub only_answer : (text : List ℕ) (answer : Result ClientFinal ScramError) → AnswersClientFinal text answer → IfOk answer (λ m. (parts : ClientFinalParts) → SpellsClientFinal text parts → parts ≡ client_final_parts m)
only_answer text (Ok m) told = λ parts spells. spelled_once text parts (client_final_parts m) spells told
only_answer text (Err error) told = tt

-- a new message is one that is taken
pub new_is : (flag : Flag) (nonce n w proof : List ℕ) → some_of is_nonce_byte nonce ≡ true → n ≡ nonce → w ≡ without_text flag nonce → IsDigest proof → SpellsClientFinal (client_final_text w proof) (record { flag = flag; nonce = n; without = w; proof = proof })
new_is flag nonce n w proof clear n_is w_is is_proof =
    let N : List ℕ → Type 0 = λ x. SpellsClientFinal (client_final_text w proof) (record { flag = flag; nonce = x; without = w; proof = proof }) in
    let W : List ℕ → Type 0 = λ x. SpellsClientFinal (client_final_text x proof) (record { flag = flag; nonce = nonce; without = x; proof = proof }) in
    subst N (sym n_is) (subst W (sym w_is) (record {
      cut = refl;
      is_without = record { extensions = []; cut = sym (append-nil (without_text flag nonce)); is_nonce = clear; are_extensions = record { parts = []; cut = refl; each = tt } };
      is_proof = is_proof;
    }))

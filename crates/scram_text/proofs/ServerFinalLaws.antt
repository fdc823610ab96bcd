-- The last message of a server: its forms, and that a text is one at most.
use Rattle.std.proofs.Common.{◌≡◌, ℕ, true, List, [], ◌∷◌, ◌++◌, refl, sym, ◌∙◌, ap, subst, append-nil, inl, inr, arith}
use Rattle.std.specs.Prelude.{IfOk}
use Rattle.std.specs.declared.result.Result.{Result}
use Rattle.std.specs.declared.result.Result.TheVariants.{Ok, Err}
use Rattle.scram_text.specs.Bytes.{base64_text, is_value_byte, some_of}
use Rattle.scram_text.specs.Contents.{WritesDigest}
use Rattle.scram_text.specs.Parts.{HoldsLast}
use Rattle.scram_text.specs.ServerFinals.{FinalSaid, IsSaid, IsServerFinalText, SpellsServerFinal, failed, server_final_text, signed}
use Rattle.scram_text.specs.ServerFinalAnswers.{AnswersServerFinal, said_of}
use Rattle.scram_text.specs.declared.attribute.Attribute.TheVariants.{Signature, Fault}
use Rattle.scram_text.specs.declared.error.ScramError.{ScramError}
use Rattle.scram_text.specs.declared.server_final.ServerFinal.{ServerFinal}
use Rattle.scram_text.proofs.AttributeForms.{attribute_at, content_in, cut_last, is_letter_of, last_in}
use Rattle.scram_text.proofs.AttributeLaws.{content_whole}
use Rattle.scram_text.proofs.Base64Groups.{base64_injective}
use Rattle.scram_text.proofs.ClientFirstUnique.{tail_of}
use Rattle.scram_text.proofs.ExtensionLaws.{at_comma, no_extensions}
use Rattle.scram_text.proofs.PartLaws.{parted}

pub signed_by : (text content digest : List ℕ) → HoldsLast Signature text content → WritesDigest content digest → SpellsServerFinal text (signed digest)
signed_by text content digest last is = record {
  extensions = last.more;
  cut = cut_last Signature 118 text content (is_letter_of 118) last ∙ ap (λ (w : List ℕ). 118 ∷ 61 ∷ (w ++ last.more)) is.written;
  is_said = is.is_digest;
  are_extensions = last.extensions;
}

pub failed_by : (text content value : List ℕ) → HoldsLast Fault text content → value ≡ content → SpellsServerFinal text (failed value)
failed_by text content value last same = record {
  extensions = last.more;
  cut = cut_last Fault 101 text content (is_letter_of 101) last ∙ ap (λ (w : List ℕ). 101 ∷ 61 ∷ (w ++ last.more)) (sym same);
  is_said = subst (λ (w : List ℕ). some_of is_value_byte w ≡ true) (sym same) last.is.holds;
  are_extensions = last.extensions;
}

-- a message is a text of the form, and the other way round
pub form_of : (text : List ℕ) (said : FinalSaid) → SpellsServerFinal text said → IsServerFinalText text
form_of text (signed d) spells = inl (record { part = 118 ∷ 61 ∷ base64_text d; more = spells.extensions; cut = spells.cut; is_part = attribute_at Signature 118 (base64_text d) refl (d, record { is_digest = spells.is_said; written = refl }); extensions = spells.are_extensions })
form_of text (failed v) spells = inr (record { part = 101 ∷ 61 ∷ v; more = spells.extensions; cut = spells.cut; is_part = attribute_at Fault 101 v refl spells.is_said; extensions = spells.are_extensions })

pub spelled_by : (text : List ℕ) → IsServerFinalText text → (said : FinalSaid) × SpellsServerFinal text said
spelled_by text is = elim is [
  | inl ends ↦ let content = content_in Signature ends.part ends.is_part in (signed content.1.holds.0, signed_by text content.0 content.1.holds.0 (last_in Signature text ends) content.1.holds.1)
  | inr ends ↦ let content = content_in Fault ends.part ends.is_part in (failed content.0, failed_by text content.0 content.0 (last_in Fault text ends) refl)
]

-- a text is one message at most
pub spelled_once : (text : List ℕ) (p q : FinalSaid) → SpellsServerFinal text p → SpellsServerFinal text q → p ≡ q
spelled_once text (signed a) (signed b) x y =
    let same : base64_text a ++ x.extensions ≡ base64_text b ++ y.extensions = tail_of (tail_of (sym x.cut ∙ y.cut)) in
    let one = parted (base64_text a) (base64_text b) x.extensions y.extensions (content_whole Signature (base64_text a) (a, record { is_digest = x.is_said; written = refl })) (content_whole Signature (base64_text b) (b, record { is_digest = y.is_said; written = refl }))
    (at_comma x.extensions x.are_extensions) (at_comma y.extensions y.are_extensions) same in
    ap signed (base64_injective a b x.is_said.bytes y.is_said.bytes one.0)
spelled_once text (failed a) (failed b) x y =
    let same : a ++ x.extensions ≡ b ++ y.extensions = tail_of (tail_of (sym x.cut ∙ y.cut)) in
    ap failed (parted a b x.extensions y.extensions (content_whole Fault a x.is_said) (content_whole Fault b y.is_said) (at_comma x.extensions x.are_extensions) (at_comma y.extensions y.are_extensions) same).0
spelled_once text (signed a) (failed b) x y = absurd (different (sym x.cut ∙ y.cut))
  where
    different : 118 ∷ 61 ∷ (base64_text a ++ x.extensions) ≡ 101 ∷ 61 ∷ (b ++ y.extensions) → ⊥
    different same = let wrong : ◌≡◌ {A = ℕ} 118 101 = cc in absurd (omega (arith, wrong))
spelled_once text (failed a) (signed b) x y = absurd (different (sym x.cut ∙ y.cut))
  where
    different : 101 ∷ 61 ∷ (a ++ x.extensions) ≡ 118 ∷ 61 ∷ (base64_text b ++ y.extensions) → ⊥
    different same = let wrong : ◌≡◌ {A = ℕ} 101 118 = cc in absurd (omega (arith, wrong))

pub only_answer : (text : List ℕ) (answer : Result ServerFinal ScramError) → AnswersServerFinal text answer → IfOk answer (λ m. (said : FinalSaid) → SpellsServerFinal text said → said ≡ said_of m)
only_answer text (Ok m) told = λ said spells. spelled_once text said (said_of m) spells told
only_answer text (Err error) told = tt

-- a message that is written is spelled
pub written_is : (text : List ℕ) (said : FinalSaid) → text ≡ server_final_text said → IsSaid said → SpellsServerFinal text said
written_is text said same is = record { extensions = []; cut = same ∙ sym (append-nil (server_final_text said)); is_said = is; are_extensions = no_extensions }

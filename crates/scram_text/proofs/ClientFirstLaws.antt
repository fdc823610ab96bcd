-- The first message of a client: its forms, and how far a text goes on as one.
use Rattle.std.proofs.Common.{◌≡◌, ◌==◌, ◌||◌, ◌+◌, ◌*◌, ◌≤◌, ℕ, true, false, List, [], ◌∷◌, ◌++◌, refl, sym, ◌∙◌, ap, subst, length, length-append, append-nil, inl, inr, arith}
use Rattle.std.proofs.lemmas.Bool.Decides.{Decides-eqb}
use Rattle.auth_grammar.specs.Plain.{is_printable}
use Rattle.scram_text.specs.Bytes.{escape, escaped, is_nonce_byte, some_of}
use Rattle.scram_text.specs.ClientFirsts.{FirstParts, IsBare, IsBareText, IsClientFirst, IsClientFirstText, IsShort, SpellsClientFirst, bare_text, is_comma}
use Rattle.scram_text.specs.Flags.{flag_letter, is_flag}
use Rattle.scram_text.specs.Contents.{WritesName}
use Rattle.scram_text.specs.Parts.{Ends, HoldsFirst, HoldsLast, IsAttribute, LedBy}
use Rattle.scram_text.specs.Reaching.{Halts}
use Rattle.scram_text.specs.declared.attribute.Attribute.TheVariants.{Name, Nonce}
use Rattle.scram_text.specs.declared.flag.Flag.{Flag}
use Rattle.scram_text.specs.declared.flag.Flag.TheVariants.{N, Y}
use Rattle.scram_text.proofs.AttributeLaws.{with_is}
use Rattle.scram_text.proofs.ExtensionLaws.{no_extensions}
use Rattle.scram_text.proofs.AttributeForms.{content_in, cut_first, cut_last, first_in, first_word, is_letter_of, last_in, last_word}
use Rattle.scram_text.proofs.FormLaws.{halts_off, halts_on, moved}
use Rattle.scram_text.proofs.NameBytes.{written, comma, equals, itself}
use Rattle.scram_text.proofs.ByteTests.{same_or_not}

-- a text of the form
bare_word : (w : List ℕ) × IsBareText w
bare_word = first_word Name (Ends (IsAttribute Nonce)) (last_word Nonce).0 (last_word Nonce).1

-- a name, a comma and a nonce make it
pub makes_bare : (text name rest nonce : List ℕ) → HoldsFirst Name text name rest → HoldsLast Nonce rest nonce → IsBare text name nonce
makes_bare text name rest nonce first last = record {
  extensions = last.more;
  cut = cut_first Name 110 text name rest (is_letter_of 110) first ∙ ap (λ (r : List ℕ). 110 ∷ 61 ∷ (name ++ 44 ∷ r)) (cut_last Nonce 114 rest nonce (is_letter_of 114) last);
  is_nonce = last.is.holds;
  are_extensions = last.extensions;
}

-- the flag, and the commas behind it
flag_known : (b : ℕ) → is_flag b ≡ true → (flag : Flag) × (b ≡ flag_letter flag)
flag_known b is = elim (same_or_not b 110) [
  | inl n ↦ (N, n.0)
  | inr m ↦ elim (same_or_not b 121) [
    | inl y ↦ (Y, y.0)
    | inr o ↦ absurd (let e : ((b == 110) || (b == 121)) ≡ false = rw (m.1, o.1) refl in let wrong : true ≡ false = sym is ∙ e in cc)
  ]
]

pub flag_letters : (flag : Flag) → is_flag (flag_letter flag) ≡ true
flag_letters N = refl
flag_letters Y = refl

comma_word : (w : List ℕ) × LedBy is_comma IsBareText w
comma_word = (44 ∷ bare_word.0, record { first = 44; more = bare_word.0; cut = refl; leads = refl; follows = bare_word.1 })

commas_word : (w : List ℕ) × LedBy is_comma (LedBy is_comma IsBareText) w
commas_word = (44 ∷ comma_word.0, record { first = 44; more = comma_word.0; cut = refl; leads = refl; follows = comma_word.1 })

-- no comma begins it
no_comma_first : (text : List ℕ) → ((rest : List ℕ) → text ≡ 44 ∷ rest → ⊥) → (b : ℕ) (left : List ℕ) → text ≡ b ∷ left → is_comma b ≡ false
no_comma_first text none b left is = elim (same_or_not b 44) [
  | inl same ↦ absurd (none left (is ∙ ap (λ (x : ℕ). x ∷ left) same.0))
  | inr differs ↦ differs.1
]

pub stops_at_flag : (text : List ℕ) → ((b : ℕ) (left : List ℕ) → text ≡ b ∷ left → is_flag b ≡ false) → Halts IsClientFirstText text 0
stops_at_flag text fails = halts_off is_flag (LedBy is_comma (LedBy is_comma IsBareText)) 110 commas_word.0 refl commas_word.1 text fails

pub stops_behind_flag : (text rest : List ℕ) (b : ℕ) → text ≡ b ∷ rest → is_flag b ≡ true → ((more : List ℕ) → rest ≡ 44 ∷ more → ⊥) → Halts IsClientFirstText text 1
stops_behind_flag text rest b cut flag none =
    let P : List ℕ → Type 0 = λ t. Halts IsClientFirstText t 1 in
    subst P (sym cut) (halts_on is_flag (LedBy is_comma (LedBy is_comma IsBareText)) b rest 0 flag
    (halts_off is_comma (LedBy is_comma IsBareText) 44 comma_word.0 refl comma_word.1 rest (no_comma_first rest none)))

pub stops_behind_comma : (text rest more : List ℕ) (b : ℕ) → text ≡ b ∷ rest → is_flag b ≡ true → rest ≡ 44 ∷ more → ((left : List ℕ) → more ≡ 44 ∷ left → ⊥) → Halts IsClientFirstText text 2
stops_behind_comma text rest more b cut flag at_sign none =
    let P : List ℕ → Type 0 = λ t. Halts IsClientFirstText t 2 in
    subst P (sym (cut ∙ ap (λ (w : List ℕ). b ∷ w) at_sign)) (halts_on is_flag (LedBy is_comma (LedBy is_comma IsBareText)) b (44 ∷ more) 1 flag
    (halts_on is_comma (LedBy is_comma IsBareText) 44 more 0 refl
    (halts_off is_comma IsBareText 44 bare_word.0 refl bare_word.1 more (no_comma_first more none))))

pub stops_in_bare : (text bare : List ℕ) (flag : Flag) (at : ℕ) → text ≡ flag_letter flag ∷ 44 ∷ 44 ∷ bare → Halts IsBareText bare at → Halts IsClientFirstText text (3 + at)
stops_in_bare text bare flag at cut halts =
    let P : List ℕ → Type 0 = λ t. Halts IsClientFirstText t (3 + at) in
    subst P (sym cut) (moved IsClientFirstText (flag_letter flag ∷ 44 ∷ 44 ∷ bare) (1 + (1 + (1 + at))) (3 + at) (omega arith)
    (halts_on is_flag (LedBy is_comma (LedBy is_comma IsBareText)) (flag_letter flag) (44 ∷ 44 ∷ bare) (1 + (1 + at)) (flag_letters flag)
    (halts_on is_comma (LedBy is_comma IsBareText) 44 (44 ∷ bare) (1 + at) refl (halts_on is_comma IsBareText 44 bare at refl halts))))

-- a message is a text of the form, and the other way round
bare_form : (text written nonce : List ℕ) (name : List ℕ) → IsBare text written nonce → WritesName written name → IsBareText text
bare_form text written nonce name bare is_name = record {
  part = 110 ∷ 61 ∷ written;
  more = 114 ∷ 61 ∷ (nonce ++ bare.extensions);
  cut = bare.cut;
  is_part = with_is Name (110 ∷ 61 ∷ written) written (record { letter = 110; cut = refl; has = refl; holds = (name, is_name) });
  is_more = record { part = 114 ∷ 61 ∷ nonce; more = bare.extensions; cut = refl; is_part = with_is Nonce (114 ∷ 61 ∷ nonce) nonce (record { letter = 114; cut = refl; has = refl; holds = bare.is_nonce }); extensions = bare.are_extensions };
}

pub form_of : (text : List ℕ) (parts : FirstParts) → SpellsClientFirst text parts → IsClientFirstText text
form_of text parts spells = record {
  first = flag_letter parts.flag;
  more = 44 ∷ 44 ∷ parts.bare;
  cut = spells.cut;
  leads = flag_letters parts.flag;
  follows = record {
    first = 44;
    more = 44 ∷ parts.bare;
    cut = refl;
    leads = refl;
    follows = record {
      first = 44;
      more = parts.bare;
      cut = refl;
      leads = refl;
      follows = bare_form parts.bare spells.written parts.nonce parts.name spells.is_bare spells.is_name;
    };
  };
}

pub spelled_by : (text : List ℕ) → IsClientFirstText text → (parts : FirstParts) × SpellsClientFirst text parts
spelled_by text is =
    let flag = flag_known is.first is.leads in
    let bare = is.follows.follows.more in
    let form = is.follows.follows.follows in
    let name = content_in Name form.part form.is_part in
    let nonce = content_in Nonce form.is_more.part form.is_more.is_part in
    let first = first_in Name (Ends (IsAttribute Nonce)) bare form in
    let last = last_in Nonce form.more form.is_more in (
      record { flag = flag.0; name = name.1.holds.0; nonce = nonce.0; bare = bare },
      record {
        written = name.0;
        cut = is.cut ∙ ap (λ (x : ℕ). x ∷ is.more) flag.1 ∙ ap (λ (w : List ℕ). flag_letter flag.0 ∷ w) (is.follows.cut ∙ ap (λ (x : ℕ). x ∷ is.follows.more) ((Decides-eqb is.follows.first 44).0 is.follows.leads)
            ∙ ap (λ (w : List ℕ). 44 ∷ w) (is.follows.follows.cut ∙ ap (λ (x : ℕ). x ∷ bare) ((Decides-eqb is.follows.follows.first 44).0 is.follows.follows.leads)));
        is_bare = makes_bare bare name.0 form.more nonce.0 first last;
        is_name = name.1.holds.1;
      },
    )

-- a written name has at most three bytes for each of its own
escape_length : (b : ℕ) → length (escape b) ≤ 3
escape_length b = elim (written b) [
  | comma is e ↦ rw e (omega arith)
  | equals is e ↦ rw e (omega arith)
  | itself n m e ↦ rw e (omega arith)
]

escaped_length : (name : List ℕ) → length (escaped name) ≤ 3 * length name
escaped_length [] = omega arith
escaped_length (b ∷ name) = let e = escape_length b in let r = escaped_length name in let l = length-append (escape b) (escaped name) in omega arith

-- a new message is one that is taken
pub new_is : (flag : Flag) (name nonce n m bare : List ℕ) → some_of is_printable name ≡ true → length name ≤ 64 → some_of is_nonce_byte nonce ≡ true → length nonce ≤ 128
    → n ≡ name → m ≡ nonce → bare ≡ bare_text name nonce → IsClientFirst (record { flag = flag; name = n; nonce = m; bare = bare })
new_is flag name nonce n m bare plain short clear short_nonce n_is m_is bare_is =
    let N : List ℕ → Type 0 = λ x. IsClientFirst (record { flag = flag; name = x; nonce = m; bare = bare }) in
    let M : List ℕ → Type 0 = λ x. IsClientFirst (record { flag = flag; name = name; nonce = x; bare = bare }) in
    let B : List ℕ → Type 0 = λ x. IsClientFirst (record { flag = flag; name = name; nonce = nonce; bare = x }) in
    subst N (sym n_is) (subst M (sym m_is) (subst B (sym bare_is) (record {
      text = flag_letter flag ∷ 44 ∷ 44 ∷ bare_text name nonce;
      spells = record {
        written = escaped name;
        cut = refl;
        is_name = record { plain = plain; written = refl };
        is_bare = record { extensions = []; cut = ap (λ (w : List ℕ). 110 ∷ 61 ∷ (escaped name ++ 44 ∷ 114 ∷ 61 ∷ w)) (sym (append-nil nonce)); is_nonce = clear; are_extensions = no_extensions };
      };
      short = record { bare = (let e = escaped_length name in let l = length-append (escaped name) (44 ∷ 114 ∷ 61 ∷ nonce) in omega arith); name = short; nonce = short_nonce };
    })))

-- a message that is written is spelled
pub written_spells : (text : List ℕ) (parts : FirstParts) → text ≡ flag_letter parts.flag ∷ 44 ∷ 44 ∷ parts.bare → IsClientFirst parts → SpellsClientFirst text parts × IsShort parts
written_spells text parts cut is = (record { written = is.spells.written; cut = cut; is_bare = is.spells.is_bare; is_name = is.spells.is_name }, is.short)

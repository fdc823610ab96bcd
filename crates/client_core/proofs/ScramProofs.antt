-- What a server's signature says.
use Rattle.std.proofs.Common.{◌≡◌, ℕ, Bool, true, false, List, Option, Some, None, codes, refl, sym, ap, ◌∙◌, subst, true≢false}
use Rattle.std.specs.Prelude.{Result, Ok, Err, IfOk, bytes_eq}
use Rattle.auth_grammar.specs.declared.octets.OutOfMemory.{OutOfMemory as NoMemory}
use Rattle.std.proofs.lemmas.Slice.Eq.{bytes_eq-Decides}
use Rattle.auth_grammar.specs.Names.{value_of}
use Rattle.auth_grammar.specs.declared.items.Param.{Param}
use Rattle.scram_text.specs.ServerFinalAnswers.{RefusesServerFinal, said_of}
use Rattle.scram_text.specs.ServerFinals.{FinalSaid, SpellsServerFinal, failed, signed}
use Rattle.scram_text.specs.declared.error.ScramError.{ScramError}
use Rattle.scram_text.specs.declared.error.ScramError.TheVariants.{TooLong, ChannelBinding, Authzid, Extension, NotMessage, OutOfMemory}
use Rattle.scram_text.specs.declared.server_final.ServerFinal.{ServerFinal}
use Rattle.scram_text.specs.declared.server_final.ServerFinal.TheVariants.{Signature, Fault}
use Rattle.client_core.specs.declared.hearing.Heard.{Heard}
use Rattle.client_core.specs.declared.hearing.Heard.TheVariants.{Nothing, First, Final}
use Rattle.client_core.specs.declared.state.Exchange.{Exchange}
use Rattle.scram_text.specs.Bytes.{base64_bytes}
use Rattle.client_core.specs.Hearings.{HearsFinal, HearsIn, HearsText, IsFault}
use Rattle.client_core.specs.Laws.{ProvesScram}
use Rattle.client_core.specs.ScramConclusions.{is_signature, is_signed, signature_for}

-- ---- from the test

signed_value : (text : List ℕ) (x : Exchange) (nonce : List ℕ) (message : ServerFinal) → is_signature message (signature_for x nonce) ≡ true
    → SpellsServerFinal text (said_of message) → SpellsServerFinal text (signed (signature_for x nonce))
signed_value text x nonce (Signature signature) e spells =
    subst (λ (v : List ℕ). SpellsServerFinal text (signed v)) ((bytes_eq-Decides signature (signature_for x nonce)).0 e) spells
signed_value text x nonce (Fault error) e spells = absurd (true≢false (sym e))

from_text : (found : Option (List ℕ)) (x : Exchange) (nonce : List ℕ) (message : ServerFinal) → is_signature message (signature_for x nonce) ≡ true
    → HearsText HearsFinal found (Final message) → (text : List ℕ) × (found ≡ Some text) × SpellsServerFinal text (signed (signature_for x nonce))
from_text None x nonce message e hears = absurd (let clash : Final message ≡ Nothing = hears in cc)
from_text (Some text) x nonce message e hears = (text, refl, signed_value text x nonce message e hears.0)

from_data : (found : Option (List ℕ)) (params : List Param) (x : Exchange) (nonce : List ℕ) (message : ServerFinal) → value_of (codes "data") params ≡ found
    → is_signature message (signature_for x nonce) ≡ true → HearsIn HearsFinal found (Final message) → ProvesScram x nonce params
from_data None params x nonce message is e hears = absurd (let clash : Final message ≡ Nothing = hears in cc)
from_data (Some text) params x nonce message is e hears =
    let read = from_text (base64_bytes text) x nonce message e hears in
    record { message = text; text = read.0; there = is; decodes = read.1; signature = read.2 }

pub signed_proves : (params : List Param) (x : Exchange) (nonce : List ℕ) (told : Heard) → is_signed told x nonce ≡ true
    → HearsIn HearsFinal (value_of (codes "data") params) told → ProvesScram x nonce params
signed_proves params x nonce (Final message) e hears = from_data (value_of (codes "data") params) params x nonce message refl e hears
signed_proves params x nonce Nothing e hears = absurd (true≢false (sym e))
signed_proves params x nonce (First message) e hears = absurd (true≢false (sym e))

-- ---- a refusal

pub refused_none : (text : List ℕ) (error : ScramError) → RefusesServerFinal text error → IsFault error → (what : FinalSaid) → SpellsServerFinal text what → ⊥
refused_none text (TooLong part limit) refuses fault what spells = refuses
refused_none text ChannelBinding refuses fault what spells = refuses
refused_none text Authzid refuses fault what spells = refuses
refused_none text Extension refuses fault what spells = refuses
refused_none text (NotMessage at) refuses fault what spells = refuses.none what spells
refused_none text OutOfMemory refuses fault what spells = fault

-- ---- to the test

value_signed : (x : Exchange) (nonce : List ℕ) (message : ServerFinal) → signed (signature_for x nonce) ≡ said_of message → is_signature message (signature_for x nonce) ≡ true
value_signed x nonce (Signature signature) e = (bytes_eq-Decides signature (signature_for x nonce)).1 (let same : signed (signature_for x nonce) ≡ signed signature = e in cc)
value_signed x nonce (Fault error) e = absurd (let clash : signed (signature_for x nonce) ≡ failed error.value = e in cc)

text_signed : (text : List ℕ) (x : Exchange) (nonce : List ℕ) (told : Heard) → SpellsServerFinal text (signed (signature_for x nonce)) → HearsFinal text told → is_signed told x nonce ≡ true
text_signed text x nonce (Final message) spells hears = value_signed x nonce message (hears.1 (signed (signature_for x nonce)) spells)
text_signed text x nonce Nothing spells hears = absurd (refused_none text hears.0 hears.2 hears.1 (signed (signature_for x nonce)) spells)
text_signed text x nonce (First message) spells hears = absurd hears

pub proves_signed : (params : List Param) (x : Exchange) (nonce : List ℕ) (told : Heard) → ProvesScram x nonce params
    → HearsIn HearsFinal (value_of (codes "data") params) told → is_signed told x nonce ≡ true
proves_signed params x nonce told h hears =
    let data_heard = subst (λ (o : Option (List ℕ)). HearsIn HearsFinal o told) h.there hears in
    let text_heard = subst (λ (o : Option (List ℕ)). HearsText HearsFinal o told) h.decodes data_heard in
    text_signed h.text x nonce told h.signature text_heard

-- ---- where the message stands

pub hears_final : (message text bytes : List ℕ) (found : Option (List ℕ)) (read : Result Heard NoMemory) → found ≡ Some message → base64_bytes message ≡ Some text → bytes ≡ text
    → IfOk read (λ heard. HearsFinal bytes heard) → IfOk read (λ heard. HearsIn HearsFinal found heard)
hears_final message text bytes found (Err error) stands is same h = tt
hears_final message text bytes found (Ok heard) stands is same h =
    let here : HearsFinal text heard = subst (λ (t : List ℕ). HearsFinal t heard) same h in
    let inside : HearsText HearsFinal (base64_bytes message) heard = subst (λ (o : Option (List ℕ)). HearsText HearsFinal o heard) (sym is) here in
    subst (λ (o : Option (List ℕ)). HearsIn HearsFinal o heard) (sym stands) inside

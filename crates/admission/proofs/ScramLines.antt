-- What the one line of credentials of SCRAM-SHA-256 says.
use Rattle.std.proofs.Common.{◌≡◌, ℕ, ◌<◌, Bool, true, false, codes, List, Option, Some, None, Result, Ok, Err, refl, sym, ap, ◌∙◌, subst}
use Rattle.std.specs.Prelude.{bytes_eq, if◌then◌else◌, nat_eq}
use Rattle.std.specs.List.{starts_with}
use Rattle.std.specs.Option.{option_and_then}
use Rattle.std.proofs.lemmas.Slice.Eq.{bytes_eq-Decides}
use Rattle.auth_grammar.specs.Names.{lower, params_of, same_name, value_of}
use Rattle.auth_grammar.specs.declared.items.Item.{Item}
use Rattle.digest_fields.specs.Credentials.{Credentials, credentials_of}
use Rattle.digest_fields.specs.declared.field.FieldError.{FieldError}
use Rattle.nonce_shard.proofs.OneName.{names_one}
use Rattle.nonce_shard.specs.Names.{IsName, name_text}
use Rattle.nonce_shard.specs.declared.names.TableName.{TableName}
use Rattle.scram_text.specs.Bytes.{base64_bytes}
use Rattle.scram_text.specs.ClientFinals.{ClientFinalParts, SpellsClientFinal}
use Rattle.scram_text.specs.Items.{scram_scheme}
use Rattle.spaces_map.specs.declared.space.Space.{Space}
use Rattle.auth_decide.specs.Challenges.{offers_scram}
use Rattle.auth_decide.specs.Credentials.{LinesSay, Reads, credentials_lines, other_scheme, presented, presented_digest}
use Rattle.auth_decide.specs.Messages.{DataSays, FinalSays, IsFinal, MissesSid, Names, ParamsSay, SaysAgain, SaysMessage, final_parts, scram_params}
use Rattle.auth_decide.specs.Stages.{Question, attempt_stage, final_stage, first_stage, first_stage_in, message_stage, presented_stage, protection_space, scram_stage, challenge_stage}
use Rattle.auth_decide.specs.declared.credentials.CredentialsField.{CredentialsField}
use Rattle.auth_decide.specs.declared.credentials.CredentialsField.TheVariants as field
use Rattle.auth_decide.specs.declared.credentials.Presented.TheVariants as presents
use Rattle.auth_decide.specs.declared.scram_message.Again.{Again}
use Rattle.auth_decide.specs.declared.scram_message.FinalMessage.{FinalMessage}
use Rattle.auth_decide.specs.declared.scram_message.ScramMessage.{ScramMessage}
use Rattle.auth_decide.specs.declared.scram_message.ScramMessage.TheVariants as message
use Rattle.auth_decide.specs.declared.verdict.Why.TheVariants as why
use Rattle.admission.specs.Exchanges.{BringsFinal}
use Rattle.admission.proofs.Exact.{below}
use Rattle.admission.proofs.Lines.{lines_one, read_item}
use Rattle.admission.proofs.Proofs.{attempt}

-- the same of what was read
pub record IsFinalRead (q : Question) (space : Space) (sid : TableName) (m : FinalMessage) : Type 0 where
  pub item : Item
  pub field_is : q.credentials.field ≡ field.Item item
  pub scram : same_name item.scheme scram_scheme ≡ true
  pub again : Option Again
  pub said : q.credentials.scram ≡ message.Final (Some sid) m again
  pub reuse : SaysAgain m.nonce again
  pub in_space : protection_space q.role q.request q.site ≡ Some space
  pub offered : offers_scram space.offers ≡ true

abbrev message_of : ClientFinalParts → FinalMessage
message_of p = record { flag = p.flag; nonce = p.nonce; without = p.without; proof = p.proof }

named_is : (text : List ℕ) (sid : TableName) (named : Option TableName) → text ≡ name_text sid → IsName sid → Names text named → named ≡ Some sid
named_is text sid None is form names = absurd (names sid form is)
named_is text sid (Some n) is form names = ap Some (names_one n sid names.1 form (sym names.0 ∙ is))

-- the one message of a text beside this `sid`
final_said : (sid : TableName) (text : List ℕ) (m : FinalMessage) → IsName sid → SpellsClientFinal text (final_parts m) → (says : ScramMessage) → FinalSays (name_text sid) text says
    → (again : Option Again) × (says ≡ message.Final (Some sid) m again) × SaysAgain m.nonce again
final_said sid text m form spells message.Absent says = absurd says
final_said sid text m form spells message.WithoutSid says = absurd says
final_said sid text m form spells (message.First first) says = absurd says
final_said sid text m form spells message.Malformed says = absurd (says (final_parts m) spells)
final_said sid text m form spells (message.Final named other again) says =
    let same : m ≡ other = ap message_of (says.only (final_parts m) spells) in
    let name : named ≡ Some sid = named_is (name_text sid) sid named refl form says.names in (
      again,
      ap (λ (o : Option TableName). message.Final o other again) name ∙ ap (λ (x : FinalMessage). message.Final (Some sid) x again) (sym same),
      subst (λ (x : FinalMessage). SaysAgain x.nonce again) (sym same) says.reuse,
    )

pub to_final_read : (q : Question) (space : Space) (sid : TableName) (m : FinalMessage) → BringsFinal q space sid m → Reads (credentials_lines q.role q.request) q.credentials → IsFinalRead q space sid m
to_final_read q space sid m w reads =
    let params = params_of w.item.rest in
    let is = read_item w.line w.item q.credentials.field w.spelled w.single (subst (λ (lines : List (List ℕ)). LinesSay lines q.credentials.field) w.lines reads.field) in
    let by_field = subst (λ (f : CredentialsField). SaysMessage (scram_params f) q.credentials.scram) is reads.scram in
    let by_params : ParamsSay params q.credentials.scram = subst (λ (b : Bool). SaysMessage (if b then Some params else None) q.credentials.scram) w.scram by_field in
    let realm = value_of (codes "realm") params in
    let by_sid = subst (λ (o : Option (List ℕ)). DataSays o realm (option_and_then base64_bytes (value_of (codes "data") params)) q.credentials.scram) w.named by_params in
    let by_data : FinalSays (name_text sid) w.text q.credentials.scram = subst (λ (o : Option (List ℕ)). DataSays (Some (name_text sid)) realm o q.credentials.scram) w.encoded by_sid in
    let said = final_said sid w.text m w.form w.spells q.credentials.scram by_data in
    record {
      item = w.item;
      field_is = is;
      scram = w.scram;
      again = said.0;
      said = said.1;
      reuse = said.2;
      in_space = w.in_space;
      offered = w.offered;
    }

-- ---- the other way

record SaysFinal (sid_value data_value : Option (List ℕ)) (named : Option TableName) (m : FinalMessage) (again : Option Again) : Type 0 where
  sid : List ℕ
  text : List ℕ
  there : sid_value ≡ Some sid
  encoded : data_value ≡ Some text
  is : IsFinal sid text named m again

data_final : (s realm d : Option (List ℕ)) (named : Option TableName) (m : FinalMessage) (again : Option Again) → DataSays s realm d (message.Final named m again) → SaysFinal s d named m again
data_final s realm None named m again says = absurd (let no : message.Final named m again ≡ message.Malformed = says in cc)
data_final (Some sid) realm (Some text) named m again says = record { sid = sid; text = text; there = refl; encoded = refl; is = says }
data_final None realm (Some text) named m again says = absurd (by (starts_with nat_eq text (codes "c=")) says)
  where
    by : (misses : Bool) → MissesSid misses realm text (message.Final named m again) → ⊥
    by true is = (let no : message.Final named m again ≡ message.WithoutSid = is in cc)
    by false is = is

-- what presents SCRAM is an item of that scheme
pub record PresentsScram (f : CredentialsField) : Type 0 where
  pub item : Item
  pub spelled : f ≡ field.Item item
  pub scram : same_name item.scheme scram_scheme ≡ true

no_digest : (r : Result Credentials FieldError) → presented_digest r ≡ presents.Scram → ⊥
no_digest (Ok c) e = (let no : presents.Digest c ≡ presents.Scram = e in cc)
no_digest (Err error) e = (let no : presents.Malformed why.Field ≡ presents.Scram = e in cc)

pub presents_scram : (f : CredentialsField) → presented f ≡ presents.Scram → PresentsScram f
presents_scram field.Absent e = absurd (let no : presents.Nothing ≡ presents.Scram = e in cc)
presents_scram field.Malformed e = absurd (let no : presents.Malformed why.Credentials ≡ presents.Scram = e in cc)
presents_scram (field.Item item) e = digest (same_name item.scheme (codes "Digest")) e
  where
    scheme : (b : Bool) → same_name item.scheme scram_scheme ≡ b → (if b then presents.Scram else presents.OtherScheme) ≡ presents.Scram → PresentsScram (field.Item item)
    scheme true is e' = record { item = item; spelled = refl; scram = is }
    scheme false is e' = absurd (let no : presents.OtherScheme ≡ presents.Scram = e' in cc)

    digest : (b : Bool) → (if b then presented_digest (credentials_of (params_of item.rest)) else other_scheme item) ≡ presents.Scram → PresentsScram (field.Item item)
    digest true e' = absurd (no_digest (credentials_of (params_of item.rest)) e')
    digest false e' = scheme (same_name item.scheme scram_scheme) refl e'

pub from_final_read : (q : Question) (space : Space) (sid : TableName) (m : FinalMessage) (again : Option Again) → Reads (credentials_lines q.role q.request) q.credentials → presented q.credentials.field ≡ presents.Scram
    → q.credentials.scram ≡ message.Final (Some sid) m again → protection_space q.role q.request q.site ≡ Some space → offers_scram space.offers ≡ true → BringsFinal q space sid m × SaysAgain m.nonce again
from_final_read q space sid m again reads presents_it said place offered =
    let p = presents_scram q.credentials.field presents_it in
    let params = params_of p.item.rest in
    let says = subst (λ (x : CredentialsField). LinesSay (credentials_lines q.role q.request) x) p.spelled reads.field in
    let one = lines_one (credentials_lines q.role q.request) p.item says in
    let by_field = subst (λ (f : CredentialsField). SaysMessage (scram_params f) q.credentials.scram) p.spelled reads.scram in
    let by_params : ParamsSay params q.credentials.scram = subst (λ (b : Bool). SaysMessage (if b then Some params else None) q.credentials.scram) p.scram by_field in
    let final : ParamsSay params (message.Final (Some sid) m again) = subst (λ (x : ScramMessage). ParamsSay params x) said by_params in
    let f = data_final (value_of (codes "sid") params) (value_of (codes "realm") params) (option_and_then base64_bytes (value_of (codes "data") params)) (Some sid) m again final in (
      record {
        line = one.0;
        item = p.item;
        lines = one.1;
        spelled = one.2.spelled;
        single = one.2.single;
        scram = p.scram;
        named = f.there ∙ ap Some f.is.names.0;
        form = f.is.names.1;
        text = f.text;
        encoded = f.encoded;
        spells = f.is.spells;
        in_space = place;
        offered = offered;
      },
      f.is.reuse,
    )

-- ---- the first stage

-- the scheme of SCRAM isn't that of Digest
not_digest : (scheme : List ℕ) → same_name scheme scram_scheme ≡ true → same_name scheme (codes "Digest") ≡ false
not_digest scheme is = ap (λ (l : List ℕ). bytes_eq l (lower (codes "Digest"))) ((bytes_eq-Decides (lower scheme) (lower scram_scheme)).0 is)

pub final_first : (q : Question) (space : Space) (sid : TableName) (m : FinalMessage) → (w : IsFinalRead q space sid m) → sid.shard < q.shards → first_stage q ≡ attempt_stage q.shards (attempt space sid m) w.again
unfolding first_stage
final_first q space sid m w inside =
    let store = q.site.store in
    let presents_it : presented q.credentials.field ≡ presents.Scram =
    ap presented w.field_is
    ∙ ap (λ (b : Bool). if b then presented_digest (credentials_of (params_of w.item.rest)) else other_scheme w.item) (not_digest w.item.scheme w.scram)
    ∙ ap (λ (b : Bool). if b then presents.Scram else presents.OtherScheme) w.scram in
    ap (first_stage_in q) w.in_space
    ∙ ap (presented_stage q.request q.shards q.credentials space store) presents_it
    ∙ ap (scram_stage q.shards space store) w.said
    ∙ ap (λ (b : Bool). if b then message_stage q.shards space.realm store (message.Final (Some sid) m w.again) else challenge_stage false) w.offered
    ∙ ap (λ (o : Option TableName). final_stage q.shards space.realm o m w.again) (below q.shards sid inside)

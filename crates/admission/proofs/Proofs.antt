-- Who has proved itself in an exchange.
use Rattle.std.proofs.Common.{◌≡◌, ◌↔◌, ℕ, Bool, true, false, List, ◌∷◌, ◌++◌, Option, Some, None, refl, sym, ap, ◌∙◌, subst}
use Rattle.std.specs.Prelude.{if◌then◌else◌}
use Rattle.std.specs.Option.{option_and_then, option_map}
use Rattle.std.proofs.lemmas.Slice.Eq.{bytes_eq-Decides}
use Rattle.auth_hash.specs.Salting.{xor_bytes}
use Rattle.cred_store.specs.LookUps.{scram_of}
use Rattle.nonce_shard.specs.Names.{name_text}
use Rattle.nonce_shard.specs.declared.calls.Exchange.{Exchange}
use Rattle.nonce_shard.specs.declared.names.TableName.{TableName}
use Rattle.scram_proof.specs.Exchange.{client_signature}
use Rattle.scram_proof.specs.declared.keys.ScramKeys.{ScramKeys}
use Rattle.scram_text.proofs.BareLaws.{bare_read, bare_told}
use Rattle.scram_text.specs.Bares.{first_behind}
use Rattle.scram_text.specs.ClientFirsts.{FirstParts, IsShort, SpellsClientFirst}
use Rattle.sha2.specs.Sha256.{sha256}
use Rattle.spaces_map.specs.declared.space.Space.{Space}
use Rattle.auth_decide.specs.Exchanges.{exchange_message, first_parts, has_nonce, is_proof, parts_of, recalled_user, same_flag, taken_user, user_by, user_keyed, user_of, user_taken, user_with}
use Rattle.auth_decide.specs.Stages.{Question}
use Rattle.auth_decide.specs.declared.scram_exchange.Attempt.{Attempt}
use Rattle.auth_decide.specs.declared.scram_exchange.ExchangeParts.{ExchangeParts}
use Rattle.auth_decide.specs.declared.scram_exchange.ScramUser.{ScramUser}
use Rattle.auth_decide.specs.declared.scram_message.FinalMessage.{FinalMessage}
use Rattle.admission.specs.Exchanges.{Proves, ProvesFirst}

abbrev pub attempt : Space → TableName → FinalMessage → Attempt
attempt space sid message = record { realm = space.realm; sid = sid; message = message }

-- someone is this user
abbrev pub IsUser : Option ScramUser → List ℕ → Type 0
IsUser found user = (u : ScramUser) × (found ≡ Some u) × (u.name ≡ user)

none_user : {user : List ℕ} → IsUser None user → ⊥
none_user found = (let no : ◌≡◌ {A = Option ScramUser} None (Some found.0) = found.1 in cc)

if_user : (b : Bool) (o : Option ScramUser) (user : List ℕ) → IsUser (if b then o else None) user → (b ≡ true) × IsUser o user
if_user true o user found = (refl, found)
if_user false o user found = absurd (none_user found)

put_user : (b : Bool) (o : Option ScramUser) (user : List ℕ) → b ≡ true → IsUser o user → IsUser (if b then o else None) user
put_user b o user is found = subst (λ (t : Bool). IsUser (if t then o else None) user) (sym is) found

-- ---- by the parts of an exchange

record Keyed (q : Question) (a : Attempt) (e : Exchange) (parts : ExchangeParts) (user : List ℕ) : Type 0 where
  keys : ScramKeys
  keyed : scram_of parts.name a.realm q.site.store ≡ Some keys
  flag : same_flag a.message.flag e.flag ≡ true
  proof : is_proof keys (exchange_message keys a e parts) a.message.proof ≡ true
  name : parts.name ≡ user

with_keys : (keys : ScramKeys) (a : Attempt) (e : Exchange) (parts : ExchangeParts) (user : List ℕ) → IsUser (user_with keys a e parts) user → (is_proof keys (exchange_message keys a e parts) a.message.proof ≡ true) × (parts.name ≡ user)
with_keys keys a e parts user found =
    let two = if_user (is_proof keys (exchange_message keys a e parts) a.message.proof) (Some (user_of keys a e parts)) user found in
    let one : Some (user_of keys a e parts) ≡ Some two.1.0 = two.1.1 in
    let same : user_of keys a e parts ≡ two.1.0 = cc in
    (two.0, ap (λ (u : ScramUser). u.name) same ∙ two.1.2)

keyed_of : (q : Question) (a : Attempt) (e : Exchange) (parts : ExchangeParts) (user : List ℕ) → IsUser (user_by q.site.store a e parts) user → Keyed q a e parts user
keyed_of q a e parts user found = by (scram_of parts.name a.realm q.site.store) refl found
  where
    by : (o : Option ScramKeys) → scram_of parts.name a.realm q.site.store ≡ o → IsUser (option_and_then (user_keyed a e parts) o) user → Keyed q a e parts user
    by None is f = absurd (none_user f)
    by (Some keys) is f =
        let two = if_user (same_flag a.message.flag e.flag) (user_with keys a e parts) user f in
        let last = with_keys keys a e parts user two.1 in
        record { keys = keys; keyed = is; flag = two.0; proof = last.0; name = last.1 }

of_keyed : (q : Question) (a : Attempt) (e : Exchange) (parts : ExchangeParts) (user : List ℕ) → Keyed q a e parts user → IsUser (user_by q.site.store a e parts) user
of_keyed q a e parts user k =
    let with : IsUser (user_with k.keys a e parts) user = put_user (is_proof k.keys (exchange_message k.keys a e parts) a.message.proof) (Some (user_of k.keys a e parts)) user k.proof (user_of k.keys a e parts, refl, k.name) in
    let keyed : IsUser (user_keyed a e parts k.keys) user = put_user (same_flag a.message.flag e.flag) (user_with k.keys a e parts) user k.flag with in
    subst (λ (o : Option ScramKeys). IsUser (option_and_then (user_keyed a e parts) o) user) (sym k.keyed) keyed

-- ---- by the exchange

proof_matches : (keys : ScramKeys) (message proof : List ℕ) → is_proof keys message proof ≡ true → sha256 (xor_bytes proof (client_signature keys.stored message)) ≡ keys.stored
proof_matches keys message proof e = (bytes_eq-Decides (sha256 (xor_bytes proof (client_signature keys.stored message))) keys.stored).0 e

matches_proof : (keys : ScramKeys) (message proof : List ℕ) → sha256 (xor_bytes proof (client_signature keys.stored message)) ≡ keys.stored → is_proof keys message proof ≡ true
matches_proof keys message proof e = (bytes_eq-Decides (sha256 (xor_bytes proof (client_signature keys.stored message))) keys.stored).1 e

abbrev proves_of : (q : Question) (space : Space) (sid : TableName) (message : FinalMessage) (e : Exchange) (user : List ℕ) (parts : FirstParts) → SpellsClientFirst (110 ∷ 44 ∷ 44 ∷ e.bare.items) parts → IsShort parts
    → Keyed q (attempt space sid message) e (parts_of parts) user → Proves q space sid message e user
proves_of q space sid message e user parts spells short k = record {
  parts = parts;
  begun = spells;
  short = short;
  its_name = k.name;
  keys = k.keys;
  keyed = k.keyed;
  flag = k.flag;
  matches = proof_matches k.keys (exchange_message k.keys (attempt space sid message) e (parts_of parts)) message.proof k.proof;
}

of_proves : (q : Question) (space : Space) (sid : TableName) (message : FinalMessage) (e : Exchange) (user : List ℕ) → (p : Proves q space sid message e user) → Keyed q (attempt space sid message) e (parts_of p.parts) user
of_proves q space sid message e user p = record {
  keys = p.keys;
  keyed = p.keyed;
  flag = p.flag;
  proof = matches_proof p.keys (exchange_message p.keys (attempt space sid message) e (parts_of p.parts)) message.proof p.matches;
  name = p.its_name;
}

-- what an exchange began with
record Begun (bare : List ℕ) (parts : ExchangeParts) : Type 0 where
  first : FirstParts
  spells : SpellsClientFirst (110 ∷ 44 ∷ 44 ∷ bare) first
  short : IsShort first
  is : parts_of first ≡ parts

begun_of : (bare : List ℕ) (parts : ExchangeParts) → first_parts bare ≡ Some parts → Begun bare parts
unfolding first_parts
begun_of bare parts = by (first_behind bare) refl
  where
    by : (o : Option FirstParts) → first_behind bare ≡ o → option_map parts_of o ≡ Some parts → Begun bare parts
    by None is e = absurd (let no : ◌≡◌ {A = Option ExchangeParts} None (Some parts) = e in cc)
    by (Some first) is e =
        let told = bare_told bare first is in
        let one : Some (parts_of first) ≡ Some parts = e in
        let same : parts_of first ≡ parts = cc in
        record { first = first; spells = told.0; short = told.1; is = same }

first_read : (bare : List ℕ) (parts : FirstParts) → SpellsClientFirst (110 ∷ 44 ∷ 44 ∷ bare) parts → IsShort parts → first_parts bare ≡ Some (parts_of parts)
unfolding first_parts
first_read bare parts spells short = ap (option_map parts_of) (bare_read bare parts spells short)

pub recalled_is : (q : Question) (space : Space) (sid : TableName) (message : FinalMessage) (e : Exchange) (user : List ℕ)
    → IsUser (recalled_user q.site.store (attempt space sid message) e) user ↔ Proves q space sid message e user
recalled_is q space sid message e user = (to, from)
  where
    by : (o : Option ExchangeParts) → first_parts e.bare.items ≡ o → IsUser (option_and_then (user_by q.site.store (attempt space sid message) e) o) user → Proves q space sid message e user
    by None is f = absurd (none_user f)
    by (Some parts) is f =
        let b = begun_of e.bare.items parts is in
        proves_of q space sid message e user b.first b.spells b.short
        (subst (λ (p : ExchangeParts). Keyed q (attempt space sid message) e p user) (sym b.is) (keyed_of q (attempt space sid message) e parts user f))

    to : IsUser (recalled_user q.site.store (attempt space sid message) e) user → Proves q space sid message e user
    to f = by (first_parts e.bare.items) refl f

    from : Proves q space sid message e user → IsUser (recalled_user q.site.store (attempt space sid message) e) user
    from p =
        subst (λ (o : Option ExchangeParts). IsUser (option_and_then (user_by q.site.store (attempt space sid message) e) o) user) (sym (first_read e.bare.items p.parts p.begun p.short))
        (of_keyed q (attempt space sid message) e (parts_of p.parts) user (of_proves q space sid message e user p))

pub taken_is : (q : Question) (space : Space) (sid : TableName) (message : FinalMessage) (e : Exchange) (user : List ℕ)
    → IsUser (taken_user q.site.store (attempt space sid message) e) user ↔ ProvesFirst q space sid message e user
taken_is q space sid message e user = (to, from)
  where
    is_nonce : (parts : ExchangeParts) → has_nonce (attempt space sid message) parts ≡ true → message.nonce ≡ parts.nonce ++ name_text sid
    is_nonce parts is = (bytes_eq-Decides message.nonce (parts.nonce ++ name_text sid)).0 is

    by : (o : Option ExchangeParts) → first_parts e.bare.items ≡ o → IsUser (option_and_then (user_taken q.site.store (attempt space sid message) e) o) user → ProvesFirst q space sid message e user
    by None is f = absurd (none_user f)
    by (Some parts) is f =
        let b = begun_of e.bare.items parts is in
        let two = if_user (has_nonce (attempt space sid message) parts) (user_by q.site.store (attempt space sid message) e parts) user f in
        record {
          proves = proves_of q space sid message e user b.first b.spells b.short
              (subst (λ (p : ExchangeParts). Keyed q (attempt space sid message) e p user) (sym b.is) (keyed_of q (attempt space sid message) e parts user two.1));
          nonce = is_nonce parts two.0 ∙ ap (λ (p : ExchangeParts). p.nonce ++ name_text sid) (sym b.is);
        }

    to : IsUser (taken_user q.site.store (attempt space sid message) e) user → ProvesFirst q space sid message e user
    to f = by (first_parts e.bare.items) refl f

    from : ProvesFirst q space sid message e user → IsUser (taken_user q.site.store (attempt space sid message) e) user
    from p =
        let a = attempt space sid message in
        let parts = parts_of p.proves.parts in
        subst (λ (o : Option ExchangeParts). IsUser (option_and_then (user_taken q.site.store a e) o) user) (sym (first_read e.bare.items p.proves.parts p.proves.begun p.proves.short))
        (put_user (has_nonce a parts) (user_by q.site.store a e parts) user ((bytes_eq-Decides message.nonce (parts.nonce ++ name_text sid)).1 p.nonce)
        (of_keyed q a e parts user (of_proves q space sid message e user p.proves)))

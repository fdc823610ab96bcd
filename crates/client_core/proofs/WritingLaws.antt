-- What is given can be written.
use Rattle.std.proofs.Common.{◌≡◌, ◌∙◌, ◌&&◌, ◌<◌, ℕ, Bool, true, false, not, nat_lt, IsTrue, List, [], ◌∷◌, ◌++◌, Option, Some, None, length, codes, refl, sym, ap, subst, true≢false}
use Rattle.std.specs.List.{list_all}
use Rattle.std.proofs.lemmas.List.Folds.{list_all-append}
use Rattle.auth_grammar.specs.Kinds.{is_mark_byte, is_plain_byte, kind_of}
use Rattle.auth_grammar.specs.Names.{has_repeat}
use Rattle.auth_grammar.specs.Params.{param}
use Rattle.auth_grammar.specs.Valid.{are_valid_params, is_quotable_text, is_token_text, is_valid, is_valid_param}
use Rattle.auth_grammar.specs.declared.items.Item.{Item}
use Rattle.auth_grammar.specs.declared.items.Param.{Param}
use Rattle.client_core.specs.declared.state.Exchange.{Exchange}
use Rattle.auth_hash.specs.Qop.{qop_name}
use Rattle.auth_hash.specs.declared.algorithm.Algorithm.TheVariants.{Md5, Sha256, Sha512t256}
use Rattle.auth_hash.specs.declared.algorithm.Algorithm.{Algorithm}
use Rattle.auth_hash.specs.declared.algorithm.Qop.TheVariants.{Auth, AuthInt}
use Rattle.auth_hash.specs.declared.algorithm.Qop.{Qop}
use Rattle.digest_fields.specs.Credentials.{Credentials, credentials_item, credentials_params, is_hashed, sent_name}
use Rattle.digest_fields.specs.Field.{field_text}
use Rattle.digest_fields.specs.Kind.{kind_name}
use Rattle.digest_fields.specs.Write.{written, written_some, written_true}
use Rattle.digest_fields.specs.declared.field.FieldName.TheVariants as field
use Rattle.digest_fields.specs.declared.field.FieldName.{FieldName}
use Rattle.std.specs.Prelude.{IfNone, option_map}
use Rattle.client_core.specs.Givings.{again_given, by_choice, given, given_at, or_choice, unanswered}
use Rattle.client_core.specs.declared.request.OutRequest.{OutRequest}
use Rattle.client_core.specs.declared.request.Sent.{Sent}
use Rattle.client_core.specs.declared.state.Progress.{Progress}
use Rattle.scram_text.specs.Items.{data_param, scram_item}
use Rattle.client_core.specs.Scrams.{realm_params}
use Rattle.auth_hash.specs.HexText.{IsHexText}
use Rattle.digest_fields.specs.Challenge.{Challenge}
use Rattle.digest_fields.specs.Name.{IsName}
use Rattle.digest_fields.specs.Nc.{nc_text}
use Rattle.client_core.specs.declared.digest.Draw.{Draw}
use Rattle.client_core.specs.Scrams.{base64_text, final_item, final_text, first_item}
use Rattle.client_core.specs.declared.state.Chosen.TheVariants as chosen
use Rattle.client_core.specs.declared.state.DigestChoice.{DigestChoice}
use Rattle.client_core.specs.declared.state.Progress.TheVariants as progress
use Rattle.client_core.specs.declared.state.ScramChoice.{ScramChoice}
use Rattle.client_core.specs.declared.state.State.{State}
use Rattle.client_core.specs.Writings.{AreQuotable, is_quotable, is_quotable_challenge, is_quotable_choice, is_quotable_digest, is_quotable_draw, is_quotable_progress, is_quotable_state}
use Rattle.client_core.proofs.FirstMessages.{both, both_true}
use Rattle.client_core.proofs.QuotableTexts.{count_quotable, hex_quotable, name_quotable}

-- ---- credentials of Digest

token_name : (name : FieldName) → is_token_text (field_text name) ≡ true
unfolding kind_of is_plain_byte is_mark_byte
token_name field.Username = refl
token_name field.UsernameStar = refl
token_name field.Realm = refl
token_name field.Domain = refl
token_name field.Nonce = refl
token_name field.Uri = refl
token_name field.Response = refl
token_name field.Algorithm = refl
token_name field.Cnonce = refl
token_name field.Opaque = refl
token_name field.Qop = refl
token_name field.Nc = refl
token_name field.Userhash = refl
token_name field.Stale = refl
token_name field.Nextnonce = refl
token_name field.Rspauth = refl

true_text : is_quotable_text (codes "true") ≡ true
unfolding kind_of is_plain_byte is_mark_byte
true_text = refl

joined : (a b : List Param) → list_all is_valid_param a ≡ true → list_all is_valid_param b ≡ true → list_all is_valid_param (a ++ b) ≡ true
joined a b p q = list_all-append is_valid_param a b ∙ both_true (list_all is_valid_param a) (list_all is_valid_param b) p q

named_kind : (alg : Algorithm) (session : Bool) → is_quotable_text (kind_name (record { alg = alg; session = session })) ≡ true
unfolding kind_name kind_of is_plain_byte is_mark_byte
named_kind Md5 true = refl
named_kind Md5 false = refl
named_kind Sha256 true = refl
named_kind Sha256 false = refl
named_kind Sha512t256 true = refl
named_kind Sha512t256 false = refl

named_qop : (qop : Qop) → is_quotable_text (qop_name qop) ≡ true
unfolding kind_of is_plain_byte is_mark_byte
named_qop Auth = refl
named_qop AuthInt = refl

-- the five first parameters, and the others
first_five : (c : Credentials) → AreQuotable c
    → list_all is_valid_param (written field.Username (sent_name c.user) ++ written field.Realm c.realm ++ written field.Nonce c.nonce ++ written field.Uri c.uri ++ written field.Response c.response) ≡ true
first_five c h = rw (token_name field.Username, h.user, token_name field.Realm, h.realm, token_name field.Nonce, h.nonce, token_name field.Uri, h.uri, token_name field.Response, h.response) refl

last_six : (c : Credentials) → AreQuotable c
    → list_all is_valid_param (written field.Algorithm (kind_name c.kind) ++ written field.Cnonce c.cnonce ++ written_some field.Opaque c.opaque ++ written field.Qop (qop_name c.qop)
    ++ written field.Nc c.nc ++ written_true field.Userhash (is_hashed c.user)) ≡ true
last_six c h = by c.opaque (is_hashed c.user) h.opaque
  where
    by : (opaque : Option (List ℕ)) (hashed : Bool) → is_quotable opaque ≡ true
        → list_all is_valid_param (written field.Algorithm (kind_name c.kind) ++ written field.Cnonce c.cnonce ++ written_some field.Opaque opaque ++ written field.Qop (qop_name c.qop)
        ++ written field.Nc c.nc ++ written_true field.Userhash hashed) ≡ true
    by None true e = rw (token_name field.Algorithm, named_kind c.kind.alg c.kind.session, token_name field.Cnonce, h.cnonce, token_name field.Qop, named_qop c.qop, token_name field.Nc, h.nc, token_name field.Userhash, true_text) refl
    by None false e = rw (token_name field.Algorithm, named_kind c.kind.alg c.kind.session, token_name field.Cnonce, h.cnonce, token_name field.Qop, named_qop c.qop, token_name field.Nc, h.nc) refl
    by (Some opaque) true e = rw (token_name field.Algorithm, named_kind c.kind.alg c.kind.session, token_name field.Cnonce, h.cnonce, token_name field.Opaque, e, token_name field.Qop, named_qop c.qop, token_name field.Nc, h.nc, token_name field.Userhash, true_text) refl
    by (Some opaque) false e = rw (token_name field.Algorithm, named_kind c.kind.alg c.kind.session, token_name field.Cnonce, h.cnonce, token_name field.Opaque, e, token_name field.Qop, named_qop c.qop, token_name field.Nc, h.nc) refl

all_valid : (c : Credentials) → AreQuotable c → list_all is_valid_param (credentials_params c) ≡ true
unfolding credentials_params
all_valid c h =
    joined
    (written field.Username (sent_name c.user) ++ written field.Realm c.realm ++ written field.Nonce c.nonce ++ written field.Uri c.uri ++ written field.Response c.response)
    (written field.Algorithm (kind_name c.kind) ++ written field.Cnonce c.cnonce ++ written_some field.Opaque c.opaque ++ written field.Qop (qop_name c.qop) ++ written field.Nc c.nc
    ++ written_true field.Userhash (is_hashed c.user))
    (first_five c h) (last_six c h)

-- the names in which credentials are written
abbrev row : List ℕ → List ℕ → List ℕ → List ℕ → List ℕ → List ℕ → List ℕ → Option (List ℕ) → List ℕ → List ℕ → Bool → List Param
row user realm nonce uri response kind cnonce opaque qop nc hashed =
    written field.Username user ++ written field.Realm realm ++ written field.Nonce nonce ++ written field.Uri uri ++ written field.Response response
    ++ written field.Algorithm kind ++ written field.Cnonce cnonce ++ written_some field.Opaque opaque ++ written field.Qop qop ++ written field.Nc nc
    ++ written_true field.Userhash hashed

no_name_twice : (user realm nonce uri response kind cnonce : List ℕ) (opaque : Option (List ℕ)) (qop nc : List ℕ) (hashed : Bool)
    → has_repeat (row user realm nonce uri response kind cnonce opaque qop nc hashed) ≡ false
no_name_twice user realm nonce uri response kind cnonce None qop nc true = refl
no_name_twice user realm nonce uri response kind cnonce None qop nc false = refl
no_name_twice user realm nonce uri response kind cnonce (Some opaque) qop nc true = refl
no_name_twice user realm nonce uri response kind cnonce (Some opaque) qop nc false = refl

no_repeat : (c : Credentials) → has_repeat (credentials_params c) ≡ false
unfolding credentials_params
no_repeat c =
    no_name_twice (sent_name c.user) c.realm c.nonce c.uri c.response (kind_name c.kind) c.cnonce c.opaque (qop_name c.qop) c.nc (is_hashed c.user)

some_params : (c : Credentials) → nat_lt 0 (length (credentials_params c)) ≡ true
unfolding credentials_params
some_params c = longer c.opaque (is_hashed c.user)
  where
    longer : (opaque : Option (List ℕ)) (hashed : Bool)
        → nat_lt 0 (length (row (sent_name c.user) c.realm c.nonce c.uri c.response (kind_name c.kind) c.cnonce opaque (qop_name c.qop) c.nc hashed)) ≡ true
    longer None true = refl
    longer None false = refl
    longer (Some opaque) true = refl
    longer (Some opaque) false = refl

scheme_token : is_token_text (codes "Digest") ≡ true
unfolding kind_of is_plain_byte is_mark_byte
scheme_token = refl

pub credentials_valid : (c : Credentials) → AreQuotable c → is_valid (credentials_item c) ≡ true
credentials_valid c h = rw (scheme_token, some_params c, all_valid c h, no_repeat c) refl

quotable_at : {a b : List ℕ} → a ≡ b → is_quotable_text b ≡ true → is_quotable_text a ≡ true
quotable_at same e = ap is_quotable_text same ∙ e

pub credentials_quotable : (c : Credentials) (challenge : Challenge) (draw : Draw) (target : List ℕ) {response digits : List ℕ} → IsName (sent_name c.user) → c.realm ≡ challenge.realm
    → c.nonce ≡ draw.nonce → c.uri ≡ target → c.response ≡ response → response ≡ digits → IsHexText digits → c.cnonce ≡ draw.cnonce → c.opaque ≡ challenge.opaque → c.nc ≡ nc_text draw.count
    → (is_quotable_challenge challenge && is_quotable_draw draw) ≡ true → is_quotable_text target ≡ true → AreQuotable c
credentials_quotable c challenge draw target name realm nonce uri response digits hex cnonce opaque nc all target_is =
    let two = both (is_quotable_challenge challenge) (is_quotable_draw draw) all in
    let offer = both (is_quotable_text challenge.realm) (is_quotable challenge.opaque) two.0 in
    let drawn = both (is_quotable_text draw.nonce) (is_quotable_text draw.cnonce) two.1 in
    record {
      user = name_quotable (sent_name c.user) name;
      realm = quotable_at realm offer.0;
      nonce = quotable_at nonce drawn.0;
      uri = quotable_at uri target_is;
      response = quotable_at (response ∙ digits) (hex_quotable _ hex);
      cnonce = quotable_at cnonce drawn.1;
      opaque = ap is_quotable opaque ∙ offer.1;
      nc = quotable_at nc (count_quotable draw.count);
    }

-- ---- credentials of SCRAM-SHA-256

scram_token : is_token_text (codes "SCRAM-SHA-256") ≡ true
unfolding kind_of is_plain_byte is_mark_byte
scram_token = refl

sid_token : is_token_text (codes "sid") ≡ true
unfolding kind_of is_plain_byte is_mark_byte
sid_token = refl

data_token : is_token_text (codes "data") ≡ true
unfolding kind_of is_plain_byte is_mark_byte
data_token = refl

realm_token : is_token_text (codes "realm") ≡ true
unfolding kind_of is_plain_byte is_mark_byte
realm_token = refl

-- an exchange's name and a message
pub message_valid : (sid message : List ℕ) → is_quotable_text sid ≡ true → is_quotable_text message ≡ true
    → is_valid (scram_item (param (codes "sid") sid ∷ param (codes "data") message ∷ [])) ≡ true
message_valid sid message p q = rw (scram_token, sid_token, data_token, p, q) refl

-- a realm, where there is one, and a message
pub first_valid : (realm : Option (List ℕ)) (message : List ℕ) → is_quotable realm ≡ true → is_quotable_text message ≡ true
    → is_valid (scram_item (realm_params realm ++ param (codes "data") message ∷ [])) ≡ true
first_valid None message p q = rw (scram_token, data_token, q) refl
first_valid (Some realm) message p q = rw (scram_token, realm_token, data_token, p, q) refl

pub final_valid : (x : Exchange) (nonce : List ℕ) (item : Item) → item ≡ final_item x nonce → is_quotable_text (base64_text (final_text x nonce)) ≡ true → is_quotable_text x.sid ≡ true → is_valid item ≡ true
final_valid x nonce item is m sid = ap is_valid is ∙ message_valid x.sid (base64_text (final_text x nonce)) sid m

pub first_item_valid : (realm : Option (List ℕ)) (bare : List ℕ) (item : Item) → item ≡ first_item realm bare → is_quotable_text (base64_text (codes "n,," ++ bare)) ≡ true → is_quotable realm ≡ true
    → is_valid item ≡ true
first_item_valid realm bare item is m e = ap is_valid is ∙ first_valid realm (base64_text (codes "n,," ++ bare)) e m

-- ---- what a client keeps

pub answered_sid : (s : State) (x : Exchange) → s.progress ≡ progress.Answered x → is_quotable_state s ≡ true → is_quotable_text x.sid ≡ true
answered_sid s x is e = sym (ap is_quotable_progress is) ∙ (both (is_quotable_choice s.choice) (is_quotable_progress s.progress) e).1

pub finished_sid : (s : State) (x : Exchange) (nonce : List ℕ) → s.progress ≡ progress.Finished x nonce → is_quotable_state s ≡ true → is_quotable_text x.sid ≡ true
finished_sid s x nonce is e = sym (ap is_quotable_progress is) ∙ (both (is_quotable_choice s.choice) (is_quotable_progress s.progress) e).1

pub scram_realm : (s : State) (c : ScramChoice) → s.choice ≡ chosen.Scram c → is_quotable_state s ≡ true → is_quotable c.realm ≡ true
scram_realm s c is e = sym (ap is_quotable_choice is) ∙ (both (is_quotable_choice s.choice) (is_quotable_progress s.progress) e).0

digest_kept : (s : State) (c : DigestChoice) → s.choice ≡ chosen.Digest c → is_quotable_state s ≡ true → is_quotable_digest c ≡ true
digest_kept s c is e = sym (ap is_quotable_choice is) ∙ (both (is_quotable_choice s.choice) (is_quotable_progress s.progress) e).0

pub draw_kept : (s : State) (c : DigestChoice) (nonce : List ℕ) (draw : Draw) → s.choice ≡ chosen.Digest c → c.nonce ≡ Some nonce → is_quotable_state s ≡ true
    → ((is_quotable_text nonce && is_quotable c.prime) ≡ true → is_quotable_draw draw ≡ true) → is_quotable_draw draw ≡ true
draw_kept s c nonce draw is has e quotable =
    let two = both (is_quotable_challenge c.challenge) (is_quotable c.nonce && is_quotable c.prime) (digest_kept s c is e) in
    let parts = both (is_quotable c.nonce) (is_quotable c.prime) two.1 in
    quotable (both_true (is_quotable_text nonce) (is_quotable c.prime) (sym (ap is_quotable has) ∙ parts.0) parts.1)

pub both_kept : (s : State) (c : DigestChoice) (nonce : List ℕ) (draw : Draw) → s.choice ≡ chosen.Digest c → c.nonce ≡ Some nonce → is_quotable_state s ≡ true
    → ((is_quotable_text nonce && is_quotable c.prime) ≡ true → is_quotable_draw draw ≡ true) → (is_quotable_challenge c.challenge && is_quotable_draw draw) ≡ true
both_kept s c nonce draw is has e quotable =
    both_true (is_quotable_challenge c.challenge) (is_quotable_draw draw)
    (both (is_quotable_challenge c.challenge) (is_quotable c.nonce && is_quotable c.prime) (digest_kept s c is e)).0 (draw_kept s c nonce draw is has e quotable)

-- with the cnonce that was drawn, or without
pub prime_kept : (s t : State) (c : DigestChoice) (nonce : List ℕ) (draw : Draw) → s.choice ≡ chosen.Digest c → c.nonce ≡ Some nonce → is_quotable_state s ≡ true
    → ((is_quotable_text nonce && is_quotable c.prime) ≡ true → is_quotable_draw draw ≡ true)
    → t.choice ≡ chosen.Digest (record c { prime = Some draw.cnonce }) → t.progress ≡ s.progress → is_quotable_state t ≡ true
prime_kept s t c nonce draw is has e quotable choice progress =
    let two = both (is_quotable_challenge c.challenge) (is_quotable c.nonce && is_quotable c.prime) (digest_kept s c is e) in
    let drawn = both (is_quotable_text draw.nonce) (is_quotable_text draw.cnonce) (draw_kept s c nonce draw is has e quotable) in
    both_true (is_quotable_choice t.choice) (is_quotable_progress t.progress)
    (ap is_quotable_choice choice ∙ both_true (is_quotable_challenge c.challenge) (is_quotable c.nonce && is_quotable_text draw.cnonce) two.0
    (both_true (is_quotable c.nonce) (is_quotable_text draw.cnonce) (both (is_quotable c.nonce) (is_quotable c.prime) two.1).0 drawn.1))
    (ap is_quotable_progress progress ∙ (both (is_quotable_choice s.choice) (is_quotable_progress s.progress) e).1)

pub choice_kept : (s t : State) (c : DigestChoice) → s.choice ≡ chosen.Digest c → is_quotable_state s ≡ true → t.choice ≡ chosen.Digest c → t.progress ≡ s.progress → is_quotable_state t ≡ true
choice_kept s t c is e choice progress =
    both_true (is_quotable_choice t.choice) (is_quotable_progress t.progress) (ap is_quotable_choice choice ∙ digest_kept s c is e)
    (ap is_quotable_progress progress ∙ (both (is_quotable_choice s.choice) (is_quotable_progress s.progress) e).1)

-- ---- what is chosen

no_exchange : (s : State) (request : OutRequest) (moment : ℕ) (words : List ℕ) (p : Progress) → ((x : Exchange) → p ≡ progress.Answered x → ⊥) → given_at s request moment words p ≡ unanswered s request moment words
no_exchange s request moment words progress.Nothing none = refl
no_exchange s request moment words (progress.Begun first) none = refl
no_exchange s request moment words (progress.Answered x) none = absurd (none x refl)
no_exchange s request moment words (progress.Finished x last) none = refl

-- where neither an exchange waits nor one is used again, what was chosen counts
pub given_chosen : (s t : State) (request : OutRequest) (moment : ℕ) (words : List ℕ) (found : Option Sent) (p : Sent × State) → ((x : Exchange) → s.progress ≡ progress.Answered x → ⊥)
    → again_given s moment words s.progress s.reuse ≡ option_map (λ what. (what, t)) found → ((what : Sent) → found ≡ Some what → ⊥) → IfNone found (t ≡ s)
    → by_choice t request words t.choice ≡ p → given s request moment words ≡ p
given_chosen s t request moment words (Some what) p none again never same is = absurd (never what refl)
given_chosen s t request moment words None p none again never same is =
    no_exchange s request moment words s.progress none
    ∙ ap (or_choice s request words) again
    ∙ subst (λ (u : State). by_choice u request words u.choice ≡ p) same is

pub none_same : {s t : State} (found : Option Sent) → ((what : Sent) → found ≡ Some what → ⊥) → IfNone found (t ≡ s) → t ≡ s
none_same None never same = same
none_same (Some what) never same = absurd (never what refl)

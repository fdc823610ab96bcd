-- What the client knows, and what it makes of it.
use Rattle.std.proofs.Common.{◌≡◌, ℕ, ◌+◌, ◌-◌, ◌≤◌, ◌<◌, ◌^◌, Bool, true, false, nat_lt, codes, List, [], ◌∷◌, length, replicate, length-append, Some, None, refl, sym, ap, ◌∙◌, subst, arith}
use Rattle.std.specs.Prelude.{Ok, if◌then◌else◌, ⊤}
use Rattle.std.specs.Result.{result_ok}
use Rattle.std.proofs.lemmas.Bool.{and_parts}
use Rattle.std.proofs.lemmas.Bool.Decides.{nat_tests}
use Rattle.std.proofs.lemmas.List.{length-replicate}
use Rattle.base64.specs.Engines.{standard}
use Rattle.base64.specs.GeneralPurpose.{encode_of}
use Rattle.base64.specs.Rfc4648.{encode_symbols, padding_len, unpadded_len}
use Rattle.base64.proofs.RoundTrip.{length-encode_symbols}
use Rattle.auth_grammar.specs.Names.{params_of}
use Rattle.auth_grammar.specs.declared.items.Item.{Item}
use Rattle.auth_grammar.specs.declared.items.Role.TheVariants.{Origin}
use Rattle.auth_hash.specs.declared.algorithm.Algorithm.TheVariants.{Sha256}
use Rattle.digest_fields.specs.Challenge.{Challenge as Offered, IsChallenge, challenge_item, challenge_of, challenge_params, nonce_of}
use Rattle.digest_fields.specs.Credentials.{Credentials, IsCnonce, IsCredentials, credentials_item, credentials_of, credentials_params}
use Rattle.digest_fields.specs.Field.{at_most, given as given_field, not_empty, required}
use Rattle.digest_fields.specs.Nc.{nc_text}
use Rattle.digest_fields.specs.Realm.{realm_of}
use Rattle.digest_fields.specs.declared.field.FieldName.TheVariants as field
use Rattle.digest_fields.proofs.ChallengeTrip.{read_back as challenge_back}
use Rattle.digest_fields.proofs.Counts.{IsNc-nc_text}
use Rattle.digest_fields.proofs.CredentialsTrip.{read_back as credentials_back}
use Rattle.digest_fields.proofs.Lookups.{lookups}
use Rattle.client_core.specs.Choices.{is_scram, offered}
use Rattle.client_core.specs.Clients.{forgotten, new_state}
use Rattle.client_core.specs.Conclusions.{begun, challenged_state}
use Rattle.client_core.specs.Cnonces.{words_text}
use Rattle.client_core.specs.Counts.{count_of, with_count}
use Rattle.client_core.specs.Digests.{can_use, credentials_with, given_with, next_draw}
use Rattle.client_core.specs.Domains.{lets_pass}
use Rattle.client_core.specs.Givings.{again_given, by_choice, given, given_at, or_choice}
use Rattle.client_core.proofs.ChallengeLaws.{hears_digest, hears_none}
use Rattle.client_core.specs.declared.request.Sent.{Sent}
use Rattle.client_core.specs.declared.request.Sent.TheVariants as sent
use Rattle.client_core.specs.declared.state.Chosen.{Chosen}
use Rattle.client_core.specs.declared.state.Chosen.TheVariants as chosen
use Rattle.client_core.specs.declared.state.DigestChoice.{DigestChoice}
use Rattle.client_core.specs.declared.state.Progress.{Progress}
use Rattle.client_core.specs.declared.state.Progress.TheVariants as progress
use Rattle.client_core.specs.declared.state.State.{State}
use Rattle.client_core.specs.declared.state.User.{User}
use Rattle.drill.specs.Requests.{can_answer, out_request, response_with}
use Rattle.drill.specs.World.{told}

-- ---- challenges of the site

abbrev pub the_challenge : List ℕ → Offered
the_challenge nonce = record {
  realm = codes "drill";
  domain = None;
  nonce = nonce;
  opaque = None;
  stale = false;
  kind = record { alg = Sha256; session = false };
  auth = true;
  auth_int = false;
  userhash = false;
}

abbrev pub the_item : List ℕ → Item
the_item nonce = challenge_item (the_challenge nonce)

is_challenge : (nonce : List ℕ) → 0 < length nonce → IsChallenge (the_challenge nonce)
is_challenge nonce there = record {
  realm_form = record { short = omega arith; printable = refl };
  nonce_there = there;
  offers_some = refl;
}

its_offer : (nonce : List ℕ) → 0 < length nonce → offered (the_item nonce) ≡ Some (the_challenge nonce)
unfolding challenge_params
its_offer nonce there = ap result_ok (challenge_back (the_item nonce) (the_challenge nonce) (challenge_params (the_challenge nonce)) refl refl (is_challenge nonce there))

-- a challenge without a nonce isn't
no_offer_is : offered (the_item []) ≡ None
unfolding challenge_params challenge_of realm_of nonce_of required given_field at_most not_empty
no_offer_is = refl

no_scram : (nonce : List ℕ) → is_scram (the_item nonce) ≡ false
unfolding challenge_params
no_scram nonce = refl

-- ---- what the client knows

abbrev pub the_user : User
the_user = record { name = codes "u"; password = codes "p" }

abbrev pub IsKnown : Chosen → Type 0
IsKnown chosen.Nothing = ⊤
IsKnown (chosen.Scram c) = ⊥
IsKnown (chosen.Digest d) = (nonce : List ℕ) × (d ≡ begun (the_challenge nonce))

-- it has no exchange, and no challenge but the site's
pub record Knows (s : State) : Type 0 where
  pub role : s.role ≡ Origin
  pub user : s.user ≡ the_user
  pub progress : s.progress ≡ progress.Nothing
  pub choice : IsKnown s.choice

pub new_knows : Knows (new_state Origin (codes "u") (codes "p"))
new_knows = record { role = refl; user = refl; progress = refl; choice = tt }

pub forgotten_knows : (s : State) → Knows s → Knows (forgotten s)
forgotten_knows s k = record { role = k.role; user = k.user; progress = refl; choice = tt }

keeps_known : (s t : State) (d : Chosen) → Knows s → IsKnown d → t ≡ record s { choice = d } → Knows t × (t.drawn ≡ s.drawn)
keeps_known s t d k known is =
    subst (λ (x : State). Knows x × (x.drawn ≡ s.drawn)) (sym is) (record { role = k.role; user = k.user; progress = k.progress; choice = known }, refl)

abbrev heard : State → ℕ → List ℕ → State
heard s moment nonce = challenged_state s out_request (response_with (the_item nonce ∷ [])) moment (the_item nonce ∷ [])

heard_knows : (s : State) (moment : ℕ) (nonce : List ℕ) → Knows s → Knows (heard s moment nonce) × ((heard s moment nonce).drawn ≡ s.drawn)
heard_knows s moment [] k =
    subst (λ (x : State). Knows x × (x.drawn ≡ s.drawn)) (sym (hears_none s out_request (response_with (the_item [] ∷ [])) moment (the_item []) (no_scram []) no_offer_is)) (k, refl)
heard_knows s moment (b ∷ nonce) k =
    keeps_known s (heard s moment (b ∷ nonce)) (chosen.Digest (begun (the_challenge (b ∷ nonce)))) k (b ∷ nonce, refl)
    (hears_digest s out_request (response_with (the_item (b ∷ nonce) ∷ [])) moment (the_item (b ∷ nonce)) (the_challenge (b ∷ nonce)) (no_scram (b ∷ nonce)) (its_offer (b ∷ nonce) (omega arith)) refl refl)

-- after the site's challenge it still is so, and no count was drawn
pub told_knows : (s : State) (moment : ℕ) (nonce : List ℕ) → Knows s → Knows (told s moment (the_item nonce ∷ [])) × ((told s moment (the_item nonce ∷ [])).drawn ≡ s.drawn)
told_knows s moment nonce k = by (can_answer (the_item nonce ∷ []))
  where
    by : (b : Bool) → let t : State = if b then heard s moment nonce else s in Knows t × (t.drawn ≡ s.drawn)
    by true = heard_knows s moment nonce k
    by false = (k, refl)

-- ---- what it makes

-- what is used once
pub record Draw : Type 0 where
  pub nonce : List ℕ
  pub count : ℕ
  pub cnonce : List ℕ

abbrev pub made_credentials : Draw → Credentials
made_credentials draw = credentials_with the_user (the_challenge []) (record { nonce = draw.nonce; count = draw.count; cnonce = draw.cnonce }) out_request

abbrev pub made_item : Draw → Item
made_item draw = credentials_item (made_credentials draw)

-- a draw that a client makes
pub record IsDraw (draw : Draw) : Type 0 where
  pub some : 1 ≤ draw.count
  pub fits : draw.count < 2 ^ 32
  pub cnonce : IsCnonce draw.cnonce

-- sixteen bytes make a client's nonce
pub encoded_cnonce : (words : List ℕ) → length words ≡ 16 → IsCnonce (encode_of standard words)
encoded_cnonce words long =
    let parts : length (encode_of standard words) ≡ length (encode_symbols standard.encode_table words) + length (replicate (padding_len (length words)) standard.padding.value) =
    length-append (encode_symbols standard.encode_table words) (replicate (padding_len (length words)) standard.padding.value) in
    let symbols : length (encode_symbols standard.encode_table words) ≡ 22 = length-encode_symbols standard.encode_table words ∙ ap unpadded_len long in
    let pads : length (replicate (padding_len (length words)) standard.padding.value) ≡ 2 = length-replicate (padding_len (length words)) standard.padding.value ∙ ap padding_len long in
    let whole : length (encode_of standard words) ≡ 24 = parts ∙ omega (arith, symbols, pads) in
    record { there = omega (arith, whole); short = omega (arith, whole) }

is_credentials : (draw : Draw) → IsDraw draw → IsCredentials (made_credentials draw)
is_credentials draw made = record {
  name_form = refl;
  realm_form = record { short = omega arith; printable = refl };
  uri_there = omega arith;
  cnonce_form = made.cnonce;
  nc_form = IsNc-nc_text draw.count made.some made.fits;
}

pub made_fields : (draw : Draw) → IsDraw draw → credentials_of (params_of (made_item draw).rest) ≡ Ok (made_credentials draw)
made_fields draw made = credentials_back (made_item draw) (made_credentials draw) (credentials_params (made_credentials draw)) refl refl (is_credentials draw made)

pub made_nonce : (draw : Draw) → given_field field.Nonce (params_of (made_item draw).rest) ≡ Some draw.nonce
unfolding credentials_params
made_nonce draw = simp lookups

pub made_count : (draw : Draw) → given_field field.Nc (params_of (made_item draw).rest) ≡ Some (nc_text draw.count)
unfolding credentials_params
made_count draw = simp lookups

-- It gives nothing, or the next count of the nonce that it has.
pub data GivesKnown (s : State) (words : List ℕ) (p : Sent × State) : Type 0 where
  GivesNone : p ≡ (sent.Nothing, s) → GivesKnown s words p
  GivesNext : (draw : Draw) → p.0 ≡ sent.Digest (made_item draw) → Knows p.1 → p.1.drawn ≡ with_count s.drawn draw.nonce draw.count
      → draw.count ≡ count_of s.drawn draw.nonce + 1 → IsDraw draw → GivesKnown s words p

given_is : (s : State) (moment : ℕ) (words : List ℕ) → s.progress ≡ progress.Nothing → given s out_request moment words ≡ by_choice s out_request words s.choice
given_is s moment words none =
    ap (given_at s out_request moment words) none
    ∙ ap (λ (p : Progress). or_choice s out_request words (again_given s moment words p s.reuse)) none

next_known : (s : State) (words nonce : List ℕ) → Knows s → length words ≡ 16 → (b : Bool) → can_use s.role s.drawn (begun (the_challenge nonce)) nonce out_request ≡ b
    → GivesKnown s words (if b then given_with s (begun (the_challenge nonce)) (next_draw s.drawn (begun (the_challenge nonce)) nonce words) out_request else (sent.Nothing, s))
next_known s words nonce k long false is = GivesNone refl
next_known s words nonce k long true is =
    let left : nat_lt (count_of s.drawn nonce) (2 ^ 32 - 1) ≡ true = (and_parts (nat_lt (count_of s.drawn nonce) (2 ^ 32 - 1)) (lets_pass s.role None out_request) is).0 in
    let fits : count_of s.drawn nonce + 1 < 2 ^ 32 = grind (arith, nat_tests) in
    let draw : Draw = record { nonce = nonce; count = count_of s.drawn nonce + 1; cnonce = words_text words } in
    GivesNext draw (ap (λ (u : User). sent.Digest (credentials_item (credentials_with u (the_challenge nonce) (next_draw s.drawn (begun (the_challenge nonce)) nonce words) out_request))) k.user)
    (record { role = k.role; user = k.user; progress = k.progress; choice = (nonce, refl) }) refl refl
    (record { some = omega arith; fits = fits; cnonce = encoded_cnonce words long })

by_known : (s : State) (words : List ℕ) (c : Chosen) → Knows s → length words ≡ 16 → IsKnown c → GivesKnown s words (by_choice s out_request words c)
by_known s words chosen.Nothing k long known = GivesNone refl
by_known s words (chosen.Scram c) k long known = absurd known
by_known s words (chosen.Digest d) k long known =
    subst (λ (x : DigestChoice). GivesKnown s words (by_choice s out_request words (chosen.Digest x))) (sym known.1)
    (next_known s words known.0 k long (can_use s.role s.drawn (begun (the_challenge known.0)) known.0 out_request) refl)

pub given_known : (s : State) (moment : ℕ) (words : List ℕ) → Knows s → length words ≡ 16 → GivesKnown s words (given s out_request moment words)
given_known s moment words k long =
    subst (GivesKnown s words) (sym (given_is s moment words k.progress)) (by_known s words s.choice k long k.choice)

-- What a response means (RFC 7616 sections 3.3 to 3.5, RFC 7615, RFC 7804 section 5).
use Rattle.std.specs.Prelude.{ℕ, nat_lt, List, [], ◌∷◌, length, codes, bytes_eq, slice_get, find, Option, Some, None, option_map, option_and_then, Result, Ok, Err, Bool, true, not, ◌&&◌, if◌then◌else◌}
use Rattle.auth_grammar.specs.declared.items.Item.{Item}
use Rattle.auth_grammar.specs.declared.items.Param.{Param}
use Rattle.auth_grammar.specs.Names.{params_of, value_of}
use Rattle.auth_hash.specs.Algorithm.{same_algorithm}
use Rattle.auth_hash.specs.Qop.{qop_name}
use Rattle.digest_fields.specs.Challenge.{Challenge}
use Rattle.digest_fields.specs.Credentials.{Credentials, credentials_of}
use Rattle.digest_fields.specs.Info.{Info, info_of}
use Rattle.digest_fields.specs.declared.field.FieldError.{FieldError}
use Rattle.digest_fields.specs.declared.kind.Kind.{Kind}
use Rattle.digest_formulas.specs.Responses.{server_value}
use Rattle.http_wire.specs.declared.response.Response.{Response}
use Rattle.client_core.specs.declared.choice.Choice.{Choice}
use Rattle.client_core.specs.declared.choice.Choice.TheVariants as choice
use Rattle.client_core.specs.declared.conclusion.Conclusion.{Conclusion}
use Rattle.client_core.specs.declared.outcome.Outcome.TheVariants.{Mutual, OneWay, Retry, NoOffer, Malformed}
use Rattle.client_core.specs.declared.hearing.Heard.{Heard}
use Rattle.client_core.specs.declared.hearing.Heard.TheVariants as heard
use Rattle.client_core.specs.declared.reading.Said.{Said}
use Rattle.client_core.specs.declared.reading.Said.TheVariants as said
use Rattle.client_core.specs.declared.request.OutRequest.{OutRequest}
use Rattle.client_core.specs.declared.request.Sent.{Sent}
use Rattle.client_core.specs.declared.request.Sent.TheVariants as sent
use Rattle.client_core.specs.declared.state.Change.{Change}
use Rattle.client_core.specs.declared.state.Change.TheVariants.{Keep, Choose, Begin, Renew, Pass, PassTo, Fail}
use Rattle.client_core.specs.declared.state.Chosen.{Chosen}
use Rattle.client_core.specs.declared.state.Chosen.TheVariants as chosen
use Rattle.client_core.specs.declared.state.DigestChoice.{DigestChoice}
use Rattle.client_core.specs.declared.state.State.{State}
use Rattle.client_core.specs.declared.state.User.{User}
use Rattle.client_core.specs.Changes.{applied}
use Rattle.client_core.specs.Choices.{choice_of, offered}
use Rattle.client_core.specs.Digests.{secret_with}
use Rattle.client_core.specs.Hearings.{continued}
use Rattle.client_core.specs.Outcomes.{conclusion, malformed, refusal, wrong}
use Rattle.client_core.specs.ScramConclusions.{after_again, after_first, again_told, final_told, is_of_scram, reuse_of}

-- ---- a challenge to a request without credentials

-- a challenge with its own nonce
abbrev pub begun : Challenge → DigestChoice
begun c = record { challenge = c; nonce = Some c.nonce; prime = None }

-- the challenge of Digest at a place
abbrev pub digest_chosen : List Item → ℕ → Option Chosen
digest_chosen items at = option_map (λ c. chosen.Digest (begun c)) (option_and_then offered (slice_get items at))

-- nothing is answered
abbrev pub no_offer : List Item → Conclusion
no_offer items = conclusion (NoOffer (length items)) Keep

abbrev pub digest_choosing : List Item → Option Chosen → Conclusion
digest_choosing items (Some found) = conclusion Retry (Choose found)
digest_choosing items None = no_offer items

abbrev pub scram_choosing : List Item → ℕ → Option Item → Conclusion
scram_choosing items moment (Some item) =
    conclusion Retry (Begin (record { realm = value_of (codes "realm") (params_of item.rest) }) (reuse_of moment (params_of item.rest)))
scram_choosing items moment None = no_offer items

-- the challenge that is answered
abbrev pub choosing : List Item → ℕ → Choice → Conclusion
choosing items moment choice.Nothing = no_offer items
choosing items moment (choice.Digest at) = digest_choosing items (digest_chosen items at)
choosing items moment (choice.Scram at) = scram_choosing items moment (slice_get items at)

abbrev pub chosen_from : List Item → ℕ → Conclusion
chosen_from items moment = choosing items moment (choice_of items)

-- ---- a challenge in answer to credentials of Digest

-- whether two kinds are one
abbrev pub same_kind : Kind → Kind → Bool
same_kind a b = same_algorithm a.alg b.alg && (if a.session then b.session else not b.session)

-- the other challenge says that only the nonce was stale
abbrev pub is_renewal : Challenge → Challenge → Bool
is_renewal c other = other.stale && bytes_eq c.realm other.realm && same_kind c.kind other.kind

abbrev pub renewed_or : Challenge → Option Challenge → Option (List ℕ) → Option (List ℕ)
renewed_or c (Some other) later = if is_renewal c other then Some other.nonce else later
renewed_or c None later = later

-- the nonce of the first item that says so
abbrev pub renewed : Challenge → List Item → Option (List ℕ)
renewed c [] = None
renewed c (item ∷ items) = renewed_or c (offered item) (renewed c items)

abbrev pub renewing : Option (List ℕ) → Conclusion
renewing (Some nonce) = conclusion Retry (Renew nonce)
renewing None = refusal

abbrev pub after_choice : ℕ → List Item → Chosen → Conclusion
after_choice stale items chosen.Nothing = refusal
after_choice stale items (chosen.Scram choice) = refusal
after_choice stale items (chosen.Digest choice) = if nat_lt stale 2 then renewing (renewed choice.challenge items) else refusal

-- of stale answers in a row two are taken
abbrev pub after_digest : State → List Item → Conclusion
after_digest s items = after_choice s.stale items s.choice

abbrev pub challenged : State → Sent → List Item → ℕ → Heard → Conclusion
challenged s sent.Nothing items moment told = chosen_from items moment
challenged s (sent.Digest item) items moment told = after_digest s items
challenged s (sent.ScramFirst item) items moment told = after_first s (continued items) told
challenged s (sent.ScramFinal item) items moment told = refusal
challenged s (sent.ScramAgain item) items moment told = after_again moment (find is_of_scram items)

-- ---- a response that is no challenge

-- the server says nothing of what was sent
abbrev pub unproved : Sent → Conclusion
unproved sent.Nothing = conclusion OneWay Pass
unproved (sent.Digest item) = conclusion OneWay Pass
unproved (sent.ScramFirst item) = conclusion OneWay Fail
unproved (sent.ScramFinal item) = conclusion OneWay Fail
unproved (sent.ScramAgain item) = conclusion OneWay Pass

-- the body that the server's value covers: that of a response to HEAD counts as empty
abbrev pub answered_body : OutRequest → Response → List ℕ
answered_body request response = if bytes_eq request.method (codes "HEAD") then [] else response.body

-- the value of RFC 7616 section 3.5 for these credentials
abbrev pub right_value : User → Credentials → List ℕ → List ℕ
right_value user c body = server_value c.kind.alg (secret_with user c.kind c.realm c.nonce c.cnonce) c.nonce c.nc c.cnonce c.qop c.uri body

-- a value is absent, or it is this one
abbrev pub absent_or : Option (List ℕ) → List ℕ → Bool
absent_or None value = true
absent_or (Some given) value = bytes_eq given value

-- what the server repeats of the credentials is as it was sent
abbrev pub agrees : Info → Credentials → Bool
agrees i c = absent_or (option_map qop_name i.qop) (qop_name c.qop) && absent_or i.cnonce c.cnonce && absent_or i.nc c.nc

-- the server's next nonce is used from now on
abbrev pub mutual_change : Option (List ℕ) → Change
mutual_change (Some nonce) = PassTo nonce
mutual_change None = Pass

abbrev pub told : User → List ℕ → Credentials → Info → Option (List ℕ) → Conclusion
told user body c i None = conclusion OneWay Pass
told user body c i (Some value) =
    if bytes_eq value (right_value user c body) && agrees i c then conclusion Mutual (mutual_change i.nextnonce) else wrong

abbrev pub told_of : User → List ℕ → Result Credentials FieldError → Info → Conclusion
told_of user body (Ok c) i = told user body c i i.rspauth
told_of user body (Err error) i = wrong

abbrev pub digest_informed : User → List ℕ → Result Credentials FieldError → Result Info FieldError → Conclusion
digest_informed user body c (Ok i) = told_of user body c i
digest_informed user body c (Err error) = malformed

-- the server says this of what was sent
abbrev pub informed : State → OutRequest → Sent → Response → List Param → Heard → Conclusion
informed s request (sent.Digest item) response params heard =
    digest_informed s.user (answered_body request response) (credentials_of (params_of item.rest)) (info_of params)
informed s request sent.Nothing response params heard = wrong
informed s request (sent.ScramFirst item) response params heard = wrong
informed s request (sent.ScramFinal item) response params heard = final_told s params heard
informed s request (sent.ScramAgain item) response params heard = again_told s params heard

-- ---- all cases

-- A field out of grammar changes nothing.
abbrev pub concluded : State → OutRequest → Sent → Response → ℕ → Said → Heard → Conclusion
concluded s request what response moment (said.Malformed at) heard = conclusion (Malformed at) Keep
concluded s request what response moment (said.Challenge items) heard = challenged s what items moment heard
concluded s request what response moment said.Nothing heard = unproved what
concluded s request what response moment (said.Info params) heard = informed s request what response params heard

-- what a client keeps that hears these challenges in answer to a request without credentials
abbrev pub challenged_state : State → OutRequest → Response → ℕ → List Item → State
challenged_state s request response moment items =
    applied (concluded s request sent.Nothing response moment (said.Challenge items) heard.Nothing).change s

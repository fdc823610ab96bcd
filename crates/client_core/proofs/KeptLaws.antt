-- What a client keeps of a response can be written.
use Rattle.std.proofs.Common.{◌≡◌, ◌∙◌, ◌&&◌, ℕ, zero, suc, Bool, true, false, not, nat_lt, cond, IsTrue, List, [], ◌∷◌, Option, Some, None, length, codes, refl, sym, ap, subst, true≢false}
use Rattle.std.specs.Prelude.{Result, Ok, Err, bytes_eq, find, option_map, option_and_then, slice_get, if◌then◌else◌, ⊤}
use Rattle.std.specs.List.{list_all}
use Rattle.std.specs.Option.{ok_or}
use Rattle.std.specs.Result.{result_ok}
use Rattle.auth_grammar.specs.Names.{params_of, same_name, value_of}
use Rattle.auth_grammar.specs.Plain.{is_plain_name, is_printable}
use Rattle.auth_grammar.specs.Valid.{are_valid_params, is_quotable_text, is_token_text, is_valid, is_valid_param}
use Rattle.auth_grammar.specs.Names.{has_repeat}
use Rattle.auth_grammar.specs.declared.items.Item.{Item}
use Rattle.auth_grammar.specs.declared.items.Param.{Param}
use Rattle.auth_grammar.specs.declared.items.Rest.{Rest}
use Rattle.auth_grammar.specs.declared.items.Rest.TheVariants.{Empty, Token68, Params}
use Rattle.digest_fields.specs.Challenge.{Challenge, challenge_of, nonce_of}
use Rattle.digest_fields.specs.Credentials.{Credentials, credentials_of}
use Rattle.digest_fields.specs.Field.{at_most, field_text, given, not_empty, required, ◌>>=◌}
use Rattle.digest_fields.specs.Info.{Info, info_of, nextnonce_of, optional, used_nc_of, used_qop_of}
use Rattle.digest_fields.specs.Kind.{kind_of}
use Rattle.digest_fields.specs.Qop.{offer_of}
use Rattle.digest_fields.specs.Realm.{realm_of}
use Rattle.digest_fields.specs.declared.field.FieldError.{FieldError}
use Rattle.digest_fields.specs.declared.field.FieldError.TheVariants.{BadValue, Missing}
use Rattle.digest_fields.specs.declared.field.FieldName.{FieldName}
use Rattle.digest_fields.specs.declared.field.FieldName.TheVariants as field
use Rattle.http_wire.specs.declared.response.Response.{Response}
use Rattle.scram_text.specs.declared.server_first.ServerFirst.{ServerFirst}
use Rattle.client_core.specs.declared.choice.Choice.{Choice}
use Rattle.client_core.specs.declared.choice.Choice.TheVariants as choice
use Rattle.client_core.specs.declared.hearing.Heard.{Heard}
use Rattle.client_core.specs.declared.hearing.Heard.TheVariants as heard
use Rattle.client_core.specs.declared.reading.Said.{Said}
use Rattle.client_core.specs.declared.reading.Said.TheVariants as said
use Rattle.client_core.specs.declared.request.OutRequest.{OutRequest}
use Rattle.client_core.specs.declared.request.Sent.{Sent}
use Rattle.client_core.specs.declared.request.Sent.TheVariants as sent
use Rattle.client_core.specs.declared.state.Change.{Change}
use Rattle.client_core.specs.declared.state.Change.TheVariants as change
use Rattle.client_core.specs.declared.state.Chosen.{Chosen}
use Rattle.client_core.specs.declared.state.Chosen.TheVariants as chosen
use Rattle.client_core.specs.declared.state.First.{First}
use Rattle.client_core.specs.declared.state.Progress.{Progress}
use Rattle.client_core.specs.declared.state.Progress.TheVariants as progress
use Rattle.client_core.specs.declared.state.State.{State}
use Rattle.client_core.specs.declared.state.User.{User}
use Rattle.client_core.specs.Changes.{applied, finished, with_nonce}
use Rattle.client_core.specs.Choices.{choice_of, is_sound, offered}
use Rattle.client_core.specs.Conclusions.{after_choice, scram_choosing, after_digest, agrees, answered_body, begun, challenged, choosing, concluded, digest_choosing, digest_chosen, digest_informed, informed, is_renewal, mutual_change, renewed, renewed_or, renewing, right_value, told, told_of, unproved}
use Rattle.client_core.specs.Hearings.{continued, message_in, or_later, pair_of}
use Rattle.client_core.specs.ScramConclusions.{exchange_of, after_again, after_begun, after_first, again_signed, again_told, answering, final_signed, final_told, follows, has_message, is_of_scram, signed_told}
use Rattle.client_core.specs.Outcomes.{conclusion, malformed, refusal, wrong}
use Rattle.client_core.specs.declared.outcome.Outcome.TheVariants.{Mutual, Retry}
use Rattle.client_core.specs.Writings.{IsWritten, is_quotable, is_quotable_challenge, is_quotable_choice, is_quotable_progress, is_quotable_state}
use Rattle.client_core.proofs.FirstMessages.{both, both_true}
use Rattle.client_core.proofs.QuotableTexts.{printable_text}

-- ---- values of parameters that were read

found_quotable : (b : Bool) (p : Param) (o : Option Param) → is_valid_param p ≡ true → is_quotable (option_map (λ q. q.value) o) ≡ true
    → is_quotable (option_map (λ q. q.value) (cond b (Some p) o)) ≡ true
found_quotable true p o valid rest = (both (is_token_text p.name) (is_quotable_text p.value) valid).1
found_quotable false p o valid rest = rest

pub value_quotable : (name : List ℕ) (params : List Param) → list_all is_valid_param params ≡ true → is_quotable (value_of name params) ≡ true
value_quotable name [] valid = refl
value_quotable name (p ∷ params) valid =
    let two = both (is_valid_param p) (list_all is_valid_param params) valid in
    found_quotable (same_name p.name name) p (find (λ q. same_name q.name name) params) two.0 (value_quotable name params two.1)

given_quotable : (name : FieldName) (params : List Param) → list_all is_valid_param params ≡ true → is_quotable (given name params) ≡ true
unfolding given
given_quotable name params valid = value_quotable (field_text name) params valid

pub item_params : (item : Item) → is_valid item ≡ true → list_all is_valid_param (params_of item.rest) ≡ true
item_params item valid = by item.scheme item.rest valid
  where
    by : (scheme : List ℕ) (rest : Rest) → is_valid (record { scheme = scheme; rest = rest }) ≡ true → list_all is_valid_param (params_of rest) ≡ true
    by scheme Empty e = refl
    by scheme (Token68 text) e = refl
    by scheme (Params params) e =
        let two = both (is_token_text scheme) (nat_lt 0 (length params) && are_valid_params params) e in
        let more = both (nat_lt 0 (length params)) (are_valid_params params) two.1 in
        (both (list_all is_valid_param params) (not (has_repeat params)) more.1).0

item_at : (items : List Item) (at : ℕ) (item : Item) → list_all is_valid items ≡ true → slice_get items at ≡ Some item → is_valid item ≡ true
item_at items at item valid is = by items at valid is
  where
    by : (xs : List Item) (k : ℕ) → list_all is_valid xs ≡ true → slice_get xs k ≡ Some item → is_valid item ≡ true
    by [] k all e = absurd (let no : None ≡ Some item = e in cc)
    by (x ∷ xs) zero all e =
        let here : x ≡ item = (let same : Some x ≡ Some item = e in cc) in
        subst (λ (y : Item). is_valid y ≡ true) here (both (is_valid x) (list_all is_valid xs) all).0
    by (x ∷ xs) (suc k) all e = by xs k (both (is_valid x) (list_all is_valid xs) all).1 e

-- ---- what fields were read

bound : {A B : Type 0} (r : Result A FieldError) (next : A → Result B FieldError) (v : B) → (r >>= next) ≡ Ok v → (x : A) × (r ≡ Ok x) × (next x ≡ Ok v)
bound (Ok x) next v e = (x, refl, e)
bound (Err error) next v e = absurd (let no : Err error ≡ Ok v = e in cc)

one_ok : {A : Type 0} (x y : A) → (let r : Result A FieldError = Ok x in r) ≡ Ok y → x ≡ y
one_ok x y e = cc

there : (o : Option (List ℕ)) (error : FieldError) (v : List ℕ) → ok_or o error ≡ Ok v → o ≡ Some v
there (Some w) error v e = (let same : Ok w ≡ Ok v = e in cc)
there None error v e = absurd (let no : Err error ≡ Ok v = e in cc)

required_is : (name : FieldName) (params : List Param) (v : List ℕ) → required name params ≡ Ok v → given name params ≡ Some v
unfolding required
required_is name params v e = there (given name params) (Missing name) v e

tested : (b : Bool) (error : FieldError) (w v : List ℕ) → (let r : Result (List ℕ) FieldError = if b then Err error else Ok w in r) ≡ Ok v → w ≡ v
tested true error w v e = absurd (let no : Err error ≡ Ok v = e in cc)
tested false error w v e = (let same : Ok w ≡ Ok v = e in cc)

not_empty_is : (name : FieldName) (w v : List ℕ) → not_empty name w ≡ Ok v → w ≡ v
unfolding not_empty
not_empty_is name w v e = tested _ _ w v e

passed : (b : Bool) (error : FieldError) (w v : List ℕ) → (let r : Result (List ℕ) FieldError = if b then Ok w else Err error in r) ≡ Ok v → (b ≡ true) × (w ≡ v)
passed true error w v e = (refl, (let same : Ok w ≡ Ok v = e in cc))
passed false error w v e = absurd (let no : Err error ≡ Ok v = e in cc)

realm_quotable : (params : List Param) (realm : List ℕ) → realm_of params ≡ Ok realm → is_quotable_text realm ≡ true
unfolding realm_of
realm_quotable params realm e =
    let a = bound (required field.Realm params) _ realm e in
    let b = bound (at_most 64 field.Realm a.0) _ realm a.2 in
    let c = passed (list_all is_printable b.0) (BadValue field.Realm) b.0 realm b.2 in
    subst (λ (t : List ℕ). is_quotable_text t ≡ true) c.1 (printable_text b.0 c.0)

nonce_quotable : (params : List Param) (nonce : List ℕ) → list_all is_valid_param params ≡ true → nonce_of params ≡ Ok nonce → is_quotable_text nonce ≡ true
unfolding nonce_of
nonce_quotable params nonce valid e =
    let a = bound (required field.Nonce params) _ nonce e in
    let same : given field.Nonce params ≡ Some nonce = required_is field.Nonce params a.0 a.1 ∙ ap Some (not_empty_is field.Nonce a.0 nonce a.2) in
    subst (λ (o : Option (List ℕ)). is_quotable o ≡ true) same (given_quotable field.Nonce params valid)

abbrev IsQuotableOffer : Challenge → Type 0
IsQuotableOffer c = (is_quotable_challenge c ≡ true) × (is_quotable_text c.nonce ≡ true)

challenge_quotable : (params : List Param) (c : Challenge) → list_all is_valid_param params ≡ true → challenge_of params ≡ Ok c → IsQuotableOffer c
unfolding challenge_of
challenge_quotable params c valid e =
    let a = bound (realm_of params) _ c e in
    let b = bound (nonce_of params) _ c a.2 in
    let k = bound (kind_of params) _ c b.2 in
    let o = bound (offer_of params) _ c k.2 in
    let realm = realm_quotable params a.0 a.1 in
    let nonce = nonce_quotable params b.0 valid b.1 in
    let opaque = given_quotable field.Opaque params valid in
    subst IsQuotableOffer {y = c} (one_ok _ c o.2) (both_true (is_quotable_text a.0) (is_quotable (given field.Opaque params)) realm opaque, nonce)

nextnonce_quotable : (params : List Param) (o : Option (List ℕ)) → list_all is_valid_param params ≡ true → nextnonce_of params ≡ Ok o → is_quotable o ≡ true
unfolding nextnonce_of
nextnonce_quotable params o valid e = by (given field.Nextnonce params) (given_quotable field.Nextnonce params valid) e
  where
    by : (g : Option (List ℕ)) → is_quotable g ≡ true → optional (not_empty field.Nextnonce) g ≡ Ok o → is_quotable o ≡ true
    by None q e = subst (λ (x : Option (List ℕ)). is_quotable x ≡ true) (one_ok None o e) refl
    by (Some text) q e =
        let a = bound (not_empty field.Nextnonce text) _ o e in
        let same : Some text ≡ o = ap Some (not_empty_is field.Nextnonce text a.0 a.1) ∙ one_ok (Some a.0) o a.2 in
        subst (λ (x : Option (List ℕ)). is_quotable x ≡ true) same q

info_quotable : (params : List Param) (i : Info) → list_all is_valid_param params ≡ true → info_of params ≡ Ok i → is_quotable i.nextnonce ≡ true
unfolding info_of
info_quotable params i valid e =
    let a = bound (nextnonce_of params) _ i e in
    let b = bound (used_qop_of params) _ i a.2 in
    let c = bound (used_nc_of params) _ i b.2 in
    subst (λ (x : Info). is_quotable x.nextnonce ≡ true) {y = i} (one_ok _ i c.2) (nextnonce_quotable params a.0 valid a.1)

-- ---- changes

abbrev is_quotable_change : Change → Bool
is_quotable_change change.Keep = true
is_quotable_change (change.Choose chosen) = is_quotable_choice chosen
is_quotable_change (change.Begin choice reuse) = is_quotable choice.realm
is_quotable_change (change.Renew nonce) = is_quotable_text nonce
is_quotable_change (change.Answer exchange) = is_quotable_text exchange.sid
is_quotable_change (change.Replace reuse) = true
is_quotable_change change.Forget = true
is_quotable_change change.Pass = true
is_quotable_change (change.PassTo nonce) = is_quotable_text nonce
is_quotable_change change.Finish = true
is_quotable_change change.Fail = true

nonce_kept : (kept : Option (List ℕ)) (c : Chosen) → is_quotable kept ≡ true → is_quotable_choice c ≡ true → is_quotable_choice (with_nonce kept c) ≡ true
nonce_kept kept chosen.Nothing k e = refl
nonce_kept kept (chosen.Scram s) k e = e
nonce_kept kept (chosen.Digest d) k e =
    let two = both (is_quotable_challenge d.challenge) (is_quotable d.nonce && is_quotable d.prime) e in
    rw (two.0, k, (both (is_quotable d.nonce) (is_quotable d.prime) two.1).1) refl

finish_kept : (p : Progress) → is_quotable_progress p ≡ true → is_quotable_progress (finished p) ≡ true
finish_kept progress.Nothing e = refl
finish_kept (progress.Begun first) e = refl
finish_kept (progress.Answered x) e = e
finish_kept (progress.Finished x nonce) e = e

change_kept : (c : Change) (s : State) → is_quotable_change c ≡ true → is_quotable_state s ≡ true → is_quotable_state (applied c s) ≡ true
change_kept c s k e = by c k
  where
    parts : (is_quotable_choice s.choice ≡ true) × (is_quotable_progress s.progress ≡ true)
    parts = both (is_quotable_choice s.choice) (is_quotable_progress s.progress) e

    made : (a : Chosen) (b : Progress) → is_quotable_choice a ≡ true → is_quotable_progress b ≡ true → (is_quotable_choice a && is_quotable_progress b) ≡ true
    made a b p q = both_true (is_quotable_choice a) (is_quotable_progress b) p q

    by : (c : Change) → is_quotable_change c ≡ true → is_quotable_state (applied c s) ≡ true
    by change.Keep k = e
    by (change.Choose new) k = made new s.progress k parts.1
    by (change.Begin new reuse) k = made (chosen.Scram new) s.progress k parts.1
    by (change.Renew nonce) k = made (with_nonce (Some nonce) s.choice) s.progress (nonce_kept (Some nonce) s.choice k parts.0) parts.1
    by (change.Answer x) k = made s.choice (progress.Answered x) parts.0 k
    by (change.Replace reuse) k = made s.choice progress.Nothing parts.0 refl
    by change.Forget k = made (with_nonce None s.choice) progress.Nothing (nonce_kept None s.choice refl parts.0) refl
    by change.Pass k = e
    by (change.PassTo nonce) k = made (with_nonce (Some nonce) s.choice) s.progress (nonce_kept (Some nonce) s.choice k parts.0) parts.1
    by change.Finish k = made s.choice (finished s.progress) parts.0 (finish_kept s.progress parts.1)
    by change.Fail k = made (with_nonce None s.choice) progress.Nothing (nonce_kept None s.choice refl parts.0) refl

-- ---- what a response changes

offered_is : (item : Item) (c : Challenge) → offered item ≡ Some c → challenge_of (params_of item.rest) ≡ Ok c
offered_is item c e = by (is_sound (codes "Digest") item) (challenge_of (params_of item.rest)) e
  where
    by : (b : Bool) (r : Result Challenge FieldError) → (if b then result_ok r else None) ≡ Some c → r ≡ Ok c
    by true (Ok x) e = (let same : Some x ≡ Some c = e in cc)
    by true (Err error) e = absurd (let no : None ≡ Some c = e in cc)
    by false r e = absurd (let no : None ≡ Some c = e in cc)

offer_quotable : (item : Item) (c : Challenge) → is_valid item ≡ true → offered item ≡ Some c → IsQuotableOffer c
offer_quotable item c valid e = challenge_quotable (params_of item.rest) c (item_params item valid) (offered_is item c e)

chosen_quotable : (items : List Item) (o : Option Challenge) → ((c : Challenge) → o ≡ Some c → IsQuotableOffer c)
    → is_quotable_change (digest_choosing items (option_map (λ c. chosen.Digest (begun c)) o)).change ≡ true
chosen_quotable items None all = refl
chosen_quotable items (Some c) all = let q = all c refl in rw (q.0, q.1) refl

digest_kept : (items : List Item) (at : ℕ) → list_all is_valid items ≡ true → is_quotable_change (digest_choosing items (digest_chosen items at)).change ≡ true
digest_kept items at valid = by (slice_get items at) (λ item is. item_at items at item valid is)
  where
    by : (o : Option Item) → ((item : Item) → o ≡ Some item → is_valid item ≡ true)
        → is_quotable_change (digest_choosing items (option_map (λ c. chosen.Digest (begun c)) (option_and_then offered o))).change ≡ true
    by None all = refl
    by (Some item) all = chosen_quotable items (offered item) (λ c is. offer_quotable item c (all item refl) is)

scram_kept : (items : List Item) (moment at : ℕ) → list_all is_valid items ≡ true → is_quotable_change (choosing items moment (choice.Scram at)).change ≡ true
scram_kept items moment at valid = by (slice_get items at) (λ item is. item_at items at item valid is)
  where
    by : (o : Option Item) → ((item : Item) → o ≡ Some item → is_valid item ≡ true) → is_quotable_change (scram_choosing items moment o).change ≡ true
    by None all = refl
    by (Some item) all = value_quotable (codes "realm") (params_of item.rest) (item_params item (all item refl))

choice_kept : (items : List Item) (moment : ℕ) (c : Choice) → list_all is_valid items ≡ true → is_quotable_change (choosing items moment c).change ≡ true
choice_kept items moment choice.Nothing valid = refl
choice_kept items moment (choice.Digest at) valid = digest_kept items at valid
choice_kept items moment (choice.Scram at) valid = scram_kept items moment at valid

renewed_quotable : (c : Challenge) (items : List Item) → list_all is_valid items ≡ true → is_quotable (renewed c items) ≡ true
renewed_quotable c [] valid = refl
renewed_quotable c (item ∷ items) valid =
    let two = both (is_valid item) (list_all is_valid items) valid in
    by (offered item) (λ other is. (offer_quotable item other two.0 is).1) (renewed_quotable c items two.1)
  where
    at_test : (b : Bool) (nonce : List ℕ) → is_quotable_text nonce ≡ true → is_quotable (renewed c items) ≡ true → is_quotable (if b then Some nonce else renewed c items) ≡ true
    at_test true nonce q rest = q
    at_test false nonce q rest = rest

    by : (o : Option Challenge) → ((other : Challenge) → o ≡ Some other → is_quotable_text other.nonce ≡ true) → is_quotable (renewed c items) ≡ true
        → is_quotable (renewed_or c o (renewed c items)) ≡ true
    by None all rest = rest
    by (Some other) all rest = at_test (is_renewal c other) other.nonce (all other refl) rest

renewing_kept : (o : Option (List ℕ)) → is_quotable o ≡ true → is_quotable_change (renewing o).change ≡ true
renewing_kept None e = refl
renewing_kept (Some nonce) e = e

stale_kept : (stale : ℕ) (items : List Item) (c : Chosen) → list_all is_valid items ≡ true → is_quotable_change (after_choice stale items c).change ≡ true
stale_kept stale items chosen.Nothing valid = refl
stale_kept stale items (chosen.Scram c) valid = refl
stale_kept stale items (chosen.Digest c) valid = by (nat_lt stale 2)
  where
    by : (b : Bool) → is_quotable_change (if b then renewing (renewed c.challenge items) else refusal).change ≡ true
    by true = renewing_kept (renewed c.challenge items) (renewed_quotable c.challenge items valid)
    by false = refl

abbrev sid_in : Option (List ℕ × List ℕ) → Option (List ℕ)
sid_in found = option_map (λ f. f.0) found

pair_quotable : (a b : Option (List ℕ)) → is_quotable a ≡ true → is_quotable (sid_in (pair_of a b)) ≡ true
pair_quotable None b e = refl
pair_quotable (Some sid) None e = refl
pair_quotable (Some sid) (Some text) e = e

message_quotable : (item : Item) → is_valid item ≡ true → is_quotable (sid_in (message_in item)) ≡ true
message_quotable item valid = by (same_name item.scheme (codes "SCRAM-SHA-256"))
  where
    by : (b : Bool) → is_quotable (sid_in (if b then pair_of (value_of (codes "sid") (params_of item.rest)) (value_of (codes "data") (params_of item.rest)) else None)) ≡ true
    by true = pair_quotable (value_of (codes "sid") (params_of item.rest)) (value_of (codes "data") (params_of item.rest))
        (value_quotable (codes "sid") (params_of item.rest) (item_params item valid))
    by false = refl

later_quotable : (a b : Option (List ℕ × List ℕ)) → is_quotable (sid_in a) ≡ true → is_quotable (sid_in b) ≡ true → is_quotable (sid_in (or_later a b)) ≡ true
later_quotable (Some found) b e f = e
later_quotable None b e f = f

continued_quotable : (items : List Item) → list_all is_valid items ≡ true → is_quotable (sid_in (continued items)) ≡ true
continued_quotable [] valid = refl
continued_quotable (item ∷ items) valid =
    let two = both (is_valid item) (list_all is_valid items) valid in
    later_quotable (message_in item) (continued items) (message_quotable item two.0) (continued_quotable items two.1)

answer_kept : (user : User) (first : First) (sid : List ℕ) (told : Heard) → is_quotable_text sid ≡ true → is_quotable_change (answering user first sid told).change ≡ true
answer_kept user first sid heard.Nothing e = refl
answer_kept user first sid (heard.Final message) e = refl
answer_kept user first sid (heard.First message) e = by (follows first.nonce message)
  where
    by : (b : Bool) → is_quotable_change (if b then conclusion Retry (change.Answer (exchange_of user first sid message)) else malformed).change ≡ true
    by true = e
    by false = refl

begun_kept : (user : User) (sid : List ℕ) (told : Heard) (p : Progress) → is_quotable_text sid ≡ true → is_quotable_change (after_begun user sid told p).change ≡ true
begun_kept user sid told (progress.Begun first) e = answer_kept user first sid told e
begun_kept user sid told progress.Nothing e = refl
begun_kept user sid told (progress.Answered x) e = refl
begun_kept user sid told (progress.Finished x nonce) e = refl

first_kept : (s : State) (found : Option (List ℕ × List ℕ)) (told : Heard) → is_quotable (sid_in found) ≡ true → is_quotable_change (after_first s found told).change ≡ true
first_kept s None told e = refl
first_kept s (Some found) told e = begun_kept s.user found.0 told s.progress e

again_kept : (moment : ℕ) (o : Option Item) → is_quotable_change (after_again moment o).change ≡ true
again_kept moment None = refl
again_kept moment (Some item) = refl

challenged_kept : (s : State) (what : Sent) (items : List Item) (moment : ℕ) (told : Heard) → list_all is_valid items ≡ true → is_quotable_change (challenged s what items moment told).change ≡ true
challenged_kept s sent.Nothing items moment told valid = choice_kept items moment (choice_of items) valid
challenged_kept s (sent.Digest item) items moment told valid = stale_kept s.stale items s.choice valid
challenged_kept s (sent.ScramFirst item) items moment told valid = first_kept s (continued items) told (continued_quotable items valid)
challenged_kept s (sent.ScramFinal item) items moment told valid = refl
challenged_kept s (sent.ScramAgain item) items moment told valid = again_kept moment (find is_of_scram items)

unproved_kept : (what : Sent) → is_quotable_change (unproved what).change ≡ true
unproved_kept sent.Nothing = refl
unproved_kept (sent.Digest item) = refl
unproved_kept (sent.ScramFirst item) = refl
unproved_kept (sent.ScramFinal item) = refl
unproved_kept (sent.ScramAgain item) = refl

mutual_kept : (nonce : Option (List ℕ)) → is_quotable nonce ≡ true → is_quotable_change (mutual_change nonce) ≡ true
mutual_kept None e = refl
mutual_kept (Some nonce) e = e

told_kept : (user : User) (body : List ℕ) (c : Credentials) (i : Info) (value : Option (List ℕ)) → is_quotable i.nextnonce ≡ true
    → is_quotable_change (told user body c i value).change ≡ true
told_kept user body c i None e = refl
told_kept user body c i (Some value) e = by (bytes_eq value (right_value user c body) && agrees i c)
  where
    by : (b : Bool) → is_quotable_change (if b then conclusion Mutual (mutual_change i.nextnonce) else wrong).change ≡ true
    by true = mutual_kept i.nextnonce e
    by false = refl

digest_informed_kept : (user : User) (body : List ℕ) (c : Result Credentials FieldError) (i : Result Info FieldError)
    → ((info : Info) → i ≡ Ok info → is_quotable info.nextnonce ≡ true) → is_quotable_change (digest_informed user body c i).change ≡ true
digest_informed_kept user body c (Err error) all = refl
digest_informed_kept user body (Err error) (Ok i) all = refl
digest_informed_kept user body (Ok c) (Ok i) all = told_kept user body c i i.rspauth (all i refl)

signed_kept : (here : Bool) (absent proved : Change) (signed : Bool) → is_quotable_change absent ≡ true → is_quotable_change proved ≡ true
    → is_quotable_change (signed_told here absent proved signed).change ≡ true
signed_kept false absent proved signed a b = a
signed_kept true absent proved true a b = b
signed_kept true absent proved false a b = refl

informed_kept : (s : State) (request : OutRequest) (what : Sent) (response : Response) (params : List Param) (told : Heard) → list_all is_valid_param params ≡ true
    → is_quotable_change (informed s request what response params told).change ≡ true
informed_kept s request (sent.Digest item) response params told valid =
    digest_informed_kept s.user (answered_body request response) (credentials_of (params_of item.rest)) (info_of params) (λ i is. info_quotable params i valid is)
informed_kept s request sent.Nothing response params told valid = refl
informed_kept s request (sent.ScramFirst item) response params told valid = refl
informed_kept s request (sent.ScramFinal item) response params told valid = signed_kept (has_message params) change.Fail change.Finish (final_signed told s.progress) refl refl
informed_kept s request (sent.ScramAgain item) response params told valid = signed_kept (has_message params) change.Pass change.Pass (again_signed told s.progress) refl refl

concluded_kept : (s : State) (request : OutRequest) (what : Sent) (response : Response) (moment : ℕ) (said : Said) (told : Heard) → IsWritten said
    → is_quotable_change (concluded s request what response moment said told).change ≡ true
concluded_kept s request what response moment (said.Malformed at) told valid = refl
concluded_kept s request what response moment (said.Challenge items) told valid = challenged_kept s what items moment told valid
concluded_kept s request what response moment said.Nothing told valid = unproved_kept what
concluded_kept s request what response moment (said.Info params) told valid =
    informed_kept s request what response params told (both (list_all is_valid_param params) (not (has_repeat params)) valid).0

-- what a client keeps after a response can be written
pub kept_quotable : (s : State) (request : OutRequest) (what : Sent) (response : Response) (moment : ℕ) (said : Said) (told : Heard) → IsWritten said
    → is_quotable_state s ≡ true → is_quotable_state (applied (concluded s request what response moment said told).change s) ≡ true
kept_quotable s request what response moment said told valid e =
    change_kept (concluded s request what response moment said told).change s (concluded_kept s request what response moment said told valid) e

-- a change leaves the name
pub applied_user : (c : Change) (s t : State) → t ≡ applied c s → is_plain_name s.user.name ≡ true → is_plain_name t.user.name ≡ true
applied_user c s t is e = ap (λ (x : State). is_plain_name x.user.name) is ∙ by c
  where
    by : (c : Change) → is_plain_name (applied c s).user.name ≡ true
    by change.Keep = e
    by (change.Choose new) = e
    by (change.Begin new reuse) = e
    by (change.Renew nonce) = e
    by (change.Answer x) = e
    by (change.Replace reuse) = e
    by change.Forget = e
    by change.Pass = e
    by (change.PassTo nonce) = e
    by change.Finish = e
    by change.Fail = e

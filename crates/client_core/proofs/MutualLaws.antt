-- When a server has proved itself.
use Rattle.std.proofs.Common.{◌≡◌, ◌≢◌, ◌⊎◌, ℕ, Bool, true, false, List, [], ◌∷◌, Option, Some, None, codes, map, All, refl, sym, ap, ◌∙◌, subst, inl, inr, true≢false}
use Rattle.std.specs.Prelude.{Result, Ok, Err, ◌&&◌, bytes_eq, nat_lt, option_map, is_some, find, slice_get, length, if◌then◌else◌}
use Rattle.std.specs.List.{join_with_byte}
use Rattle.std.proofs.lemmas.List.Elements.{All-nil, All-cons}
use Rattle.std.proofs.lemmas.Slice.Eq.{bytes_eq-Decides}
use Rattle.auth_grammar.proofs.RepeatLaws.{second_is}
use Rattle.auth_grammar.specs.Answers.{Refuses}
use Rattle.auth_grammar.specs.Items.{SpellsParams, unplaced}
use Rattle.auth_grammar.specs.Names.{has_repeat, params_of, value_of}
use Rattle.auth_grammar.specs.Repeats.{AreSingle, lists_in, params_in}
use Rattle.auth_grammar.specs.RoleFields.{info_name}
use Rattle.auth_grammar.specs.declared.error.GrammarError.{GrammarError}
use Rattle.auth_grammar.specs.declared.error.GrammarError.TheVariants.{NotGrammar, Twice, OutOfMemory}
use Rattle.auth_grammar.specs.declared.grammar.Grammar.TheVariants as Of
use Rattle.auth_grammar.specs.declared.groups.Group.{Group}
use Rattle.auth_grammar.specs.declared.groups.Grouped.{Grouped}
use Rattle.auth_grammar.specs.declared.groups.Placed.{Placed}
use Rattle.auth_grammar.specs.declared.items.Item.{Item}
use Rattle.auth_grammar.specs.declared.items.Param.{Param}
use Rattle.auth_hash.specs.Qop.{qop_name}
use Rattle.auth_hash.specs.declared.algorithm.Qop.{Qop}
use Rattle.auth_hash.specs.declared.algorithm.Qop.TheVariants.{Auth, AuthInt}
use Rattle.digest_fields.specs.Credentials.{Credentials, credentials_of}
use Rattle.digest_fields.specs.Info.{Info, info_of}
use Rattle.digest_fields.specs.declared.field.FieldError.{FieldError}
use Rattle.http_wire.specs.declared.response.Response.{Response}
use Rattle.client_core.specs.declared.outcome.Outcome.{Outcome}
use Rattle.client_core.specs.declared.outcome.Outcome.TheVariants.{Mutual, OneWay, Retry, Refused, WrongProof, NoOffer, Malformed}
use Rattle.client_core.specs.declared.reading.Said.{Said}
use Rattle.client_core.specs.declared.reading.Said.TheVariants as said
use Rattle.client_core.specs.declared.request.OutRequest.{OutRequest}
use Rattle.client_core.specs.declared.request.Sent.{Sent}
use Rattle.client_core.specs.declared.request.Sent.TheVariants as sent
use Rattle.client_core.specs.declared.choice.Choice.{Choice}
use Rattle.client_core.specs.declared.choice.Choice.TheVariants as choice
use Rattle.client_core.specs.declared.hearing.Heard.{Heard}
use Rattle.client_core.specs.declared.hearing.Heard.TheVariants as heard
use Rattle.client_core.specs.declared.state.Change.{Change}
use Rattle.client_core.specs.declared.state.Change.TheVariants.{Answer, Fail, Finish, Pass}
use Rattle.client_core.specs.declared.state.Exchange.{Exchange}
use Rattle.client_core.specs.declared.state.First.{First}
use Rattle.client_core.specs.declared.state.Progress.{Progress}
use Rattle.client_core.specs.declared.state.Progress.TheVariants as progress
use Rattle.client_core.specs.declared.state.Progress.TheVariants.{Begun, Answered, Finished}
use Rattle.client_core.specs.declared.state.Chosen.{Chosen}
use Rattle.client_core.specs.declared.state.Chosen.TheVariants.{Nothing, Digest, Scram}
use Rattle.client_core.specs.declared.state.State.{State}
use Rattle.client_core.specs.declared.state.User.{User}
use Rattle.client_core.specs.Choices.{choice_of}
use Rattle.client_core.specs.Clients.{Concludes}
use Rattle.client_core.specs.Conclusions.{absent_or, after_choice, agrees, answered_body, challenged, choosing, concluded, digest_choosing, digest_chosen, digest_informed, informed, mutual_change, renewed, renewing, right_value, scram_choosing, told, unproved}
use Rattle.client_core.specs.Hearings.{Hears, HearsFinal, HearsIn, continued}
use Rattle.client_core.specs.Outcomes.{conclusion, malformed, refusal, wrong}
use Rattle.client_core.specs.ScramConclusions.{after_again, after_begun, after_first, again_signed, again_told, answering, exchange_of, final_signed, final_told, follows, has_message, is_of_scram, signed_told}
use Rattle.client_core.specs.Laws.{IsAbsentOr, IsProof, MutualExactly, Proves, ProvesAgain, ProvesDigest, ProvesFinal}
use Rattle.client_core.proofs.ScramProofs.{proves_signed, signed_proves}
use Rattle.client_core.specs.Readings.{IsFaultAt, SaysInfo, Says, SpellsInfo, is_provable, lines_of}

-- ---- a text that spells parameters isn't refused

single_lists : (x : Grouped) (params : List Param) → x.groups ≡ [] → unplaced x.params ≡ params → has_repeat params ≡ false → AreSingle (lists_in x)
single_lists x params none whole single =
    let P : List Placed → Type 0 = λ places. has_repeat (unplaced places) ≡ false in
    let first : P x.params = ap (λ (ps : List Param). has_repeat ps) whole ∙ single in
    let rest : All P (map params_in x.groups) = subst (λ (groups : List Group). All P (map params_in groups)) (sym none) (All-nil P) in
    All-cons P x.params (map params_in x.groups) first rest

not_refused : (text : List ℕ) (params : List Param) (at : ℕ) (error : GrammarError) → SpellsParams text params → has_repeat params ≡ false → IsFaultAt at error → Refuses Of.Params text error → ⊥
not_refused text params at (NotGrammar place) spells single fault refuses = refuses.none spells.0 spells.1
not_refused text params at (Twice place name) spells single fault refuses =
    let same : spells.0 ≡ refuses.0 = refuses.2.1 spells.0 spells.1 in
    second_is (lists_in refuses.0) refuses.1
    (subst (λ (x : Grouped). AreSingle (lists_in x)) same (single_lists spells.0 params spells.1.3 spells.2 single)) refuses.3
not_refused text params at OutOfMemory spells single fault refuses = fault

info_only : (lines : List (List ℕ)) (what : Said) (params : List Param) → lines ≢ [] → SpellsInfo (join_with_byte 44 lines) params → SaysInfo lines what → what ≡ said.Info params
info_only [] what params there spells says = absurd (there refl)
info_only (line ∷ lines) (said.Info other) params there spells says = ap said.Info (sym (says.only params spells.spelled))
info_only (line ∷ lines) (said.Malformed at) params there spells says =
    absurd (not_refused (join_with_byte 44 (line ∷ lines)) params at says.0 spells.spelled spells.single says.1 says.2)
info_only (line ∷ lines) (said.Challenge items) params there spells says = absurd says
info_only (line ∷ lines) said.Nothing params there spells says = absurd says

info_lines : (lines : List (List ℕ)) (params : List Param) → SaysInfo lines (said.Info params) → (lines ≢ []) × SpellsInfo (join_with_byte 44 lines) params
info_lines [] params says = absurd (let clash : said.Info params ≡ said.Nothing = says in cc)
info_lines (line ∷ lines) params says = ((λ e. let clash : line ∷ lines ≡ [] = e in cc), says)

-- ---- the values agree

both : (a b : Bool) → a && b ≡ true → (a ≡ true) × (b ≡ true)
both true b e = (refl, e)
both false b e = absurd (true≢false (sym e))

both_true : (a b : Bool) → a ≡ true → b ≡ true → a && b ≡ true
both_true a b p q = rw (p, q) refl

absent : (given : Option (List ℕ)) (value : List ℕ) → absent_or given value ≡ true → IsAbsentOr given value
absent None value e = inl refl
absent (Some text) value e = inr (ap Some ((bytes_eq-Decides text value).0 e))

absent_true : (given : Option (List ℕ)) (value : List ℕ) → IsAbsentOr given value → absent_or given value ≡ true
absent_true given value (inl e) = rw e refl
absent_true given value (inr e) = rw e ((bytes_eq-Decides value value).1 refl)

one_qop : (a b : Qop) → bytes_eq (qop_name a) (qop_name b) ≡ true → a ≡ b
one_qop Auth Auth e = refl
one_qop AuthInt AuthInt e = refl
one_qop Auth AuthInt e = absurd (true≢false (sym e))
one_qop AuthInt Auth e = absurd (true≢false (sym e))

absent_qop : (given : Option Qop) (value : Qop) → absent_or (option_map qop_name given) (qop_name value) ≡ true → IsAbsentOr given value
absent_qop None value e = inl refl
absent_qop (Some qop) value e = inr (ap Some (one_qop qop value e))

absent_qop_true : (given : Option Qop) (value : Qop) → IsAbsentOr given value → absent_or (option_map qop_name given) (qop_name value) ≡ true
absent_qop_true given value (inl e) = rw e refl
absent_qop_true given value (inr e) = rw e ((bytes_eq-Decides (qop_name value) (qop_name value)).1 refl)

-- ---- from the outcome

test_true : (b : Bool) (change : Change) → (if b then conclusion Mutual change else wrong).outcome ≡ Mutual → b ≡ true
test_true true change e = refl
test_true false change e = absurd (let clash : WrongProof ≡ Mutual = e in cc)

told_mutual : (user : User) (body : List ℕ) (c : Credentials) (i : Info) (value : Option (List ℕ)) → (told user body c i value).outcome ≡ Mutual
    → (value ≡ Some (right_value user c body)) × (agrees i c ≡ true)
told_mutual user body c i None e = absurd (let clash : OneWay ≡ Mutual = e in cc)
told_mutual user body c i (Some value) e =
    let two = both (bytes_eq value (right_value user c body)) (agrees i c) (test_true (bytes_eq value (right_value user c body) && agrees i c) (mutual_change i.nextnonce) e) in
    (ap Some ((bytes_eq-Decides value (right_value user c body)).0 two.0), two.1)

digest_proves : (user : User) (request : OutRequest) (item : Item) (response : Response) (params : List Param)
    (cs : Result Credentials FieldError) (is : Result Info FieldError) → credentials_of (params_of item.rest) ≡ cs → info_of params ≡ is
    → (digest_informed user (answered_body request response) cs is).outcome ≡ Mutual → ProvesDigest user request item response params
digest_proves user request item response params cs (Err error) sent_is told_is e = absurd (let clash : Malformed 0 ≡ Mutual = e in cc)
digest_proves user request item response params (Err error) (Ok i) sent_is told_is e = absurd (let clash : WrongProof ≡ Mutual = e in cc)
digest_proves user request item response params (Ok c) (Ok i) sent_is told_is e =
    let right = told_mutual user (answered_body request response) c i i.rspauth e in
    let last = both (absent_or (option_map qop_name i.qop) (qop_name c.qop) && absent_or i.cnonce c.cnonce) (absent_or i.nc c.nc) right.1 in
    let first = both (absent_or (option_map qop_name i.qop) (qop_name c.qop)) (absent_or i.cnonce c.cnonce) last.0 in
    record {
      credentials = c;
      info = i;
      credentials_are = sent_is;
      info_is = told_is;
      value = right.0;
      qop = absent_qop i.qop c.qop first.0;
      cnonce = absent i.cnonce c.cnonce first.1;
      nc = absent i.nc c.nc last.1;
    }

digest_choosing_not : (items : List Item) (found : Option Chosen) → (digest_choosing items found).outcome ≡ Mutual → ⊥
digest_choosing_not items (Some found) e = let clash : Retry ≡ Mutual = e in cc
digest_choosing_not items None e = let clash : NoOffer (length items) ≡ Mutual = e in cc

scram_choosing_not : (items : List Item) (moment : ℕ) (found : Option Item) → (scram_choosing items moment found).outcome ≡ Mutual → ⊥
scram_choosing_not items moment (Some item) e = let clash : Retry ≡ Mutual = e in cc
scram_choosing_not items moment None e = let clash : NoOffer (length items) ≡ Mutual = e in cc

choosing_not : (items : List Item) (moment : ℕ) (c : Choice) → (choosing items moment c).outcome ≡ Mutual → ⊥
choosing_not items moment choice.Nothing e = let clash : NoOffer (length items) ≡ Mutual = e in cc
choosing_not items moment (choice.Digest at) e = digest_choosing_not items (digest_chosen items at) e
choosing_not items moment (choice.Scram at) e = scram_choosing_not items moment (slice_get items at) e

following_not : (b : Bool) (x : Exchange) → (if b then conclusion Retry (Answer x) else malformed).outcome ≡ Mutual → ⊥
following_not true x e = let clash : Retry ≡ Mutual = e in cc
following_not false x e = let clash : Malformed 0 ≡ Mutual = e in cc

answering_not : (user : User) (first : First) (sid : List ℕ) (told : Heard) → (answering user first sid told).outcome ≡ Mutual → ⊥
answering_not user first sid (heard.First message) e = following_not (follows first.nonce message) (exchange_of user first sid message) e
answering_not user first sid heard.Nothing e = let clash : Malformed 0 ≡ Mutual = e in cc
answering_not user first sid (heard.Final message) e = let clash : Malformed 0 ≡ Mutual = e in cc

after_begun_not : (user : User) (sid : List ℕ) (told : Heard) (progress : Progress) → (after_begun user sid told progress).outcome ≡ Mutual → ⊥
after_begun_not user sid told (Begun first) e = answering_not user first sid told e
after_begun_not user sid told progress.Nothing e = let clash : Refused ≡ Mutual = e in cc
after_begun_not user sid told (Answered x) e = let clash : Refused ≡ Mutual = e in cc
after_begun_not user sid told (Finished x nonce) e = let clash : Refused ≡ Mutual = e in cc

after_first_not : (s : State) (found : Option (List ℕ × List ℕ)) (told : Heard) → (after_first s found told).outcome ≡ Mutual → ⊥
after_first_not s None told e = let clash : Refused ≡ Mutual = e in cc
after_first_not s (Some found) told e = after_begun_not s.user found.0 told s.progress e

after_again_not : (moment : ℕ) (found : Option Item) → (after_again moment found).outcome ≡ Mutual → ⊥
after_again_not moment None e = let clash : Refused ≡ Mutual = e in cc
after_again_not moment (Some item) e = let clash : Retry ≡ Mutual = e in cc

renewing_not : (nonce : Option (List ℕ)) → (renewing nonce).outcome ≡ Mutual → ⊥
renewing_not (Some nonce) e = let clash : Retry ≡ Mutual = e in cc
renewing_not None e = let clash : Refused ≡ Mutual = e in cc

limited_not : (b : Bool) (nonce : Option (List ℕ)) → (if b then renewing nonce else refusal).outcome ≡ Mutual → ⊥
limited_not true n e = renewing_not n e
limited_not false n e = let clash : Refused ≡ Mutual = e in cc

after_choice_not : (stale : ℕ) (items : List Item) (choice : Chosen) → (after_choice stale items choice).outcome ≡ Mutual → ⊥
after_choice_not stale items Nothing e = let clash : Refused ≡ Mutual = e in cc
after_choice_not stale items (Scram choice) e = let clash : Refused ≡ Mutual = e in cc
after_choice_not stale items (Digest choice) e = limited_not (nat_lt stale 2) (renewed choice.challenge items) e

challenged_not : (s : State) (what : Sent) (items : List Item) (moment : ℕ) (told : Heard) → (challenged s what items moment told).outcome ≡ Mutual → ⊥
challenged_not s sent.Nothing items moment told e = choosing_not items moment (choice_of items) e
challenged_not s (sent.Digest item) items moment told e = after_choice_not s.stale items s.choice e
challenged_not s (sent.ScramFirst item) items moment told e = after_first_not s (continued items) told e
challenged_not s (sent.ScramFinal item) items moment told e = let clash : Refused ≡ Mutual = e in cc
challenged_not s (sent.ScramAgain item) items moment told e = after_again_not moment (find is_of_scram items) e

unproved_not : (what : Sent) → (unproved what).outcome ≡ Mutual → ⊥
unproved_not sent.Nothing e = let clash : OneWay ≡ Mutual = e in cc
unproved_not (sent.Digest item) e = let clash : OneWay ≡ Mutual = e in cc
unproved_not (sent.ScramFirst item) e = let clash : OneWay ≡ Mutual = e in cc
unproved_not (sent.ScramFinal item) e = let clash : OneWay ≡ Mutual = e in cc
unproved_not (sent.ScramAgain item) e = let clash : OneWay ≡ Mutual = e in cc

abbrev IsWrong : Type 0
IsWrong = WrongProof ≡ Mutual

signed_mutual : (there : Bool) (absent proved : Change) (b : Bool) → (signed_told there absent proved b).outcome ≡ Mutual → b ≡ true
signed_mutual false absent proved b e = absurd (let clash : OneWay ≡ Mutual = e in cc)
signed_mutual true absent proved b e = test_true b proved e

final_proves : (s : State) (params : List Param) (told : Heard) (progress : Progress) → s.progress ≡ progress → final_signed told progress ≡ true
    → HearsIn HearsFinal (value_of (codes "data") params) told → ProvesFinal s params
final_proves s params told (Answered x) is e hears = record { exchange = x; sent = is; proof = signed_proves params x x.nonce told e hears }
final_proves s params told progress.Nothing is e hears = absurd (true≢false (sym e))
final_proves s params told (Begun first) is e hears = absurd (true≢false (sym e))
final_proves s params told (Finished x nonce) is e hears = absurd (true≢false (sym e))

again_proves : (s : State) (params : List Param) (told : Heard) (progress : Progress) → s.progress ≡ progress → again_signed told progress ≡ true
    → HearsIn HearsFinal (value_of (codes "data") params) told → ProvesAgain s params
again_proves s params told (Finished x nonce) is e hears = record { exchange = x; nonce = nonce; sent = is; proof = signed_proves params x nonce told e hears }
again_proves s params told progress.Nothing is e hears = absurd (true≢false (sym e))
again_proves s params told (Begun first) is e hears = absurd (true≢false (sym e))
again_proves s params told (Answered x) is e hears = absurd (true≢false (sym e))

informed_proves : (s : State) (request : OutRequest) (what : Sent) (response : Response) (params : List Param) (told : Heard) → Hears what (said.Info params) told
    → (informed s request what response params told).outcome ≡ Mutual → (is_provable what ≡ true) × IsProof s request what response params
informed_proves s request sent.Nothing response params told hears e = absurd (let clash : IsWrong = e in cc)
informed_proves s request (sent.Digest item) response params told hears e =
    (refl, digest_proves s.user request item response params (credentials_of (params_of item.rest)) (info_of params) refl refl e)
informed_proves s request (sent.ScramFirst item) response params told hears e = absurd (let clash : IsWrong = e in cc)
informed_proves s request (sent.ScramFinal item) response params told hears e =
    (refl, final_proves s params told s.progress refl (signed_mutual (has_message params) Fail Finish (final_signed told s.progress) e) hears)
informed_proves s request (sent.ScramAgain item) response params told hears e =
    (refl, again_proves s params told s.progress refl (signed_mutual (has_message params) Pass Pass (again_signed told s.progress) e) hears)

proves : (s : State) (request : OutRequest) (what : Sent) (response : Response) (moment : ℕ) (read : Said) (told : Heard) → Says s.role what response read → Hears what read told
    → (concluded s request what response moment read told).outcome ≡ Mutual → Proves s request what response
proves s request what response moment (said.Malformed at) told says hears e = absurd (let clash : Malformed at ≡ Mutual = e in cc)
proves s request what response moment (said.Challenge items) told says hears e = absurd (challenged_not s what items moment told e)
proves s request what response moment said.Nothing told says hears e = absurd (unproved_not what e)
proves s request what response moment (said.Info params) told says hears e =
    let proof = informed_proves s request what response params told hears e in
    let lines = info_lines (lines_of response (info_name s.role)) params (says.proof says.challenge proof.0) in
    record { no_challenge = says.challenge; params = params; there = lines.0; spelled = lines.1; proof = proof.1 }

-- ---- to the outcome

digest_mutual : (user : User) (request : OutRequest) (item : Item) (response : Response) (params : List Param) → ProvesDigest user request item response params
    → (digest_informed user (answered_body request response) (credentials_of (params_of item.rest)) (info_of params)).outcome ≡ Mutual
digest_mutual user request item response params h =
    let c = h.credentials in
    let i = h.info in
    let body : List ℕ = answered_body request response in
    let right : List ℕ = right_value user c body in
    let first = both_true (absent_or (option_map qop_name i.qop) (qop_name c.qop)) (absent_or i.cnonce c.cnonce) (absent_qop_true i.qop c.qop h.qop) (absent_true i.cnonce c.cnonce h.cnonce) in
    let agree : agrees i c ≡ true = both_true (absent_or (option_map qop_name i.qop) (qop_name c.qop) && absent_or i.cnonce c.cnonce) (absent_or i.nc c.nc) first (absent_true i.nc c.nc h.nc) in
    let test : bytes_eq right right && agrees i c ≡ true = both_true (bytes_eq right right) (agrees i c) ((bytes_eq-Decides right right).1 refl) agree in
    ap (λ (r : Result Credentials FieldError). (digest_informed user body r (info_of params)).outcome) h.credentials_are
    ∙ ap (λ (r : Result Info FieldError). (digest_informed user body (Ok c) r).outcome) h.info_is
    ∙ ap (λ (value : Option (List ℕ)). (told user body c i value).outcome) h.value
    ∙ ap (λ (b : Bool). (if b then conclusion Mutual (mutual_change i.nextnonce) else wrong).outcome) test

signed_outcome : (there : Bool) (absent proved : Change) (b : Bool) → there ≡ true → b ≡ true → (signed_told there absent proved b).outcome ≡ Mutual
signed_outcome there absent proved b is e = rw (is, e) refl

final_mutual : (s : State) (params : List Param) (told : Heard) → ProvesFinal s params → HearsIn HearsFinal (value_of (codes "data") params) told → (final_told s params told).outcome ≡ Mutual
final_mutual s params told h hears =
    signed_outcome (has_message params) Fail Finish (final_signed told s.progress) (ap is_some h.proof.there)
    (ap (final_signed told) h.sent ∙ proves_signed params h.exchange h.exchange.nonce told h.proof hears)

again_mutual : (s : State) (params : List Param) (told : Heard) → ProvesAgain s params → HearsIn HearsFinal (value_of (codes "data") params) told → (again_told s params told).outcome ≡ Mutual
again_mutual s params told h hears =
    signed_outcome (has_message params) Pass Pass (again_signed told s.progress) (ap is_some h.proof.there)
    (ap (again_signed told) h.sent ∙ proves_signed params h.exchange h.nonce told h.proof hears)

provable : (s : State) (request : OutRequest) (what : Sent) (response : Response) (params : List Param) → IsProof s request what response params → is_provable what ≡ true
provable s request sent.Nothing response params h = absurd h
provable s request (sent.Digest item) response params h = refl
provable s request (sent.ScramFirst item) response params h = absurd h
provable s request (sent.ScramFinal item) response params h = refl
provable s request (sent.ScramAgain item) response params h = refl

informed_mutual : (s : State) (request : OutRequest) (what : Sent) (response : Response) (params : List Param) (told : Heard) → IsProof s request what response params
    → Hears what (said.Info params) told → (informed s request what response params told).outcome ≡ Mutual
informed_mutual s request sent.Nothing response params told h hears = absurd h
informed_mutual s request (sent.Digest item) response params told h hears = digest_mutual s.user request item response params h
informed_mutual s request (sent.ScramFirst item) response params told h hears = absurd h
informed_mutual s request (sent.ScramFinal item) response params told h hears = final_mutual s params told h hears
informed_mutual s request (sent.ScramAgain item) response params told h hears = again_mutual s params told h hears

means_mutual : (s : State) (request : OutRequest) (what : Sent) (response : Response) (moment : ℕ) (read : Said) (told : Heard) → Says s.role what response read → Hears what read told
    → Proves s request what response → (concluded s request what response moment read told).outcome ≡ Mutual
means_mutual s request what response moment read told says hears h =
    let shown = provable s request what response h.params h.proof in
    let is : read ≡ said.Info h.params = info_only (lines_of response (info_name s.role)) read h.params h.there h.spelled (says.proof h.no_challenge shown) in
    ap (λ (x : Said). (concluded s request what response moment x told).outcome) is
    ∙ informed_mutual s request what response h.params told h.proof (subst (λ (x : Said). Hears what x told) is hears)

pub mutual_exactly : MutualExactly
mutual_exactly s t request what response moment outcome h = (
  (λ e. proves s request what response moment h.said h.heard h.says h.hears (sym h.means ∙ e)),
  (λ p. h.means ∙ means_mutual s request what response moment h.said h.heard h.says h.hears p),
)

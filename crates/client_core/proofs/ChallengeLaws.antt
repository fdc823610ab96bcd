-- What a client keeps of a challenge.
use Rattle.std.proofs.Common.{◌≡◌, ◌⊎◌, inl, inr, ◌∙◌, ℕ, true, false, List, [], ◌∷◌, Option, Some, None, refl, ap, subst}
use Rattle.std.specs.Prelude.{Result, Ok, Err, IsTrue, option_map}
use Rattle.std.specs.List.{join_with_byte, list_all}
use Rattle.auth_grammar.specs.Answers.{AnswersChallenges, Refuses}
use Rattle.auth_grammar.specs.RoleFields.{challenge_name}
use Rattle.auth_grammar.specs.Valid.{is_valid}
use Rattle.auth_grammar.specs.Writing.{items_text}
use Rattle.auth_grammar.specs.declared.error.GrammarError.{GrammarError}
use Rattle.auth_grammar.specs.declared.error.GrammarError.TheVariants.{OutOfMemory}
use Rattle.auth_grammar.specs.declared.grammar.Grammar.TheVariants as Of
use Rattle.auth_grammar.specs.declared.items.Quoting.{Quoting}
use Rattle.auth_grammar.proofs.RoundTrip.{reads_items}
use Rattle.auth_hash.specs.declared.algorithm.Algorithm.TheVariants.{Sha256, Sha512t256}
use Rattle.auth_hash.specs.Algorithm.{same_algorithm}
use Rattle.auth_grammar.specs.declared.items.Item.{Item}
use Rattle.digest_fields.specs.Challenge.{Challenge}
use Rattle.http_wire.specs.declared.response.Response.{Response}
use Rattle.client_core.specs.declared.choice.Choice.{Choice}
use Rattle.client_core.specs.declared.choice.Choice.TheVariants as choice
use Rattle.client_core.specs.declared.hearing.Heard.{Heard}
use Rattle.client_core.specs.declared.hearing.Heard.TheVariants as heard
use Rattle.client_core.specs.declared.outcome.Outcome.{Outcome}
use Rattle.client_core.specs.declared.reading.Said.{Said}
use Rattle.client_core.specs.declared.reading.Said.TheVariants as said
use Rattle.client_core.specs.declared.request.OutRequest.{OutRequest}
use Rattle.client_core.specs.declared.request.Sent.TheVariants as sent
use Rattle.client_core.specs.declared.state.Change.{Change}
use Rattle.client_core.specs.declared.state.Change.TheVariants as change
use Rattle.client_core.specs.declared.state.Chosen.{Chosen}
use Rattle.client_core.specs.declared.state.Chosen.TheVariants as chosen
use Rattle.client_core.specs.declared.state.State.{State}
use Rattle.client_core.specs.Changes.{applied}
use Rattle.client_core.specs.Choices.{choice_of, is_scram, offered}
use Rattle.client_core.specs.Clients.{Concludes}
use Rattle.client_core.specs.Conclusions.{begun, challenged_state, choosing, concluded, digest_choosing, digest_chosen}
use Rattle.client_core.specs.Hearings.{Hears}
use Rattle.client_core.specs.Readings.{IsFaultAt, SaysItems, SpellsItems, challenge_status, lines_of}

-- ---- a challenge that is heard

-- one challenge of Digest by SHA-256 is answered from then on
pub hears_digest : (s : State) (request : OutRequest) (response : Response) (moment : ℕ) (item : Item) (c : Challenge) → is_scram item ≡ false → offered item ≡ Some c
    → same_algorithm c.kind.alg Sha512t256 ≡ false → same_algorithm c.kind.alg Sha256 ≡ true
    → challenged_state s request response moment (item ∷ []) ≡ record s { choice = chosen.Digest (begun c) }
hears_digest s request response moment item c scram is other alg =
    let place : choice_of (item ∷ []) ≡ choice.Digest 0 = rw (scram, is, other, alg) refl in
    let found : digest_chosen (item ∷ []) 0 ≡ Some (chosen.Digest (begun c)) = ap (option_map (λ (x : Challenge). chosen.Digest (begun x))) is in
    ap (λ (x : Choice). applied (choosing (item ∷ []) moment x).change s) place
    ∙ ap (λ (x : Option Chosen). applied (digest_choosing (item ∷ []) x).change s) found

-- one that isn't accepted changes nothing
pub hears_none : (s : State) (request : OutRequest) (response : Response) (moment : ℕ) (item : Item) → is_scram item ≡ false → offered item ≡ None
    → challenged_state s request response moment (item ∷ []) ≡ s
hears_none s request response moment item scram is = rw (scram, is) refl

-- ---- what was said

answers : (text : List ℕ) (items : List Item) → SpellsItems text items → AnswersChallenges text (Ok items)
answers text items h = record { spelled = h.spelled; only = h.only; single = h.single; valid = h.valid; refused = tt }

refuses : (text : List ℕ) (error : GrammarError) → Refuses Of.Challenges text error → AnswersChallenges text (Err error)
refuses text error h = record { spelled = tt; only = tt; single = tt; valid = tt; refused = h }

no_fault : (at : ℕ) (error : GrammarError) → error ≡ OutOfMemory → IsFaultAt at error → ⊥
no_fault at error is fault = subst (IsFaultAt at) is fault

says_these : (quoting : Quoting) (items : List Item) (told : Said) → IsTrue (list_all is_valid items) → SaysItems (items_text quoting items) told → told ≡ said.Challenge items
says_these quoting items (said.Info params) valid says = absurd says
says_these quoting items said.Nothing valid says = absurd says
says_these quoting items (said.Challenge others) valid says = by (reads_items quoting items valid (Ok others) (answers (items_text quoting items) others says))
  where
    by : (let r : Result (List Item) GrammarError = Ok others in (r ≡ Ok items) ⊎ (r ≡ Err OutOfMemory)) → said.Challenge others ≡ said.Challenge items
    by (inl same) = ap said.Challenge (let both : Ok others ≡ Ok items = same in cc)
    by (inr other) = absurd (let wrong : Ok others ≡ Err OutOfMemory = other in cc)
says_these quoting items (said.Malformed at) valid says = absurd (by (reads_items quoting items valid (Err says.0) (refuses (items_text quoting items) says.0 says.2)))
  where
    by : (let r : Result (List Item) GrammarError = Err says.0 in (r ≡ Ok items) ⊎ (r ≡ Err OutOfMemory)) → ⊥
    by (inl other) = (let wrong : Err says.0 ≡ Ok items = other in cc)
    by (inr same) = no_fault at says.0 (let both : Err says.0 ≡ Err OutOfMemory = same in cc) says.1

one_text : (text : List ℕ) → join_with_byte 44 (text ∷ []) ≡ text
one_text text = refl

told_nothing : (what : Said) (told : Heard) (items : List Item) → what ≡ said.Challenge items → Hears sent.Nothing what told → told ≡ heard.Nothing
told_nothing what told items is h = subst (λ (x : Said). Hears sent.Nothing x told) is h

-- A response whose one line has these challenges leaves the client so.
pub concludes_challenge : (s t : State) (request : OutRequest) (response : Response) (moment : ℕ) (outcome : Outcome) (quoting : Quoting) (items : List Item) → IsTrue (list_all is_valid items)
    → response.status ≡ challenge_status s.role → lines_of response (challenge_name s.role) ≡ items_text quoting items ∷ []
    → Concludes s request sent.Nothing response moment outcome t → t ≡ challenged_state s request response moment items
concludes_challenge s t request response moment outcome quoting items valid status lines c =
    let text : join_with_byte 44 (lines_of response (challenge_name s.role)) ≡ items_text quoting items = ap (join_with_byte 44) lines ∙ one_text (items_text quoting items) in
    let says = subst (λ (x : List ℕ). SaysItems x c.said) text (c.says.challenge status) in
    let is : c.said ≡ said.Challenge items = says_these quoting items c.said valid says in
    let told : c.heard ≡ heard.Nothing = told_nothing c.said c.heard items is c.hears in
    c.keeps
    ∙ ap (λ (x : Said). applied (concluded s request sent.Nothing response moment x c.heard).change s) is
    ∙ ap (λ (x : Heard). applied (concluded s request sent.Nothing response moment (said.Challenge items) x).change s) told

-- ---- the role

change_role : (c : Change) (s : State) → (applied c s).role ≡ s.role
change_role change.Keep s = refl
change_role (change.Choose new) s = refl
change_role (change.Begin new reuse) s = refl
change_role (change.Renew nonce) s = refl
change_role (change.Answer x) s = refl
change_role (change.Replace reuse) s = refl
change_role change.Forget s = refl
change_role change.Pass s = refl
change_role (change.PassTo nonce) s = refl
change_role change.Finish s = refl
change_role change.Fail s = refl

-- a challenge leaves it
pub challenged_role : (s : State) (request : OutRequest) (response : Response) (moment : ℕ) (items : List Item) → (challenged_state s request response moment items).role ≡ s.role
challenged_role s request response moment items = change_role (concluded s request sent.Nothing response moment (said.Challenge items) heard.Nothing).change s

-- What comes of credentials that a space takes.
use Rattle.std.proofs.Common.{◌≡◌, ◌⊎◌, inl, inr, ℕ, Bool, true, false, true≢false, if◌then◌else◌, Option, Some, None, List, [], ◌∷◌, ◌++◌, slice_get, IfSome, refl, sym, ap, ◌∙◌, subst}
use Rattle.std.specs.Option.{option_or}
use Rattle.std.proofs.lemmas.Slice.Eq.{bytes_eq-Decides}
use Rattle.arrayvec.specs.ArrayVec.{ArrayVec}
use Rattle.digest_fields.specs.Nc.{nc_number}
use Rattle.nonce_shard.specs.History.{time_at}
use Rattle.nonce_shard.specs.Nonces.{is_live}
use Rattle.nonce_shard.specs.Replies.{answered, reply}
use Rattle.nonce_shard.specs.declared.calls.Call.{Call}
use Rattle.nonce_shard.specs.declared.calls.NonceKind.TheVariants.{Digest}
use Rattle.nonce_shard.specs.declared.calls.Reply.TheVariants.{Prime, Gone}
use Rattle.nonce_shard.specs.declared.names.TableName.{TableName}
use Rattle.nonce_shard.specs.declared.sizes.Sizes.{Sizes}
use Rattle.spaces_map.specs.declared.space.Space.{Space}
use Rattle.auth_decide.specs.Asks.{peek}
use Rattle.auth_decide.specs.Responses.{is_right, right_response}
use Rattle.auth_decide.specs.Stages.{Question, candidate_stage, challenge_stage, response_stage, right_stage, stage_after_peek}
use Rattle.auth_decide.specs.VerifiedCredentials.{verified}
use Rattle.auth_decide.specs.declared.candidate.Candidate.{Candidate}
use Rattle.auth_decide.specs.declared.stages.Stage.TheVariants as stage
use Rattle.auth_decide.specs.declared.verdict.Ask.TheVariants as asks
use Rattle.auth_decide.specs.declared.verdict.Verdict.{Verdict}
use Rattle.admission.specs.Admission.{IsLiveBehind, prime_behind, prime_of, prime_or}
use Rattle.admission.specs.Outcomes.{Admits, IsUnusedBehind}
use Rattle.admission.specs.Steps.{Step, Called, OnlyIssue, calls_before_nonce}
use Rattle.admission.proofs.Runs.{IsUseOf, Run, at_call, challenged, use_reply_of, use_step, uses_none, using}

-- valid credentials, of this name of the table
pub record AreValidOf (sizes : Sizes) (q : Question) (space : Space) (c : Candidate) (n : TableName) (steps : List Step) : Type 0 where
  pub right : c.credentials.response ≡ right_response q.request c (prime_of sizes c n steps)
  pub live : IfSome (calls_before_nonce steps) (λ before. IsLiveBehind sizes q space n before)
  pub unused : IfSome (calls_before_nonce steps) (λ before. IsUnusedBehind sizes n (nc_number c.credentials.nc) before)
  pub session : c.credentials.kind.session ≡ true
      → IfSome (calls_before_nonce steps) (λ before. IfSome (prime_behind sizes n before) (λ begun. begun.items ≡ prime_of sizes c n steps))

-- They are challenged: nobody is admitted, and they aren't valid.
pub record AreRejected (sizes : Sizes) (q : Question) (space : Space) (c : Candidate) (n : TableName) (steps : List Step) (verdict : Verdict) : Type 0 where
  pub never : (user : List ℕ) → Admits user verdict → ⊥
  pub invalid : AreValidOf sizes q space c n steps → ⊥

-- Their count is used behind these calls, with a right response by this client's nonce.
pub record AreUsed (sizes : Sizes) (q : Question) (space : Space) (c : Candidate) (n : TableName) (steps : List Step) (verdict : Verdict) : Type 0 where
  pub before : List Step
  pub calls : List Call
  pub after : List Step
  pub prime : List ℕ
  pub is : steps ≡ before ++ use_step q space n c prime calls ∷ after
  pub leads : IsUseOf c (use_reply_of sizes q space n c prime calls) after verdict
  pub behind : calls_before_nonce steps ≡ Some calls
  pub right : c.credentials.response ≡ right_response q.request c prime
  pub value : right_response q.request c (prime_of sizes c n steps) ≡ right_response q.request c prime
  pub session : c.credentials.kind.session ≡ true → prime_of sizes c n steps ≡ prime

abbrev pub Outcome : Sizes → Question → Space → Candidate → TableName → List Step → Verdict → Type 0
Outcome sizes q space c n steps verdict = AreRejected sizes q space c n steps verdict ⊎ AreUsed sizes q space c n steps verdict

-- ---- the response

not_right : (q : Question) (c : Candidate) (prime : List ℕ) → is_right q.request c prime ≡ false → c.credentials.response ≡ right_response q.request c prime → ⊥
not_right q c prime wrong e = true≢false (sym ((bytes_eq-Decides c.credentials.response (right_response q.request c prime)).1 e) ∙ wrong)

is_value : (q : Question) (c : Candidate) (prime : List ℕ) → is_right q.request c prime ≡ true → c.credentials.response ≡ right_response q.request c prime
is_value q c prime right = (bytes_eq-Decides c.credentials.response (right_response q.request c prime)).0 right

-- the client's nonce matters for a session alone
plain_value : (q : Question) (c : Candidate) (one other : List ℕ) → c.credentials.kind.session ≡ false → right_response q.request c one ≡ right_response q.request c other
plain_value q c one other plain = rw plain refl

by_response : (sizes : Sizes) (q : Question) (space : Space) (c : Candidate) (prime : List ℕ) (n : Option TableName) (steps : List Step) (verdict : Verdict) (right : Bool) → is_right q.request c prime ≡ right
    → Run sizes q space (response_stage q.request c prime n) steps verdict → Run sizes q space (if right then right_stage (verified c prime) n else challenge_stage false) steps verdict
by_response sizes q space c prime n steps verdict right is run = subst (λ (b : Bool). Run sizes q space (if b then right_stage (verified c prime) n else challenge_stage false) steps verdict) is run

-- where the table can't have the nonce, it is a challenge
pub without_nonce : (sizes : Sizes) (q : Question) (space : Space) (c : Candidate) (prime : List ℕ) (steps : List Step) (verdict : Verdict) → Run sizes q space (response_stage q.request c prime None) steps verdict
    → OnlyIssue steps × ((user : List ℕ) → Admits user verdict → ⊥)
without_nonce sizes q space c prime steps verdict run = by (is_right q.request c prime) refl
  where
    by : (right : Bool) → is_right q.request c prime ≡ right → OnlyIssue steps × ((user : List ℕ) → Admits user verdict → ⊥)
    by true is = challenged sizes q space true steps verdict (by_response sizes q space c prime None steps verdict true is run)
    by false is = challenged sizes q space false steps verdict (by_response sizes q space c prime None steps verdict false is run)

-- ---- a kind without sessions

plain_outcome : (sizes : Sizes) (q : Question) (space : Space) (c : Candidate) (n : TableName) (steps : List Step) (verdict : Verdict) → c.credentials.kind.session ≡ false
    → Run sizes q space (response_stage q.request c c.credentials.cnonce (Some n)) steps verdict → Outcome sizes q space c n steps verdict
plain_outcome sizes q space c n steps verdict plain run = by (is_right q.request c c.credentials.cnonce) refl
  where
    used : (calls : List Call) (after : List Step) → c.credentials.response ≡ right_response q.request c c.credentials.cnonce
        → IsUseOf c (use_reply_of sizes q space n c c.credentials.cnonce calls) after verdict → Outcome sizes q space c n (use_step q space n c c.credentials.cnonce calls ∷ after) verdict
    used calls after right leads = inr (record {
      before = [];
      calls = calls;
      after = after;
      prime = c.credentials.cnonce;
      is = refl;
      leads = leads;
      behind = refl;
      right = right;
      value = plain_value q c _ c.credentials.cnonce plain;
      session = λ session. absurd (true≢false (sym session ∙ plain));
    })

    by : (right : Bool) → is_right q.request c c.credentials.cnonce ≡ right → Outcome sizes q space c n steps verdict
    by true is = using sizes q space c n c.credentials.cnonce verdict (λ l. Outcome sizes q space c n l verdict)
        (λ calls after. used calls after (is_value q c c.credentials.cnonce is)) steps (by_response sizes q space c c.credentials.cnonce (Some n) steps verdict true is run)
    by false is = inl (record {
      never = (challenged sizes q space false steps verdict (by_response sizes q space c c.credentials.cnonce (Some n) steps verdict false is run)).1;
      invalid = λ v. not_right q c c.credentials.cnonce is (v.right ∙ plain_value q c _ c.credentials.cnonce plain);
    })

-- ---- a session

-- the nonce is looked up behind these calls
abbrev peek_step : Question → Space → TableName → List Call → Step
peek_step q space n calls = Called n.shard calls (peek q.moment space n)

looked_up : (sizes : Sizes) (q : Question) (space : Space) (c : Candidate) (n : TableName) (calls : List Call) (rest : List Step) (verdict : Verdict) (prime : List ℕ)
    → prime_or c.credentials.cnonce (prime_behind sizes n calls) ≡ prime → Run sizes q space (response_stage q.request c prime (Some n)) rest verdict
    → Outcome sizes q space c n (peek_step q space n calls ∷ rest) verdict
looked_up sizes q space c n calls rest verdict prime held run = by (is_right q.request c prime) refl
  where
    used : (use_calls : List Call) (after : List Step) → c.credentials.response ≡ right_response q.request c prime
        → IsUseOf c (use_reply_of sizes q space n c prime use_calls) after verdict → Outcome sizes q space c n (peek_step q space n calls ∷ use_step q space n c prime use_calls ∷ after) verdict
    used use_calls after right leads = inr (record {
      before = peek_step q space n calls ∷ [];
      calls = use_calls;
      after = after;
      prime = prime;
      is = refl;
      leads = leads;
      behind = refl;
      right = right;
      value = ap (right_response q.request c) held;
      session = λ session. held;
    })

    by : (right : Bool) → is_right q.request c prime ≡ right → Outcome sizes q space c n (peek_step q space n calls ∷ rest) verdict
    by true is = using sizes q space c n prime verdict (λ l. Outcome sizes q space c n (peek_step q space n calls ∷ l) verdict)
        (λ use_calls after. used use_calls after (is_value q c prime is)) rest (by_response sizes q space c prime (Some n) rest verdict true is run)
    by false is = inl (record {
      never = (challenged sizes q space false rest verdict (by_response sizes q space c prime (Some n) rest verdict false is run)).1;
      invalid = λ v. not_right q c prime is (v.right ∙ ap (right_response q.request c) held);
    })

gone : (sizes : Sizes) (q : Question) (space : Space) (c : Candidate) (n : TableName) (calls : List Call) (rest : List Step) (verdict : Verdict)
    → is_live sizes n.shard (answered sizes n.shard calls) n Digest space.number (time_at (answered sizes n.shard calls) q.moment) ≡ false
    → Run sizes q space (response_stage q.request c c.credentials.cnonce None) rest verdict → Outcome sizes q space c n (peek_step q space n calls ∷ rest) verdict
gone sizes q space c n calls rest verdict dead run =
    let none = without_nonce sizes q space c c.credentials.cnonce rest verdict run in
    let behind : calls_before_nonce (peek_step q space n calls ∷ rest) ≡ Some calls = ap (λ (l : List (List Call)). option_or (slice_get l 0) (Some calls)) (uses_none rest none.0) in
    inl (record {
      never = none.1;
      invalid = λ v. (let live : IsLiveBehind sizes q space n calls = subst (λ (o : Option (List Call)). IfSome o (λ before. IsLiveBehind sizes q space n before)) behind v.live in true≢false (sym live ∙ dead));
    })

peeked : (sizes : Sizes) (q : Question) (space : Space) (c : Candidate) (n : TableName) (calls : List Call) (rest : List Step) (verdict : Verdict)
    → Run sizes q space (stage_after_peek q.request c n (reply sizes n.shard calls (peek q.moment space n))) rest verdict → Outcome sizes q space c n (peek_step q space n calls ∷ rest) verdict
peeked sizes q space c n calls rest verdict run = by (is_live sizes n.shard (answered sizes n.shard calls) n Digest space.number (time_at (answered sizes n.shard calls) q.moment)) refl
  where
    held : (p : Option (ArrayVec ℕ)) → prime_behind sizes n calls ≡ p → Run sizes q space (stage_after_peek q.request c n (Prime p)) rest verdict → Outcome sizes q space c n (peek_step q space n calls ∷ rest) verdict
    held None is live_run = looked_up sizes q space c n calls rest verdict c.credentials.cnonce (ap (prime_or c.credentials.cnonce) is) live_run
    held (Some prime) is live_run = looked_up sizes q space c n calls rest verdict prime.items (ap (prime_or c.credentials.cnonce) is) live_run

    by : (live : Bool) → is_live sizes n.shard (answered sizes n.shard calls) n Digest space.number (time_at (answered sizes n.shard calls) q.moment) ≡ live → Outcome sizes q space c n (peek_step q space n calls ∷ rest) verdict
    by true live = held (prime_behind sizes n calls) refl
        (subst (λ (b : Bool). Run sizes q space (stage_after_peek q.request c n (if b then Prime (prime_behind sizes n calls) else Gone)) rest verdict) live run)
    by false dead = gone sizes q space c n calls rest verdict dead
        (subst (λ (b : Bool). Run sizes q space (stage_after_peek q.request c n (if b then Prime (prime_behind sizes n calls) else Gone)) rest verdict) dead run)

session_outcome : (sizes : Sizes) (q : Question) (space : Space) (c : Candidate) (n : TableName) (steps : List Step) (verdict : Verdict)
    → Run sizes q space (stage.Peeking c n) steps verdict → Outcome sizes q space c n steps verdict
session_outcome sizes q space c n [] verdict run = absurd (let no : asks.Table n.shard (peek q.moment space n) ≡ asks.Verdict verdict = run in cc)
session_outcome sizes q space c n (step ∷ rest) verdict run =
    let P : List Step → Type 0 = λ l. Run sizes q space (stage.Peeking c n) l verdict → Outcome sizes q space c n l verdict in
    at_call P n.shard (peek q.moment space n) step rest run.0 (λ before next. peeked sizes q space c n before rest verdict next.1) run

-- ---- both kinds

pub outcome : (sizes : Sizes) (q : Question) (space : Space) (c : Candidate) (n : TableName) (steps : List Step) (verdict : Verdict)
    → Run sizes q space (candidate_stage q.request c (Some n)) steps verdict → Outcome sizes q space c n steps verdict
outcome sizes q space c n steps verdict run = by c.credentials.kind.session refl
  where
    there : (session : Bool) → c.credentials.kind.session ≡ session
        → Run sizes q space (if session then stage.Peeking c n else response_stage q.request c c.credentials.cnonce (Some n)) steps verdict
    there session is = subst (λ (b : Bool). Run sizes q space (if b then stage.Peeking c n else response_stage q.request c c.credentials.cnonce (Some n)) steps verdict) is run

    by : (session : Bool) → c.credentials.kind.session ≡ session → Outcome sizes q space c n steps verdict
    by true is = session_outcome sizes q space c n steps verdict (there true is)
    by false is = plain_outcome sizes q space c n steps verdict is (there false is)

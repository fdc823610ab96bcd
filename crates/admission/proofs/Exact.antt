-- A well-formed request is admitted exactly where its credentials are valid.
use Rattle.std.proofs.Common.{fold, ◌≡◌, ◌↔◌, inl, inr, ℕ, ◌<◌, ◌+◌, ◌==◌, Bool, true, false, if◌then◌else◌, nat_lt, nat_le, length, Option, Some, None, List, IfSome, refl, sym, ap, ◌∙◌, subst, arith}
use Rattle.std.specs.List.{list_any}
use Rattle.std.specs.Option.{option_and_then, option_map}
use Rattle.std.proofs.lemmas.Bool.Decides.{nat_tests}
use Rattle.auth_grammar.specs.Names.{params_of}
use Rattle.cred_store.specs.declared.entry.Entry.{Entry}
use Rattle.digest_fields.specs.Credentials.{Credentials, credentials_of}
use Rattle.digest_fields.specs.Nc.{nc_number}
use Rattle.nonce_shard.proofs.OneName.{names_one}
use Rattle.nonce_shard.specs.Names.{IsName, name_text}
use Rattle.nonce_shard.specs.Nonces.{is_live, is_other}
use Rattle.nonce_shard.specs.Replies.{answered}
use Rattle.nonce_shard.specs.History.{time_at}
use Rattle.nonce_shard.specs.declared.calls.Call.{Call}
use Rattle.nonce_shard.specs.declared.calls.NonceKind.TheVariants.{Digest}
use Rattle.nonce_shard.specs.declared.calls.Reply.TheVariants.{Fresh}
use Rattle.nonce_shard.specs.declared.names.TableName.{TableName}
use Rattle.nonce_shard.specs.declared.sizes.Sizes.{Sizes}
use Rattle.count_window.specs.Window.{high}
use Rattle.count_window.specs.declared.window.TheConstants.{WIDTH}
use Rattle.spaces_map.specs.declared.space.Space.{Space}
use Rattle.auth_decide.proofs.Folds.{asked_at}
use Rattle.auth_decide.specs.Asks.{ask_in as asked_in, asked, given_prime, next_ask}
use Rattle.auth_decide.specs.Candidates.{candidate_of, user_of, with_secret, with_user}
use Rattle.auth_decide.specs.Messages.{Names}
use Rattle.auth_decide.specs.Credentials.{Reads, credentials_lines, nonce_in, other_scheme, presented, presented_digest}
use Rattle.auth_decide.specs.Stages.{Question, candidate_stage, first_stage, first_stage_in, name_within, presented_stage, protection_space, stage_after, taken_stage}
use Rattle.auth_decide.specs.VerifiedCredentials.{verified}
use Rattle.auth_decide.specs.declared.candidate.Candidate.{Candidate}
use Rattle.auth_decide.specs.declared.credentials.Presented.{Presented}
use Rattle.auth_decide.specs.declared.credentials.Presented.TheVariants as presents
use Rattle.auth_decide.specs.declared.stages.Stage.{Stage}
use Rattle.auth_decide.specs.declared.stages.Stage.TheVariants as stage
use Rattle.auth_decide.specs.declared.verdict.Ask.TheVariants as asks
use Rattle.auth_decide.specs.declared.verdict.Verdict.{Verdict}
use Rattle.auth_decide.specs.declared.verdict.Why.TheVariants as why
use Rattle.admission.specs.Admission.{AdmitsExactly, AreValid, IsLiveBehind, prime_behind, prime_of}
use Rattle.admission.specs.Outcomes.{Admits, IsUnusedBehind, counts_behind}
use Rattle.admission.specs.Steps.{Step, AreAsked, answers_of, calls_before_nonce}
use Rattle.admission.proofs.Lines.{IsRead, to_read}
use Rattle.admission.proofs.Outcomes.{AreUsed, AreValidOf, Outcome, outcome, without_nonce}
use Rattle.admission.proofs.Runs.{Run, ask_in, ends_at, run_of, use_reply_of}
use Rattle.admission.proofs.UseTests.{behind_is, fresh_tests, other_is, repeated_is, tests_fresh}

-- ---- the run of a request in a space

pub run_from : (sizes : Sizes) (q : Question) (space : Space) (s : Stage) (steps : List Step) (verdict : Verdict) → protection_space q.role q.request q.site ≡ Some space → first_stage q ≡ s
    → AreAsked sizes q steps → asked q (answers_of sizes steps) ≡ asks.Verdict verdict → Run sizes q space s steps verdict
run_from sizes q space s steps verdict place first all ends =
    run_of sizes q space s steps verdict (λ before step after is. there before ∙ all before step after is) (there steps ∙ ends)
  where
    there : (done : List Step) → ask_in q space (ends_at sizes q s done) ≡ asked q (answers_of sizes done)
    there done =
        sym (ap (λ (o : Option Space). asked_in q o (ends_at sizes q s done)) place)
        ∙ ap (λ (x : Stage). next_ask q (fold (stage_after q) x (answers_of sizes done))) (sym first)
        ∙ sym (asked_at q (answers_of sizes done))

-- ---- the first stage of a well-formed request

taken : (q : Question) (space : Space) (c : Candidate) → IsRead q space c → candidate_of space q.site.store c.credentials ≡ Some c
taken q space c w =
    let store : List Entry = q.site.store in
    let cr : Credentials = c.credentials in
    ap (λ (b : Bool). if b then option_and_then (with_user store cr) (user_of store cr cr.user) else None) w.offered
    ∙ ap (option_and_then (with_user store cr)) w.user
    ∙ ap (option_map (with_secret cr c.user)) w.secret

presents_digest : (q : Question) (space : Space) (c : Candidate) → IsRead q space c → presented q.credentials.field ≡ presents.Digest c.credentials
presents_digest q space c w =
    ap presented w.spelled
    ∙ ap (λ (b : Bool). if b then presented_digest (credentials_of (params_of w.item.rest)) else other_scheme w.item) w.digest
    ∙ ap presented_digest w.fields

pub well_first : (q : Question) (space : Space) (c : Candidate) → IsRead q space c → first_stage q ≡ candidate_stage q.request c (name_within q.shards q.credentials.nonce)
unfolding first_stage
well_first q space c w =
    let name = name_within q.shards q.credentials.nonce in
    let store : List Entry = q.site.store in
    ap (first_stage_in q) w.in_space
    ∙ ap (presented_stage q.request q.shards q.credentials space store) (presents_digest q space c w)
    ∙ ap (λ (b : Bool). if b then taken_stage q.request name (candidate_of space store c.credentials) else stage.Bad why.Uri) w.uri
    ∙ ap (taken_stage q.request name) (taken q space c w)

-- the name that its nonce was read as
pub well_named : (q : Question) (space : Space) (c : Candidate) → IsRead q space c → Reads (credentials_lines q.role q.request) q.credentials → Names c.credentials.nonce q.credentials.nonce
well_named q space c w reads =
    let P : Presented → Type 0 = λ p. Names (nonce_in p) q.credentials.nonce in
    subst P (presents_digest q space c w) reads.nonce

-- ---- the name

pub below : (shards : ℕ) (n : TableName) → n.shard < shards → name_within shards (Some n) ≡ Some n
below shards n inside = ap (λ (b : Bool). if b then Some n else None) (let is : nat_lt n.shard shards ≡ true = grind (arith, nat_tests) in is)

above : (shards : ℕ) (n : TableName) → nat_lt n.shard shards ≡ false → name_within shards (Some n) ≡ None
above shards n out = ap (λ (b : Bool). if b then Some n else None) out

not_below : (a b : ℕ) → nat_lt a b ≡ false → a < b → ⊥
not_below a b out inside = grind (arith, nat_tests)

pub is_below : (a b : ℕ) → nat_lt a b ≡ true → a < b
is_below a b e = grind (arith, nat_tests)

-- the nonce is one that the table may have, or it isn't
pub data Held (q : Question) (c : Candidate) : Type 0 where
  NotHeld : name_within q.shards q.credentials.nonce ≡ None → ((n : TableName) → c.credentials.nonce ≡ name_text n → IsName n → n.shard < q.shards → ⊥) → Held q c
  IsHeld : (n : TableName) → name_within q.shards q.credentials.nonce ≡ Some n → c.credentials.nonce ≡ name_text n → IsName n → n.shard < q.shards → Held q c

pub held_or_not : (q : Question) (c : Candidate) → Names c.credentials.nonce q.credentials.nonce → Held q c
held_or_not q c names = by q.credentials.nonce refl names
  where
    by : (o : Option TableName) → q.credentials.nonce ≡ o → Names c.credentials.nonce o → Held q c
    by None is none = NotHeld (ap (name_within q.shards) is) (λ n text form inside. none n form text)
    by (Some n) is has = test (nat_lt n.shard q.shards) refl
      where
        test : (b : Bool) → nat_lt n.shard q.shards ≡ b → Held q c
        test true inside = IsHeld n (ap (name_within q.shards) is ∙ below q.shards n (is_below n.shard q.shards inside)) has.0 has.1 (is_below n.shard q.shards inside)
        test false out = NotHeld (ap (name_within q.shards) is ∙ above q.shards n out) (λ m text form inside.
            let same : m ≡ n = names_one m n form has.1 (sym text ∙ has.0) in
            not_below n.shard q.shards out (subst (λ (x : TableName). x.shard < q.shards) same inside))

-- ---- a use

-- It is answered Fresh where the nonce is live, the count unused and no other session has begun.
abbrev IsGoodUse : Sizes → Question → Space → Candidate → TableName → List ℕ → List Call → Type 0
IsGoodUse sizes q space c n prime calls = IsLiveBehind sizes q space n calls × IsUnusedBehind sizes n (nc_number c.credentials.nc) calls
    × (c.credentials.kind.session ≡ true → IfSome (prime_behind sizes n calls) (λ begun. begun.items ≡ prime))

fresh_good : (sizes : Sizes) (q : Question) (space : Space) (c : Candidate) (n : TableName) (prime : List ℕ) (calls : List Call) (number : ℕ)
    → use_reply_of sizes q space n c prime calls ≡ Fresh number → IsGoodUse sizes q space c n prime calls
fresh_good sizes q space c n prime calls number fresh =
    let past = answered sizes n.shard calls in
    let counts : List ℕ = counts_behind sizes n calls in
    let count : ℕ = nc_number c.credentials.nc in
    let t = fresh_tests (is_live sizes n.shard past n Digest space.number (time_at past q.moment)) (nat_le (count + WIDTH) (high counts)) (list_any (λ x. x == count) counts) (is_other (given_prime (verified c prime)) (prime_behind sizes n calls)) (high counts) (length counts + 1) number fresh in
    (t.0, record { in_window = (behind_is count (high counts)).0 t.1; new = (repeated_is count counts).0 t.2 }, (other_is c.credentials.kind.session prime (prime_behind sizes n calls)).0 t.3)

good_fresh : (sizes : Sizes) (q : Question) (space : Space) (c : Candidate) (n : TableName) (prime : List ℕ) (calls : List Call)
    → IsGoodUse sizes q space c n prime calls → use_reply_of sizes q space n c prime calls ≡ Fresh (length (counts_behind sizes n calls) + 1)
good_fresh sizes q space c n prime calls good =
    let past = answered sizes n.shard calls in
    let counts : List ℕ = counts_behind sizes n calls in
    let count : ℕ = nc_number c.credentials.nc in
    tests_fresh (is_live sizes n.shard past n Digest space.number (time_at past q.moment)) (nat_le (count + WIDTH) (high counts)) (list_any (λ x. x == count) counts) (is_other (given_prime (verified c prime)) (prime_behind sizes n calls)) (high counts) (length counts + 1)
    good.0 ((behind_is count (high counts)).1 good.1.in_window) ((repeated_is count counts).1 good.1.new) ((other_is c.credentials.kind.session prime (prime_behind sizes n calls)).1 good.2)

-- what is said of the calls behind which the nonce is judged
abbrev Behind : (List Call → Type 0) → List Step → Type 0
Behind P steps = IfSome (calls_before_nonce steps) P

put_behind : (P : List Call → Type 0) (steps : List Step) (calls : List Call) → calls_before_nonce steps ≡ Some calls → P calls → Behind P steps
put_behind P steps calls is holds = subst (λ (o : Option (List Call)). IfSome o P) (sym is) holds

from_behind : (P : List Call → Type 0) (steps : List Step) (calls : List Call) → calls_before_nonce steps ≡ Some calls → Behind P steps → P calls
from_behind P steps calls is holds = subst (λ (o : Option (List Call)). IfSome o P) is holds

-- a use admits where it is good
use_exactly : (sizes : Sizes) (q : Question) (space : Space) (c : Candidate) (n : TableName) (steps : List Step) (verdict : Verdict) → AreUsed sizes q space c n steps verdict
    → Admits c.user verdict ↔ AreValidOf sizes q space c n steps
use_exactly sizes q space c n steps verdict u = (to, from)
  where
    to : Admits c.user verdict → AreValidOf sizes q space c n steps
    to a =
        let fresh = u.leads.fresh c.user a in
        let good = fresh_good sizes q space c n u.prime u.calls fresh.0 fresh.1 in
        record {
          right = u.right ∙ sym u.value;
          live = put_behind (λ before. IsLiveBehind sizes q space n before) steps u.calls u.behind good.0;
          unused = put_behind (λ before. IsUnusedBehind sizes n (nc_number c.credentials.nc) before) steps u.calls u.behind good.1;
          session = λ s. put_behind (λ before. IfSome (prime_behind sizes n before) (λ begun. begun.items ≡ prime_of sizes c n steps)) steps u.calls u.behind
              (subst (λ (p : List ℕ). IfSome (prime_behind sizes n u.calls) (λ begun. begun.items ≡ p)) (sym (u.session s)) (good.2 s));
        }

    from : AreValidOf sizes q space c n steps → Admits c.user verdict
    from v = u.leads.admits (length (counts_behind sizes n u.calls) + 1) (good_fresh sizes q space c n u.prime u.calls (
      from_behind (λ before. IsLiveBehind sizes q space n before) steps u.calls u.behind v.live,
      from_behind (λ before. IsUnusedBehind sizes n (nc_number c.credentials.nc) before) steps u.calls u.behind v.unused,
      λ s.
          subst (λ (p : List ℕ). IfSome (prime_behind sizes n u.calls) (λ begun. begun.items ≡ p)) (u.session s)
          (from_behind (λ before. IfSome (prime_behind sizes n before) (λ begun. begun.items ≡ prime_of sizes c n steps)) steps u.calls u.behind (v.session s)),
    ))

of_outcome : (sizes : Sizes) (q : Question) (space : Space) (c : Candidate) (n : TableName) (steps : List Step) (verdict : Verdict) → Outcome sizes q space c n steps verdict
    → Admits c.user verdict ↔ AreValidOf sizes q space c n steps
of_outcome sizes q space c n steps verdict (inl rejected) = (λ a. absurd (rejected.never c.user a), λ v. absurd (rejected.invalid v))
of_outcome sizes q space c n steps verdict (inr used) = use_exactly sizes q space c n steps verdict used

-- ---- the law

-- valid credentials are so for the name that the table may have
valid_of : (sizes : Sizes) (q : Question) (space : Space) (c : Candidate) (n : TableName) (steps : List Step) → c.credentials.nonce ≡ name_text n → IsName n
    → AreValid sizes q space c steps → AreValidOf sizes q space c n steps
valid_of sizes q space c n steps text form v =
    let same : v.nonce ≡ n = names_one v.nonce n v.form form (sym v.named ∙ text) in
    let V : TableName → Type 0 = λ m. AreValidOf sizes q space c m steps in
    subst V same (record { right = v.right; live = v.live; unused = v.unused; session = v.session })

-- the run of a request that was read
pub well_run : (sizes : Sizes) (q : Question) (space : Space) (c : Candidate) (name : Option TableName) (steps : List Step) (verdict : Verdict) → IsRead q space c → name_within q.shards q.credentials.nonce ≡ name
    → AreAsked sizes q steps → asked q (answers_of sizes steps) ≡ asks.Verdict verdict → Run sizes q space (candidate_stage q.request c name) steps verdict
well_run sizes q space c name steps verdict w is all ends =
    run_from sizes q space (candidate_stage q.request c name) steps verdict w.in_space (well_first q space c w ∙ ap (candidate_stage q.request c) is) all ends

pub exactly : AdmitsExactly
exactly sizes q space c well reads steps all verdict ends = by (held_or_not q c (well_named q space c (to_read q space c well reads) reads))
  where
    by : Held q c → Admits c.user verdict ↔ AreValid sizes q space c steps
    by (NotHeld out none) = (
      λ a. absurd ((without_nonce sizes q space c c.credentials.cnonce steps verdict (well_run sizes q space c None steps verdict (to_read q space c well reads) out all ends)).1 c.user a),
      λ v. absurd (none v.nonce v.named v.form v.within),
    )
    by (IsHeld n is text form inside) =
        let both = of_outcome sizes q space c n steps verdict (outcome sizes q space c n steps verdict (well_run sizes q space c (Some n) steps verdict (to_read q space c well reads) is all ends)) in (
          λ a. (let v = both.0 a in
              record { nonce = n; named = text; form = form; within = inside; right = v.right; live = v.live; unused = v.unused; session = v.session }),
          λ v. both.1 (valid_of sizes q space c n steps text form v),
        )

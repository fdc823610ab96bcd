-- Who is admitted sent a well-formed request, and had its count answered Fresh.
use Rattle.std.proofs.Common.{◌≡◌, ◌⊎◌, inl, inr, ℕ, Bool, true, false, if◌then◌else◌, codes, Option, Some, None, List, [], Result, Ok, Err, refl, sym, ap, ◌∙◌, subst}
use Rattle.std.specs.Option.{option_and_then, option_map}
use Rattle.auth_grammar.specs.Names.{same_name, params_of}
use Rattle.auth_grammar.specs.declared.items.Item.{Item}
use Rattle.cred_store.specs.LookUps.{secret_of}
use Rattle.cred_store.specs.declared.entry.Entry.{Entry}
use Rattle.digest_fields.specs.Credentials.{Credentials, credentials_of}
use Rattle.digest_fields.specs.declared.field.FieldError.{FieldError}
use Rattle.digest_fields.specs.Nc.{nc_number}
use Rattle.nonce_shard.specs.Names.{name_text}
use Rattle.nonce_shard.specs.declared.names.TableName.{TableName}
use Rattle.nonce_shard.specs.declared.sizes.Sizes.{Sizes}
use Rattle.spaces_map.specs.declared.space.Mode.{Mode}
use Rattle.spaces_map.specs.declared.space.Mode.TheVariants as mode
use Rattle.spaces_map.specs.declared.space.Space.{Space}
use Rattle.scram_text.specs.Items.{scram_scheme}
use Rattle.auth_decide.proofs.Folds.{asked_at}
use Rattle.auth_decide.specs.Asks.{ask_in as asked_in, asked, use_of}
use Rattle.auth_decide.specs.Candidates.{candidate_of, is_offered, user_of, with_secret, with_user}
use Rattle.auth_decide.specs.Credentials.{Reads, credentials_lines, other_scheme, presented, presented_digest}
use Rattle.auth_decide.specs.Paths.{correspond}
use Rattle.auth_decide.specs.Stages.{Question, digest_stage, first_stage, first_stage_in, mode_stage, name_within, presented_stage, protection_space, stage_at, taken_stage}
use Rattle.auth_decide.specs.VerifiedCredentials.{verified}
use Rattle.auth_decide.specs.declared.candidate.Candidate.{Candidate}
use Rattle.auth_decide.specs.declared.credentials.CredentialsField.{CredentialsField}
use Rattle.auth_decide.specs.declared.credentials.CredentialsField.TheVariants as field
use Rattle.auth_decide.specs.declared.credentials.Presented.{Presented}
use Rattle.auth_decide.specs.declared.credentials.Presented.TheVariants.{Nothing, Malformed, OtherScheme, Digest, Scram}
use Rattle.auth_decide.specs.declared.stages.Purpose.TheVariants as purpose
use Rattle.auth_decide.specs.declared.stages.Stage.TheVariants as stage
use Rattle.auth_decide.specs.declared.verdict.Ask.TheVariants as asks
use Rattle.auth_decide.specs.declared.verdict.Verdict.{Verdict}
use Rattle.auth_decide.specs.declared.verdict.Verdict.TheVariants.{Open, Bad}
use Rattle.auth_decide.specs.declared.verdict.Why.{Why}
use Rattle.auth_decide.specs.declared.verdict.Why.TheVariants as why
use Rattle.admission.specs.Admission.{AdmitsNoOther, EndsFresh, IsAdmitted, IsDigestAdmitted}
use Rattle.admission.specs.Exchanges.{IsScramAdmitted}
use Rattle.admission.specs.Outcomes.{Admits}
use Rattle.admission.specs.Steps.{Step, AreAsked, answers_of}
use Rattle.admission.proofs.Exact.{Held, NotHeld, IsHeld, held_or_not, run_from, well_named, well_run}
use Rattle.admission.proofs.Lines.{IsRead, from_read}
use Rattle.admission.proofs.Outcomes.{AreUsed, Outcome, outcome, without_nonce}
use Rattle.admission.proofs.Runs.{Run, challenged, drawing, ended}
use Rattle.admission.proofs.ScramRequests.{scram_found}

-- ---- credentials that are taken

if_some : {A : Type 0} (b : Bool) (o : Option A) (x : A) → (if b then o else None) ≡ Some x → (b ≡ true) × (o ≡ Some x)
if_some true o x e = (refl, e)
if_some {A} false o x e = absurd (let no : ◌≡◌ {A = Option A} None (Some x) = e in cc)

secret_taken : (c : Credentials) (user : List ℕ) (o : Option (List ℕ)) (x : Candidate) → option_map (with_secret c user) o ≡ Some x → (secret : List ℕ) × (o ≡ Some secret) × (with_secret c user secret ≡ x)
secret_taken c user None x e = absurd (let no : ◌≡◌ {A = Option Candidate} None (Some x) = e in cc)
secret_taken c user (Some secret) x e = (secret, refl, (let same : Some (with_secret c user secret) ≡ Some x = e in cc))

user_taken : (store : List Entry) (c : Credentials) (o : Option (List ℕ)) (x : Candidate) → option_and_then (with_user store c) o ≡ Some x
    → (user : List ℕ) × (o ≡ Some user) × (secret : List ℕ) × (secret_of user c.realm c.kind.alg store ≡ Some secret) × (with_secret c user secret ≡ x)
user_taken store c None x e = absurd (let no : ◌≡◌ {A = Option Candidate} None (Some x) = e in cc)
user_taken store c (Some user) x e =
    let s = secret_taken c user (secret_of user c.realm c.kind.alg store) x e in
    (user, refl, s.0, s.1, s.2)

digest_read : (r : Result Credentials FieldError) (c : Credentials) → presented_digest r ≡ Digest c → r ≡ Ok c
digest_read (Ok other) c e = (let same : Digest other ≡ Digest c = e in let one : other ≡ c = cc in ap (λ (x : Credentials). Ok x) one)
digest_read (Err error) c e = absurd (let no : Malformed why.Field ≡ Digest c = e in cc)

-- what presents credentials of Digest is an item of that scheme whose fields are accepted
record PresentsDigest (f : CredentialsField) (c : Credentials) : Type 0 where
  item : Item
  spelled : f ≡ field.Item item
  digest : same_name item.scheme (codes "Digest") ≡ true
  fields : credentials_of (params_of item.rest) ≡ Ok c

not_digest : {c : Credentials} (b : Bool) → (if b then Scram else OtherScheme) ≡ Digest c → ⊥
not_digest {c} true e = (let no : Scram ≡ Digest c = e in cc)
not_digest {c} false e = (let no : OtherScheme ≡ Digest c = e in cc)

presents_digest : (f : CredentialsField) (c : Credentials) → presented f ≡ Digest c → PresentsDigest f c
presents_digest field.Absent c e = absurd (let no : Nothing ≡ Digest c = e in cc)
presents_digest field.Malformed c e = absurd (let no : Malformed why.Credentials ≡ Digest c = e in cc)
presents_digest (field.Item item) c e = by (same_name item.scheme (codes "Digest")) refl e
  where
    by : (b : Bool) → same_name item.scheme (codes "Digest") ≡ b → (if b then presented_digest (credentials_of (params_of item.rest)) else other_scheme item) ≡ Digest c → PresentsDigest (field.Item item) c
    by true is e' = record { item = item; spelled = refl; digest = is; fields = digest_read (credentials_of (params_of item.rest)) c e' }
    by false is e' = absurd (not_digest (same_name item.scheme scram_scheme) e')

read_of : (q : Question) (space : Space) (cr : Credentials) (c : Candidate) → protection_space q.role q.request q.site ≡ Some space → presented q.credentials.field ≡ Digest cr
    → correspond cr.uri q.request.target ≡ true → candidate_of space q.site.store cr ≡ Some c → IsRead q space c
read_of q space cr c place is uri taken =
    let p = presents_digest q.credentials.field cr is in
    let store : List Entry = q.site.store in
    let offered = if_some (is_offered space cr) (option_and_then (with_user store cr) (user_of store cr cr.user)) c taken in
    let u = user_taken store cr (user_of store cr cr.user) c offered.1 in
    subst (IsRead q space) u.4 (record {
      item = p.item;
      spelled = p.spelled;
      digest = p.digest;
      fields = p.fields;
      in_space = place;
      uri = uri;
      offered = offered.0;
      user = u.1;
      secret = u.3;
    })

-- ---- who is admitted

abbrev Found : Question → Type 0
Found q = (space : Space) × (c : Candidate) × IsRead q space c

-- credentials of Digest that are taken, or a client-final that ended so
abbrev FoundOr : Sizes → Question → List ℕ → List Step → Type 0
FoundOr sizes q user steps = Found q ⊎ IsScramAdmitted sizes q user steps

open_none : (sizes : Sizes) (q : Question) (space : Space) (steps : List Step) (verdict : Verdict) (user : List ℕ) → Run sizes q space stage.Open steps verdict → Admits user verdict → ⊥
open_none sizes q space steps verdict user run a = subst (λ (v : Verdict). Admits user v) (ended sizes q space stage.Open (Open []) refl steps verdict run).1 a

bad_none : (sizes : Sizes) (q : Question) (space : Space) (w : Why) (steps : List Step) (verdict : Verdict) (user : List ℕ) → Run sizes q space (stage.Bad w) steps verdict → Admits user verdict → ⊥
bad_none sizes q space w steps verdict user run a = subst (λ (v : Verdict). Admits user v) (ended sizes q space (stage.Bad w) (Bad w) refl steps verdict run).1 a

mode_none : (sizes : Sizes) (q : Question) (space : Space) (m : Mode) (steps : List Step) (verdict : Verdict) (user : List ℕ) → Run sizes q space (mode_stage m) steps verdict → Admits user verdict → ⊥
mode_none sizes q space mode.Open steps verdict user run a = open_none sizes q space steps verdict user run a
mode_none sizes q space mode.Optional steps verdict user run a = subst (λ (v : Verdict). Admits user v) (drawing sizes q space purpose.Offer steps verdict run).is a
mode_none sizes q space mode.Required steps verdict user run a = (challenged sizes q space false steps verdict run).1 user a

taken_found : (sizes : Sizes) (q : Question) (space : Space) (cr : Credentials) (steps : List Step) (verdict : Verdict) (user : List ℕ) → protection_space q.role q.request q.site ≡ Some space
    → presented q.credentials.field ≡ Digest cr → correspond cr.uri q.request.target ≡ true → (o : Option Candidate) → candidate_of space q.site.store cr ≡ o
    → Run sizes q space (taken_stage q.request (name_within q.shards q.credentials.nonce) o) steps verdict → Admits user verdict → Found q
taken_found sizes q space cr steps verdict user place is uri None taken run a = absurd ((challenged sizes q space false steps verdict run).1 user a)
taken_found sizes q space cr steps verdict user place is uri (Some c) taken run a = (space, c, read_of q space cr c place is uri taken)

digest_found : (sizes : Sizes) (q : Question) (space : Space) (cr : Credentials) (steps : List Step) (verdict : Verdict) (user : List ℕ) → protection_space q.role q.request q.site ≡ Some space
    → presented q.credentials.field ≡ Digest cr → Run sizes q space (digest_stage q.request (name_within q.shards q.credentials.nonce) space q.site.store cr) steps verdict → Admits user verdict → Found q
digest_found sizes q space cr steps verdict user place is run a = by (correspond cr.uri q.request.target) refl
  where
    there : (b : Bool) → correspond cr.uri q.request.target ≡ b
        → Run sizes q space (if b then taken_stage q.request (name_within q.shards q.credentials.nonce) (candidate_of space q.site.store cr) else stage.Bad why.Uri) steps verdict
    there b same = subst (λ (x : Bool). Run sizes q space (if x then taken_stage q.request (name_within q.shards q.credentials.nonce) (candidate_of space q.site.store cr) else stage.Bad why.Uri) steps verdict) same run

    by : (b : Bool) → correspond cr.uri q.request.target ≡ b → Found q
    by true same = taken_found sizes q space cr steps verdict user place is same (candidate_of space q.site.store cr) refl (there true same) a
    by false same = absurd (bad_none sizes q space why.Uri steps verdict user (there false same) a)

presented_found : (sizes : Sizes) (q : Question) (space : Space) (steps : List Step) (verdict : Verdict) (user : List ℕ) → protection_space q.role q.request q.site ≡ Some space
    → Reads (credentials_lines q.role q.request) q.credentials
    → (p : Presented) → presented q.credentials.field ≡ p → Run sizes q space (presented_stage q.request q.shards q.credentials space q.site.store p) steps verdict → Admits user verdict → FoundOr sizes q user steps
presented_found sizes q space steps verdict user place reads Nothing is run a = absurd (mode_none sizes q space space.mode steps verdict user run a)
presented_found sizes q space steps verdict user place reads (Malformed w) is run a = absurd (bad_none sizes q space w steps verdict user run a)
presented_found sizes q space steps verdict user place reads OtherScheme is run a = absurd ((challenged sizes q space false steps verdict run).1 user a)
presented_found sizes q space steps verdict user place reads (Digest cr) is run a = inl (digest_found sizes q space cr steps verdict user place is run a)
presented_found sizes q space steps verdict user place reads Scram is run a = inr (scram_found sizes q space steps verdict user place reads is run a)

first_in : (q : Question) (o : Option Space) → protection_space q.role q.request q.site ≡ o → first_stage q ≡ first_stage_in q o
unfolding first_stage
first_in q o is = ap (first_stage_in q) is

found_in : (sizes : Sizes) (q : Question) (steps : List Step) (verdict : Verdict) (user : List ℕ) → AreAsked sizes q steps → asked q (answers_of sizes steps) ≡ asks.Verdict verdict
    → Reads (credentials_lines q.role q.request) q.credentials
    → (o : Option Space) → protection_space q.role q.request q.site ≡ o → Admits user verdict → FoundOr sizes q user steps
found_in sizes q steps verdict user all ends reads None place a =
    let open_ask : asks.Verdict (Open []) ≡ asks.Verdict verdict =
    sym (ap (λ (o : Option Space). asked_in q o (stage_at q (answers_of sizes steps))) place) ∙ sym (asked_at q (answers_of sizes steps)) ∙ ends in
    let is : verdict ≡ Open [] = cc in
    absurd (subst (λ (v : Verdict). Admits user v) is a)
found_in sizes q steps verdict user all ends reads (Some space) place a =
    presented_found sizes q space steps verdict user place reads (presented q.credentials.field) refl
    (run_from sizes q space (first_stage_in q (Some space)) steps verdict place (first_in q (Some space) place) all ends) a

-- ---- how it ended

used_last : (sizes : Sizes) (q : Question) (space : Space) (c : Candidate) (n : TableName) (steps : List Step) (verdict : Verdict) (user : List ℕ) → c.credentials.nonce ≡ name_text n
    → AreUsed sizes q space c n steps verdict → Admits user verdict → (c.user ≡ user) × EndsFresh sizes c.credentials.nonce (nc_number c.credentials.nc) steps
used_last sizes q space c n steps verdict user text u a =
    let fresh = u.leads.fresh user a in (
      fresh.2,
      record {
        nonce = n;
        named = text;
        before = u.before;
        calls = u.calls;
        call = use_of q.moment space n (verified c u.prime);
        after = u.after;
        is = u.is;
        uses = (refl, refl);
        number = fresh.0;
        fresh = fresh.1;
        nothing_else = u.leads.only;
      },
    )

outcome_last : (sizes : Sizes) (q : Question) (space : Space) (c : Candidate) (n : TableName) (steps : List Step) (verdict : Verdict) (user : List ℕ) → c.credentials.nonce ≡ name_text n
    → Outcome sizes q space c n steps verdict → Admits user verdict → (c.user ≡ user) × EndsFresh sizes c.credentials.nonce (nc_number c.credentials.nc) steps
outcome_last sizes q space c n steps verdict user text (inl rejected) a = absurd (rejected.never user a)
outcome_last sizes q space c n steps verdict user text (inr used) a = used_last sizes q space c n steps verdict user text used a

admits_last : (sizes : Sizes) (q : Question) (space : Space) (c : Candidate) (steps : List Step) (verdict : Verdict) (user : List ℕ) → IsRead q space c → AreAsked sizes q steps
    → asked q (answers_of sizes steps) ≡ asks.Verdict verdict → Held q c → Admits user verdict → (c.user ≡ user) × EndsFresh sizes c.credentials.nonce (nc_number c.credentials.nc) steps
admits_last sizes q space c steps verdict user w all ends (NotHeld out none) a =
    absurd ((without_nonce sizes q space c c.credentials.cnonce steps verdict (well_run sizes q space c None steps verdict w out all ends)).1 user a)
admits_last sizes q space c steps verdict user w all ends (IsHeld n is text form inside) a =
    outcome_last sizes q space c n steps verdict user text (outcome sizes q space c n steps verdict (well_run sizes q space c (Some n) steps verdict w is all ends)) a

digest_admitted : (sizes : Sizes) (q : Question) (steps : List Step) (verdict : Verdict) (user : List ℕ) → Reads (credentials_lines q.role q.request) q.credentials → AreAsked sizes q steps
    → asked q (answers_of sizes steps) ≡ asks.Verdict verdict → Admits user verdict → Found q → IsDigestAdmitted sizes q user steps
digest_admitted sizes q steps verdict user reads all ends a f =
    let last = admits_last sizes q f.0 f.1 steps verdict user f.2 all ends (held_or_not q f.1 (well_named q f.0 f.1 f.2 reads)) a in
    record { space = f.0; candidate = f.1; well_formed = from_read q f.0 f.1 f.2 reads; its_user = last.0; used = last.1 }

pub no_other : AdmitsNoOther
no_other sizes q reads steps all verdict ends user a = by (found_in sizes q steps verdict user all ends reads (protection_space q.role q.request q.site) refl a)
  where
    by : FoundOr sizes q user steps → IsAdmitted sizes q user steps
    by (inl f) = inl (digest_admitted sizes q steps verdict user reads all ends a f)
    by (inr scram) = inr scram

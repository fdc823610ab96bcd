-- Who is admitted by SCRAM-SHA-256.
use Rattle.std.proofs.Common.{◌≡◌, ◌⊎◌, inl, inr, ℕ, ◌<◌, Bool, true, false, nat_lt, List, [], ◌∷◌, Option, Some, None, refl, sym, ap, ◌∙◌, subst}
use Rattle.std.specs.Prelude.{if◌then◌else◌, nat_eq}
use Rattle.std.specs.List.{ends_with}
use Rattle.cred_store.specs.LookUps.{scram_of}
use Rattle.nonce_shard.proofs.OneName.{names_one}
use Rattle.nonce_shard.specs.Names.{IsName, name_text}
use Rattle.nonce_shard.specs.declared.calls.Exchange.{Exchange}
use Rattle.nonce_shard.specs.declared.names.TableName.{TableName}
use Rattle.nonce_shard.specs.declared.sizes.Sizes.{Sizes}
use Rattle.scram_proof.specs.declared.keys.ScramKeys.{ScramKeys}
use Rattle.spaces_map.specs.declared.space.Space.{Space}
use Rattle.auth_decide.proofs.Within.{taken_sid}
use Rattle.auth_decide.specs.Asks.{keep_of, recall_of, reuse_of, take_of}
use Rattle.auth_decide.specs.Challenges.{offers_scram}
use Rattle.auth_decide.specs.Credentials.{Reads, credentials_lines, presented}
use Rattle.auth_decide.specs.Messages.{Names, SaysAgain}
use Rattle.auth_decide.specs.Stages.{Question, again_stage, attempt_stage, challenge_stage, final_stage, first_stage, keyed_stage, message_stage, name_within, protection_space, scram_stage, takes_realm}
use Rattle.auth_decide.specs.declared.credentials.Presented.TheVariants as presents
use Rattle.auth_decide.specs.declared.scram_message.Again.{Again}
use Rattle.auth_decide.specs.declared.scram_message.FinalMessage.{FinalMessage}
use Rattle.auth_decide.specs.declared.scram_message.FirstMessage.{FirstMessage}
use Rattle.auth_decide.specs.declared.scram_message.ScramMessage.{ScramMessage}
use Rattle.auth_decide.specs.declared.scram_message.ScramMessage.TheVariants as message
use Rattle.auth_decide.specs.declared.stages.Stage.TheVariants as stage
use Rattle.auth_decide.specs.declared.verdict.Verdict.{Verdict}
use Rattle.auth_decide.specs.declared.verdict.Verdict.TheVariants.{Bad}
use Rattle.auth_decide.specs.declared.verdict.Why.TheVariants as why
use Rattle.admission.specs.Exchanges.{AdmitsAgain, AdmitsByTry, CountsAgain, EndsKept, EndsReused, Gives, IsScramAdmitted, IsSrGood, Proves, ProvesFirst, Recalled}
use Rattle.admission.specs.Outcomes.{Admits}
use Rattle.admission.specs.Steps.{Step, Called}
use Rattle.admission.proofs.Exact.{below, is_below, run_from}
use Rattle.admission.proofs.OneMessage.{one_again}
use Rattle.admission.proofs.Proofs.{attempt, recalled_is, taken_is}
use Rattle.admission.proofs.Runs.{Run, challenged, ended}
use Rattle.admission.proofs.ScramLines.{final_first, from_final_read, to_final_read}
use Rattle.admission.proofs.ScramRuns.{IsGoodSr, LooksUp, TakesTry, begins_none, recalling, taking}

-- ---- a first time

try_exactly : (sizes : Sizes) (q : Question) (space : Space) (sid : TableName) (m : FinalMessage) (steps : List Step) (verdict : Verdict) → (t : TakesTry sizes q space (attempt space sid m) steps verdict) → (user : List ℕ)
    → (Admits user verdict → (e : Exchange) × Gives sizes q space sid t.before e × ProvesFirst q space sid m e user)
    × ((e : Exchange) × Gives sizes q space sid t.before e × ProvesFirst q space sid m e user → Admits user verdict)
try_exactly sizes q space sid m steps verdict t user = (
  λ admitted.
      let k = t.leads.kept user admitted in
      (k.0, k.1, (taken_is q space sid m k.0 user).0 (k.2, k.3, k.4)),
  λ good. t.leads.admits user good.0 good.1 ((taken_is q space sid m good.0 user).1 good.2),
)

pub by_try : AdmitsByTry
by_try sizes q reads steps all verdict ends space sid m brings inside names =
    let w = to_final_read q space sid m brings reads in
    let a = attempt space sid m in
    let first : first_stage q ≡ stage.Taking a = final_first q space sid m w inside ∙ ap (λ (b : Bool). if b then stage.Taking a else again_stage q.shards a w.again) names in
    let t = taking sizes q space a steps verdict (run_from sizes q space (stage.Taking a) steps verdict w.in_space first all ends) in (
      record { before = t.before; rest = t.rest; is = t.is },
      λ user. try_exactly sizes q space sid m steps verdict t user,
    )

-- ---- again

-- what was read of the nonce
record ReadsAgain (q : Question) (again : Option Again) (count : ℕ) (sr : List ℕ) : Type 0 where
  found : Again
  is : again ≡ Some found
  count_is : found.count ≡ count
  named : Names sr found.sr

reads_again : (q : Question) (sid : TableName) (m : FinalMessage) (again : Option Again) (count : ℕ) (sr : List ℕ) → SaysAgain m.nonce again → CountsAgain sid m count sr → ReadsAgain q again count sr
reads_again q sid m None count sr says counts = absurd (says counts.client count sr counts.is)
reads_again q sid m (Some found) count sr says counts =
    let one = one_again m.nonce says.0 counts.client found.count count says.1 sr says.2 counts.is in
    record { found = found; is = refl; count_is = one.0; named = subst (λ (t : List ℕ). Names t found.sr) one.1 says.3 }

within_is : (shards : ℕ) (o : Option TableName) (n : TableName) → name_within shards o ≡ Some n → (o ≡ Some n) × (n.shard < shards)
within_is shards None n e = absurd (let no : ◌≡◌ {A = Option TableName} None (Some n) = e in cc)
within_is shards (Some m) n e = by (nat_lt m.shard shards) refl e
  where
    by : (b : Bool) → nat_lt m.shard shards ≡ b → (if b then Some m else None) ≡ Some n → (Some m ≡ Some n) × (n.shard < shards)
    by true is same = (let one : Some m ≡ Some n = same in let both : m ≡ n = cc in (same, subst (λ (x : TableName). x.shard < shards) both (is_below m.shard shards is)))
    by false is same = absurd (let no : ◌≡◌ {A = Option TableName} None (Some n) = same in cc)

-- the name that the text was read as
named_as : (text : List ℕ) (o : Option TableName) (n : TableName) → Names text o → text ≡ name_text n → IsName n → o ≡ Some n
named_as text None n names is form = absurd (names n form is)
named_as text (Some m) n names is form = ap Some (names_one m n names.1 form (sym names.0 ∙ is))

abbrev within : ℕ → Again → Again
within shards again = record { count = again.count; sr = name_within shards again.sr }

to_good : (sizes : Sizes) (q : Question) (space : Space) (again : Again) (text : List ℕ) (rest : List Step) → Names text again.sr → IsGoodSr sizes q space (within q.shards again) rest → IsSrGood sizes q space again.count text rest
to_good sizes q space again text rest names good =
    let is = within_is q.shards again.sr good.sr good.is in
    let named = subst (λ (o : Option TableName). Names text o) is.0 names in
    record { sr = good.sr; named = named.0; form = named.1; within = is.1; live = good.live; unused = good.unused }

from_good : (sizes : Sizes) (q : Question) (space : Space) (again : Again) (text : List ℕ) (rest : List Step) → Names text again.sr → IsSrGood sizes q space again.count text rest → IsGoodSr sizes q space (within q.shards again) rest
from_good sizes q space again text rest names good = record {
  sr = good.sr;
  is = ap (name_within q.shards) (named_as text again.sr good.sr names good.named good.form) ∙ below q.shards good.sr good.within;
  live = good.live;
  unused = good.unused;
}

again_exactly : (sizes : Sizes) (q : Question) (space : Space) (sid : TableName) (m : FinalMessage) (again : Again) (text : List ℕ) (steps : List Step) (verdict : Verdict) → Names text again.sr
    → (l : LooksUp sizes q space (attempt space sid m) (within q.shards again) steps verdict) → (user : List ℕ)
    → (Admits user verdict → (e : Exchange) × Recalled sizes q space sid l.before e × Proves q space sid m e user × IsSrGood sizes q space again.count text l.rest)
    × ((e : Exchange) × Recalled sizes q space sid l.before e × Proves q space sid m e user × IsSrGood sizes q space again.count text l.rest → Admits user verdict)
again_exactly sizes q space sid m again text steps verdict names l user = (
  λ admitted.
      let p = l.leads.proved user admitted in
      (p.0, p.1, (recalled_is q space sid m p.0 user).0 p.2, to_good sizes q space again text l.rest names p.3),
  λ good. l.leads.admits user good.0 good.1 ((recalled_is q space sid m good.0 user).1 good.2) (from_good sizes q space again text l.rest names good.3),
)

pub again : AdmitsAgain
again sizes q reads steps all verdict ends space sid m brings inside count sr counts =
    let w = to_final_read q space sid m brings reads in
    let a = attempt space sid m in
    let r = reads_again q sid m w.again count sr w.reuse counts in
    let first : first_stage q ≡ stage.Recalling a (within q.shards r.found) =
    final_first q space sid m w inside
    ∙ ap (λ (b : Bool). if b then stage.Taking a else again_stage q.shards a w.again) counts.other
    ∙ ap (again_stage q.shards a) r.is in
    let l = recalling sizes q space a (within q.shards r.found) steps verdict (run_from sizes q space (stage.Recalling a (within q.shards r.found)) steps verdict w.in_space first all ends) in (
      record { before = l.before; rest = l.rest; is = l.is },
      λ user.
          let both = again_exactly sizes q space sid m r.found sr steps verdict r.named l user in
          let C : ℕ → Type 0 = λ n. (e : Exchange) × Recalled sizes q space sid l.before e × Proves q space sid m e user × IsSrGood sizes q space n sr l.rest in (
            λ admitted. subst C r.count_is (both.0 admitted),
            λ good. both.1 (subst C (sym r.count_is) good),
          ),
    )

-- ---- no other

kept_end : (sizes : Sizes) (q : Question) (space : Space) (sid : TableName) (m : FinalMessage) (steps : List Step) (verdict : Verdict) (user : List ℕ) → TakesTry sizes q space (attempt space sid m) steps verdict → Admits user verdict
    → EndsKept sizes q space sid m user steps
kept_end sizes q space sid m steps verdict user t admitted =
    let k = t.leads.kept user admitted in
    let named : k.2.sid ≡ sid = taken_sid q.shards q.site.store (attempt space sid m) k.0 k.2 k.3 in
    record {
      before = t.before;
      kept = k.5.kept;
      is = t.is
          ∙ ap (λ (l : List Step). Called sid.shard t.before (take_of q.moment space sid) ∷ l) (k.5.is ∙ ap (λ (n : TableName). Called n.shard k.5.kept (keep_of q.moment space n) ∷ []) named);
      exchange = k.0;
      taken = k.1;
      proves = (taken_is q space sid m k.0 user).0 (k.2, k.3, k.4);
    }

reused_end : (sizes : Sizes) (q : Question) (space : Space) (sid : TableName) (m : FinalMessage) (found : Again) (steps : List Step) (verdict : Verdict) (user : List ℕ) → ends_with nat_eq m.nonce (name_text sid) ≡ false
    → SaysAgain m.nonce (Some found) → LooksUp sizes q space (attempt space sid m) (within q.shards found) steps verdict → Admits user verdict → EndsReused sizes q space sid m user steps
reused_end sizes q space sid m found steps verdict user other says l admitted =
    let p = l.leads.proved user admitted in
    let r = l.leads.reused user admitted in
    let f = r.3.fresh user admitted in
    let is = within_is q.shards found.sr r.1 r.2 in
    let named = subst (λ (o : Option TableName). Names says.1 o) is.0 says.3 in
    record {
      count = found.count;
      text = says.1;
      counts = record { other = other; client = says.0; is = says.2 };
      sr = r.1;
      named = named.0;
      before = l.before;
      calls = r.3.before;
      is = l.is
          ∙ ap (λ (x : List Step). Called sid.shard l.before (recall_of q.moment space sid) ∷ x)
          (r.3.is ∙ ap (λ (x : List Step). Called r.1.shard r.3.before (reuse_of q.moment space r.1 found.count) ∷ x) f.3);
      exchange = p.0;
      recalled = p.1;
      proves = (recalled_is q space sid m p.0 user).0 p.2;
      number = f.0;
      fresh = f.1;
    }

again_found : (sizes : Sizes) (q : Question) (space : Space) (sid : TableName) (m : FinalMessage) (o : Option Again) (steps : List Step) (verdict : Verdict) (user : List ℕ) → ends_with nat_eq m.nonce (name_text sid) ≡ false
    → SaysAgain m.nonce o → Run sizes q space (again_stage q.shards (attempt space sid m) o) steps verdict → Admits user verdict → EndsReused sizes q space sid m user steps
again_found sizes q space sid m None steps verdict user other says run admitted = absurd ((challenged sizes q space false steps verdict run).1 user admitted)
again_found sizes q space sid m (Some found) steps verdict user other says run admitted =
    reused_end sizes q space sid m found steps verdict user other says (recalling sizes q space (attempt space sid m) (within q.shards found) steps verdict run) admitted

attempt_found : (sizes : Sizes) (q : Question) (space : Space) (sid : TableName) (m : FinalMessage) (o : Option Again) (steps : List Step) (verdict : Verdict) (user : List ℕ)
    → SaysAgain m.nonce o → Run sizes q space (attempt_stage q.shards (attempt space sid m) o) steps verdict → Admits user verdict → EndsKept sizes q space sid m user steps ⊎ EndsReused sizes q space sid m user steps
attempt_found sizes q space sid m o steps verdict user says run admitted = by (ends_with nat_eq m.nonce (name_text sid)) refl run
  where
    by : (b : Bool) → ends_with nat_eq m.nonce (name_text sid) ≡ b → Run sizes q space (if b then stage.Taking (attempt space sid m) else again_stage q.shards (attempt space sid m) o) steps verdict
        → EndsKept sizes q space sid m user steps ⊎ EndsReused sizes q space sid m user steps
    by true is r = inl (kept_end sizes q space sid m steps verdict user (taking sizes q space (attempt space sid m) steps verdict r) admitted)
    by false is r = inr (again_found sizes q space sid m o steps verdict user is says r admitted)

keyed_none : (sizes : Sizes) (q : Question) (space : Space) (m : FirstMessage) (o : Option ScramKeys) (steps : List Step) (verdict : Verdict) (user : List ℕ) → Run sizes q space (keyed_stage m o) steps verdict → Admits user verdict → ⊥
keyed_none sizes q space m None steps verdict user run admitted = (challenged sizes q space false steps verdict run).1 user admitted
keyed_none sizes q space m (Some keys) steps verdict user run admitted = begins_none sizes q space _ steps verdict run user admitted

first_none : (sizes : Sizes) (q : Question) (space : Space) (m : FirstMessage) (steps : List Step) (verdict : Verdict) (user : List ℕ) (b : Bool)
    → Run sizes q space (if b then keyed_stage m (scram_of m.name space.realm q.site.store) else challenge_stage false) steps verdict → Admits user verdict → ⊥
first_none sizes q space m steps verdict user true run admitted = keyed_none sizes q space m (scram_of m.name space.realm q.site.store) steps verdict user run admitted
first_none sizes q space m steps verdict user false run admitted = (challenged sizes q space false steps verdict run).1 user admitted

final_found : (sizes : Sizes) (q : Question) (space : Space) (named : Option TableName) (m : FinalMessage) (o : Option Again) (steps : List Step) (verdict : Verdict) (user : List ℕ) → protection_space q.role q.request q.site ≡ Some space
    → Reads (credentials_lines q.role q.request) q.credentials → presented q.credentials.field ≡ presents.Scram → offers_scram space.offers ≡ true → q.credentials.scram ≡ message.Final named m o
    → (within_it : Option TableName) → name_within q.shards named ≡ within_it → Run sizes q space (final_stage q.shards space.realm within_it m o) steps verdict → Admits user verdict → IsScramAdmitted sizes q user steps
final_found sizes q space named m o steps verdict user place reads presents_it offered said None is run admitted = absurd ((challenged sizes q space false steps verdict run).1 user admitted)
final_found sizes q space named m o steps verdict user place reads presents_it offered said (Some sid) is run admitted =
    let name = within_is q.shards named sid is in
    let b = from_final_read q space sid m o reads presents_it (said ∙ ap (λ (n : Option TableName). message.Final n m o) name.0) place offered in
    record { space = space; sid = sid; message = m; brings = b.0; ended = attempt_found sizes q space sid m o steps verdict user b.1 run admitted }

message_found : (sizes : Sizes) (q : Question) (space : Space) (steps : List Step) (verdict : Verdict) (user : List ℕ) → protection_space q.role q.request q.site ≡ Some space
    → Reads (credentials_lines q.role q.request) q.credentials → presented q.credentials.field ≡ presents.Scram → offers_scram space.offers ≡ true
    → (m : ScramMessage) → q.credentials.scram ≡ m → Run sizes q space (message_stage q.shards space.realm q.site.store m) steps verdict → Admits user verdict → IsScramAdmitted sizes q user steps
message_found sizes q space steps verdict user place reads presents_it offered message.Absent is run admitted = absurd ((challenged sizes q space false steps verdict run).1 user admitted)
message_found sizes q space steps verdict user place reads presents_it offered message.Malformed is run admitted =
    absurd (subst (λ (v : Verdict). Admits user v) (ended sizes q space (stage.Bad why.Scram) (Bad why.Scram) refl steps verdict run).1 admitted)
message_found sizes q space steps verdict user place reads presents_it offered message.WithoutSid is run admitted = absurd ((challenged sizes q space false steps verdict run).1 user admitted)
message_found sizes q space steps verdict user place reads presents_it offered (message.First m) is run admitted =
    absurd (first_none sizes q space m steps verdict user (takes_realm m.realm space.realm) run admitted)
message_found sizes q space steps verdict user place reads presents_it offered (message.Final named m o) is run admitted =
    final_found sizes q space named m o steps verdict user place reads presents_it offered is (name_within q.shards named) refl run admitted

pub scram_found : (sizes : Sizes) (q : Question) (space : Space) (steps : List Step) (verdict : Verdict) (user : List ℕ) → protection_space q.role q.request q.site ≡ Some space
    → Reads (credentials_lines q.role q.request) q.credentials → presented q.credentials.field ≡ presents.Scram
    → Run sizes q space (scram_stage q.shards space q.site.store q.credentials.scram) steps verdict → Admits user verdict → IsScramAdmitted sizes q user steps
scram_found sizes q space steps verdict user place reads presents_it run admitted = by (offers_scram space.offers) refl run
  where
    by : (b : Bool) → offers_scram space.offers ≡ b → Run sizes q space (if b then message_stage q.shards space.realm q.site.store q.credentials.scram else challenge_stage false) steps verdict → IsScramAdmitted sizes q user steps
    by true is r = message_found sizes q space steps verdict user place reads presents_it is q.credentials.scram refl r admitted
    by false is r = absurd ((challenged sizes q space false steps verdict r).1 user admitted)

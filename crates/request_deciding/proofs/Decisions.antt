-- How the calls of one decision go on.
use Rattle.std.proofs.Common.{◌≡◌, ◌∷◌, [], ◌++◌, ◌≤◌, ◌<◌, ℕ, List, Option, Some, None, Ok, Err, sym, refl, ap, ◌∙◌, subst}
use Rattle.std.specs.List.{All}
use Rattle.std.proofs.lemmas.List.{append-nil}
use Rattle.std.proofs.lemmas.List.Elements.{All-nil, All-cons}
use Rattle.auth_decide.proofs.Folds.{asked_at, stage_more}
use Rattle.auth_decide.specs.Asks.{asked, next_ask}
use Rattle.auth_decide.specs.Decisions.{Deciding, IsCallFor, ask_of}
use Rattle.auth_decide.specs.Credentials.{Reads, credentials_lines}
use Rattle.auth_decide.specs.Stages.{Answer, Question, Replied, Words, first_stage, stage_after, stage_at}
use Rattle.auth_decide.specs.declared.credentials.RequestCredentials.{RequestCredentials}
use Rattle.auth_decide.specs.declared.site.Site.{Site}
use Rattle.auth_decide.specs.declared.stages.Stage.{Stage}
use Rattle.auth_decide.specs.declared.verdict.Ask.{Ask}
use Rattle.auth_decide.specs.declared.verdict.Ask.TheVariants as ask
use Rattle.auth_decide.specs.declared.verdict.Verdict.{Verdict}
use Rattle.auth_grammar.specs.declared.items.Role.{Role}
use Rattle.auth_io.proofs.Later.{later_none, rose_later}
use Rattle.auth_io.proofs.Passing.{Adds_none}
use Rattle.auth_io.specs.Causes.{Rose}
use Rattle.auth_io.specs.Told.{Adds, Stays}
use Rattle.connection_loop.specs.Machine.{Incoming}
use Rattle.connection_loop.specs.declared.responder.Lack.TheVariants.{Random, Worn}
use Rattle.connection_loop.specs.declared.responder.RespondError.TheVariants.{Lacking, OutOfMemory}
use Rattle.http_wire.specs.declared.request.Request.{Request}
use Rattle.nonce_shard.proofs.Grown.{grows_none, worn_grows}
use Rattle.nonce_shard.proofs.ReplyKinds.{made_can_answer}
use Rattle.nonce_shard.specs.Seat.{Made, Seat, Grows, IsWorn}
use Rattle.nonce_shard.specs.declared.calls.Call.{Call}
use Rattle.nonce_shard.specs.declared.calls.Reply.{Reply}
use Rattle.request_deciding.specs.Deciding.{AreInquired, Decides, IsUnderWay}
use Rattle.request_deciding.specs.Findings.{IsSound, answers_in, calls_in, credentials_in, inquiry_of}
use Rattle.request_deciding.specs.Laws.{table_none, table_then}
use Rattle.request_deciding.specs.Outside.{TablePassed, TableState}
use Rattle.request_deciding.specs.Serving.{Inquires, Next, next_by_ask, next_in, next_with, question_of}
use Rattle.request_deciding.specs.declared.events.Finding.{Finding}
use Rattle.request_deciding.specs.declared.events.Finding.TheVariants.{CredentialsRead, Drew, Called}
use Rattle.request_deciding.specs.declared.events.Inquiry.TheVariants.{Draw, CallTable}
use Rattle.request_deciding.specs.declared.server.Server.{Server}

-- ---- calls

abbrev pub made : ℕ → Call → Reply → Made
made shard call reply = record { shard = shard; call = call; reply = reply }

-- the reply to a call answers it
pub call_is_for : (d : Deciding) (a b : Seat) (shard : ℕ) (call : Call) (reply : Reply) → ask.Table shard call ≡ ask_of d → shard < a.shards → Grows a b (made shard call reply ∷ []) → IsCallFor reply (ask_of d)
call_is_for d a b shard call reply asks inside grows = subst (IsCallFor reply) asks (made_can_answer {a = a} {b = b} (made shard call reply) inside grows)

none_made : (seat : Seat) → All (λ (m : Made). m.shard < seat.shards) []
none_made seat = All-nil (λ (m : Made). m.shard < seat.shards)

-- ---- findings that follow others

pub answers_in-append : (xs ys : List Finding) → answers_in (xs ++ ys) ≡ answers_in xs ++ answers_in ys
answers_in-append [] ys = refl
answers_in-append (CredentialsRead lines credentials ∷ xs) ys = answers_in-append xs ys
answers_in-append (Drew words ∷ xs) ys = ap (λ (l : List Answer). Words words ∷ l) (answers_in-append xs ys)
answers_in-append (Called shard call reply ∷ xs) ys = ap (λ (l : List Answer). Replied reply ∷ l) (answers_in-append xs ys)

credentials_kept : (xs ys : List Finding) (credentials : RequestCredentials) → credentials_in xs ≡ Some credentials → credentials_in (xs ++ ys) ≡ Some credentials
credentials_kept [] ys credentials is = absurd (let no : ◌≡◌ {A = Option RequestCredentials} None (Some credentials) = is in cc)
credentials_kept (CredentialsRead lines other ∷ xs) ys credentials is = is
credentials_kept (Drew words ∷ xs) ys credentials is = credentials_kept xs ys credentials is
credentials_kept (Called shard call reply ∷ xs) ys credentials is = credentials_kept xs ys credentials is

inquired_more : (role : Role) (s : Server) (t : Incoming) (done found : List Finding) (finding : Finding) → AreInquired role s t done found → next_in role s t (done ++ found) ≡ Inquires (inquiry_of finding) → AreInquired role s t done (found ++ finding ∷ [])
inquired_more role s t done [] finding are is = (ap (λ (l : List Finding). next_in role s t l) (sym (append-nil done)) ∙ is, tt)
inquired_more role s t done (first ∷ found) finding are is =
    (are.0, inquired_more role s t (done ++ first ∷ []) found finding are.1 (ap (λ (l : List Finding). next_in role s t l) (append_one done first found) ∙ is))
  where
    append_one : (done : List Finding) (first : Finding) (found : List Finding) → (done ++ first ∷ []) ++ found ≡ done ++ first ∷ found
    append_one [] first found = refl
    append_one (d ∷ done) first found = ap (λ (l : List Finding). d ∷ l) (append_one done first found)

-- what a decision under way comes to next
next_now : {before now : TableState} {role : Role} {s : Server} {t : Incoming} {d : Deciding} → (g : IsUnderWay before now role s t d) → (a : Ask) → a ≡ ask_of d → next_in role s t g.found ≡ next_by_ask a
next_now {role = role} {s = s} {t = t} {d = d} g a is =
    let answers = answers_in g.found in
    let asks : a ≡ asked (question_of role s t d.question.credentials) answers =
    is ∙ ap (next_ask d.question) g.stage ∙ sym (asked_at d.question answers) ∙ ap (λ (x : Question). asked x answers) g.question in
    ap (λ (o : Option RequestCredentials). next_with role s t o g.found) g.read ∙ ap next_by_ask (sym asks)

-- ---- steps

-- a question is that of the request, where each of its parts is
pub question_is : (q : Question) (role : Role) (s : Server) (t : Incoming) → q.role ≡ role → q.request ≡ t.request → q.moment ≡ t.moment → q.site ≡ s.site → q.shards ≡ s.shards → q ≡ question_of role s t q.credentials
question_is q r s t role request moment site shards =
    ap (λ (x : Role). let y : Question = record { role = x; request = q.request; moment = q.moment; site = q.site; shards = q.shards; credentials = q.credentials } in y) role
    ∙ ap (λ (x : Request). let y : Question = record { role = r; request = x; moment = q.moment; site = q.site; shards = q.shards; credentials = q.credentials } in y) request
    ∙ ap (λ (x : ℕ). let y : Question = record { role = r; request = t.request; moment = x; site = q.site; shards = q.shards; credentials = q.credentials } in y) moment
    ∙ ap (λ (x : Site). let y : Question = record { role = r; request = t.request; moment = t.moment; site = x; shards = q.shards; credentials = q.credentials } in y) site
    ∙ ap (λ (x : ℕ). let y : Question = record { role = r; request = t.request; moment = t.moment; site = s.site; shards = x; credentials = q.credentials } in y) shards

pub goes_start : (table : TableState) (role : Role) (s : Server) (t : Incoming) (d : Deciding) → d.question ≡ question_of role s t d.question.credentials → Reads (credentials_lines role t.request) d.question.credentials → d.stage ≡ first_stage d.question →
    IsUnderWay table table role s t d
goes_start table role s t d question reads first =
    let finding = CredentialsRead (credentials_lines role t.request) d.question.credentials in
    record {
      found = finding ∷ [];
      inquired = (refl, tt);
      read = refl;
      question = question;
      stage = first;
      passed = record { sound = All-cons IsSound finding [] reads (All-nil IsSound); drawn = Adds_none table.drawn; later = later_none table.faults; calls = grows_none table.seat; within = none_made table.seat };
    }

-- one more answer
goes_answer : (before now then : TableState) (role : Role) (s : Server) (t : Incoming) (d d' : Deciding) (finding : Finding) (answer : Answer) → (g : IsUnderWay before now role s t d) → next_in role s t g.found ≡ Inquires (inquiry_of finding) →
    answers_in (finding ∷ []) ≡ answer ∷ [] → TablePassed now then (finding ∷ []) → d' ≡ record d { stage = stage_after d.question d.stage answer } → IsUnderWay before then role s t d'
goes_answer before now then role s t d d' finding answer g asks one passed new = subst (λ (x : Deciding). IsUnderWay before then role s t x) (sym new) (record {
  found = g.found ++ finding ∷ [];
  inquired = inquired_more role s t [] g.found finding g.inquired asks;
  read = credentials_kept g.found (finding ∷ []) d.question.credentials g.read;
  question = g.question;
  stage =
      ap (λ (x : Stage). stage_after d.question x answer) g.stage
      ∙ sym (stage_more d.question (answers_in g.found) answer)
      ∙ ap (λ (l : List Answer). stage_at d.question (answers_in g.found ++ l)) (sym one)
      ∙ ap (stage_at d.question) (sym (answers_in-append g.found (finding ∷ [])));
  passed = table_then before now then g.found (finding ∷ []) g.passed passed;
})

pub goes_drew : (before now then : TableState) (role : Role) (s : Server) (t : Incoming) (d d' : Deciding) (words : List ℕ) → IsUnderWay before now role s t d → ask.Draw ≡ ask_of d →
    Adds now.drawn then.drawn (words ∷ []) → now.faults ≤ then.faults → then.seat ≡ now.seat → d' ≡ record d { stage = stage_after d.question d.stage (Words words) } → IsUnderWay before then role s t d'
goes_drew before now then role s t d d' words g asks drawn later same new =
    goes_answer before now then role s t d d' (Drew words) (Words words) g (next_now g ask.Draw asks) refl
    (record { sound = All-cons IsSound (Drew words) [] tt (All-nil IsSound); drawn = drawn; later = later; calls = subst (λ (x : Seat). Grows now.seat x []) (sym same) (grows_none now.seat); within = none_made now.seat }) new

pub goes_called : (before now : TableState) (seat : Seat) (role : Role) (s : Server) (t : Incoming) (d d' : Deciding) (shard : ℕ) (call : Call) (reply : Reply) → IsUnderWay before now role s t d → ask.Table shard call ≡ ask_of d →
    shard < now.seat.shards → Grows now.seat seat (made shard call reply ∷ []) → d' ≡ record d { stage = stage_after d.question d.stage (Replied reply) } → IsUnderWay before (record now { seat = seat }) role s t d'
goes_called before now seat role s t d d' shard call reply g asks inside grows new =
    goes_answer before now (record now { seat = seat }) role s t d d' (Called shard call reply) (Replied reply) g (next_now g (ask.Table shard call) asks) refl
    (record { sound = All-cons IsSound (Called shard call reply) [] tt (All-nil IsSound); drawn = Adds_none now.drawn; later = later_none now.faults; calls = grows; within = All-cons (λ (m : Made). m.shard < now.seat.shards) (made shard call reply) [] inside (none_made now.seat) }) new

-- ---- ends

-- and nothing more was done
table_still : (u v w : TableState) (found : List Finding) → TablePassed u v found → TablePassed v w [] → TablePassed u w found
table_still u v w found p q = subst (λ (l : List Finding). TablePassed u w l) (append-nil found) (table_then u v w found [] p q)

pub goes_verdict : (before now : TableState) (role : Role) (s : Server) (t : Incoming) (d : Deciding) (verdict : Verdict) → IsUnderWay before now role s t d → ask.Verdict verdict ≡ ask_of d →
    Decides before now role s t (Ok verdict)
goes_verdict before now role s t d verdict g is = record { found = g.found; inquired = g.inquired; passed = g.passed; ends = next_now g (ask.Verdict verdict) is }

pub goes_no_memory : (before now : TableState) (role : Role) (s : Server) (t : Incoming) (d : Deciding) → IsUnderWay before now role s t d → Decides before now role s t (Err OutOfMemory)
goes_no_memory before now role s t d g = record { found = g.found; inquired = g.inquired; passed = g.passed; ends = tt }

-- the call was answered, and then there was no memory
pub goes_spent : (before now : TableState) (seat : Seat) (role : Role) (s : Server) (t : Incoming) (d : Deciding) (shard : ℕ) (call : Call) (reply : Reply) → IsUnderWay before now role s t d → ask.Table shard call ≡ ask_of d →
    shard < now.seat.shards → Grows now.seat seat (made shard call reply ∷ []) → Decides before (record now { seat = seat }) role s t (Err OutOfMemory)
goes_spent before now seat role s t d shard call reply g asks inside grows =
    let then : Deciding = record d { stage = stage_after d.question d.stage (Replied reply) } in
    goes_no_memory before (record now { seat = seat }) role s t then (goes_called before now seat role s t d then shard call reply g asks inside grows refl)

pub start_no_memory : (table : TableState) (role : Role) (s : Server) (t : Incoming) → Decides table table role s t (Err OutOfMemory)
start_no_memory table role s t = record { found = []; inquired = tt; passed = table_none table; ends = tt }

stays_adds : (a b : Option (List (List ℕ))) → Stays a b → Adds a b []
stays_adds None b s = tt
stays_adds (Some x) None s = absurd s
stays_adds (Some x) (Some y) s = λ room. s ∙ sym (append-nil x)

pub goes_no_draw : (before now then : TableState) (role : Role) (s : Server) (t : Incoming) (d : Deciding) → IsUnderWay before now role s t d → ask.Draw ≡ ask_of d →
    Stays now.drawn then.drawn → now.faults ≤ then.faults → Rose now.faults then.faults → then.seat ≡ now.seat → Decides before then role s t (Err (Lacking Random))
goes_no_draw before now then role s t d g asks stays later rose same = record {
  found = g.found;
  inquired = g.inquired;
  passed = table_still before now then g.found g.passed
      (record { sound = All-nil IsSound; drawn = stays_adds now.drawn then.drawn stays; later = later; calls = subst (λ (x : Seat). Grows now.seat x []) (sym same) (grows_none now.seat); within = none_made now.seat });
  ends = (Draw, next_now g ask.Draw asks, (refl, rose_later before.faults now.faults then.faults g.passed.later rose));
}

pub goes_worn : (before now : TableState) (seat : Seat) (role : Role) (s : Server) (t : Incoming) (d : Deciding) (shard calls : ℕ) (call : Call) → IsUnderWay before now role s t d → ask.Table shard call ≡ ask_of d →
    shard < now.seat.shards → IsWorn now.seat seat shard calls → Decides before (record now { seat = seat }) role s t (Err (Lacking (Worn calls)))
goes_worn before now seat role s t d shard calls call g asks inside worn = record {
  found = g.found;
  inquired = g.inquired;
  passed = table_still before now (record now { seat = seat }) g.found g.passed (record { sound = All-nil IsSound; drawn = Adds_none now.drawn; later = later_none now.faults; calls = worn_grows worn; within = none_made now.seat });
  ends = (
    CallTable shard call,
    next_now g (ask.Table shard call) asks,
    (shard, call, refl, subst (λ (n : ℕ). shard < n) g.passed.calls.same.shards inside, worn.noted, worn.at_limit ∙ g.passed.calls.same.limit),
  );
}

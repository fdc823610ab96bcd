-- What is done behind the verdict, and what answering a request does.
use Rattle.std.proofs.Common.{◌≡◌, ◌≢◌, ◌∷◌, [], ◌++◌, ◌≤◌, ℕ, List, false, true, Option, Some, Result, Ok, Err, IfOk, sym, refl, ap, ◌∙◌, subst}
use Rattle.std.specs.Result.{IsErr, IsErrAnd}
use Rattle.std.proofs.lemmas.Result.{err_from_is_err_and}
use Rattle.std.proofs.lemmas.List.{append-nil}
use Rattle.std.proofs.lemmas.List.Elements.{All-nil, All-cons}
use Rattle.auth_decide.specs.declared.verdict.Verdict.{Verdict}
use Rattle.auth_grammar.specs.declared.items.Role.TheVariants.{Origin}
use Rattle.auth_grammar.specs.declared.octets.OutOfMemory.{OutOfMemory as NoMemory}
use Rattle.auth_io.specs.Files.{ReadAnswers, AddsAsked, ReadRose, ReplaceRose, ReplaceSays, IsFailure, contents_after, read_entry}
use Rattle.auth_io.specs.declared.files.Ending.{Ending}
use Rattle.auth_io.specs.declared.files.Ending.TheVariants.{Well, FailedBefore, FailedDone}
use Rattle.auth_io.specs.declared.files.FileAnswer.{FileAnswer}
use Rattle.auth_io.specs.declared.files.FileAnswer.TheVariants.{Found, Absent, TooLarge, Failed, OutOfMemory as NotRead}
use Rattle.auth_io.specs.declared.files.Replaced.{Replaced}
use Rattle.auth_io.specs.declared.files.Replaced.TheVariants.{Done, Failed as NotReplaced, OutOfMemory as NoRoom}
use Rattle.auth_io.proofs.Passing.{AddsAsked_none}
use Rattle.connection_loop.specs.Machine.{Incoming, Asks, Move, Responds, Says}
use Rattle.connection_loop.specs.declared.responder.RespondError.{RespondError}
use Rattle.connection_loop.specs.declared.responder.Response.{Response}
use Rattle.request_deciding.proofs.Machines.{GoesBy, answer_of, behind_events, behind_in-found, behind_of, carried_out, found_events, found_in-found, found_of, gives_up}
use Rattle.request_deciding.specs.Deciding.{AreWanted, Decides}
use Rattle.request_deciding.specs.Outside.{LackedBy, TablePassed, TableState}
use Rattle.request_deciding.specs.declared.events.Event.{Event}
use Rattle.request_deciding.specs.declared.events.Finding.{Finding}
use Rattle.request_deciding.specs.declared.server.Server.{Server}
use Rattle.origin_core.specs.Carrying.{CarriesOut, IsCarriedOut}
use Rattle.origin_core.specs.Events.{IsSound, operation_of, replaced_by}
use Rattle.origin_core.specs.Laws.{files_none}
use Rattle.origin_core.specs.Outside.{FilesPassed, FilesState, Outside, Passed, outside_of}
use Rattle.origin_core.specs.Replies.{found_reply, plan_of, replaced_reply, status_of, status_reply}
use Rattle.origin_core.specs.Serving.{carry_out, course, operation_for, origin, plan_reply, says_or}
use Rattle.origin_core.specs.declared.carrying.TheConstants.{FILE_LIMIT}
use Rattle.origin_core.specs.declared.events.FileEvent.{FileEvent}
use Rattle.origin_core.specs.declared.events.FileEvent.TheVariants.{FileRead, FileReplaced}
use Rattle.origin_core.specs.declared.events.FileOperation.{FileOperation}
use Rattle.origin_core.specs.declared.events.FileOperation.TheVariants.{ReadFile, ReplaceFile}
use Rattle.origin_core.specs.declared.plan.Plan.{Plan}
use Rattle.origin_core.specs.declared.plan.Plan.TheVariants.{Refuse, Read, Replace}
use Rattle.origin_core.specs.declared.plan.Refusal.{Refusal}

-- ---- what a plan wants

-- the site's server decides first, and then carries the verdict's plan out
goes_by : (s : Server) (t : Incoming) → GoesBy origin Origin course operation_of s t
goes_by s t = record { moves = λ events. refl; tells = λ event. refl }

-- before anything was done with a file, a plan asks for what it wants
asks_file : (s : Server) (incoming : Incoming) (verdict : Verdict) (plan : Plan) (event : FileEvent) → operation_for incoming plan ≡ Some (operation_of event) → carry_out s incoming verdict plan [] ≡ Asks (operation_of event) s
asks_file s incoming verdict (Refuse refusal) event is = cc
asks_file s incoming verdict (Read name) event is =
    let same : Some (ReadFile name) ≡ Some (operation_of event) = is in
    let one : ReadFile name ≡ operation_of event = cc in
    ap (λ (o : FileOperation). let move : Move FileOperation Server = Asks o s in move) one
asks_file s incoming verdict (Replace name) event is =
    let same : Some (ReplaceFile name incoming.request.body) ≡ Some (operation_of event) = is in
    let one : ReplaceFile name incoming.request.body ≡ operation_of event = cc in
    ap (λ (o : FileOperation). let move : Move FileOperation Server = Asks o s in move) one

-- after it the reply is said
says_reply : (s : Server) (incoming : Incoming) (verdict : Verdict) (plan : Plan) (events : List FileEvent) (reply : Response) → plan_reply incoming verdict plan events ≡ Some reply → carry_out s incoming verdict plan events ≡ Says reply s
says_reply s incoming verdict (Refuse refusal) events reply is =
    let same : Some (status_reply incoming verdict (status_of refusal)) ≡ Some reply = is in
    let one : status_reply incoming verdict (status_of refusal) ≡ reply = cc in
    ap (λ (r : Response). let move : Move FileOperation Server = Says r s in move) one
says_reply s incoming verdict (Read name) events reply is = ap (says_or s (ReadFile name)) is
says_reply s incoming verdict (Replace name) events reply is = ap (says_or s (ReplaceFile name incoming.request.body)) is

abbrev plan_for : Server → Incoming → Verdict → Plan
plan_for s incoming verdict = plan_of s.site.root incoming.request verdict

are_wanted : (s : Server) (incoming : Incoming) (verdict : Verdict) (events : List FileEvent) → IsCarriedOut incoming (plan_for s incoming verdict) events → AreWanted course operation_of s incoming verdict [] events
are_wanted s incoming verdict [] is = tt
are_wanted s incoming verdict (event ∷ []) is = (asks_file s incoming verdict (plan_for s incoming verdict) event is, tt)
are_wanted s incoming verdict (event ∷ more ∷ events) is = absurd is

is_said : (s : Server) (incoming : Incoming) (verdict : Verdict) (events : List FileEvent) (result : Result Response NoMemory) → IfOk result (λ response. plan_reply incoming verdict (plan_for s incoming verdict) events ≡ Some response) → IfOk result (λ response. course s incoming verdict events ≡ Says response s)
is_said s incoming verdict events (Ok response) replies = says_reply s incoming verdict (plan_for s incoming verdict) events response replies
is_said s incoming verdict events (Err error) replies = tt

-- ---- a request

abbrev Answers : Outside → Outside → Server → Incoming → Result Response RespondError → Type 0
Answers u v s incoming result = (events : List (Event FileEvent)) × Passed u v events × Responds origin (LackedBy u.table v.table) s s incoming events result

passed_by : (u v : Outside) (found : List Finding) (events : List FileEvent) → TablePassed u.table v.table found → FilesPassed u.files v.files events → Passed u v (found_events found ++ behind_events events)
passed_by u v found events table files = record {
  files = subst (λ (l : List FileEvent). FilesPassed u.files v.files l) (sym (behind_of found events)) files;
  table = subst (λ (l : List Finding). TablePassed u.table v.table l) (sym (found_of found events)) table;
}

-- A decision, and its plan carried out, answer the request.
pub answers : (files files' : FilesState) (table table' : TableState) (s : Server) (incoming : Incoming) (verdict : Verdict) (root : List ℕ) (result : Result Response NoMemory) → root ≡ s.site.root → Decides table table' Origin s incoming (Ok verdict) →
    CarriesOut files files' incoming verdict (plan_of root incoming.request verdict) result → Answers (outside_of files table) (outside_of files' table') s incoming (answer_of result)
answers files files' table table' s incoming verdict root result same d at_root =
    let c = subst (λ (r : List ℕ). CarriesOut files files' incoming verdict (plan_of r incoming.request verdict) result) same at_root in (
      found_events d.found ++ behind_events c.events,
      passed_by (outside_of files table) (outside_of files' table') d.found c.events d.passed c.passed,
      carried_out origin Origin course operation_of s incoming (goes_by s incoming) table table' verdict d c.events (are_wanted s incoming verdict c.events c.carried) result (is_said s incoming verdict c.events result c.replies),
    )

-- A decision that ends without a verdict ends the request.
gives_none : (files : FilesState) (table table' : TableState) (s : Server) (incoming : Incoming) (error : RespondError) → Decides table table' Origin s incoming (Err error) → Answers (outside_of files table) (outside_of files table') s incoming (Err error)
gives_none files table table' s incoming error d = (
  found_events d.found,
  record {
    files = subst (λ (l : List FileEvent). FilesPassed files files l) (sym (behind_in-found FileEvent d.found)) (files_none files);
    table = subst (λ (l : List Finding). TablePassed table table' l) (sym (found_in-found FileEvent d.found)) d.passed;
  },
  gives_up origin Origin course operation_of s incoming (goes_by s incoming) table table' error d,
)

-- the same for any answer that is that error
pub gives_up_as : (files : FilesState) (table table' : TableState) (s : Server) (incoming : Incoming) (error : RespondError) (result : Result Response RespondError) → IsErrAnd result (λ e. e ≡ error) → Decides table table' Origin s incoming (Err error) →
    Answers (outside_of files table) (outside_of files table') s incoming result
gives_up_as files table table' s incoming error result is d =
    let known = err_from_is_err_and result is in
    subst (λ (r : Result Response RespondError). Answers (outside_of files table) (outside_of files table') s incoming r) (sym (known.1 ∙ ap Err known.2)) (gives_none files table table' s incoming error d)

-- ---- carrying a plan out

-- A plan that wants no file.
pub refused : (files : FilesState) (incoming : Incoming) (verdict : Verdict) (plan : Plan) (result : Result Response NoMemory) → IfOk result (λ response. plan_reply incoming verdict plan [] ≡ Some response) → CarriesOut files files incoming verdict plan result
refused files incoming verdict plan result replies = record { events = []; passed = files_none files; carried = tt; replies = replies }

some_if : (reply : Response) (result : Result Response NoMemory) → IfOk result (λ response. response ≡ reply) → IfOk result (λ response. Some reply ≡ Some response)
some_if reply (Ok response) is = ap Some (sym is)
some_if reply (Err error) is = tt

-- A refusal, and its reply.
pub refuses : (files : FilesState) (incoming : Incoming) (verdict : Verdict) (plan : Plan) (status : ℕ) (refusal : Refusal) (result : Result Response NoMemory) → plan ≡ Refuse refusal → status ≡ status_of refusal →
    IfOk result (λ response. response ≡ status_reply incoming verdict status) → CarriesOut files files incoming verdict plan result
refuses files incoming verdict plan status refusal result is status_is reply =
    let known = subst (λ (n : ℕ). IfOk result (λ response. response ≡ status_reply incoming verdict n)) status_is reply in
    subst (λ (p : Plan). CarriesOut files files incoming verdict p result) (sym is) (refused files incoming verdict (Refuse refusal) result (some_if (status_reply incoming verdict (status_of refusal)) result known))

-- A plan that isn't there, for want of memory.
pub no_plan : (files : FilesState) (incoming : Incoming) (verdict : Verdict) (plan : Plan) (result : Result Response NoMemory) → IsErr result → CarriesOut files files incoming verdict plan result
no_plan files incoming verdict plan (Ok response) is = absurd (let no : false ≡ true = is in cc)
no_plan files incoming verdict plan (Err other) is = refused files incoming verdict plan (Err other) tt

-- Nothing was done, for want of memory.
none_done : (before now : FilesState) (incoming : Incoming) (verdict : Verdict) (plan : Plan) (result : Result Response NoMemory) → now.contents ≡ before.contents → AddsAsked before.asked now.asked [] → now.faults ≡ before.faults → before.faults ≤ now.faults →
    IfOk result (λ response. ⊥) → CarriesOut before now incoming verdict plan result
none_done before now incoming verdict plan (Ok response) contents asked faults later none = absurd none
none_done before now incoming verdict plan (Err error) contents asked faults later none = record {
  events = [];
  passed = record { sound = All-nil IsSound; contents = contents; asked = asked; faults = faults; later = later };
  carried = tt;
  replies = tt;
}

none_if : {P : Type 0} (result : Result Response NoMemory) → P → IfOk result (λ response. P → ⊥) → IfOk result (λ response. ⊥)
none_if (Ok response) p never = never p
none_if (Err error) p never = tt

-- a file that was read
read_so : (before now : FilesState) (incoming : Incoming) (verdict : Verdict) (name : List ℕ) (answer : FileAnswer) (result : Result Response NoMemory) → answer ≢ NotRead →
    ReadAnswers before.contents name FILE_LIMIT answer → now.contents ≡ before.contents → AddsAsked before.asked now.asked (read_entry name answer) → before.faults ≤ now.faults → ReadRose answer before.faults now.faults →
    IfOk result (λ response. response ≡ found_reply incoming verdict answer) → CarriesOut before now incoming verdict (Read name) result
read_so before now incoming verdict name answer result sound answers stays asked later rose replies = record {
  events = FileRead name answer ∷ [];
  passed = record {
    sound = All-cons IsSound (FileRead name answer) [] sound (All-nil IsSound);
    contents = (answers, stays);
    asked = subst (λ (l : List (List ℕ × Ending)). AddsAsked before.asked now.asked l) (sym (append-nil (read_entry name answer))) asked;
    faults = (now.faults, rose, refl);
    later = later;
  };
  carried = refl;
  replies = some_if (found_reply incoming verdict answer) result replies;
}

-- A file that was asked for, and the reply by what it gave.
pub read : (before now : FilesState) (incoming : Incoming) (verdict : Verdict) (name : List ℕ) (answer : FileAnswer) (result : Result Response NoMemory) →
    ReadAnswers before.contents name FILE_LIMIT answer → now.contents ≡ before.contents → AddsAsked before.asked now.asked (read_entry name answer) → before.faults ≤ now.faults → ReadRose answer before.faults now.faults →
    IfOk result (λ response. response ≡ found_reply incoming verdict answer) → IfOk result (λ response. answer ≢ NotRead) → CarriesOut before now incoming verdict (Read name) result
read before now incoming verdict name (Found bytes) result answers stays asked later rose replies some = read_so before now incoming verdict name (Found bytes) result (λ e. cc) answers stays asked later rose replies
read before now incoming verdict name Absent result answers stays asked later rose replies some = read_so before now incoming verdict name Absent result (λ e. cc) answers stays asked later rose replies
read before now incoming verdict name TooLarge result answers stays asked later rose replies some = read_so before now incoming verdict name TooLarge result (λ e. cc) answers stays asked later rose replies
read before now incoming verdict name Failed result answers stays asked later rose replies some = read_so before now incoming verdict name Failed result (λ e. cc) answers stays asked later rose replies
read before now incoming verdict name NotRead result answers stays asked later rose replies some =
    none_done before now incoming verdict (Read name) result stays asked rose later (none_if {P = NotRead ≡ NotRead} result refl some)

fails : (ending : Ending) → IsFailure ending → NotReplaced ≡ replaced_by ending
fails Well f = absurd f
fails FailedBefore f = refl
fails FailedDone f = refl

-- a replace that ended so
replaced_so : (before now : FilesState) (incoming : Incoming) (verdict : Verdict) (name : List ℕ) (ending : Ending) (answer : Replaced) (result : Result Response NoMemory) → answer ≡ replaced_by ending →
    now.contents ≡ contents_after before.contents name incoming.request.body ending → AddsAsked before.asked now.asked ((name, ending) ∷ []) → before.faults ≤ now.faults → ReplaceRose answer before.faults now.faults →
    IfOk result (λ response. response ≡ replaced_reply incoming verdict answer) → CarriesOut before now incoming verdict (Replace name) result
replaced_so before now incoming verdict name ending answer result is contents asked later rose replies =
    let event = FileReplaced name incoming.request.body ending in record {
      events = event ∷ [];
      passed = record {
        sound = All-cons IsSound event [] tt (All-nil IsSound);
        contents = contents;
        asked = asked;
        faults = (now.faults, subst (λ (x : Replaced). ReplaceRose x before.faults now.faults) is rose, refl);
        later = later;
      };
      carried = refl;
      replies = some_if (replaced_reply incoming verdict (replaced_by ending)) result (subst (λ (x : Replaced). IfOk result (λ response. response ≡ replaced_reply incoming verdict x)) is replies);
    }

stays_asked : (a b : Option (List (List ℕ × Ending))) → b ≡ a → AddsAsked a b []
stays_asked a b is = subst (λ (x : Option (List (List ℕ × Ending))). AddsAsked a x []) (sym is) (AddsAsked_none a)

-- A file that was to be replaced, and the reply by how that ended.
pub replaced : (before now : FilesState) (incoming : Incoming) (verdict : Verdict) (name bytes : List ℕ) (answer : Replaced) (result : Result Response NoMemory) → bytes ≡ incoming.request.body →
    ReplaceSays before.contents now.contents before.asked now.asked name bytes answer → before.faults ≤ now.faults → ReplaceRose answer before.faults now.faults →
    IfOk result (λ response. response ≡ replaced_reply incoming verdict answer) → IfOk result (λ response. answer ≢ NoRoom) → CarriesOut before now incoming verdict (Replace name) result
replaced before now incoming verdict name bytes Done result same says later rose replies some =
    replaced_so before now incoming verdict name Well Done result refl (subst (λ (b : List ℕ). now.contents ≡ contents_after before.contents name b Well) same says.0) says.1 later rose replies
replaced before now incoming verdict name bytes NotReplaced result same says later rose replies some =
    replaced_so before now incoming verdict name says.0 NotReplaced result (fails says.0 says.1) (subst (λ (b : List ℕ). now.contents ≡ contents_after before.contents name b says.0) same says.2) says.3 later rose replies
replaced before now incoming verdict name bytes NoRoom result same says later rose replies some =
    none_done before now incoming verdict (Replace name) result says.0 (stays_asked before.asked now.asked says.1) rose later (none_if {P = NoRoom ≡ NoRoom} result refl some)

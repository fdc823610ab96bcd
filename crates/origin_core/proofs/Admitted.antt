-- The requests of a connection of the site that were answered, and who was admitted.
use Rattle.std.proofs.Common.{◌≡◌, ◌∷◌, [], ℕ, List, Option, Some, None, Result, refl, subst}
use Rattle.auth_decide.specs.declared.verdict.Verdict.{Verdict}
use Rattle.connection_loop.specs.Account.{LinkState}
use Rattle.connection_loop.specs.Machine.{Incoming}
use Rattle.connection_loop.specs.Results.{ServesSession}
use Rattle.connection_loop.specs.declared.responder.Response.{Response}
use Rattle.connection_loop.specs.declared.served.Served.{Served}
use Rattle.connection_loop.specs.declared.served.ServeError.{ServeError}
use Rattle.request_deciding.specs.Outside.{LackedBy}
use Rattle.request_deciding.specs.Serving.{Course}
use Rattle.request_deciding.specs.declared.server.Server.{Server}
use Rattle.served_requests.proofs.Connections.{admits_rightly}
use Rattle.served_requests.specs.Conduct.{Follows, server_in}
use Rattle.origin_core.specs.Admissions.{ServesConnection, conduct}
use Rattle.origin_core.specs.Outside.{Outside, Passed}
use Rattle.origin_core.specs.Replies.{plan_of}
use Rattle.origin_core.specs.Serving.{carry_out, course, file_reply, origin, says_or}
use Rattle.origin_core.specs.declared.events.FileEvent.{FileEvent}
use Rattle.origin_core.specs.declared.events.FileOperation.{FileOperation}
use Rattle.origin_core.specs.declared.events.FileOperation.TheVariants.{ReadFile, ReplaceFile}
use Rattle.origin_core.specs.declared.plan.Plan.{Plan}
use Rattle.origin_core.specs.declared.plan.Plan.TheVariants.{Refuse, Read, Replace}

-- no course changes the server
says_keeps : (s : Server) (operation : FileOperation) (reply : Option Response) → server_in (says_or s operation reply) ≡ s
says_keeps s operation None = refl
says_keeps s operation (Some response) = refl

carry_keeps : (s : Server) (t : Incoming) (verdict : Verdict) (plan : Plan) (done : List FileEvent) → server_in (carry_out s t verdict plan done) ≡ s
carry_keeps s t verdict (Refuse refusal) done = refl
carry_keeps s t verdict (Read name) done = says_keeps s (ReadFile name) (file_reply t verdict done)
carry_keeps s t verdict (Replace name) done = says_keeps s (ReplaceFile name t.request.body) (file_reply t verdict done)

keeps : (way : Course FileOperation FileEvent) (s : Server) (t : Incoming) (verdict : Verdict) (done : List FileEvent) → conduct.course t ≡ Some way → server_in (way s t verdict done) ≡ s
keeps way s t verdict done is =
    let both : ◌≡◌ {A = Option (Course FileOperation FileEvent)} (Some course) (Some way) = is in
    let same : course ≡ way = cc in
    subst (λ (w : Course FileOperation FileEvent). server_in (w s t verdict done) ≡ s) same (carry_keeps s t verdict (plan_of s.site.root t.request verdict) done)

follows : Follows origin conduct
follows = record { moves = λ s t events. refl; tells = λ event. refl; keeps = keeps }

pub serves_connection : (before now : Outside) (link link' : LinkState) (shown shown' : Option (List ℕ)) (s : Server) (result : Result Served ServeError)
    → ServesSession origin (LackedBy before.table now.table) (Passed before now) link link' shown shown' s s result → ServesConnection before now link link' shown shown' s result
serves_connection before now link link' shown shown' s result served = record {
  session = served;
  requests = admits_rightly origin conduct follows before.table now.table link.left link'.left s s served.account result served.linked.gave served.events.table served.tells;
}

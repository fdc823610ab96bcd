-- The requests of a connection of the proxy that were answered, and who was admitted.
use Rattle.std.proofs.Common.{◌≡◌, ◌∷◌, [], ℕ, Bool, true, false, List, Option, Some, None, Result, refl, subst}
use Rattle.std.specs.Option.{option_map}
use Rattle.auth_decide.specs.declared.verdict.Verdict.{Verdict}
use Rattle.auth_grammar.specs.declared.items.Role.TheVariants.{Proxy}
use Rattle.connection_loop.specs.Account.{LinkState}
use Rattle.connection_loop.specs.Machine.{Incoming}
use Rattle.connection_loop.specs.Results.{ServesSession}
use Rattle.connection_loop.specs.declared.served.Served.{Served}
use Rattle.connection_loop.specs.declared.served.ServeError.{ServeError}
use Rattle.dial_exchange.specs.Exchanges.{wants_memory}
use Rattle.dial_exchange.specs.declared.events.DialEvent.{DialEvent}
use Rattle.request_deciding.specs.Outside.{LackedBy}
use Rattle.request_deciding.specs.Serving.{Course}
use Rattle.request_deciding.specs.declared.events.Event.{Event}
use Rattle.request_deciding.specs.declared.server.Server.{Server}
use Rattle.served_requests.proofs.Connections.{admits_rightly}
use Rattle.served_requests.specs.Conduct.{Follows, move_on, server_in}
use Rattle.proxy_core.specs.Admissions.{ServesConnection, conduct}
use Rattle.proxy_core.specs.Outside.{Outside, Passed}
use Rattle.proxy_core.specs.Replies.{no_target_reply}
use Rattle.proxy_core.specs.Serving.{after_exchange, course, move_to, proxy, refusal_of, unless_refused}
use Rattle.proxy_core.specs.Targets.{authority_of}
use Rattle.proxy_core.specs.declared.demand.Demand.{Demand}

moves : (authority : Option (List ℕ)) (s : Server) (t : Incoming) (events : List (Event DialEvent)) → move_to authority s t events ≡ move_on Proxy (no_target_reply t) (option_map course authority) s t events
moves None s t events = refl
moves (Some authority) s t events = refl

-- no course changes the server
after_keeps : (s : Server) (t : Incoming) (verdict : Verdict) (event : DialEvent) (memory : Bool) → server_in (after_exchange s t verdict event memory) ≡ s
after_keeps s t verdict event true = refl
after_keeps s t verdict event false = refl

refusal_keeps : (authority : List ℕ) (s : Server) (t : Incoming) (verdict : Verdict) (done : List DialEvent) (refusal : Option ℕ) → server_in (unless_refused authority s t verdict done refusal) ≡ s
refusal_keeps authority s t verdict done (Some status) = refl
refusal_keeps authority s t verdict [] None = refl
refusal_keeps authority s t verdict (event ∷ done) None = after_keeps s t verdict event (wants_memory event)

keeps : (authority : Option (List ℕ)) (way : Course Demand DialEvent) (s : Server) (t : Incoming) (verdict : Verdict) (done : List DialEvent) → option_map course authority ≡ Some way → server_in (way s t verdict done) ≡ s
keeps None way s t verdict done is = absurd (let no : ◌≡◌ {A = Option (Course Demand DialEvent)} None (Some way) = is in cc)
keeps (Some authority) way s t verdict done is =
    let both : ◌≡◌ {A = Option (Course Demand DialEvent)} (Some (course authority)) (Some way) = is in
    let same : course authority ≡ way = cc in
    subst (λ (w : Course Demand DialEvent). server_in (w s t verdict done) ≡ s) same (refusal_keeps authority s t verdict done (refusal_of verdict))

follows : Follows proxy conduct
follows = record {
  moves = λ s t events. moves (authority_of t.request.target) s t events;
  tells = λ event. refl;
  keeps = λ way s t verdict done is. keeps (authority_of t.request.target) way s t verdict done is;
}

pub serves_connection : (before now : Outside) (link link' : LinkState) (shown shown' : Option (List ℕ)) (s : Server) (result : Result Served ServeError)
    → ServesSession proxy (LackedBy before.table now.table) (Passed before now) link link' shown shown' s s result → ServesConnection before now link link' shown shown' s result
serves_connection before now link link' shown shown' s result served = record {
  session = served;
  requests = admits_rightly proxy conduct follows before.table now.table link.left link'.left s s served.account result served.linked.gave served.events.table served.tells;
}

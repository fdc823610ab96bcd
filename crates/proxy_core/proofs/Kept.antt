-- Why nothing is dialled but for an admitted request, and no credentials go up.
use Rattle.std.proofs.Common.{◌≡◌, ◌∷◌, [], ◌++◌, ℕ, List, Bool, true, false, cond, map, Option, Some, None, inl, inr, refl, sym, ap, ◌∙◌}
use Rattle.std.specs.Prelude.{◌||◌, ◌&&◌, ◌⊎◌, not, filter, codes}
use Rattle.std.specs.List.{All}
use Rattle.std.proofs.lemmas.List.Elements.{All-nil, All-cons, All-append}
use Rattle.auth_decide.specs.declared.verdict.Verdict.{Verdict}
use Rattle.auth_decide.specs.declared.verdict.Verdict.TheVariants.{Admit, Open, Challenge, Continue, Bad}
use Rattle.auth_grammar.specs.Names.{same_name}
use Rattle.auth_grammar.specs.declared.items.Role.TheVariants.{Proxy}
use Rattle.connection_loop.specs.Machine.{Asks, Incoming, Move, Says}
use Rattle.dial_exchange.specs.Exchanges.{wants_memory}
use Rattle.dial_exchange.specs.declared.events.DialEvent.{DialEvent}
use Rattle.http_wire.specs.Fields.{Pairs, values_of}
use Rattle.http_wire.specs.Values.{has_token}
use Rattle.http_wire.specs.declared.pair.Pair.{Pair}
use Rattle.request_deciding.specs.Findings.{behind_in, found_in}
use Rattle.request_deciding.specs.Serving.{Concludes, Inquires, Next, lifted, move_by, next_in}
use Rattle.request_deciding.specs.declared.events.Event.{Event}
use Rattle.request_deciding.specs.declared.events.Operation.{Operation}
use Rattle.request_deciding.specs.declared.events.Operation.TheVariants.{Inquire, Behind}
use Rattle.request_deciding.specs.declared.server.Server.{Server}
use Rattle.proxy_core.specs.Fields.{is_among, is_passed, line_of, lines_up, own_names, passed_lines, via_line}
use Rattle.proxy_core.specs.Outgoing.{outgoing_of}
use Rattle.proxy_core.specs.Promises.{IsSentOn}
use Rattle.proxy_core.specs.Serving.{after_exchange, course, move_to, next_move, pass_on}
use Rattle.proxy_core.specs.Targets.{authority_of}
use Rattle.proxy_core.specs.declared.demand.Demand.{Demand}
use Rattle.proxy_core.specs.declared.demand.Demand.TheVariants.{Send, Memory}
use Rattle.proxy_core.specs.declared.fields.Way.TheVariants.{Up}

-- ---- what is dialled

abbrev Moved : Type 0
Moved = Move (Operation Demand) Server

same_demand : {s now : Server} {a b : Demand} → ◌≡◌ {A = Moved} (Asks (Behind a) s) (Asks (Behind b) now) → b ≡ a
same_demand {s} {now} {a} {b} is = cc

no_demand : {s now : Server} {reply : _} {b : Demand} → ◌≡◌ {A = Moved} (Says reply s) (Asks (Behind b) now) → ⊥
no_demand {s} {now} {reply} {b} is = cc

-- what is wanted of what is passed on
wanted_of : (authority : List ℕ) (s : Server) (t : Incoming) (verdict : Verdict) (done : List DialEvent) (wanted : Demand) (now : Server) → lifted (pass_on authority s t verdict done) ≡ Asks (Behind wanted) now → (wanted ≡ Send (outgoing_of t.request authority)) ⊎ (wanted ≡ Memory)
wanted_of authority s t verdict [] wanted now is = inl (same_demand is)
wanted_of authority s t verdict (event ∷ done) wanted now is = by (wants_memory event) is
  where
    by : (b : Bool) → lifted (after_exchange s t verdict event b) ≡ Asks (Behind wanted) now → (wanted ≡ Send (outgoing_of t.request authority)) ⊎ (wanted ≡ Memory)
    by true is = inr (same_demand is)
    by false is = absurd (no_demand is)

sent_by : (authority : List ℕ) (s : Server) (t : Incoming) (events : List (Event DialEvent)) (wanted : Demand) (now : Server) → authority_of t.request.target ≡ Some authority → (verdict : Verdict) → next_in Proxy s t (found_in events) ≡ Concludes verdict →
    lifted (course authority s t verdict (behind_in events)) ≡ Asks (Behind wanted) now → IsSentOn s t events wanted
sent_by authority s t events wanted now target (Admit user proof) is moves = record {
  authority = authority;
  of_target = target;
  user = user;
  proof = proof;
  admitted = is;
  sent = wanted_of authority s t (Admit user proof) (behind_in events) wanted now moves;
}
sent_by authority s t events wanted now target (Open items) is moves = absurd (no_demand moves)
sent_by authority s t events wanted now target (Challenge items) is moves = absurd (no_demand moves)
sent_by authority s t events wanted now target (Continue item) is moves = absurd (no_demand moves)
sent_by authority s t events wanted now target (Bad why) is moves = absurd (no_demand moves)

sent_next : (authority : List ℕ) (s : Server) (t : Incoming) (events : List (Event DialEvent)) (wanted : Demand) (now : Server) → authority_of t.request.target ≡ Some authority → (next : Next) → next_in Proxy s t (found_in events) ≡ next →
    move_by (course authority) s t next (behind_in events) ≡ Asks (Behind wanted) now → IsSentOn s t events wanted
sent_next authority s t events wanted now target (Inquires inquiry) is moves = absurd (let no : ◌≡◌ {A = Moved} (Asks (Inquire inquiry) s) (Asks (Behind wanted) now) = moves in cc)
sent_next authority s t events wanted now target (Concludes verdict) is moves = sent_by authority s t events wanted now target verdict is moves

sent_to : (s : Server) (t : Incoming) (events : List (Event DialEvent)) (wanted : Demand) (now : Server) (o : Option (List ℕ)) → authority_of t.request.target ≡ o → move_to o s t events ≡ Asks (Behind wanted) now → IsSentOn s t events wanted
sent_to s t events wanted now None target moves = absurd (no_demand moves)
sent_to s t events wanted now (Some authority) target moves = sent_next authority s t events wanted now target (next_in Proxy s t (found_in events)) refl moves

pub sent_only : (s : Server) (t : Incoming) (events : List (Event DialEvent)) (wanted : Demand) (now : Server) → next_move s t events ≡ Asks (Behind wanted) now → IsSentOn s t events wanted
sent_only s t events wanted now moves = sent_to s t events wanted now (authority_of t.request.target) refl moves

-- ---- what goes up

or_left : (a b : Bool) → (a || b) ≡ false → a ≡ false
or_left true b e = absurd (cc)
or_left false b e = refl

or_right : (a b : Bool) → (a || b) ≡ false → b ≡ false
or_right true b e = absurd (cc)
or_right false b e = e

-- a name that is among none of some is not one of them
not_among : (names before after : List (List ℕ)) (other name : List ℕ) → names ≡ before ++ other ∷ after → is_among names name ≡ false → same_name name other ≡ false
not_among names before after other name is none = at before (ap (λ (l : List (List ℕ)). is_among l name) (sym is) ∙ none)
  where
    at : (before : List (List ℕ)) → is_among (before ++ other ∷ after) name ≡ false → same_name name other ≡ false
    at [] e = or_left (same_name name other) (is_among after name) e
    at (b ∷ before) e = at before (or_right (same_name name b) (is_among (before ++ other ∷ after) name) e)

passed_not : (a b : Bool) → (not a && b) ≡ true → a ≡ false
passed_not true b e = absurd (cc)
passed_not false b e = refl

abbrev IsNone : Pair → Type 0
IsNone line = same_name line.name (codes "proxy-authorization") ≡ false

none_passed : (fields : Pairs) (name : List ℕ) → is_passed Up fields name ≡ true → same_name name (codes "proxy-authorization") ≡ false
none_passed fields name is =
    not_among own_names
    (codes "host" ∷ codes "content-length" ∷ codes "expect" ∷ codes "connection" ∷ codes "proxy-connection" ∷ codes "keep-alive" ∷ codes "te" ∷ codes "upgrade" ∷ [])
    [] (codes "proxy-authorization") name refl
    (passed_not (is_among own_names name) (not (has_token (values_of fields (codes "connection")) name)) is)

none_lines : (fields rest : Pairs) → All IsNone (map line_of (filter (λ (f : List ℕ × List ℕ). is_passed Up fields f.0) rest))
none_lines fields [] = All-nil IsNone
none_lines fields (f ∷ rest) = by (is_passed Up fields f.0) refl (none_lines fields rest)
  where
    by : (b : Bool) → is_passed Up fields f.0 ≡ b → All IsNone (map line_of (filter (λ (f : List ℕ × List ℕ). is_passed Up fields f.0) rest)) → All IsNone (map line_of (cond b (f ∷ filter (λ (f : List ℕ × List ℕ). is_passed Up fields f.0) rest) (filter (λ (f : List ℕ × List ℕ). is_passed Up fields f.0) rest)))
    by true is below = All-cons IsNone (line_of f) (map line_of (filter (λ (f : List ℕ × List ℕ). is_passed Up fields f.0) rest)) (none_passed fields f.0 is) below
    by false is below = below

pub none_up : (fields : Pairs) → All IsNone (lines_up fields)
none_up fields = All-append IsNone (passed_lines Up fields) (via_line ∷ []) (none_lines fields fields) (All-cons IsNone via_line [] refl (All-nil IsNone))

-- How a session goes on, by what stands at the front of its input.
use Rattle.std.proofs.Common.{◌≡◌, ◌∷◌, [], ◌++◌, ◌-◌, ℕ, zero, suc, List, length, Bool, true, false, cond, sym, refl, ap, ◌∙◌, append_assoc}
use Rattle.std.proofs.lemmas.List.{append-nil}
use Rattle.http_wire.specs.declared.request.Request.{Request}
use Rattle.http_wire.specs.Requests.{Front, Unfinished, Whole, Wrong, front, is_due}
use Rattle.http_wire.specs.Answers.{continue_text}
use Rattle.http_wire.proofs.RequestLaws.{whole_more, due_more}
use Rattle.connection_loop.specs.Machine.{Machine, Incoming, Turn, Said, Lacks, turn, asks_in, output_in, state_in, left_in}
use Rattle.connection_loop.specs.Session.{AtBad, AtLimit, Lacking, Supply, Session, after, end_of_input, due_text, refusal, writes, is_last, closed_or, request_past, session}
use Rattle.connection_loop.specs.Steps.{due}
use Rattle.connection_loop.specs.declared.responder.Response.{Response}

-- ---- the front of an input

abbrev due_of : Front → List ℕ
due_of at = due_text (is_due at)

-- a request at the front of an input
abbrev pub asks_at : Request → ℕ → ℕ → Incoming
asks_at request room moment = record { request = request; last = is_last request.closes room; moment = moment }

pub session-limit : {S Q E : Type 0} (m : Machine S Q E) (state : S) (input : List ℕ) (supply : Supply E) → session m zero state input supply ≡ writes [] AtLimit state supply
unfolding session
session-limit m state input supply = refl

pub session-waits : {S Q E : Type 0} (m : Machine S Q E) (room : ℕ) (state : S) (input : List ℕ) (supply : Supply E) (waits : Bool) → front input ≡ Unfinished waits →
    session m (suc room) state input supply ≡ writes (due input) (end_of_input input) state supply
unfolding session
session-waits {S = S} {Q = Q} {E = E} m room state input supply waits e =
    let is : session m (suc room) state input supply ≡ writes (due_text waits) (end_of_input input) state supply = rw (e, session) refl in
    is ∙ ap (λ (l : List ℕ). writes l (end_of_input input) state supply) (sym (ap due_of e))

pub session-bad : {S Q E : Type 0} (m : Machine S Q E) (room : ℕ) (state : S) (input : List ℕ) (moment : ℕ) (moments : List ℕ) (events : List E) (status : ℕ) → front input ≡ Wrong status →
    session m (suc room) state input (record { moments = moment ∷ moments; events = events }) ≡ writes (refusal status moment) AtBad state (record { moments = moments; events = events })
unfolding session
session-bad m room state input moment moments events status e = rw (e, session) refl

pub session-said : {S Q E : Type 0} (m : Machine S Q E) (room : ℕ) (state now : S) (input : List ℕ) (moment : ℕ) (moments : List ℕ) (events events' : List E) (waits : Bool) (request : Request) (rest : List ℕ) (response : Response) (asks : List Q) →
    front input ≡ Whole waits request rest → turn m events state (asks_at request room moment) [] ≡ Said response now asks events' →
    session m (suc room) state input (record { moments = moment ∷ moments; events = events })
    ≡ after (request_past (due input) (length input - length rest) response asks)
    (closed_or request.closes room now (record { moments = moments; events = events' }) (session m room now rest (record { moments = moments; events = events' })))
unfolding session
session-said m room state now input moment moments events events' waits request rest response asks e t =
    let later = closed_or request.closes room now (record { moments = moments; events = events' }) (session m room now rest (record { moments = moments; events = events' })) in
    let is : session m (suc room) state input (record { moments = moment ∷ moments; events = events }) ≡ after (request_past (due_text waits) (length input - length rest) response asks) later = rw (e, t, session) refl in
    is ∙ ap (λ (l : List ℕ). after (request_past l (length input - length rest) response asks) later) (sym (ap due_of e))

pub session-lacks : {S Q E : Type 0} (m : Machine S Q E) (room : ℕ) (state now : S) (input : List ℕ) (moment : ℕ) (moments : List ℕ) (events : List E) (waits : Bool) (request : Request) (rest : List ℕ) (lacked : Q) (asks : List Q) →
    front input ≡ Whole waits request rest → turn m events state (asks_at request room moment) [] ≡ Lacks lacked now asks →
    session m (suc room) state input (record { moments = moment ∷ moments; events = events })
    ≡ record { output = due input; asks = asks; requests = 0; admitted = 0; answered = 0; stop = Lacking lacked; state = now; left = record { moments = moments; events = [] } }
unfolding session
session-lacks {S = S} {Q = Q} {E = E} m room state now input moment moments events waits request rest lacked asks e t =
    let at : List ℕ → Session S Q E = λ l. record { output = l; asks = asks; requests = 0; admitted = 0; answered = 0; stop = Lacking lacked; state = now; left = record { moments = moments; events = [] } } in
    let is : session m (suc room) state input (record { moments = moment ∷ moments; events = events }) ≡ at (due_text waits) = rw (e, t, session) refl in
    is ∙ ap at (sym (ap due_of e))

-- ---- no moment is left

-- nothing was done, and the supply is left
pub record Idle {S Q E : Type 0} (s : Session S Q E) (state : S) (events : List E) : Type 0 where
  pub no_asks : s.asks ≡ []
  pub same_state : s.state ≡ state
  pub all_left : s.left ≡ record { moments = []; events = events }

idle_of : {S Q E : Type 0} (m : Machine S Q E) (room : ℕ) (state : S) (input : List ℕ) (events : List E) (at : Front) → front input ≡ at →
    Idle (session m (suc room) state input (record { moments = []; events = events })) state events
unfolding session
idle_of m room state input events (Unfinished waits) e = rw (e, session) (record { no_asks = refl; same_state = refl; all_left = refl })
idle_of m room state input events (Wrong status) e = rw (e, session) (record { no_asks = refl; same_state = refl; all_left = refl })
idle_of m room state input events (Whole waits request rest) e = rw (e, session) (record { no_asks = refl; same_state = refl; all_left = refl })

-- with no moment nothing is done
pub idle : {S Q E : Type 0} (m : Machine S Q E) (room : ℕ) (state : S) (input : List ℕ) (events : List E) →
    Idle (session m room state input (record { moments = []; events = events })) state events
unfolding session
idle m zero state input events = record { no_asks = refl; same_state = refl; all_left = refl }
idle m (suc room) state input events = idle_of m room state input events (front input) refl

closed_idle : {S Q E : Type 0} (t : Bool) (room : ℕ) (state : S) (events : List E) (s : Session S Q E) → Idle s state events → Idle (closed_or t room state (record { moments = []; events = events }) s) state events
closed_idle false room state events s e = e
closed_idle true zero state events s e = e
closed_idle true (suc room) state events s e = record { no_asks = refl; same_state = refl; all_left = refl }

begins_due_of : {S Q E : Type 0} (m : Machine S Q E) (room : ℕ) (state : S) (input : List ℕ) (events : List E) (at : Front) → front input ≡ at →
    (rest : List ℕ) × ((session m (suc room) state input (record { moments = []; events = events })).output ≡ due input ++ rest)
unfolding session
begins_due_of {S = S} {Q = Q} {E = E} m room state input events (Unfinished waits) e =
    ([], ap (λ (s : Session S Q E). s.output) (session-waits m room state input (record { moments = []; events = events }) waits e) ∙ sym (append-nil (due input)))
begins_due_of m room state input events (Wrong status) e =
    let none : due input ≡ [] = ap due_of e in
    let is : (session m (suc room) state input (record { moments = []; events = events })).output ≡ [] = rw (e, session) refl in
    ([], is ∙ sym none ∙ sym (append-nil (due input)))
begins_due_of m room state input events (Whole waits request rest) e =
    let is : (session m (suc room) state input (record { moments = []; events = events })).output ≡ due_text waits = rw (e, session) refl in
    ([], is ∙ sym (ap due_of e) ∙ sym (append-nil (due input)))

-- with no moment the output begins with what is due
pub begins_due : {S Q E : Type 0} (m : Machine S Q E) (room : ℕ) (state : S) (input : List ℕ) (events : List E) →
    (rest : List ℕ) × ((session m (suc room) state input (record { moments = []; events = events })).output ≡ due input ++ rest)
begins_due m room state input events = begins_due_of m room state input events (front input) refl

-- ---- one moment is left

-- the asks and the front of the output, where the first request has the last moment
pub record StartsWith {S Q E : Type 0} (s : Session S Q E) (put : List ℕ) (t : Turn S Q E) : Type 0 where
  pub asks : s.asks ≡ asks_in t
  pub output : (more : List ℕ) × (s.output ≡ put ++ (output_in t ++ more))
  pub same_state : s.state ≡ state_in t
  pub left : s.left ≡ record { moments = []; events = left_in t }

pub session-begins : {S Q E : Type 0} (m : Machine S Q E) (room : ℕ) (state : S) (input : List ℕ) (moment : ℕ) (events : List E) (waits : Bool) (request : Request) (rest : List ℕ) (t : Turn S Q E) →
    front input ≡ Whole waits request rest → turn m events state (asks_at request room moment) [] ≡ t →
    StartsWith (session m (suc room) state input (record { moments = moment ∷ []; events = events })) (due input) t
session-begins {S = S} {Q = Q} {E = E} m room state input moment events waits request rest (Lacks lacked now asks) e t =
    let is = session-lacks m room state now input moment [] events waits request rest lacked asks e t in
    record {
      asks = ap (λ (s : Session S Q E). s.asks) is;
      output = ([], ap (λ (s : Session S Q E). s.output) is ∙ sym (append-nil (due input)));
      same_state = ap (λ (s : Session S Q E). s.state) is;
      left = ap (λ (s : Session S Q E). s.left) is;
    }
session-begins {S = S} {Q = Q} {E = E} m room state input moment events waits request rest (Said response now asks events') e t =
    let is = session-said m room state now input moment [] events events' waits request rest response asks e t in
    let later = session m room now rest (record { moments = []; events = events' }) in
    let next = closed_or request.closes room now (record { moments = []; events = events' }) later in
    let still = closed_idle request.closes room now events' later (idle m room now rest events') in
    record {
      asks = ap (λ (s : Session S Q E). s.asks) is ∙ ap (λ (cs : List Q). asks ++ cs) still.no_asks ∙ append-nil asks;
      output = (next.output, ap (λ (s : Session S Q E). s.output) is ∙ append_assoc (due input) response.text next.output);
      same_state = ap (λ (s : Session S Q E). s.state) is ∙ still.same_state;
      left = ap (λ (s : Session S Q E). s.left) is ∙ still.all_left;
    }

-- ---- when bytes follow

-- what is due for a whole message stays
pub whole_due : (bytes more : List ℕ) (waits : Bool) (request : Request) (rest : List ℕ) → front bytes ≡ Whole waits request rest → due (bytes ++ more) ≡ due bytes
whole_due bytes more waits request rest e = ap due_of (whole_more bytes more waits request rest e) ∙ ap due_of (sym e)

due_if : (t t' : Bool) → (t ≡ true → t' ≡ true) → (rest : List ℕ) × (cond t' continue_text [] ≡ cond t continue_text [] ++ rest)
due_if true t' up = ([], ap (λ (x : Bool). cond x continue_text []) (up refl) ∙ sym (append-nil continue_text))
due_if false t' up = (cond t' continue_text [], refl)

-- what is due stays due
pub due_grows : (bytes more : List ℕ) → (rest : List ℕ) × (due (bytes ++ more) ≡ due bytes ++ rest)
due_grows bytes more = due_if (is_due (front bytes)) (is_due (front (bytes ++ more))) (due_more bytes more)

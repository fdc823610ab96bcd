-- The URLs, one after the other.
use Rattle.std.proofs.Common.{◌≡◌, ◌+◌, ◌<◌, ◌≤◌, ◌⊎◌, ℕ, zero, suc, Bool, true, false, List, [], ◌∷◌, ◌++◌, length, take, drop, get_or, Option, Ok, Err, refl, sym, ap, ◌∙◌, subst, inl, inr, append_assoc, length-append, arith}
use Rattle.std.proofs.lemmas.List.{append-nil, drop_all, drop_more, take-append-le}
use Rattle.std.proofs.lemmas.Bool.{false≢true, true≢false}
use Rattle.std.proofs.lemmas.Bool.Decides.{nat_tests}
use Rattle.std.proofs.Math.Seq.{take-append-add, take-length}
use Rattle.std.specs.Io.KnownBytes.{Appends}
use Rattle.auth_io.specs.Causes.{Rose}
use Rattle.auth_io.proofs.Passing.{Appends_none, Appends_trans}
use Rattle.client_core.specs.declared.state.State.{State}
use Rattle.http_wire.specs.declared.response.Response.{Response}
use Rattle.authget.specs.Endings.{BreaksOff, FetchesSo, Leaves, Scene}
use Rattle.authget.specs.Exchanges.{GetsAll, GetsSome}
use Rattle.authget.specs.Fetched.{FetchesAll, Follows, Gets, Report, Round, Run, behind, ends, gave_up, got, line_for, nothing, status_by, text_for, then_report, given_for, worse}
use Rattle.authget.specs.Outside.{Outside, Passed, Unbegun, account_at, account_of, join, no_account}
use Rattle.authget.specs.Requests.{peer_of}
use Rattle.authget.specs.Telling.{Heard, IsTold, TellsOn}
use Rattle.authget.specs.Writings.{Puts}
use Rattle.authget.specs.declared.end.End.{End}
use Rattle.authget.specs.declared.end.End.TheVariants as end
use Rattle.authget.specs.declared.plan.Plan.{Plan}
use Rattle.authget.specs.declared.stop.Stop.{Stop}
use Rattle.authget.proofs.Accounts.{join_none, join_three, passed_none, passed_then, rounds_then}
use Rattle.authget.proofs.Rounds.{gets_silent}

-- ---- reports

last_counts : (a b c : ℕ) → worse a (worse b c) ≡ worse (worse a b) c
last_counts a b zero = refl
last_counts a b (suc c) = grind (arith, nat_tests)

abbrev report_of : ℕ → List ℕ → List ℕ → List (List ℕ) → Report
report_of status output lines texts = record { status = status; output = output; lines = lines; texts = texts }

then_then : (a b c : Report) → then_report a (then_report b c) ≡ then_report (then_report a b) c
then_then a b c =
    let s = last_counts a.status b.status c.status in
    let o = sym (append_assoc a.output b.output c.output) in
    let l = sym (append_assoc a.lines b.lines c.lines) in
    let t = sym (append_assoc a.texts b.texts c.texts) in
    (λ i. report_of (s i) (o i) (l i) (t i))

then_nothing : (a : Report) → then_report a nothing ≡ a
then_nothing a =
    let o = append-nil a.output in
    let l = append-nil a.lines in
    let t = append-nil a.texts in
    (λ i. report_of a.status (o i) (l i) (t i))

nothing_then : (a : Report) → worse 0 a.status ≡ a.status → then_report nothing a ≡ a
nothing_then a same = (λ i. report_of (same i) a.output a.lines a.texts)

zero_first : (n : ℕ) → worse 0 n ≡ n
zero_first zero = refl
zero_first (suc n) = grind (arith, nat_tests)

-- ---- the loop

-- these URLs are still to be fetched, behind these rounds
pub record Way (plan : Plan) (s0 s : State) (urls : List (List ℕ)) (u v : Outside) : Type 0 where
  pub rounds : List Round
  pub report : Report
  pub goes : (left : List Round) (later : Report) → FetchesAll plan urls s left later → FetchesAll plan plan.urls s0 (rounds ++ left) (then_report report later)
  pub passed : Passed u v (account_of (peer_of plan) rounds report.texts)

-- and what the rounds gave was written and told
pub record Place (plan : Plan) (s0 s : State) (urls : List (List ℕ)) (u v : Scene) (code : ℕ) (on : Bool) : Type 0 where
  pub way : Way plan s0 s urls u.outside v.outside
  pub status : code ≡ way.report.status
  pub output : Appends u.output v.output way.report.output
  pub told : IsTold on u.diag v.diag way.report.lines

pub place_start : (plan : Plan) (s : State) (u : Scene) → Place plan s s plan.urls u u 0 true
place_start plan s u = record {
  way = record {
    rounds = [];
    report = nothing;
    goes = λ left later f. subst (λ (r : Report). FetchesAll plan plan.urls s left r) (sym (nothing_then later (zero_first later.status))) f;
    passed = passed_none u.outside;
  };
  status = refl;
  output = Appends_none u.output;
  told = (Appends_none u.diag.written, refl);
}

-- no URL is left
all_fetched : (plan : Plan) (s : State) → FetchesAll plan [] s [] nothing
unfolding FetchesAll
all_fetched plan s = (refl, refl)

pub place_done : (plan : Plan) (s0 s : State) (urls : List (List ℕ)) (u v : Scene) (status : ℕ) (on : Bool) → urls ≡ [] → Place plan s0 s urls u v status on → FetchesSo plan s0 u v (Ok status)
place_done plan s0 s urls u v status on none p =
    let over = subst (λ (l : List (List ℕ)). FetchesAll plan l s [] nothing) (sym none) (all_fetched plan s) in
    let whole = p.way.goes [] nothing over in (
      p.way.report,
      record {
        rounds = p.way.rounds;
        fetched = subst (λ (l : List Round). FetchesAll plan plan.urls s0 l p.way.report) (append-nil p.way.rounds) (subst (λ (r : Report). FetchesAll plan plan.urls s0 (p.way.rounds ++ []) r) (then_nothing p.way.report) whole);
        passed = p.way.passed;
        output = p.output;
        told = (on, p.told);
      },
      p.status,
    )

-- ---- one URL more

-- a URL whose response is written, and what follows
got_then : (plan : Plan) (url : List ℕ) (urls : List (List ℕ)) (s t : State) (xs left : List Round) (texts : List (List ℕ)) (proved : Bool) (response : Response) (later : Report) →
    Gets 8 plan url s (xs ++ left) (behind texts (ends (end.Got proved response) t left)) → FetchesAll plan urls t left later →
    FetchesAll plan (url ∷ urls) s (xs ++ left) (then_report (got url proved response (texts ++ [])) later)
unfolding FetchesAll
got_then plan url urls s t xs left texts proved response later gets f = (behind texts (ends (end.Got proved response) t left), gets, (later, f, refl))

rose_from : (a b c : ℕ) → b ≡ a → Rose b c → Rose a c
rose_from a b c same r = omega (arith, same, r)

-- whatever was told before, this was told behind it
told_then : (on still : Bool) (u v w : Heard) (before text : List ℕ) → IsTold on u v before → TellsOn on still v w text → IsTold still u w (before ++ text)
told_then true true u v w before text p q = (Appends_trans u.written v.written w.written before text p.0 q.0, q.1 ∙ p.1)
told_then true false u v w before text p q =
    let size : length (before ++ text) ≡ length before + length text = length-append before text in
    let all : before ++ take q.0 text ≡ take (length before + q.0) (before ++ text) = sym (take-append-add before text q.0) in (
      length before + q.0,
      omega (arith, size, q.1),
      subst (Appends u.written w.written) all (Appends_trans u.written v.written w.written before (take q.0 text) p.0 q.2),
      rose_from u.faults v.faults w.faults p.1 q.3,
    )
told_then false true u v w before text p q = absurd (true≢false q.0)
told_then false false u v w before text p q =
    let size : length (before ++ text) ≡ length before + length text = length-append before text in
    let front : take p.0 before ≡ take p.0 (before ++ text) = sym (take-append-le p.0 before text p.1) in
    subst (λ (h : Heard). IsTold false u h (before ++ text)) (sym q.1)
    (p.0, omega (arith, size, p.1), subst (Appends u.written v.written) front p.2, p.3)

way_more : (plan : Plan) (s0 s t : State) (url : List ℕ) (urls rest : List (List ℕ)) (u v w : Outside) (proved : Bool) (response : Response) →
    urls ≡ url ∷ rest → (p : Way plan s0 s urls u v) → (g : GetsAll plan url s t v w (end.Got proved response)) →
    (q : Way plan s0 t rest u w) × (q.report ≡ then_report p.report (got url proved response (g.texts ++ [])))
way_more plan s0 s t url urls rest u v w proved response is p g =
    let one = got url proved response (g.texts ++ []) in (
      record {
        rounds = p.rounds ++ g.rounds;
        report = then_report p.report one;
        goes = λ left later f.
            let here = subst (λ (l : List (List ℕ)). FetchesAll plan l s (g.rounds ++ left) (then_report one later)) (sym is) (got_then plan url rest s t g.rounds left g.texts proved response later (g.gets left) f) in
            let all = p.goes (g.rounds ++ left) (then_report one later) here in
            subst (λ (r : Report). FetchesAll plan plan.urls s0 ((p.rounds ++ g.rounds) ++ left) r) (then_then p.report one later)
            (subst (λ (l : List Round). FetchesAll plan plan.urls s0 l (then_report p.report (then_report one later))) (sym (append_assoc p.rounds g.rounds left)) all);
        passed = subst (λ (l : List (List ℕ)). Passed u w (account_of (peer_of plan) (p.rounds ++ g.rounds) (p.report.texts ++ l))) (sym (append-nil g.texts))
            (rounds_then (peer_of plan) u v w p.rounds g.rounds p.report.texts g.texts p.passed g.passed);
      },
      refl,
    )

pub place_more : (plan : Plan) (s0 s t : State) (url : List ℕ) (urls rest : List (List ℕ)) (u v w : Scene) (status : ℕ) (on still : Bool) (proved : Bool) (response : Response) →
    urls ≡ url ∷ rest → Place plan s0 s urls u v status on → GetsAll plan url s t v.outside w.outside (end.Got proved response) →
    Puts v.output w.output v.diag w.diag on response.body (line_for url proved response) (Ok still) →
    Place plan s0 t rest u w (worse status (status_by proved)) still
place_more plan s0 s t url urls rest u v w status on still proved response is p g q =
    let more = way_more plan s0 s t url urls rest u.outside v.outside w.outside proved response is p.way g in
    let line = line_for url proved response in
    record {
      way = more.0;
      status = ap (λ (n : ℕ). worse n (status_by proved)) p.status ∙ ap (λ (r : Report). r.status) (sym more.1);
      output = subst (λ (r : Report). Appends u.output w.output r.output) (sym more.1) (Appends_trans u.output v.output w.output p.way.report.output response.body p.output q.0);
      told = subst (λ (r : Report). IsTold still u.diag w.diag r.lines) (sym more.1) (told_then on still u.diag v.diag w.diag p.way.report.lines line p.told q.1);
    }

-- ---- how it ends

gave : (plan : Plan) (url : List ℕ) (urls : List (List ℕ)) (s t : State) (xs : List Round) (texts : List (List ℕ)) (how : End) (report : Report) →
    Gets 8 plan url s xs (behind texts (ends how t [])) → Follows (FetchesAll plan urls t) url (behind texts (ends how t [])) how report → FetchesAll plan (url ∷ urls) s xs report
unfolding FetchesAll
gave plan url urls s t xs texts how report gets f = (behind texts (ends how t []), gets, f)

-- a URL ends all
pub place_over : (plan : Plan) (s0 s t : State) (url : List ℕ) (urls rest : List (List ℕ)) (u v w : Scene) (status code : ℕ) (on : Bool) (how : End) →
    urls ≡ url ∷ rest → code ≡ worse 0 code →
    ((run : Run) → run.left ≡ [] → Follows (FetchesAll plan rest run.state) url run how (gave_up code run.texts)) → worse status code ≡ code →
    Place plan s0 s urls u v status on → GetsAll plan url s t v.outside w.outside how → w.output ≡ v.output → w.diag ≡ v.diag → FetchesSo plan s0 u w (Ok code)
place_over plan s0 s t url urls rest u v w status code on how is failing follows counts p g output diag =
    let one = gave_up code (g.texts ++ []) in
    let gets = subst (λ (l : List Round). Gets 8 plan url s l (behind g.texts (ends how t []))) (append-nil g.rounds) (g.gets []) in
    let here = subst (λ (l : List (List ℕ)). FetchesAll plan l s g.rounds one) (sym is) (gave plan url rest s t g.rounds g.texts how one gets (follows (behind g.texts (ends how t [])) refl)) in
    let report = then_report p.way.report one in (
      report,
      record {
        rounds = p.way.rounds ++ g.rounds;
        fetched = p.way.goes g.rounds one here;
        passed = subst (λ (l : List (List ℕ)). Passed u.outside w.outside (account_of (peer_of plan) (p.way.rounds ++ g.rounds) (p.way.report.texts ++ l))) (sym (append-nil g.texts))
            (rounds_then (peer_of plan) u.outside v.outside w.outside p.way.rounds g.rounds p.way.report.texts g.texts p.way.passed g.passed);
        output = subst (λ (o : Option (List ℕ)). Appends u.output o report.output) (sym output) (subst (Appends u.output v.output) (sym (append-nil p.way.report.output)) p.output);
        told = (on, subst (λ (h : Heard). IsTold on u.diag h report.lines) (sym diag) (subst (IsTold on u.diag v.diag) (sym (append-nil p.way.report.lines)) p.told));
      },
      sym counts ∙ ap (λ (n : ℕ). worse n code) p.status,
    )

-- ---- how it breaks off

-- a front of what was told
front_told : (on : Bool) (u v : Heard) (text more : List ℕ) → IsTold on u v text → (n : ℕ) × Appends u.written v.written (take n (text ++ more))
front_told true u v text more p = (length text, subst (Appends u.written v.written) (sym (take-append-le (length text) text more (omega arith) ∙ take-length text)) p.0)
front_told false u v text more p = (p.0, subst (Appends u.written v.written) (sym (take-append-le p.0 text more p.1)) p.2)

front_all : (a b : Option (List ℕ)) (text more : List ℕ) → Appends a b text → Appends a b (take (length text) (text ++ more))
front_all a b text more p = subst (Appends a b) (sym (take-append-le (length text) text more (omega arith) ∙ take-length text)) p

-- the requests for a URL were cut off
pub place_cut : (plan : Plan) (s0 s : State) (url : List ℕ) (urls rest : List (List ℕ)) (u v w : Scene) (status : ℕ) (on : Bool) (stop : Stop) →
    urls ≡ url ∷ rest → Place plan s0 s urls u v status on → GetsSome plan url s v.outside w.outside stop → w.output ≡ v.output → w.diag ≡ v.diag → BreaksOff plan s0 u w stop
place_cut plan s0 s url urls rest u v w status on stop is p g output diag =
    let texts = (g.texts ++ g.text ∷ []) ++ [] in
    let one = gave_up 4 texts in
    let here = subst (λ (l : List (List ℕ)). FetchesAll plan l s (g.rounds ++ g.round ∷ []) one) (sym is)
    (gave plan url rest s g.now (g.rounds ++ g.round ∷ []) (g.texts ++ g.text ∷ []) end.Malformed one g.gets (refl, refl)) in
    let report = then_report p.way.report one in
    let told = front_told on u.diag v.diag p.way.report.lines [] p.told in
    let peer = peer_of plan in
    record {
      rounds = p.way.rounds ++ g.rounds;
      begun = g.round ∷ [];
      report = report;
      sent = p.way.report.texts ++ g.texts;
      more = g.text ∷ [];
      last = account_at g.stage peer g.text g.round;
      written = length p.way.report.output;
      told = told.0;
      fetched = subst (λ (l : List Round). FetchesAll plan plan.urls s0 l report) (sym (append_assoc p.way.rounds g.rounds (g.round ∷ []))) (p.way.goes (g.rounds ++ g.round ∷ []) one here);
      texts = ap (λ (l : List (List ℕ)). p.way.report.texts ++ l) (append-nil (g.texts ++ g.text ∷ [])) ∙ sym (append_assoc p.way.report.texts g.texts (g.text ∷ []));
      leaves = (g.stage, g.stops, g.no_bytes, refl);
      passed =
          let first = p.way.passed in
          let more = passed_then u.outside v.outside w.outside (account_of peer p.way.rounds p.way.report.texts) (join (account_of peer g.rounds g.texts) (account_at g.stage peer g.text g.round)) first g.passed in
          subst (Passed u.outside w.outside) (join_three peer p.way.rounds g.rounds p.way.report.texts g.texts (account_at g.stage peer g.text g.round)) more;
      output = subst (λ (o : Option (List ℕ)). Appends u.output o (take (length p.way.report.output) report.output)) (sym output) (front_all u.output v.output p.way.report.output [] p.output);
      lines = subst (λ (h : Heard). Appends u.diag.written h.written (take told.0 report.lines)) (sym diag) told.1;
    }

-- ---- a response that isn't written whole

-- a front of a text that is named otherwise
pub front_same : (a b : Option (List ℕ)) (text sent : List ℕ) → sent ≡ text → (n : ℕ) × Appends a b (take n sent) → (n : ℕ) × Appends a b (take n text)
front_same a b text sent same p = (p.0, subst (λ (l : List ℕ). Appends a b (take p.0 l)) same p.1)

-- a text that was written whole is a front of itself
pub written_whole : (a b : Option (List ℕ)) (text sent : List ℕ) → sent ≡ text → Appends a b sent → (n : ℕ) × Appends a b (take n text)
written_whole a b text sent same p = (length text, subst (Appends a b) (same ∙ sym (take-length text)) p)

-- There is a way on: no URL is left, or nothing comes on the next connection.
pub record GoesOut (plan : Plan) (s0 s : State) (stop : Stop) (rounds : List Round) (report : Report) : Type 0 where
  pub begun : List Round
  pub status : ℕ
  pub more : List (List ℕ)
  pub fetched : FetchesAll plan plan.urls s0 (rounds ++ begun) (then_report report (gave_up status more))
  pub leaves : Leaves (peer_of plan) begun more stop no_account

way_on : (plan : Plan) (s0 s : State) (urls : List (List ℕ)) (u v : Outside) (stop : Stop) → (p : Way plan s0 s urls u v) → GoesOut plan s0 s stop p.rounds p.report
way_on plan s0 s [] u v stop p = record {
  begun = [];
  status = 0;
  more = [];
  fetched = p.goes [] nothing (all_fetched plan s);
  leaves = refl;
}
way_on plan s0 s (url ∷ urls) u v stop p =
    let x : Round = record { moment = 0; words = []; bytes = [] } in
    let text = text_for plan url s x in
    let now = (given_for plan url s x).1 in
    let one = gave_up 4 (text ∷ []) in
    record {
      begun = x ∷ [];
      status = 4;
      more = text ∷ [];
      fetched = p.goes (x ∷ []) one (gave plan url urls s now (x ∷ []) (text ∷ []) end.Malformed one (gets_silent 7 plan url s x refl) (refl, refl));
      leaves = (Unbegun, tt, refl, refl);
    }

-- a front of a text behind a text that was written
front_more : (a b c : Option (List ℕ)) (text more : List ℕ) (n : ℕ) → Appends a b text → Appends b c (take n more) → Appends a c (take (length text + n) ((text ++ more) ++ []))
front_more a b c text more n p q =
    subst (λ (l : List ℕ). Appends a c (take (length text + n) l)) (sym (append-nil (text ++ more)))
    (subst (Appends a c) (sym (take-append-add text more n)) (Appends_trans a b c text (take n more) p q))

-- what was told before, and a front of what is told now
front_line : (on : Bool) (u v w : Heard) (text line : List ℕ) → IsTold on u v text → ((n : ℕ) × (on ≡ true) × Appends v.written w.written (take n line)) ⊎ (w ≡ v) →
    (n : ℕ) × Appends u.written w.written (take n ((text ++ line) ++ []))
front_line true u v w text line p (inl q) = (length text + q.0, front_more u.written v.written w.written text line q.0 p.0 q.2)
front_line false u v w text line p (inl q) = absurd (false≢true q.1)
front_line on u v w text line p (inr q) =
    let front = front_told on u v text (line ++ []) p in (
      front.0,
      subst (λ (h : Heard). Appends u.written h.written (take front.0 ((text ++ line) ++ []))) (sym q) (subst (λ (l : List ℕ). Appends u.written v.written (take front.0 l)) (sym (append_assoc text line [])) front.1),
    )

pub place_unput : (plan : Plan) (s0 s t : State) (url : List ℕ) (urls rest : List (List ℕ)) (u v w : Scene) (status : ℕ) (on : Bool) (proved : Bool) (response : Response) (stop : Stop) →
    urls ≡ url ∷ rest → Place plan s0 s urls u v status on → GetsAll plan url s t v.outside w.outside (end.Got proved response) →
    Puts v.output w.output v.diag w.diag on response.body (line_for url proved response) (Err stop) → BreaksOff plan s0 u w stop
place_unput plan s0 s t url urls rest u v w status on proved response stop is p g q =
    let more = way_more plan s0 s t url urls rest u.outside v.outside w.outside proved response is p.way g in
    let out = way_on plan s0 t rest u.outside w.outside stop more.0 in
    let line = line_for url proved response in
    let lines = front_line on u.diag v.diag w.diag p.way.report.lines line p.told q.1 in
    let peer = peer_of plan in
    record {
      rounds = more.0.rounds;
      begun = out.begun;
      report = then_report more.0.report (gave_up out.status out.more);
      sent = more.0.report.texts;
      more = out.more;
      last = no_account;
      written = length p.way.report.output + q.0.0;
      told = lines.0;
      fetched = out.fetched;
      texts = refl;
      leaves = out.leaves;
      passed = subst (Passed u.outside w.outside) (sym (join_none (account_of peer more.0.rounds more.0.report.texts))) more.0.passed;
      output = subst (λ (r : Report). Appends u.output w.output (take (length p.way.report.output + q.0.0) (r.output ++ []))) (sym more.1)
          (front_more u.output v.output w.output p.way.report.output response.body q.0.0 p.output q.0.1);
      lines = subst (λ (r : Report). Appends u.diag.written w.diag.written (take lines.0 (r.lines ++ []))) (sym more.1) lines.1;
    }

-- ---- the list of URLs

-- the next of them
pub next_url : (items urls : List (List ℕ)) (i : ℕ) (x y : List ℕ) → items ≡ urls → i < length items → x ≡ get_or items i x → y ≡ x → drop i urls ≡ y ∷ drop (i + 1) urls
next_url items urls i x y same within is as_bytes =
    subst (λ (l : List (List ℕ)). drop i l ≡ y ∷ drop (i + 1) l) same
    (drop_more items i x within ∙ ap (λ (z : List ℕ). z ∷ drop (i + 1) items) (sym is ∙ sym as_bytes))

-- none is left
pub no_url : (items urls : List (List ℕ)) (i : ℕ) → items ≡ urls → length items ≤ i → drop i urls ≡ []
no_url items urls i same past = subst (λ (l : List (List ℕ)). drop i l ≡ []) same (drop_all i items past)

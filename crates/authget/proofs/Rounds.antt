-- The requests for a URL, one after the other.
use Rattle.std.proofs.Common.{◌≡◌, ℕ, zero, suc, List, [], ◌∷◌, ◌++◌, Option, Some, None, refl, sym, ap, ◌∙◌, subst, append_assoc}
use Rattle.client_core.specs.declared.state.State.{State}
use Rattle.http_wire.specs.Responses.{response_front}
use Rattle.http_wire.specs.declared.response.Response.{Response}
use Rattle.authget.specs.Exchanges.{Begins, GetsAll, GetsSome, Makes}
use Rattle.authget.specs.Fetched.{Gets, Hears, Means, Round, Run, behind, ends, text_for, given_for}
use Rattle.authget.specs.Outside.{Outside, Passed, account_at, account_of}
use Rattle.authget.specs.Requests.{peer_of, reply_in, request_for}
use Rattle.authget.specs.declared.end.End.{End}
use Rattle.authget.specs.declared.end.End.TheVariants.{Malformed, Refused}
use Rattle.authget.specs.declared.plan.Plan.{Plan}
use Rattle.authget.specs.declared.stop.Stop.{Stop}
use Rattle.authget.proofs.Accounts.{passed_none, passed_then, rounds_then}

-- texts in front of texts
behind_then : (a b : List (List ℕ)) (run : Run) → behind a (behind b run) ≡ behind (a ++ b) run
behind_then a b run = ap (λ (t : List (List ℕ)). record run { texts = t }) (sym (append_assoc a b run.texts))

behind_none : (run : Run) → behind [] run ≡ run
behind_none run = refl

-- a round that ends the URL
pub gets_end : (n : ℕ) (plan : Plan) (url : List ℕ) (s t : State) (x : Round) (how : End) (left : List Round) → Means plan url s x (Some how) t →
    Gets (suc n) plan url s (x ∷ left) (behind (text_for plan url s x ∷ []) (ends how t left))
unfolding Gets
gets_end n plan url s t x how left means = (Some how, t, ends how t left, means, refl, refl)

-- a round behind which the URL is asked for again
pub gets_more : (n : ℕ) (plan : Plan) (url : List ℕ) (s t : State) (x : Round) (left : List Round) (run : Run) → Means plan url s x None t → Gets n plan url t left run →
    Gets (suc n) plan url s (x ∷ left) (behind (text_for plan url s x ∷ []) run)
unfolding Gets
gets_more n plan url s t x left run means later = (None, t, run, means, later, refl)

-- no request is left
pub gets_none : (plan : Plan) (url : List ℕ) (s : State) (left : List Round) → Gets zero plan url s left (ends Refused s left)
unfolding Gets
gets_none plan url s left = refl

-- nothing is no reply
none_in : reply_in [] ≡ None
unfolding response_front
none_in = refl

-- a round on whose connection nothing comes
pub gets_silent : (n : ℕ) (plan : Plan) (url : List ℕ) (s : State) (x : Round) → x.bytes ≡ [] →
    Gets (suc n) plan url s (x ∷ []) (behind (text_for plan url s x ∷ []) (ends Malformed ((given_for plan url s x).1) []))
unfolding Gets
gets_silent n plan url s x silent =
    let sent = given_for plan url s x in
    let none : reply_in x.bytes ≡ None = ap reply_in silent ∙ none_in in
    let means = subst (λ (r : Option Response). Hears sent.1 (request_for plan url) sent.0 r x.moment (Some Malformed) sent.1) (sym none) (refl, refl) in
    (Some Malformed, sent.1, ends Malformed sent.1 [], means, refl, refl)

-- ---- the loop

-- so many requests may still be made, behind these rounds
pub record Tries (plan : Plan) (url : List ℕ) (s0 s : State) (n : ℕ) (u v : Outside) : Type 0 where
  pub rounds : List Round
  pub texts : List (List ℕ)
  pub goes : (left : List Round) (run : Run) → Gets n plan url s left run → Gets 8 plan url s0 (rounds ++ left) (behind texts run)
  pub passed : Passed u v (account_of (peer_of plan) rounds texts)

pub tries_start : (plan : Plan) (url : List ℕ) (s : State) (u : Outside) → Tries plan url s s 8 u u
tries_start plan url s u = record { rounds = []; texts = []; goes = λ left run g. g; passed = passed_none u }

-- the rounds up to one more
all_rounds : (xs : List Round) (x : Round) (left : List Round) → xs ++ (x ∷ left) ≡ (xs ++ x ∷ []) ++ left
all_rounds xs x left = sym (append_assoc xs (x ∷ []) left)

pub tries_more : (plan : Plan) (url : List ℕ) (s0 s t : State) (m n : ℕ) (u v w : Outside) → m ≡ suc n → Tries plan url s0 s m u v → Makes plan url s t v w None → Tries plan url s0 t n u w
tries_more plan url s0 s t m n u v w next p x =
    let text = text_for plan url s x.round in
    record {
      rounds = p.rounds ++ x.round ∷ [];
      texts = p.texts ++ text ∷ [];
      goes = λ left run g.
          let one = subst (λ (k : ℕ). Gets k plan url s (x.round ∷ left) (behind (text ∷ []) run)) (sym next) (gets_more n plan url s t x.round left run x.means g) in
          let all = p.goes (x.round ∷ left) (behind (text ∷ []) run) one in
          (λ (r : Run) (e : behind p.texts (behind (text ∷ []) run) ≡ r). subst (λ (q : Run). Gets 8 plan url s0 ((p.rounds ++ x.round ∷ []) ++ left) q) e
          (subst (λ (l : List Round). Gets 8 plan url s0 l (behind p.texts (behind (text ∷ []) run))) (all_rounds p.rounds x.round left) all))
          (behind (p.texts ++ text ∷ []) run) (behind_then p.texts (text ∷ []) run);
      passed = rounds_then (peer_of plan) u v w p.rounds (x.round ∷ []) p.texts (text ∷ []) p.passed x.passed;
    }

pub tries_end : (plan : Plan) (url : List ℕ) (s0 s t : State) (m n : ℕ) (u v w : Outside) (how : End) → m ≡ suc n → Tries plan url s0 s m u v → Makes plan url s t v w (Some how) → GetsAll plan url s0 t u w how
tries_end plan url s0 s t m n u v w how next p x =
    let text = text_for plan url s x.round in
    record {
      rounds = p.rounds ++ x.round ∷ [];
      texts = p.texts ++ text ∷ [];
      gets = λ left.
          let one = subst (λ (k : ℕ). Gets k plan url s (x.round ∷ left) (behind (text ∷ []) (ends how t left))) (sym next) (gets_end n plan url s t x.round how left x.means) in
          let all = p.goes (x.round ∷ left) (behind (text ∷ []) (ends how t left)) one in
          subst (λ (q : Run). Gets 8 plan url s0 ((p.rounds ++ x.round ∷ []) ++ left) q) (behind_then p.texts (text ∷ []) (ends how t left))
          (subst (λ (l : List Round). Gets 8 plan url s0 l (behind p.texts (behind (text ∷ []) (ends how t left)))) (all_rounds p.rounds x.round left) all);
      passed = rounds_then (peer_of plan) u v w p.rounds (x.round ∷ []) p.texts (text ∷ []) p.passed x.passed;
    }

pub tries_out : (plan : Plan) (url : List ℕ) (s0 s : State) (n : ℕ) (u v : Outside) → n ≡ 0 → Tries plan url s0 s n u v → GetsAll plan url s0 s u v Refused
tries_out plan url s0 s n u v none p = record {
  rounds = p.rounds;
  texts = p.texts;
  gets = λ left. p.goes left (ends Refused s left) (subst (λ (k : ℕ). Gets k plan url s left (ends Refused s left)) (sym none) (gets_none plan url s left));
  passed = p.passed;
}

pub tries_cut : (plan : Plan) (url : List ℕ) (s0 s : State) (m n : ℕ) (u v w : Outside) (stop : Stop) → m ≡ suc n → Tries plan url s0 s m u v → Begins plan url s v w stop → GetsSome plan url s0 u w stop
tries_cut plan url s0 s m n u v w stop next p x =
    let text = text_for plan url s x.round in
    let run = ends Malformed ((given_for plan url s x.round).1) [] in
    record {
      rounds = p.rounds;
      texts = p.texts;
      round = x.round;
      no_bytes = x.no_bytes;
      text = text;
      now = (given_for plan url s x.round).1;
      gets =
          let one = subst (λ (k : ℕ). Gets k plan url s (x.round ∷ []) (behind (text ∷ []) run)) (sym next) (gets_silent n plan url s x.round x.no_bytes) in
          subst (λ (q : Run). Gets 8 plan url s0 (p.rounds ++ x.round ∷ []) q) (behind_then p.texts (text ∷ []) run) (p.goes (x.round ∷ []) (behind (text ∷ []) run) one);
      stage = x.stage;
      stops = x.stops;
      passed = passed_then u v w (account_of (peer_of plan) p.rounds p.texts) (account_at x.stage (peer_of plan) text x.round) p.passed x.passed;
    }

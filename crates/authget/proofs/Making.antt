-- One request, from its credentials to what the reply means.
use Rattle.std.proofs.Common.{◌≡◌, ℕ, true, false, List, [], ◌∷◌, take, length, Option, Ok, Err, refl, sym, ap, ◌∙◌, subst, inl, inr}
use Rattle.std.proofs.Math.Seq.{take-length}
use Rattle.auth_io.specs.Told.{Adds, Stays}
use Rattle.auth_io.proofs.Passing.{Adds_none, Stays_trans}
use Rattle.client_core.specs.Givings.{given}
use Rattle.client_core.specs.declared.request.OutRequest.{OutRequest}
use Rattle.client_core.specs.declared.request.Sent.{Sent}
use Rattle.client_core.specs.declared.state.State.{State}
use Rattle.http_wire.specs.declared.response.Response.{Response}
use Rattle.authget.specs.Exchanges.{Begins, Exchanges, Makes}
use Rattle.authget.specs.Fetched.{Hears, Round, given_for, text_for}
use Rattle.authget.specs.Outside.{Connected, DialPassed, Outside, Unbegun, Unconnected, Undialled, Undrawn}
use Rattle.authget.specs.Requests.{peer_of, reply_in, request_for, text_with}
use Rattle.authget.specs.declared.end.End.{End}
use Rattle.authget.specs.declared.plan.Plan.{Plan}
use Rattle.authget.specs.declared.stop.Stop.{Stop}
use Rattle.authget.specs.declared.stop.Stop.TheVariants.{Fault, OutOfMemory}
use Rattle.authget.proofs.Accounts.{dial_none, passed_none}

abbrev round_of : ℕ → List ℕ → List ℕ → Round
round_of moment words bytes = record { moment = moment; words = words; bytes = bytes }

-- nothing was asked for the request
pub begins_not : (plan : Plan) (url : List ℕ) (s : State) (u : Outside) (stop : Stop) → Begins plan url s u u stop
begins_not plan url s u stop = record { round = round_of 0 [] []; no_bytes = refl; stage = Unbegun; stops = tt; passed = passed_none u }

-- no words were drawn
pub begins_undrawn : (plan : Plan) (url : List ℕ) (s : State) (u v : Outside) (moment : ℕ) → Adds u.shown v.shown (moment ∷ []) → Stays u.drawn v.drawn → v.dial ≡ u.dial → Begins plan url s u v Fault
begins_undrawn plan url s u v moment shown drawn same = record {
  round = round_of moment [] [];
  no_bytes = refl;
  stage = Undrawn;
  stops = refl;
  passed = record {
    shown = shown;
    drawn = Stays_trans u.drawn u.drawn v.drawn [] (Adds_none u.drawn) drawn;
    dial = subst (λ d. DialPassed u.dial d [] [] []) (sym same) (dial_none u.dial);
  };
}

-- there was no memory before the dial
pub begins_undialled : (plan : Plan) (url : List ℕ) (s : State) (u v : Outside) (moment : ℕ) (words : List ℕ) → Adds u.shown v.shown (moment ∷ []) → Adds u.drawn v.drawn (words ∷ []) → v.dial ≡ u.dial → Begins plan url s u v OutOfMemory
begins_undialled plan url s u v moment words shown drawn same = record {
  round = round_of moment words [];
  no_bytes = refl;
  stage = Undialled;
  stops = refl;
  passed = record { shown = shown; drawn = drawn; dial = subst (λ d. DialPassed u.dial d [] [] []) (sym same) (dial_none u.dial) };
}

-- ---- the text and the client

given_is : (plan : Plan) (url : List ℕ) (s t : State) (x : Round) (request : OutRequest) (what : Sent) → request ≡ request_for plan url → given s request x.moment x.words ≡ (what, t) → given_for plan url s x ≡ (what, t)
given_is plan url s t x request what is gives = ap (λ (r : OutRequest). given s r x.moment x.words) (sym is) ∙ gives

text_is : (plan : Plan) (url : List ℕ) (s t : State) (x : Round) (what : Sent) (text sent : List ℕ) → given_for plan url s x ≡ (what, t) → text ≡ text_with plan url what → sent ≡ text → sent ≡ text_for plan url s x
text_is plan url s t x what text sent gives is same = same ∙ is ∙ ap (λ (g : Sent × State). text_with plan url g.0) (sym gives)

-- ---- the connection

-- a request that was begun on a connection, or not
pub begins_dial : (plan : Plan) (url : List ℕ) (s t : State) (u v : Outside) (moment : ℕ) (words peer text sent : List ℕ) (request : OutRequest) (what : Sent) (stop : Stop) →
    request ≡ request_for plan url → given s request moment words ≡ (what, t) → text ≡ text_with plan url what → sent ≡ text → peer ≡ peer_of plan →
    Adds u.shown v.shown (moment ∷ []) → Adds u.drawn v.drawn (words ∷ []) → Exchanges u.dial v.dial peer sent (Err stop) → Begins plan url s u v stop
begins_dial plan url s t u v moment words peer text sent request what stop is gives texted same peered shown drawn (inl x) = record {
  round = round_of moment words [];
  no_bytes = refl;
  stage = Undialled;
  stops = x.0;
  passed = record { shown = shown; drawn = drawn; dial = x.1 };
}
begins_dial plan url s t u v moment words peer text sent request what stop is gives texted same peered shown drawn (inr (inl x)) = record {
  round = round_of moment words [];
  no_bytes = refl;
  stage = Unconnected;
  stops = x.0;
  passed = record { shown = shown; drawn = drawn; dial = subst (λ (p : List ℕ). DialPassed u.dial v.dial ((p, true) ∷ []) [] []) peered x.1 };
}
begins_dial plan url s t u v moment words peer text sent request what stop is gives texted same peered shown drawn (inr (inr x)) =
    let round = round_of moment words [] in
    let all = text_is plan url s t round what text sent (given_is plan url s t round request what is gives) texted same in
    record {
      round = round;
      no_bytes = refl;
      stage = Connected x.0 x.1 x.2;
      stops = x.3;
      passed = record {
        shown = shown;
        drawn = drawn;
        dial = subst (λ (l : List ℕ). DialPassed u.dial v.dial ((peer_of plan, false) ∷ []) (x.0 ∷ []) ((take x.1 l, x.2) ∷ [])) all
            (subst (λ (p : List ℕ). DialPassed u.dial v.dial ((p, false) ∷ []) (x.0 ∷ []) ((take x.1 sent, x.2) ∷ [])) peered x.4);
      };
    }

-- the reply came, and there was no memory to hear it
pub begins_unheard : (plan : Plan) (url : List ℕ) (s t : State) (u v : Outside) (moment : ℕ) (words peer text sent : List ℕ) (request : OutRequest) (what : Sent) (reply : Option Response) →
    request ≡ request_for plan url → given s request moment words ≡ (what, t) → text ≡ text_with plan url what → sent ≡ text → peer ≡ peer_of plan →
    Adds u.shown v.shown (moment ∷ []) → Adds u.drawn v.drawn (words ∷ []) → Exchanges u.dial v.dial peer sent (Ok reply) → Begins plan url s u v OutOfMemory
begins_unheard plan url s t u v moment words peer text sent request what reply is gives texted same peered shown drawn x =
    let whole : take (length sent) sent ≡ sent = take-length sent in
    let cut = subst (λ (l : List ℕ). DialPassed u.dial v.dial ((peer, false) ∷ []) (x.0 ∷ []) ((l, false) ∷ [])) (sym whole) x.2 in
    begins_dial plan url s t u v moment words peer text sent request what OutOfMemory is gives texted same peered shown drawn (inr (inr (x.0, length sent, false, tt, cut)))

-- the reply was heard
pub makes : (plan : Plan) (url : List ℕ) (s t r : State) (u v : Outside) (moment : ℕ) (words peer text sent : List ℕ) (request : OutRequest) (what : Sent) (reply : Option Response) (how : Option End) →
    request ≡ request_for plan url → given s request moment words ≡ (what, t) → text ≡ text_with plan url what → sent ≡ text → peer ≡ peer_of plan →
    Adds u.shown v.shown (moment ∷ []) → Adds u.drawn v.drawn (words ∷ []) → Exchanges u.dial v.dial peer sent (Ok reply) → Hears t request what reply moment how r → Makes plan url s r u v how
makes plan url s t r u v moment words peer text sent request what reply how is gives texted same peered shown drawn x heard =
    let round = round_of moment words x.0 in
    let given_so = given_is plan url s t round request what is gives in
    let all = text_is plan url s t round what text sent given_so texted same in
    let one = subst (λ (q : OutRequest). Hears t q what reply moment how r) is heard in
    let two = subst (λ (y : Option Response). Hears t (request_for plan url) what y moment how r) x.1 one in
    record {
      round = round;
      means = subst (λ (g : Sent × State). Hears g.1 (request_for plan url) g.0 (reply_in x.0) moment how r) (sym given_so) two;
      passed = record {
        shown = shown;
        drawn = drawn;
        dial = subst (λ (l : List ℕ). DialPassed u.dial v.dial ((peer_of plan, false) ∷ []) (x.0 ∷ []) ((l, false) ∷ [])) all
            (subst (λ (p : List ℕ). DialPassed u.dial v.dial ((p, false) ∷ []) (x.0 ∷ []) ((sent, false) ∷ [])) peered x.2);
      };
    }

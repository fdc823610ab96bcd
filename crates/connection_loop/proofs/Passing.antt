-- What a link passed through in two parts it passed through in one.
use Rattle.std.proofs.Common.{◌≡◌, ◌∷◌, [], ◌++◌, ◌<◌, ◌+◌, ◌^◌, ℕ, zero, suc, List, length, map, take, drop, Option, Some, None, Result, Ok, Err, OnOk, OnErr, IfErr, sym, refl, ap, ◌∙◌, subst, append_assoc, length-append, arith}
use Rattle.std.proofs.lemmas.List.{append-nil, map-append, take-append-drop}
use Rattle.std.specs.Io.KnownBytes.{Consumes, Appends}
use Rattle.auth_io.specs.Reads.{NotesRead}
use Rattle.auth_io.proofs.Passing.{Appends_trans, Appends_none, Consumes_trans, Consumes_none}
use Rattle.connection_loop.specs.Account.{Account, LinkState, LinkPassed, AddsReads, shifted}
use Rattle.connection_loop.specs.Steps.{IsSendError, SendsText}
use Rattle.connection_loop.specs.declared.served.ServeError.{ServeError}

bound_of : (a b v w : ℕ) → w ≡ v + b → (0 < a → v < 2 ^ 63) → (0 < b → w < 2 ^ 63) → 0 < a + b → w < 2 ^ 63
bound_of a zero v w e p q some = let h : v < 2 ^ 63 = p (omega arith) in omega arith
bound_of a (suc b) v w e p q some = q (omega arith)

-- reads after reads
shifted_twice : (a b c d e f : ℕ) → e ≡ a + c → f ≡ b + d → (reads : List (ℕ × ℕ)) → map (shifted e f) reads ≡ map (shifted a b) (map (shifted c d) reads)
shifted_twice a b c d e f p q [] = refl
shifted_twice a b c d e f p q (r ∷ reads) =
    let first : e + r.0 ≡ a + (c + r.0) = omega arith in
    let second : f + r.1 ≡ b + (d + r.1) = omega arith in
    let head : shifted e f r ≡ shifted a b (shifted c d r) = λ i. (first i, second i) in
    ap (λ (x : ℕ × ℕ). x ∷ map (shifted e f) reads) head ∙ ap (λ (l : List (ℕ × ℕ)). shifted a b (shifted c d r) ∷ l) (shifted_twice a b c d e f p q reads)

pub AddsReads_trans : (r s t : Option (List (ℕ × ℕ))) (g h : ℕ) (w x : Option (List ℕ)) (input output : List ℕ) (xs ys : List (ℕ × ℕ)) →
    h ≡ g + length input → Appends w x output → AddsReads r s g w xs → AddsReads s t h x ys → AddsReads r t g w (xs ++ map (shifted (length input) (length output)) ys)
AddsReads_trans None s t g h w x input output xs ys e ap' p q = tt
AddsReads_trans (Some r) None t g h w x input output xs ys e ap' p q = absurd p
AddsReads_trans (Some r) (Some s) None g h w x input output xs ys e ap' p q = absurd q
AddsReads_trans (Some r) (Some s) (Some t) g h None x input output xs ys e ap' p q = tt
AddsReads_trans (Some r) (Some s) (Some t) g h (Some w) None input output xs ys e ap' p q = absurd ap'
AddsReads_trans (Some r) (Some s) (Some t) g h (Some w) (Some x) input output xs ys e ap' p q =
    let size : length x ≡ length w + length output = ap length ap' ∙ length-append w output in
    q ∙ ap (λ (l : List (ℕ × ℕ)). l ++ map (shifted h (length x)) ys) p
    ∙ append_assoc r (map (shifted g (length w)) xs) (map (shifted h (length x)) ys)
    ∙ ap (λ (l : List (ℕ × ℕ)). r ++ (map (shifted g (length w)) xs ++ l)) (shifted_twice g (length w) (length input) (length output) h (length x) e size ys)
    ∙ ap (λ (l : List (ℕ × ℕ)). r ++ l) (sym (map-append (shifted g (length w)) xs (map (shifted (length input) (length output)) ys)))

pub AddsReads_none : (r : Option (List (ℕ × ℕ))) (g : ℕ) (w : Option (List ℕ)) → AddsReads r r g w []
AddsReads_none None g w = tt
AddsReads_none (Some r) g None = tt
AddsReads_none (Some r) g (Some w) = sym (append-nil r)

pub AddsReads_one : (r s : Option (List (ℕ × ℕ))) (g : ℕ) (w : Option (List ℕ)) → NotesRead r s g w → AddsReads r s g w ((0, 0) ∷ [])
AddsReads_one None s g w p = tt
AddsReads_one (Some r) None g w p = absurd p
AddsReads_one (Some r) (Some s) g None p = tt
AddsReads_one (Some r) (Some s) g (Some w) p =
    let first : g ≡ g + 0 = omega arith in
    let second : length w ≡ length w + 0 = omega arith in
    let same : (g, length w) ≡ (g + 0, length w + 0) = λ i. (first i, second i) in
    p ∙ ap (λ (x : ℕ × ℕ). r ++ x ∷ []) same

pub LinkPassed_join : (u v w : LinkState) (i o j q : List ℕ) (r s : List (ℕ × ℕ)) → LinkPassed u v i o r → LinkPassed v w j q s →
    LinkPassed u w (i ++ j) (o ++ q) (r ++ map (shifted (length i) (length o)) s)
LinkPassed_join u v w i o j q r s a b = record {
  gave = Consumes_trans u.left v.left w.left i j a.gave b.gave;
  counted = let sizes : length (i ++ j) ≡ length i + length j = length-append i j in omega (arith, a.counted, b.counted);
  bound = λ some. bound_of (length i) (length j) v.given w.given b.counted a.bound b.bound (let sizes : length (i ++ j) ≡ length i + length j = length-append i j in omega arith);
  took = Appends_trans u.written v.written w.written o q a.took b.took;
  noted = AddsReads_trans u.reads v.reads w.reads u.given v.given u.written v.written i o r s a.counted a.took a.noted b.noted;
}

pub LinkPassed_none : (u : LinkState) → LinkPassed u u [] [] []
LinkPassed_none u = record { gave = Consumes_none u.left; counted = omega arith; bound = λ some. absurd (omega arith); took = Appends_none u.written; noted = AddsReads_none u.reads u.given u.written }

-- only a write
pub LinkPassed_wrote : (u v : LinkState) (output : List ℕ) → v.left ≡ u.left → v.given ≡ u.given → v.reads ≡ u.reads → Appends u.written v.written output → LinkPassed u v [] output []
LinkPassed_wrote u v output left given reads wrote = record {
  gave = subst (λ (l : Option (List ℕ)). Consumes u.left l []) (sym left) (Consumes_none u.left);
  counted = omega (arith, given);
  bound = λ some. absurd (omega arith);
  took = wrote;
  noted = subst (λ (l : Option (List (ℕ × ℕ))). AddsReads u.reads l u.given u.written []) (sym reads) (AddsReads_none u.reads u.given u.written);
}

-- only a read
pub LinkPassed_read : (u v : LinkState) (input : List ℕ) → Consumes u.left v.left input → v.given ≡ u.given + length input → (v.given < 2 ^ 63) → v.written ≡ u.written →
    NotesRead u.reads v.reads u.given u.written → LinkPassed u v input [] ((0, 0) ∷ [])
LinkPassed_read u v input took given bound written noted = record {
  gave = took;
  counted = given;
  bound = λ some. bound;
  took = subst (λ (l : Option (List ℕ)). Appends u.written l []) (sym written) (Appends_none u.written);
  noted = AddsReads_one u.reads v.reads u.given u.written noted;
}

-- what a link gave and took, and nothing else
abbrev pub link_account : {E : Type 0} → List ℕ → List ℕ → List (ℕ × ℕ) → Account E
link_account input output reads = record { input = input; output = output; moments = []; events = []; reads = reads }

-- a message that was read, and then answered
abbrev pub served_account : {E : Type 0} → List ℕ → List ℕ → List (ℕ × ℕ) → List ℕ → ℕ → List E → Account E
served_account got put reads output moment events = record { input = got; output = put ++ output; moments = moment ∷ []; events = events; reads = reads }

pub served_passed : (u v w : LinkState) (got put : List ℕ) (reads : List (ℕ × ℕ)) (output : List ℕ) →
    LinkPassed u v got put reads → LinkPassed v w [] output [] → LinkPassed u w got (put ++ output) reads
served_passed u v w got put reads output p q =
    let linked = LinkPassed_join u v w got put [] output reads [] p q in
    subst (λ (x : List ℕ). LinkPassed u w x (put ++ output) reads) (append-nil got) (subst (λ (x : List (ℕ × ℕ)). LinkPassed u w (got ++ []) (put ++ output) x) (append-nil reads) linked)

-- a write after it
pub LinkPassed_more : (u v w : LinkState) (got put more : List ℕ) (reads : List (ℕ × ℕ)) → LinkPassed u v got put reads →
    w.left ≡ v.left → w.given ≡ v.given → w.reads ≡ v.reads → Appends v.written w.written more → LinkPassed u w got (put ++ more) reads
LinkPassed_more u v w got put more reads p left given same wrote =
    let linked = LinkPassed_join u v w got put [] more reads [] p (LinkPassed_wrote v w more left given same wrote) in
    subst (λ (x : List ℕ). LinkPassed u w x (put ++ more) reads) (append-nil got) (subst (λ (x : List (ℕ × ℕ)). LinkPassed u w (got ++ []) (put ++ more) x) (append-nil reads) linked)

-- a text was written, or the front of it
pub wrote_text : (u v : LinkState) (text : List ℕ) (r : Result (Unit {0}) ServeError) → v.left ≡ u.left → v.given ≡ u.given → v.reads ≡ u.reads → OnOk r (Appends u.written v.written text) →
    OnErr r ((n : ℕ) × Appends u.written v.written (take n text)) → IfErr r IsSendError → (output : List ℕ) × LinkPassed u v [] output [] × SendsText text output r
wrote_text u v text (Ok sent) left given reads ok err kind = (text, LinkPassed_wrote u v text left given reads ok, refl)
wrote_text u v text (Err e) left given reads ok err kind =
    (take err.0 text, LinkPassed_wrote u v (take err.0 text) left given reads err.1, (kind, (drop err.0 text, sym (take-append-drop err.0 text))))

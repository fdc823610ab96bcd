-- What passed in two parts passed in one.
use Rattle.std.proofs.Common.{◌≡◌, ◌∷◌, [], ◌++◌, ◌<◌, ℕ, List, Option, sym, refl, ap, ◌∙◌, subst}
use Rattle.std.specs.List.{All}
use Rattle.std.proofs.lemmas.List.Elements.{All-nil, All-append}
use Rattle.auth_io.proofs.Later.{later_none, later_trans, rose_later}
use Rattle.auth_io.proofs.Passing.{Adds_trans, Adds_none}
use Rattle.auth_io.specs.Told.{Adds}
use Rattle.connection_loop.specs.declared.responder.Lack.{Lack}
use Rattle.connection_loop.specs.declared.responder.Lack.TheVariants.{Random, Worn}
use Rattle.nonce_shard.proofs.Grown.{grows_then, grows_none}
use Rattle.nonce_shard.specs.Seat.{Made, Grows}
use Rattle.request_deciding.specs.Findings.{IsSound, behind_in, calls_in, found_in, words_in}
use Rattle.request_deciding.specs.Outside.{LackedBy, LacksBy, TablePassed, TableState}
use Rattle.request_deciding.specs.declared.events.Event.{Event}
use Rattle.request_deciding.specs.declared.events.Event.TheVariants.{Found, Behind}
use Rattle.request_deciding.specs.declared.events.Finding.{Finding}
use Rattle.request_deciding.specs.declared.events.Finding.TheVariants.{CredentialsRead, Drew, Called}
use Rattle.request_deciding.specs.declared.events.Inquiry.{Inquiry}
use Rattle.request_deciding.specs.declared.events.Operation.{Operation}

-- ---- the parts of a list of events

pub found_in-append : {E : Type 0} (xs ys : List (Event E)) → found_in (xs ++ ys) ≡ found_in xs ++ found_in ys
found_in-append [] ys = refl
found_in-append (Found finding ∷ xs) ys = ap (λ (l : List Finding). finding ∷ l) (found_in-append xs ys)
found_in-append (Behind event ∷ xs) ys = found_in-append xs ys

pub behind_in-append : {E : Type 0} (xs ys : List (Event E)) → behind_in (xs ++ ys) ≡ behind_in xs ++ behind_in ys
behind_in-append [] ys = refl
behind_in-append (Found finding ∷ xs) ys = behind_in-append xs ys
behind_in-append {E} (Behind event ∷ xs) ys = ap (λ (l : List E). event ∷ l) (behind_in-append xs ys)

words_in-append : (xs ys : List Finding) → words_in (xs ++ ys) ≡ words_in xs ++ words_in ys
words_in-append [] ys = refl
words_in-append (Drew words ∷ xs) ys = ap (λ (l : List (List ℕ)). words ∷ l) (words_in-append xs ys)
words_in-append (CredentialsRead lines credentials ∷ xs) ys = words_in-append xs ys
words_in-append (Called shard call reply ∷ xs) ys = words_in-append xs ys

pub calls_in-append : (xs ys : List Finding) → calls_in (xs ++ ys) ≡ calls_in xs ++ calls_in ys
calls_in-append [] ys = refl
calls_in-append (Called shard call reply ∷ xs) ys =
    ap (λ (l : List Made). record { shard = shard; call = call; reply = reply } ∷ l) (calls_in-append xs ys)
calls_in-append (CredentialsRead lines credentials ∷ xs) ys = calls_in-append xs ys
calls_in-append (Drew words ∷ xs) ys = calls_in-append xs ys

-- ---- the table and its source of words

pub table_none : (u : TableState) → TablePassed u u []
table_none u =
    record {
      sound = All-nil IsSound;
      drawn = Adds_none u.drawn;
      later = later_none u.faults;
      calls = grows_none u.seat;
      within = All-nil (λ (made : Made). made.shard < u.seat.shards);
    }

pub table_then : (u v w : TableState) (xs ys : List Finding) → TablePassed u v xs → TablePassed v w ys → TablePassed u w (xs ++ ys)
table_then u v w xs ys p q = record {
  sound = All-append IsSound xs ys p.sound q.sound;
  drawn = subst (λ (l : List (List ℕ)). Adds u.drawn w.drawn l) (sym (words_in-append xs ys))
      (Adds_trans u.drawn v.drawn w.drawn (words_in xs) (words_in ys) p.drawn q.drawn);
  later = later_trans u.faults v.faults w.faults p.later q.later;
  calls = subst (λ (l : List Made). Grows u.seat w.seat l) (sym (calls_in-append xs ys)) (grows_then p.calls q.calls);
  within =
      let later = subst (λ (n : ℕ). All (λ (made : Made). made.shard < n) (calls_in ys)) p.calls.same.shards q.within in
      subst (λ (l : List Made). All (λ (made : Made). made.shard < u.seat.shards) l) (sym (calls_in-append xs ys))
      (All-append (λ (made : Made). made.shard < u.seat.shards) (calls_in xs) (calls_in ys) p.within later);
}

-- the same over all events of requests
pub table_join : {E : Type 0} (u v w : TableState) (xs ys : List (Event E)) → TablePassed u v (found_in xs)
    → TablePassed v w (found_in ys) → TablePassed u w (found_in (xs ++ ys))
table_join u v w xs ys p q =
    subst (λ (l : List Finding). TablePassed u w l) (sym (found_in-append xs ys)) (table_then u v w (found_in xs) (found_in ys) p q)

lacks_later : (u v w : TableState) (found : List Finding) → TablePassed u v found → (lack : Lack) (inquiry : Inquiry)
    → LacksBy v w lack inquiry → LacksBy u w lack inquiry
lacks_later u v w found p Random inquiry q = (q.0, rose_later u.faults v.faults w.faults p.later q.1)
lacks_later u v w found p (Worn calls) inquiry q =
    (q.0, q.1, q.2, subst (λ (n : ℕ). q.0 < n) p.calls.same.shards q.3, q.4, q.5 ∙ p.calls.same.limit)

pub lacked_later : {Q : Type 0} (u v w : TableState) (found : List Finding) → TablePassed u v found
    → (lack : Lack) (operation : Operation Q) → LackedBy v w lack operation → LackedBy u w lack operation
lacked_later u v w found p lack operation q = (q.0, q.1, lacks_later u v w found p lack q.0 q.2)

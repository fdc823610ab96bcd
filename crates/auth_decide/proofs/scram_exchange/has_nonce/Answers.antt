use Rattle.std.proofs.Common.{◌≡◌, Bool, true, false, ℕ, List, ◌++◌, refl, sym, ap, ◌∙◌}
use Rattle.std.specs.Prelude.{bytes_eq}
use Rattle.std.proofs.lemmas.List.{append_cancel_left}
use Rattle.std.proofs.lemmas.Slice.Eq.{bytes_eq-Decides}
use Rattle.nonce_shard.specs.Names.{name_text}
use Rattle.auth_decide.proofs.scram_exchange.has_nonce.Goals as goal

same_tests : (a b : Bool) → (a ≡ true → b ≡ true) → (b ≡ true → a ≡ true) → a ≡ b
same_tests true b to from = sym (to refl)
same_tests false true to from = from refl
same_tests false false to from = refl

-- what stands behind a common front is compared
same_behind : (front rest other text : List ℕ) → text ≡ front ++ rest → bytes_eq rest other ≡ bytes_eq text (front ++ other)
same_behind front rest other text cut = same_tests (bytes_eq rest other) (bytes_eq text (front ++ other))
    (λ e. (bytes_eq-Decides text (front ++ other)).1 (cut ∙ ap (λ (l : List ℕ). front ++ l) ((bytes_eq-Decides rest other).0 e)))
    (λ e. (bytes_eq-Decides rest other).1 (append_cancel_left front rest other (sym cut ∙ (bytes_eq-Decides text (front ++ other)).0 e)))

pub returns-in-Some : goal.returns-in-Some
returns-in-Some c =
    let cut : c.args.attempt.now.message.nonce ≡ c.args.parts.now.nonce ++ c.in-Some.rest.now =
    sym c.bytes.ensures ∙ c.in-Some.ensures.some ∙ ap (λ (l : List ℕ). l ++ c.in-Some.rest.now) c.bytes-2.ensures in
    let right : c.eq.result ≡ bytes_eq c.in-Some.rest.now (name_text c.args.attempt.now.sid) =
    c.eq.ensures ∙ ap (bytes_eq c.in-Some.rest.now) (let slice : c.as_slice.result.now ≡ name_text c.args.attempt.now.sid = cc in slice) in
    right ∙ same_behind c.args.parts.now.nonce c.in-Some.rest.now (name_text c.args.attempt.now.sid) c.args.attempt.now.message.nonce cut

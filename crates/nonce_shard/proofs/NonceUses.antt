-- The reply to a use, from what the window has answered.
use Rattle.std.proofs.Common.{◌≡◌, ℕ, ◌+◌, Bool, true, false, cond, Option, List, length, refl}
use Rattle.arrayvec.specs.ArrayVec.{ArrayVec}
use Rattle.count_window.specs.declared.window.Admit.TheVariants as admit
use Rattle.count_window.specs.Window.{high, is_behind, is_admitted, admission}
use Rattle.nonce_shard.specs.declared.calls.Reply.TheVariants as replies
use Rattle.nonce_shard.specs.Nonces.{use_reply, is_other}

pub behind : (counts : List ℕ) (held : Option (ArrayVec ℕ)) (count : ℕ) (given : Option (ArrayVec ℕ)) (top : ℕ) → admit.Behind top ≡ admission counts count → replies.Behind top ≡ use_reply counts held count given
behind counts held count given top = by (is_behind counts count) (is_admitted counts count) (is_other given held)
  where
    by : (far old other : Bool) → admit.Behind top ≡ cond far (admit.Behind (high counts)) (cond old admit.Repeated admit.Fresh)
        → replies.Behind top ≡ cond far (replies.Behind (high counts)) (cond old replies.Repeated (cond other replies.OtherSession (replies.Fresh (length counts + 1))))
    by true old other e = cc
    by false true other e = cc
    by false false other e = cc

pub repeated : (counts : List ℕ) (held : Option (ArrayVec ℕ)) (count : ℕ) (given : Option (ArrayVec ℕ)) → admit.Repeated ≡ admission counts count → replies.Repeated ≡ use_reply counts held count given
repeated counts held count given = by (is_behind counts count) (is_admitted counts count) (is_other given held)
  where
    by : (far old other : Bool) → admit.Repeated ≡ cond far (admit.Behind (high counts)) (cond old admit.Repeated admit.Fresh)
        → replies.Repeated ≡ cond far (replies.Behind (high counts)) (cond old replies.Repeated (cond other replies.OtherSession (replies.Fresh (length counts + 1))))
    by true old other e = cc
    by false true other e = refl
    by false false other e = cc

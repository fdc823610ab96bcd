-- A chain of codes, taken one at a time.
use Rattle.std.proofs.Common.{◌≡◌, ◌-◌, ◌≤◌, ◌++◌, ◌∷◌, [], ℕ, suc, List, fold, refl, subst, arith}
use Rattle.auth_hash.specs.Salting.{hi, mac_chain, xor_bytes}
use Rattle.auth_hash.specs.Mac.{hmac}

-- the first of a chain, and the rest
pub chain_step : (key text : List ℕ) (n : ℕ) → 1 ≤ n → mac_chain key text n ≡ text ∷ mac_chain key (hmac key text) (n - 1)
chain_step key text n some =
    let P : ℕ → Type 0 = λ m. mac_chain key text m ≡ text ∷ mac_chain key (hmac key text) (n - 1) in
    subst P (let e : suc (n - 1) ≡ n = omega (arith, some) in e) refl

-- all of them XOR, from the first on
pub hi_first : (password salt : List ℕ) (n : ℕ) → 1 ≤ n → let first = hmac password (salt ++ 0 ∷ 0 ∷ 0 ∷ 1 ∷ []) in fold xor_bytes first (mac_chain password (hmac password first) (n - 1)) ≡ hi password salt n
unfolding hi
hi_first password salt n some = rw (chain_step password (hmac password (salt ++ 0 ∷ 0 ∷ 0 ∷ 1 ∷ [])) n some) refl

-- one more is taken
pub hi_next : (key text all : List ℕ) (n : ℕ) → 1 ≤ n → fold xor_bytes (xor_bytes all text) (mac_chain key (hmac key text) (n - 1)) ≡ fold xor_bytes all (mac_chain key text n)
hi_next key text all n some = rw (chain_step key text n some) refl

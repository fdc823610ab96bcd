-- Hi, the slow hash of a password (RFC 5802 section 2.2).
use Rattle.std.specs.Prelude.{◌++◌, ◌∷◌, [], ℕ, zero, suc, List, fold, bit_xor}
use Rattle.auth_hash.specs.Mac.{hmac}

-- two texts XOR, place by place, as far as both go
abbrev pub xor_bytes : List ℕ → List ℕ → List ℕ
xor_bytes (x ∷ xs) (y ∷ ys) = bit_xor x y ∷ xor_bytes xs ys
xor_bytes _ _ = []

-- the XOR of all the texts
abbrev pub xor_all : List (List ℕ) → List ℕ
xor_all [] = []
xor_all (text ∷ more) = fold xor_bytes text more

-- so many texts: this one, and each next the MAC of the one before
abbrev pub mac_chain : List ℕ → List ℕ → ℕ → List (List ℕ)
mac_chain key text zero = []
mac_chain key text (suc more) = text ∷ mac_chain key (hmac key text) more

-- U1 to Ui: U1 is the MAC of the salt and the number 1 in four bytes
abbrev pub iterations : List ℕ → List ℕ → ℕ → List (List ℕ)
iterations password salt i = mac_chain password (hmac password (salt ++ 0 ∷ 0 ∷ 0 ∷ 1 ∷ [])) i

-- U1 XOR U2 XOR .. XOR Ui
unfoldable pub hi : List ℕ → List ℕ → ℕ → List ℕ
hi password salt i = xor_all (iterations password salt i)

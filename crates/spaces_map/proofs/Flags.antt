-- Flags at the end of a text.
use Rattle.std.proofs.Common.{◌≡◌, ◌≢◌, ◌==◌, ℕ, Bool, true, false, List, [], ◌∷◌, ◌++◌, refl, sym, ap, ◌∙◌}
use Rattle.std.proofs.lemmas.Bool.{eqb-false}
use Rattle.std.proofs.lemmas.List.{append_cancel_right, append-nil}
use Rattle.spaces_map.specs.Kinds.{flag_text}

-- the last byte, 0 where there is none
abbrev pub last_of : List ℕ → ℕ
last_of [] = 0
last_of (x ∷ []) = x
last_of (x ∷ y ∷ rest) = last_of (y ∷ rest)

pub last_append : (front : List ℕ) (x : ℕ) (rest : List ℕ) → last_of (front ++ x ∷ rest) ≡ last_of (x ∷ rest)
last_append [] x rest = refl
last_append (y ∷ []) x rest = refl
last_append (y ∷ z ∷ front) x rest = last_append (z ∷ front) x rest

-- another last byte
pub ends_otherwise : (x : ℕ) (rest text : List ℕ) → (last_of text == last_of (x ∷ rest)) ≡ false → (front : List ℕ) → text ≢ front ++ x ∷ rest
ends_otherwise x rest text other front is = eqb-false (last_of text) (last_of (x ∷ rest)) other (ap last_of is ∙ last_append front x rest)

-- a flag at the end, and what stands before it
pub flag_is : (flag text a rest : List ℕ) (here there : Bool) → ((front : List ℕ) → a ≢ front ++ flag) → (here ≡ false → (front : List ℕ) → text ≢ front ++ flag) →
    text ≡ rest ++ flag_text flag here → text ≡ a ++ flag_text flag there → (here ≡ there) × (rest ≡ a)
flag_is flag text a rest true true ends absent is same = (refl, append_cancel_right rest a flag (sym is ∙ same))
flag_is flag text a rest false false ends absent is same = (refl, sym (append-nil rest) ∙ sym is ∙ same ∙ append-nil a)
flag_is flag text a rest false true ends absent is same = absurd (absent refl a same)
flag_is flag text a rest true false ends absent is same = absurd (ends rest (sym (append-nil a) ∙ sym same ∙ is))

-- the same of two texts that don't end in the flag
pub flag_cut : (flag a b : List ℕ) (here there : Bool) → ((front : List ℕ) → a ≢ front ++ flag) → ((front : List ℕ) → b ≢ front ++ flag) →
    a ++ flag_text flag here ≡ b ++ flag_text flag there → (here ≡ there) × (a ≡ b)
flag_cut flag a b here there ends others is =
    flag_is flag (a ++ flag_text flag here) b a here there others (λ e front same. ends front (sym (append-nil a) ∙ ap (λ (f : Bool). a ++ flag_text flag f) (sym e) ∙ same)) refl is

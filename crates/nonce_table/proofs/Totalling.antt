-- Sums of totals, one shard after the other.
use Rattle.std.proofs.Common.{◌≡◌, ℕ, zero, suc, ◌+◌, List, [], ◌∷◌, ◌++◌, length, sum_by, Some, sym, refl, ap, ◌∙◌, zero-add, arith}
use Rattle.std.specs.List.{slice_get}
use Rattle.std.proofs.lemmas.List.Sums.{sum_by-append}
use Rattle.turn_table.specs.Passes.{TableFacts, PassFacts}
use Rattle.nonce_shard.specs.declared.calls.Call.{Call}
use Rattle.nonce_shard.specs.declared.sizes.Setting.{Setting}
use Rattle.nonce_shard.specs.declared.totals.Totals.{Totals}
use Rattle.nonce_table.specs.declared.closing.Closed.{Closed}
use Rattle.nonce_table.specs.Closing.{sum_of}
use Rattle.nonce_table.specs.Shards.{totals_at, totals_of}
use Rattle.nonce_table.proofs.Places.{some_is}

sum_snoc : {A : Type 0} (f : A → ℕ) (xs : List A) (y : A) → sum_by f (xs ++ y ∷ []) ≡ sum_by f xs + f y
sum_snoc f xs y = sum_by-append f xs (y ∷ []) ∙ ap (λ (n : ℕ). sum_by f xs + n) (zero-add (f y))

abbrev pub more : Closed → Totals → Closed
more c t = record { calls = c.calls + t.calls; issued = c.issued + t.issued; admitted = c.admitted + t.admitted; repeated = c.repeated + t.repeated }

pub sum_more : (ts : List Totals) (t : Totals) → sum_of (ts ++ t ∷ []) ≡ more (sum_of ts) t
sum_more ts t =
    let made : ℕ → ℕ → ℕ → ℕ → Closed = λ a b c d. record { calls = a; issued = b; admitted = c; repeated = d } in
    let calls : Totals → ℕ = λ u. u.calls in
    let issued : Totals → ℕ = λ u. u.issued in
    let admitted : Totals → ℕ = λ u. u.admitted in
    let repeated : Totals → ℕ = λ u. u.repeated in
    ap (λ (n : ℕ). made n (sum_by issued (ts ++ t ∷ [])) (sum_by admitted (ts ++ t ∷ [])) (sum_by repeated (ts ++ t ∷ []))) (sum_snoc calls ts t)
    ∙ ap (λ (n : ℕ). made (sum_by calls ts + t.calls) n (sum_by admitted (ts ++ t ∷ [])) (sum_by repeated (ts ++ t ∷ []))) (sum_snoc issued ts t)
    ∙ ap (λ (n : ℕ). made (sum_by calls ts + t.calls) (sum_by issued ts + t.issued) n (sum_by repeated (ts ++ t ∷ []))) (sum_snoc admitted ts t)
    ∙ ap (λ (n : ℕ). made (sum_by calls ts + t.calls) (sum_by issued ts + t.issued) (sum_by admitted ts + t.admitted) n) (sum_snoc repeated ts t)

-- ---- the totals of shards, each beside its opening pass

abbrev Turns : Type 0
Turns = TableFacts Setting

abbrev One : Type 0
One = PassFacts Call Setting

pub totals_more : (ts : List Turns) (ps : List One) (t : Turns) (p : One) → slice_get ps (length ts) ≡ Some p → totals_of (ts ++ t ∷ []) ps ≡ totals_of ts ps ++ totals_at t p ∷ []
totals_more [] [] t p e = absurd (cc)
totals_more [] (q ∷ ps) t p e = ap (λ (x : One). totals_at t x ∷ []) (some_is q p e)
totals_more (u ∷ ts) [] t p e = absurd (cc)
totals_more (u ∷ ts) (q ∷ ps) t p e = ap (λ (l : List Totals). totals_at u q ∷ l) (totals_more ts ps t p e)

pub totals_long : (ts : List Turns) (ps : List One) → length ps ≡ length ts → length (totals_of ts ps) ≡ length ts
totals_long [] ps e = refl
totals_long (t ∷ ts) [] e = absurd (omega arith)
totals_long (t ∷ ts) (p ∷ ps) e = ap suc (totals_long ts ps (omega arith))

pub totals_there : (ts : List Turns) (ps : List One) (s : ℕ) (u : Totals) → slice_get (totals_of ts ps) s ≡ Some u → (t : Turns) × (p : One) × (slice_get ts s ≡ Some t) × (slice_get ps s ≡ Some p) × (u ≡ totals_at t p)
totals_there [] ps s u e = absurd (cc)
totals_there (t ∷ ts) [] s u e = absurd (cc)
totals_there (t ∷ ts) (p ∷ ps) zero u e = (t, p, refl, refl, sym (some_is (totals_at t p) u e))
totals_there (t ∷ ts) (p ∷ ps) (suc s) u e = totals_there ts ps s u e

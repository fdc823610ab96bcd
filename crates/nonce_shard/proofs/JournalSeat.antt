-- A journal's seat, and what its calls leave.
use Rattle.std.proofs.Common.{◌≡◌, ◌≢◌, ◌<◌, ◌+◌, ℕ, suc, zero, List, [], ◌∷◌, ◌++◌, length, refl, sym, ◌∙◌, ap, arith, length-append}
use Rattle.std.proofs.lemmas.List.{map-append, length-map}
use Rattle.nonce_shard.specs.declared.calls.Call.{Call}
use Rattle.nonce_shard.specs.declared.calls.Reply.{Reply}
use Rattle.nonce_shard.specs.declared.sizes.Sizes.{Sizes}
use Rattle.nonce_shard.specs.Replies.{reply}
use Rattle.nonce_shard.specs.Seat.{Entry, Made, of_shard, own_answers, calls_of, Grows, GrowsBy, IsWorn}
use Rattle.nonce_shard.specs.Journal.{Journal, own_entries, seat_of}
use Rattle.nonce_shard.proofs.Grown.{of_shard-few}

calls_of-own_entries : (calls : List Call) → calls_of (own_entries calls) ≡ calls
calls_of-own_entries [] = refl
calls_of-own_entries (c ∷ cs) = ap (λ t. c ∷ t) (calls_of-own_entries cs)

one_more : (j : Journal) (call : Call) → GrowsBy j.sizes 0 0 (own_entries j.calls) (own_entries (j.calls ++ call ∷ [])) ((call, reply j.sizes 0 j.calls call) ∷ [])
one_more j call = record {
  grown = (0, call) ∷ [];
  begins = map-append (λ (c : Call). let e : Entry = (0, c) in e) j.calls (call ∷ []);
  own_calls = ap (λ (cs : List Call). (call, reply j.sizes 0 cs call) ∷ []) (calls_of-own_entries j.calls);
  last = refl;
}

-- a call that is kept
pub journal_grows : (j k : Journal) (shard : ℕ) (call : Call) → shard < 1 → k ≡ record j { calls = j.calls ++ call ∷ [] } → Grows (seat_of j) (seat_of k) (record { shard = shard; call = call; reply = reply j.sizes 0 j.calls call } ∷ [])
journal_grows j k (suc n) call below is = absurd (omega arith)
journal_grows j k zero call below is = rw is record {
  same = record { owner = refl; table = refl; sizes = refl; limit = refl; shards = refl; noted = λ s h. omega (arith, length-append j.calls (call ∷ [])) };
  lists = at;
}
  where
    at : (s : ℕ) → s < 1 → GrowsBy j.sizes s 0 (own_entries j.calls) (own_entries (j.calls ++ call ∷ [])) (of_shard s (record { shard = 0; call = call; reply = reply j.sizes 0 j.calls call } ∷ []))
    at zero h = one_more j call
    at (suc n) h = absurd (omega arith)

-- a call that is refused
pub journal_worn : (j k : Journal) (shard calls : ℕ) → calls ≡ j.limit → length j.calls ≡ j.limit → k ≡ j → IsWorn (seat_of j) (seat_of k) shard calls
journal_worn j k shard calls limit full is = rw is record {
  same = record { owner = refl; table = refl; sizes = refl; limit = refl; shards = refl; noted = λ s h. omega arith };
  lists = λ s h. refl;
  noted = full ∙ sym limit;
  at_limit = limit;
}

-- what is added to own entries to give own entries is own
own_rest : (xs : List Call) (es : List Entry) (ks : List Call) → own_entries ks ≡ own_entries xs ++ es → (zs : List Call) × (es ≡ own_entries zs)
own_rest [] es ks is = (ks, sym is)
own_rest (x ∷ xs) es [] is = absurd (let no : ◌≡◌ {A = List Entry} [] ((0, x) ∷ (own_entries xs ++ es)) = is in cc)
own_rest (x ∷ xs) es (k ∷ ks) is = own_rest xs es ks (let e : ◌≡◌ {A = List Entry} ((0, k) ∷ own_entries ks) ((0, x) ∷ (own_entries xs ++ es)) = is in cc)

-- each own entry is answered
length-own_answers : (sizes : Sizes) (shard : ℕ) (past : List Entry) (calls : List Call) → length (own_answers sizes shard 0 past (own_entries calls)) ≡ length calls
length-own_answers sizes shard past [] = refl
length-own_answers sizes shard past (c ∷ cs) = ap suc (length-own_answers sizes shard (past ++ (0, c) ∷ []) cs)

length-own_entries : (calls : List Call) → length (own_entries calls) ≡ length calls
length-own_entries calls = simp length-map

counted : (sizes : Sizes) (before after : List Call) (own : List (Call × Reply)) → GrowsBy sizes 0 0 (own_entries before) (own_entries after) own → length after ≡ length before + length own
counted sizes before after own by =
    let rest = own_rest before by.grown after by.begins in
    let answers : length own ≡ length rest.0 = ap length (sym by.own_calls) ∙ ap (λ (es : List Entry). length (own_answers sizes 0 0 (own_entries before) es)) rest.1 ∙ length-own_answers sizes 0 (own_entries before) rest.0 in
    let whole : length (own_entries after) ≡ length (own_entries before) + length by.grown = ap length by.begins ∙ length-append (own_entries before) by.grown in
    let grown : length by.grown ≡ length rest.0 = ap length rest.1 ∙ length-own_entries rest.0 in
    omega (arith, answers, whole, grown, length-own_entries before, length-own_entries after)

-- a journal keeps the calls that were made, and no other
pub journal_counts : (j k : Journal) (made : List Made) → Grows (seat_of j) (seat_of k) made → length k.calls ≡ length j.calls + length (of_shard 0 made)
journal_counts j k made grows = counted j.sizes j.calls k.calls (of_shard 0 made) (grows.lists 0 (omega arith))

-- a new journal isn't at its limit after fewer calls than that
pub never_worn : (j k : Journal) (made : List Made) (shard : ℕ) → j.calls ≡ [] → Grows (seat_of j) (seat_of k) made → length made < j.limit → (seat_of k).noted shard ≢ j.limit
never_worn j k made shard new grows few noted =
    let counts = journal_counts j k made grows in
    let none : length j.calls ≡ 0 = ap (λ (l : List Call). length l) new in
    let at_most = of_shard-few 0 made in
    omega (arith, counts, none, at_most, noted)

-- A ring of nonces after a call.
use Rattle.std.proofs.Common.{◌≡◌, ℕ, ◌+◌, ◌-◌, ◌%◌, ◌<◌, ◌==◌, ◌&&◌, Bool, true, false, Option, Some, None, List, [], ◌∷◌, ◌++◌, length, slice_get, get_or, refl, sym, ◌∙◌, ap, subst, arith, append-nil, length-append, nat_eq, nat_lt, nat_le, vec_len}
use Rattle.std.specs.List.{cons_option}
use Rattle.std.specs.Option.{option_map_or}
use Rattle.std.specs.Vec.{with_item}
use Rattle.std.specs.Cmp.Lexicographic.{pointwise, bytes_decides}
use Rattle.std.proofs.lemmas.Bool.Decides.{nat_tests}
use Rattle.std.proofs.lemmas.Option.{slice_get_within}
use Rattle.arrayvec.specs.ArrayVec.{ArrayVec}
use Rattle.nonce_shard.specs.declared.names.TableName.{TableName}
use Rattle.nonce_shard.specs.declared.names.NameKind.{NameKind}
use Rattle.nonce_shard.specs.declared.names.NameKind.TheVariants as names
use Rattle.nonce_shard.specs.declared.calls.NonceKind.{NonceKind}
use Rattle.nonce_shard.specs.declared.calls.What.{What}
use Rattle.nonce_shard.specs.declared.calls.What.TheVariants.{Use}
use Rattle.nonce_shard.specs.declared.sizes.Setting.{Setting}
use Rattle.nonce_shard.specs.declared.history.Answered.{Answered}
use Rattle.nonce_shard.specs.declared.nonces.Nonce.{Nonce}
use Rattle.nonce_shard.specs.declared.nonce_ring.NonceSlot.{NonceSlot}
use Rattle.nonce_shard.specs.declared.nonce_ring.NonceRing.{NonceRing}
use Rattle.nonce_shard.specs.Names.{kinds_eq}
use Rattle.nonce_shard.specs.Nonces.{nonce_in, nonces, names_nonce, serves, serves_call, is_live, fresh_count, admitted, first_prime}
use Rattle.nonce_shard.specs.Ring.{place_of}
use Rattle.nonce_shard.specs.NonceRing.{IsUsed, counts_after, prime_after, nonce_name, FitsNonce, HoldsNonces}
use Rattle.nonce_shard.proofs.Rings.{lt_test, lt_true, place_found, fits_as, fits_at, put, change, made_at}
use Rattle.nonce_shard.proofs.NonceCalls.{nonces-append, no_prime, same_counts, same_prime, issue_uses_none, other_uses_none, counts_grow, prime_grows}

-- ---- names

pub both : (a b : Bool) → (a && b) ≡ true → (a ≡ true) × (b ≡ true)
both true b h = (refl, h)
both false b h = cc

pub same_numbers : (a b : ℕ) → (a == b) ≡ true → a ≡ b
same_numbers a b h = grind (arith, nat_tests)

kind_is_nonce : (k : NameKind) → kinds_eq k names.Nonce ≡ true → k ≡ names.Nonce
kind_is_nonce names.Nonce h = refl
kind_is_nonce names.Exchange h = cc

-- a name that a nonce has is made of its parts
name_is : (number : ℕ) (name : TableName) (n : Nonce) → names_nonce number name n ≡ true → name ≡ nonce_name number name.serial n
name_is number name n h =
    let one = both (kinds_eq name.kind names.Nonce && (name.shard == number)) (pointwise nat_eq name.random n.random) h in
    let two = both (kinds_eq name.kind names.Nonce) (name.shard == number) one.0 in
    let kind : name.kind ≡ names.Nonce = kind_is_nonce name.kind two.0 in
    let shard : name.shard ≡ number = same_numbers name.shard number two.1 in
    let random : name.random ≡ n.random = (bytes_decides name.random n.random).0 one.1 in
    ap (λ (k : NameKind). record name { kind = k }) kind
    ∙ ap (λ (s : ℕ). record name { kind = names.Nonce; shard = s }) shard
    ∙ ap (λ (r : List ℕ). record name { kind = names.Nonce; shard = number; random = r }) random

served_name : (setting : Setting) (name : TableName) (kind : NonceKind) (space now : ℕ) (n : Nonce) → serves_call setting.sizes setting.number name kind space now n ≡ true → name ≡ nonce_name setting.number name.serial n
served_name setting name kind space now n h =
    let a = both (names_nonce setting.number name n && (n.space == space) && serves n.kind kind) (nat_le (now - n.time) setting.sizes.nonce_life) h in
    let b = both (names_nonce setting.number name n && (n.space == space)) (serves n.kind kind) a.0 in
    let c = both (names_nonce setting.number name n) (n.space == space) b.0 in
    name_is setting.number name n c.0

-- ---- a nonce that is looked for

size_is : (setting : Setting) (ring : NonceRing) (past : List Answered) → HoldsNonces setting ring past → vec_len ring.slots ≡ setting.sizes.nonces
size_is setting ring past holds = ring.slots.ok.0 ∙ holds.latest.length_is

-- the nonce at the place of its serial, with its slot
record Found (setting : Setting) (ring : NonceRing) (past : List Answered) (serial : ℕ) (slot : NonceSlot) : Type 0 where
  nonce : Nonce
  at : slice_get (nonces past) serial ≡ Some nonce
  near : length (nonces past) - serial - 1 < setting.sizes.nonces
  fits : FitsNonce setting.number past serial nonce slot

found : (setting : Setting) (ring : NonceRing) (past : List Answered) (serial place : ℕ) (slot : NonceSlot) → HoldsNonces setting ring past → 0 < setting.sizes.nonces → slot ≡ get_or ring.slots.items place slot
    → serial < ring.issued → ring.issued - serial - 1 < setting.sizes.nonces → place ≡ serial % setting.sizes.nonces → Found setting ring past serial slot
found setting ring past serial place slot holds some read below near is =
    let made = made_at (nonces past) serial (omega (arith, holds.issued_is)) in
    let near_now : length (nonces past) - serial - 1 < setting.sizes.nonces = omega (arith, holds.issued_is) in
    record {
      nonce = made.0;
      at = made.1;
      near = near_now;
      fits = fits_at (FitsNonce setting.number past) setting.sizes.nonces (nonces past) ring.slots.items serial made.0 place slot holds.latest made.1 near_now is some read;
    }

-- it is live where its slot says so
pub live_where : (setting : Setting) (ring : NonceRing) (past : List Answered) (name : TableName) (kind : NonceKind) (space now place : ℕ) (slot : NonceSlot) → HoldsNonces setting ring past → 0 < vec_len ring.slots
    → slot ≡ get_or ring.slots.items place slot → Some place ≡ place_of name.serial ring.issued (vec_len ring.slots)
    → is_live setting.sizes setting.number past name kind space now ≡ (serves_call setting.sizes setting.number name kind space now slot.nonce && nat_lt slot.uses setting.sizes.uses)
live_where setting ring past name kind space now place slot holds some read is =
    ap (λ (o : Option Nonce). option_map_or (λ n. serves_call setting.sizes setting.number name kind space now n && nat_lt (length (nonces past) - name.serial - 1) setting.sizes.nonces && nat_lt (length (admitted past name)) setting.sizes.uses) o false) f.at
    ∙ by (serves_call setting.sizes setting.number name kind space now f.nonce) refl
    ∙ ap (λ (n : Nonce). serves_call setting.sizes setting.number name kind space now n && nat_lt slot.uses setting.sizes.uses) (sym f.fits.nonce_is)
  where
    f : Found setting ring past name.serial slot
    f =
        let p = place_found name.serial ring.issued setting.sizes.nonces place (ap (place_of name.serial ring.issued) (sym (size_is setting ring past holds)) ∙ sym is) in
        found setting ring past name.serial place slot holds (omega (arith, size_is setting ring past holds)) read p.1 p.2 p.0

    by : (served : Bool) → serves_call setting.sizes setting.number name kind space now f.nonce ≡ served
        → (serves_call setting.sizes setting.number name kind space now f.nonce && nat_lt (length (nonces past) - name.serial - 1) setting.sizes.nonces && nat_lt (length (admitted past name)) setting.sizes.uses)
        ≡ (serves_call setting.sizes setting.number name kind space now f.nonce && nat_lt slot.uses setting.sizes.uses)
    by true e =
        let uses : slot.uses ≡ length (admitted past name) = f.fits.used.uses_is ∙ ap (λ (m : TableName). length (admitted past m)) (sym (served_name setting name kind space now f.nonce e)) in
        rw (e, lt_test (length (nonces past) - name.serial - 1) setting.sizes.nonces f.near, uses) refl
    by false e = rw e refl

-- ---- a nonce that is live

record Live (setting : Setting) (ring : NonceRing) (past : List Answered) (name : TableName) : Type 0 where
  nonce : Nonce
  at : slice_get (nonces past) name.serial ≡ Some nonce
  near : length (nonces past) - name.serial - 1 < setting.sizes.nonces
  named : name ≡ nonce_name setting.number name.serial nonce

live : (setting : Setting) (ring : NonceRing) (past : List Answered) (name : TableName) (kind : NonceKind) (space now : ℕ) → is_live setting.sizes setting.number past name kind space now ≡ true → Live setting ring past name
live setting ring past name kind space now = by (slice_get (nonces past) name.serial) refl
  where
    by : (o : Option Nonce) → slice_get (nonces past) name.serial ≡ o
        → option_map_or (λ n. serves_call setting.sizes setting.number name kind space now n && nat_lt (length (nonces past) - name.serial - 1) setting.sizes.nonces && nat_lt (length (admitted past name)) setting.sizes.uses) o false ≡ true
        → Live setting ring past name
    by None at h = cc
    by (Some n) at h =
        let a = both (serves_call setting.sizes setting.number name kind space now n && nat_lt (length (nonces past) - name.serial - 1) setting.sizes.nonces) (nat_lt (length (admitted past name)) setting.sizes.uses) h in
        let b = both (serves_call setting.sizes setting.number name kind space now n) (nat_lt (length (nonces past) - name.serial - 1) setting.sizes.nonces) a.0 in
        record {
          nonce = n;
          at = at;
          near = lt_true (length (nonces past) - name.serial - 1) setting.sizes.nonces b.1;
          named = served_name setting name kind space now n b.0;
        }

-- its slot has what its uses have left
pub live_used : (setting : Setting) (ring : NonceRing) (past : List Answered) (name : TableName) (kind : NonceKind) (space now place : ℕ) (slot : NonceSlot) → HoldsNonces setting ring past → 0 < vec_len ring.slots
    → slot ≡ get_or ring.slots.items place slot → is_live setting.sizes setting.number past name kind space now ≡ true → place ≡ name.serial % vec_len ring.slots → IsUsed slot (admitted past name) (first_prime past name)
live_used setting ring past name kind space now place slot holds some read is_live_now is =
    let l = live setting ring past name kind space now is_live_now in
    let f = fits_at (FitsNonce setting.number past) setting.sizes.nonces (nonces past) ring.slots.items name.serial l.nonce place slot holds.latest l.at l.near (is ∙ ap (λ (k : ℕ). name.serial % k) (size_is setting ring past holds)) (omega (arith, size_is setting ring past holds)) read in
    subst (λ (m : TableName). IsUsed slot (admitted past m) (first_prime past m)) (sym l.named) f.used

-- ---- the ring after a call

-- a call that uses no count of a nonce leaves what fits it
same_used : (past : List Answered) (a : Answered) (name : TableName) (slot : NonceSlot) → fresh_count name a.call.what a.reply ≡ None → IsUsed slot (admitted past name) (first_prime past name)
    → IsUsed slot (admitted (past ++ a ∷ []) name) (first_prime (past ++ a ∷ []) name)
same_used past a name slot none used = rw (same_counts past a name none, same_prime past a name none) used

-- a call that issues none and uses none
pub quiet_nonces : (setting : Setting) (ring : NonceRing) (past : List Answered) (a : Answered) → nonce_in a.call.what a.time ≡ None → ((name : TableName) → fresh_count name a.call.what a.reply ≡ None)
    → HoldsNonces setting ring past → HoldsNonces setting ring (past ++ a ∷ [])
quiet_nonces setting ring past a issues_none uses_none holds = record {
  issued_is = holds.issued_is ∙ ap length (sym same);
  latest = rw same (fits_as (FitsNonce setting.number past) (FitsNonce setting.number (past ++ a ∷ [])) setting.sizes.nonces (nonces past) ring.slots.items holds.latest
      (λ serial n slot fits. record { nonce_is = fits.nonce_is; used = same_used past a (nonce_name setting.number serial n) slot (uses_none (nonce_name setting.number serial n)) fits.used }));
  unused = λ name later. same_counts past a name (uses_none name) ∙ holds.unused name later;
}
  where
    same : nonces (past ++ a ∷ []) ≡ nonces past
    same = nonces-append past a ∙ ap (λ (o : Option Nonce). nonces past ++ cons_option o []) issues_none ∙ append-nil (nonces past)

-- an Issue
pub issued : (setting : Setting) (ring : NonceRing) (past : List Answered) (a : Answered) (nonce : Nonce) (slot : NonceSlot) → HoldsNonces setting ring past → 0 < vec_len ring.slots
    → nonce_in a.call.what a.time ≡ Some nonce → slot.nonce ≡ nonce → IsUsed slot [] None
    → HoldsNonces setting (record { issued = ring.issued + 1; slots = with_item ring.slots (ring.issued % vec_len ring.slots) slot }) (past ++ a ∷ [])
issued setting ring past a nonce slot holds some is nonce_is unused = record {
  issued_is = omega (arith, holds.issued_is, ap length more, length-append (nonces past) (nonce ∷ []));
  latest = rw (more, size_is setting ring past holds, holds.issued_is) (put (FitsNonce setting.number past) (FitsNonce setting.number (past ++ a ∷ [])) setting.sizes.nonces (nonces past) ring.slots.items nonce slot (omega (arith, size_is setting ring past holds)) holds.latest
      (λ serial n old fits. record { nonce_is = fits.nonce_is; used = same_used past a (nonce_name setting.number serial n) old (uses_none (nonce_name setting.number serial n)) fits.used })
      fresh);
  unused = λ name later. same_counts past a name (uses_none name) ∙ holds.unused name (omega arith);
}
  where
    more : nonces (past ++ a ∷ []) ≡ nonces past ++ nonce ∷ []
    more = nonces-append past a ∙ ap (λ (o : Option Nonce). nonces past ++ cons_option o []) is

    uses_none : (name : TableName) → fresh_count name a.call.what a.reply ≡ None
    uses_none name = issue_uses_none a.call.what a.time nonce name a.reply is

    fresh : FitsNonce setting.number (past ++ a ∷ []) (length (nonces past)) nonce slot
    fresh =
        let name : TableName = nonce_name setting.number (length (nonces past)) nonce in
        let none : admitted (past ++ a ∷ []) name ≡ [] = same_counts past a name (uses_none name) ∙ holds.unused name (omega (arith, holds.issued_is)) in
        record { nonce_is = nonce_is; used = rw (none, no_prime (past ++ a ∷ []) name none) unused }

-- a Use of a nonce that is live
pub used : (setting : Setting) (ring : NonceRing) (past : List Answered) (a : Answered) (name : TableName) (kind : NonceKind) (space now count : ℕ) (given : Option (ArrayVec ℕ)) (place : ℕ) (old slot : NonceSlot) → HoldsNonces setting ring past
    → 0 < vec_len ring.slots → old ≡ get_or ring.slots.items place old → is_live setting.sizes setting.number past name kind space now ≡ true → place ≡ name.serial % vec_len ring.slots → a.call.what ≡ Use name kind space count given
    → slot.nonce ≡ old.nonce → IsUsed slot (counts_after (admitted past name) count a.reply) (prime_after (first_prime past name) given a.reply)
    → HoldsNonces setting (record { issued = ring.issued; slots = with_item ring.slots place slot }) (past ++ a ∷ [])
used setting ring past a name kind space now count given place old slot holds some read is_live_now place_is what nonce_is used_now = record {
  issued_is = holds.issued_is ∙ ap length (sym same);
  latest = rw (same, place_at) (change (FitsNonce setting.number past) (FitsNonce setting.number (past ++ a ∷ [])) setting.sizes.nonces (nonces past) ring.slots.items name.serial l.nonce slot (omega (arith, size_is setting ring past holds)) holds.latest l.at l.near here
      (λ serial n kept other fits. let there : TableName = nonce_name setting.number serial n in
      record { nonce_is = fits.nonce_is; used = same_used past a there kept (other_uses_none name there kind space count given a.call.what a.reply what (λ e. other (sym e))) fits.used }));
  unused = λ other later. same_counts past a other (other_uses_none name other kind space count given a.call.what a.reply what (λ e. omega (arith, below))) ∙ holds.unused other later;
}
  where
    l : Live setting ring past name
    l = live setting ring past name kind space now is_live_now

    place_at : place ≡ name.serial % setting.sizes.nonces
    place_at = place_is ∙ ap (λ (k : ℕ). name.serial % k) (size_is setting ring past holds)

    below : name.serial < ring.issued
    below = omega (arith, holds.issued_is, slice_get_within (nonces past) name.serial l.nonce l.at)

    same : nonces (past ++ a ∷ []) ≡ nonces past
    same = nonces-append past a ∙ ap (λ (w : What). nonces past ++ cons_option (nonce_in w a.time) []) what ∙ append-nil (nonces past)

    here : FitsNonce setting.number (past ++ a ∷ []) name.serial l.nonce slot
    here =
        let before = fits_at (FitsNonce setting.number past) setting.sizes.nonces (nonces past) ring.slots.items name.serial l.nonce place old holds.latest l.at l.near place_at (omega (arith, size_is setting ring past holds)) read in
        let then : IsUsed slot (admitted (past ++ a ∷ []) name) (first_prime (past ++ a ∷ []) name) = rw (counts_grow past a name kind space count given what, prime_grows past a name kind space count given what) used_now in
        record {
          nonce_is = nonce_is ∙ before.nonce_is;
          used = subst (λ (m : TableName). IsUsed slot (admitted (past ++ a ∷ []) m) (first_prime (past ++ a ∷ []) m)) l.named then;
        }

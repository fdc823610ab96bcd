-- A ring of exchanges after a call.
use Rattle.std.proofs.Common.{◌≡◌, ◌≢◌, ℕ, ◌+◌, ◌-◌, ◌%◌, ◌<◌, ◌==◌, ◌&&◌, Bool, true, false, cond, Option, Some, None, List, [], ◌∷◌, ◌++◌, length, slice_get, get_or, refl, sym, ◌∙◌, ap, arith, append-nil, length-append, nat_eq, nat_lt, vec_len, is_some}
use Rattle.std.specs.List.{cons_option}
use Rattle.std.specs.Option.{option_and_then}
use Rattle.std.specs.Vec.{with_item}
use Rattle.std.specs.Cmp.Lexicographic.{pointwise, bytes_decides}
use Rattle.std.proofs.lemmas.Option.{slice_get_within}
use Rattle.nonce_shard.specs.declared.names.TableName.{TableName}
use Rattle.nonce_shard.specs.declared.names.NameKind.{NameKind}
use Rattle.nonce_shard.specs.declared.names.NameKind.TheVariants as names
use Rattle.nonce_shard.specs.declared.sizes.Setting.{Setting}
use Rattle.nonce_shard.specs.declared.history.Answered.{Answered}
use Rattle.nonce_shard.specs.declared.exchanges.Opening.{Opening}
use Rattle.nonce_shard.specs.declared.exchanges.Progress.TheVariants.{Untried}
use Rattle.nonce_shard.specs.declared.exchange_ring.ExchangeSlot.{ExchangeSlot}
use Rattle.nonce_shard.specs.declared.exchange_ring.ExchangeRing.{ExchangeRing}
use Rattle.nonce_shard.specs.Names.{kinds_eq}
use Rattle.nonce_shard.specs.Exchanges.{opening_in, openings, names_exchange, is_there, opening, progress}
use Rattle.nonce_shard.specs.Ring.{place_of}
use Rattle.nonce_shard.specs.ExchangeRing.{exchange_name, FitsExchange, HoldsExchanges}
use Rattle.nonce_shard.proofs.Rings.{lt_test, lt_true, place_found, fits_as, fits_at, put, change, made_at}
use Rattle.nonce_shard.proofs.NonceRings.{both, same_numbers}
use Rattle.nonce_shard.proofs.ExchangeCalls.{openings-append, Leaves, same_progress, open_leaves}

-- ---- names

kind_is_exchange : (k : NameKind) → kinds_eq k names.Exchange ≡ true → k ≡ names.Exchange
kind_is_exchange names.Nonce h = cc
kind_is_exchange names.Exchange h = refl

-- a name that an exchange has is made of its parts
name_is : (number : ℕ) (name : TableName) (space : ℕ) (o : Opening) → names_exchange number name space o ≡ true → name ≡ exchange_name number name.serial o
name_is number name space o h =
    let zero = both (kinds_eq name.kind names.Exchange && (name.shard == number) && pointwise nat_eq name.random o.random) (o.space == space) h in
    let one = both (kinds_eq name.kind names.Exchange && (name.shard == number)) (pointwise nat_eq name.random o.random) zero.0 in
    let two = both (kinds_eq name.kind names.Exchange) (name.shard == number) one.0 in
    let kind : name.kind ≡ names.Exchange = kind_is_exchange name.kind two.0 in
    let shard : name.shard ≡ number = same_numbers name.shard number two.1 in
    let random : name.random ≡ o.random = (bytes_decides name.random o.random).0 one.1 in
    ap (λ (k : NameKind). record name { kind = k }) kind
    ∙ ap (λ (s : ℕ). record name { kind = names.Exchange; shard = s }) shard
    ∙ ap (λ (r : List ℕ). record name { kind = names.Exchange; shard = number; random = r }) random

-- ---- an exchange that is looked for

size_is : (setting : Setting) (ring : ExchangeRing) (past : List Answered) → HoldsExchanges setting ring past → vec_len ring.slots ≡ setting.sizes.exchanges
size_is setting ring past holds = ring.slots.ok.0 ∙ holds.latest.length_is

-- it is there where its slot says so
pub there_where : (setting : Setting) (ring : ExchangeRing) (past : List Answered) (name : TableName) (space place : ℕ) (slot : ExchangeSlot) → HoldsExchanges setting ring past → 0 < vec_len ring.slots
    → slot ≡ get_or ring.slots.items place slot → Some place ≡ place_of name.serial ring.opened (vec_len ring.slots)
    → is_some (opening setting.sizes setting.number past name space) ≡ names_exchange setting.number name space slot.opening
there_where setting ring past name space place slot holds some read is =
    let size = size_is setting ring past holds in
    let p = place_found name.serial ring.opened setting.sizes.exchanges place (ap (place_of name.serial ring.opened) (sym size) ∙ sym is) in
    let made = made_at (openings past) name.serial (omega (arith, p.1, holds.opened_is)) in
    let near : length (openings past) - name.serial - 1 < setting.sizes.exchanges = omega (arith, p.2, holds.opened_is) in
    let fits = fits_at (FitsExchange setting.number past) setting.sizes.exchanges (openings past) ring.slots.items name.serial made.0 place slot holds.latest made.1 near p.0 (omega (arith, size, some)) read in
    ap (λ (o : Option Opening). is_some (option_and_then (λ x. cond (is_there setting.sizes setting.number past name space x) (Some x) None) o)) made.1
    ∙ by made.0 (names_exchange setting.number name space made.0) (nat_lt (length (openings past) - name.serial - 1) setting.sizes.exchanges) (lt_test (length (openings past) - name.serial - 1) setting.sizes.exchanges near)
    ∙ ap (names_exchange setting.number name space) (sym fits.opening_is)
  where
    by : (o : Opening) (named near : Bool) → near ≡ true → is_some (cond (named && near) (Some o) None) ≡ named
    by o true true e = refl
    by o true false e = cc
    by o false near e = refl

-- ---- an exchange that is there

record There (setting : Setting) (past : List Answered) (name : TableName) (space : ℕ) : Type 0 where
  found : Opening
  is : opening setting.sizes setting.number past name space ≡ Some found
  at : slice_get (openings past) name.serial ≡ Some found
  near : length (openings past) - name.serial - 1 < setting.sizes.exchanges
  named : name ≡ exchange_name setting.number name.serial found

there : (setting : Setting) (past : List Answered) (name : TableName) (space : ℕ) → is_some (opening setting.sizes setting.number past name space) ≡ true → There setting past name space
there setting past name space = by (slice_get (openings past) name.serial) refl
  where
    test : Opening → Bool
    test o = is_there setting.sizes setting.number past name space o

    some : (o : Opening) (b : Bool) → is_there setting.sizes setting.number past name space o ≡ b → is_some (cond b (Some o) None) ≡ true → is_there setting.sizes setting.number past name space o ≡ true
    some o true e h = e
    some o false e h = cc

    by : (o : Option Opening) → slice_get (openings past) name.serial ≡ o → is_some (option_and_then (λ x. cond (is_there setting.sizes setting.number past name space x) (Some x) None) o) ≡ true → There setting past name space
    by None at h = cc
    by (Some o) at h =
        let t = some o (is_there setting.sizes setting.number past name space o) refl h in
        let parts = both (names_exchange setting.number name space o) (nat_lt (length (openings past) - name.serial - 1) setting.sizes.exchanges) t in
        record {
          found = o;
          is = ap (option_and_then (λ x. cond (is_there setting.sizes setting.number past name space x) (Some x) None)) at ∙ ap (λ (b : Bool). cond b (Some o) None) t;
          at = at;
          near = lt_true (length (openings past) - name.serial - 1) setting.sizes.exchanges parts.1;
          named = name_is setting.number name space o parts.0;
        }

-- its slot has it, and how far it has come
pub record InSlot (setting : Setting) (past : List Answered) (name : TableName) (space : ℕ) (slot : ExchangeSlot) : Type 0 where
  pub opening_is : opening setting.sizes setting.number past name space ≡ Some slot.opening
  pub progress_is : slot.progress ≡ progress past name

pub in_slot : (setting : Setting) (ring : ExchangeRing) (past : List Answered) (name : TableName) (space place : ℕ) (slot : ExchangeSlot) → HoldsExchanges setting ring past → 0 < vec_len ring.slots
    → slot ≡ get_or ring.slots.items place slot → is_some (opening setting.sizes setting.number past name space) ≡ true → place ≡ name.serial % vec_len ring.slots → InSlot setting past name space slot
in_slot setting ring past name space place slot holds some read is_there_now is =
    let t = there setting past name space is_there_now in
    let size = size_is setting ring past holds in
    let fits = fits_at (FitsExchange setting.number past) setting.sizes.exchanges (openings past) ring.slots.items name.serial t.found place slot holds.latest t.at t.near (is ∙ ap (λ (k : ℕ). name.serial % k) size) (omega (arith, size, some)) read in
    record { opening_is = t.is ∙ ap Some (sym fits.opening_is); progress_is = fits.progress_is ∙ ap (progress past) (sym t.named) }

-- ---- the ring after a call

-- a call that opens none and leaves each where it is
pub quiet_exchanges : (setting : Setting) (ring : ExchangeRing) (past : List Answered) (a : Answered) → opening_in a.call.what a.time ≡ None → ((name : TableName) → Leaves name a.call.what a.reply a.time)
    → HoldsExchanges setting ring past → HoldsExchanges setting ring (past ++ a ∷ [])
quiet_exchanges setting ring past a opens_none leaves holds = record {
  opened_is = holds.opened_is ∙ ap length (sym same);
  latest = rw same (fits_as (FitsExchange setting.number past) (FitsExchange setting.number (past ++ a ∷ [])) setting.sizes.exchanges (openings past) ring.slots.items holds.latest
      (λ serial o slot fits. record { opening_is = fits.opening_is; progress_is = fits.progress_is ∙ sym (stays (exchange_name setting.number serial o)) }));
  untried = λ name later. stays name ∙ holds.untried name later;
}
  where
    same : openings (past ++ a ∷ []) ≡ openings past
    same = openings-append past a ∙ ap (λ (o : Option Opening). openings past ++ cons_option o []) opens_none ∙ append-nil (openings past)

    stays : (name : TableName) → progress (past ++ a ∷ []) name ≡ progress past name
    stays name = let l = leaves name in same_progress past a name l.no_take l.no_keep

-- an Open
pub opened : (setting : Setting) (ring : ExchangeRing) (past : List Answered) (a : Answered) (o : Opening) (slot : ExchangeSlot) → HoldsExchanges setting ring past → 0 < vec_len ring.slots
    → opening_in a.call.what a.time ≡ Some o → slot.opening ≡ o → slot.progress ≡ Untried
    → HoldsExchanges setting (record { opened = ring.opened + 1; slots = with_item ring.slots (ring.opened % vec_len ring.slots) slot }) (past ++ a ∷ [])
opened setting ring past a o slot holds some is opening_is untried = record {
  opened_is = omega (arith, holds.opened_is, ap length more, length-append (openings past) (o ∷ []));
  latest = rw (more, size_is setting ring past holds, holds.opened_is) (put (FitsExchange setting.number past) (FitsExchange setting.number (past ++ a ∷ [])) setting.sizes.exchanges (openings past) ring.slots.items o slot (omega (arith, size_is setting ring past holds)) holds.latest
      (λ serial x old fits. record { opening_is = fits.opening_is; progress_is = fits.progress_is ∙ sym (stays (exchange_name setting.number serial x)) })
      (record { opening_is = opening_is; progress_is = untried ∙ sym (stays new_name ∙ holds.untried new_name (omega (arith, holds.opened_is))) }));
  untried = λ name later. stays name ∙ holds.untried name (omega arith);
}
  where
    new_name : TableName
    new_name = exchange_name setting.number (length (openings past)) o

    more : openings (past ++ a ∷ []) ≡ openings past ++ o ∷ []
    more = openings-append past a ∙ ap (λ (x : Option Opening). openings past ++ cons_option x []) is

    stays : (name : TableName) → progress (past ++ a ∷ []) name ≡ progress past name
    stays name = let l = open_leaves name a.call.what a.reply a.time o is in same_progress past a name l.no_take l.no_keep

-- a Take or a Keep of an exchange that is there
pub moved : (setting : Setting) (ring : ExchangeRing) (past : List Answered) (a : Answered) (name : TableName) (space place : ℕ) (old slot : ExchangeSlot) → HoldsExchanges setting ring past → 0 < vec_len ring.slots
    → old ≡ get_or ring.slots.items place old → is_some (opening setting.sizes setting.number past name space) ≡ true → place ≡ name.serial % vec_len ring.slots
    → opening_in a.call.what a.time ≡ None → ((other : TableName) → name.serial ≢ other.serial → Leaves other a.call.what a.reply a.time)
    → slot.opening ≡ old.opening → slot.progress ≡ progress (past ++ a ∷ []) name
    → HoldsExchanges setting (record { opened = ring.opened; slots = with_item ring.slots place slot }) (past ++ a ∷ [])
moved setting ring past a name space place old slot holds some read is_there_now place_is opens_none leaves opening_is progress_is = record {
  opened_is = holds.opened_is ∙ ap length (sym same);
  latest = rw (same, place_at) (change (FitsExchange setting.number past) (FitsExchange setting.number (past ++ a ∷ [])) setting.sizes.exchanges (openings past) ring.slots.items name.serial t.found slot (omega (arith, size_is setting ring past holds)) holds.latest t.at t.near here
      (λ serial o kept other fits. record { opening_is = fits.opening_is; progress_is = fits.progress_is ∙ sym (stays (exchange_name setting.number serial o) (λ e. other (sym e))) }));
  untried = λ other later. stays other (λ e. omega (arith, below)) ∙ holds.untried other later;
}
  where
    t : There setting past name space
    t = there setting past name space is_there_now

    place_at : place ≡ name.serial % setting.sizes.exchanges
    place_at = place_is ∙ ap (λ (k : ℕ). name.serial % k) (size_is setting ring past holds)

    below : name.serial < ring.opened
    below = omega (arith, holds.opened_is, slice_get_within (openings past) name.serial t.found t.at)

    same : openings (past ++ a ∷ []) ≡ openings past
    same = openings-append past a ∙ ap (λ (o : Option Opening). openings past ++ cons_option o []) opens_none ∙ append-nil (openings past)

    stays : (other : TableName) → name.serial ≢ other.serial → progress (past ++ a ∷ []) other ≡ progress past other
    stays other apart = let l = leaves other apart in same_progress past a other l.no_take l.no_keep

    here : FitsExchange setting.number (past ++ a ∷ []) name.serial t.found slot
    here =
        let before = fits_at (FitsExchange setting.number past) setting.sizes.exchanges (openings past) ring.slots.items name.serial t.found place old holds.latest t.at t.near place_at (omega (arith, size_is setting ring past holds)) read in
        record { opening_is = opening_is ∙ before.opening_is; progress_is = progress_is ∙ ap (progress (past ++ a ∷ [])) t.named }

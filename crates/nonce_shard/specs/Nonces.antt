-- What the answered calls say of a nonce.
use Rattle.std.specs.Prelude.{ℕ, ◌+◌, ◌-◌, Bool, true, false, not, ◌&&◌, ◌==◌, if◌then◌else◌, nat_lt, nat_le, nat_eq, Option, Some, None, List, length, slice_get}
use Rattle.std.specs.List.{filter_map}
use Rattle.std.specs.Option.{option_map_or}
use Rattle.std.specs.Cmp.Lexicographic.{pointwise}
use Rattle.arrayvec.specs.ArrayVec.{ArrayVec}
use Rattle.count_window.specs.Window.{high, is_behind, is_admitted}
use Rattle.nonce_shard.specs.declared.names.TableName.{TableName}
use Rattle.nonce_shard.specs.declared.names.NameKind.TheVariants as names
use Rattle.nonce_shard.specs.declared.calls.NonceKind.{NonceKind}
use Rattle.nonce_shard.specs.declared.calls.NonceKind.TheVariants.{Digest, Scram, Both}
use Rattle.nonce_shard.specs.declared.calls.What.{What}
use Rattle.nonce_shard.specs.declared.calls.What.TheVariants.{Issue, Peek, Use, Open, Take, Keep, Recall}
use Rattle.nonce_shard.specs.declared.calls.Reply.{Reply}
use Rattle.nonce_shard.specs.declared.calls.Reply.TheVariants as replies
use Rattle.nonce_shard.specs.declared.sizes.Sizes.{Sizes}
use Rattle.nonce_shard.specs.declared.history.Answered.{Answered}
use Rattle.nonce_shard.specs.declared.nonces.Nonce.{Nonce}
use Rattle.nonce_shard.specs.Names.{kinds_eq, names_eq}

-- ---- which nonces there are

-- the nonce that an Issue at this time makes
abbrev pub nonce_in : What → ℕ → Option Nonce
nonce_in (Issue kind space random) time = Some (record { kind = kind; space = space; random = random; time = time })
nonce_in (Peek nonce space) time = None
nonce_in (Use nonce kind space count prime) time = None
nonce_in (Open space random exchange) time = None
nonce_in (Take sid space) time = None
nonce_in (Keep sid space) time = None
nonce_in (Recall sid space) time = None

-- the nonces that were issued, in order: the serial of each is its place
abbrev pub nonces : List Answered → List Nonce
nonces past = filter_map (λ a. nonce_in a.call.what a.time) past

-- whether a name, at the place of its serial, is the name of this nonce
abbrev pub names_nonce : ℕ → TableName → Nonce → Bool
names_nonce shard name nonce = kinds_eq name.kind names.Nonce && (name.shard == shard) && pointwise nat_eq name.random nonce.random

-- whether a nonce of one kind serves credentials of another
abbrev pub serves : NonceKind → NonceKind → Bool
serves Both kind = true
serves Digest Digest = true
serves Digest Scram = false
serves Digest Both = false
serves Scram Digest = false
serves Scram Scram = true
serves Scram Both = false

-- whether this is the nonce that is named, of that space and kind, and not too old
abbrev pub serves_call : Sizes → ℕ → TableName → NonceKind → ℕ → ℕ → Nonce → Bool
serves_call sizes shard name kind space now nonce =
    names_nonce shard name nonce && (nonce.space == space) && serves nonce.kind kind && nat_le (now - nonce.time) sizes.nonce_life

-- ---- how a nonce was used

abbrev pub is_fresh : Reply → Bool
is_fresh (replies.Fresh uses) = true
is_fresh _ = false

-- the count of a Use of this nonce that was answered Fresh
abbrev pub fresh_count : TableName → What → Reply → Option ℕ
fresh_count name (Use nonce kind space count prime) reply = if names_eq nonce name && is_fresh reply then Some count else None
fresh_count name _ reply = None

-- the counts of this nonce that were answered Fresh
abbrev pub admitted : List Answered → TableName → List ℕ
admitted past name = filter_map (λ a. fresh_count name a.call.what a.reply) past

-- ---- whether a nonce may be used

-- whether a nonce of this name was issued for that kind and space, is not too old, few enough were issued since,
-- and few enough of its counts were admitted
abbrev pub is_live : Sizes → ℕ → List Answered → TableName → NonceKind → ℕ → ℕ → Bool
is_live sizes shard past name kind space now =
    let few_since = nat_lt (length (nonces past) - name.serial - 1) sizes.nonces in
    let few_uses = nat_lt (length (admitted past name)) sizes.uses in
    option_map_or (λ nonce. serves_call sizes shard name kind space now nonce && few_since && few_uses)
    (slice_get (nonces past) name.serial) false

-- ---- what a use is answered

-- the prime of a Use of this nonce that was answered Fresh, if it gave one
abbrev pub fresh_prime : TableName → What → Reply → Option (ArrayVec ℕ)
fresh_prime name (Use nonce kind space count prime) reply = if names_eq nonce name && is_fresh reply then prime else None
fresh_prime name _ reply = None

-- the first of these primes: the nonce holds it
abbrev pub first_prime : List Answered → TableName → Option (ArrayVec ℕ)
first_prime past name = slice_get (filter_map (λ a. fresh_prime name a.call.what a.reply) past) 0

-- whether a prime is given, and another one is held
abbrev pub is_other : Option (ArrayVec ℕ) → Option (ArrayVec ℕ) → Bool
is_other None held = false
is_other (Some given) None = false
is_other (Some given) (Some held) = not (pointwise nat_eq given.items held.items)

-- the reply to a Use of a live nonce, from the counts that were admitted and the prime that is held
abbrev pub use_reply : List ℕ → Option (ArrayVec ℕ) → ℕ → Option (ArrayVec ℕ) → Reply
use_reply counts held count given =
    if is_behind counts count then replies.Behind (high counts)
    else if is_admitted counts count then replies.Repeated
    else if is_other given held then replies.OtherSession
    else replies.Fresh (length counts + 1)

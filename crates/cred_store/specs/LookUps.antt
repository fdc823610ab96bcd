-- Looking secrets up in the list of entries.
use Rattle.std.specs.Prelude.{ℕ, Bool, ◌&&◌, if◌then◌else◌, bytes_eq, List, Option, Some, None, find, option_map}
use Rattle.std.specs.Option.{option_and_then}
use Rattle.auth_hash.specs.declared.algorithm.Algorithm.{Algorithm}
use Rattle.digest_formulas.specs.Secrets.{user_hash}
use Rattle.scram_proof.specs.declared.keys.ScramKeys.{ScramKeys}
use Rattle.cred_store.specs.Kinds.{kind_of, same_kind}
use Rattle.cred_store.specs.declared.entry.Entry.{Entry}
use Rattle.cred_store.specs.declared.entry.Secret.{Secret}
use Rattle.cred_store.specs.declared.entry.Secret.TheVariants.{Digest, Scram}
use Rattle.cred_store.specs.declared.kind.SecretKind.{SecretKind}
use Rattle.cred_store.specs.declared.kind.SecretKind.TheVariants as kinds

-- whether the entry is of this name and realm
abbrev pub is_of : List ℕ → List ℕ → Entry → Bool
is_of name realm entry = bytes_eq entry.name name && bytes_eq entry.realm realm

-- whether it is, with a secret of this kind
abbrev pub is_keyed : List ℕ → List ℕ → SecretKind → Entry → Bool
is_keyed name realm kind entry = is_of name realm entry && same_kind (kind_of entry.secret) kind

-- the entry of a name in a realm with a secret of this kind
abbrev pub entry_of : List ℕ → List ℕ → SecretKind → List Entry → Option Entry
entry_of name realm kind entries = find (is_keyed name realm kind) entries

-- ---- what an entry says, which says nothing where it is off

abbrev pub ha1_in : Secret → Option (List ℕ)
ha1_in (Digest alg ha1) = Some ha1
ha1_in (Scram keys) = None

abbrev pub keys_in : Secret → Option ScramKeys
keys_in (Digest alg ha1) = None
keys_in (Scram keys) = Some keys

abbrev pub ha1_of : Entry → Option (List ℕ)
ha1_of entry = if entry.on then ha1_in entry.secret else None

abbrev pub keys_of : Entry → Option ScramKeys
keys_of entry = if entry.on then keys_in entry.secret else None

-- ---- look-ups

-- the secret of a name in a realm, by this algorithm
abbrev pub secret_of : List ℕ → List ℕ → Algorithm → List Entry → Option (List ℕ)
secret_of name realm alg entries = option_and_then ha1_of (entry_of name realm (kinds.Digest alg) entries)

-- the keys of a name in a realm, of SCRAM-SHA-256
abbrev pub scram_of : List ℕ → List ℕ → List Entry → Option ScramKeys
scram_of name realm entries = option_and_then keys_of (entry_of name realm kinds.ScramSha256 entries)

-- whether the entry is on and has a secret by this algorithm in this realm, and its name has this hash (RFC 7616 section 3.4.4)
abbrev pub is_hashed : List ℕ → List ℕ → Algorithm → Entry → Bool
is_hashed hash realm alg entry =
    (bytes_eq (user_hash alg entry.name realm) hash && bytes_eq entry.realm realm)
    && (entry.on && same_kind (kind_of entry.secret) (kinds.Digest alg))

-- the first name in this realm that has this hash
abbrev pub name_of_hash : List ℕ → List ℕ → Algorithm → List Entry → Option (List ℕ)
name_of_hash hash realm alg entries = option_map (λ entry. entry.name) (find (is_hashed hash realm alg) entries)

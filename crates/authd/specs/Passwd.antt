-- What `passwd` does: it reads a password and a store, and saves the store with the secret of the password.
use Rattle.std.specs.Prelude.{◌≡◌, ◌≢◌, ◌⊎◌, ℕ, true, false, ◌&&◌, List, ◌∷◌, [], ◌++◌, length, Option, Result, Ok, Err, codes}
use Rattle.auth_grammar.specs.Plain.{is_plain_name}
use Rattle.auth_io.specs.Causes.{Rose}
use Rattle.auth_io.specs.Told.{Adds, Stays}
use Rattle.auth_io.specs.declared.files.FileAnswer.{FileAnswer}
use Rattle.connection_loop.specs.Account.{LinkState}
use Rattle.cred_store.specs.Changes.{put}
use Rattle.cred_store.specs.Kinds.{kind_name}
use Rattle.cred_store.specs.Texts.{entry_at}
use Rattle.cred_store.specs.declared.entry.Entry.{Entry}
use Rattle.cred_store.specs.declared.entry.Secret.{Secret}
use Rattle.cred_store.specs.declared.entry.Secret.TheVariants.{Digest, Scram}
use Rattle.cred_store.specs.declared.kind.SecretKind.{SecretKind}
use Rattle.cred_store.specs.declared.kind.SecretKind.TheVariants as kinds
use Rattle.digest_formulas.specs.Secrets.{secret_of}
use Rattle.origin_core.specs.Outside.{FilesState}
use Rattle.scram_proof.specs.Keys.{AreKeysOf}
use Rattle.scram_proof.specs.declared.keys.ScramKeys.{ScramKeys}
use Rattle.authd.specs.Endings.{Ending}
use Rattle.authd.specs.Loading.{ReadsFile, IsKept}
use Rattle.authd.specs.Passwords.{ReadsPassword}
use Rattle.authd.specs.Saving.{Saves}
use Rattle.authd.specs.declared.failure.Failure.{Failure}
use Rattle.authd.specs.declared.failure.Failure.TheVariants as failure
use Rattle.authd.specs.declared.failure.Fault.TheVariants as fault

-- whose secret is set, of which kind, and by which count of iterations where the kind has one
pub record Owner : Type 0 where
  pub name : List ℕ
  pub realm : List ℕ
  pub kind : SecretKind
  pub rounds : ℕ

abbrev pub owner : List ℕ → List ℕ → SecretKind → ℕ → Owner
owner name realm kind rounds = record { name = name; realm = realm; kind = kind; rounds = rounds }

-- `set NAME REALM KIND`
abbrev pub set_line : List ℕ → List ℕ → List ℕ → List ℕ
set_line name realm kind = codes "set " ++ name ++ 32 ∷ (realm ++ 32 ∷ (kind ++ 10 ∷ []))

-- No store has such a kind, name or realm.
abbrev pub IsUnfit : List ℕ → List ℕ → List ℕ → Type 0
IsUnfit name realm kind = ((k : SecretKind) → kind ≢ kind_name k) ⊎ ((is_plain_name name && is_plain_name realm) ≡ false)

-- ---- the secret

-- the keys of a password by a salt of 16 bytes, which one draw gave
pub record AreDrawnKeys (keys : ScramKeys) (password : List ℕ) (rounds : ℕ) (drawn drawn' : Option (List (List ℕ))) : Type 0 where
  pub salt : List ℕ
  pub long : length salt ≡ 16
  pub draws : Adds drawn drawn' (salt ∷ [])
  pub are_keys : AreKeysOf keys password salt rounds

-- what makes keys, by what the source of random words has drawn and by its count of faults
abbrev pub MakesKeys : List ℕ → ℕ → Option (List (List ℕ)) → Option (List (List ℕ)) → ℕ → ℕ → Result Secret Failure → Type 0
MakesKeys password rounds drawn drawn' faults faults' (Ok secret) =
    (keys : ScramKeys) × (secret ≡ Scram keys) × AreDrawnKeys keys password rounds drawn drawn'
MakesKeys password rounds drawn drawn' faults faults' (Err other) =
    (other ≡ failure.Fault fault.Draw) × Stays drawn drawn' × Rose faults faults'

-- For Digest the secret is H(name:realm:password) (RFC 7616 section 3.4.2), and nothing is drawn.
abbrev pub MakesSecret : {W : Type 0} → (W → Option (List (List ℕ))) → (W → ℕ) → Owner → SecretKind → List ℕ → W → W
    → Result Secret Failure → Type 0
MakesSecret drawn faults whose (kinds.Digest alg) password random random' result =
    (result ≡ Ok (Digest alg (secret_of alg whose.name whose.realm password))) × (random' ≡ random)
MakesSecret drawn faults whose kinds.ScramSha256 password random random' result =
    MakesKeys password whose.rounds (drawn random) (drawn random') (faults random) (faults random') result

-- ---- the store

-- Without a secret nothing is saved.
abbrev pub SavesSecret : {F : Type 0} → (F → FilesState) → F → F → List ℕ → Owner → List ℕ → List Entry
    → Result Secret Failure → LinkState → LinkState → Ending → Type 0
SavesSecret at before now store whose line entries (Err other) link link' ending = (now ≡ before) × (link' ≡ link) × (ending ≡ Err other)
SavesSecret at before now store whose line entries (Ok secret) link link' ending =
    Saves (at before) (at now) store (put (entry_at whose.name whose.realm secret true) entries) line link link' ending

-- Where the store was read, the secret is made, and the store saved with it.
abbrev pub SavesSet : {F W : Type 0} → (F → FilesState) → (W → Option (List (List ℕ))) → (W → ℕ) → F → F → List ℕ → Owner
    → List ℕ → List ℕ → Result (List Entry) Failure → W → W → LinkState → LinkState → Ending → Type 0
SavesSet at drawn faults before now store whose line password (Err other) random random' link link' ending =
    (now ≡ before) × (random' ≡ random) × (link' ≡ link) × (ending ≡ Err other)
SavesSet at drawn faults before now store whose line password (Ok entries) random random' link link' ending =
    (secret : Result Secret Failure) × MakesSecret drawn faults whose whose.kind password random random' secret
    × SavesSecret at before now store whose line entries secret link link' ending

-- The store is read, which has no entries where it isn't there.
abbrev pub SetsEntry : {F W : Type 0} → (F → FilesState) → (W → Option (List (List ℕ))) → (W → ℕ) → List ℕ → Owner → List ℕ
    → List ℕ → F → F → W → W → LinkState → LinkState → Ending → Type 0
SetsEntry {F} at drawn faults store whose line password files files' random random' link link' ending =
    (middle : F) × (answer : FileAnswer) × ReadsFile (at files) (at middle) store answer
    × (entries : Result (List Entry) Failure) × IsKept answer entries
    × SavesSet at drawn faults middle files' store whose line password entries random random' link link' ending

-- Without a password no file is asked for, and nothing is drawn.
abbrev pub SetsPassword : {F W : Type 0} → (F → FilesState) → (W → Option (List (List ℕ))) → (W → ℕ) → List ℕ → Owner
    → List ℕ → Result (List ℕ) Failure → F → F → W → W → LinkState → LinkState → Ending → Type 0
SetsPassword at drawn faults store whose line (Err other) files files' random random' link link' ending =
    (files' ≡ files) × (random' ≡ random) × (link' ≡ link) × (ending ≡ Err other)
SetsPassword at drawn faults store whose line (Ok password) files files' random random' link link' ending =
    SetsEntry at drawn faults store whose line password files files' random random' link link' ending

-- The password is read first, which writes nothing.
abbrev pub Sets : {F W : Type 0} → (F → FilesState) → (W → Option (List (List ℕ))) → (W → ℕ) → List ℕ → Owner → List ℕ → F
    → F → W → W → LinkState → LinkState → Ending → Type 0
Sets at drawn faults store whose line files files' random random' link link' ending =
    (middle : LinkState) × (password : Result (List ℕ) Failure) × ReadsPassword link.left middle.left password
    × (middle.written ≡ link.written)
    × SetsPassword at drawn faults store whose line password files files' random random' middle link' ending

-- Other words touch nothing.
abbrev pub Passwds : {F W : Type 0} → (F → FilesState) → (W → Option (List (List ℕ))) → (W → ℕ) → List ℕ → List ℕ → List ℕ
    → List ℕ → ℕ → F → F → W → W → LinkState → LinkState → Ending → Type 0
Passwds at drawn faults store name realm kind rounds files files' random random' link link' ending =
    (IsUnfit name realm kind × (ending ≡ Err failure.Usage) × (files' ≡ files) × (random' ≡ random) × (link' ≡ link))
    ⊎ ((k : SecretKind) × (kind ≡ kind_name k) × (is_plain_name name ≡ true) × (is_plain_name realm ≡ true)
    × Sets at drawn faults store (owner name realm k rounds) (set_line name realm kind) files files' random random' link link' ending)

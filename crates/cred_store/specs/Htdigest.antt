-- Texts of htdigest, with lines user:realm:secret.
use Rattle.std.specs.Prelude.{◌≡◌, ◌≢◌, ℕ, ◌+◌, ◌==◌, ◌⊎◌, true, false, not, List, [], ◌∷◌, ◌++◌, length, filter}
use Rattle.std.specs.List.{AllZip}
use Rattle.std.specs.Str.{str_to_ascii_lowercase}
use Rattle.std.specs.Str.Lines.{lines}
use Rattle.auth_grammar.specs.Plain.{is_plain_name}
use Rattle.auth_hash.specs.declared.algorithm.Algorithm.TheVariants.{Md5}
use Rattle.cred_store.specs.Changes.{put_all}
use Rattle.cred_store.specs.Faults.{colons}
use Rattle.cred_store.specs.Kinds.{IsSecret}
use Rattle.cred_store.specs.Texts.{IsEntry}
use Rattle.cred_store.specs.Values.{HasNo}
use Rattle.cred_store.specs.declared.entry.Entry.{Entry}
use Rattle.cred_store.specs.declared.entry.Secret.{Secret}
use Rattle.cred_store.specs.declared.entry.Secret.TheVariants.{Digest}
use Rattle.cred_store.specs.declared.error.LineFault.{LineFault}
use Rattle.cred_store.specs.declared.error.LineFault.TheVariants.{Form, Name, Realm, Kind, Flag, Value, Header}
use Rattle.cred_store.specs.declared.error.StoreError.{StoreError}
use Rattle.cred_store.specs.declared.error.StoreError.TheVariants.{BadLine, Repeated, Unsorted, BadName, OutOfMemory}
use Rattle.cred_store.specs.declared.version.Version.TheVariants.{Two}

-- the secret that a value is, which has hexadecimal digits in either case
abbrev pub md5_secret : List ℕ → Secret
md5_secret value = Digest Md5 (str_to_ascii_lowercase value)

-- user:realm:value
abbrev pub pair_text : List ℕ → List ℕ → List ℕ → List ℕ
pair_text name realm value = name ++ 58 ∷ (realm ++ 58 ∷ value)

-- the line says the entry, which is on
pub record IsPair (line : List ℕ) (entry : Entry) : Type 0 where
  pub value : List ℕ
  pub says : line ≡ pair_text entry.name entry.realm value
  pub is_entry : IsEntry Two entry
  pub is_secret : entry.secret ≡ md5_secret value
  pub is_on : entry.on ≡ true

-- the lines that are not empty
abbrev pub full_lines : List (List ℕ) → List (List ℕ)
full_lines all = filter (λ line. not (length line == 0)) all

-- the lines that are not empty say the entries
abbrev pub ArePairs : List (List ℕ) → List Entry → Type 0
ArePairs all entries = AllZip IsPair (full_lines all) entries

-- the entries in the order of a store, where of two that have one user and realm the first counts
abbrev pub imported : List Entry → List Entry
imported pairs = put_all pairs []

-- ---- faults

-- the three parts of a line with two colons
pub record HasThreeParts (line name realm value : List ℕ) : Type 0 where
  pub parts : line ≡ pair_text name realm value
  pub no_name : HasNo 58 name
  pub no_realm : HasNo 58 realm
  pub no_value : HasNo 58 value

-- what is wrong with them, of which the first decides
abbrev pub AreThreeFaulty : LineFault → List ℕ → List ℕ → List ℕ → Type 0
AreThreeFaulty Name name realm value = is_plain_name name ≡ false
AreThreeFaulty Realm name realm value = (is_plain_name name ≡ true) × (is_plain_name realm ≡ false)
AreThreeFaulty Value name realm value =
    (is_plain_name name ≡ true) × (is_plain_name realm ≡ true) × (IsSecret (md5_secret value) → ⊥)
AreThreeFaulty Form name realm value = ⊥
AreThreeFaulty Kind name realm value = ⊥
AreThreeFaulty Flag name realm value = ⊥
AreThreeFaulty Header name realm value = ⊥

pub record HasThreeFaulty (line : List ℕ) (why : LineFault) : Type 0 where
  pub name : List ℕ
  pub realm : List ℕ
  pub value : List ℕ
  pub parts : HasThreeParts line name realm value
  pub fault : AreThreeFaulty why name realm value

-- what is wrong with a line: it hasn't two colons, or its parts are faulty
abbrev pub IsPairFaulty : LineFault → List ℕ → Type 0
IsPairFaulty why line = ((why ≡ Form) × (colons line ≢ 2)) ⊎ HasThreeFaulty line why

-- the line of this number is not empty and faulty
abbrev pub PairFault : List ℕ → ℕ → StoreError → Type 0
PairFault line number (BadLine at why) = (at ≡ number) × (line ≢ []) × IsPairFaulty why line
PairFault line number (Repeated at) = ⊥
PairFault line number (Unsorted at) = ⊥
PairFault line number BadName = ⊥
PairFault line number OutOfMemory = Unit {0}

-- the first lines are in form, and then comes the faulty one
pub record PairFaultBehind (whole : List ℕ) (error : StoreError) : Type 0 where
  pub before : List (List ℕ)
  pub line : List ℕ
  pub after : List (List ℕ)
  pub said : List Entry
  pub splits : lines whole ≡ before ++ line ∷ after
  pub are_pairs : ArePairs before said
  pub fault : PairFault line (length before + 1) error

-- what is wrong with the first faulty line of a text
abbrev pub FirstPairFault : List ℕ → StoreError → Type 0
FirstPairFault whole error = (error ≡ OutOfMemory) ⊎ PairFaultBehind whole error

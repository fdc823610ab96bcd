-- The first faulty line of a text of secrets.
use Rattle.std.specs.Prelude.{◌≡◌, ◌≢◌, ℕ, ◌+◌, ◌==◌, ◌⊎◌, Bool, true, false, List, [], ◌∷◌, ◌++◌, length, count_by, codes}
use Rattle.std.specs.declared.cmp.Ordering.{Ordering}
use Rattle.std.specs.declared.cmp.Ordering.TheVariants.{Equal, Greater}
use Rattle.auth_grammar.specs.Plain.{is_plain_name}
use Rattle.cred_store.specs.Keys.{entry_cmp}
use Rattle.cred_store.specs.Kinds.{IsSecret, kind_name, kind_of}
use Rattle.cred_store.specs.Texts.{IsEntry, IsStore, entry_line, header, line_of, tail_of, text_in, title}
use Rattle.cred_store.specs.Values.{HasNo, flag_text, text_of}
use Rattle.cred_store.specs.declared.entry.Entry.{Entry}
use Rattle.cred_store.specs.declared.entry.Secret.{Secret}
use Rattle.cred_store.specs.declared.error.LineFault.{LineFault}
use Rattle.cred_store.specs.declared.error.LineFault.TheVariants.{Form, Name, Realm, Kind, Flag, Value, Header}
use Rattle.cred_store.specs.declared.error.StoreError.{StoreError}
use Rattle.cred_store.specs.declared.error.StoreError.TheVariants.{BadLine, Repeated, Unsorted, BadName, OutOfMemory}
use Rattle.cred_store.specs.declared.kind.SecretKind.{SecretKind}
use Rattle.cred_store.specs.declared.version.Version.{Version}
use Rattle.cred_store.specs.declared.version.Version.TheVariants.{One, Two}

-- how many colons a line has
abbrev pub colons : List ℕ → ℕ
colons line = count_by (λ b. b == 58) line

-- how many a line has behind its kind, and how many in all
abbrev pub tail_colons : Version → ℕ
tail_colons One = 0
tail_colons Two = 1

abbrev pub line_colons : Version → ℕ
line_colons version = 3 + tail_colons version

-- the flag that a line has, which in the first version is none, and stands for `on`
abbrev pub IsFlag : Version → List ℕ → Type 0
IsFlag One flag = flag ≡ codes "on"
IsFlag Two flag = HasNo 58 flag

-- the flag and the value behind the kind
pub record HasTail (version : Version) (tail flag value : List ℕ) : Type 0 where
  pub parts : tail ≡ tail_of version flag value
  pub is_flag : IsFlag version flag
  pub no_value : HasNo 58 value

-- the parts of a line with as many colons as its version has
pub record HasParts (version : Version) (line name realm kind flag value : List ℕ) : Type 0 where
  pub parts : line ≡ line_of version name realm kind flag value
  pub no_name : HasNo 58 name
  pub no_realm : HasNo 58 realm
  pub no_kind : HasNo 58 kind
  pub is_flag : IsFlag version flag
  pub no_value : HasNo 58 value

-- ---- what is wrong with the parts of a line, of which the first decides

abbrev pub IsPlace : List ℕ → List ℕ → Type 0
IsPlace name realm = (is_plain_name name ≡ true) × (is_plain_name realm ≡ true)

abbrev pub ArePartsFaulty : LineFault → List ℕ → List ℕ → List ℕ → List ℕ → List ℕ → Type 0
ArePartsFaulty Name name realm kind flag value = is_plain_name name ≡ false
ArePartsFaulty Realm name realm kind flag value = (is_plain_name name ≡ true) × (is_plain_name realm ≡ false)
ArePartsFaulty Kind name realm kind flag value = IsPlace name realm × ((k : SecretKind) → kind ≢ kind_name k)
ArePartsFaulty Flag name realm kind flag value =
    IsPlace name realm × ((k : SecretKind) × (kind ≡ kind_name k)) × ((on : Bool) → flag ≢ flag_text on)
ArePartsFaulty Value name realm kind flag value =
    IsPlace name realm × ((k : SecretKind) × (kind ≡ kind_name k) × ((s : Secret) → IsSecret s → kind_of s ≡ k → text_of s ≢ value))
    × ((on : Bool) × (flag ≡ flag_text on))
ArePartsFaulty Form name realm kind flag value = ⊥
ArePartsFaulty Header name realm kind flag value = ⊥

pub record HasFaultyParts (version : Version) (line : List ℕ) (why : LineFault) : Type 0 where
  pub name : List ℕ
  pub realm : List ℕ
  pub kind : List ℕ
  pub flag : List ℕ
  pub value : List ℕ
  pub parts : HasParts version line name realm kind flag value
  pub fault : ArePartsFaulty why name realm kind flag value

-- what is wrong with a line other than the first: it hasn't as many colons as its version has, or its parts are faulty
abbrev pub IsFaulty : Version → LineFault → List ℕ → Type 0
IsFaulty version why line = ((why ≡ Form) × (colons line ≢ line_colons version)) ⊎ HasFaultyParts version line why

-- what is wrong with the first line of a text: it has no line feed, or it is faulty
abbrev pub BeginsFaulty : Version → LineFault → List ℕ → Type 0
BeginsFaulty version why text =
    ((why ≡ Form) × (text ≢ []) × HasNo 10 text)
    ⊎ ((line : List ℕ) × (more : List ℕ) × (text ≡ line ++ 10 ∷ more) × HasNo 10 line × IsFaulty version why line)

-- ---- the faulty line in its text

-- the text begins with the line of an entry, to whose key that of the last entry before it stands so
pub record NextStands (version : Version) (before : List Entry) (text : List ℕ) (order : Ordering) : Type 0 where
  pub front : List Entry
  pub last : Entry
  pub next : Entry
  pub more : List ℕ
  pub ends : before ≡ front ++ last ∷ []
  pub is_entry : IsEntry version next
  pub begins : text ≡ entry_line version next ++ more
  pub stands : entry_cmp last next ≡ order

-- what is wrong with the line with which a text begins, that has this number and stands behind these entries
abbrev pub FaultAfter : Version → List Entry → List ℕ → ℕ → StoreError → Type 0
FaultAfter version before text number (BadLine line why) = (line ≡ number) × BeginsFaulty version why text
FaultAfter version before text number (Repeated line) = (line ≡ number) × NextStands version before text Equal
FaultAfter version before text number (Unsorted line) = (line ≡ number) × NextStands version before text Greater
FaultAfter version before text number BadName = ⊥
FaultAfter version before text number OutOfMemory = Unit {0}

-- the first lines are those of a store with these entries, and then comes the faulty one
pub record FaultBehind (version : Version) (whole : List ℕ) (error : StoreError) : Type 0 where
  pub before : List Entry
  pub rest : List ℕ
  pub is_store : IsStore version before
  pub begins : whole ≡ text_in version before ++ rest
  pub fault : FaultAfter version before rest (length before + 2) error

-- what is wrong with the first line: it has no line feed, or is another one
abbrev pub IsTitleFaulty : LineFault → List ℕ → Type 0
IsTitleFaulty why whole =
    ((why ≡ Form) × ((version : Version) × (whole ≡ title version)))
    ⊎ ((why ≡ Header) × ((version : Version) → whole ≢ title version)
    × ((version : Version) (rest : List ℕ) → whole ≢ header version ++ rest))

-- what is wrong with the first faulty line of a text
abbrev pub FirstFault : List ℕ → StoreError → Type 0
FirstFault whole error =
    ((why : LineFault) × (error ≡ BadLine 1 why) × IsTitleFaulty why whole) ⊎ ((version : Version) × FaultBehind version whole error)

-- The text of a store.
use Rattle.std.specs.Prelude.{◌≡◌, ℕ, ⊤, Bool, true, List, [], ◌∷◌, ◌++◌, All, codes}
use Rattle.std.specs.List.{flat_map}
use Rattle.auth_grammar.specs.Plain.{is_plain_name}
use Rattle.cred_store.specs.Keys.{IsRising}
use Rattle.cred_store.specs.Kinds.{IsSecret, kind_name, kind_of}
use Rattle.cred_store.specs.Values.{flag_text, text_of}
use Rattle.cred_store.specs.declared.entry.Entry.{Entry}
use Rattle.cred_store.specs.declared.entry.Secret.{Secret}
use Rattle.cred_store.specs.declared.line.Line.{Line}
use Rattle.cred_store.specs.declared.version.Version.{Version}
use Rattle.cred_store.specs.declared.version.Version.TheVariants.{One, Two}

abbrev pub entry_at : List ℕ → List ℕ → Secret → Bool → Entry
entry_at name realm secret on = record { name = name; realm = realm; secret = secret; on = on }

-- the entry that a line says
abbrev pub entry_said : Line → Entry
entry_said line = entry_at line.name.now line.realm.now line.secret line.on

-- the flags that a version can say: the first has none, and each of its entries is on
abbrev pub HasFlag : Version → Bool → Type 0
HasFlag One on = on ≡ true
HasFlag Two on = ⊤

-- an entry that can stand in a text of this version
pub record IsEntry (version : Version) (entry : Entry) : Type 0 where
  pub name : is_plain_name entry.name ≡ true
  pub realm : is_plain_name entry.realm ≡ true
  pub secret : IsSecret entry.secret
  pub flag : HasFlag version entry.on

-- the entries of a text of this version
pub record IsStore (version : Version) (entries : List Entry) : Type 0 where
  pub each : All (IsEntry version) entries
  pub rising : IsRising entries

-- what stands behind the kind: the value alone, or the flag before it
abbrev pub tail_of : Version → List ℕ → List ℕ → List ℕ
tail_of One flag value = value
tail_of Two flag value = flag ++ 58 ∷ value

-- name:realm:kind:value, or name:realm:kind:flag:value
abbrev pub line_of : Version → List ℕ → List ℕ → List ℕ → List ℕ → List ℕ → List ℕ
line_of version name realm kind flag value = name ++ 58 ∷ (realm ++ 58 ∷ (kind ++ 58 ∷ tail_of version flag value))

-- the line of an entry
abbrev pub entry_text : Version → Entry → List ℕ
entry_text version entry =
    line_of version entry.name entry.realm (kind_name (kind_of entry.secret)) (flag_text entry.on) (text_of entry.secret)

abbrev pub entry_line : Version → Entry → List ℕ
entry_line version entry = entry_text version entry ++ 10 ∷ []

-- the first line, without its line feed
abbrev pub title : Version → List ℕ
title One = codes "authstore 1"
title Two = codes "authstore 2"

-- the first line
unfoldable pub header : Version → List ℕ
header version = title version ++ 10 ∷ []

-- the text of the entries in a version
abbrev pub text_in : Version → List Entry → List ℕ
text_in version entries = header version ++ flat_map (entry_line version) entries

-- the text of a store as it is written
abbrev pub store_text : List Entry → List ℕ
store_text entries = text_in Two entries

-- the text is that of a store with these entries, in one of the versions
pub record IsStoreText (text : List ℕ) (entries : List Entry) : Type 0 where
  pub version : Version
  pub is_store : IsStore version entries
  pub says : text ≡ text_in version entries

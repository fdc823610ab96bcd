-- Reading a site from its files: the store first, and the spaces where the store was read.
use Rattle.std.specs.Prelude.{◌≡◌, ℕ, ⊤, List, [], Result, Ok, Err}
use Rattle.auth_decide.specs.declared.site.Site.{Site}
use Rattle.auth_io.specs.Files.{ReadAnswers, AddsAsked, read_entry, ReadRose}
use Rattle.auth_io.specs.declared.files.FileAnswer.{FileAnswer}
use Rattle.auth_io.specs.declared.files.FileAnswer.TheVariants as file
use Rattle.cred_store.specs.Faults.{FirstFault}
use Rattle.cred_store.specs.Texts.{IsStoreText}
use Rattle.cred_store.specs.declared.entry.Entry.{Entry}
use Rattle.cred_store.specs.declared.error.StoreError.{StoreError}
use Rattle.cred_store.specs.declared.error.StoreError.TheVariants as error
use Rattle.spaces_map.specs.Texts as spaces
use Rattle.spaces_map.specs.Texts.{IsBadLine, IsSamePrefix, spaces_text}
use Rattle.spaces_map.specs.declared.space.Space.{Space}
use Rattle.spaces_map.specs.declared.error.SpacesError.{SpacesError}
use Rattle.spaces_map.specs.declared.error.SpacesError.TheVariants as fault_of
use Rattle.authd.specs.Causes.{store_failure, spaces_failure}
use Rattle.authd.specs.declared.failure.Failure.{Failure}
use Rattle.authd.specs.declared.failure.Failure.TheVariants as failure
use Rattle.authd.specs.declared.failure.Fault.TheVariants as fault
use Rattle.authd.specs.declared.failure.Refusal.{Refusal}
use Rattle.authd.specs.declared.failure.Refusal.TheVariants as refusal
use Rattle.origin_core.specs.Outside.{FilesState}
use Rattle.origin_core.specs.declared.carrying.TheConstants.{FILE_LIMIT}

-- ---- one file

-- one file was read, of no more bytes than a file may have, with this answer
pub record ReadsFile (before now : FilesState) (name : List ℕ) (answer : FileAnswer) : Type 0 where
  pub answers : ReadAnswers before.contents name FILE_LIMIT answer
  pub contents : now.contents ≡ before.contents
  pub asked : AddsAsked before.asked now.asked (read_entry name answer)
  pub faults : ReadRose answer before.faults now.faults

-- the text in an answer, or why there is none
abbrev pub text_in : Refusal → FileAnswer → Result (List ℕ) Failure
text_in absent (file.Found text) = Ok text
text_in absent file.Absent = Err (failure.Refused absent)
text_in absent file.TooLarge = Err (failure.Refused refusal.FileTooLong)
text_in absent file.Failed = Err (failure.Fault fault.File)
text_in absent file.OutOfMemory = Err failure.OutOfMemory

-- ---- the two texts

-- what reading a text of secrets answers
abbrev pub ReadsStore : List ℕ → Result (List Entry) StoreError → Type 0
ReadsStore text (Ok entries) = IsStoreText text entries
ReadsStore text (Err error.OutOfMemory) = ⊤
ReadsStore text (Err other) = FirstFault text other

-- what reading a text of spaces answers
abbrev pub ReadsSpaces : List ℕ → Result (List Space) SpacesError → Type 0
ReadsSpaces text (Ok list) = spaces.IsSpaces list × (text ≡ spaces_text list)
ReadsSpaces text (Err (fault_of.BadLine line)) = IsBadLine text line
ReadsSpaces text (Err (fault_of.SamePrefix line)) = IsSamePrefix text line
ReadsSpaces text (Err fault_of.OutOfMemory) = ⊤

-- the store in a text, or why there is none
abbrev pub IsStore : Result (List ℕ) Failure → Result (List Entry) Failure → Type 0
IsStore (Err other) result = result ≡ Err other
IsStore (Ok text) (Ok entries) = ReadsStore text (Ok entries)
IsStore (Ok text) (Err other) = (error : StoreError) × ReadsStore text (Err error) × (other ≡ store_failure error)

-- the store in a file, or why there is none
abbrev pub LoadsStore : {F : Type 0} → (F → FilesState) → F → F → List ℕ → Result (List Entry) Failure → Type 0
LoadsStore at before now name result =
    (answer : FileAnswer) × ReadsFile (at before) (at now) name answer × IsStore (text_in refusal.StoreAbsent answer) result

-- the store in an answer, which has no entries where there is no file, or why there is none
abbrev pub IsKept : FileAnswer → Result (List Entry) Failure → Type 0
IsKept file.Absent result = result ≡ Ok []
IsKept answer result = IsStore (text_in refusal.StoreAbsent answer) result

-- the spaces in a text, or why there are none
abbrev pub IsSpaces : Result (List ℕ) Failure → Result (List Space) Failure → Type 0
IsSpaces (Err other) result = result ≡ Err other
IsSpaces (Ok text) (Ok list) = ReadsSpaces text (Ok list)
IsSpaces (Ok text) (Err other) = (error : SpacesError) × ReadsSpaces text (Err error) × (other ≡ spaces_failure error)

-- ---- the site

-- a site of what was read
abbrev pub IsSite : List Entry → Result (List Space) Failure → List ℕ → Result Site Failure → Type 0
IsSite entries (Err other) root result = result ≡ Err other
IsSite entries (Ok list) root (Ok site) = (site.store ≡ entries) × (site.spaces ≡ list) × (site.root ≡ root)
IsSite entries (Ok list) root (Err other) = other ≡ failure.OutOfMemory

-- Where the store was read, the spaces are.
abbrev pub LoadsSpaces : {F : Type 0} → (F → FilesState) → F → F → List ℕ → List ℕ → Result (List Entry) Failure
    → Result Site Failure → Type 0
LoadsSpaces at before now name root (Err other) result = (now ≡ before) × (result ≡ Err other)
LoadsSpaces at before now name root (Ok entries) result =
    (answer : FileAnswer) × ReadsFile (at before) (at now) name answer
    × (list : Result (List Space) Failure) × IsSpaces (text_in refusal.SpacesAbsent answer) list × IsSite entries list root result

-- a site, by the names of its store and of its spaces, and its root
abbrev pub LoadsSite : {F : Type 0} → (F → FilesState) → F → F → List ℕ → List ℕ → List ℕ → Result Site Failure → Type 0
LoadsSite {F} at before now store_name spaces_name root result =
    (middle : F) × (answer : FileAnswer) × ReadsFile (at before) (at middle) store_name answer
    × (entries : Result (List Entry) Failure) × IsStore (text_in refusal.StoreAbsent answer) entries
    × LoadsSpaces at middle now spaces_name root entries result

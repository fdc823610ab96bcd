-- The outside of the program.
use Rattle.std.specs.Prelude.{◌≡◌, ◌⊎◌, ℕ, List, Option}
use Rattle.auth_io.specs.Causes.{Rose}
use Rattle.connection_loop.specs.Account.{LinkState}
use Rattle.origin_core.specs.Outside.{FilesState}

-- a link, files, a clock and a source of random words
pub record Objects (L F C W : Type 0) : Type 0 where
  pub link : L
  pub files : F
  pub clock : C
  pub random : W

abbrev pub objects : {L F C W : Type 0} → L → F → C → W → Objects L F C W
objects link files clock random = record { link = link; files = files; clock = clock; random = random }

-- what the objects tell, and their counts of faults
pub record Views (L F C W : Type 0) : Type 0 where
  pub link : L → LinkState
  pub read_faults : L → ℕ
  pub write_faults : L → ℕ
  pub files : F → FilesState
  pub shown : C → Option (List ℕ)
  pub drawn : W → Option (List (List ℕ))
  pub word_faults : W → ℕ

abbrev pub views : {L F C W : Type 0} → (L → LinkState) → (L → ℕ) → (L → ℕ) → (F → FilesState) → (C → Option (List ℕ))
    → (W → Option (List (List ℕ))) → (W → ℕ) → Views L F C W
views link read_faults write_faults files shown drawn word_faults =
    record {
      link = link;
      read_faults = read_faults;
      write_faults = write_faults;
      files = files;
      shown = shown;
      drawn = drawn;
      word_faults = word_faults;
    }

-- a count of faults has risen
abbrev pub SomeRose : {L F C W : Type 0} → Views L F C W → Objects L F C W → Objects L F C W → Type 0
SomeRose v before now =
    (Rose (v.read_faults before.link) (v.read_faults now.link) ⊎ Rose (v.write_faults before.link) (v.write_faults now.link))
    ⊎ (Rose ((v.files before.files).faults) ((v.files now.files).faults) ⊎ Rose (v.word_faults before.random) (v.word_faults now.random))

-- nothing was written, and the files hold what they held
abbrev pub IsUntouched : {L F C W : Type 0} → Views L F C W → Objects L F C W → Objects L F C W → Type 0
IsUntouched v before now =
    ((v.link now.link).written ≡ (v.link before.link).written) × ((v.files now.files).contents ≡ (v.files before.files).contents)

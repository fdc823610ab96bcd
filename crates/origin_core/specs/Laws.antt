-- What passed in two parts passed in one.
use Rattle.std.proofs.Common.{◌≡◌, ◌∷◌, [], ◌++◌, ℕ, List, Option, sym, refl, ap, ◌∙◌, subst, append_assoc}
use Rattle.std.proofs.lemmas.List.Elements.{All-nil, All-append}
use Rattle.auth_io.proofs.Later.{later_none, later_trans}
use Rattle.auth_io.proofs.Passing.{AddsAsked_trans, AddsAsked_none}
use Rattle.auth_io.specs.Files.{Contents, AddsAsked, read_entry, contents_after}
use Rattle.auth_io.specs.declared.files.Ending.{Ending}
use Rattle.request_deciding.specs.Findings.{behind_in}
use Rattle.request_deciding.specs.Laws.{behind_in-append, table_join, table_none}
use Rattle.request_deciding.specs.declared.events.Event.{Event}
use Rattle.origin_core.specs.Events.{ContentsPass, FaultsPass, IsSound, files_in}
use Rattle.origin_core.specs.Outside.{FilesState, Outside, FilesPassed, Passed}
use Rattle.origin_core.specs.declared.events.FileEvent.{FileEvent}
use Rattle.origin_core.specs.declared.events.FileEvent.TheVariants.{FileRead, FileReplaced}

-- ---- files

pub files_in-append : (xs ys : List FileEvent) → files_in (xs ++ ys) ≡ files_in xs ++ files_in ys
files_in-append [] ys = refl
files_in-append (FileRead name answer ∷ xs) ys =
    ap (λ (l : List (List ℕ × Ending)). read_entry name answer ++ l) (files_in-append xs ys) ∙ sym
    (append_assoc (read_entry name answer) (files_in xs) (files_in ys))
files_in-append (FileReplaced name bytes ending ∷ xs) ys = ap (λ (l : List (List ℕ × Ending)). (name, ending) ∷ l) (files_in-append xs ys)

contents_pass_then : (xs ys : List FileEvent) (a b c : Option Contents) → ContentsPass xs a b → ContentsPass ys b c
    → ContentsPass (xs ++ ys) a c
contents_pass_then [] ys a b c p q = subst (λ (m : Option Contents). ContentsPass ys m c) p q
contents_pass_then (FileRead name answer ∷ xs) ys a b c p q = (p.0, contents_pass_then xs ys a b c p.1 q)
contents_pass_then (FileReplaced name bytes ending ∷ xs) ys a b c p q =
    contents_pass_then xs ys (contents_after a name bytes ending) b c p q

faults_pass_then : (xs ys : List FileEvent) (a b c : ℕ) → FaultsPass xs a b → FaultsPass ys b c → FaultsPass (xs ++ ys) a c
faults_pass_then [] ys a b c p q = subst (λ (n : ℕ). FaultsPass ys n c) p q
faults_pass_then (FileRead name answer ∷ xs) ys a b c p q = (p.0, p.1, faults_pass_then xs ys p.0 b c p.2 q)
faults_pass_then (FileReplaced name bytes ending ∷ xs) ys a b c p q = (p.0, p.1, faults_pass_then xs ys p.0 b c p.2 q)

pub files_none : (u : FilesState) → FilesPassed u u []
files_none u =
    record { sound = All-nil IsSound; contents = refl; asked = AddsAsked_none u.asked; faults = refl; later = later_none u.faults }

pub files_then : (u v w : FilesState) (xs ys : List FileEvent) → FilesPassed u v xs → FilesPassed v w ys → FilesPassed u w (xs ++ ys)
files_then u v w xs ys p q = record {
  sound = All-append IsSound xs ys p.sound q.sound;
  contents = contents_pass_then xs ys u.contents v.contents w.contents p.contents q.contents;
  asked = subst (λ (l : List (List ℕ × Ending)). AddsAsked u.asked w.asked l) (sym (files_in-append xs ys))
      (AddsAsked_trans u.asked v.asked w.asked (files_in xs) (files_in ys) p.asked q.asked);
  faults = faults_pass_then xs ys u.faults v.faults w.faults p.faults q.faults;
  later = later_trans u.faults v.faults w.faults p.later q.later;
}

-- ---- the whole

pub passed_none : (u : Outside) → Passed u u []
passed_none u = record { files = files_none u.files; table = table_none u.table }

pub passed_then : (u v w : Outside) (xs ys : List (Event FileEvent)) → Passed u v xs → Passed v w ys → Passed u w (xs ++ ys)
passed_then u v w xs ys p q = record {
  files = subst (λ (l : List FileEvent). FilesPassed u.files w.files l) (sym (behind_in-append xs ys))
      (files_then u.files v.files w.files (behind_in xs) (behind_in ys) p.files q.files);
  table = table_join u.table v.table w.table xs ys p.table q.table;
}

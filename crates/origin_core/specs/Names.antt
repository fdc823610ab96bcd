-- The file that a path names.
use Rattle.std.specs.Prelude.{ℕ, Bool, ◌==◌, ◌&&◌, ◌||◌, ◌-◌, not, nat_le, bytes_eq, length, slice_index, if◌then◌else◌, List, [], ◌∷◌, ◌++◌, Option, Some, None, codes}
use Rattle.std.specs.List.{list_all, slice_split}

-- a byte that a file's name may have: one of 21 to 7E (hexadecimal) other than `%` and the backslash
abbrev pub is_name_byte : ℕ → Bool
is_name_byte b = (nat_le 33 b && nat_le b 126) && (not (b == 37) && not (b == 92))

-- a segment that stays in its folder
abbrev pub is_segment : List ℕ → Bool
is_segment segment = not (bytes_eq segment []) && (not (bytes_eq segment (codes ".")) && not (bytes_eq segment (codes "..")))

-- a name below the root: segments with a slash between each two
abbrev pub is_file_name : List ℕ → Bool
is_file_name name = list_all is_name_byte name && list_all is_segment (slice_split (λ b. b == 47) name)

-- whether nothing stands in the last segment
abbrev pub is_folder : List ℕ → Bool
is_folder name = length name == 0 || slice_index name (length name - 1) == 47

-- a folder is read by its index
abbrev pub with_index : Bool → List ℕ → List ℕ
with_index reads name = if reads && is_folder name then name ++ codes "index.html" else name

abbrev pub below_root : List ℕ → List ℕ → Option (List ℕ)
below_root root name = if is_file_name name then Some (root ++ 47 ∷ name) else None

-- the name of the file that a path names, for a method that reads or for one that replaces
unfoldable pub file_name : List ℕ → Bool → List ℕ → Option (List ℕ)
file_name root reads [] = None
file_name root reads (b ∷ path) = if b == 47 then below_root root (with_index reads path) else None

-- Names as they stand in texts at rest, of users and of realms, and passwords.
use Rattle.std.specs.Prelude.{ℕ, Bool, ◌==◌, ◌&&◌, not, nat_le, List, length}
use Rattle.std.specs.List.{list_all}
use Rattle.auth_grammar.specs.declared.plain.TheConstants.{NAME_LIMIT, PASSWORD_LIMIT}

-- a byte of printable ASCII (20 to 7E, hexadecimal)
abbrev pub is_printable : ℕ → Bool
is_printable b = nat_le 32 b && nat_le b 126

-- a printable byte other than the colon that stands between the parts of a line
abbrev pub is_plain_byte : ℕ → Bool
is_plain_byte b = is_printable b && not (b == 58)

-- 1 to 64 of these bytes
abbrev pub is_plain_name : List ℕ → Bool
is_plain_name name = (nat_le 1 (length name) && nat_le (length name) NAME_LIMIT) && list_all is_plain_byte name

-- 1 to 128 printable bytes
abbrev pub is_password : List ℕ → Bool
is_password text = (nat_le 1 (length text) && nat_le (length text) PASSWORD_LIMIT) && list_all is_printable text

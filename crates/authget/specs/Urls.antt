-- URLs and authorities (RFC 9110 section 4.2.1).
use Rattle.std.specs.Prelude.{ℕ, Bool, ◌==◌, ◌&&◌, not, nat_lt, nat_eq, if◌then◌else◌, List, length, drop, codes}
use Rattle.std.specs.List.{before_first, list_all, list_any, position_or_len, starts_with}
use Rattle.auth_grammar.specs.Numbers.{is_between}
use Rattle.auth_io.specs.Addresses.{is_address, is_host}

-- ---- authorities

-- a host, and a port where there is a colon
abbrev pub is_authority : List ℕ → Bool
is_authority text = if list_any (λ b. b == 58) text then is_address text else is_host text

-- ---- URLs

-- what stands behind `http://`
abbrev pub behind_scheme : List ℕ → List ℕ
behind_scheme url = drop 7 url

-- what stands there before the first `/`
abbrev pub authority_of : List ℕ → List ℕ
authority_of url = before_first (λ b. b == 47) (behind_scheme url)

-- and from that `/` on
abbrev pub path_of : List ℕ → List ℕ
path_of url = drop (position_or_len (λ b. b == 47) (behind_scheme url)) (behind_scheme url)

-- a byte from 21 to 7E, hexadecimal, other than `#`
abbrev pub is_path_byte : ℕ → Bool
is_path_byte b = is_between 33 126 b && not (b == 35)

abbrev pub is_path : List ℕ → Bool
is_path path = nat_lt 0 (length path) && list_all is_path_byte path

-- `http://`, an authority, and a path with whatever stands behind it
abbrev pub is_url : List ℕ → Bool
is_url url = starts_with nat_eq url (codes "http://") && is_authority (authority_of url) && is_path (path_of url)

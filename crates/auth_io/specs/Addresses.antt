-- Addresses: a host and a port (RFC 9110 section 4.2).
use Rattle.std.specs.Prelude.{ℕ, Bool, ◌==◌, ◌&&◌, ◌||◌, nat_lt, is_some, List, length}
use Rattle.std.specs.List.{after_first, before_first, list_all}
use Rattle.auth_grammar.specs.Numbers.{is_between, number_in}

-- a letter, a digit, `.` or `-`
abbrev pub is_host_byte : ℕ → Bool
is_host_byte b = is_between 65 90 b || is_between 97 122 b || is_between 48 57 b || (b == 46) || (b == 45)

-- one or more of these
abbrev pub is_host : List ℕ → Bool
is_host host = nat_lt 0 (length host) && list_all is_host_byte host

-- a number from 1 to 65535, with no leading zero
abbrev pub is_port : List ℕ → Bool
is_port port = is_some (number_in 1 65535 port)

-- a host, a colon, and a port
abbrev pub is_address : List ℕ → Bool
is_address text = is_host (before_first (λ b. b == 58) text) && is_port (after_first (λ b. b == 58) text)

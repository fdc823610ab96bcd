-- What the words of the command line ask for.
use Rattle.std.specs.Prelude.{ℕ, Bool, false, ◌==◌, ◌&&◌, not, nat_le, nat_lt, nat_eq, bytes_eq, if◌then◌else◌, List, [], ◌∷◌, length, drop, filter, Option, Some, None, codes}
use Rattle.std.specs.List.{list_all, starts_with}
use Rattle.auth_io.specs.Addresses.{is_address}
use Rattle.authget.specs.Urls.{authority_of, is_url}
use Rattle.authget.specs.declared.plan.Plan.{Plan}

-- an option begins with `-`
abbrev pub is_option : List ℕ → Bool
is_option [] = false
is_option (b ∷ word) = b == 45

abbrev pub is_plain : List ℕ → Bool
is_plain word = not (is_option word)

-- the proxy that an option says, behind its first 8 bytes
abbrev pub proxy_in : List ℕ → Option (List ℕ)
proxy_in option = if starts_with nat_eq option (codes "--proxy=") && is_address (drop 8 option) then Some (drop 8 option) else None

-- a URL of that authority
abbrev pub is_of : List ℕ → List ℕ → Bool
is_of authority url = is_url url && bytes_eq (authority_of url) authority

-- 1 to 16 URLs, all of one authority
abbrev pub are_urls : List ℕ → List (List ℕ) → Bool
are_urls authority urls = (nat_lt 0 (length urls) && nat_le (length urls) 16) && list_all (is_of authority) urls

abbrev pub asked_with : Option (List ℕ) → List ℕ → List ℕ → List (List ℕ) → Option Plan
asked_with proxy name authority urls =
    if nat_lt 0 (length name) && are_urls authority urls
    then Some (record { proxy = proxy; name = name; authority = authority; urls = urls }) else None

-- a name, and URLs behind it, of which the first one says the authority
abbrev pub asked_plainly : Option (List ℕ) → List (List ℕ) → Option Plan
asked_plainly proxy (name ∷ url ∷ urls) = asked_with proxy name (authority_of url) (url ∷ urls)
asked_plainly proxy words = None

abbrev pub asked_by : Option (List ℕ) → List (List ℕ) → Option Plan
asked_by None words = None
asked_by (Some proxy) words = asked_plainly (Some proxy) words

-- No option, or one that says a proxy.
abbrev pub with_options : List (List ℕ) → List (List ℕ) → Option Plan
with_options [] words = asked_plainly None words
with_options (option ∷ []) words = asked_by (proxy_in option) words
with_options options words = None

-- What the words ask for, or nothing that the program knows. An option may stand at any place.
abbrev pub asked_for : List (List ℕ) → Option Plan
asked_for words = with_options (filter is_option words) (filter is_plain words)

-- The kinds of byte that the grammar tells apart.
use Rattle.std.specs.Prelude.{ℕ, ◌==◌, Bool, true, false, nat_lt, nat_le, ◌||◌, ◌&&◌, if◌then◌else◌}
use Rattle.auth_grammar.specs.declared.kinds.Kind.{Kind}
use Rattle.auth_grammar.specs.declared.kinds.Kind.TheVariants.{Comma, Space, Tab, Equals, Quote, Backslash, Slash, Plain, Mark, Quotable, Control}

-- letters, digits and -._~+
unfoldable pub is_plain_byte : ℕ → Bool
is_plain_byte b =
    ((nat_le 97 b && nat_le b 122) || (nat_le 65 b && nat_le b 90) || (nat_le 48 b && nat_le b 57)) || b == 45 || b == 46
    || b == 95 || b == 126 || b == 43

-- !#$%&'*^`|
unfoldable pub is_mark_byte : ℕ → Bool
is_mark_byte b = b == 33 || b == 35 || b == 36 || b == 37 || b == 38 || b == 39 || b == 42 || b == 94 || b == 96 || b == 124

-- the kind of a byte
unfoldable pub kind_of : ℕ → Kind
kind_of b =
    if b == 44 then Comma else
    if b == 32 then Space else
    if b == 9 then Tab else
    if b == 61 then Equals else
    if b == 34 then Quote else
    if b == 92 then Backslash else
    if b == 47 then Slash else
    if is_plain_byte b then Plain else
    if is_mark_byte b then Mark else
    if nat_lt b 32 || b == 127 then Control else Quotable

-- stands in a token and in a token68
abbrev pub is_plain : Kind → Bool
is_plain Plain = true
is_plain _ = false

-- stands in a token (RFC 9110 section 5.6.2)
abbrev pub is_token : Kind → Bool
is_token Plain = true
is_token Mark = true
is_token _ = false

-- stands in a token68 before its `=` (RFC 9110 section 11.2)
abbrev pub is_token68 : Kind → Bool
is_token68 Plain = true
is_token68 Slash = true
is_token68 _ = false

-- optional white space (RFC 9110 section 5.6.3)
abbrev pub is_white : Kind → Bool
is_white Space = true
is_white Tab = true
is_white _ = false

-- a space
abbrev pub is_space : Kind → Bool
is_space Space = true
is_space _ = false

-- a tab
abbrev pub is_tab : Kind → Bool
is_tab Tab = true
is_tab _ = false

-- `=`
abbrev pub is_equals : Kind → Bool
is_equals Equals = true
is_equals _ = false

-- a double quote
abbrev pub is_quote : Kind → Bool
is_quote Quote = true
is_quote _ = false

-- a backslash
abbrev pub is_backslash : Kind → Bool
is_backslash Backslash = true
is_backslash _ = false

-- a comma
abbrev pub is_comma : Kind → Bool
is_comma Comma = true
is_comma _ = false

-- may stand after a backslash in a quoted string, and so may be meant by one (RFC 9110 section 5.6.4)
abbrev pub is_escapable : Kind → Bool
is_escapable Control = false
is_escapable _ = true

-- stands for itself in a quoted string
abbrev pub is_quotable : Kind → Bool
is_quotable Control = false
is_quotable Quote = false
is_quotable Backslash = false
is_quotable _ = true

-- The text of a request (RFC 9112 section 3).
use Rattle.std.specs.Prelude.{ℕ, true, not, ◌&&◌, List, [], ◌++◌, length, if◌then◌else◌, ◌==◌, bytes_eq, codes}
use Rattle.std.specs.List.{flat_map}
use Rattle.http_wire.specs.declared.pair.Pair.{Pair}
use Rattle.http_wire.specs.FieldLines.{crlf, pair_line, length_line, close_line}

-- `GET / HTTP/1.1`
unfoldable pub request_line : List ℕ → List ℕ → List ℕ
request_line method target = method ++ codes " " ++ target ++ codes " HTTP/1.1\r\n"

-- `Host: example.org`
unfoldable pub host_line : List ℕ → List ℕ
host_line host = codes "Host: " ++ host ++ crlf

-- the length, where there is a body or the method is one that sends bodies
unfoldable pub request_length_line : List ℕ → ℕ → List ℕ
request_length_line method count = if count == 0 && not (bytes_eq method (codes "PUT")) then [] else length_line count

-- the text of a request on a connection that closes after it
unfoldable pub request_text : List ℕ → List ℕ → List ℕ → List Pair → List ℕ → List ℕ
request_text method target host lines body =
    request_line method target ++ host_line host ++ flat_map pair_line lines
    ++ request_length_line method (length body) ++ close_line true ++ crlf ++ body

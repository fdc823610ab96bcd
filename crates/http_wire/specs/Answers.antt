-- The text of a reply.
use Rattle.std.specs.Prelude.{ℕ, ◌||◌, List, [], ◌++◌, length, if◌then◌else◌, ◌==◌, nat_lt, codes, decimal}
use Rattle.std.specs.List.{flat_map}
use Rattle.http_wire.specs.FieldLines.{crlf, pair_line, length_line, close_line}
use Rattle.http_wire.specs.Dates.{date_of}
use Rattle.http_wire.specs.declared.answer.Answer.{Answer}

-- the interim reply that asks for a body
abbrev pub continue_text : List ℕ
continue_text = codes "HTTP/1.1 100 Continue\r\n\r\n"

-- a status in words, for those that are sent here
unfoldable pub phrase_of : ℕ → List ℕ
phrase_of status =
    if status == 200 then codes "OK"
    else if status == 204 then codes "No Content"
    else if status == 400 then codes "Bad Request"
    else if status == 401 then codes "Unauthorized"
    else if status == 403 then codes "Forbidden"
    else if status == 404 then codes "Not Found"
    else if status == 405 then codes "Method Not Allowed"
    else if status == 407 then codes "Proxy Authentication Required"
    else if status == 411 then codes "Length Required"
    else if status == 413 then codes "Content Too Large"
    else if status == 417 then codes "Expectation Failed"
    else if status == 431 then codes "Request Header Fields Too Large"
    else if status == 500 then codes "Internal Server Error"
    else if status == 501 then codes "Not Implemented"
    else if status == 502 then codes "Bad Gateway"
    else []

-- the body that tells a status
abbrev pub status_body : ℕ → List ℕ
status_body status = phrase_of status ++ codes "\n"

-- `HTTP/1.1 200 OK`
unfoldable pub status_line : ℕ → List ℕ
status_line status = codes "HTTP/1.1 " ++ decimal status ++ codes " " ++ phrase_of status ++ crlf

-- the date, where the moment lies before the year 10000
unfoldable pub date_line : ℕ → List ℕ
date_line moment = if nat_lt moment 253402300800 then codes "Date: " ++ date_of moment ++ crlf else []

-- how many bytes the body has, where the status allows one (RFC 9110 section 8.6)
unfoldable pub answer_length_line : ℕ → ℕ → List ℕ
answer_length_line status count = if status == 204 || status == 304 then [] else length_line count

-- the body, which a reply to HEAD lacks
abbrev pub body_of : Answer → List ℕ
body_of a = if a.to_head then [] else a.body

-- the text of a reply
unfoldable pub answer_text : Answer → List ℕ
answer_text a =
    status_line a.status ++ date_line a.moment ++ flat_map pair_line a.lines
    ++ answer_length_line a.status (length a.body) ++ close_line a.close ++ crlf ++ body_of a

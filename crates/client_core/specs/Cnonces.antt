-- The client's nonce (RFC 7616 section 3.4: cnonce).
use Rattle.std.specs.Prelude.{ℕ, List, Option, unwrap_or, if◌then◌else◌}
use Rattle.base64.specs.Engines.{standard}
use Rattle.base64.specs.GeneralPurpose.{encode_of}
use Rattle.client_core.specs.declared.state.DigestChoice.{DigestChoice}

-- the base64 of random words
abbrev pub words_text : List ℕ → List ℕ
words_text words = encode_of standard words

-- the cnonce of the next request: that of the words, but in a session the first that was sent
abbrev pub cnonce_of : DigestChoice → List ℕ → List ℕ
cnonce_of choice words = if choice.challenge.kind.session then unwrap_or choice.prime (words_text words) else words_text words

-- Credentials of SCRAM-SHA-256 (RFC 7804 section 5, RFC 5802 sections 3 and 7).
use Rattle.std.specs.Prelude.{ℕ, ◌+◌, ◌-◌, ◌^◌, nat_lt, List, [], ◌∷◌, ◌++◌, codes, decimal, Option, Some, None, Bool, ◌&&◌}
use Rattle.auth_grammar.specs.declared.items.Item.{Item}
use Rattle.auth_grammar.specs.declared.items.Param.{Param}
use Rattle.auth_grammar.specs.Params.{param}
pub use Rattle.scram_text.specs.Bytes.{base64_text}
use Rattle.scram_text.specs.ClientFinals.{client_final_text, without_text}
use Rattle.scram_text.specs.ClientFirsts.{bare_text}
use Rattle.scram_text.specs.Items.{data_param, scram_item}
use Rattle.scram_text.specs.declared.flag.Flag.TheVariants.{N}
use Rattle.scram_proof.specs.Exchange.{auth_message, proof_of}
use Rattle.client_core.specs.declared.state.Exchange.{Exchange}
use Rattle.client_core.specs.declared.state.Reuse.{Reuse}
use Rattle.client_core.specs.Cnonces.{words_text}
use Rattle.client_core.specs.Counts.{Drawn, count_of}

-- ---- the first message

-- the client's first message behind its flag, whose nonce is the base64 of the words
abbrev pub first_bare : List ℕ → List ℕ → List ℕ
first_bare name words = bare_text name (words_text words)

-- the realm that the challenge had
abbrev pub realm_params : Option (List ℕ) → List Param
realm_params None = []
realm_params (Some realm) = param (codes "realm") realm ∷ []

abbrev pub first_item : Option (List ℕ) → List ℕ → Item
first_item realm bare = scram_item (realm_params realm ++ data_param (codes "n,," ++ bare) ∷ [])

-- ---- the final message

-- what the proofs of an exchange are over, where this is the nonce of the final message
abbrev pub message_of : Exchange → List ℕ → List ℕ
message_of x nonce = auth_message x.bare x.first (without_text N nonce)

abbrev pub final_text : Exchange → List ℕ → List ℕ
final_text x nonce = client_final_text (without_text N nonce) (proof_of x.salted (message_of x nonce))

abbrev pub final_item : Exchange → List ℕ → Item
final_item x nonce = scram_item (param (codes "sid") x.sid ∷ data_param (final_text x nonce) ∷ [])

-- ---- using an exchange again

-- the base64 of the words, the count in decimal digits, and the `sr`
abbrev pub again_nonce : List ℕ → ℕ → List ℕ → List ℕ
again_nonce sr count words = words_text words ++ decimal count ++ sr

-- the `sr` is still good, and has a count left
abbrev pub can_reuse : Drawn → Reuse → ℕ → Bool
can_reuse drawn reuse moment = nat_lt moment (reuse.since + reuse.ttl) && nat_lt (count_of drawn reuse.sr) (2 ^ 32 - 1)

-- What a response means to an exchange of SCRAM-SHA-256 (RFC 7804 section 5, RFC 5802 section 5).
use Rattle.std.specs.Prelude.{◌≡◌, ℕ, ◌==◌, nat_eq, nat_le, nat_lt, List, [], ◌∷◌, length, codes, bytes_eq, Option, Some, None, is_some, Bool, false, ◌&&◌, if◌then◌else◌}
use Rattle.std.specs.Char.{is_ascii_digit}
use Rattle.std.specs.List.{list_all, starts_with}
use Rattle.std.specs.Str.Parse.{digits_value}
use Rattle.auth_grammar.specs.Names.{params_of, same_name, value_of}
use Rattle.auth_grammar.specs.declared.items.Item.{Item}
use Rattle.auth_grammar.specs.declared.items.Param.{Param}
use Rattle.scram_proof.specs.declared.keys.TheConstants.{LEAST_ITERATIONS, MOST_ITERATIONS}
use Rattle.scram_proof.specs.Exchange.{signature_of}
use Rattle.scram_proof.specs.Keys.{salted_password, server_key}
use Rattle.scram_text.specs.Bytes.{is_symbol}
use Rattle.scram_text.specs.declared.reauth.TheConstants.{SR_LENGTH}
use Rattle.scram_text.specs.declared.server_final.ServerFinal.{ServerFinal}
use Rattle.scram_text.specs.declared.server_final.ServerFinal.TheVariants.{Signature, Fault}
use Rattle.scram_text.specs.declared.server_first.ServerFirst.{ServerFirst}
use Rattle.client_core.specs.declared.conclusion.Conclusion.{Conclusion}
use Rattle.client_core.specs.declared.hearing.Heard.{Heard}
use Rattle.client_core.specs.declared.hearing.Heard.TheVariants as heard
use Rattle.client_core.specs.declared.outcome.Outcome.TheVariants.{Mutual, OneWay, Retry, Refused, WrongProof, Malformed}
use Rattle.client_core.specs.declared.state.Change.{Change}
use Rattle.client_core.specs.declared.state.Change.TheVariants.{Keep, Answer, Replace, Forget, Pass, Finish, Fail}
use Rattle.client_core.specs.declared.state.Exchange.{Exchange}
use Rattle.client_core.specs.declared.state.First.{First}
use Rattle.client_core.specs.declared.state.Progress.{Progress}
use Rattle.client_core.specs.declared.state.Progress.TheVariants.{Nothing, Begun, Answered, Finished}
use Rattle.client_core.specs.declared.state.Reuse.{Reuse}
use Rattle.client_core.specs.declared.state.State.{State}
use Rattle.client_core.specs.declared.state.User.{User}
use Rattle.client_core.specs.Outcomes.{conclusion, malformed, refusal, wrong}
use Rattle.client_core.specs.Scrams.{message_of}

-- ---- using an exchange again

-- as many base64 characters as an `sr` has
abbrev pub is_sr : List ℕ → Bool
is_sr text = (length text == SR_LENGTH) && list_all is_symbol text

-- one to nine digits, which write no more than nine digits do
abbrev pub is_ttl : List ℕ → Bool
is_ttl text = (nat_lt 0 (length text) && nat_le (length text) 9) && list_all is_ascii_digit text && nat_le (digits_value 10 text) 999999999

abbrev pub reuse_with : ℕ → List ℕ → List ℕ → Option Reuse
reuse_with moment sr ttl = if is_sr sr && is_ttl ttl then Some (record { sr = sr; since = moment; ttl = digits_value 10 ttl }) else None

abbrev pub reuse_in : ℕ → Option (List ℕ) → Option (List ℕ) → Option Reuse
reuse_in moment (Some sr) (Some ttl) = reuse_with moment sr ttl
reuse_in moment (Some sr) None = None
reuse_in moment None ttl = None

-- what an item gives to use an exchange again with, at this moment
abbrev pub reuse_of : ℕ → List Param → Option Reuse
reuse_of moment params = reuse_in moment (value_of (codes "sr") params) (value_of (codes "ttl") params)

-- ---- a challenge in answer to the client's first message

-- the server's nonce goes on where the client's ends, and the iteration count is one that a client makes
abbrev pub follows : List ℕ → ServerFirst → Bool
follows nonce message =
    (nat_lt (length nonce) (length message.nonce) && starts_with nat_eq message.nonce nonce)
    && (nat_le LEAST_ITERATIONS message.i && nat_le message.i MOST_ITERATIONS)

abbrev pub exchange_of : User → First → List ℕ → ServerFirst → Exchange
exchange_of user first sid message = record {
  sid = sid;
  bare = first.bare;
  first = message.text;
  nonce = message.nonce;
  salted = salted_password user.password message.salt message.i;
}

abbrev pub answering : User → First → List ℕ → Heard → Conclusion
answering user first sid (heard.First message) =
    if follows first.nonce message then conclusion Retry (Answer (exchange_of user first sid message)) else malformed
answering user first sid heard.Nothing = malformed
answering user first sid (heard.Final message) = malformed

abbrev pub after_begun : User → List ℕ → Heard → Progress → Conclusion
after_begun user sid told (Begun first) = answering user first sid told
after_begun user sid told Nothing = refusal
after_begun user sid told (Answered x) = refusal
after_begun user sid told (Finished x nonce) = refusal

abbrev pub after_first : State → Option (List ℕ × List ℕ) → Heard → Conclusion
after_first s None told = refusal
after_first s (Some found) told = after_begun s.user found.0 told s.progress

-- ---- a challenge in answer to an exchange that was used again

abbrev pub is_of_scram : Item → Bool
is_of_scram item = same_name item.scheme (codes "SCRAM-SHA-256")

-- the first item of SCRAM-SHA-256 begins another exchange
abbrev pub after_again : ℕ → Option Item → Conclusion
after_again moment None = refusal
after_again moment (Some item) = conclusion Retry (Replace (reuse_of moment (params_of item.rest)))

-- ---- a response that is no challenge

-- ServerSignature of an exchange with this nonce (RFC 5802 section 3)
abbrev pub signature_for : Exchange → List ℕ → List ℕ
signature_for x nonce = signature_of (server_key x.salted) (message_of x nonce)

abbrev pub is_signature : ServerFinal → List ℕ → Bool
is_signature (Signature signature) right = bytes_eq signature right
is_signature (Fault error) right = false

-- the server's last message is the signature of this exchange
abbrev pub is_signed : Heard → Exchange → List ℕ → Bool
is_signed (heard.Final message) x nonce = is_signature message (signature_for x nonce)
is_signed heard.Nothing x nonce = false
is_signed (heard.First message) x nonce = false

-- whether there is a message of the server
abbrev pub has_message : List Param → Bool
has_message params = is_some (value_of (codes "data") params)

-- what it says where it is there: that the server proved itself, or that it didn't
abbrev pub signed_told : Bool → Change → Change → Bool → Conclusion
signed_told there absent proved signed = if there then (if signed then conclusion Mutual proved else wrong) else conclusion OneWay absent

abbrev pub final_signed : Heard → Progress → Bool
final_signed told (Answered x) = is_signed told x x.nonce
final_signed told Nothing = false
final_signed told (Begun first) = false
final_signed told (Finished x nonce) = false

abbrev pub again_signed : Heard → Progress → Bool
again_signed told (Finished x nonce) = is_signed told x nonce
again_signed told Nothing = false
again_signed told (Begun first) = false
again_signed told (Answered x) = false

abbrev pub final_told : State → List Param → Heard → Conclusion
final_told s params told = signed_told (has_message params) Fail Finish (final_signed told s.progress)

abbrev pub again_told : State → List Param → Heard → Conclusion
again_told s params told = signed_told (has_message params) Pass Pass (again_signed told s.progress)

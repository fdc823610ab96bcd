-- What the fields of a response say.
use Rattle.std.proofs.Common.{◌≡◌, ◌≢◌, ◌↔◌, ℕ, Bool, true, false, List, [], ◌∷◌, refl, sym, ◌∙◌, subst, IsTrue, true≢false}
use Rattle.std.specs.Prelude.{Result, Ok, Err, IfOk}
use Rattle.std.specs.List.{join_with_byte}
use Rattle.auth_grammar.specs.Answers.{AnswersParams}
use Rattle.auth_grammar.specs.RoleFields.{challenge_name, info_name}
use Rattle.auth_grammar.specs.declared.error.GrammarError.{GrammarError}
use Rattle.auth_grammar.specs.declared.items.Param.{Param}
use Rattle.auth_grammar.specs.declared.items.Role.{Role}
use Rattle.auth_grammar.specs.declared.octets.OutOfMemory.{OutOfMemory}
use Rattle.http_wire.specs.declared.response.Response.{Response}
use Rattle.client_core.specs.declared.reading.Said.{Said}
use Rattle.client_core.specs.declared.reading.Said.TheVariants.{Info, Nothing}
use Rattle.client_core.specs.declared.request.Sent.{Sent}
use Rattle.client_core.specs.Readings.{Says, SaysInfo, SaysItems, SpellsInfo, challenge_status, is_provable, lines_of}

-- ---- parameters that were read

spells : (text : List ℕ) (params : List Param) → AnswersParams text (Ok params) → SpellsInfo text params
spells text params h = record { spelled = h.spelled; only = h.only; single = h.single; valid = h.valid }

pub info_says : (lines : List (List ℕ)) (params : List Param) (answer : Result (List Param) GrammarError) (empty : Bool)
    → empty ≡ false → (IsTrue empty ↔ (lines ≡ [])) → AnswersParams (join_with_byte 44 lines) answer → answer ≡ Ok params → SaysInfo lines (Info params)
info_says [] params answer empty is decides h got = absurd (true≢false (sym (decides.1 refl) ∙ is))
info_says (line ∷ lines) params answer empty is decides h got =
    spells (join_with_byte 44 (line ∷ lines)) params (subst (λ (r : Result (List Param) GrammarError). AnswersParams (join_with_byte 44 (line ∷ lines)) r) got h)

-- ---- the three cases

pub challenge_says : (role : Role) (what : Sent) (response : Response) (read : Result Said OutOfMemory) → response.status ≡ challenge_status role
    → IfOk read (λ said. SaysItems (join_with_byte 44 (lines_of response (challenge_name role))) said) → IfOk read (λ said. Says role what response said)
challenge_says role what response (Err error) is h = tt
challenge_says role what response (Ok said) is h = record { challenge = λ e. h; proof = λ differs provable. absurd (differs is); other = λ differs provable. absurd (differs is) }

pub proof_says : (role : Role) (what : Sent) (response : Response) (read : Result Said OutOfMemory) → response.status ≢ challenge_status role → is_provable what ≡ true
    → IfOk read (λ said. SaysInfo (lines_of response (info_name role)) said) → IfOk read (λ said. Says role what response said)
proof_says role what response (Err error) differs is h = tt
proof_says role what response (Ok said) differs is h = record { challenge = λ e. absurd (differs e); proof = λ e provable. h; other = λ e not. absurd (true≢false (sym is ∙ not)) }

pub other_says : (role : Role) (what : Sent) (response : Response) → response.status ≢ challenge_status role → is_provable what ≡ false → Says role what response Nothing
other_says role what response differs is = record { challenge = λ e. absurd (differs e); proof = λ e provable. absurd (true≢false (sym provable ∙ is)); other = λ e not. refl }

use Rattle.std.proofs.Common.{refl}
use Rattle.auth_grammar.proofs.turns.turn_behind.Goals as goal

pub returns-in-Start : goal.returns-in-Start
returns-in-Start c = rw c.in-Start.is (λ behind params schemes. absurd (behind refl))

pub returns-in-Word : goal.returns-in-Word
returns-in-Word c = rw c.in-Word.is (λ behind params schemes. c.at_word.ensures params schemes)

pub returns-in-WordSpace : goal.returns-in-WordSpace
returns-in-WordSpace c = rw c.in-WordSpace.is (λ behind params schemes. c.at_word_space.ensures params schemes)

pub returns-in-WordWhite : goal.returns-in-WordWhite
returns-in-WordWhite c = rw c.in-WordWhite.is (λ behind params schemes. c.at_word_white.ensures params schemes)

pub returns-in-Scheme : goal.returns-in-Scheme
returns-in-Scheme c = rw c.in-Scheme.is (λ behind params schemes. c.at_scheme.ensures params schemes)

pub returns-in-SchemeSpace : goal.returns-in-SchemeSpace
returns-in-SchemeSpace c = rw c.in-SchemeSpace.is (λ behind params schemes. c.at_scheme_space.ensures params schemes)

pub returns-in-SchemeWhite : goal.returns-in-SchemeWhite
returns-in-SchemeWhite c = rw c.in-SchemeWhite.is (λ behind params schemes. c.at_scheme_white.ensures params schemes)

pub returns-in-Second : goal.returns-in-Second
returns-in-Second c = rw c.in-Second.is (λ behind params schemes. c.at_second.ensures params schemes)

pub returns-in-SecondWhite : goal.returns-in-SecondWhite
returns-in-SecondWhite c = rw c.in-SecondWhite.is (λ behind params schemes. c.at_second_white.ensures params schemes)

pub returns-in-SecondEquals : goal.returns-in-SecondEquals
returns-in-SecondEquals c = rw c.in-SecondEquals.is (λ behind params schemes. c.at_second_equals.ensures params schemes)

pub returns-in-SecondEqualsWhite : goal.returns-in-SecondEqualsWhite
returns-in-SecondEqualsWhite c = rw c.in-SecondEqualsWhite.is (λ behind params schemes. c.at_second_equals_white.ensures params schemes)

pub returns-in-Token68 : goal.returns-in-Token68
returns-in-Token68 c = rw c.in-Token68.is (λ behind params schemes. c.at_token68.ensures params schemes)

pub returns-in-Padding : goal.returns-in-Padding
returns-in-Padding c = rw c.in-Padding.is (λ behind params schemes. c.at_padding.ensures params schemes)

pub returns-in-Token68White : goal.returns-in-Token68White
returns-in-Token68White c = rw c.in-Token68White.is (λ behind params schemes. c.at_token68_white.ensures params schemes)

pub returns-in-Name : goal.returns-in-Name
returns-in-Name c = rw c.in-Name.is (λ behind params schemes. c.at_name.ensures params schemes)

pub returns-in-NameWhite : goal.returns-in-NameWhite
returns-in-NameWhite c = rw c.in-NameWhite.is (λ behind params schemes. c.at_name_white.ensures params schemes)

pub returns-in-Equals : goal.returns-in-Equals
returns-in-Equals c = rw c.in-Equals.is (λ behind params schemes. c.at_equals.ensures params schemes)

pub returns-in-Value : goal.returns-in-Value
returns-in-Value c = rw c.in-Value.is (λ behind params schemes. c.at_value.ensures params schemes)

pub returns-in-Token : goal.returns-in-Token
returns-in-Token c = rw c.in-Token.is (λ behind params schemes. c.at_token.ensures params schemes)

pub returns-in-Loose : goal.returns-in-Loose
returns-in-Loose c = rw c.in-Loose.is (λ behind params schemes. c.at_loose.ensures params schemes)

pub returns-in-LoosePadding : goal.returns-in-LoosePadding
returns-in-LoosePadding c = rw c.in-LoosePadding.is (λ behind params schemes. c.at_loose_padding.ensures params schemes)

pub returns-in-Quoted : goal.returns-in-Quoted
returns-in-Quoted c = rw c.in-Quoted.is (λ behind params schemes. c.at_quoted.ensures params schemes)

pub returns-in-Escaped : goal.returns-in-Escaped
returns-in-Escaped c = rw c.in-Escaped.is (λ behind params schemes. c.at_escaped.ensures params schemes)

pub returns-in-ValueWhite : goal.returns-in-ValueWhite
returns-in-ValueWhite c = rw c.in-ValueWhite.is (λ behind params schemes. c.at_value_white.ensures params schemes)

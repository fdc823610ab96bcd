-- Conclusions that come in several cases.
use Rattle.client_core.specs.declared.conclusion.Conclusion.{Conclusion}
use Rattle.client_core.specs.declared.outcome.Outcome.{Outcome}
use Rattle.client_core.specs.declared.outcome.Outcome.TheVariants.{Malformed, Refused, WrongProof}
use Rattle.client_core.specs.declared.state.Change.{Change}
use Rattle.client_core.specs.declared.state.Change.TheVariants.{Keep, Forget, Fail}

abbrev pub conclusion : Outcome → Change → Conclusion
conclusion outcome change = record { outcome = outcome; change = change }

-- what was sent is refused
abbrev pub refusal : Conclusion
refusal = conclusion Refused Forget

-- the server's proof is wrong
abbrev pub wrong : Conclusion
wrong = conclusion WrongProof Fail

-- a value in a field is out of form
abbrev pub malformed : Conclusion
malformed = conclusion (Malformed 0) Keep

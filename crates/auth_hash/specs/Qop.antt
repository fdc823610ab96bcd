-- The quality of protection (RFC 7616 section 3.3).
use Rattle.std.specs.Prelude.{ℕ, List, codes}
use Rattle.auth_hash.specs.declared.algorithm.Qop.{Qop}
use Rattle.auth_hash.specs.declared.algorithm.Qop.TheVariants.{Auth, AuthInt}

-- how a quality of protection is written
abbrev pub qop_name : Qop → List ℕ
qop_name Auth = codes "auth"
qop_name AuthInt = codes "auth-int"

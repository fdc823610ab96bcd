-- A site with one user and one protection space.
use Rattle.std.specs.Prelude.{ℕ, List, [], ◌∷◌, codes, false, true}
use Rattle.auth_hash.specs.declared.algorithm.Algorithm.TheVariants.{Sha256}
use Rattle.cred_store.specs.Texts.{entry_at}
use Rattle.cred_store.specs.declared.entry.Secret.TheVariants as secret
use Rattle.digest_formulas.specs.Secrets.{secret_of}
use Rattle.spaces_map.specs.declared.space.Mode.TheVariants.{Required}
use Rattle.spaces_map.specs.declared.space.OfferKind.TheVariants as offer
use Rattle.spaces_map.specs.declared.space.Space.{Space}
use Rattle.auth_decide.specs.declared.site.Site.{Site}

-- `/ required SHA-256 drill`
abbrev pub space : Space
space = record {
  prefix = codes "/";
  mode = Required;
  offers = record { kind = offer.Digest Sha256 false; auth_int = false; userhash = false } ∷ [];
  realm = codes "drill";
  number = 0;
}

-- the secret of the user `u` with the password `p`
abbrev pub user_secret : List ℕ
user_secret = secret_of Sha256 (codes "u") (codes "drill") (codes "p")

abbrev pub the_site : Site
the_site = record {
  store = entry_at (codes "u") (codes "drill") (secret.Digest Sha256 user_secret) true ∷ [];
  spaces = space ∷ [];
  root = [];
}

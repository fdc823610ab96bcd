-- How a challenge is kept.
use Rattle.digest_fields.specs.declared.challenge.DigestChallenge.TheInside.{Inside}
use Rattle.digest_fields.specs.Challenge.{Challenge}

-- what the fields say
abbrev pub challenge_seen : Inside → Challenge
challenge_seen fields = record {
  realm = fields.realm;
  domain = fields.domain;
  nonce = fields.nonce;
  opaque = fields.opaque;
  stale = fields.stale;
  kind = fields.kind;
  auth = fields.auth;
  auth_int = fields.auth_int;
  userhash = fields.userhash;
}

-- the fields that say it
abbrev pub fields_of : Challenge → Inside
fields_of challenge = record {
  realm = challenge.realm;
  domain = challenge.domain;
  nonce = challenge.nonce;
  opaque = challenge.opaque;
  stale = challenge.stale;
  kind = challenge.kind;
  auth = challenge.auth;
  auth_int = challenge.auth_int;
  userhash = challenge.userhash;
}

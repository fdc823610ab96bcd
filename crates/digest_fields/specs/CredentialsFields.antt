-- How credentials are kept.
use Rattle.digest_fields.specs.declared.credentials.DigestCredentials.TheInside.{Inside}
use Rattle.digest_fields.specs.Credentials.{Credentials}

-- what the fields say
abbrev pub credentials_seen : Inside → Credentials
credentials_seen fields = record {
  user = fields.user;
  realm = fields.realm;
  nonce = fields.nonce;
  uri = fields.uri;
  response = fields.response;
  kind = fields.kind;
  cnonce = fields.cnonce;
  opaque = fields.opaque;
  qop = fields.qop;
  nc = fields.nc;
}

-- the fields that say it
abbrev pub fields_of : Credentials → Inside
fields_of credentials = record {
  user = credentials.user;
  realm = credentials.realm;
  nonce = credentials.nonce;
  uri = credentials.uri;
  response = credentials.response;
  kind = credentials.kind;
  cnonce = credentials.cnonce;
  opaque = credentials.opaque;
  qop = credentials.qop;
  nc = credentials.nc;
}

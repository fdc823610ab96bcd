-- How an Authentication-Info is kept.
use Rattle.digest_fields.specs.declared.info.DigestInfo.TheInside.{Inside}
use Rattle.digest_fields.specs.Info.{Info}

-- what the fields say
abbrev pub info_seen : Inside → Info
info_seen fields = record {
  nextnonce = fields.nextnonce;
  qop = fields.qop;
  rspauth = fields.rspauth;
  cnonce = fields.cnonce;
  nc = fields.nc;
}

-- the fields that say it
abbrev pub fields_of : Info → Inside
fields_of info = record {
  nextnonce = info.nextnonce;
  qop = info.qop;
  rspauth = info.rspauth;
  cnonce = info.cnonce;
  nc = info.nc;
}

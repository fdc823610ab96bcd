use Rattle.std.proofs.Common.{length, ap, arith, sym, ◌∙◌, subst}
use Rattle.sha2.proofs.Facts256.{length-sha256}
use Rattle.auth_hash.specs.Mac.{hmac}
use Rattle.base64.specs.GeneralPurpose.{IsBytes}
use Rattle.cred_store.proofs.entry.Secret.of_salted.Goals as goal

pub returns-clause-form : goal.returns-clause-form
unfolding hmac
returns-clause-form c = record {
  some_salt = omega (arith, ap length c.keys_of-keys.ensures.salt_is, c.requires.salt);
  short_salt = omega (arith, ap length c.keys_of-keys.ensures.salt_is, ap length c.as_slice.ensures.value, c.as_slice.ensures.fits);
  salt_bytes = subst IsBytes (c.as_slice.ensures.value ∙ sym c.keys_of-keys.ensures.salt_is) c.are_bytes.ensures;
  some_count = omega (arith, c.keys_of-keys.ensures.count_is, c.requires.count);
  count_fits = omega (arith, c.keys_of-keys.ensures.count_is, c.ranges.i);
  stored = record { long = ap length c.keys_of-keys.ensures.stored_is ∙ length-sha256 _; bytes = c.are_bytes-2.ensures };
  server = record { long = ap length c.keys_of-keys.ensures.server_is ∙ length-sha256 _; bytes = c.are_bytes-3.ensures };
}

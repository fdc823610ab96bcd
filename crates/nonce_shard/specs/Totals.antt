-- How many calls were answered, and how.
use Rattle.std.specs.Prelude.{Bool, true, false, List, length}
use Rattle.std.specs.List.{count_by}
use Rattle.nonce_shard.specs.declared.calls.Reply.{Reply}
use Rattle.nonce_shard.specs.declared.calls.Reply.TheVariants as replies
use Rattle.nonce_shard.specs.declared.history.Answered.{Answered}
use Rattle.nonce_shard.specs.declared.totals.Totals.{Totals}
use Rattle.nonce_shard.specs.Nonces.{nonces, is_fresh}

abbrev pub is_repeated : Reply → Bool
is_repeated replies.Repeated = true
is_repeated _ = false

-- the calls, the Issues, and the Uses that were answered Fresh and Repeated: only a Use has these replies
abbrev pub totals_of : List Answered → Totals
totals_of past = record {
  calls = length past;
  issued = length (nonces past);
  admitted = count_by (λ a. is_fresh a.reply) past;
  repeated = count_by (λ a. is_repeated a.reply) past;
}

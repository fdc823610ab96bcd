-- The definitions at work.
use Rattle.std.proofs.Common.{◌≡◌, ℕ, refl, replicate, List, [], ◌∷◌}
use Rattle.std.specs.Prelude.{None, Some, codes}
use Rattle.base64.specs.Rfc4648.{encode_symbols}
use Rattle.nonce_shard.specs.declared.names.TableName.{TableName}
use Rattle.nonce_shard.specs.declared.names.NameKind.TheVariants as names
use Rattle.nonce_shard.specs.declared.calls.NonceKind.TheVariants.{Digest, Scram}
use Rattle.nonce_shard.specs.declared.calls.ExchangeFlag.TheVariants.{N}
use Rattle.nonce_shard.specs.declared.calls.Exchange.{Exchange}
use Rattle.nonce_shard.specs.declared.calls.What.{What}
use Rattle.nonce_shard.specs.declared.calls.What.TheVariants.{Issue, Peek, Use, Open, Take, Keep, Recall}
use Rattle.nonce_shard.specs.declared.calls.Call.{Call}
use Rattle.nonce_shard.specs.declared.calls.Reply.TheVariants as replies
use Rattle.nonce_shard.specs.declared.sizes.Sizes.{Sizes}
use Rattle.nonce_shard.specs.Names.{name_text}
use Rattle.nonce_shard.specs.Sizes.{standard_sizes, single_sizes}
use Rattle.nonce_shard.specs.Replies.{reply}

-- the first nonce, of random bytes all 0
abbrev first_nonce : TableName
first_nonce = record { kind = names.Nonce; shard = 0; serial = 0; random = replicate 16 0 }

its_text : name_text first_nonce ≡ codes "AQAAAAAAAAAAAAAAAAAAAAAAAAAAAAAAAAAA"
unfolding encode_symbols
its_text = refl

next_text : name_text (record first_nonce { serial = 1 }) ≡ codes "AQAAAAAAAAAAAAEAAAAAAAAAAAAAAAAAAAAA"
unfolding encode_symbols
next_text = refl

abbrev issue_at : ℕ → Call
issue_at moment = record { moment = moment; what = Issue Digest 0 (replicate 16 0) }

abbrev use_at : ℕ → ℕ → Call
use_at moment count = record { moment = moment; what = Use first_nonce Digest 0 count None }

its_sizes : standard_sizes ≡ record { shards = 16; nonces = 4096; exchanges = 1024; nonce_life = 300; open_life = 60; finished_life = 3600; uses = 1024 }
its_sizes = refl

-- ---- the window of 128 counts

abbrev used : List Call
used = issue_at 0 ∷ use_at 0 200 ∷ use_at 0 73 ∷ []

greatest_count : reply single_sizes 0 (issue_at 0 ∷ []) (use_at 0 200) ≡ replies.Fresh 1
greatest_count = refl

lowest_count : reply single_sizes 0 (issue_at 0 ∷ use_at 0 200 ∷ []) (use_at 0 73) ≡ replies.Fresh 2
lowest_count = refl

count_below : reply single_sizes 0 used (use_at 0 72) ≡ replies.Behind 200
count_below = refl

same_count : reply single_sizes 0 used (use_at 0 73) ≡ replies.Repeated
same_count = refl

-- ---- the life of a nonce

last_second : reply single_sizes 0 (issue_at 1000 ∷ []) (use_at 1300 1) ≡ replies.Fresh 1
last_second = refl

second_after : reply single_sizes 0 (issue_at 1000 ∷ use_at 1300 1 ∷ []) (use_at 1301 2) ≡ replies.Gone
second_after = refl

-- the time does not go back
clock_went_back : reply single_sizes 0 (issue_at 1000 ∷ use_at 1300 1 ∷ use_at 1301 2 ∷ []) (use_at 10 2) ≡ replies.Gone
clock_went_back = refl

-- ---- how many nonces are kept

abbrev two_nonces : Sizes
two_nonces = record single_sizes { nonces = 2 }

one_since : reply two_nonces 0 (issue_at 0 ∷ issue_at 0 ∷ []) (use_at 0 1) ≡ replies.Fresh 1
one_since = refl

two_since : reply two_nonces 0 (issue_at 0 ∷ issue_at 0 ∷ issue_at 0 ∷ []) (use_at 0 1) ≡ replies.Gone
two_since = refl

-- ---- how many uses it has

abbrev two_uses : Sizes
two_uses = record single_sizes { uses = 2 }

last_use : reply two_uses 0 (issue_at 0 ∷ use_at 0 1 ∷ use_at 0 1 ∷ []) (use_at 0 2) ≡ replies.Fresh 2
last_use = refl

use_after : reply two_uses 0 (issue_at 0 ∷ use_at 0 1 ∷ use_at 0 2 ∷ []) (use_at 0 3) ≡ replies.Gone
use_after = refl

-- no session is told of it then
peek_after : reply two_uses 0 (issue_at 0 ∷ use_at 0 1 ∷ use_at 0 2 ∷ []) (record { moment = 0; what = Peek first_nonce 0 }) ≡ replies.Gone
peek_after = refl

-- ---- what a nonce is for

other_kind : reply single_sizes 0 (issue_at 0 ∷ []) (record { moment = 0; what = Use first_nonce Scram 0 1 None }) ≡ replies.Gone
other_kind = refl

other_space : reply single_sizes 0 (issue_at 0 ∷ []) (record { moment = 0; what = Use first_nonce Digest 1 1 None }) ≡ replies.Gone
other_space = refl

-- ---- the session that a nonce holds

abbrev use_with : List ℕ → ℕ → Call
use_with prime count = record { moment = 0; what = Use first_nonce Digest 0 count (Some (record { items = prime })) }

abbrev peek : Call
peek = record { moment = 0; what = Peek first_nonce 0 }

no_session : reply single_sizes 0 (issue_at 0 ∷ use_at 0 1 ∷ []) peek ≡ replies.Prime None
no_session = refl

its_session : reply single_sizes 0 (issue_at 0 ∷ use_with (97 ∷ []) 1 ∷ use_at 0 2 ∷ []) peek ≡ replies.Prime (Some (record { items = 97 ∷ [] }))
its_session = refl

other_session : reply single_sizes 0 (issue_at 0 ∷ use_with (97 ∷ []) 1 ∷ []) (use_with (98 ∷ []) 2) ≡ replies.OtherSession
other_session = refl

-- ---- an exchange has one try

abbrev exchange : Exchange
exchange = record { flag = N; bare = record { items = 98 ∷ [] } }

abbrev open_at : ℕ → Call
open_at moment = record { moment = moment; what = Open 0 (replicate 16 0) exchange }

abbrev sid : TableName
sid = record first_nonce { kind = names.Exchange }

abbrev ask_at : ℕ → (TableName → ℕ → What) → Call
ask_at moment what = record { moment = moment; what = what sid 0 }

abbrev take_it : TableName → ℕ → What
take_it name space = Take name space

abbrev keep_it : TableName → ℕ → What
keep_it name space = Keep name space

abbrev recall_it : TableName → ℕ → What
recall_it name space = Recall name space

taken : reply single_sizes 0 (open_at 0 ∷ []) (ask_at 60 take_it) ≡ replies.Taken exchange
taken = refl

too_late : reply single_sizes 0 (open_at 0 ∷ []) (ask_at 61 take_it) ≡ replies.Gone
too_late = refl

second_try : reply single_sizes 0 (open_at 0 ∷ ask_at 1 take_it ∷ []) (ask_at 1 take_it) ≡ replies.Gone
second_try = refl

kept_untried : reply single_sizes 0 (open_at 0 ∷ []) (ask_at 1 keep_it) ≡ replies.Gone
kept_untried = refl

kept : reply single_sizes 0 (open_at 0 ∷ ask_at 1 take_it ∷ []) (ask_at 1 keep_it) ≡ replies.Kept
kept = refl

recalled : reply single_sizes 0 (open_at 0 ∷ ask_at 1 take_it ∷ ask_at 1 keep_it ∷ []) (ask_at 3601 recall_it) ≡ replies.Session exchange
recalled = refl

recalled_late : reply single_sizes 0 (open_at 0 ∷ ask_at 1 take_it ∷ ask_at 1 keep_it ∷ []) (ask_at 3602 recall_it) ≡ replies.Gone
recalled_late = refl

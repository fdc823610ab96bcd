-- The calls that a shard has answered, the oldest first.
use Rattle.std.specs.Prelude.{ℕ, max, List, map, fold}
use Rattle.nonce_shard.specs.declared.history.Answered.{Answered}

-- the greatest moment of the calls and this one
abbrev pub time_at : List Answered → ℕ → ℕ
time_at past moment = fold max moment (map (λ a. a.call.moment) past)

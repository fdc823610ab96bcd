-- How often each nonce was used (RFC 7616 section 3.4: nc).
use Rattle.std.specs.Prelude.{ℕ, List, unwrap_or}
use Rattle.std.specs.Ordering.{nat_cmp}
use Rattle.std.specs.Cmp.Lexicographic.{slice_cmp}
use Rattle.std.specs.BTreeMap.{insert_entry, is_at}
use Rattle.std.specs.Map.{lookup}

-- the greatest count that was drawn of each text
abbrev pub Drawn : Type 0
Drawn = List (List ℕ × ℕ)

-- the greatest count that was drawn of this text, or 0
unfoldable pub count_of : Drawn → List ℕ → ℕ
count_of drawn text = unwrap_or (lookup (is_at (slice_cmp nat_cmp text)) drawn) 0

-- the same with this count of the text
unfoldable pub with_count : Drawn → List ℕ → ℕ → Drawn
with_count drawn text count = insert_entry (slice_cmp nat_cmp) drawn text count

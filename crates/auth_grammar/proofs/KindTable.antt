use Rattle.std.proofs.Common.{◌≡◌, ◌∙◌, ℕ, ◌<◌, arith, get_or, map}
use Rattle.std.specs.List.{range_with_len}
use Rattle.std.proofs.lemmas.List.FromFn.{get_or-map-range_with_len}
use Rattle.auth_grammar.specs.declared.kinds.Kind.{Kind}
use Rattle.auth_grammar.specs.declared.kinds.Kind.TheVariants.{Comma}
use Rattle.auth_grammar.specs.Kinds.{kind_of}

-- what stands in the table of the kinds of all bytes is a byte's kind
pub in_table : (kind : Kind) (b : ℕ) → b < 256 → kind ≡ get_or (map kind_of (range_with_len 0 256)) b Comma → kind ≡ kind_of b
in_table kind b l h = h ∙ get_or-map-range_with_len kind_of 0 256 b b Comma l (omega arith)

use Rattle.std.proofs.Common.{◌≡◌, filter, map, string_bytes, take}
use Rattle.authget.specs.Words.{is_option, is_plain}
use Rattle.authget.proofs.words.parted.Given as goal

abbrev pub invariant-loop-word : goal.invariant-loop-word
invariant-loop-word l = record {
  options : l.options ≡ filter is_option (map string_bytes (take l.word-index l.words));
  plain : l.plain ≡ filter is_plain (map string_bytes (take l.word-index l.words));
}

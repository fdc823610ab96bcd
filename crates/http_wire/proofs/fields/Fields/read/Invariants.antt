use Rattle.std.proofs.Common.{◌≡◌, true, take, map, []}
use Rattle.http_header.specs.HeaderMap.{append_all}
use Rattle.httparse.specs.Spans.{header_bytes}
use Rattle.http_wire.specs.Fields.{are_field_names, lowered}
use Rattle.http_wire.proofs.fields.Fields.read.Given as goal

-- the fields so far, each with a name
abbrev pub invariant-loop-header : goal.invariant-loop-header
invariant-loop-header l = record {
  named : are_field_names (map (header_bytes l.text) (take l.header-index l.headers)) ≡ true;
  made : l.map ≡ append_all [] (map lowered (map (header_bytes l.text) (take l.header-index l.headers)));
}

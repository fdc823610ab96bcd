use Rattle.std.proofs.Common.{[], ℕ, List, length, drop, sym, subst, ◌∙◌}
use Rattle.std.proofs.lemmas.List.{append-nil}
use Rattle.httparse.specs.Grammar.{ReadsChunkLine, HasNoChunkLine}
use Rattle.http_wire.proofs.ChunkLineLemmas.{chunk_line_reads, size_is}
use Rattle.http_wire.proofs.chunk_line.chunk_size.Goals as goal

pub returns-in-Ok-Complete : goal.returns-in-Ok-Complete
returns-in-Ok-Complete c =
    let found = rw c.in-Ok-Complete.field-0-is at c.in-Ok-Complete.ensures.complete in
    found.1.size_is ∙ size_is c.args.line.now found.0 (drop c.in-Ok-Complete.field-0-0-0 c.args.line.now) found.1.reads

pub returns-in-Ok-Partial : goal.returns-in-Ok-Partial
returns-in-Ok-Partial c =
    let none : HasNoChunkLine c.args.line.now = rw c.in-Ok-Partial.field-0-is at c.in-Ok-Partial.ensures.partial in
    let line = chunk_line_reads c.args.line.now (length c.args.line.now) c.requires in
    absurd (none line.0 line.1 line.2)

pub returns-in-Err : goal.returns-in-Err
returns-in-Err c =
    let line = chunk_line_reads c.args.line.now (length c.args.line.now) c.requires in
    absurd (c.in-Err.ensures.invalid [] line.0 line.1 (subst (λ (b : List ℕ). ReadsChunkLine b line.0 line.1) (sym (append-nil c.args.line.now)) line.2))

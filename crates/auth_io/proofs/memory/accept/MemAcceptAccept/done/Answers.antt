use Rattle.std.proofs.Common.{[], ◌∷◌, ◌∙◌, ap, List, map}
use Rattle.std.proofs.lemmas.List.{map-append}
use Rattle.auth_io.specs.declared.memory.link.MemLink.{MemLink}
use Rattle.auth_io.specs.Memory.{entry_of}
use Rattle.auth_io.proofs.Handing.{rose_back}
use Rattle.auth_io.proofs.memory.accept.MemAcceptAccept.done.Goals as goal

pub returns-clause-link_faults : goal.returns-clause-link_faults
returns-clause-link_faults c = rose_back (map entry_of c.args.self.now.ended.items) (map entry_of c.push_reserved.new.self.items) (entry_of c.args.link) (ap (λ (l : List MemLink). map entry_of l) c.push_reserved.ensures.items ∙ map-append entry_of c.args.self.now.ended.items (c.args.link ∷ []))

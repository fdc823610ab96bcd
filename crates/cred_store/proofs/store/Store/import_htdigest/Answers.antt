use Rattle.std.proofs.Common.{arith, ap, length, ◌∙◌, ◌≡◌, List, []}
use Rattle.std.specs.Str.Lines.{lines}
use Rattle.std.proofs.lemmas.List.Elements.{All-nil}
use Rattle.std.proofs.lemmas.Result.{err_from_is_err_and}
use Rattle.cred_store.specs.Changes.{put_all}
use Rattle.cred_store.specs.Htdigest.{imported}
use Rattle.cred_store.specs.Texts.{IsEntry}
use Rattle.cred_store.specs.declared.version.Version.TheVariants.{Two}
use Rattle.cred_store.specs.declared.entry.Entry.{Entry}
use Rattle.cred_store.proofs.Order.{rising_none}
use Rattle.cred_store.proofs.OnePair.{sound_pairs}
use Rattle.cred_store.proofs.Pairs.{pairs_entries}
use Rattle.cred_store.proofs.Puts.{each_put_all, length_put_all, put_all_store}
use Rattle.cred_store.proofs.store.Store.import_htdigest.Goals as goal

pub put_all-requires : goal.put_all-requires
put_all-requires c = rw c.new-imported.ensures.items rising_none

pub overflow_cast-count : goal.overflow_cast-count
overflow_cast-count c =
    omega (
      arith,
      ap length c.in_ok-put_all.ensures,
      length_put_all c.in_ok-pairs.pairs.items c.new-imported.result.items,
      ap length c.new-imported.ensures.items,
      c.in_ok-pairs.ensures.few,
      c.requires,
    )

pub invariant_of-self : goal.invariant_of-self
invariant_of-self c =
    let pairs = c.in_ok-pairs.pairs.items in
    let kept : c.put_all.new.entries.items ≡ imported pairs = c.in_ok-put_all.ensures ∙ ap (put_all pairs) c.new-imported.ensures.items in
    let copied : c.in_ok-entries.entries.items ≡ c.self.inside.entries.items = c.in_ok-entries.ensures ∙ c.as_slice.ensures.value in
    let after : c.put_all-2.new.entries.items ≡ put_all (imported pairs) c.self.inside.entries.items =
    c.in_ok-put_all-2.ensures ∙ ap (λ (l : List Entry). put_all l c.in_ok-entries.entries.items) kept ∙ ap (put_all (imported pairs)) copied in
    rw after (
      put_all_store (imported pairs) c.self.inside.entries.items
          (each_put_all pairs [] (pairs_entries (lines c.args.text.now) pairs c.in_ok-pairs.ensures.pairs) (All-nil (IsEntry Two))) c.self.invariant.0,
      omega (arith, length_put_all (imported pairs) c.self.inside.entries.items, length_put_all pairs [], c.in_ok-pairs.ensures.few, c.requires, ap length c.self.view_is),
    )

pub returns-in_err-pairs-clause-refused : goal.returns-in_err-pairs-clause-refused
returns-in_err-pairs-clause-refused c =
    let p = err_from_is_err_and c.from_residual.result c.from_residual.ensures.1 in
    rw (p.1, p.2) (sound_pairs c.args.text.now _ c.in_err-pairs.ensures.err)

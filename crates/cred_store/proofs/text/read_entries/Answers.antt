use Rattle.std.proofs.Common.{arith, ◌∷◌, [], refl}
use Rattle.std.proofs.lemmas.List.Elements.{All-nil, All-push}
use Rattle.std.proofs.lemmas.List.{length-append}
use Rattle.std.proofs.lemmas.Result.{err_from_is_err_and}
use Rattle.cred_store.specs.Texts.{IsEntry}
use Rattle.cred_store.proofs.Order.{rising_none}
use Rattle.cred_store.proofs.StoreTexts.{fault_behind, one_more}
use Rattle.cred_store.proofs.text.read_entries.Goals as goal

pub loop-rest-init : goal.loop-rest-init
loop-rest-init c =
    rw c.new-entries.ensures (record { is_store = record { each = All-nil (IsEntry c.args.version); rising = rising_none }; few = omega arith; begins = refl })

pub returns-in_err-number-clause-err : goal.returns-in_err-number-clause-err
returns-in_err-number-clause-err c =
    let p = err_from_is_err_and c.from_residual.result c.from_residual.ensures.1 in
    rw (p.1, p.2) (fault_behind c.args.version _ _ _ _ c.loop-rest.invariant.is_store c.loop-rest.invariant.begins tt)

pub loop-rest-preserved : goal.loop-rest-preserved
loop-rest-preserved c = rw c.in_ok-push.ensures.ok (record {
  is_store = record {
    each = All-push (IsEntry c.args.version) c.loop-rest.entries c.in_ok-entry.entry c.loop-rest.invariant.is_store.each c.in_ok-entry.ensures.entry;
    rising = (rw c.as_slice.ensures at c.in_ok-entry.ensures.rising) c.loop-rest.invariant.is_store.rising;
  };
  few = omega (arith, length-append c.loop-rest.entries (c.in_ok-entry.entry ∷ []), c.in_ok-number.ensures.number, c.in_ok-number.ensures.bound);
  begins = one_more c.args.version _ _ _ _ _ c.loop-rest.invariant.begins c.in_ok-entry.ensures.text;
})

pub returns-in_err-push-clause-err : goal.returns-in_err-push-clause-err
returns-in_err-push-clause-err c =
    let p = err_from_is_err_and c.from_residual-in_err-push.result c.from_residual-in_err-push.ensures.1 in
    rw (p.1, p.2) (fault_behind c.args.version _ _ _ _ c.loop-rest.invariant.is_store c.loop-rest.invariant.begins tt)

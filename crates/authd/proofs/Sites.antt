-- What the text of secrets in an answer says.
use Rattle.std.proofs.Common.{◌≡◌, ◌≢◌, ℕ, List, Result, Ok, Err, refl, subst, sym}
use Rattle.auth_io.specs.declared.files.FileAnswer.{FileAnswer}
use Rattle.auth_io.specs.declared.files.FileAnswer.TheVariants.{Found, Absent, TooLarge, Failed, OutOfMemory as NotRead}
use Rattle.cred_store.specs.Faults.{FirstFault}
use Rattle.cred_store.specs.declared.entry.Entry.{Entry}
use Rattle.cred_store.specs.declared.error.StoreError.{StoreError}
use Rattle.cred_store.specs.declared.error.StoreError.TheVariants.{BadLine, Repeated, Unsorted, BadName, OutOfMemory}
use Rattle.authd.specs.Causes.{store_failure}
use Rattle.authd.specs.Loading.{IsKept, IsStore, ReadsStore, text_in}
use Rattle.authd.specs.declared.failure.Failure.{Failure}
use Rattle.authd.specs.declared.failure.Refusal.TheVariants.{StoreAbsent}

reads_fault : (text : List ℕ) (error : StoreError) → FirstFault text error → ReadsStore text (Err error)
reads_fault text (BadLine line why) fault = fault
reads_fault text (Repeated line) fault = fault
reads_fault text (Unsorted line) fault = fault
reads_fault text BadName fault = fault
reads_fault text OutOfMemory fault = tt

pub store_refused : (got : Result (List ℕ) Failure) (text seen : List ℕ) (error : StoreError) (failure : Failure) (result : Result (List Entry) Failure) → Ok text ≡ got → seen ≡ text → FirstFault seen error → result ≡ Err failure → failure ≡ store_failure error →
    IsStore got result
store_refused got text seen error failure result is same fault failed cause =
    subst (λ (g : Result (List ℕ) Failure). IsStore g result) is
    (subst (λ (r : Result (List Entry) Failure). IsStore (Ok text) r) (sym failed) (error, reads_fault text error (subst (λ (t : List ℕ). FirstFault t error) same fault), cause))

there : (answer : FileAnswer) (result : Result (List Entry) Failure) → answer ≢ Absent → IsStore (text_in StoreAbsent answer) result → IsKept answer result
there (Found text) result not is = is
there Absent result not is = absurd (not refl)
there TooLarge result not is = is
there Failed result not is = is
there NotRead result not is = is

-- where there is a file, the store is that of its text
pub kept_there : (answer : FileAnswer) (got : Result (List ℕ) Failure) (result : Result (List Entry) Failure) → answer ≢ Absent → got ≡ text_in StoreAbsent answer → IsStore got result → IsKept answer result
kept_there answer got result not text store = there answer result not (subst (λ (g : Result (List ℕ) Failure). IsStore g result) text store)

-- Why the program ends, by what a part of it answered.
use Rattle.auth_io.specs.declared.writing.WriteError.{WriteError}
use Rattle.auth_io.specs.declared.writing.WriteError.TheVariants as write_error
use Rattle.connection_loop.specs.declared.served.ServeError.{ServeError}
use Rattle.connection_loop.specs.declared.served.ServeError.TheVariants as served
use Rattle.cred_store.specs.declared.error.StoreError.{StoreError}
use Rattle.cred_store.specs.declared.error.StoreError.TheVariants as store
use Rattle.spaces_map.specs.declared.error.SpacesError.{SpacesError}
use Rattle.spaces_map.specs.declared.error.SpacesError.TheVariants as spaces
use Rattle.authd.specs.declared.failure.Failure.{Failure}
use Rattle.authd.specs.declared.failure.Failure.TheVariants as failure
use Rattle.authd.specs.declared.failure.Fault.TheVariants as fault
use Rattle.authd.specs.declared.failure.Refusal.TheVariants as refusal

abbrev pub write_failure : WriteError → Failure
write_failure write_error.Failed = failure.Fault fault.Write
write_failure write_error.OutOfMemory = failure.OutOfMemory

abbrev pub store_failure : StoreError → Failure
store_failure (store.BadLine line why) = failure.Refused (refusal.StoreLine line)
store_failure (store.Repeated line) = failure.Refused (refusal.StoreLine line)
store_failure (store.Unsorted line) = failure.Refused (refusal.StoreLine line)
store_failure store.BadName = failure.Usage
store_failure store.OutOfMemory = failure.OutOfMemory

abbrev pub spaces_failure : SpacesError → Failure
spaces_failure (spaces.BadLine line) = failure.Refused (refusal.SpacesLine line)
spaces_failure (spaces.SamePrefix line) = failure.Refused (refusal.SpacesLine line)
spaces_failure spaces.OutOfMemory = failure.OutOfMemory

abbrev pub serve_failure : ServeError → Failure
serve_failure (served.Truncated at) = failure.Truncated at
serve_failure served.ReadFault = failure.Fault fault.Read
serve_failure served.WriteFault = failure.Fault fault.Write
serve_failure served.RandomFault = failure.Fault fault.Draw
serve_failure (served.Worn calls) = failure.Worn
serve_failure served.OutOfMemory = failure.OutOfMemory

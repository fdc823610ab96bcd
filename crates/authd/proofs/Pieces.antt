-- Pieces of an input.
use Rattle.std.proofs.Common.{ℕ, List, Option, Err}
use Rattle.authd.specs.declared.failure.Failure.{Failure}
use Rattle.authd.specs.declared.failure.Failure.TheVariants as failure
use Rattle.authd.specs.declared.failure.Fault.TheVariants as fault
use Rattle.authd.specs.Inputs.{IsInput, IsPiece}

-- a fault at a piece is one of the whole
pub piece_failed : (input input' got all : List ℕ) (left : Option (List ℕ)) (failure : Failure) → IsPiece input input' got left (Err failure) → IsInput all left (Err failure)
piece_failed input input' got all left failure.Usage h = absurd h
piece_failed input input' got all left (failure.Refused refusal) h = absurd h
piece_failed input input' got all left (failure.Fault fault.Read) h = tt
piece_failed input input' got all left (failure.Fault other) h = absurd h
piece_failed input input' got all left (failure.Truncated at) h = absurd h
piece_failed input input' got all left failure.Worn h = absurd h
piece_failed input input' got all left failure.OutOfMemory h = tt

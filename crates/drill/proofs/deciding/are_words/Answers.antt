use Rattle.drill.proofs.deciding.are_words.Goals as goal

pub returns : goal.returns
returns c = record { long = c.told-words; bytes = c.fits-words }

-- `listing::put_refused` meets its contract: the fixed byte string is the word of a refusal.
use Rattle.model.specs.Listing.{listing, refused_word}
use Rattle.model.specs.Numbers.{refusal}
use Rattle.listing.proofs.put_refused.Goals as goal

pub returns : goal.returns
unfolding listing refused_word refusal
returns c = rw (← c.number.ensures) c.put_line.ensures

-- `text_put::put_number` meets its contract. What falls at each call is the number.
use Rattle.text_put.proofs.+put_number.Given as goal

abbrev pub decreases-put_number : goal.decreases-put_number
decreases-put_number l = l.n

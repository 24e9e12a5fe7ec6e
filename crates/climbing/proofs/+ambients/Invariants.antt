-- `climbing::ambients` meets its contract. What falls at each call is the number of climbs left.
use Rattle.climbing.proofs.+ambients.Given as goal

abbrev pub decreases-ambients : goal.decreases-ambients
decreases-ambients l = l.left

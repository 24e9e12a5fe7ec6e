-- `ways::climb` meets its contract. What falls at each call is the number of climbs left, by the records of the way.
use Rattle.ways.proofs.+climb.Given as goal

abbrev pub decreases-climb : goal.decreases-climb
decreases-climb g l = l.left

-- What the contracts cite: a view that finds nothing but that the environment is reached.
use Rattle.model.specs.Climbing.{View}

abbrev pub arriving : View (Unit {0})
arriving = record { top = tt; lost = tt; make = λ i r x. tt }

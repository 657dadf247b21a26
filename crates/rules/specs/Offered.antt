-- What is offered after a base.
use Rattle.std.specs.Prelude.{Option}
use Rattle.rules.specs.declared.Place.{Place}

-- a place, or nothing
abbrev pub Offer : Type 0
Offer = Option Place

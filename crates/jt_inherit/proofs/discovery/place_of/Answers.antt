use Rattle.jt_inherit.proofs.Vocabulary.{rules, arith, length-map}
use Rattle.jt_inherit.proofs.TagPlaces.{first_shows}
use Rattle.jt_inherit.proofs.discovery.place_of.Goals as goal

pub returns-in-Some : goal.returns-in-Some
returns-in-Some c = search (arith, rules, length-map, first_shows)

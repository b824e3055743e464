use Rattle.std.proofs.Common.{◌≡◌, Option, Some, option_map, sym, ◌∙◌, arith}
use Rattle.std.specs.Option.{option_and_then}
use Rattle.jt_image.specs.View.{loc_view}
use Rattle.jt_image.specs.Places.{place_of}
use Rattle.jt_image.specs.Readers.{place_there}
use Rattle.jt_image.specs.declared.parts.SourceLoc.{SourceLoc}
use Rattle.jt_image.proofs.UnitOffsets.{place_is}
use Rattle.jt_image.proofs.offsets.Reader.place.Goals as goal
use Rattle.jt_image.proofs.offsets.Reader.place.Goals.{After-loc}

-- The place is the decoded one, if it exists.
told : (c : After-loc) (o : Option SourceLoc) → c.loc.result ≡ o
    → place_there c.args.self.now c.args.unit c.args.point
    ≡ option_and_then (place_of c.args.self.now.templates) (option_map loc_view o)
told c o is = grind (arith, place_is, option_map)

pub returns-in-Some-loc : goal.returns-in-Some-loc
returns-in-Some-loc c =
    c.place_of.ensures ∙ sym (told (goal.at.returns-in-Some-loc c).After-loc (Some c.in-Some-loc.loc) c.in-Some-loc.is)

pub returns-in-None : goal.returns-in-None
returns-in-None c = sym (told (goal.at.returns-in-None c).After-loc _ c.in-None.is)

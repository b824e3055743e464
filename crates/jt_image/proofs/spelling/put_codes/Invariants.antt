use Rattle.std.proofs.Common.{◌≡◌, ◌++◌, take}
use Rattle.std.specs.List.{flat_map}
use Rattle.jt_image.specs.Spelling.{instruction_bytes}
use Rattle.jt_image.specs.View.{units_view}
use Rattle.jt_image.proofs.spelling.put_codes.Given as goal

abbrev pub invariant-units : goal.invariant-units
invariant-units l =
    l.out.items
    ≡ l.fn.out.items ++ flat_map (λ u. flat_map instruction_bytes u.code) (units_view (take l.unit-index l.units))

-- The tags of wanted uses. Only private clauses cite this module.
use Rattle.std.specs.Prelude.{◌≡◌, ◌+◌, ℕ, Bool, false, true, ◌&&◌, ◌||◌, IsTrue, List, [], ◌∷◌, length, map, filter}
use Rattle.std.specs.Prelude.{drop, slice_get, Option, Some, option_map, string_bytes}
use Rattle.std.specs.List.{AllByRecursion, list_all}
use Rattle.jt_ast.specs.Expressions.{Text}
use Rattle.jt_chains.specs.Chain.{Template}
use Rattle.jt_chains.specs.Supers.{calls_super}
use Rattle.jt_uses.specs.Uses as uses
use Rattle.jt_uses.specs.Uses.{Use, Site}
use Rattle.jt_uses.specs.UseView.{site_view}
use Rattle.jt_inherit.specs.Findings.{asks, is_extends, is_include, is_import, binds_macro, is_block, defines}
use Rattle.jt_inherit.specs.Findings.{all_uses, calls_super_at, is_required}
use Rattle.jt_inherit.specs.declared.finding.TagPlace.{TagPlace}
use Rattle.jt_inherit.specs.declared.tags.FoundTag.{FoundTag}
use Rattle.jt_inherit.specs.declared.tags.Wanted.{Wanted}
use Rattle.jt_inherit.specs.declared.tags.Wanted.TheVariants as v

-- The test that a wanted use passes.
abbrev pub test_of : Wanted → Use → Bool
test_of (v.Asks n) = asks true n.now
test_of (v.Needs n) = asks false n.now
test_of (v.Extends n) = is_extends n.now
test_of (v.Includes n) = is_include n.now
test_of (v.Imports n) = is_import n.now
test_of (v.BindsMacro n x) = binds_macro n.now x.now
test_of (v.Block x) = is_block x.now
test_of (v.Defines x) = defines x.now

abbrev pub place_view : TagPlace → Text × ℕ
place_view p = (string_bytes p.template, p.line)

-- The template and the line of a use.
abbrev pub place_of : Text × Site → Text × ℕ
place_of x = (x.0, x.1.place.line)

abbrev pub tag_view : FoundTag → Text × Site
tag_view t = (t.template.now, site_view t.site)

abbrev pub tags_view : List FoundTag → List (Text × Site)
tags_view = map tag_view

-- The uses with the name of their template.
abbrev pub with_name : Text → List Site → List (Text × Site)
with_name n ss = map (λ s. (n, s)) ss

-- The uses that pass the test.
abbrev pub tags : (Use → Bool) → List (Text × Site) → List (Text × Site)
tags test xs = filter (λ x. test x.1.made) xs

-- The number of tags of the templates with such a use.
abbrev pub tag_count : (Use → Bool) → List Template → ℕ
tag_count test ts = length (tags test (all_uses ts))

-- The place of the tag at a number.
abbrev pub place_in : ℕ → List (Text × Site) → Option (Text × ℕ)
place_in k xs = option_map place_of (slice_get xs k)

-- The places are those of the first two tags.
abbrev pub AreFirst : List FoundTag → TagPlace × TagPlace → Type 0
AreFirst found p =
    (place_in 0 (tags_view found) ≡ Some (place_view p.0)) × (place_in 1 (tags_view found) ≡ Some (place_view p.1))

-- Among the blocks, one calls `super()` in a tag at the line, and each further one is required.
pub record IsLastCall (blocks : List (Text × Site)) (tag : Text × Site) (line : ℕ) : Type 0 where
  pub number : ℕ
  pub there : slice_get blocks number ≡ Some tag
  pub calls : calls_super_at line tag.1.made ≡ true
  pub last : AllByRecursion (λ s. IsTrue (is_required s.1.made)) (drop (number + 1) blocks)

-- The use is a block with a tag in its body that calls `super()`.
abbrev pub has_call : Use → Bool
has_call (uses.declares_block x scoped required body) = calls_super body
has_call u = false

-- One of the blocks calls `super()`, and each further one, if any, is required.
abbrev pub lacks_call : List (Text × Site) → Bool
lacks_call [] = false
lacks_call (tag ∷ rest) = (has_call tag.1.made && list_all (λ s. is_required s.1.made) rest) || lacks_call rest

-- The environment in which templates are compiled.
use Rattle.std.specs.Prelude.{Bool}
use Rattle.jt_chains.specs.Chain.{Sources}
use Rattle.jt_chains.specs.View.{Seen, sources_of}
use Rattle.jt_eval.specs.Filters.{Filters}
use Rattle.jt_eval.specs.TheFilters.{the_filters}

-- A compile environment: the filters, the sources, whether text outside `autoescape` tags is
-- escaped, and whether templates are strict. In strict templates an undefined value is a fault where
-- it is printed, iterated over, joined by `~`, or the input of a filter other than `default`.
pub record CompileEnv : Type 0 where
  pub filters : Filters
  pub sources : Sources
  pub escaping : Bool
  pub strict : Bool

-- The compile environment of a chain: the filters of the language, the chain's templates and its
-- options.
abbrev pub cenv_of : Seen → CompileEnv
cenv_of c =
    record { filters = the_filters; sources = sources_of c; escaping = c.escaping; strict = c.strict }

-- Environments: scopes, the innermost first, over one map of globals. A map lists its bindings, the
-- newest first.
use Rattle.std.specs.Prelude.{List, [], ◌∷◌, ◌++◌, unwrap_or}
use Rattle.jt_value.specs.Tree.{Tree}
use Rattle.jt_value.specs.Pairs.{Pairs, look}
use Rattle.jt_ast.specs.Expressions.{Text}
use Rattle.jt_eval.specs.Values.{value_in}

pub record Env : Type 0 where
  pub scopes : List Pairs
  pub globals : Pairs

abbrev pub first_of : List Pairs → Pairs → Text → Tree
first_of [] globals x = value_in globals x
first_of (s ∷ ss) globals x = unwrap_or (look x s) (first_of ss globals x)

-- The value of a name in the innermost scope that has it, else in the globals, else undefined.
abbrev pub read : Env → Text → Tree
read env x = first_of env.scopes env.globals x

-- The environment that has globals alone.
abbrev pub top : Pairs → Env
top globals = record { scopes = []; globals = globals }

abbrev pub bound_in : List Pairs → Pairs → Text → Tree → Env
bound_in [] globals x v = record { scopes = []; globals = (x, v) ∷ globals }
bound_in (s ∷ ss) globals x v = record { scopes = ((x, v) ∷ s) ∷ ss; globals = globals }

-- The environment after the name is bound in the innermost scope, or in the globals at top level.
abbrev pub bound : Env → Text → Tree → Env
bound env x v = bound_in env.scopes env.globals x v

-- The environment after the names are bound in order. A later pair hides an earlier pair of its
-- name.
abbrev pub all_bound : Env → Pairs → Env
all_bound env [] = env
all_bound env (b ∷ bs) = all_bound (bound env b.0 b.1) bs

-- The environment with one more scope, in which these names are bound in order.
abbrev pub inside : Pairs → Env → Env
inside bs env = all_bound (record { scopes = [] ∷ env.scopes; globals = env.globals }) bs

abbrev pub seen_in : List Pairs → Pairs → Pairs
seen_in [] globals = globals
seen_in (s ∷ ss) globals = s ++ seen_in ss globals

-- All names that can be read, with their values.
abbrev pub seen : Env → Pairs
seen env = seen_in env.scopes env.globals

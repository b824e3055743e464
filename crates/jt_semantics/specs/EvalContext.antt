-- The context of an expression or a statement, and the calls that it can make.
use Rattle.std.specs.Prelude.{ℕ, Bool, List, Option}
use Rattle.jt_value.specs.Pairs.{Pairs}
use Rattle.jt_value.specs.Place.{Place}
use Rattle.jt_eval.specs.Eval.{Eval}
use Rattle.jt_ast.specs.Expressions.{Text}
use Rattle.jt_semantics.specs.Env.{Env}
use Rattle.jt_chains.specs.Chain.{Namespace, BlockBody, MacroBody}
use Rattle.jt_eval.specs.Loops.{Loop}

-- The placement of a block's body that is being printed: the later bodies, and the environment at
-- the tag.
pub record Placement : Type 0 where
  pub behind : List BlockBody
  pub env : Env

pub record EvalContext : Type 0 where
  pub namespace : Namespace
  pub template : Text
  pub escaping : Bool
  pub loop : Option Loop
  pub block : Option Placement

-- The state of evaluation: the environment, and the text so far.
pub record State : Type 0 where
  pub env : Env
  pub out : Text

-- A call:
--
-- - of a macro of a chain or a library, with its parameters and the globals;
-- - of a block's body, with the later bodies, in an environment;
-- - of another chain, with its globals.
pub data Invocation : Type 0 where
  the_macro : Namespace → MacroBody → Pairs → Pairs → Invocation
  the_block : Namespace → BlockBody → List BlockBody → Env → Invocation
  the_chain : Text → Pairs → Invocation

-- The texts of calls. A call changes nothing that its caller can read.
abbrev pub Calls : Type 0
Calls = Invocation → Eval Text

-- The place of a tag.
abbrev pub tag : EvalContext → ℕ → Place
tag around line = record { template = around.template; line = line }

-- The first rule that a use breaks, as the code tests it, and the first finding in chains. Only private clauses
-- cite this module.
use Rattle.std.specs.Prelude.{ℕ, nat_lt, Bool, true, false, not, ◌&&◌, ◌||◌, List, [], ◌∷◌, length, map, codes, Option}
use Rattle.std.specs.Prelude.{Some, None, option_map, slice_get, if◌then◌else◌}
use Rattle.std.specs.Bool.{then_some}
use Rattle.std.specs.Option.{is_some, option_or}
use Rattle.std.specs.Str.{bytes_eq}
use Rattle.jt_ids.specs.LoopTable.{field_named}
use Rattle.jt_ast.specs.Expressions as trees
use Rattle.jt_ast.specs.Expressions.{Expr, name, attribute, Exprs, Text}
use Rattle.jt_ast.specs.Statements.{Parameter, Body}
use Rattle.jt_ast.specs.Texts.{among, repeated}
use Rattle.std.specs.List.{list_any}
use Rattle.jt_chains.specs.Along.{body_at}
use Rattle.jt_chains.specs.Parts.{name_at}
use Rattle.jt_chains.specs.Uses.{count, keywords}
use Rattle.jt_chains.specs.Chain.{Namespace, Template, templates, all_bodies, given, given_to, is_loop}
use Rattle.jt_chains.specs.Chain.{Callee, a_super, a_block, no_callee, callee}
use Rattle.jt_names.specs.Names.{first_of}
use Rattle.jt_eval.specs.Filters.{Filters}
use Rattle.jt_eval.specs.Tests.{test_named}
use Rattle.jt_rules.specs.CompileEnv.{CompileEnv}
use Rattle.jt_uses.specs.Uses.{Use, reads, binds, reads_loop_field, calls, filters, tests, declares_macro}
use Rattle.jt_uses.specs.Uses.{binds_library, binds_macro, Site, body_uses, outside}
use Rattle.jt_uses.specs.declared.site.Enclosing.{Enclosing}
use Rattle.jt_rules.specs.Rules.{max_bindings, max_parameters, parameter_names}
pub use Rattle.jt_rules.specs.Arguments.{fits, reached, is_filled, filter_fits}
use Rattle.jt_rules.specs.Arguments.{callee_takes, test_takes, filter_takes, names_rightly}
use Rattle.jt_checks.specs.Findings.{Finding, Subject, the_bindings, subject_of}
pub use Rattle.jt_checks.specs.Findings.{lines_bound}
use Rattle.jt_rules.specs.declared.error.ScopeError.{ScopeError}
use Rattle.jt_rules.specs.declared.error.ScopeError.TheVariants as error

-- The rule that arguments break if they are not right.
abbrev pub unless : Bool → Option ScopeError
unless right = then_some (not right) error.BadArguments

-- True if each of these names is that of a parameter.
abbrev pub all_known : List Parameter → List Text → Bool
all_known ps names = not (list_any (λ k. not (among k (parameter_names ps))) names)

-- True if names occur once each, and each is that of a parameter.
abbrev pub names_fit : List Parameter → List Text → Bool
names_fit ps names = not (repeated names) && all_known ps names

-- True if the name is a callee, or a part of one.
abbrev pub is_only_called : Text → Bool
is_only_called x = bytes_eq x (codes "self") || (bytes_eq x (codes "super") || bytes_eq x (codes "range"))

-- The rule that a name breaks when it is read by itself.
abbrev pub read_alone : Text → Option ScopeError
read_alone x =
    if bytes_eq x (codes "loop") then Some error.LoopOutside else then_some (is_only_called x) error.NotCallable

-- True if the callee is `loop` itself, a field of it other than `cycle`, or `cycle` outside a loop.
abbrev pub misuses_loop : Expr → Enclosing → Bool
misuses_loop (name x) around = bytes_eq x (codes "loop")
misuses_loop (attribute a k) around = is_loop a && (not (bytes_eq k (codes "cycle")) || not around.in_loop)
misuses_loop f around = false

abbrev pub filter_right : Filters → Option ℕ → Exprs → trees.Pairs → Bool
filter_right fs o arguments pairs =
    filter_takes fs o (count arguments) (keywords pairs) && names_rightly fs o arguments pairs

-- The rule that a macro breaks by its name and its parameters.
abbrev pub macro_broken : Text → List Parameter → Option ScopeError
macro_broken x parameters =
    option_or (read_alone x)
    (option_or (unless (not (repeated (parameter_names parameters))))
    (then_some (nat_lt max_parameters (length parameters)) error.TooManySlots))

-- The template at an index.
abbrev pub template_at : List Template → ℕ → Template
template_at ts i = record { name = name_at ts i; body = body_at ts i }

-- The finding of a broken rule, if there is one, in the template of this name.
abbrev pub finding_of : Text → ℕ → Option Subject → Option ScopeError → Option Finding
finding_of n l (Some x) (Some r) = Some (record { rule = r; template = n; line = l; subject = x })
finding_of n l x r = None

-- The line of the first name beyond the limit that a template binds.
abbrev pub line_over : Body → Option ℕ
line_over b = slice_get (lines_bound (body_uses b outside)) max_bindings

-- The finding of a template that binds too many names.
abbrev pub finding_over : Text → ℕ → Finding
finding_over n l = record { rule = error.TooManySlots; template = n; line = l; subject = the_bindings }

-- The first finding that the function gives of items.
abbrev pub first : {A : Type 0} → (A → Option Finding) → List A → Option Finding
first g [] = None
first g (x ∷ xs) = option_or (g x) (first g xs)

module _ (cenv : CompileEnv) (namespace : Namespace) where
  -- The rule that a name breaks when it is read as a value, or bound.
  abbrev pub used : Text → Option ScopeError
  used x = option_or (read_alone x) (then_some (is_some (given_to x (given cenv.sources namespace))) error.MacroAsValue)

  -- True if the chain has a block of this name.
  abbrev pub is_block : Text → Bool
  is_block x = is_some (first_of x 0 (map (λ b. b.name) (all_bodies cenv.sources cenv.escaping namespace)))

  abbrev pub cannot_be_called : Callee → Enclosing → Bool
  cannot_be_called no_callee around = true
  cannot_be_called a_super around = not around.in_block
  cannot_be_called (a_block x) around = not (is_block x)
  cannot_be_called c around = false

  -- The rule that a call breaks, by its callee.
  abbrev pub call_broken : Callee → Enclosing → Exprs → trees.Pairs → Option ScopeError
  call_broken c around arguments pairs =
      if cannot_be_called c around then Some error.NotCallable else unless (callee_takes c arguments pairs)

  -- The first rule that a use breaks.
  abbrev pub use_broken : Use → Enclosing → Option ScopeError
  use_broken (reads x) around = used x
  use_broken (binds x) around = used x
  use_broken (binds_library n x) around = read_alone x
  use_broken (binds_macro n m x) around = read_alone x
  use_broken (reads_loop_field k) around =
      then_some (not (around.in_loop && is_some (field_named k))) error.LoopOutside
  use_broken (calls f arguments pairs) around =
      if misuses_loop f around then Some error.LoopOutside
      else call_broken (callee cenv.sources (given cenv.sources namespace) f) around arguments pairs
  use_broken (filters x arguments pairs) around =
      unless (filter_right cenv.filters (cenv.filters.named x arguments pairs) arguments pairs)
  use_broken (tests x arguments pairs) around = unless (test_takes (test_named x) arguments pairs)
  use_broken (declares_macro x parameters body) around = macro_broken x parameters
  use_broken u around = None

  -- The finding at a use, in the template of this name.
  abbrev pub site_finding : Text → Site → Option Finding
  site_finding n s = finding_of n s.place.line (subject_of s.made) (use_broken s.made s.place.around)

  -- The first finding at uses.
  abbrev pub uses_broken : Text → List Site → Option Finding
  uses_broken n = first (site_finding n)

  -- The first finding in a template.
  abbrev pub template_broken : Template → Option Finding
  template_broken t =
      option_or (uses_broken t.name (body_uses t.body outside)) (option_map (finding_over t.name) (line_over t.body))

  abbrev pub templates_broken : List Template → Option Finding
  templates_broken = first template_broken

  -- The first finding in a chain.
  abbrev pub chain_broken : Option Finding
  chain_broken = templates_broken (templates cenv.sources namespace)

-- The first finding in chains.
abbrev pub chains_broken : CompileEnv → List Namespace → Option Finding
chains_broken cenv = first (chain_broken cenv)

-- The static rules of names and calls, one predicate each, at a use of a chain or a library. They
-- are lexical: a tag that never runs counts.
use Rattle.std.specs.Prelude.{◌≡◌, ◌≢◌, ℕ, ◌+◌, ◌<◌, false, IsTrue, ◌⊎◌, List, [], ◌∷◌, length, codes, map, flat_map}
use Rattle.std.specs.Prelude.{None}
use Rattle.std.specs.Option.{is_some}
use Rattle.jt_ast.specs.Expressions.{Expr, name, attribute, Text}
use Rattle.jt_chains.specs.Uses.{count, keywords, own_names}
use Rattle.jt_chains.specs.Chain.{Sources, Namespace, a_chain, a_library, Template, templates, bodies, given, given_to}
use Rattle.jt_chains.specs.Chain.{libraries, Callee, a_super, a_block, no_callee, callee, is_loop}
use Rattle.jt_ast.specs.Texts.{ascending, repeated}
use Rattle.jt_ast.specs.Statements.{Parameter, body_bound}
use Rattle.jt_ids.specs.LoopTable.{field_named}
use Rattle.jt_eval.specs.Tests.{test_named}
use Rattle.jt_rules.specs.Arguments.{callee_takes, test_takes, filter_takes, names_rightly}
use Rattle.jt_uses.specs.Uses.{Use, Site, reads, binds, reads_loop_field, calls, filters, tests, declares_macro}
use Rattle.jt_uses.specs.Uses.{binds_library, binds_macro, body_uses, outside}
use Rattle.jt_uses.specs.declared.site.Enclosing.{Enclosing}
use Rattle.jt_rules.specs.CompileEnv.{CompileEnv}
use Rattle.jt_rules.specs.declared.error.ScopeError.{ScopeError}
use Rattle.jt_rules.specs.declared.error.ScopeError.TheVariants as error

-- The greatest number of parameters of a macro.
abbrev pub max_parameters : ℕ
max_parameters = 255

-- The greatest number of names that a template binds, each counted as often as it is written.
abbrev pub max_bindings : ℕ
max_bindings = 4096

-- The greatest number of names that the chains read or bind, each counted once for each chain.
abbrev pub max_names : ℕ
max_names = 65535

-- Holds if at least one item of the list has the property.
abbrev pub ForSome : {A : Type 0} → (A → Type 0) → List A → Type 0
ForSome P [] = ⊥
ForSome P (x ∷ xs) = P x ⊎ ForSome P xs

-- The names of the parameters.
abbrev pub parameter_names : List Parameter → List Text
parameter_names parameters = map (λ p. p.name) parameters

-- All uses of a chain's templates, or of a library's own template.
abbrev pub chain_uses : Sources → Namespace → List Site
chain_uses sources namespace = flat_map (λ t. body_uses t.body outside) (templates sources namespace)

-- Holds if the name can only be called, or can only be a part of a callee.
abbrev pub IsOnlyCalled : Text → Type 0
IsOnlyCalled x = (x ≡ codes "self") ⊎ ((x ≡ codes "super") ⊎ (x ≡ codes "range"))

-- Holds if the callee is `loop` itself, a field of it other than `cycle`, or `cycle` outside a
-- loop.
abbrev pub MisusesLoop : Expr → Enclosing → Type 0
MisusesLoop (name x) around = x ≡ codes "loop"
MisusesLoop (attribute a k) around = IsTrue (is_loop a) × ((k ≢ codes "cycle") ⊎ (around.in_loop ≡ false))
MisusesLoop f around = ⊥

module _ (cenv : CompileEnv) (namespace : Namespace) where
  -- V1: `loop` is read by itself, bound or misused in a call. Or a field of `loop` is read that
  -- does not exist, or that is outside a loop.
  abbrev pub LoopOutside : Use → Enclosing → Type 0
  LoopOutside (reads x) around = x ≡ codes "loop"
  LoopOutside (binds x) around = x ≡ codes "loop"
  LoopOutside (declares_macro x parameters body) around = x ≡ codes "loop"
  LoopOutside (binds_library n x) around = x ≡ codes "loop"
  LoopOutside (binds_macro n m x) around = x ≡ codes "loop"
  LoopOutside (reads_loop_field k) around = (around.in_loop ≡ false) ⊎ (field_named k ≡ None)
  LoopOutside (calls f arguments pairs) around = MisusesLoop f around
  LoopOutside u around = ⊥

  -- V2: a macro or a library is read as a value, or its name is bound.
  abbrev pub MacroAsValue : Use → Enclosing → Type 0
  MacroAsValue (reads x) around = IsTrue (is_some (given_to x (given cenv.sources namespace)))
  MacroAsValue (binds x) around = IsTrue (is_some (given_to x (given cenv.sources namespace)))
  MacroAsValue u around = ⊥

  -- Holds if the callee cannot be called. It is `super` outside a block, a block that does not
  -- exist, or an expression that is no form of a call.
  abbrev pub CannotBeCalled : Callee → Enclosing → Type 0
  CannotBeCalled no_callee around = Unit {0}
  CannotBeCalled a_super around = around.in_block ≡ false
  CannotBeCalled (a_block x) around = bodies cenv.sources cenv.escaping namespace x ≡ []
  CannotBeCalled f around = ⊥

  -- V3: `self`, `super` or `range` is read by itself or bound, or a callee cannot be called.
  abbrev pub NotCallable : Use → Enclosing → Type 0
  NotCallable (reads x) around = IsOnlyCalled x
  NotCallable (binds x) around = IsOnlyCalled x
  NotCallable (declares_macro x parameters body) around = IsOnlyCalled x
  NotCallable (binds_library n x) around = IsOnlyCalled x
  NotCallable (binds_macro n m x) around = IsOnlyCalled x
  NotCallable (calls f arguments pairs) around =
      CannotBeCalled (callee cenv.sources (given cenv.sources namespace) f) around
  NotCallable u around = ⊥

  -- V4: arguments do not fit, the arguments of a filter name something incorrectly, or a macro has
  -- a parameter twice.
  abbrev pub BadArguments : Use → Enclosing → Type 0
  BadArguments (calls f arguments pairs) around =
      callee_takes (callee cenv.sources (given cenv.sources namespace) f) arguments pairs ≡ false
  BadArguments (filters x arguments pairs) around =
      (filter_takes cenv.filters (cenv.filters.named x arguments pairs) (count arguments) (keywords pairs) ≡ false)
      ⊎ (names_rightly cenv.filters (cenv.filters.named x arguments pairs) arguments pairs ≡ false)
  BadArguments (tests x arguments pairs) around = test_takes (test_named x) arguments pairs ≡ false
  BadArguments (declares_macro x parameters body) around = IsTrue (repeated (parameter_names parameters))
  BadArguments u around = ⊥

  -- V5, for a macro: it has too many parameters.
  abbrev pub TooManyParameters : Use → Enclosing → Type 0
  TooManyParameters (declares_macro x parameters body) around = max_parameters < length parameters
  TooManyParameters u around = ⊥

  -- V5, for a template: it binds too many names, each counted as often as it is written.
  abbrev pub BindsTooMany : Template → Type 0
  BindsTooMany t = max_bindings < body_bound t.body

  -- Holds if a use of the chain has the property.
  abbrev pub Somewhere : (Use → Enclosing → Type 0) → Type 0
  Somewhere P = ForSome (λ s. P s.made s.place.around) (chain_uses cenv.sources namespace)

  -- Holds if the rule is broken in the chain or library.
  abbrev pub BrokenIn : ScopeError → Type 0
  BrokenIn error.LoopOutside = Somewhere LoopOutside
  BrokenIn error.MacroAsValue = Somewhere MacroAsValue
  BrokenIn error.NotCallable = Somewhere NotCallable
  BrokenIn error.BadArguments = Somewhere BadArguments
  BrokenIn error.TooManySlots =
      Somewhere TooManyParameters ⊎ ForSome BindsTooMany (templates cenv.sources namespace)
  BrokenIn error.NoMemory = ⊥

-- The number of names that these libraries read or bind.
abbrev pub libraries_counted : CompileEnv → List Text → ℕ
libraries_counted cenv [] = 0
libraries_counted cenv (n ∷ ns) =
    length (ascending (own_names cenv.sources (a_library n))) + libraries_counted cenv ns

-- The number of names that the chains read or bind. A name counts once for each chain that has it,
-- and again for each imported library that has it.
abbrev pub names_counted : CompileEnv → List Namespace → ℕ
names_counted cenv [] = 0
names_counted cenv (a_chain n ∷ rest) =
    length (ascending (own_names cenv.sources (a_chain n)))
    + libraries_counted cenv (ascending (libraries cenv.sources (a_chain n)))
    + names_counted cenv rest
names_counted cenv (a_library n ∷ rest) = names_counted cenv rest

-- Holds if the rule is broken in one of the chains and libraries, or, for V5, if the chains read or
-- bind too many names.
abbrev pub Broken : ScopeError → CompileEnv → List Namespace → Type 0
Broken error.TooManySlots cenv order =
    ForSome (λ h. BrokenIn cenv h error.TooManySlots) order
    ⊎ (max_names < names_counted cenv order)
Broken rule cenv order = ForSome (λ h. BrokenIn cenv h rule) order

-- Holds if no rule is broken.
pub record KeepsRules (cenv : CompileEnv) (order : List Namespace) : Type 0 where
  pub none : (rule : ScopeError) → Broken rule cenv order → ⊥

-- The meaning of an error. Its rule is broken; lack of memory breaks no rule.
abbrev pub Breaks : ScopeError → CompileEnv → List Namespace → Type 0
Breaks error.NoMemory cenv order = Unit {0}
Breaks rule cenv order = Broken rule cenv order

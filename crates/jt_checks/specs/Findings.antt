-- Findings: a rule of names and calls that is broken, in which template, at which line, and what it
-- is about. Holds says that a finding is true of chains and libraries.
use Rattle.std.specs.Prelude.{◌≡◌, ◌<◌, ◌⊎◌, ℕ, Bool, true, false, List, map, filter, slice_get, Option, Some, None}
use Rattle.jt_ast.specs.Expressions.{Expr, name, attribute, Text}
use Rattle.jt_chains.specs.Chain.{Namespace, namespace_name, Template, templates}
use Rattle.jt_chains.specs.Indices.{namespace_at}
use Rattle.jt_uses.specs.Uses as uses
use Rattle.jt_uses.specs.Uses.{Site, body_uses}
use Rattle.jt_uses.specs.declared.site.Enclosing.{Enclosing}
use Rattle.jt_rules.specs.CompileEnv.{CompileEnv}
use Rattle.jt_rules.specs.Rules.{ForSome, LoopOutside, MacroAsValue, NotCallable, BadArguments, TooManyParameters}
use Rattle.jt_rules.specs.Rules.{BindsTooMany, max_bindings, max_names, names_counted}
use Rattle.jt_rules.specs.declared.error.ScopeError.{ScopeError}
use Rattle.jt_rules.specs.declared.error.ScopeError.TheVariants as error

-- What a broken rule is about.
pub data Subject : Type 0 where
  -- A name that is read or bound.
  a_name : Text → Subject
  -- A field of `loop` that is read.
  a_loop_field : Text → Subject
  -- A callee that is a name.
  a_called_name : Text → Subject
  -- A callee that is a field of a name: the name, and the field.
  a_called_field : Text → Text → Subject
  -- A callee that is any other expression.
  a_called_expression : Subject
  -- A filter, a test and a macro that is declared, by their names.
  a_filter : Text → Subject
  a_test : Text → Subject
  a_macro : Text → Subject
  -- The number of names that a template binds.
  the_bindings : Subject
  -- The number of names that the chains read or bind.
  the_names : Subject

pub record Finding : Type 0 where
  pub rule : ScopeError
  pub template : Text
  pub line : ℕ
  pub subject : Subject

-- The callee of a call as a subject.
abbrev pub called : Expr → Subject
called (name x) = a_called_name x
called (attribute (name of) k) = a_called_field of k
called f = a_called_expression

-- What the rules of a use are about; None for a use without rules.
abbrev pub subject_of : uses.Use → Option Subject
subject_of (uses.reads x) = Some (a_name x)
subject_of (uses.binds x) = Some (a_name x)
subject_of (uses.reads_loop_field k) = Some (a_loop_field k)
subject_of (uses.calls f ts ps) = Some (called f)
subject_of (uses.filters x ts ps) = Some (a_filter x)
subject_of (uses.tests x ts ps) = Some (a_test x)
subject_of (uses.declares_macro x ps body) = Some (a_macro x)
subject_of (uses.declares_block x scoped required body) = None
subject_of (uses.includes n ignore_missing with_context) = None
subject_of (uses.imports n) = None
subject_of (uses.binds_library n x) = Some (a_name x)
subject_of (uses.binds_macro n m x) = Some (a_name x)
subject_of (uses.extends n) = None

-- True if the use binds a name that counts as a binding of its template.
abbrev pub is_binding : uses.Use → Bool
is_binding (uses.binds x) = true
is_binding u = false

abbrev pub binds_name : Site → Bool
binds_name s = is_binding s.made

-- The lines of the names that uses bind, in their order.
abbrev pub lines_bound : List Site → List ℕ
lines_bound ss = map (λ s. s.place.line) (filter binds_name ss)

module _ (cenv : CompileEnv) (namespace : Namespace) where
  -- Holds if a use of a template breaks the rule.
  abbrev pub BreaksAt : ScopeError → uses.Use → Enclosing → Type 0
  BreaksAt error.LoopOutside u around = LoopOutside cenv namespace u around
  BreaksAt error.MacroAsValue u around = MacroAsValue cenv namespace u around
  BreaksAt error.NotCallable u around = NotCallable cenv namespace u around
  BreaksAt error.BadArguments u around = BadArguments cenv namespace u around
  BreaksAt error.TooManySlots u around = TooManyParameters cenv namespace u around
  BreaksAt error.NoMemory u around = ⊥

  -- The use stands at the line of the finding, breaks its rule, and its rules are about the subject.
  pub record IsFoundAt (f : Finding) (s : Site) : Type 0 where
    pub line : s.place.line ≡ f.line
    pub broken : BreaksAt f.rule s.made s.place.around
    pub subject : subject_of s.made ≡ Some f.subject

  -- The template binds too many names. The line is that of the first one beyond the limit.
  pub record PassesBindings (f : Finding) (t : Template) : Type 0 where
    pub rule : f.rule ≡ error.TooManySlots
    pub broken : BindsTooMany cenv namespace t
    pub line : slice_get (lines_bound (body_uses t.body uses.outside)) max_bindings ≡ Some f.line
    pub subject : f.subject ≡ the_bindings

  -- The template is that of the finding. One of its uses is what the finding says, or the number of
  -- names that it binds is.
  pub record IsFoundIn (f : Finding) (t : Template) : Type 0 where
    pub template : t.name ≡ f.template
    pub found : ForSome (IsFoundAt f) (body_uses t.body uses.outside) ⊎ PassesBindings f t

-- The chains read or bind too many names. The finding is at the first line of the entry.
pub record PassesNames (f : Finding) (cenv : CompileEnv) (order : List Namespace) : Type 0 where
  pub rule : f.rule ≡ error.TooManySlots
  pub broken : max_names < names_counted cenv order
  pub template : f.template ≡ namespace_name (namespace_at order 0)
  pub line : f.line ≡ 1
  pub subject : f.subject ≡ the_names

-- The finding is true of one of the templates of a chain or library, or of the number of names of
-- all chains.
abbrev pub Holds : Finding → CompileEnv → List Namespace → Type 0
Holds f cenv order =
    ForSome (λ h. ForSome (IsFoundIn cenv h f) (templates cenv.sources h)) order ⊎ PassesNames f cenv order

-- What a finding says of an entry in a library: the tag that breaks a rule, and what the rule is
-- broken in. `Rules` of jt_chains defines the rules.
use Rattle.std.specs.Prelude.{◌≡◌, ◌⊎◌, ◌<◌, ◌+◌, ◌==◌, ℕ, Bool, false, true, not, ◌&&◌, ◌||◌, IsTrue, List, [], ◌∷◌}
use Rattle.std.specs.Prelude.{drop, map, filter, flat_map, length, slice_get, Option, Some, None, string_bytes}
use Rattle.std.specs.List.{AllByRecursion}
use Rattle.std.specs.Option.{is_some, is_none, option_eq}
use Rattle.std.specs.Str.{bytes_eq}
use Rattle.jt_scan.specs.declared.options.Options.{Options}
use Rattle.jt_ast.specs.Expressions.{Text}
use Rattle.jt_ast.specs.Texts.{among, repeated}
use Rattle.jt_uses.specs.Uses as uses
use Rattle.jt_uses.specs.Uses.{Use, Site, body_uses, outside}
use Rattle.jt_chains.specs.Chain.{Sources, Namespace, namespace_name, a_chain, a_library, listed, Template, templates}
use Rattle.jt_chains.specs.Chain.{max_templates, names_up, is_a_library, macros, public_macro}
use Rattle.jt_chains.specs.Includes.{included}
use Rattle.jt_chains.specs.Names.{IsName}
use Rattle.jt_chains.specs.Supers.{super_line}
use Rattle.jt_chains.specs.Rules.{Somewhere, Reaches, extends_path, is_whole, max_chains}
use Rattle.jt_inherit.specs.Chains.{SourceTexts}
use Rattle.jt_inherit.specs.Lines as lines
use Rattle.jt_inherit.specs.Refusals.{Shows, Breaks}
use Rattle.jt_inherit.specs.declared.error.ChainError.{ChainError}
use Rattle.jt_inherit.specs.declared.error.ChainError.TheVariants as error
use Rattle.jt_inherit.specs.declared.finding.ChainFinding.{ChainFinding}
use Rattle.jt_inherit.specs.declared.finding.ChainSubject.{ChainSubject}
use Rattle.jt_inherit.specs.declared.finding.ChainSubject.TheVariants as v
use Rattle.jt_inherit.specs.declared.finding.TagPlace.{TagPlace}

-- ---- the tags of templates

-- The property holds of one of the items.
abbrev pub ForSome : {A : Type 0} → (A → Type 0) → List A → Type 0
ForSome P [] = ⊥
ForSome P (x ∷ xs) = P x ⊎ ForSome P xs

-- One item has the first property, and a later one has the second.
abbrev pub InTurn : {A : Type 0} → (A → Type 0) → (A → Type 0) → List A → Type 0
InTurn P Q [] = ⊥
InTurn P Q (x ∷ xs) = (P x × ForSome Q xs) ⊎ InTurn P Q xs

-- The uses of templates, each with the name of its template, in the order of the source.
abbrev pub uses_in : Template → List (Text × Site)
uses_in t = map (λ s. (t.name, s)) (body_uses t.body outside)

abbrev pub all_uses : List Template → List (Text × Site)
all_uses = flat_map uses_in

-- The use passes the test, and its tag is at the place.
abbrev pub IsAt : (Use → Bool) → TagPlace → Text × Site → Type 0
IsAt test p x =
    (string_bytes p.template ≡ x.0) × (p.line ≡ x.1.place.line) × IsTrue (test x.1.made)

-- A tag at the place has such a use.
abbrev pub HasTag : (Use → Bool) → List Template → TagPlace → Type 0
HasTag test ts p = ForSome (IsAt test p) (all_uses ts)

-- Two tags have such a use, the first one at one place and the later one at the other.
abbrev pub HasTwoTags : (Use → Bool) → List Template → TagPlace → TagPlace → Type 0
HasTwoTags test ts first later = InTurn (IsAt test first) (IsAt test later) (all_uses ts)

-- ---- tests of uses

-- The use asks for the template: it extends, includes or imports it. An include that ignores a
-- missing template counts only if `all` is true.
abbrev pub asks : Bool → Text → Use → Bool
asks all n (uses.extends m) = bytes_eq m n
asks all n (uses.includes m ignoring with_context) = (all || not ignoring) && bytes_eq m n
asks all n (uses.imports m) = bytes_eq m n
asks all n u = false

abbrev pub is_extends : Text → Use → Bool
is_extends n (uses.extends m) = bytes_eq m n
is_extends n u = false

abbrev pub is_import : Text → Use → Bool
is_import n (uses.imports m) = bytes_eq m n
is_import n u = false

abbrev pub is_include : Text → Use → Bool
is_include n (uses.includes m ignoring with_context) = bytes_eq m n
is_include n u = false

-- The use leads to the chain or library.
abbrev pub leads_to : Namespace → Use → Bool
leads_to (a_chain n) = is_include n
leads_to (a_library n) = is_import n

-- The use binds a name to the macro of the library.
abbrev pub binds_macro : Text → Text → Use → Bool
binds_macro library x (uses.binds_macro m y alias) = bytes_eq m library && bytes_eq y x
binds_macro library x u = false

-- The use is a block of the name.
abbrev pub is_block : Text → Use → Bool
is_block x (uses.declares_block y scoped required body) = bytes_eq y x
is_block x u = false

-- The use defines the name: it is a macro of this name, or an import binds the name.
abbrev pub defines : Text → Use → Bool
defines x (uses.declares_macro y ps body) = bytes_eq y x
defines x (uses.binds_library m y) = bytes_eq y x
defines x (uses.binds_macro m macro_name y) = bytes_eq y x
defines x u = false

-- The blocks of the name in the templates, with their tags.
abbrev pub blocks_named : Text → List Template → List (Text × Site)
blocks_named x ts = filter (λ s. is_block x s.1.made) (all_uses ts)

-- The use is a required block.
abbrev pub is_required : Use → Bool
is_required (uses.declares_block y scoped required body) = required
is_required u = false

-- The use is a block. The first tag of its body that calls `super()` is at the line.
abbrev pub calls_super_at : ℕ → Use → Bool
calls_super_at line (uses.declares_block y scoped required body) =
    option_eq (λ a b. a == b) (super_line body) (Some line)
calls_super_at line u = false

-- The nearest block of the name is at the place, and is a required one.
pub record IsNotGiven (ts : List Template) (x : Text) (p : TagPlace) : Type 0 where
  pub tag : Text × Site
  pub nearest : slice_get (blocks_named x ts) 0 ≡ Some tag
  pub required : IsAt is_required p tag

-- The first tag of the body of a block of the name that calls `super()` is at the place. Each further
-- block of the name is required.
pub record HasNoSuper (ts : List Template) (x : Text) (opened p : TagPlace) : Type 0 where
  pub number : ℕ
  pub tag : Text × Site
  pub there : slice_get (blocks_named x ts) number ≡ Some tag
  pub calls : IsAt (calls_super_at p.line) opened tag
  pub template : string_bytes p.template ≡ string_bytes opened.template
  pub last : AllByRecursion (λ s. IsTrue (is_required s.1.made)) (drop (number + 1) (blocks_named x ts))

-- ---- what a finding says

-- The last one of a name and further names.
abbrev pub last_of : Text → List Text → Text
last_of x [] = x
last_of x (y ∷ ys) = last_of y ys

-- Each chain or library leads to the next one, and the last one is the target.
abbrev pub LeadsTo : Sources → Namespace → List Namespace → Namespace → Type 0
LeadsTo sources first [] target = first ≡ target
LeadsTo sources first (next ∷ rest) target =
    IsTrue (listed next (included sources first)) × LeadsTo sources next rest target

module _ (given : SourceTexts) (sources : Sources) (escaping : Bool) (entry namespace : Namespace) where
  -- The templates of the chain or library.
  abbrev pub its_own : List Template
  its_own = templates sources namespace

  -- The tag leads to a chain or library, and this one to the chain or library of the tag, through
  -- those of the names.
  pub record IsRing (name : Text) (rest : List Text) (p : TagPlace) : Type 0 where
    pub next : Namespace
    pub others : List Namespace
    pub first_name : namespace_name next ≡ name
    pub other_names : map namespace_name others ≡ rest
    pub tag : HasTag (leads_to next) its_own p
    pub led : IsTrue (listed next (included sources namespace))
    pub back : LeadsTo sources next others namespace

  -- More than 1,024 chains are reached, and this one is among them.
  pub record ReachesTooMany (n : Text) : Type 0 where
    pub names : List Text
    pub many : max_chains < length names
    pub once : repeated names ≡ false
    pub reached : (m : Text) → IsTrue (among m names) → Reaches sources escaping entry (a_chain m)
    pub this_one : IsTrue (among n names)

  -- The chain or library has a tag at the place that breaks the rule in the subject.
  abbrev pub IsBrokenAt : ChainError → TagPlace → ChainSubject → Type 0
  -- The tag asks for a name that has no source.
  IsBrokenAt error.Missing p (v.Template n) =
      HasTag (asks false (string_bytes n)) its_own p × (given (string_bytes n) ≡ None)
  -- The tag asks for a name that is not valid.
  IsBrokenAt error.BadName p (v.Template n) =
      HasTag (asks true (string_bytes n)) its_own p × (IsName (string_bytes n) → ⊥)
  -- The tag extends a template. The names from it to the template of the tag are those of the path.
  IsBrokenAt error.ExtendsCycle p (v.Ring n rest) =
      HasTag (is_extends (string_bytes n)) its_own p
      × (names_up sources (length rest.items + 1) (Some (string_bytes n))
      ≡ string_bytes n ∷ map string_bytes rest.items)
      × (string_bytes p.template ≡ last_of (string_bytes n) (map string_bytes rest.items))
  -- The tag extends the 65th template of the path. The names before it differ.
  IsBrokenAt error.ChainTooLong p (v.Templates n) =
      HasTag (is_extends (string_bytes n)) its_own p
      × (slice_get (extends_path sources escaping namespace) max_templates ≡ Some (string_bytes n))
      × (repeated (extends_path sources escaping namespace) ≡ false)
  -- The tag includes a template whose chain is one of more than 1,024.
  IsBrokenAt error.ChainTooLong p (v.Chains n) =
      HasTag (is_include (string_bytes n)) its_own p × ReachesTooMany (string_bytes n)
  -- The tag is the later one of two blocks of one name in a template.
  IsBrokenAt error.DoubleBlock p (v.BlockTwice x first) =
      ForSome (λ t. HasTwoTags (is_block (string_bytes x)) (t ∷ []) first p) its_own
  -- The tag is the nearest block of the name, and is a required one.
  IsBrokenAt error.RequiredNotGiven p (v.Block x) = IsNotGiven its_own (string_bytes x) p
  -- The tag calls `super()` in a block that has no next body.
  IsBrokenAt error.NoSuper p (v.Super x opened) =
      IsTrue (is_whole sources escaping namespace) × HasNoSuper its_own (string_bytes x) opened p
  -- The tag leads to a chain or library that leads back to this one.
  IsBrokenAt error.IncludeCycle p (v.Ring n rest) = IsRing (string_bytes n) (map string_bytes rest.items) p
  -- The tag is the later one of two that define one name.
  IsBrokenAt error.MacroTwice p (v.NameTwice x first) = HasTwoTags (defines (string_bytes x)) its_own first p
  -- The tag imports a macro that the library does not offer.
  IsBrokenAt error.NoMacro p (v.Macro library x) =
      HasTag (binds_macro (string_bytes library) (string_bytes x)) its_own p
      × IsTrue (is_a_library (sources (string_bytes library))
      && is_none (public_macro (string_bytes x) (macros sources (a_library (string_bytes library)))))
  -- The tag imports a template that holds something other than macros.
  IsBrokenAt error.NotALibrary p (v.Template n) =
      HasTag (is_import (string_bytes n)) its_own p
      × IsTrue (is_some (sources (string_bytes n)) && not (is_a_library (sources (string_bytes n))))
  IsBrokenAt e p x = ⊥

-- The errors that come without a tag and a subject: lack of memory, and an error of a source, which
-- has a place of its own.
abbrev pub may_be_bare : ChainError → Bool
may_be_bare error.NoMemory = true
may_be_bare (error.Scan name e) = true
may_be_bare (error.Parse name e) = true
may_be_bare e = false

module _ (given : SourceTexts) (entry : Text) (options : Options) where
  -- The entry's own name, for which no tag asks, has no source or is not valid.
  abbrev pub IsOfEntry : ChainError → ChainSubject → Type 0
  IsOfEntry error.Missing (v.Template n) = (string_bytes n ≡ entry) × (given entry ≡ None)
  IsOfEntry error.BadName (v.Template n) = (string_bytes n ≡ entry) × (IsName entry → ⊥)
  IsOfEntry e x = ⊥

  -- What is said of the place and the subject is true. The templates that were read show it, in a
  -- chain or library that the entry reaches. A place without a subject is that of a source that
  -- spells no tree.
  abbrev pub Says : Option TagPlace → Option ChainSubject → ChainError → Type 0
  Says None None e = IsTrue (may_be_bare e)
  Says (Some p) None e = lines.place e ≡ Some (string_bytes p.template, p.line)
  Says None (Some x) e = IsOfEntry e x
  Says (Some p) (Some x) e =
      Shows given options (λ sources.
      Somewhere sources options.autoescape (a_chain entry) (λ namespace.
      IsBrokenAt given sources options.autoescape (a_chain entry) namespace e p x))

  -- The finding is true: the rule is broken, and what is said of the place and the subject holds.
  pub record IsFinding (f : ChainFinding) : Type 0 where
    pub broken : Breaks f.error given entry options
    pub says : Says f.place f.subject f.error

-- The finding has the error alone.
abbrev pub IsBare : ChainError → ChainFinding → Type 0
IsBare e f = f ≡ record { error = e; place = None; subject = None }

-- The finding is lack of memory.
abbrev pub IsNoMemory : ChainFinding → Type 0
IsNoMemory = IsBare error.NoMemory

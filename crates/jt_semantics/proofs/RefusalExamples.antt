-- Examples of templates that the static rules refuse. The entry is `t`.
use Rattle.std.proofs.Common.{◌≡◌, refl, sym}
use Rattle.std.specs.Prelude.{true, false, List, [], ◌∷◌, codes, Some, None}
use mathlib.Core.Logic.{inl, inr}
use Rattle.jt_rules.specs.declared.error.ScopeError.{ScopeError}
use Rattle.jt_rules.specs.declared.error.ScopeError.TheVariants as error
use Rattle.jt_ast.specs.Expressions.{no_exprs, no_pairs, Text}
use Rattle.jt_ast.specs.Statements.{Body, end}
use Rattle.jt_rules.specs.Rules.{Broken}
use Rattle.jt_chains.specs.Chain.{Sources, Namespace, a_chain, a_library}
use Rattle.jt_chains.specs.Includes.{InOrder}
use Rattle.jt_chains.specs.Rules.{here, through, Missing, ExtendsCycle, DoubleBlock, RequiredNotGiven, NoSuper}
use Rattle.jt_chains.specs.Rules.{IncludeCycle, MacroTwice, NoMacro, NotALibrary}
use Rattle.jt_semantics.proofs.TestTemplates.{name, num, listing, call, Call, pair, of, Filter, body, print, For, block}
use Rattle.jt_semantics.proofs.TestTemplates.{Block, Macro, Include, Import, From, chars, extends, parameter, exprs}
use Rattle.jt_semantics.proofs.TestTemplates.{source, cenv}
use Rattle.jt_semantics.proofs.EnvLookup.{is_same, no_both}

abbrev among_these : List (Text × Body) → Sources
among_these ss = (cenv ss).sources

abbrev entry : Namespace
entry = a_chain (codes "t")

abbrev the_library : Namespace
the_library = a_library (codes "l")

abbrev Breaks : List (Text × Body) → ScopeError → Type 0
Breaks ss rule = Broken rule (cenv ss) (entry ∷ [])

differs : true ≡ false → ⊥
differs e = absurd (cc)

is_some : {A : Type 0} (x : A) → Some x ≡ None → ⊥
is_some x e = absurd (cc)

-- A macro is read as a value in `{% macro m(a) %}{% endmacro %}{{ m }}`.
macro_read : Breaks (source "t" (Macro 1 (codes "m") (parameter "a" ∷ []) end ∷ print (name "m") ∷ []) ∷ [])
    error.MacroAsValue
macro_read = inl (inr (inr (inl refl)))

-- Calls of the macro of `macro_read`: `{{ m(1, 2) }}`, `{{ m(b=1) }}`, `{{ m(1, a=2) }}` and `{{
-- m(1) }}`.
too_many : Breaks
    (source "t" (Macro 1 (codes "m") (parameter "a" ∷ []) end ∷ print (call (name "m") (num 1 ∷ num 2 ∷ [])) ∷ []) ∷ [])
    error.BadArguments
too_many = inl (inr (inr (inl refl)))

unknown_keyword : Breaks (source "t" (Macro 1 (codes "m") (parameter "a" ∷ []) end
    ∷ print (Call (name "m") no_exprs (pair (codes "b") (num 1) no_pairs)) ∷ []) ∷ [])
    error.BadArguments
unknown_keyword = inl (inr (inr (inl refl)))

filled_twice : Breaks (source "t" (Macro 1 (codes "m") (parameter "a" ∷ []) end
    ∷ print (Call (name "m") (exprs (num 1 ∷ [])) (pair (codes "a") (num 2) no_pairs)) ∷ []) ∷ [])
    error.BadArguments
filled_twice = inl (inr (inr (inl refl)))

fits : Breaks
    (source "t" (Macro 1 (codes "m") (parameter "a" ∷ []) end ∷ print (call (name "m") (num 1 ∷ [])) ∷ []) ∷ [])
    error.BadArguments → ⊥
fits (inl (inl e)) = differs (sym e)
fits (inl (inr (inl e))) = e
fits (inl (inr (inr (inl e)))) = differs e
fits (inl (inr (inr (inr e)))) = e
fits (inr e) = e

-- A parameter occurs twice in `{% macro m(a, a) %}{% endmacro %}`.
one_parameter_twice : Breaks (source "t" (Macro 1 (codes "m") (parameter "a" ∷ parameter "a" ∷ []) end ∷ []) ∷ [])
    error.BadArguments
one_parameter_twice = inl (inl refl)

-- Reads of `{{ loop }}`, and of `{{ loop.index }}` outside a loop, in its condition, and in its
-- body.
loop_alone : Breaks (source "t" (print (name "loop") ∷ []) ∷ []) error.LoopOutside
loop_alone = inl (inl refl)

loop_outside : Breaks (source "t" (print (of (name "loop") "index") ∷ []) ∷ []) error.LoopOutside
loop_outside = inl (inl (inl refl))

loop_in_a_condition : Breaks
    (source "t" (For 1 (codes "x" ∷ []) (listing []) (Some (of (name "loop") "index")) end end ∷ []) ∷ [])
    error.LoopOutside
loop_in_a_condition = inl (inr (inl (inl refl)))

loop_in_a_body : Breaks
    (source "t" (For 1 (codes "x" ∷ []) (listing []) None (body (print (of (name "loop") "index") ∷ [])) end ∷ []) ∷ [])
    error.LoopOutside → ⊥
loop_in_a_body (inl (inl e)) = no_both (is_same (codes "x") (codes "loop") e) refl
loop_in_a_body (inl (inr (inl (inl e)))) = differs e
loop_in_a_body (inl (inr (inl (inr e)))) = is_some _ e
loop_in_a_body (inl (inr (inr e))) = e
loop_in_a_body (inr e) = e

-- A read of `{{ super }}`, and calls without a valid callee: `{{ f(1) }}`, `{{ self.b() }}` without
-- such a block, and `{{ super() }}` outside a block.
calls_nothing : Breaks (source "t" (print (call (name "f") (num 1 ∷ [])) ∷ []) ∷ []) error.NotCallable
calls_nothing = inl (inl tt)

calls_no_block : Breaks (source "t" (print (call (of (name "self") "b") []) ∷ []) ∷ []) error.NotCallable
calls_no_block = inl (inl refl)

super_outside : Breaks (source "t" (print (call (name "super") []) ∷ []) ∷ []) error.NotCallable
super_outside = inl (inl refl)

super_read : Breaks (source "t" (print (name "super") ∷ []) ∷ []) error.NotCallable
super_read = inl (inl (inr (inl refl)))

-- Arguments of functions and filters: `{{ range() }}`, `{{ 1|d(boolean=true) }}` and `{{
-- 1|d(wrong=true) }}`.
range_of_nothing : Breaks (source "t" (print (call (name "range") []) ∷ []) ∷ []) error.BadArguments
range_of_nothing = inl (inl refl)

filter_keyword : Breaks
    (source "t" (print (Filter (num 1) (codes "d") no_exprs (pair (codes "boolean") (num 1) no_pairs)) ∷ []) ∷ [])
    error.BadArguments → ⊥
filter_keyword (inl (inl (inl e))) = differs e
filter_keyword (inl (inl (inr e))) = differs e
filter_keyword (inl (inr e)) = e
filter_keyword (inr e) = e

filter_wrong_keyword : Breaks
    (source "t" (print (Filter (num 1) (codes "d") no_exprs (pair (codes "wrong") (num 1) no_pairs)) ∷ []) ∷ [])
    error.BadArguments
filter_wrong_keyword = inl (inl (inl refl))

-- The included template does not exist in `{% include "no" %}`.
no_source : Missing (among_these (source "t" (Include 1 (codes "no") false true ∷ []) ∷ [])) true entry
no_source = (entry, here, refl)

-- The entry `t` includes itself: `{% include "t" %}`.
include_of_itself : IncludeCycle (among_these (source "t" (Include 1 (codes "t") false true ∷ []) ∷ [])) true entry
include_of_itself = (entry, here, (entry, refl, here))

-- A macro is declared twice: `{% macro m() %}{% endmacro %}{% macro m() %}{% endmacro %}`.
macro_twice : MacroTwice (among_these (source "t" (Macro 1 (codes "m") [] end ∷ Macro 1 (codes "m") [] end ∷ []) ∷ []))
    true entry
macro_twice = (entry, here, refl)

-- The entry `t` extends itself: `{% extends "t" %}`.
extends_itself : ExtendsCycle (among_these (source "t" (extends "t" ∷ []) ∷ [])) true entry
extends_itself = (entry, here, (codes "t", refl, 2, refl))

-- A block occurs twice: `{% block t %}{% endblock %}{% block t %}{% endblock %}`.
block_twice : DoubleBlock (among_these (source "t" (block "t" [] ∷ block "t" [] ∷ []) ∷ [])) true entry
block_twice = (entry, here, refl)

-- A required block has no other body: `{% block t required %}{% endblock %}`.
required_alone : RequiredNotGiven (among_these (source "t" (Block 1 (codes "t") false true end ∷ []) ∷ [])) true entry
required_alone = (entry, here, refl)

-- A body has no body that `super()` could call: `{% block t %}{{ super() }}{% endblock %}`.
super_of_nothing : NoSuper (among_these (source "t" (block "t" (print (call (name "super") []) ∷ []) ∷ []) ∷ [])) true
    entry
super_of_nothing = (entry, here, refl)

-- The entry `t` includes `p`, and `p` includes `q`. In this order each one precedes the template
-- that it includes.
in_order : InOrder (among_these (source "t" (Include 1 (codes "p") false true ∷ [])
    ∷ source "p" (Include 1 (codes "q") false true ∷ []) ∷ source "q" [] ∷ []))
    (a_chain (codes "t") ∷ a_chain (codes "p") ∷ a_chain (codes "q") ∷ [])
in_order = (refl, ((refl, tt), (refl, ((refl, tt), (refl, (tt, tt))))))

-- ---- Imports

-- The library l is `{% macro b(t) %}{% endmacro %}`.
abbrev with_b : List (Text × Body)
with_b = source "l" (Macro 1 (codes "b") (parameter "t" ∷ []) end ∷ []) ∷ []

-- A library is read as a value in `{% import "l" as f %}{{ f }}`.
library_read : Breaks (source "t" (Import "l" "f" ∷ print (name "f") ∷ []) ∷ with_b) error.MacroAsValue
library_read = inl (inr (inr (inl refl)))

-- Calls after `{% import "l" as f %}`: `{{ f.z() }}`, `{{ f() }}`, `{{ f.b(1, 2) }}` and `{{ f.b(1)
-- }}`.
no_macro_called : Breaks (source "t" (Import "l" "f" ∷ print (call (of (name "f") "z") []) ∷ []) ∷ with_b)
    error.NotCallable
no_macro_called = inl (inr (inr (inl tt)))

library_called : Breaks (source "t" (Import "l" "f" ∷ print (call (name "f") []) ∷ []) ∷ with_b)
    error.NotCallable
library_called = inl (inr (inr (inl tt)))

too_many_for_a_library : Breaks
    (source "t" (Import "l" "f" ∷ print (call (of (name "f") "b") (num 1 ∷ num 2 ∷ [])) ∷ []) ∷ with_b)
    error.BadArguments
too_many_for_a_library = inl (inr (inr (inl refl)))

fits_a_library : Breaks (source "t" (Import "l" "f" ∷ print (call (of (name "f") "b") (num 1 ∷ [])) ∷ []) ∷ with_b)
    error.BadArguments → ⊥
fits_a_library (inl (inl e)) = e
fits_a_library (inl (inr (inl e))) = e
fits_a_library (inl (inr (inr (inl e)))) = differs e
fits_a_library (inl (inr (inr (inr e)))) = e
fits_a_library (inr e) = e

-- Reads and calls after `{% from "l" import b as c %}`: `{{ c }}`, `{{ b(1) }}` and `{{ c(1) }}`.
given_read : Breaks (source "t" (From "l" ((codes "b", codes "c") ∷ []) ∷ print (name "c") ∷ []) ∷ with_b)
    error.MacroAsValue
given_read = inl (inr (inr (inl refl)))

not_given : Breaks
    (source "t" (From "l" ((codes "b", codes "c") ∷ []) ∷ print (call (name "b") (num 1 ∷ [])) ∷ []) ∷ with_b)
    error.NotCallable
not_given = inl (inr (inr (inl tt)))

given_called : Breaks
    (source "t" (From "l" ((codes "b", codes "c") ∷ []) ∷ print (call (name "c") (num 1 ∷ [])) ∷ []) ∷ with_b)
    error.BadArguments → ⊥
given_called (inl (inl e)) = e
given_called (inl (inr (inl e))) = e
given_called (inl (inr (inr (inl e)))) = differs e
given_called (inl (inr (inr (inr e)))) = e
given_called (inr e) = e

-- Imports that bind reserved names: `{% import "l" as loop %}` and `{% from "l" import b as range
-- %}`.
loop_given : Breaks (source "t" (Import "l" "loop" ∷ []) ∷ with_b) error.LoopOutside
loop_given = inl (inr (inl refl))

range_given : Breaks (source "t" (From "l" ((codes "b", codes "range") ∷ []) ∷ []) ∷ with_b) error.NotCallable
range_given = inl (inr (inl (inr (inr refl))))

-- The library has no macro z for `{% from "l" import z %}`.
no_such_macro : NoMacro (among_these (source "t" (From "l" ((codes "z", codes "z") ∷ []) ∷ []) ∷ with_b)) true entry
no_such_macro = (entry, here, (codes "t", refl, refl))

-- A private macro is imported by `{% from "l" import _p %}` from l, `{% macro _p() %}{% endmacro
-- %}`.
private_macro : NoMacro (among_these
    (source "t" (From "l" ((codes "_p", codes "_p") ∷ []) ∷ []) ∷ source "l" (Macro 1 (codes "_p") [] end ∷ []) ∷ []))
    true entry
private_macro = (entry, here, (codes "t", refl, refl))

-- A template with text is no library: `{% import "l" as f %}`, and l is `x`.
no_library : NotALibrary (among_these (source "t" (Import "l" "f" ∷ []) ∷ source "l" (chars "x" ∷ []) ∷ [])) true entry
no_library = (the_library, through refl here, (codes "l", refl, refl))

-- A name is bound twice by `{% import "l" as f %}{% from "l" import b as f %}`.
given_twice : MacroTwice
    (among_these (source "t" (Import "l" "f" ∷ From "l" ((codes "b", codes "f") ∷ []) ∷ []) ∷ with_b)) true entry
given_twice = (entry, here, refl)

-- The imported template does not exist in `{% import "no" as f %}`.
no_library_source : Missing (among_these (source "t" (Import "no" "f" ∷ []) ∷ [])) true entry
no_library_source = (entry, here, refl)

-- A library includes the entry `t`, which is `{% import "l" as f %}`. The library l is `{% macro
-- b() %}{% include "t" %}{% endmacro %}`.
include_in_a_library : IncludeCycle (among_these (source "t" (Import "l" "f" ∷ [])
    ∷ source "l" (Macro 1 (codes "b") [] (body (Include 1 (codes "t") false true ∷ [])) ∷ []) ∷ [])) true entry
include_in_a_library = (entry, here, (the_library, refl, through refl here))

-- The entry `t` imports `l`, whose macro includes `p`. In this order each one precedes the
-- templates that it leads to.
imports_in_order : InOrder (among_these (source "t" (Import "l" "f" ∷ [])
    ∷ source "l" (Macro 1 (codes "b") [] (body (Include 1 (codes "p") false true ∷ [])) ∷ []) ∷ source "p" [] ∷ []))
    (entry ∷ the_library ∷ a_chain (codes "p") ∷ [])
imports_in_order = (refl, ((refl, tt), (refl, ((refl, tt), (refl, (tt, tt))))))

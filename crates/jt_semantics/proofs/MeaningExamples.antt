-- Examples that are computed from the definitions by names, and by the slots of the entry's
-- program. The entry is `t`, escaping is on, and calls are at most 9 deep. The last examples have
-- both settings of strict templates.
use Rattle.std.proofs.Common.{◌≡◌, ℕ, List, map, refl}
use Rattle.std.specs.Prelude.{pos, true, false, [], ◌∷◌, codes, Some, None}
use Rattle.std.specs.Fmt.{digits}
use Prim.Native.String.{String}
use Rattle.std.specs.Str.{chars as characters}
use Rattle.jt_value.specs.Tree as v
use Rattle.jt_value.specs.View.{items_of}
use Rattle.jt_value.specs.declared.fault.Fault.TheVariants.{Undefined, Unpack, ZeroDivide}
use Rattle.jt_value.specs.Pairs.{Pairs}
use Rattle.jt_ast.specs.Expressions as e
use Rattle.jt_ast.specs.Expressions.{Expr, Text, no_exprs, no_pairs}
use Rattle.jt_ast.specs.declared.expression.BinaryOperator.TheVariants as o
use Rattle.jt_eval.specs.Eval.{Eval, gives, fails}
use Rattle.jt_eval.specs.Tests.{test_named}
use Rattle.jt_ast.specs.Statements.{FilterCall, Stmt, Body, end}
use Rattle.jt_semantics.proofs.TestTemplates.{name, num, str, exprs, listing, call, Call, pair, of, Filter, Test}
use Rattle.jt_semantics.proofs.TestTemplates.{Binary, body, chars, print, Print, set, Set, SetBlock, With, FilterBlock}
use Rattle.jt_semantics.proofs.TestTemplates.{Autoescape, For, when, block, Block, Macro, Include, Import, From}
use Rattle.jt_semantics.proofs.TestTemplates.{extends, parameter, source, Example, shows, faults_at, is_deeper}
use Rattle.jt_semantics.proofs.TestTemplates.{meaning_of, resolved_meaning, strict_meaning_of, strict_resolved_meaning}

-- Templates with the context of the entry, and its outcome.
abbrev examples : List Example
examples =
    -- A loop visits the items that pass its condition: `{% for x in xs if x > 5 %}{{ loop.index }}:{{ x
    -- }} {% else %}none{% endfor %}`.
    shows (source "t" (For 1 (codes "x" ∷ []) (name "xs") (Some (Binary 15 (name "x") (num 5)))
    (body (print (of (name "loop") "index") ∷ chars ":" ∷ print (name "x") ∷ chars " " ∷ [])) (body (chars "none" ∷ []))
    ∷ []) ∷ [])
    ((codes "xs", v.list (items_of (v.number (pos 6) ∷ v.number (pos 1) ∷ v.number (pos 7) ∷ []))) ∷ []) "1:6 2:7 "
    -- The `else` part of the loop above is printed if no item passes the condition.
    ∷ shows (source "t"
    (For 1 (codes "x" ∷ []) (name "xs") (Some (Binary 15 (name "x") (num 5)))
    (body (print (of (name "loop") "index") ∷ chars ":" ∷ print (name "x") ∷ chars " " ∷ [])) (body (chars "none" ∷ []))
    ∷ []) ∷ [])
    ((codes "xs", v.list (items_of (v.number (pos 1) ∷ []))) ∷ []) "none"
    -- A `set` in a loop's body is local to a turn: `{% set x = 1 %}{% for i in [1, 2] %}{{ x }}{% set x
    -- = 9 %}{% endfor %}{{ x }}`.
    ∷ shows (source "t" (set "x" (num 1)
    ∷ For 1 (codes "i" ∷ []) (listing (num 1 ∷ num 2 ∷ [])) None (body (print (name "x") ∷ set "x" (num 9) ∷ [])) end
    ∷ print (name "x") ∷ []) ∷ []) ([]) "111"
    -- A call of `super()` prints the body of the base: `[{% block t %}base{% endblock %}]` is base, and
    -- t is `{% extends "base" %}{% block t %}{{ super() }}+child{% endblock %}`.
    ∷ shows (source "t"
    (extends "base" ∷ block "t" (print (call (name "super") []) ∷ chars "+child" ∷ []) ∷ [])
    ∷ source "base" (chars "[" ∷ block "t" (chars "base" ∷ []) ∷ chars "]" ∷ []) ∷ []) ([])
    "[base+child]"
    -- A block without `scoped` does not see a loop's target: `{% for i in [1] %}{% block b %}{{ i }}{%
    -- endblock %}{% endfor %}`.
    ∷ shows (source "t" (For 1 (codes "i" ∷ []) (listing (num 1 ∷ [])) None
    (body (Block 1 (codes "b") false false (body (print (name "i") ∷ [])) ∷ [])) end ∷ []) ∷ []) ([]) ""
    -- A block with `scoped` sees a loop's target: `{% for i in [1] %}{% block b scoped %}{{ i }}{%
    -- endblock %}{% endfor %}`.
    ∷ shows (source "t" (For 1 (codes "i" ∷ []) (listing (num 1 ∷ [])) None
    (body (Block 1 (codes "b") true false (body (print (name "i") ∷ [])) ∷ [])) end ∷ []) ∷ []) ([]) "1"
    -- An unknown name prints nothing: `{{ nope }}`.
    ∷ shows (source "t" (print (name "nope") ∷ []) ∷ []) ([]) ""
    -- An item of undefined is a fault: `{{ nope.x }}`.
    ∷ faults_at (source "t" (print (of (name "nope") "x") ∷ []) ∷ []) ([]) Undefined "t" 1
    -- A macro that calls itself calls too deep: `{% macro m() %}{{ m() }}{% endmacro %}{{ m() }}`.
    ∷ is_deeper (source "t"
    (Macro 1 (codes "m") [] (body (print (call (name "m") []) ∷ [])) ∷ print (call (name "m") []) ∷ []) ∷ []) ([])
    -- Several targets take the items of a list: `{% set a, b = [1, 2] %}{{ b }}{{ a }}`.
    ∷ shows (source "t"
    (Set 1 (codes "a" ∷ codes "b" ∷ []) (listing (num 1 ∷ num 2 ∷ [])) ∷ print (name "b") ∷ print (name "a") ∷ []) ∷ [])
    ([]) "21"
    -- Two targets and one item are a fault, in the template above with `[1]`.
    ∷ faults_at (source "t"
    (Set 1 (codes "a" ∷ codes "b" ∷ []) (listing (num 1 ∷ [])) ∷ print (name "b") ∷ print (name "a") ∷ []) ∷ []) ([])
    Unpack "t" 1
    -- The values of `with` read the outer names: `{% set a = 1 %}{% with a = 2, b = a %}{{ a }}{{ b
    -- }}{% endwith %}{{ a }}`.
    ∷ shows (source "t" (set "a" (num 1)
    ∷ With 1 (pair (codes "a") (num 2) (pair (codes "b") (name "a") no_pairs))
    (body (print (name "a") ∷ print (name "b") ∷ [])) ∷ print (name "a") ∷ []) ∷ []) ([]) "211"
    -- An include sees a loop's target: p is `<{{ i }}>`, and t is `{% for i in [1, 2] %}{% include "p"
    -- %}{% endfor %}`.
    ∷ shows (source "t"
    (For 1 (codes "i" ∷ []) (listing (num 1 ∷ num 2 ∷ [])) None (body (Include 1 (codes "p") false true ∷ [])) end ∷ [])
    ∷ source "p" (chars "<" ∷ print (name "i") ∷ chars ">" ∷ []) ∷ []) ([]) "<1><2>"
    -- An include without context sees no name: p is `<{{ i }}>`, and t is `{% for i in [1, 2] %}{%
    -- include "p" without context %}{% endfor %}`.
    ∷ shows (source "t" (For 1 (codes "i" ∷ []) (listing (num 1 ∷ num 2 ∷ [])) None
    (body (Include 1 (codes "p") false false ∷ [])) end ∷ [])
    ∷ source "p" (chars "<" ∷ print (name "i") ∷ chars ">" ∷ []) ∷ []) ([]) "<><>"
    -- The text of a `set` block is markup: `{% set m %}<i>{% endset %}{{ m }}{{ "<i>" }}`.
    ∷ shows
    (source "t" (SetBlock 1 (codes "m") (body (chars "<i>" ∷ [])) ∷ print (name "m") ∷ print (str "<i>") ∷ []) ∷ [])
    ([]) "<i>&lt;i&gt;"
    -- A parameter has its argument or its default: `{% macro f(a, b=2) %}{{ a }}-{{ b }};{% endmacro
    -- %}{{ f(1) }}{{ f(1, b=3) }}{{ f() }}`.
    ∷ shows (source "t" (Macro 1 (codes "f")
    (parameter "a" ∷ record { name = codes "b"; default = Some (e.number (pos 2)) } ∷ [])
    (body (print (name "a") ∷ chars "-" ∷ print (name "b") ∷ chars ";" ∷ []))
    ∷ print (call (name "f") (num 1 ∷ []))
    ∷ print (Call (name "f") (exprs (num 1 ∷ [])) (pair (codes "b") (num 3) no_pairs)) ∷ print (call (name "f") [])
    ∷ []) ∷ []) ([])
    "1-2;1-3;-2;"
    -- A loop over a text visits its characters: `{% for x in "ab" %}{{ loop.cycle("x", "y") }}{{
    -- loop.last }}{% endfor %}`.
    ∷ shows (source "t" (For 1 (codes "x" ∷ []) (str "ab") None
    (body (print (call (of (name "loop") "cycle") (str "x" ∷ str "y" ∷ [])) ∷ print (of (name "loop") "last") ∷ [])) end
    ∷ []) ∷ []) ([])
    "xFalseyTrue"
    -- A `filter` block changes the printed text: `{% filter upper %}a{{ "<" }}{% endfilter %}`.
    ∷ shows (source "t" (FilterBlock 1
    (record { name = codes "upper"; arguments = no_exprs; keywords = no_pairs } ∷ [])
    (body (chars "a" ∷ print (str "<") ∷ [])) ∷ []) ∷ []) ([]) "A&LT;"
    -- Several targets of a loop take the items of each item: `{% for a, b in [[1, 2], [3, 4]] %}{{ a +
    -- b }}{{ loop.revindex }},{% endfor %}`.
    ∷ shows (source "t" (For 1 (codes "a" ∷ codes "b" ∷ [])
    (listing (listing (num 1 ∷ num 2 ∷ []) ∷ listing (num 3 ∷ num 4 ∷ []) ∷ [])) None
    (body (print (Binary 0 (name "a") (name "b")) ∷ print (of (name "loop") "revindex") ∷ chars "," ∷ [])) end ∷ [])
    ∷ []) ([]) "32,71,"
    -- The first turn has no previous item: `{% for x in [1] %}{{ loop.previtem is defined }}{% endfor
    -- %}`.
    ∷ shows (source "t" (For 1 (codes "x" ∷ []) (listing (num 1 ∷ [])) None
    (body (print (Test false (of (name "loop") "previtem") (codes "defined") no_exprs no_pairs) ∷ [])) end ∷ []) ∷ [])
    ([]) "False"
    -- An include that may be missing prints nothing: `{% include "no" ignore missing %}x`.
    ∷ shows (source "t" (Include 1 (codes "no") true true ∷ chars "x" ∷ []) ∷ []) ([]) "x"
    -- The text of a macro is markup: `{% macro m() %}<{% endmacro %}{{ m() }}{{ m()|length }}`.
    ∷ shows (source "t" (Macro 1 (codes "m") [] (body (chars "<" ∷ [])) ∷ print (call (name "m") [])
    ∷ print (Filter (call (name "m") []) (codes "length") no_exprs no_pairs) ∷ []) ∷ []) ([]) "<1"
    -- Calls of `super()` follow the chain: root is `{% block t %}1{% endblock %}`, and mid and t extend
    -- it and print 2 and 3 after `super()`.
    ∷ shows (source "t"
    (extends "mid" ∷ block "t" (print (call (name "super") []) ∷ chars "3" ∷ []) ∷ [])
    ∷ source "mid" (extends "root" ∷ block "t" (print (call (name "super") []) ∷ chars "2" ∷ []) ∷ [])
    ∷ source "root" (block "t" (chars "1" ∷ []) ∷ []) ∷ []) ([]) "123"
    -- A call by `self` prints a block again: `{% block t %}x{% endblock %}{{ self.t() }}`.
    ∷ shows (source "t" (block "t" (chars "x" ∷ []) ∷ print (call (of (name "self") "t") []) ∷ []) ∷ []) ([])
    "xx"
    -- A `set` of a child is seen in the base, and its text is not printed: base is `{{ a }}`, and t is
    -- `{% extends "base" %}{% set a = 1 %}gone`.
    ∷ shows
    (source "t" (extends "base" ∷ set "a" (num 1) ∷ chars "gone" ∷ []) ∷ source "base" (print (name "a") ∷ []) ∷ [])
    ([]) "1"
    -- A `set` of the base comes after a `set` of the child: base is `{% set a = 2 %}{{ a }}`, and t is
    -- as above.
    ∷ shows (source "t" (extends "base" ∷ set "a" (num 1) ∷ chars "gone" ∷ [])
    ∷ source "base" (set "a" (num 2) ∷ print (name "a") ∷ []) ∷ []) ([]) "2"
    -- A fault has the line of its tag: `{{ nope.x }}` on line 2.
    ∷ faults_at (source "t" (chars "a" ∷ Print 2 (of (name "nope") "x") ∷ []) ∷ []) ([]) Undefined "t" 2
    -- A fault in an include has the template of its tag: p is `{{ 1 // n }}` on line 2, t is `{%
    -- include "p" %}`, and n is 0.
    ∷ faults_at (source "t" (Include 1 (codes "p") false true ∷ [])
    ∷ source "p" (chars "a" ∷ Print 2 (Binary 3 (num 1) (name "n")) ∷ []) ∷ [])
    ((codes "n", v.number (pos 0)) ∷ []) ZeroDivide "p" 2
    -- A fault in a macro's body has the line of its tag: `{{ a.b }}` is on line 2, and the call `{{ m()
    -- }}` on line 5.
    ∷ faults_at (source "t" (Macro 1 (codes "m") (parameter "a" ∷ [])
    (body (Print 2 (of (name "a") "b") ∷ []))
    ∷ Print 5 (call (name "m") []) ∷ []) ∷ []) ([]) Undefined "t" 2
    -- A fault in an argument has the line of the call: the template above ends with `{{ m(nope.x) }}`.
    ∷ faults_at (source "t" (Macro 1 (codes "m") (parameter "a" ∷ [])
    (body (Print 2 (of (name "a") "b") ∷ []))
    ∷ Print 5 (call (name "m") (of (name "nope") "x" ∷ [])) ∷ []) ∷ []) ([]) Undefined "t" 5
    -- A local that holds undefined hides a global from an include: p is `[{{ x }}]`, and t is `{% set x
    -- = 1 %}{% with x = nope %}{% include "p" %}{% endwith %}`.
    ∷ shows (source "t" (set "x" (num 1)
    ∷ With 1 (pair (codes "x") (name "nope") no_pairs) (body (Include 1 (codes "p") false true ∷ [])) ∷ [])
    ∷ source "p" (chars "[" ∷ print (name "x") ∷ chars "]" ∷ []) ∷ []) ([]) "[]"
    -- A body has the autoescape state of its own place: `{% autoescape false %}{% block t %}{{ "<" }}{%
    -- endblock %}{% endautoescape %}`.
    ∷ shows (source "t" (Autoescape 1 false (body (block "t" (print (str "<") ∷ []) ∷ [])) ∷ []) ∷ []) ([]) "<"
    -- An overriding body has the autoescape state of its place in the child.
    ∷ shows (source "t"
    (extends "base" ∷ block "t" (print (str "<") ∷ print (call (name "super") []) ∷ []) ∷ [])
    ∷ source "base" (Autoescape 1 false (body (block "t" (print (str "<") ∷ []) ∷ [])) ∷ []) ∷ []) ([]) "&lt;<"
    -- A body that `super()` calls runs in the scope of the placement: base is `{% block t %}{{ a }}{%
    -- endblock %}`, and t sets a in its body and calls `super()`.
    ∷ shows (source "t"
    (extends "base" ∷ block "t" (set "a" (num 1) ∷ print (call (name "super") []) ∷ chars "." ∷ []) ∷ [])
    ∷ source "base" (block "t" (print (name "a") ∷ []) ∷ []) ∷ []) ([]) "."
    -- An override needs no `scoped`: base is `{% for i in [1, 2] %}{% block b scoped %}{% endblock %}{%
    -- endfor %}`, and t prints i in b.
    ∷ shows (source "t" (extends "base" ∷ block "b" (print (name "i") ∷ []) ∷ [])
    ∷ source "base" (For 1 (codes "i" ∷ []) (listing (num 1 ∷ num 2 ∷ [])) None
    (body (Block 1 (codes "b") true false (body []) ∷ [])) end ∷ []) ∷ []) ([]) "12"
    -- A macro sees the current globals and no local: `{% macro m() %}{{ x }} {% endmacro %}{% set x = 1
    -- %}{{ m() }}{% set x = 2 %}{% with x = 3 %}{{ m() }}{% endwith %}`.
    ∷ shows (source "t" (Macro 1 (codes "m") [] (body (print (name "x") ∷ [])) ∷ set "x" (num 1)
    ∷ print (call (name "m") []) ∷ set "x" (num 2)
    ∷ With 1 (pair (codes "x") (num 3) no_pairs) (body (print (call (name "m") []) ∷ [])) ∷ []) ∷ []) ([]) "12"
    -- A call of `super()` skips required bodies.
    ∷ shows (source "t"
    (extends "mid" ∷ block "t" (print (call (name "super") []) ∷ chars "3" ∷ []) ∷ [])
    ∷ source "mid" (extends "root" ∷ Block 1 (codes "t") false true (body []) ∷ [])
    ∷ source "root" (block "t" (chars "1" ∷ []) ∷ []) ∷ []) ([]) "13"
    -- A `set` of an include is not seen outside: p is `{% set x = 2 %}{{ x }}`, and t is `{% set x = 1
    -- %}{% include "p" %}{{ x }}`.
    ∷ shows (source "t" (set "x" (num 1) ∷ Include 1 (codes "p") false true ∷ print (name "x") ∷ [])
    ∷ source "p" (set "x" (num 2) ∷ print (name "x") ∷ []) ∷ []) ([]) "21"
    -- Arguments may be calls of a macro: `{{ m(m(1, 2), b=m(3, m(4))) }}`.
    ∷ shows (source "t" (Macro 1 (codes "m") (parameter "a" ∷ parameter "b" ∷ [])
    (body (chars "(" ∷ print (name "a") ∷ print (name "b") ∷ chars ")" ∷ []))
    ∷ print (Call (name "m") (exprs (call (name "m") (num 1 ∷ num 2 ∷ []) ∷ []))
    (pair (codes "b") (call (name "m") (num 3 ∷ call (name "m") (num 4 ∷ []) ∷ [])) no_pairs)) ∷ []) ∷ []) ([])
    "((12)(3(4)))"
    -- Keywords may come in any order: `{{ m(b=m(1), a=m(2)) }}`.
    ∷ shows (source "t" (Macro 1 (codes "m") (parameter "a" ∷ parameter "b" ∷ [])
    (body (chars "(" ∷ print (name "a") ∷ print (name "b") ∷ chars ")" ∷ []))
    ∷ print (Call (name "m") no_exprs
    (pair (codes "b") (call (name "m") (num 1 ∷ [])) (pair (codes "a") (call (name "m") (num 2 ∷ [])) no_pairs))) ∷ [])
    ∷ []) ([]) "((2)(1))"
    -- A name that a scope sets has its outer value before: `{% set x = 1 %}{% with y = 5 %}{{ x }}{%
    -- set x = 2 %}{{ x }}{{ y }}{% endwith %}{{ x }}{{ y }}`.
    ∷ shows (source "t" (set "x" (num 1)
    ∷ With 1 (pair (codes "y") (num 5) no_pairs)
    (body (print (name "x") ∷ set "x" (num 2) ∷ print (name "x") ∷ print (name "y") ∷ [])) ∷ print (name "x")
    ∷ print (name "y") ∷ []) ∷ []) ([]) "1251"
    -- An `if` has no scope of its own: `{% for i in [1, 2] %}{% if i > 1 %}{% set i = 9 %}{% endif %}{{
    -- i }}{% endfor %}`.
    ∷ shows (source "t" (For 1 (codes "i" ∷ []) (listing (num 1 ∷ num 2 ∷ [])) None
    (body (when (Binary 15 (name "i") (num 1)) (set "i" (num 9) ∷ []) ∷ print (name "i") ∷ [])) end ∷ []) ∷ []) ([])
    "19"
    -- The `else` part of a loop sets in the outer scope: `{% for i in [] %}{% else %}{% set x = 7 %}{%
    -- endfor %}{{ x }}`.
    ∷ shows (source "t"
    (For 1 (codes "i" ∷ []) (listing []) None end (body (set "x" (num 7) ∷ [])) ∷ print (name "x") ∷ []) ∷ []) ([]) "7"
    -- A `set` in an override does not change the body that `super()` calls: base is `{% for i in [1, 2]
    -- %}{% block b scoped %}{{ i }}{{ x }}{% endblock %}{% endfor %}`, and t is `{% block b %}{% set i
    -- = 8 %}{{ super() }}{{ i }},{% endblock %}`.
    ∷ shows (source "t" (extends "base"
    ∷ block "b" (set "i" (num 8) ∷ print (call (name "super") []) ∷ print (name "i") ∷ chars "," ∷ []) ∷ [])
    ∷ source "base" (For 1 (codes "i" ∷ []) (listing (num 1 ∷ num 2 ∷ [])) None
    (body (Block 1 (codes "b") true false (body (print (name "i") ∷ print (name "x") ∷ [])) ∷ [])) end ∷ []) ∷ [])
    ((codes "x", v.number (pos 5)) ∷ []) "158,258,"
    -- A scoped block in a scoped block sees both scopes at its tag, and no scope in `self.c()`: `{%
    -- with i = 1 %}{% block b scoped %} {% with j = 2 %}{% block c scoped %}{{ i }}{{ j }};{% endblock
    -- %}{% endwith %}{% endblock %} {% endwith %}{{ self.c() }}`.
    ∷ shows (source "t" (With 1 (pair (codes "i") (num 1) no_pairs)
    (body (Block 1 (codes "b") true false (body (With 1 (pair (codes "j") (num 2) no_pairs)
    (body (Block 1 (codes "c") true false (body (print (name "i") ∷ print (name "j") ∷ chars ";" ∷ [])) ∷ [])) ∷ []))
    ∷ []))
    ∷ print (call (of (name "self") "c") []) ∷ []) ∷ []) ([]) "12;;"
    -- A context value is seen if only the inner of two includes reads it.
    ∷ shows (source "t" (Include 1 (codes "p") false true ∷ [])
    ∷ source "p" (Include 1 (codes "q") false true ∷ []) ∷ source "q" (print (name "y") ∷ []) ∷ [])
    ((codes "y", v.number (pos 4)) ∷ []) "4"
    -- A capture in a loop is local to a turn: `{% for x in [1, 2] %}{% set s %}{{ s }}{{ x }}{{
    -- loop.index }}{% endset %}{{ s }}.{% endfor %} {{ s }}`.
    ∷ shows (source "t" (For 1 (codes "x" ∷ []) (listing (num 1 ∷ num 2 ∷ [])) None
    (body (SetBlock 1 (codes "s") (body (print (name "s") ∷ print (name "x") ∷ print (of (name "loop") "index") ∷ []))
    ∷ print (name "s") ∷ chars "." ∷ [])) end
    ∷ print (name "s") ∷ []) ∷ [])
    ((codes "s", v.text (codes "<")) ∷ []) "&lt;11.&lt;22.&lt;"
    -- The later of two equal targets wins, at top level and in a scope: `{% set a, a = [1, 2] %}{{ a
    -- }}`.
    ∷ shows (source "t" (Set 1 (codes "a" ∷ codes "a" ∷ []) (listing (num 1 ∷ num 2 ∷ []))
    ∷ print (name "a")
    ∷ With 1 no_pairs (body (Set 1 (codes "a" ∷ codes "a" ∷ []) (listing (num 3 ∷ num 4 ∷ [])) ∷ print (name "a") ∷ []))
    ∷ []) ∷ []) ([]) "24"
    -- The later of two equal targets of a loop wins: `{% for a, a in [[1, 2]] if a > 1 %}{{ a }}{%
    -- endfor %}`.
    ∷ shows (source "t" (For 1 (codes "a" ∷ codes "a" ∷ []) (listing (listing (num 1 ∷ num 2 ∷ []) ∷ []))
    (Some (Binary 15 (name "a") (num 1))) (body (print (name "a") ∷ [])) end ∷ []) ∷ []) ([]) "2"
    -- A filter takes arguments by position and by name: `{{ x|d("y") }}{{ 0|d("z", true) }}{{
    -- 0|d(boolean=true, default_value="v") }} {{ 0|d(boolean=true) }}`.
    ∷ shows (source "t" (print (Filter (name "x") (codes "d") (exprs (str "y" ∷ [])) no_pairs)
    ∷ print (Filter (num 0) (codes "d") (exprs (str "z" ∷ name "one" ∷ [])) no_pairs)
    ∷ print (Filter (num 0) (codes "d") no_exprs
    (pair (codes "boolean") (num 1) (pair (codes "default_value") (str "v") no_pairs)))
    ∷ print (Filter (num 0) (codes "d") no_exprs (pair (codes "boolean") (num 1) no_pairs)) ∷ []) ∷ [])
    ((codes "one", v.number (pos 1)) ∷ []) "yzv"
    -- The autoescape state is lexical: `{% autoescape false %}{{ "<" }}{% endautoescape %}{{ "<" }}`.
    ∷ shows (source "t" (Autoescape 1 false (body (print (str "<") ∷ [])) ∷ print (str "<") ∷ []) ∷ [])
    ([]) "<&lt;"
    -- A library sees no globals: l is `{% macro b(t) %}<b>{{ t }}{{ x }}</b>{% endmacro %}`, and t is
    -- `{% set x = 1 %}{% import "l" as f %}{{ f.b("<") }}`.
    ∷ shows (source "t" (set "x" (num 1) ∷ Import "l" "f" ∷ print (call (of (name "f") "b") (str "<" ∷ [])) ∷ [])
    ∷ source "l" (Macro 1 (codes "b") (parameter "t" ∷ [])
    (body (chars "<b>" ∷ print (name "t") ∷ print (name "x") ∷ chars "</b>" ∷ [])) ∷ []) ∷ []) []
    "<b>&lt;</b>"
    -- A macro is imported under two names: l is as above, and t is `{% from "l" import b as
    -- c, b %}{{ c(1) }}{{ b(2) }}`.
    ∷ shows (source "t" (From "l" ((codes "b", codes "c") ∷ (codes "b", codes "b") ∷ [])
    ∷ print (call (name "c") (num 1 ∷ [])) ∷ print (call (name "b") (num 2 ∷ [])) ∷ [])
    ∷ source "l" (Macro 1 (codes "b") (parameter "t" ∷ [])
    (body (chars "<b>" ∷ print (name "t") ∷ print (name "x") ∷ chars "</b>" ∷ [])) ∷ []) ∷ []) []
    "<b>1</b><b>2</b>"
    -- An include in a library sees only the names of the macro: l is `{% macro m(t) %}{% set y = 5 %}{%
    -- include "p" %}{% endmacro %}`, p is `{{ t }}{{ x }}{{ y }}`, and t is `{% set x = 1 %}{% import
    -- "l" as f %}{{ f.m(2) }}{% include "p" %}`.
    ∷ shows (source "t" (set "x" (num 1) ∷ Import "l" "f" ∷ print (call (of (name "f") "m") (num 2 ∷ []))
    ∷ Include 1 (codes "p") false true ∷ [])
    ∷ source "l"
    (Macro 1 (codes "m") (parameter "t" ∷ []) (body (set "y" (num 5) ∷ Include 1 (codes "p") false true ∷ [])) ∷ [])
    ∷ source "p" (print (name "t") ∷ print (name "x") ∷ print (name "y") ∷ []) ∷ []) [] "251"
    -- The entry includes l as a chain, and imports it as a library: l is `{% macro a(n) %}{{ x }}{% if
    -- n %} {{ _c(n) }}{% endif %}{% endmacro %}{% macro _c(n) %}[{{ n }}]{% endmacro %}`, and t is `{%
    -- set x = 1 %}{% include "l" %}{% from "l" import a %}{{ a(7) }}`.
    ∷ shows (source "t" (set "x" (num 1) ∷ Include 1 (codes "l") false true
    ∷ From "l" ((codes "a", codes "a") ∷ []) ∷ print (call (name "a") (num 7 ∷ [])) ∷ [])
    ∷ source "l" (Macro 1 (codes "a") (parameter "n" ∷ [])
    (body (print (name "x") ∷ print (call (name "_c") (name "n" ∷ [])) ∷ []))
    ∷ Macro 1 (codes "_c") (parameter "n" ∷ []) (body (chars "[" ∷ print (name "n") ∷ chars "]" ∷ [])) ∷ []) ∷ []) []
    "[7]"
    ∷ []

by_names : map (λ (x : Example). meaning_of x.0.0 x.0.1) examples ≡ map (λ (x : Example). x.1) examples
unfolding digits characters test_named
by_names = refl

by_slots : map (λ (x : Example). resolved_meaning x.0.0 x.0.1) examples ≡ map (λ (x : Example). x.1) examples
unfolding digits characters test_named
by_slots = refl

-- ---- Strict templates: each template with its context, its outcome, and its outcome if it is strict

pub record Setting : Type 0 where
  pub template : List Stmt
  pub plain : Eval Text
  pub strict : Eval Text

abbrev upper_call : List FilterCall
upper_call = record { name = codes "upper"; arguments = no_exprs; keywords = no_pairs } ∷ []

-- The filter tag `d(nope, true)`, whose result is undefined if its text is empty.
abbrev default_call : List FilterCall
default_call =
    record { name = codes "d"; arguments = exprs (name "nope" ∷ name "one" ∷ []); keywords = no_pairs } ∷ []

abbrev given : String → Eval Text
given x = gives (codes x)

abbrev undefined_at : ℕ → Eval Text
undefined_at line = fails Undefined (Some (record { template = codes "t"; line = line }))

abbrev loop_over : Expr → List Stmt
loop_over over = For 2 (codes "x" ∷ []) over None (body (print (name "x") ∷ [])) (body (chars "none" ∷ [])) ∷ []

abbrev both : List Stmt → Eval Text → Eval Text → Setting
both template plain strict = record { template = template; plain = plain; strict = strict }

abbrev settings : List Setting
settings =
    -- A printed value: `{{ nope }}`.
    both (Print 2 (name "nope") ∷ []) (given "") (undefined_at 2)
    -- A loop: `{% for x in nope %}{{ x }}{% else %}none{% endfor %}`.
    ∷ both (loop_over (name "nope")) (given "none") (undefined_at 2)
    -- The operands of `~`: `{{ nope ~ "a" }}` and `{{ "a" ~ nope }}`.
    ∷ both (Print 2 (e.binary o.Concatenate (name "nope") (str "a")) ∷ []) (given "a") (undefined_at 2)
    ∷ both (Print 2 (e.binary o.Concatenate (str "a") (name "nope")) ∷ []) (given "a") (undefined_at 2)
    -- The input of a filter: `{{ nope|length }}`.
    ∷ both (Print 2 (Filter (name "nope") (codes "length") no_exprs no_pairs) ∷ []) (given "0") (undefined_at 2)
    -- The input of `default`: `{{ nope|d("y") }}`.
    ∷ both (Print 2 (Filter (name "nope") (codes "d") (exprs (str "y" ∷ [])) no_pairs) ∷ []) (given "y") (given "y")
    -- The result of a filter: `{{ ""|d(nope, one) }}`.
    ∷ both (Print 2 (Filter (str "") (codes "d") (exprs (name "nope" ∷ name "one" ∷ [])) no_pairs) ∷ []) (given "")
    (undefined_at 2)
    -- A filter tag: `{% filter upper %}a{% endfilter %}`.
    ∷ both (FilterBlock 2 upper_call (body (chars "a" ∷ [])) ∷ []) (given "A") (given "A")
    -- The result of a filter tag: `{% filter d(nope, one) %}{% endfilter %}`.
    ∷ both (FilterBlock 2 default_call (body []) ∷ []) (given "") (undefined_at 2)
    -- Truth, comparison and tests: `{% if nope %}a{% endif %}{{ nope or "b" }}{{ nope == 1 }}
    -- {{ nope is defined }}`.
    ∷ both (when (name "nope") (chars "a" ∷ []) ∷ print (e.binary o.Or (name "nope") (str "b"))
    ∷ print (e.binary o.Equal (name "nope") (num 1)) ∷ chars " "
    ∷ print (Test false (name "nope") (codes "defined") no_exprs no_pairs) ∷ [])
    (given "bFalse False") (given "bFalse False")
    -- An assignment, and a parameter without an argument: `{% set a = nope %}{% macro m(b) %}{% if b
    -- %}{% endif %}-{% endmacro %}{{ m() }}`.
    ∷ both (set "a" (name "nope")
    ∷ Macro 1 (codes "m") (parameter "b" ∷ []) (body (when (name "b") [] ∷ chars "-" ∷ []))
    ∷ print (call (name "m") []) ∷ []) (given "-") (given "-")
    -- A member of a list: `{% for x in [nope] %}{{ x }}{% else %}none{% endfor %}`. The fault is at the
    -- print.
    ∷ both (loop_over (listing (name "nope" ∷ []))) (given "") (undefined_at 1)
    ∷ []

-- The context of each template: `one` is 1, and `nope` is missing.
abbrev one_given : Pairs
one_given = (codes "one", v.number (pos 1)) ∷ []

abbrev entry_of : Setting → List (Text × Body)
entry_of s = (codes "t", body s.template) ∷ []

plain_by_names : map (λ s. meaning_of (entry_of s) one_given) settings ≡ map (λ s. s.plain) settings
unfolding digits characters test_named
plain_by_names = refl

plain_by_slots : map (λ s. resolved_meaning (entry_of s) one_given) settings ≡ map (λ s. s.plain) settings
unfolding digits characters test_named
plain_by_slots = refl

strict_by_names : map (λ s. strict_meaning_of (entry_of s) one_given) settings ≡ map (λ s. s.strict) settings
unfolding digits characters test_named
strict_by_names = refl

strict_by_slots : map (λ s. strict_resolved_meaning (entry_of s) one_given) settings ≡ map (λ s. s.strict) settings
unfolding digits characters test_named
strict_by_slots = refl

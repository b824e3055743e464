-- Some filters, and abbreviations for small templates.
use Rattle.std.specs.Prelude.{ℕ, ◌-◌, pos, Bool, true, false, ◌&&◌, List, [], ◌∷◌, length, map, codes, Option, Some}
use Rattle.std.specs.Prelude.{None, Result, Ok, Err, ◌==◌, nat_lt, if◌then◌else◌, flat_map}
use Rattle.std.specs.Str.{bytes_eq}
use Prim.Native.String.{String}
use Rattle.jt_value.specs.Tree as v
use Rattle.jt_value.specs.Tree.{Tree}
use Rattle.jt_value.specs.Pairs.{Pairs}
use Rattle.jt_value.specs.declared.fault.Fault.{Fault}
use Rattle.jt_value.specs.declared.fault.Fault.TheVariants as faults
use Rattle.jt_ast.specs.declared.expression.BinaryOperator.TheVariants as o
use Rattle.jt_ast.specs.Expressions as e
use Rattle.jt_ast.specs.Expressions.{Expr, Exprs, no_exprs, expr, no_pairs, Text}
use Rattle.jt_eval.specs.Eval.{Eval, gives, fails, deeper}
use Rattle.jt_chains.specs.Chain.{Namespace, a_chain, a_library}
use Rattle.jt_ast.specs.Statements as s
use Rattle.jt_ast.specs.Statements.{Parameter, FilterCall, Stmt, Body, end, stmt, no_branches, branch}
use Rattle.jt_eval.specs.Loops.{items_of_value}
use Rattle.jt_eval.specs.Filters.{Filters}
use Rattle.jt_rules.specs.CompileEnv.{CompileEnv}
use Rattle.jt_semantics.specs.Meaning.{mean}
use Rattle.jt_ir.specs.Slots.{smean}
use Rattle.jt_semantics.specs.Programs.{program}

abbrev pub named : Text → Option ℕ
named x =
    if bytes_eq x (codes "upper") then Some 0 else if bytes_eq x (codes "length") then Some 1
    else if bytes_eq x (codes "d") then Some 3 else None

abbrev pub parameters : ℕ → List Parameter
parameters f =
    if f == 3 then record { name = codes "default_value"; default = Some (e.text []) }
    ∷ record { name = codes "boolean"; default = Some (e.truth false) } ∷ [] else []

abbrev pub upper : Text → Text
upper s = map (λ c. if nat_lt 96 c && nat_lt c 123 then c - 32 else c) s

abbrev pub counted : Result (List Tree) Fault → Result Tree Fault
counted (Ok vs) = Ok (v.number (pos (length vs)))
counted (Err f) = Err f

abbrev pub uppered : List Tree → Result Tree Fault
uppered (v.text s ∷ []) = Ok (v.text (upper s))
uppered (v.markup s ∷ []) = Ok (v.markup (upper s))
uppered vs = Err faults.BadType

abbrev pub measured : List Tree → Result Tree Fault
measured (t ∷ []) = counted (items_of_value t)
measured vs = Err faults.BadType

abbrev pub defaulted : List Tree → Result Tree Fault
defaulted (v.undefined ∷ d ∷ vs) = Ok d
defaulted (t ∷ d ∷ b ∷ []) = Ok (if v.truth b then (if v.truth t then t else d) else t)
defaulted (t ∷ vs) = Ok t
defaulted [] = Err faults.BadType

abbrev pub small : Filters
small = record {
  named = λ x ts ps. named x;
  parameters = parameters;
  takes = λ f n. true;
  inside = λ f ts ps. true;
  operation = λ f on vs. if f == 0 then uppered vs else if f == 1 then measured vs else defaulted vs;
}

-- ---- Abbreviations for trees

abbrev pub name : String → Expr
name x = e.name (codes x)

abbrev pub num : ℕ → Expr
num n = e.constant (e.number (pos n))

abbrev pub str : String → Expr
str x = e.constant (e.text (codes x))

abbrev pub exprs : List Expr → Exprs
exprs [] = no_exprs
exprs (t ∷ ts) = expr t (exprs ts)

abbrev pub listing : List Expr → Expr
listing ts = e.list_of (exprs ts)

abbrev pub Call : Expr → Exprs → e.Pairs → Expr
Call f ts ps = e.call f ts ps

abbrev pub call : Expr → List Expr → Expr
call f ts = Call f (exprs ts) no_pairs

abbrev pub pair : Text → Expr → e.Pairs → e.Pairs
pair k t ps = e.pair k t ps

abbrev pub of : Expr → String → Expr
of t x = e.attribute t (codes x)

abbrev pub Filter : Expr → Text → Exprs → e.Pairs → Expr
Filter t f ts ps = e.filter t f ts ps

abbrev pub Test : Bool → Expr → Text → Exprs → e.Pairs → Expr
Test n t f ts ps = e.test t n f ts ps

abbrev pub Binary : ℕ → Expr → Expr → Expr
Binary n a b = e.binary (if n == 0 then o.Add else if n == 15 then o.Greater else o.FloorDivide) a b

abbrev pub body : List Stmt → Body
body [] = end
body (x ∷ xs) = stmt x (body xs)

abbrev pub chars : String → Stmt
chars x = s.data_of (codes x)

abbrev pub Print : ℕ → Expr → Stmt
Print line t = s.print line t

abbrev pub print : Expr → Stmt
print t = s.print 1 t

abbrev pub For : ℕ → List Text → Expr → Option Expr → Body → Body → Stmt
For line xs t c b other = s.for_each line xs t c b other

abbrev pub Set : ℕ → List Text → Expr → Stmt
Set line xs t = s.set line xs t

abbrev pub set : String → Expr → Stmt
set x t = Set 1 (codes x ∷ []) t

abbrev pub SetBlock : ℕ → Text → Body → Stmt
SetBlock line x b = s.set_block line x b

abbrev pub With : ℕ → e.Pairs → Body → Stmt
With line ps b = s.with_values line ps b

abbrev pub FilterBlock : ℕ → List FilterCall → Body → Stmt
FilterBlock line fs b = s.filter_block line fs b

abbrev pub Autoescape : ℕ → Bool → Body → Stmt
Autoescape line on b = s.autoescape line on b

abbrev pub when : Expr → List Stmt → Stmt
when c ss = s.choose (branch 1 c (body ss) no_branches) end

abbrev pub Block : ℕ → Text → Bool → Bool → Body → Stmt
Block line x scoped required b = s.block line x scoped required b

abbrev pub block : String → List Stmt → Stmt
block x ss = Block 1 (codes x) false false (body ss)

abbrev pub Macro : ℕ → Text → List Parameter → Body → Stmt
Macro line x ps b = s.macro line x ps b

abbrev pub parameter : String → Parameter
parameter x = record { name = codes x; default = None }

abbrev pub Include : ℕ → Text → Bool → Bool → Stmt
Include line n missing context = s.include line n missing context

abbrev pub Import : String → String → Stmt
Import n x = s.import_as 1 (codes n) (codes x)

abbrev pub From : String → List (Text × Text) → Stmt
From n xs = s.import_from 1 (codes n) xs

abbrev pub extends : String → Stmt
extends n = s.extends 1 (codes n)

-- ---- Sources, and the meaning of the entry `t`: by names, and by the slots of its program

abbrev pub source : String → List Stmt → Text × Body
source n ss = (codes n, body ss)

abbrev pub found : Text → List (Text × Body) → Option Body
found n [] = None
found n (b ∷ bs) = if bytes_eq b.0 n then Some b.1 else found n bs

abbrev pub cenv : List (Text × Body) → CompileEnv
cenv ss = record { filters = small; sources = λ n. found n ss; escaping = true; strict = false }

-- The templates in an order in which no template includes or imports an earlier one. Each is listed
-- as a chain and as a library, which is harmless for a template that is no library.
abbrev pub order_of : List (Text × Body) → List Namespace
order_of ss = flat_map (λ b. a_chain b.0 ∷ a_library b.0 ∷ []) ss

abbrev pub meaning_of : List (Text × Body) → Pairs → Eval Text
meaning_of ss context = mean (cenv ss) (codes "t") context 9

abbrev pub strict : List (Text × Body) → CompileEnv
strict ss = record (cenv ss) { strict = true }

abbrev pub resolved_in : CompileEnv → List (Text × Body) → Pairs → Eval Text
resolved_in e ss context = smean small (program e (order_of ss) (a_chain (codes "t"))) context 9

-- The meaning of the entry if templates are strict.
abbrev pub strict_meaning_of : List (Text × Body) → Pairs → Eval Text
strict_meaning_of ss context = mean (strict ss) (codes "t") context 9

abbrev pub strict_resolved_meaning : List (Text × Body) → Pairs → Eval Text
strict_resolved_meaning ss context = resolved_in (strict ss) ss context

abbrev pub resolved_meaning : List (Text × Body) → Pairs → Eval Text
resolved_meaning ss context = resolved_in (cenv ss) ss context

-- Sources and a context of the entry, with its outcome.
abbrev pub Example : Type 0
Example = (List (Text × Body) × Pairs) × Eval Text

abbrev pub shows : List (Text × Body) → Pairs → String → Example
shows ss context x = ((ss, context), gives (codes x))

abbrev pub faults_at : List (Text × Body) → Pairs → Fault → String → ℕ → Example
faults_at ss context f n line = ((ss, context), fails f (Some (record { template = codes n; line = line })))

abbrev pub is_deeper : List (Text × Body) → Pairs → Example
is_deeper ss context = ((ss, context), deeper)

-- The values of literals, names and captured texts, and the printed texts of values.
use Rattle.std.specs.Prelude.{Bool, true, false, [], Option, Some, None, unwrap_or, if◌then◌else◌, Result, Ok, Err}
use Rattle.jt_value.specs.Tree as tree
use Rattle.jt_value.specs.Tree.{Tree}
use Rattle.jt_value.specs.Pairs.{Pairs, look}
use Rattle.jt_value.specs.declared.fault.Fault.{Fault}
use Rattle.jt_value.specs.declared.fault.Fault.TheVariants as faults
use Rattle.jt_escape.specs.Escaping.{escaped}
use Rattle.jt_ast.specs.Expressions as trees
use Rattle.jt_ast.specs.Expressions.{Literal, Text}
use Rattle.jt_eval.specs.Eval.{Eval, gives, fails, bind, checked}

abbrev pub literal : Literal → Tree
literal (trees.number n) = tree.number n
literal (trees.text s) = tree.text s
literal (trees.truth b) = tree.truth_value b
literal trees.nothing = tree.nothing

-- The value of a name in a map, or undefined.
abbrev pub value_in : Pairs → Text → Tree
value_in s x = unwrap_or (look x s) tree.undefined

-- The text of a capture, a macro, `super()` or `self.b()` as a value: markup if escaping is on.
abbrev pub as_value : Bool → Text → Tree
as_value true s = tree.markup s
as_value false s = tree.text s

abbrev pub bytes_of : Tree → Text
bytes_of (tree.text s) = s
bytes_of t = []

-- ---- Required values, in strict templates

-- The value. An undefined value is the fault Undefined.
abbrev pub defined : Tree → Result Tree Fault
defined tree.undefined = Err faults.Undefined
defined v = Ok v

-- The outcome, which must be a defined value if the flag is true.
abbrev pub required_if : Bool → Eval Tree → Eval Tree
required_if false g = g
required_if true g = bind g (λ v. checked (defined v))

-- ---- The printed text: if escaping is on, all but markup is escaped. Lists and maps have no text

abbrev pub shown_text : Bool → Option Text → Eval Text
shown_text escaping None = fails faults.Unprintable None
shown_text escaping (Some s) = gives (if escaping then escaped s else s)

abbrev pub shown : Bool → Tree → Eval Text
shown escaping (tree.markup s) = gives s
shown escaping v = shown_text escaping (tree.printed v)

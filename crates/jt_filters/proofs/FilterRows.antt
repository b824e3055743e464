-- Examples of filters, computed: the printed text of expressions, with or without escaping.
use Rattle.std.specs.Prelude.{◌≡◌, ℕ, zero, suc, Bool, true, false, ◌||◌, not, List, [], ◌∷◌, ◌++◌, Option, Some, None}
use Rattle.std.specs.Prelude.{Result, Ok, Err, codes, map, pos, refl, if◌then◌else◌}
use Prim.Native.String.{String}
use Rattle.jt_value.specs.declared.fault.Fault.{Fault}
use Rattle.jt_value.specs.declared.fault.Fault.TheVariants as fault
use Rattle.jt_value.specs.Tree.{Tree, undefined, nothing, truth_value, number, text, markup, printed}
use Rattle.jt_escape.specs.Escaping.{escaped}
use Rattle.jt_ids.specs.declared.op_id.OpId.{OpId}
use Rattle.jt_ids.specs.declared.op_id.OpId.TheVariants as op
use Rattle.jt_ids.specs.declared.test_id.TestId.{TestId}
use Rattle.jt_ids.specs.declared.test_id.TestId.TheVariants as test
use Rattle.jt_op_semantics.specs.Making.{mapped, listed}
use Rattle.jt_op_semantics.specs.Operation.{operation, as_truth}
use Rattle.jt_op_semantics.specs.Testing.{tested, is_markup}
use Rattle.jt_ids.specs.declared.filter_id.FilterId.{FilterId}
use Rattle.jt_ids.specs.declared.filter_id.FilterId.TheVariants as f
use Rattle.std.specs.Char.{encode_utf8}
use Rattle.std.specs.Fmt.{digits}
use Rattle.std.specs.Str.{chars}
use Rattle.jt_filter_semantics.specs.Filtering.{filtered}

infixl 80 ◌▹◌
infix 70 ◌prints◌
infix 70 ◌gives◌
infix 70 ◌fails◌
-- The value of an expression.
abbrev Given : Type 0
Given = Result Tree Fault

-- The expressions of a template, and what it prints.
abbrev Row : Type 0
Row = List Given × Result (List ℕ) Fault

abbrev behind : Given → Result (List Tree) Fault → Result (List Tree) Fault
behind (Ok t) (Ok ts) = Ok (t ∷ ts)
behind (Ok t) (Err e) = Err e
behind (Err e) r = Err e

abbrev evaluated : List Given → Result (List Tree) Fault
evaluated [] = Ok []
evaluated (r ∷ rs) = behind r (evaluated rs)

abbrev called : (List Tree → Given) → Result (List Tree) Fault → Given
called g (Ok ts) = g ts
called g (Err e) = Err e

abbrev call : (List Tree → Given) → List Given → Given
call g rs = called g (evaluated rs)

abbrev printed_by : Bool → Tree → Option (List ℕ) → Result (List ℕ) Fault
printed_by escaping t None = Err fault.Unprintable
printed_by escaping t (Some s) = Ok (if not escaping || is_markup t then s else escaped s)

abbrev joined_texts : Result (List ℕ) Fault → Result (List ℕ) Fault → Result (List ℕ) Fault
joined_texts (Ok s) (Ok t) = Ok (s ++ t)
joined_texts (Ok s) (Err e) = Err e
joined_texts (Err e) r = Err e

abbrev printing_one : Bool → Given → Result (List ℕ) Fault
printing_one escaping (Ok t) = printed_by escaping t (printed t)
printing_one escaping (Err e) = Err e

abbrev printing : Bool → List Given → Result (List ℕ) Fault
printing escaping [] = Ok []
printing escaping (r ∷ rs) = joined_texts (printing_one escaping r) (printing escaping rs)

-- Literals, an unknown name, and a text outside tags.
abbrev n : ℕ → Given
n i = Ok (number (pos i))

abbrev bytes : List ℕ → Given
bytes s = Ok (text s)

abbrev t : String → Given
t s = bytes (codes s)

abbrev none : Given
none = Ok nothing

abbrev truth : Given
truth = Ok (truth_value true)

abbrev nope : Given
nope = Ok undefined

abbrev outside : String → Given
outside s = Ok (markup (codes s))

abbrev ls : List Given → Given
ls = call listed

abbrev nested : ℕ → Given
nested zero = ls []
nested (suc k) = ls (nested k ∷ [])

abbrev dict : List Given → Given
dict = call mapped

-- Operators, tests, and filters with their arguments.
abbrev on : OpId → Given → Given → Given
on o a b = call (operation o) (a ∷ b ∷ [])

abbrev minus : Given → Given
minus a = call (operation op.Negate) (a ∷ [])

abbrev is : TestId → Given → Given
is k a = call (λ ts. as_truth (tested k ts)) (a ∷ [])

abbrev by : FilterId → Given → Given
by g a = call (filtered g true) (a ∷ [])

abbrev by1 : FilterId → Given → Given → Given
by1 g b a = call (filtered g true) (a ∷ b ∷ [])

abbrev by2 : FilterId → Given → Given → Given → Given
by2 g b c a = call (filtered g true) (a ∷ b ∷ c ∷ [])

abbrev by3 : FilterId → Given → Given → Given → Given → Given
by3 g b c d a = call (filtered g true) (a ∷ b ∷ c ∷ d ∷ [])

abbrev raw_by : FilterId → Given → Given
raw_by g a = call (filtered g false) (a ∷ [])

abbrev ◌▹◌ : Given → (Given → Given) → Given
a ▹ g = g a

abbrev ◌gives◌ : List Given → List ℕ → Row
rs gives s = (rs, Ok s)

abbrev ◌prints◌ : List Given → String → Row
rs prints s = rs gives codes s

abbrev ◌fails◌ : List Given → Fault → Row
rs fails e = (rs, Err e)

-- Templates that escape.
abbrev rows : List Row
rows =
    -- '{{ x }}{{ x|safe }}'
    (t "<&'\">" ∷ t "<&'\">" ▹ by f.Safe ∷ []) prints "&lt;&amp;&#39;&#34;&gt;<&'\">"
    -- '{{ "<" ~ ("<b>"|safe) }}'
    ∷ (on op.JoinEscaping (t "<") (t "<b>" ▹ by f.Safe) ∷ []) prints "&lt;<b>"
    -- '{{ [3, 1, 2]|sort|join(",") }} {{ ["b", "A", "a"]|unique|join }} {{ -1|abs }}'
    ∷ (ls (n 3 ∷ n 1 ∷ n 2 ∷ []) ▹ by f.Sort ▹ by1 f.Join (t ",") ∷ outside " "
    ∷ ls (t "b" ∷ t "A" ∷ t "a" ∷ []) ▹ by f.Unique ▹ by f.Join ∷ outside " " ∷ minus (n 1) ▹ by f.Abs ∷ [])
    prints "1,2,3 bA 1"
    -- '{{ ["<", "<"|safe]|join }}'
    ∷ (ls (t "<" ∷ t "<" ▹ by f.Safe ∷ []) ▹ by f.Join ∷ []) prints "&lt;<"
    -- '{{ [9223372036854775807, 1, "x"]|sum }}'
    ∷ (ls (n 9223372036854775807 ∷ n 1 ∷ t "x" ∷ []) ▹ by f.Sum ∷ []) fails fault.BadType
    -- '{{ [1, 2, 3]|select("odd")|join(",") }}'
    ∷ (ls (n 1 ∷ n 2 ∷ n 3 ∷ []) ▹ by1 f.Select (t "odd") ▹ by1 f.Join (t ",") ∷ []) prints "1,3"
    -- '{{ [{"a": 1}, {"a": 2}]|map(attribute="a")|sum }}'
    ∷ (ls (dict (t "a" ∷ n 1 ∷ []) ∷ dict (t "a" ∷ n 2 ∷ []) ∷ []) ▹ by1 f.MapAttribute (t "a") ▹ by f.Sum ∷ [])
    prints "3"
    -- '{{ ["x", "y"]|map("upper")|join }}'
    ∷ (ls (t "x" ∷ t "y" ∷ []) ▹ by1 f.Map (t "upper") ▹ by f.Join ∷ []) prints "XY"
    -- '{{ [{"a": 1}, {"a": 2}]|rejectattr("a", "eq", 2)|length }}'
    ∷ (ls (dict (t "a" ∷ n 1 ∷ []) ∷ dict (t "a" ∷ n 2 ∷ []) ∷ []) ▹ by3 f.RejectAttr (t "a") (t "eq") (n 2)
    ▹ by f.Length ∷ []) prints "1"
    -- '{{ [[[[[[[[[[[[[[[[[[[[[[[[[[[[[[[[]]]]]]]]]]]]]]]]]]]]]]]]]]]]]]]]|length }}'
    ∷ (nested 31 ▹ by f.Length ∷ []) prints "1"
    -- '{{ -3|abs }}{{ (0 - 9223372036854775807 - 1)|abs }}'
    ∷ (minus (n 3) ▹ by f.Abs ∷ on op.Subtract (on op.Subtract (n 0) (n 9223372036854775807)) (n 1) ▹ by f.Abs ∷ [])
    fails fault.Overflow
    -- '{{ true|abs }}'
    ∷ (truth ▹ by f.Abs ∷ []) fails fault.BadType
    -- '{{ nope|abs }}'
    ∷ (nope ▹ by f.Abs ∷ []) fails fault.Undefined
    -- "{{ 'éAB c'|capitalize }}{{ 'ÀB'|lower }}{{ 'é'|upper }}"
    ∷ (bytes (195 ∷ 169 ∷ 65 ∷ 66 ∷ 32 ∷ 99 ∷ []) ▹ by f.Capitalize ∷ bytes (195 ∷ 128 ∷ 66 ∷ []) ▹ by f.Lower
    ∷ bytes (195 ∷ 169 ∷ []) ▹ by f.Upper ∷ [])
    gives (195 ∷ 169 ∷ 97 ∷ 98 ∷ 32 ∷ 99 ∷ 195 ∷ 128 ∷ 98 ∷ 195 ∷ 169 ∷ [])
    -- '{{ none|upper }}{{ nope|upper }}{{ 1|upper }}'
    ∷ (none ▹ by f.Upper ∷ nope ▹ by f.Upper ∷ n 1 ▹ by f.Upper ∷ []) prints "NONE1"
    -- '{{ [1]|upper }}'
    ∷ (ls (n 1 ∷ []) ▹ by f.Upper ∷ []) fails fault.Unprintable
    -- "{{ nope|default }}{{ nope|d('x') }}{{ 0|d('x') }}{{ 0|d('x', true) }}"
    ∷ (nope ▹ by f.Default ∷ nope ▹ by1 f.Default (t "x") ∷ n 0 ▹ by1 f.Default (t "x")
    ∷ n 0 ▹ by2 f.Default (t "x") truth ∷ []) prints "x0x"
    -- "{{ 0|default(boolean=1, default_value='y') }}{{ ''|d(boolean=true) }}"
    ∷ (n 0 ▹ by2 f.Default (t "y") (n 1) ∷ t "" ▹ by2 f.Default (t "") truth ∷ []) prints "y"
    -- "{{ none|default('x') }}"
    ∷ (none ▹ by1 f.Default (t "x") ∷ []) prints "None"
    -- '{{ nope|default(gone) is undefined }}'
    ∷ (nope ▹ by1 f.Default nope ▹ is test.Undefined ∷ []) prints "True"
    -- "{{ {'b': 1, 'A': 2, 'a': 3}|dictsort|length }}"
    ∷ (dict (t "b" ∷ n 1 ∷ t "A" ∷ n 2 ∷ t "a" ∷ n 3 ∷ []) ▹ by f.DictSort ▹ by f.Length ∷ []) prints "3"
    -- '{{ [1]|dictsort }}'
    ∷ (ls (n 1 ∷ []) ▹ by f.DictSort ∷ []) fails fault.BadType
    -- '{{ nope|dictsort }}'
    ∷ (nope ▹ by f.DictSort ∷ []) fails fault.Undefined
    -- "{{ ''|first is undefined }}{{ 'ab'|first }}{{ 'ab'|last }}"
    ∷ (t "" ▹ by f.First ▹ is test.Undefined ∷ t "ab" ▹ by f.First ∷ t "ab" ▹ by f.Last ∷ []) prints "Trueab"
    -- '{{ 5|first }}'
    ∷ (n 5 ▹ by f.First ∷ []) fails fault.NotIterable
    -- "{{ {'x': 1}|first }}{{ nope|last is undefined }}"
    ∷ (dict (t "x" ∷ n 1 ∷ []) ▹ by f.First ∷ nope ▹ by f.Last ▹ is test.Undefined ∷ []) prints "xTrue"
    -- "{{ '12'|int }}{{ '+5'|int }}{{ '-07'|int }}{{ true|int }}"
    ∷ (t "12" ▹ by f.Int ∷ t "+5" ▹ by f.Int ∷ t "-07" ▹ by f.Int ∷ truth ▹ by f.Int ∷ []) prints "125-71"
    -- "{{ ' 5'|int }}{{ '5.0'|int }}{{ ''|int }}{{ '+'|int }}{{ '1_0'|int }}"
    ∷ (t " 5" ▹ by f.Int ∷ t "5.0" ▹ by f.Int ∷ t "" ▹ by f.Int ∷ t "+" ▹ by f.Int ∷ t "1_0" ▹ by f.Int ∷ [])
    prints "00000"
    -- "{{ 'x'|int(none) }}{{ none|int(7) }}{{ []|int('d') }}{{ 'x'|int(default=2) }}"
    ∷ (t "x" ▹ by1 f.Int none ∷ none ▹ by1 f.Int (n 7) ∷ ls [] ▹ by1 f.Int (t "d") ∷ t "x" ▹ by1 f.Int (n 2) ∷ [])
    prints "None7d2"
    -- '{{ nope|int }}'
    ∷ (nope ▹ by f.Int ∷ []) fails fault.Undefined
    -- "{{ '9223372036854775808'|int }}"
    ∷ (t "9223372036854775808" ▹ by f.Int ∷ []) prints "0"
    -- "{{ '-9223372036854775808'|int }}"
    ∷ (t "-9223372036854775808" ▹ by f.Int ∷ []) prints "-9223372036854775808"
    -- '{{ nope|items|length }}'
    ∷ (nope ▹ by f.Items ▹ by f.Length ∷ []) prints "0"
    -- '{{ 1|items }}'
    ∷ (n 1 ▹ by f.Items ∷ []) fails fault.BadType
    -- "{{ [1, none, nope, 'a']|join('-') }}"
    ∷ (ls (n 1 ∷ none ∷ nope ∷ t "a" ∷ []) ▹ by1 f.Join (t "-") ∷ []) prints "1-None--a"
    -- "{{ 'ab'|join('-') }}{{ []|join('x') }}{{ {'k': 1}|join }}"
    ∷ (t "ab" ▹ by1 f.Join (t "-") ∷ ls [] ▹ by1 f.Join (t "x") ∷ dict (t "k" ∷ n 1 ∷ []) ▹ by f.Join ∷ [])
    prints "a-bk"
    -- '{{ [[1]]|join }}'
    ∷ (ls (ls (n 1 ∷ []) ∷ []) ▹ by f.Join ∷ []) fails fault.Unprintable
    -- '{{ 5|join([1]) }}'
    ∷ (n 5 ▹ by1 f.Join (ls (n 1 ∷ [])) ∷ []) fails fault.NotIterable
    -- '{{ []|join([1]) }}'
    ∷ (ls [] ▹ by1 f.Join (ls (n 1 ∷ [])) ∷ []) fails fault.Unprintable
    -- '{{ [1, 2]|join(d=0) }}'
    ∷ (ls (n 1 ∷ n 2 ∷ []) ▹ by1 f.Join (n 0) ∷ []) prints "102"
    -- "{{ 'añ'|length }}{{ [1]|count }}{{ {}|length }}{{ nope|length }}"
    ∷ (bytes (97 ∷ 195 ∷ 177 ∷ []) ▹ by f.Length ∷ ls (n 1 ∷ []) ▹ by f.Length ∷ dict [] ▹ by f.Length
    ∷ nope ▹ by f.Length ∷ []) prints "2100"
    -- '{{ 5|length }}'
    ∷ (n 5 ▹ by f.Length ∷ []) fails fault.BadType
    -- '{{ none|length }}'
    ∷ (none ▹ by f.Length ∷ []) fails fault.BadType
    -- "{{ 'ab'|list == ['a', 'b'] }}"
    ∷ (on op.Equal (t "ab" ▹ by f.List) (ls (t "a" ∷ t "b" ∷ [])) ∷ []) prints "True"
    -- '{{ true|list }}'
    ∷ (truth ▹ by f.List ∷ []) fails fault.NotIterable
    -- "{{ [2, 3, 3]|max }}{{ ['b', 'B', 'a']|max }}{{ ['b', 'A', 'a']|min }}"
    ∷ (ls (n 2 ∷ n 3 ∷ n 3 ∷ []) ▹ by f.Max ∷ ls (t "b" ∷ t "B" ∷ t "a" ∷ []) ▹ by f.Max
    ∷ ls (t "b" ∷ t "A" ∷ t "a" ∷ []) ▹ by f.Min ∷ []) prints "3bA"
    -- "{{ []|max is undefined }}{{ 'bca'|min }}"
    ∷ (ls [] ▹ by f.Max ▹ is test.Undefined ∷ t "bca" ▹ by f.Min ∷ []) prints "Truea"
    -- "{{ [1, 'a']|max }}"
    ∷ (ls (n 1 ∷ t "a" ∷ []) ▹ by f.Max ∷ []) fails fault.BadType
    -- '{{ [1, nope]|max }}'
    ∷ (ls (n 1 ∷ nope ∷ []) ▹ by f.Max ∷ []) fails fault.Undefined
    -- '{{ [none]|min }}'
    ∷ (ls (none ∷ []) ▹ by f.Min ∷ []) fails fault.BadType
    -- "{{ ['a'|safe]|max }}"
    ∷ (ls (t "a" ▹ by f.Safe ∷ []) ▹ by f.Max ∷ []) fails fault.BadType
    -- "{{ 'aXaX'|replace('X', '') }}{{ 'aaa'|replace('aa', 'b') }}"
    ∷ (t "aXaX" ▹ by2 f.Replace (t "X") (t "") ∷ t "aaa" ▹ by2 f.Replace (t "aa") (t "b") ∷ []) prints "aaba"
    -- "{{ 'a'|replace('', 'b') }}"
    ∷ (t "a" ▹ by2 f.Replace (t "") (t "b") ∷ []) fails fault.BadArgument
    -- "{{ 'a'|replace(1, 'b') }}"
    ∷ (t "a" ▹ by2 f.Replace (n 1) (t "b") ∷ []) fails fault.BadArgument
    -- "{{ 'a'|replace('a', none) }}"
    ∷ (t "a" ▹ by2 f.Replace (t "a") none ∷ []) fails fault.BadArgument
    -- '{{ 5|replace(1, 2) }}'
    ∷ (n 5 ▹ by2 f.Replace (n 1) (n 2) ∷ []) fails fault.BadType
    -- '{{ nope|replace(1, 2) }}'
    ∷ (nope ▹ by2 f.Replace (n 1) (n 2) ∷ []) fails fault.Undefined
    -- "{{ ('a'|safe)|replace('a', 'b') }}"
    ∷ (t "a" ▹ by f.Safe ▹ by2 f.Replace (t "a") (t "b") ∷ []) fails fault.BadType
    -- "{{ 'a'|replace(old='a', new='b') }}"
    ∷ (t "a" ▹ by2 f.Replace (t "a") (t "b") ∷ []) prints "b"
    -- "{{ 'añ'|reverse }}{{ [1, 2]|reverse|join }}{{ nope|reverse|length }}"
    ∷ (bytes (97 ∷ 195 ∷ 177 ∷ []) ▹ by f.Reverse ∷ ls (n 1 ∷ n 2 ∷ []) ▹ by f.Reverse ▹ by f.Join
    ∷ nope ▹ by f.Reverse ▹ by f.Length ∷ []) gives (195 ∷ 177 ∷ 97 ∷ 50 ∷ 49 ∷ 48 ∷ [])
    -- "{{ {'a': 1, 'b': 2}|reverse|join }}"
    ∷ (dict (t "a" ∷ n 1 ∷ t "b" ∷ n 2 ∷ []) ▹ by f.Reverse ▹ by f.Join ∷ []) prints "ba"
    -- "{{ [3, 1, 2]|sort(true)|join }}{{ ['b', 'A', 'a', 'B']|sort|join }}"
    ∷ (ls (n 3 ∷ n 1 ∷ n 2 ∷ []) ▹ by1 f.Sort truth ▹ by f.Join
    ∷ ls (t "b" ∷ t "A" ∷ t "a" ∷ t "B" ∷ []) ▹ by f.Sort ▹ by f.Join ∷ []) prints "321AabB"
    -- "{{ ['b', 'A', 'a', 'B']|sort(reverse=1)|join }}"
    ∷ (ls (t "b" ∷ t "A" ∷ t "a" ∷ t "B" ∷ []) ▹ by1 f.Sort (n 1) ▹ by f.Join ∷ []) prints "bBAa"
    -- "{{ [1, 'a']|sort }}"
    ∷ (ls (n 1 ∷ t "a" ∷ []) ▹ by f.Sort ∷ []) fails fault.BadType
    -- '{{ []|sort|length }}{{ nope|sort|length }}'
    ∷ (ls [] ▹ by f.Sort ▹ by f.Length ∷ nope ▹ by f.Sort ▹ by f.Length ∷ []) prints "00"
    -- '{{ [1, nope]|sort }}'
    ∷ (ls (n 1 ∷ nope ∷ []) ▹ by f.Sort ∷ []) fails fault.Undefined
    -- "{{ 'bA'|sort|join }}"
    ∷ (t "bA" ▹ by f.Sort ▹ by f.Join ∷ []) prints "Ab"
    -- '{{ []|sum }}{{ [1, 2]|sum }}'
    ∷ (ls [] ▹ by f.Sum ∷ ls (n 1 ∷ n 2 ∷ []) ▹ by f.Sum ∷ []) prints "03"
    -- '{{ [true]|sum }}'
    ∷ (ls (truth ∷ []) ▹ by f.Sum ∷ []) fails fault.BadType
    -- "{{ 'a'|sum }}"
    ∷ (t "a" ▹ by f.Sum ∷ []) fails fault.BadType
    -- '{{ [9223372036854775807, 1, -5]|sum }}'
    ∷ (ls (n 9223372036854775807 ∷ n 1 ∷ minus (n 5) ∷ []) ▹ by f.Sum ∷ []) fails fault.Overflow
    -- '{{ [nope]|sum }}'
    ∷ (ls (nope ∷ []) ▹ by f.Sum ∷ []) fails fault.Undefined
    -- "{{ '\\v a\\n'|trim }}|{{ '\\u00a0a'|trim }}"
    ∷ (bytes (11 ∷ 32 ∷ 97 ∷ 10 ∷ []) ▹ by f.Trim ∷ outside "|" ∷ bytes (194 ∷ 160 ∷ 97 ∷ []) ▹ by f.Trim ∷ [])
    gives (97 ∷ 124 ∷ 194 ∷ 160 ∷ 97 ∷ [])
    -- '{{ 12|trim }}'
    ∷ (n 12 ▹ by f.Trim ∷ []) prints "12"
    -- "{{ [1, true, 'a', 'A', 2]|unique|join }}"
    ∷ (ls (n 1 ∷ truth ∷ t "a" ∷ t "A" ∷ n 2 ∷ []) ▹ by f.Unique ▹ by f.Join ∷ []) prints "1a2"
    -- '{{ [[1], [true]]|unique|length }}'
    ∷ (ls (ls (n 1 ∷ []) ∷ ls (truth ∷ []) ∷ []) ▹ by f.Unique ▹ by f.Length ∷ []) prints "1"
    -- "{{ ['a', 'A'|safe]|unique|length }}"
    ∷ (ls (t "a" ∷ t "A" ▹ by f.Safe ∷ []) ▹ by f.Unique ▹ by f.Length ∷ []) prints "1"
    -- '{{ 1|upper() }}'
    ∷ (n 1 ▹ by f.Upper ∷ []) prints "1"
    -- '{{ 5|join(1 // 0) }}'
    ∷ (n 5 ▹ by1 f.Join (on op.FloorDivide (n 1) (n 0)) ∷ []) fails fault.ZeroDivide
    -- "{{ {'a': 1}|attr('a') }}{{ 1|attr('a') }}"
    ∷ (dict (t "a" ∷ n 1 ∷ []) ▹ by1 f.Attr (t "a") ∷ n 1 ▹ by1 f.Attr (t "a") ∷ []) prints "1"
    -- '{{ nope|attr(1) }}'
    ∷ (nope ▹ by1 f.Attr (n 1) ∷ []) fails fault.Undefined
    -- '{{ 1|attr(1) }}'
    ∷ (n 1 ▹ by1 f.Attr (n 1) ∷ []) fails fault.BadArgument
    -- "{{ {'a': 1}|attr(name='a') }}"
    ∷ (dict (t "a" ∷ n 1 ∷ []) ▹ by1 f.Attr (t "a") ∷ []) prints "1"
    -- "{{ [1, 2]|map('string')|join('-') }}"
    ∷ (ls (n 1 ∷ n 2 ∷ []) ▹ by1 f.Map (t "string") ▹ by1 f.Join (t "-") ∷ []) prints "1-2"
    -- "{{ ['a']|map('replace', 'a', 'b')|join }}"
    ∷ (ls (t "a" ∷ []) ▹ by3 f.Map (t "replace") (t "a") (t "b") ▹ by f.Join ∷ []) prints "b"
    -- "{{ [nope, 1]|map('default', 'x')|join }}"
    ∷ (ls (nope ∷ n 1 ∷ []) ▹ by2 f.Map (t "default") (t "x") ▹ by f.Join ∷ []) prints "x1"
    -- "{{ [[1], [2, 3]]|map('join', ',')|join(';') }}"
    ∷ (ls (ls (n 1 ∷ []) ∷ ls (n 2 ∷ n 3 ∷ []) ∷ []) ▹ by2 f.Map (t "join") (t ",") ▹ by1 f.Join (t ";") ∷ [])
    prints "1;2,3"
    -- "{{ 5|map('upper') }}"
    ∷ (n 5 ▹ by1 f.Map (t "upper") ∷ []) fails fault.NotIterable
    -- "{{ [[1]]|map('upper') }}"
    ∷ (ls (ls (n 1 ∷ []) ∷ []) ▹ by1 f.Map (t "upper") ∷ []) fails fault.Unprintable
    -- "{{ [nope]|map(attribute='a') }}"
    ∷ (ls (nope ∷ []) ▹ by1 f.MapAttribute (t "a") ∷ []) fails fault.Undefined
    -- "{{ [{'a': 1}, 5]|map(attribute='a')|join('-') }}"
    ∷ (ls (dict (t "a" ∷ n 1 ∷ []) ∷ n 5 ∷ []) ▹ by1 f.MapAttribute (t "a") ▹ by1 f.Join (t "-") ∷ []) prints "1-"
    -- "{{ [0, 1, '', 'a']|select|join }}{{ [0, 1, '', 'a']|reject|length }}"
    ∷ (ls (n 0 ∷ n 1 ∷ t "" ∷ t "a" ∷ []) ▹ by f.Select ▹ by f.Join
    ∷ ls (n 0 ∷ n 1 ∷ t "" ∷ t "a" ∷ []) ▹ by f.Reject ▹ by f.Length ∷ []) prints "1a2"
    -- "{{ [1, 2, 3]|select('divisibleby', 2)|join }}"
    ∷ (ls (n 1 ∷ n 2 ∷ n 3 ∷ []) ▹ by2 f.Select (t "divisibleby") (n 2) ▹ by f.Join ∷ []) prints "2"
    -- "{{ [1]|select('divisibleby', 0) }}"
    ∷ (ls (n 1 ∷ []) ▹ by2 f.Select (t "divisibleby") (n 0) ∷ []) fails fault.ZeroDivide
    -- "{{ []|select('divisibleby', 0)|length }}"
    ∷ (ls [] ▹ by2 f.Select (t "divisibleby") (n 0) ▹ by f.Length ∷ []) prints "0"
    -- "{{ ['a']|select('odd') }}"
    ∷ (ls (t "a" ∷ []) ▹ by1 f.Select (t "odd") ∷ []) fails fault.BadType
    -- "{{ [1, 2, 3]|reject('in', [1, 2])|join }}"
    ∷ (ls (n 1 ∷ n 2 ∷ n 3 ∷ []) ▹ by2 f.Reject (t "in") (ls (n 1 ∷ n 2 ∷ [])) ▹ by f.Join ∷ []) prints "3"
    -- "{{ [nope, 1]|select('defined')|join }}"
    ∷ (ls (nope ∷ n 1 ∷ []) ▹ by1 f.Select (t "defined") ▹ by f.Join ∷ []) prints "1"
    -- "{{ [{'a': 0}, {'a': 1}]|selectattr('a')|length }}"
    ∷ (ls (dict (t "a" ∷ n 0 ∷ []) ∷ dict (t "a" ∷ n 1 ∷ []) ∷ []) ▹ by1 f.SelectAttr (t "a") ▹ by f.Length ∷ [])
    prints "1"
    -- "{{ [nope]|selectattr('a') }}"
    ∷ (ls (nope ∷ []) ▹ by1 f.SelectAttr (t "a") ∷ []) fails fault.Undefined
    -- "{{ [{'a': 1}, {}]|selectattr('a', 'defined')|length }}"
    ∷ (ls (dict (t "a" ∷ n 1 ∷ []) ∷ dict [] ∷ []) ▹ by2 f.SelectAttr (t "a") (t "defined") ▹ by f.Length ∷ [])
    prints "1"
    -- "{{ [1, 2]|rejectattr('a')|length }}"
    ∷ (ls (n 1 ∷ n 2 ∷ []) ▹ by1 f.RejectAttr (t "a") ▹ by f.Length ∷ []) prints "2"
    -- '{{ "<"|e|e }}{{ "<"|forceescape|forceescape }}'
    ∷ (t "<" ▹ by f.Escape ▹ by f.Escape ∷ t "<" ▹ by f.ForceEscape ▹ by f.ForceEscape ∷ []) prints "&lt;&amp;lt;"
    -- '{{ ("<"|safe) + "<" }}'
    ∷ (on op.Add (t "<" ▹ by f.Safe) (t "<") ∷ []) prints "<&lt;"
    -- '{{ "<" + ("<"|safe) }}{{ ("<"|safe) + ("<"|safe) }}'
    ∷ (on op.Add (t "<") (t "<" ▹ by f.Safe) ∷ on op.Add (t "<" ▹ by f.Safe) (t "<" ▹ by f.Safe) ∷ [])
    prints "&lt;<<<"
    -- '{{ ("<"|safe) * 2 }}'
    ∷ (on op.Multiply (t "<" ▹ by f.Safe) (n 2) ∷ []) prints "<<"
    -- '{{ ("<b>"|safe)|upper }}{{ ("<"|safe)|string }}'
    ∷ (t "<b>" ▹ by f.Safe ▹ by f.Upper ∷ t "<" ▹ by f.Safe ▹ by f.String ∷ []) prints "<B><"
    -- '{{ ("<"|safe)[0] }}'
    ∷ (on op.Item (t "<" ▹ by f.Safe) (n 0) ∷ []) prints "&lt;"
    -- '{{ ("<"|safe)|reverse }}{{ ("<"|safe)|first }}'
    ∷ (t "<" ▹ by f.Safe ▹ by f.Reverse ∷ t "<" ▹ by f.Safe ▹ by f.First ∷ []) prints "&lt;&lt;"
    -- '{{ ("<"|safe)|list|join }}'
    ∷ (t "<" ▹ by f.Safe ▹ by f.List ▹ by f.Join ∷ []) prints "&lt;"
    -- '{{ ("<"|safe) ~ 1 ~ "<" }}'
    ∷ (on op.JoinEscaping (on op.JoinEscaping (t "<" ▹ by f.Safe) (n 1)) (t "<") ∷ []) prints "<1&lt;"
    -- '{{ ["<"]|join("<"|safe) }}'
    ∷ (ls (t "<" ∷ []) ▹ by1 f.Join (t "<" ▹ by f.Safe) ∷ []) prints "&lt;"
    -- '{{ ["a", "b"]|join("<"|safe) }}{{ ["<", 1|safe]|join("<") }}'
    ∷ (ls (t "a" ∷ t "b" ∷ []) ▹ by1 f.Join (t "<" ▹ by f.Safe)
    ∷ ls (t "<" ∷ n 1 ▹ by f.Safe ∷ []) ▹ by1 f.Join (t "<") ∷ []) prints "a<b&lt;&lt;1"
    -- "{{ []|map('nope') }}"
    ∷ (ls [] ▹ by1 f.Map (t "nope") ∷ []) fails fault.BadArgument
    -- "{{ 5|map('nope') }}"
    ∷ (n 5 ▹ by1 f.Map (t "nope") ∷ []) fails fault.NotIterable
    -- "{{ []|map('select') }}"
    ∷ (ls [] ▹ by1 f.Map (t "select") ∷ []) fails fault.BadArgument
    -- "{{ []|map('replace', 'a') }}"
    ∷ (ls [] ▹ by2 f.Map (t "replace") (t "a") ∷ []) fails fault.BadArgument
    -- "{{ []|select('odd', 1) }}"
    ∷ (ls [] ▹ by2 f.Select (t "odd") (n 1) ∷ []) fails fault.BadArgument
    -- "{{ []|selectattr(1) }}"
    ∷ (ls [] ▹ by1 f.SelectAttr (n 1) ∷ []) fails fault.BadArgument
    -- "{{ [{'a': 'x'}]|map('attr', 'a')|join }}"
    ∷ (ls (dict (t "a" ∷ t "x" ∷ []) ∷ []) ▹ by2 f.Map (t "attr") (t "a") ▹ by f.Join ∷ []) prints "x"
    ∷ []

rows_hold : map (λ (r : Row). printing true r.0) rows ≡ map (λ (r : Row). r.1) rows
unfolding digits chars encode_utf8
rows_hold = refl

-- Templates that do not escape.
abbrev raw_rows : List Row
raw_rows =
    -- '{{ "<" ~ ("<"|safe) is escaped }}{{ ("<" ~ ("<"|safe)) is escaped }}'
    (on op.Join (t "<") (t "<" ▹ raw_by f.Safe ▹ is test.Escaped)
    ∷ on op.Join (t "<") (t "<" ▹ raw_by f.Safe) ▹ is test.Escaped ∷ []) prints "<TrueFalse"
    -- '{{ "<"|e }}{{ "<" + ("<"|safe) }}'
    ∷ (t "<" ▹ raw_by f.Escape ∷ on op.Add (t "<") (t "<" ▹ raw_by f.Safe) ∷ []) prints "&lt;&lt;<"
    -- '{{ "<" }}{{ "<"|e }}'
    ∷ (t "<" ∷ t "<" ▹ raw_by f.Escape ∷ []) prints "<&lt;"
    ∷ []

raw_rows_hold : map (λ (r : Row). printing false r.0) raw_rows ≡ map (λ (r : Row). r.1) raw_rows
unfolding digits chars encode_utf8
raw_rows_hold = refl

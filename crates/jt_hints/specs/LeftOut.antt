-- What to write in place of Jinja's filters, tests and functions that the language leaves
-- out, and of the methods of Python's values: a row has a name and a sentence.
use Rattle.std.specs.Prelude.{ℕ, List, [], ◌∷◌, Option, option_map, codes, find}
use Rattle.std.specs.Str.{bytes_eq}

-- The sentence of the row with this name, if there is one.
abbrev pub sentence_in : List (List ℕ × List ℕ) → List ℕ → Option (List ℕ)
sentence_in rows name = option_map (λ row. row.1) (find (λ row. bytes_eq name row.0) rows)

abbrev pub filters : List (List ℕ × List ℕ)
filters =
    (codes "batch", codes "the host passes a list of lists")
    ∷ (codes "center", codes "the host pads the text")
    ∷ (codes "filesizeformat", codes "the host passes the size as a text")
    ∷ (codes "float", codes "numbers are whole, and the host passes fractions as texts")
    ∷ (codes "format", codes "join the parts by ~, as in a ~ \" of \" ~ b")
    ∷ (codes "groupby", codes "the host passes the groups, or loop.previtem shows where one begins")
    ∷ (codes "indent", codes "the host indents the text")
    ∷ (codes "pprint", codes "print a list by join, and a map by a loop")
    ∷ (codes "random", codes "the host passes the chosen item")
    ∷ (codes "round", codes "numbers are whole: // divides and rounds down")
    ∷ (codes "slice", codes "the host passes a list of lists")
    ∷ (codes "striptags", codes "the host removes the tags")
    ∷ (codes "title", codes "the host passes the title; capitalize changes the first character of a text")
    ∷ (codes "tojson", codes "the host passes the JSON as a text")
    ∷ (codes "truncate", codes "the host shortens the text")
    ∷ (codes "urlencode", codes "the host encodes the text")
    ∷ (codes "urlize", codes "the host makes the links, and the filter safe prints them")
    ∷ (codes "wordcount", codes "the host counts the words")
    ∷ (codes "wordwrap", codes "the host wraps the lines")
    ∷ (codes "xmlattr", codes "write each attribute of the element")
    ∷ []

abbrev pub left_out_filter : List ℕ → Option (List ℕ)
left_out_filter name = sentence_in filters name

abbrev pub tests : List (List ℕ × List ℕ)
tests =
    (codes "callable", codes "macros, range, super and self are called by name, and nothing else is callable")
    ∷ (codes "filter", codes "which filters exist is known: leave the test out")
    ∷ (codes "float", codes "numbers are whole: leave the test out")
    ∷ (codes "iterable", codes "tell values apart by the tests mapping, string, integer and none")
    ∷ (codes "lower", codes "compare with the filter, as in x == x|lower")
    ∷ (codes "number", codes "numbers are whole: the test integer is true for all")
    ∷ (codes "sameas", codes "use == or, for truth values, the tests true and false")
    ∷ (codes "sequence", codes "tell values apart by the tests mapping, string, integer and none")
    ∷ (codes "test", codes "which tests exist is known: leave the test out")
    ∷ (codes "upper", codes "compare with the filter, as in x == x|upper")
    ∷ []

abbrev pub left_out_test : List ℕ → Option (List ℕ)
left_out_test name = sentence_in tests name

abbrev pub functions : List (List ℕ × List ℕ)
functions =
    (codes "caller", codes "pass the body as an argument, kept by a set block")
    ∷ (codes "cycler", codes "in a loop, loop.cycle(..) takes its arguments in turn")
    ∷ (codes "dict", codes "a map is written as {\"a\": 1}")
    ∷ (codes "gettext", codes "the host passes the translated texts")
    ∷ (codes "joiner", codes "use the filter join, or loop.last")
    ∷ (codes "lipsum", codes "the host passes the text")
    ∷ (codes "namespace", codes "a set in a loop ends with its turn: use filters such as sum, select and map")
    ∷ (codes "ngettext", codes "the host passes the translated texts")
    ∷ (codes "now", codes "the host passes the time in the context")
    ∷ (codes "_", codes "the host passes the translated texts")
    ∷ []

abbrev pub left_out_function : List ℕ → Option (List ℕ)
left_out_function name = sentence_in functions name

-- The fields that `loop` has in Jinja, or in other template languages, and not here.
abbrev pub loop_fields : List (List ℕ × List ℕ)
loop_fields =
    (codes "changed", codes "compare with the item before, as in x != loop.previtem")
    ∷ (codes "counter", codes "the number of a turn is loop.index")
    ∷ (codes "counter0", codes "the number of a turn, from 0, is loop.index0")
    ∷ (codes "depth", codes "loops are not recursive: leave it out")
    ∷ (codes "depth0", codes "loops are not recursive: leave it out")
    ∷ (codes "idx", codes "the number of a turn is loop.index")
    ∷ (codes "parentloop", codes "before the inner loop, keep what it needs, as in {% set outer = loop.index %}")
    ∷ (codes "revcounter", codes "the number of turns that are left is loop.revindex")
    ∷ []

abbrev pub left_out_loop_field : List ℕ → Option (List ℕ)
left_out_loop_field name = sentence_in loop_fields name

abbrev pub methods : List (List ℕ × List ℕ)
methods =
    (codes "append", codes "join lists by +, as in xs + [x]")
    ∷ (codes "capitalize", codes "write the filter, as in x|capitalize")
    ∷ (codes "copy", codes "values are never changed in place: leave the call out")
    ∷ (codes "count", codes "count items by select and length, as in xs|select(\"eq\", x)|length")
    ∷ (codes "decode", codes "the host passes the text")
    ∷ (codes "encode", codes "the host passes the text")
    ∷ (codes "endswith", codes "for one character write x|last == \"a\"; for more, the host passes the answer")
    ∷ (codes "extend", codes "join lists by +, as in xs + ys")
    ∷ (codes "find", codes "write \"a\" in x, which is whether x contains the text")
    ∷ (codes "format", codes "join the parts by ~, as in a ~ \" of \" ~ b")
    ∷ (codes "get", codes "write x[\"k\"]|default(\"-\"), since a missing item is undefined")
    ∷ (codes "index", codes "write a loop, whose loop.index0 is the position")
    ∷ (codes "insert", codes "join lists by +, as in [x] + xs")
    ∷ (codes "isdigit", codes "the host passes the answer")
    ∷ (codes "isoformat", codes "the host passes the date as a text")
    ∷ (codes "items", codes "write the filter, as in x|items")
    ∷ (codes "join", codes "write the filter, as in xs|join(\", \")")
    ∷ (codes "keys", codes "write x|list: the items of a map are its keys")
    ∷ (codes "lower", codes "write the filter, as in x|lower")
    ∷ (codes "lstrip", codes "write x|trim, which removes whitespace at both ends")
    ∷ (codes "pop", codes "values are never changed in place: write x|first, x|last or x[0]")
    ∷ (codes "replace", codes "write the filter, as in x|replace(\"a\", \"b\")")
    ∷ (codes "reverse", codes "write the filter, as in xs|reverse")
    ∷ (codes "rstrip", codes "write x|trim, which removes whitespace at both ends")
    ∷ (codes "sort", codes "write the filter, as in xs|sort")
    ∷ (codes "split", codes "the host passes a list")
    ∷ (codes "splitlines", codes "the host passes a list")
    ∷ (codes "startswith", codes "for one character write x|first == \"a\"; for more, the host passes the answer")
    ∷ (codes "strftime", codes "the host passes the date as a text")
    ∷ (codes "strip", codes "write the filter, as in x|trim")
    ∷ (codes "title", codes "the host passes the title; capitalize changes the first character of a text")
    ∷ (codes "update", codes "values are never changed in place: the host passes the whole map")
    ∷ (codes "upper", codes "write the filter, as in x|upper")
    ∷ (codes "values", codes "write x|items|map(\"last\")")
    ∷ []

abbrev pub left_out_method : List ℕ → Option (List ℕ)
left_out_method name = sentence_in methods name

-- The characters that other languages, or texts from elsewhere, have in a tag.
abbrev pub characters : List (List ℕ × List ℕ)
characters =
    (codes "!", codes "write not, or != between two values")
    ∷ (codes "#", codes "a comment is written {# .. #}")
    ∷ (codes "&", codes "write and")
    ∷ (codes "/", codes "numbers are whole: // divides and rounds down")
    ∷ (codes ";", codes "a tag has one statement or expression")
    ∷ (codes "?", codes "write a if x else b")
    ∷ (codes "^", codes "the power is **")
    ∷ (codes "`", codes "a text stands in \" or '")
    ∷ []

abbrev pub left_out_character : List ℕ → Option (List ℕ)
left_out_character x = sentence_in characters x

-- What a writer of templates probably meant, and what to write in place of what the language leaves
-- out.
use Rattle.std.specs.Prelude.{◌++◌, List, [], ◌∷◌, codes, Option, Some, None, is_some, option_map, string_bytes}
use Rattle.std.specs.Prelude.{if◌then◌else◌, String}
use Rattle.std.specs.declared.alloc.Global.{Global}
use Rattle.std.specs.Fmt.{decimal}
use Rattle.std.specs.List.{flat_map}
use Rattle.std.specs.Option.{option_or}
use Rattle.jt_ast.specs.Expressions.{Text}
use Rattle.jt_ids.specs.FilterTable.{filters, filter_names}
use Rattle.jt_ids.specs.LoopTable.{field_named}
use Rattle.jt_ids.specs.TestTable.{tests, test_names}
use Rattle.jt_hints.specs.Edits.{nearest}
use Rattle.jt_hints.specs.LeftOut.{left_out_filter, left_out_function, left_out_loop_field, left_out_method}
use Rattle.jt_hints.specs.LeftOut.{left_out_test}
use Rattle.jt_hints.specs.Fitting.{field_arguments, filter_arguments, function_arguments, test_arguments}
use Rattle.jt_codegen.specs.declared.ChainError.TheVariants as chain_error
use Rattle.jt_codegen.specs.declared.ChainSubject.{ChainSubject}
use Rattle.jt_codegen.specs.declared.ChainSubject.TheVariants as chain_subject
use Rattle.jt_codegen.specs.declared.CompileError.{CompileError}
use Rattle.jt_codegen.specs.declared.CompileError.TheVariants as compile_error
use Rattle.jt_codegen.specs.declared.Finding.{Finding}
use Rattle.jt_codegen.specs.declared.ScopeError.TheVariants as scope_error
use Rattle.jt_codegen.specs.declared.Subject.{Subject}
use Rattle.jt_codegen.specs.declared.Subject.TheVariants as subject
use Rattle.jt_codegen.specs.declared.TagPlace.{TagPlace}
use Rattle.jt_host.specs.Subjects.{quoted}
use Rattle.jt_host.specs.declared.clues.Clues.{Clues}

-- ---- what to write in place of what the language leaves out, and what takes other arguments

abbrev pub word_advice : Option Subject → Option Text
word_advice (Some (subject.Filter x)) = left_out_filter (string_bytes x)
word_advice (Some (subject.Test x)) = left_out_test (string_bytes x)
word_advice about = None

abbrev pub callee_advice : Option Subject → Option Text
callee_advice (Some (subject.CalledName x)) = left_out_function (string_bytes x)
callee_advice (Some (subject.CalledField of k)) = left_out_method (string_bytes k)
callee_advice about = None

-- A field of `loop` that is read or called.
abbrev pub loop_advice : Option Subject → Option Text
loop_advice (Some (subject.LoopField k)) = left_out_loop_field (string_bytes k)
loop_advice (Some (subject.CalledField of k)) = left_out_loop_field (string_bytes k)
loop_advice about = None

-- What the filter, test, function or field takes whose arguments do not fit.
abbrev pub arguments_advice : Option Subject → Option Text
arguments_advice (Some (subject.Filter x)) = filter_arguments (string_bytes x)
arguments_advice (Some (subject.Test x)) = test_arguments (string_bytes x)
arguments_advice (Some (subject.CalledName x)) = function_arguments (string_bytes x)
arguments_advice (Some (subject.CalledField of k)) = field_arguments (string_bytes of) (string_bytes k)
arguments_advice about = None

abbrev pub advice : CompileError → Option Subject → Option Text
advice (compile_error.Chain (chain_error.Parse template e)) about = word_advice about
advice (compile_error.Chain chain_error.BadName) about =
    Some (codes "a name has 1 to 255 bytes, no backslash, and no part between / that is empty, . or ..")
advice (compile_error.Scope scope_error.NotCallable) about = callee_advice about
advice (compile_error.Scope scope_error.LoopOutside) about = loop_advice about
advice (compile_error.Scope scope_error.BadArguments) about = arguments_advice about
advice e about = None

-- ---- the known name that a name probably means

-- The names of the fields of `loop`.
abbrev pub loop_names : List Text
loop_names =
    codes "index" ∷ codes "index0" ∷ codes "revindex" ∷ codes "revindex0" ∷ codes "first" ∷ codes "last"
    ∷ codes "length" ∷ codes "previtem" ∷ codes "nextitem" ∷ []

abbrev pub near_word : Option Subject → Option Text
near_word (Some (subject.Filter x)) = nearest (string_bytes x) (flat_map filter_names filters)
near_word (Some (subject.Test x)) = nearest (string_bytes x) (flat_map test_names tests)
near_word about = None

-- A field is read outside a loop. Another name probably means a field.
abbrev pub near_field : Text → Option Text
near_field field = if is_some (field_named field) then None else nearest field loop_names

abbrev pub near : CompileError → Option Subject → Option Text
near (compile_error.Chain (chain_error.Parse template e)) about = near_word about
near (compile_error.Scope scope_error.LoopOutside) (Some (subject.LoopField k)) = near_field (string_bytes k)
near e about = None

-- ---- what follows the sentence

-- A place, after the words for it.
abbrev pub place_after : Text → TagPlace → Text
place_after words p = words ++ (string_bytes p.template ++ (codes ":" ++ decimal p.line))

-- The names of a ring of templates, each after a comma.
abbrev pub ring_text : List (String Global) → Text
ring_text names = flat_map (λ x. codes "," ++ quoted (string_bytes x)) names

-- The second place, or the further names, that a refusal is about.
abbrev pub chain_text : ChainSubject → Text
chain_text (chain_subject.BlockTwice x first) = place_after (codes "; the first one is at ") first
chain_text (chain_subject.NameTwice x first) = place_after (codes "; the first one is at ") first
chain_text (chain_subject.Super x opened) = place_after (codes "; it begins at ") opened
chain_text (chain_subject.Ring x rest) = ring_text rest.items
chain_text s = []

abbrev pub further_text : Option Subject → Text
further_text (Some (subject.Chain s)) = chain_text s
further_text about = []

abbrev pub or_meant : Option Text → Text → Text
or_meant (Some name) further = codes "; did you mean" ++ (quoted name ++ codes "?")
or_meant None further = further

abbrev pub advised : Option Text → Text → Text
advised (Some words) other = codes "; " ++ words
advised None other = other

-- What to write in place of the method that is called.
abbrev pub method_of : Option (String Global) → Option Text
method_of (Some x) = left_out_method (string_bytes x)
method_of None = None

abbrev pub method_advice : Clues → Option Text
method_advice clues = method_of clues.method

-- What the macro takes whose arguments do not fit.
abbrev pub macro_advice : Clues → Option Text
macro_advice clues = option_map string_bytes clues.takes

-- What to write: the advice on a word, or else on a method, or else on a macro.
abbrev pub advice_text : Clues → Finding → Option Text
advice_text clues f = option_or (advice f.error f.subject) (option_or (method_advice clues) (macro_advice clues))

-- The known name that was probably meant, or else that of the sources.
abbrev pub meant_text : Clues → Finding → Option Text
meant_text clues f = option_or (near f.error f.subject) (option_map string_bytes clues.meant)

-- What to write, or else the name that was probably meant, or else what the refusal is also about.
abbrev pub suggestion : Clues → Finding → Text
suggestion clues f = advised (advice_text clues f) (or_meant (meant_text clues f) (further_text f.subject))

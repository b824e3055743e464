-- What a refusal is about, as an explanation prints it.
use Rattle.std.specs.Prelude.{◌++◌, [], codes, Option, Some, None, option_map, string_bytes, unwrap_or}
use Rattle.jt_ast.specs.Expressions.{Text}
use Rattle.jt_codegen.specs.declared.ChainSubject.{ChainSubject}
use Rattle.jt_codegen.specs.declared.ChainSubject.TheVariants as chain_subject
use Rattle.jt_codegen.specs.declared.Subject.{Subject}
use Rattle.jt_codegen.specs.declared.Subject.TheVariants as subject
use Rattle.jt_turns.specs.Shown.{shown}

-- A name in quotes, after a space. Control characters are shown by their codes.
abbrev pub quoted : Text → Text
quoted x = codes " \"" ++ (shown x ++ codes "\"")

-- The name that a broken rule of chains is about.
abbrev pub chain_name : ChainSubject → Text
chain_name (chain_subject.Template x) = string_bytes x
chain_name (chain_subject.Macro library x) = string_bytes x
chain_name (chain_subject.Block x) = string_bytes x
chain_name (chain_subject.BlockTwice x first) = string_bytes x
chain_name (chain_subject.Super x opened) = string_bytes x
chain_name (chain_subject.Ring x rest) = string_bytes x
chain_name (chain_subject.NameTwice x first) = string_bytes x
chain_name (chain_subject.Templates x) = string_bytes x
chain_name (chain_subject.Chains x) = string_bytes x

-- The name that a refusal is about, if it has one.
abbrev pub subject_name : Option Subject → Option Text
subject_name (Some (subject.Name x)) = Some (string_bytes x)
subject_name (Some (subject.LoopField x)) = Some (string_bytes x)
subject_name (Some (subject.CalledName x)) = Some (string_bytes x)
subject_name (Some (subject.CalledField of k)) = Some (string_bytes of ++ (codes "." ++ string_bytes k))
subject_name (Some subject.CalledExpression) = None
subject_name (Some (subject.Filter x)) = Some (string_bytes x)
subject_name (Some (subject.Test x)) = Some (string_bytes x)
subject_name (Some (subject.Macro x)) = Some (string_bytes x)
subject_name (Some subject.Bindings) = None
subject_name (Some subject.Names) = None
subject_name (Some (subject.Limit l)) = None
subject_name (Some (subject.Chain s)) = Some (chain_name s)
subject_name None = None

-- The words that are marked in the line: the name, or the call of `super()`.
abbrev pub marked_name : Option Subject → Option Text
marked_name (Some (subject.Chain (chain_subject.Super x opened))) = Some (codes "super")
marked_name about = subject_name about

-- The name in quotes, or nothing.
abbrev pub subject_text : Option Subject → Text
subject_text about = unwrap_or (option_map quoted (subject_name about)) []

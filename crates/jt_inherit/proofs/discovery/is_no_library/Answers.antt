use Rattle.jt_inherit.proofs.Vocabulary.{arith, rules, get_or, holds_macros, body_of}
use Rattle.jt_inherit.proofs.NumberTables.{is_library}
use Rattle.jt_inherit.proofs.StoreLookup.{unread, is_library_read}
use Rattle.jt_inherit.proofs.discovery.is_no_library.Goals as goal

pub returns-in-Some : goal.returns-in-Some
returns-in-Some c = search (arith, rules, get_or, is_library, is_library_read, holds_macros, body_of)

pub returns-in-None : goal.returns-in-None
returns-in-None c = search (arith, rules, is_library, unread)

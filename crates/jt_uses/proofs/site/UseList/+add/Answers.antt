use Rattle.std.proofs.Common.{append_assoc, arith, rules}
use Rattle.jt_ast.proofs.StatementViews.{view_If, view_For, view_Set, view_SetBlock, view_With, view_FilterBlock}
use Rattle.jt_ast.proofs.StatementViews.{view_Macro, view_Import, view_From, view_Block}
use Rattle.jt_uses.proofs.site.UseList.+add.Goals as goal

pub add_statement-returns-in_ok-add_statements-in-If : goal.add_statement-returns-in_ok-add_statements-in-If
add_statement-returns-in_ok-add_statements-in-If t c = search (arith, rules, append_assoc, view_If)

pub add_statement-returns-in_ok-add_statements-in-For-2 : goal.add_statement-returns-in_ok-add_statements-in-For-2
add_statement-returns-in_ok-add_statements-in-For-2 t c = search (arith, rules, append_assoc, view_For)

pub add_statement-returns-in_ok-add_targets-in-Set : goal.add_statement-returns-in_ok-add_targets-in-Set
add_statement-returns-in_ok-add_targets-in-Set t c = search (arith, rules, append_assoc, view_Set)

pub add_statement-returns-in_ok-add_statements-in-SetBlock : goal.add_statement-returns-in_ok-add_statements-in-SetBlock
add_statement-returns-in_ok-add_statements-in-SetBlock t c = search (arith, rules, append_assoc, view_SetBlock)

pub add_statement-returns-in_ok-add_statements-in-With : goal.add_statement-returns-in_ok-add_statements-in-With
add_statement-returns-in_ok-add_statements-in-With t c = search (arith, rules, append_assoc, view_With)

pub add_statement-returns-in_ok-add_statements-in-FilterBlock :
    goal.add_statement-returns-in_ok-add_statements-in-FilterBlock
add_statement-returns-in_ok-add_statements-in-FilterBlock t c = search (arith, rules, append_assoc, view_FilterBlock)

pub add_statement-returns-in_ok-add_statements-in-Macro : goal.add_statement-returns-in_ok-add_statements-in-Macro
add_statement-returns-in_ok-add_statements-in-Macro t c = search (arith, rules, append_assoc, view_Macro)

pub add_statement-returns-in_ok-add-in-Import-2 : goal.add_statement-returns-in_ok-add-in-Import-2
add_statement-returns-in_ok-add-in-Import-2 t c = search (arith, rules, append_assoc, view_Import)

pub add_statement-returns-in_ok-add_macros-in-From : goal.add_statement-returns-in_ok-add_macros-in-From
add_statement-returns-in_ok-add_macros-in-From t c = search (arith, rules, append_assoc, view_From)

pub add_statement-returns-in_ok-add_statements-in-Block : goal.add_statement-returns-in_ok-add_statements-in-Block
add_statement-returns-in_ok-add_statements-in-Block t c = search (arith, rules, append_assoc, view_Block)

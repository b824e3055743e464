use Rattle.jt_value.specs.View.{view}
use Rattle.jt_filters.proofs.ListMembers.{code_stored, code_kept}
use Rattle.jt_filters.proofs.members.put_item.Goals as goal

pub returns-in_ok-exact_code_of-in-None-clause-there : goal.returns-in_ok-exact_code_of-in-None-clause-there
returns-in_ok-exact_code_of-in-None-clause-there c =
    code_stored c.put_code.result c.args.codes.now c.put_code.new.codes (view c.args.item.now)
    c.in_ok-exact_code_of-in-None.field-0.items c.args.at c.in_ok-exact_code_of-in-None.ensures c.put_code.ensures

pub returns-in_ok-exact_code_of-in-None-clause-kept : goal.returns-in_ok-exact_code_of-in-None-clause-kept
returns-in_ok-exact_code_of-in-None-clause-kept c =
    code_kept c.put_code.result c.args.codes.now c.put_code.new.codes
    c.in_ok-exact_code_of-in-None.field-0.items c.args.at c.put_code.ensures

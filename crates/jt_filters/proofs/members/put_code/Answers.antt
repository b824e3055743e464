use Rattle.jt_filters.proofs.ListMembers.{code_put}
use Rattle.jt_filters.proofs.members.put_code.Goals as goal

pub returns : goal.returns
returns c = λ s.
    code_put c.args.codes.now c.insert.new.self c.args.code c.args.at s c.in_ok-insert.ensures.entries

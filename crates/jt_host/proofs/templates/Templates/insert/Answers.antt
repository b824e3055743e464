use Rattle.std.proofs.Common.{string_bytes}
use Rattle.jt_host.proofs.SourceInsertion.{others_stay}
use Rattle.jt_host.proofs.templates.Templates.insert.Goals as goal

pub returns-clause-others : goal.returns-clause-others
returns-clause-others c =
    others_stay (string_bytes c.args.name) c.args.self.now.sources c.insert.new.self _ c.in_ok-insert.ensures.updates

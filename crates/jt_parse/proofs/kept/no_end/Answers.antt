use Rattle.std.proofs.lemmas.Str.{chars-nil}
use Rattle.jt_parse.proofs.kept.no_end.Goals as goal

pub returns : goal.returns
returns c = chars-nil

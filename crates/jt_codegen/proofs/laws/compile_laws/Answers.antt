use Rattle.jt_codegen.proofs.OtherLibraries.{alike}
use Rattle.jt_codegen.proofs.laws.compile_laws.Goals as goal

pub returns : goal.returns
returns c = alike

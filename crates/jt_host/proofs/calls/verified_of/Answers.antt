use Rattle.jt_host.proofs.RefusedCode.{refused_code}
use Rattle.jt_host.proofs.calls.verified_of.Goals as goal

pub returns : goal.returns
returns c =
    rw c.into.ensures (refused_code c.args.bytes.now c.in_ok-code.code c.in-Err.refusal c.in_ok-code.ensures.reads
    c.in-Err.ensures.err.1 c.in-Err.ensures.exact)

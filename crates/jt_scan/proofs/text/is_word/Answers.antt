use Rattle.std.proofs.Common.{◌∙◌}
use Rattle.jt_scan.proofs.Words.{other_length, same_word}
use Rattle.jt_scan.proofs.text.is_word.Goals as goal

pub returns-then-word-known : goal.returns-then-word-known
returns-then-word-known c = c.eq.ensures ∙ same_word c.args.word.now c.args.known.now c.utf8.word c.utf8.known

pub returns-else-word-known : goal.returns-else-word-known
returns-else-word-known c =
    other_length c.args.word.now c.args.known.now c.if-word-known.false
    ∙ same_word c.args.word.now c.args.known.now c.utf8.word c.utf8.known

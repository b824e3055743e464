use Rattle.jt_machine.proofs.Vocabulary.{all_held, lasting_nesting, lasting_size}
use Rattle.std.proofs.Common.{◌∙◌, ◌-◌, List, length, take, drop, min, sym, ap}
use Rattle.jt_machine.specs.declared.entries.StackEntry.{StackEntry}
use Rattle.jt_machine.proofs.TopValues.{pairs_are}
use Rattle.jt_machine.proofs.measure.+lasting.Goals as goal

pub returns-in-len2-up-clause-size : goal.returns-in-len2-up-clause-size
returns-in-len2-up-clause-size t c =
    let xs = c.args.pairs.now in
    let w = rw (c.is_named.ensures, c.key_of.ensures) at
    (c.weighed.ensures.size (lasting_size (all_held (take (length xs - 2) (drop 2 xs)))) c.lasting.ensures.size) in
    w ∙ sym (ap (λ (ys : List StackEntry). min (lasting_size (all_held ys)) 18446744073709551615)
    (pairs_are xs c.key-item.result c.value-item.result c.in-len2-up.len_at_least c.key-item.is c.value-item.is))

pub returns-in-len2-up-clause-nesting : goal.returns-in-len2-up-clause-nesting
returns-in-len2-up-clause-nesting t c =
    let xs = c.args.pairs.now in
    let w = rw (c.is_named.ensures, c.key_of.ensures) at
    (c.weighed.ensures.nesting (lasting_nesting (all_held (take (length xs - 2) (drop 2 xs))))
    c.lasting.ensures.nesting) in
    w ∙ sym (ap (λ (ys : List StackEntry). min (lasting_nesting (all_held ys)) 4294967295)
    (pairs_are xs c.key-item.result c.value-item.result c.in-len2-up.len_at_least c.key-item.is c.value-item.is))

use Rattle.std.proofs.Common.{append_assoc, arith, rules}
use Rattle.jt_ast.proofs.ExpressionViews.{view_Call, view_Filter, view_Test, view_Choice, view_Item, view_Binary}
use Rattle.jt_ast.proofs.ExpressionViews.{view_When}
use Rattle.jt_uses.proofs.site.UseList.+gather.Goals as goal

pub add_expression-returns-in_ok-add_arguments-in-Call : goal.add_expression-returns-in_ok-add_arguments-in-Call
add_expression-returns-in_ok-add_arguments-in-Call t c =
    let callee = rw c.deref-in-Call-4.ensures at c.in_ok-add_callee-in-Call.ensures in
    let made = rw (c.deref-in-Call.ensures, c.deref-in-Call-2.ensures.value, c.deref-in-Call-3.ensures.value)
    at c.in_ok-add-in-Call.ensures in
    let rest = rw (c.deref-in-Call-5.ensures.value, c.deref-in-Call-6.ensures.value)
    at c.in_ok-add_arguments-in-Call.ensures in
    rw (c.in-Call.is, view_Call, rest, made, callee) (simp append_assoc)

pub add_expression-returns-in_ok-add_arguments-in-Filter : goal.add_expression-returns-in_ok-add_arguments-in-Filter
add_expression-returns-in_ok-add_arguments-in-Filter t c =
    let made = rw (c.as_str-in-Filter.ensures.value, c.deref-in-Filter.ensures.value, c.deref-in-Filter-2.ensures.value)
    at c.in_ok-add-in-Filter.ensures in
    let input = rw c.deref-in-Filter-3.ensures at c.in_ok-add_expression-in-Filter.ensures in
    let rest = rw (c.deref-in-Filter-4.ensures.value, c.deref-in-Filter-5.ensures.value)
    at c.in_ok-add_arguments-in-Filter.ensures in
    rw (c.in-Filter.is, view_Filter, rest, input, made) (simp append_assoc)

pub add_expression-returns-in_ok-add_arguments-in-Test : goal.add_expression-returns-in_ok-add_arguments-in-Test
add_expression-returns-in_ok-add_arguments-in-Test t c =
    let made = rw (c.as_str-in-Test.ensures.value, c.deref-in-Test.ensures.value, c.deref-in-Test-2.ensures.value)
    at c.in_ok-add-in-Test.ensures in
    let input = rw c.deref-in-Test-3.ensures at c.in_ok-add_expression-in-Test.ensures in
    let rest = rw (c.deref-in-Test-4.ensures.value, c.deref-in-Test-5.ensures.value)
    at c.in_ok-add_arguments-in-Test.ensures in
    rw (c.in-Test.is, view_Test, rest, input, made) (simp append_assoc)

pub add_expression-returns-in_ok-add_expression-in-Choice-3 :
    goal.add_expression-returns-in_ok-add_expression-in-Choice-3
add_expression-returns-in_ok-add_expression-in-Choice-3 t c = search (arith, rules, append_assoc, view_Choice)

pub add_expression-returns-in_ok-add_expression-in-Item-2 : goal.add_expression-returns-in_ok-add_expression-in-Item-2
add_expression-returns-in_ok-add_expression-in-Item-2 t c = search
    (arith, rules, append_assoc, view_Item, view_Binary, view_When)

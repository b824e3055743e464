use Rattle.jt_program.proofs.reports.report_error.Goals as goal

pub returns-in-Image : goal.returns-in-Image
returns-in-Image g c = rw c.in-Image.is (rw c.of_image.ensures at c.report_refusal.ensures)

pub returns-in-Code : goal.returns-in-Code
returns-in-Code g c = rw c.in-Code.is (rw c.of_code.ensures at c.report_refusal-in-Code.ensures)

pub returns-in-Template : goal.returns-in-Template
returns-in-Template g c = rw c.in-Template.is (rw c.of_compile.ensures at c.report_refusal-in-Template.ensures)

pub returns-in-Context : goal.returns-in-Context
returns-in-Context g c = rw c.in-Context.is (rw c.of_context.ensures at c.report_refusal-in-Context.ensures)

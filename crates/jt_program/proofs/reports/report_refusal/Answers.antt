use Rattle.jt_program.proofs.reports.report_refusal.Goals as goal

pub returns-in-Name : goal.returns-in-Name
returns-in-Name g c = rw c.in-Name.is c.report_name.ensures

pub returns-in-Point : goal.returns-in-Point
returns-in-Point g c =
    rw c.in-Point.is (rw (c.format-unit.ensures.text, c.format-point.ensures.text) at c.report_flaw.ensures)

pub returns-in-Line : goal.returns-in-Line
returns-in-Line g c = rw c.in-Line.is (rw c.format-line.ensures.text at c.report_refusal_at.ensures)

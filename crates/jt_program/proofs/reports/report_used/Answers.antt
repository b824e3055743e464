use Rattle.jt_program.proofs.reports.report_used.Goals as goal

pub returns : goal.returns
returns g c =
    rw (
      c.format-fuel.ensures.text,
      c.format-depth.ensures.text,
      c.format-output.ensures.text,
      c.format-size.ensures.text,
      c.format-nesting.ensures.text,
    ) at c.report_numbers.ensures

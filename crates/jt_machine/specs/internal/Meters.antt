-- What private functions count of a run.
use Rattle.std.specs.Prelude.{ℕ, ◌-◌}
use Rattle.jt_budget.specs.declared.budget.Budget.{Budget}
use Rattle.jt_image.specs.Config as config
use Rattle.jt_image.specs.Config.{Outcome}
use Rattle.jt_machine.specs.declared.metered_run.Used.{Used}
use Rattle.jt_machine.specs.declared.peaks.Peak.{Peak}

-- What was used from one rest of a budget to a later one, with this greatest depth and this peak.
abbrev pub used_up : Budget → Budget → ℕ → Peak → Used
used_up first last deepest peak = record {
  fuel = first.fuel - last.fuel;
  output = first.output - last.output;
  depth = deepest;
  size = peak.size;
  nesting = peak.nesting;
}

-- The cost that counts of an instruction that ends a run so.
abbrev pub end_cost : Outcome → ℕ
end_cost (config.text t) = 1
end_cost (config.fault f p) = 0
end_cost (config.spent l) = 0

-- The sessions that are opened, each under a budget of its own.
use Rattle.std.specs.Prelude.{List, map}
use Rattle.jt_image.specs.Config.{Budget}
use Rattle.jt_turns.specs.declared.turns.Start.{Start}

-- An image with its context, and the budget of its session.
pub record Opening : Type 0 where
  pub start : Start
  pub budget : Budget

abbrev pub under : Budget → Start → Opening
under budget start = record { start = start; budget = budget }

-- All images under one budget.
abbrev pub all_under : Budget → List Start → List Opening
all_under budget starts = map (under budget) starts

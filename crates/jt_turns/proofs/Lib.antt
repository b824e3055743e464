mod RoundStep
mod StepsTakeFuel
mod OpenedSessions
mod SessionsById
mod TurnOutcomes

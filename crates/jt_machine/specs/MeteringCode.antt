-- Runs that count what they use, as data made of numbers, lists and pairs.
use mathlib.Core.Path.{refl}
use Rattle.std.specs.Coded.{Coded, code_by, coded×}
use Rattle.jt_machine.specs.declared.metered_run.Used.{Used}
use Rattle.jt_machine.specs.contracts.metered_run.Used.{the_row as used_row}
use Rattle.jt_machine.specs.Session.{Session}
use Rattle.jt_machine.specs.SessionCode.{coded_session}
use Rattle.jt_machine.specs.Metering.{Metered}

abbrev pub coded_metered : Coded Metered
coded_metered =
    code_by (Session × Used) (coded× coded_session used_row.coded) (λ m. (m.session, m.used))
    (λ p. record { session = p.0; used = p.1 }) (λ _. refl)

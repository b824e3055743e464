-- Worlds encoded as numbers, lists and pairs.
use Rattle.std.specs.Prelude.{ℕ, List}
use mathlib.Core.Path.{refl}
use Rattle.std.specs.Coded.{Coded, code_by, coded_ℕ, coded_list, coded×}
use Rattle.jt_machine.specs.Session.{Session}
use Rattle.jt_machine.specs.SessionCode.{coded_session}
use Rattle.jt_sessions.specs.Turns.{World}

abbrev pub coded_world : Coded World
coded_world =
    code_by (ℕ × List (ℕ × Session)) (coded× coded_ℕ (coded_list (coded× coded_ℕ coded_session)))
    (λ w. (w.last, w.sessions)) (λ p. record { last = p.0; sessions = p.1 }) (λ _. refl)

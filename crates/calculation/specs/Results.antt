-- What the results say of each declared session: the rate in lowest terms (01, "The direct calculation"), and the binding place (02, §2).
-- Assumes nothing: definitions.
use Rattle.std.specs.Prelude.{◌≡◌, ℕ, ◌*◌, ◌<◌, get_or}
use Rattle.fractions.specs.Fraction.{lowest_of}
use Rattle.sessions.specs.Set.{has}
use Rattle.declarations.specs.Declaring.{own_limit_of}
use Rattle.declarations.specs.declared.Declared.{Declared}
use Rattle.filling.specs.declared.Fixed.{Fixed}
use Rattle.calculation.specs.Binding.{binding_by_last}
use Rattle.calculation.specs.declared.Results.{Results}

-- for every declared session t the results v have the rate z.rate t / z.den and the binding place, by its own limit, the room of its links, and the
-- sessions that were fixed last there
pub record Found (d : Declared) (z : Fixed) (v : Results) : Type 0 where
  pub num : (t : ℕ) → t < 32 → has t d.sessions ≡ 1 → get_or v.nums t 0 ≡ (lowest_of (get_or z.rate t 0) z.den).num
  pub den : (t : ℕ) → t < 32 → has t d.sessions ≡ 1 → get_or v.dens t 0 ≡ (lowest_of (get_or z.rate t 0) z.den).den
  pub place : (t : ℕ) → t < 32 → has t d.sessions ≡ 1
      → get_or v.places t 0 ≡ binding_by_last d.path z.rate z.room z.last (z.den * own_limit_of (get_or d.access t 0) (get_or d.maximum t 0)) t

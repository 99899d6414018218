-- What the answer of the calculation settles: two answers give each active session the same fraction, the same links are full, and the sessions that were
-- fixed last on a link have the same fraction.
-- Assumes nothing.
use mathlib.Core.Path.{◌≡◌}
use Prim.Native.Nat.{ℕ, ◌*◌, ◌<◌}
use native.Mathlib.Nat.{mul-le-mul_right}
use native.Mathlib.Omega.{arith}
use lib.Dec.{T}
use lib.ListN.{get_or}
use Rattle.fairness.specs.MaxMin.{Active, used}
use Rattle.fairness.proofs.SameRates.{full_same}
use Rattle.fairness.proofs.Uniqueness.{max_min_unique}
use Rattle.declarations.specs.declared.Declared.{Declared}
use Rattle.filling.specs.Lines.{Filled, problem_of}
use Rattle.filling.specs.declared.Fixed.{Fixed}

-- the same rates
pub rates_unique : (d : Declared) (q r : Fixed) → Filled d q → Filled d r
    → (s : ℕ) → Active (problem_of d) s → get_or q.rate s 0 * r.den ≡ get_or r.rate s 0 * q.den
rates_unique d q r f g = max_min_unique (problem_of d) q.den (λ s. get_or q.rate s 0) r.den (λ s. get_or r.rate s 0) f.fair g.fair

full_same_lines : (d : Declared) (q r : Fixed) → Filled d q → Filled d r → (e : ℕ)
    → used (problem_of d) (λ s. get_or q.rate s 0) e ≡ q.den * get_or d.capacity e 0 → used (problem_of d) (λ s. get_or r.rate s 0) e ≡ r.den * get_or d.capacity e 0
unfolding problem_of
full_same_lines d q r f g e =
    full_same (problem_of d) q.den (λ s. get_or q.rate s 0) r.den (λ s. get_or r.rate s 0) f.fair.feasible.pos (rates_unique d q r f g) e

-- the same links are full
pub full_unique : (d : Declared) (q r : Fixed) → Filled d q → Filled d r → (e : ℕ) → e < 64 → get_or q.room e 0 ≡ 0 → get_or r.room e 0 ≡ 0
full_unique d q r f g e h z =
    g.spent e h (full_same_lines d q r f g e (f.full e h z))

-- the sessions that are said to have been fixed last on a link may be two, but have the same rate: the highest there
pub last_unique : (d : Declared) (q r : Fixed) → Filled d q → Filled d r → (e : ℕ) → e < 64 → (t : ℕ) → Active (problem_of d) t → T ((problem_of d).crosses e t)
    → get_or q.rate (get_or q.last e 0) 0 * r.den ≡ get_or r.rate (get_or r.last e 0) 0 * q.den
last_unique d q r f g e h t a c =
    let i = f.last e h t a c in
    let j = g.last e h t a c in
    omega (
      arith,
      rates_unique d q r f g (get_or q.last e 0) i.active,
      rates_unique d q r f g (get_or r.last e 0) j.active,
      mul-le-mul_right r.den (i.most (get_or r.last e 0) j.active j.crosses),
      mul-le-mul_right q.den (j.most (get_or q.last e 0) i.active i.crosses),
    )

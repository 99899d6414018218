-- Sums: commutative, associative, monotone; zero adds nothing; a part is no greater than the sum; a sum keeps a common denominator.
-- Assumes nothing.
use mathlib.Core.Path.{◌≡◌, sym, ap, ap₂, ◌∙◌}
use Prim.Native.Nat.{ℕ, ◌+◌, ◌*◌, ◌/◌, ◌<◌, ◌∣◌}
use native.Mathlib.Nat.{mul-pos, mul-le-mul_right, div-mul_cancel}
use native.Mathlib.Omega.{arith}
use Rattle.fractions.specs.Fraction.{Lowest, Same, Le, frac, zero_of, lowest_of, add_of}
use Rattle.fractions.specs.declared.Rate.{Rate}
use Rattle.fractions.proofs.Order.{le_trans, le_of_same, same_sym, same_trans}
use Rattle.fractions.proofs.LowestTerms.{lowest_same, lowest_pos, lowest_lowest, lowest_cong, lowest_id, den_divides}

pub add_lowest : (a b : Rate) → 0 < a.den → 0 < b.den → Lowest (add_of a b)
unfolding add_of
add_lowest a b ha hb = lowest_lowest _ _ (mul-pos ha hb)

pub add_comm : (a b : Rate) → add_of a b ≡ add_of b a
unfolding add_of
add_comm a b = ap₂ lowest_of (omega arith) (omega arith)

-- a sum goes by the values of its parts
pub add_cong : {a b : Rate} (c : Rate) → 0 < a.den → 0 < b.den → 0 < c.den → Same a b → add_of a c ≡ add_of b c
unfolding add_of
add_cong {a} {b} c ha hb hc s =
    lowest_cong (mul-pos ha hc) (mul-pos hb hc)
    (record { cross = omega (arith, ap (λ (x : ℕ). x * (c.den * c.den)) s.cross) })

pub add_assoc : (a b c : Rate) → 0 < a.den → 0 < b.den → 0 < c.den → add_of (add_of a b) c ≡ add_of a (add_of b c)
unfolding add_of
add_assoc a b c ha hb hc =
    add_cong c (lowest_pos _ _ (mul-pos ha hb)) (mul-pos ha hb) hc (lowest_same _ _)
    ∙ (ap₂ lowest_of (omega arith) (omega arith)
    ∙ (sym (add_cong a (lowest_pos _ _ (mul-pos hb hc)) (mul-pos hb hc) ha (lowest_same _ _))
    ∙ add_comm (add_of b c) a))

pub zero-add : {a : Rate} → Lowest a → add_of zero_of a ≡ a
unfolding add_of
zero-add l = ap₂ lowest_of (omega arith) (omega arith) ∙ lowest_id l

-- addition keeps the order
pub add_mono : {a b : Rate} (c : Rate) → 0 < a.den → 0 < b.den → 0 < c.den → Le a b → Le (add_of a c) (add_of b c)
unfolding add_of
add_mono {a} {b} c ha hb hc h =
    le_trans (mul-pos ha hc) (le_of_same (lowest_same _ _))
    (le_trans (mul-pos hb hc)
    (record { cross = omega (arith, mul-le-mul_right (c.den * c.den) h.cross) })
    (le_of_same (same_sym (lowest_same _ _))))

-- a part is no greater than the sum
pub le_add : (a b : Rate) → 0 < a.den → 0 < b.den → Le a (add_of a b)
unfolding add_of
le_add a b ha hb =
    le_trans {b = frac (a.num * b.den + b.num * a.den) (a.den * b.den)} (mul-pos ha hb)
    (record { cross = omega arith })
    (le_of_same (same_sym (lowest_same _ _)))

-- a sum keeps a common denominator
pub add_den : (a b : Rate) (N : ℕ) → 0 < a.den → 0 < b.den → a.den ∣ N → b.den ∣ N → (add_of a b).den ∣ N
unfolding add_of
add_den a b N ha hb p q =
    den_divides (a.num * (N / a.den) + b.num * (N / b.den)) N (add_lowest a b ha hb)
    (same_trans (mul-pos ha hb) (lowest_same _ _)
    (record {
      cross =
          omega (
            arith,
            ap (λ (x : ℕ). x * (a.num * b.den)) (div-mul_cancel _ p),
            ap (λ (x : ℕ). x * (b.num * a.den)) (div-mul_cancel _ q),
          );
    }))

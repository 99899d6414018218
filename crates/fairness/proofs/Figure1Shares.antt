-- With 32 sessions every share that Figure 1 forms, at any link in any round, has a denominator of at most 118,098 (01, "Fractions").
-- Assumes nothing.
use Rattle.std.specs.Prelude.{Ok}
use mathlib.Core.Path.{◌≡◌, ap, subst, sym, ◌∙◌}
use Prim.Native.Nat.{ℕ, ◌*◌, ◌-◌, ◌≤◌, ◌<◌}
use borrow.Author.Tests.{le-leb}
use native.Mathlib.Nat.{le_trans, mul-pos}
use native.Mathlib.Omega.{arith}
use Rattle.fractions.specs.Fraction.{each_of, lowest_of, share_of}
use Rattle.fractions.proofs.Shares.{share_over}
use Rattle.fractions.proofs.LowestTerms.{lowest_den, lowest_lowest, lowest_same}
use Rattle.fairness.specs.Figure1.{begin, is_fixed, left_at, load_at, net, open_at, rate, rounds}
use Rattle.fairness.specs.MaxMin.{Problem}
use Rattle.fairness.proofs.Denominators.{share_small}
use Rattle.fairness.proofs.Figure1IsFair.{begin_filling, net_crosses, weight_32}
use Rattle.fairness.proofs.NetOfProblem.{cap_link}
use Rattle.fairness.proofs.Running.{rounds_filling}

-- after k rounds the share of link e, an own limit among them, is what is left there over N times the sessions open there
pub figure1_shares : (p : Problem) → p.sessions ≤ 32 → (k e : ℕ)
    → let z = rounds (net p) k (begin p) in
    0 < open_at (net p) (is_fixed z) e
    → (lowest_of (left_at (net p) z.den (rate z) e) (z.den * open_at (net p) (is_fixed z) e)).den ≤ 118098
figure1_shares p few k e some =
    let z = rounds (net p) k (begin p) in
    let f = rounds_filling (net p) (net_crosses p) k (begin p) (begin_filling p) in
    let a = left_at (net p) z.den (rate z) e in
    let N = z.den * open_at (net p) (is_fixed z) e in
    let pos : 0 < N = mul-pos f.inv.pos some in
    le_trans (lowest_den a N pos (lowest_lowest a N pos) (lowest_same a N))
    (share_small (net p) (weight_32 p few) z.den (is_fixed z) (f.small (weight_32 p few)) e)

in_net : (p : Problem) (e : ℕ) → e < p.links → e < (net p).links
unfolding net
in_net p e h = omega arith

-- so the routine that gives a link's share never finds it too fine, where what is taken at a link is what the fixed sessions have there
pub figure1_share_fine : (p : Problem) → p.sessions ≤ 32 → (k e : ℕ) → e < p.links
    → let z = rounds (net p) k (begin p) in
    0 < open_at (net p) (is_fixed z) e
    → share_of (p.capacity e) (lowest_of (load_at (net p) (rate z) e) z.den) (open_at (net p) (is_fixed z) e)
    ≡ Ok (lowest_of (left_at (net p) z.den (rate z) e) (z.den * open_at (net p) (is_fixed z) e))
unfolding share_of left_at
figure1_share_fine p few k e link some =
    let z = rounds (net p) k (begin p) in
    let f = rounds_filling (net p) (net_crosses p) k (begin p) (begin_filling p) in
    let l = load_at (net p) (rate z) e in
    let c = open_at (net p) (is_fixed z) e in
    let cap : (net p).capacity e ≡ p.capacity e = cap_link p e link in
    let fits : l ≤ z.den * p.capacity e = subst (λ (v : ℕ). l ≤ z.den * v) cap (f.inv.fits e (in_net p e link)) in
    let same : each_of (p.capacity e) (lowest_of l z.den) c ≡ lowest_of (z.den * (net p).capacity e - l) (z.den * c) =
    share_over (p.capacity e) l z.den c f.inv.pos some fits ∙ ap (λ (v : ℕ). lowest_of (z.den * v - l) (z.den * c)) (sym cap) in
    let small = figure1_shares p few k e some in
    rw (same, le-leb (lowest_of (z.den * (net p).capacity e - l) (z.den * c)).den 1048576 (omega arith))

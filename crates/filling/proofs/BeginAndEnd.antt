-- Where the rounds begin, and what they have reached when nobody is open.
-- Assumes nothing.
use mathlib.Core.Bool.{Bool, ◌&&◌, false, not, true}
use mathlib.Core.List.{List}
use mathlib.Core.Logic.{◌⊎◌, inl, inr}
use mathlib.Core.Path.{◌≡◌, refl, ap, sym, ◌∙◌, subst}
use Prim.Native.Nat.{ℕ, zero, suc, ◌*◌, ◌<◌, ◌≤◌}
use native.Mathlib.Omega.{arith}
use lib.Dec.{T, eqb, eqb→eq}
use lib.ListN.{get_or, get_or-replicate, length, replicate}
use Rattle.sessions.specs.Set.{has}
use Rattle.sessions.proofs.Members.{has_lt, has_zero, nobody}
use Rattle.fractions.proofs.Cases.{and_join, and_split, split}
use Rattle.fairness.specs.Figure1.{left_at, net}
use Rattle.fairness.specs.MaxMin.{Active, used}
use Rattle.fairness.specs.Sum.{part}
use Rattle.fairness.proofs.Denominators.{small_32}
use Rattle.fairness.proofs.Figure1IsFair.{filling_begins, filling_ends_fair, load_zero}
use Rattle.fairness.proofs.NetOfProblem.{cap_link, load_link, on_link}
use Rattle.fairness.proofs.Products.{one_largest}
use Rattle.declarations.specs.declared.Declared.{Declared}
use Rattle.filling.specs.Crossings.{Crossing}
use Rattle.filling.specs.Lines.{Filled, Highest, Ranges, crosses_of, problem_of}
use Rattle.filling.specs.OneRound.{Running, fixed_in}
use Rattle.filling.specs.SmallestShare.{Counted}
use Rattle.filling.specs.State.{Fill, fill_of}
use Rattle.filling.specs.declared.Links.{Links}
use Rattle.filling.proofs.OpenSessions.{few}

-- THE BEGINNING -------------------------------------------------------------------------------------------------------

not_one : (h : ℕ) → h < 2 → eqb h 0 ≡ not (eqb h 1)
not_one zero l = refl
not_one (suc zero) l = refl
not_one (suc (suc h)) l = absurd (omega arith)

at_first : (c : Bool) (h a : ℕ) → h < 2 → a ≡ part c h → (T (eqb h 1 && c) → a ≡ h) × (T (not (eqb h 1 && c)) → a ≡ 0)
at_first true zero a l q = (λ t. q, λ t. q)
at_first false zero a l q = (λ t. q, λ t. q)
at_first true (suc zero) a l q = (λ t. q, λ t. absurd t)
at_first false (suc zero) a l q = (λ t. absurd t, λ t. q)
at_first c (suc (suc h)) a l q = absurd (omega arith)

pub start_running : (d : Declared) → Ranges d → d.sessions < 4294967296 → length d.capacity ≡ 64
    → (k : Links) (count rate : List ℕ) → Crossing d.path d.sessions k → Counted k.at count → length count ≡ 64
    → k.room ≡ d.capacity → k.last ≡ replicate 64 0 → rate ≡ replicate 32 0
    → Running d (fill_of 1 d.sessions (record k { count = count }) rate)
unfolding problem_of left_at
start_running d ranges small long k count rate c n counts rooms zeros q =
    record {
      ranges = ranges;
      word = small;
      links = record { room = λ e h. omega (arith, ap (λ l. get_or l e 0) rooms, ranges.capacity e h); at = c.small; count = n; busy = c.busy };
      whole =
          record {
            rooms = ap length rooms ∙ long;
            words = c.long;
            counts = counts;
            lasts = ap length zeros;
            low = λ e h. omega (arith, ap (λ l. get_or l e 0) zeros, get_or-replicate {A = ℕ} 64 e 0 0 h);
          };
      rates = ap length q;
      filling =
          filling_begins (problem_of d) (λ s. get_or rate s 0) (fixed_in d.sessions) none (λ s h. not_one (has s d.sessions) (has_lt s d.sessions));
      small = one_largest _ (omega (arith, few d));
      declared = λ s h. omega arith;
      at = at_start;
      -- nobody is fixed on any link
      last = λ e h z t l o.
          let r = subst T (on_link (problem_of d) e t h) o in
          let m = eqb→eq (has t d.sessions) 1 (and_split (eqb (has t d.sessions) 1) (crosses_of d.path e t) r).0 in
          absurd (omega (arith, m, (at_start e h t l).0 o, ap (has t) z, has_zero t));
      room = λ e h p. omega (arith, ap (λ l. get_or l e 0) rooms, load_zero (problem_of d) (λ s. get_or rate s 0) none e);
      kept = λ e h. (1, omega arith, rw (load_zero (problem_of d) (λ s. get_or rate s 0) none e, cap_link (problem_of d) e h) (omega (arith, ap (λ l. get_or l e 0) rooms)));
    }
  where
    none : (s : ℕ) → s < 32 → get_or rate s 0 ≡ 0
    none s h = ap (λ l. get_or l s 0) q ∙ get_or-replicate 32 s 0 0 h

    at_start : (e : ℕ) → e < 64 → (s : ℕ) → s < 32
        → (T ((net (problem_of d)).on e s) → has s (get_or k.at e 0) ≡ has s d.sessions) × (T (not ((net (problem_of d)).on e s)) → has s (get_or k.at e 0) ≡ 0)
    at_start e h s l =
        let r = at_first (crosses_of d.path e s) (has s d.sessions) (has s (get_or k.at e 0)) (has_lt s _) (c.word e h s l) in (
          λ t. r.0 (subst T (on_link (problem_of d) e s h) t),
          λ t. r.1 (subst (λ v. T (not v)) (on_link (problem_of d) e s h) t),
        )

-- THE END -------------------------------------------------------------------------------------------------------------

no_factor : (c r : ℕ) → 0 < c → c * r ≡ 0 → r ≡ 0
no_factor zero r p q = absurd (omega arith)
no_factor (suc c) r p q = omega arith

module _ (d : Declared) (z : Fill) (run : Running d z) where
  abbrev x : ℕ → ℕ
  x s = get_or z.rate s 0

  -- a link's capacity is fully used exactly where it has no room
  full : (e : ℕ) → e < 64 → get_or z.links.room e 0 ≡ 0 → used (problem_of d) x e ≡ z.den * get_or d.capacity e 0
  unfolding problem_of left_at net
  full e h q =
      let k = run.kept e h in
      let none : k.0 * get_or z.links.room e 0 ≡ 0 = rw q (omega arith) in
      omega (
        arith,
        k.2,
        load_link (problem_of d) x e h,
        ap (λ (v : ℕ). z.den * v) (cap_link (problem_of d) e h),
        run.filling.fits e (omega arith),
      )

  spent : (e : ℕ) → e < 64 → used (problem_of d) x e ≡ z.den * get_or d.capacity e 0 → get_or z.links.room e 0 ≡ 0
  unfolding problem_of left_at net
  spent e h q =
      let k = run.kept e h in
      no_factor k.0 (get_or z.links.room e 0) k.1
      (omega (arith, k.2, load_link (problem_of d) x e h, ap (λ (v : ℕ). z.den * v) (cap_link (problem_of d) e h)))

  -- where nobody is open no link has anyone
  nobody_open : z.opens ≡ 0 → (e : ℕ) → e < 64 → get_or z.links.at e 0 ≡ 0
  nobody_open q e h = nobody 32 (get_or z.links.at e 0) (omega (arith, run.links.at e h)) (λ s l. ap (λ (v : ℕ). eqb v 1) (none s l (split ((net (problem_of d)).on e s))))
    where
      none : (s : ℕ) → s < 32 → T ((net (problem_of d)).on e s) ⊎ T (not ((net (problem_of d)).on e s)) → has s (get_or z.links.at e 0) ≡ 0
      none s l (inl o) = (run.at e h s l).0 o ∙ ap (has s) q ∙ has_zero s
      none s l (inr o) = (run.at e h s l).1 o

  -- so the one that was fixed last has the highest rate
  highest : z.opens ≡ 0 → (e : ℕ) → e < 64 → (t : ℕ) → Active (problem_of d) t → T ((problem_of d).crosses e t)
      → Highest (problem_of d) x e (get_or z.links.last e 0)
  unfolding problem_of
  highest q e h t a c =
      let there = and_split ((problem_of d).active u) _ (subst T (on_link (problem_of d) e u h) (above t a c).0) in
      record { active = (run.whole.low e h, there.0); crosses = there.1; most = λ s b o. (above s b o).1 }
    where
      u : ℕ
      u = get_or z.links.last e 0

      above : (s : ℕ) → Active (problem_of d) s → T ((problem_of d).crosses e s) → T ((net (problem_of d)).on e u) × (x s ≤ x u)
      above s b o =
          run.last e h (nobody_open q e h) s b.0
          (subst T (sym (on_link (problem_of d) e s h)) (and_join ((problem_of d).active s) _ b.1 o))

  pub end_filled : z.opens ≡ 0 → Filled d (record { den = z.den; rate = z.rate; room = z.links.room; last = z.links.last })
  unfolding problem_of
  end_filled q =
      record {
        fair =
            filling_ends_fair (problem_of d) z.den x (fixed_in z.opens) run.filling
            (λ s h. let e : has s z.opens ≡ 0 = ap (has s) q ∙ has_zero s in rw e tt);
        small = small_32 (net (problem_of d)) (few d) z.den (fixed_in z.opens) run.small;
        full = full;
        spent = spent;
        last = highest q;
        low = run.whole.low;
        rates = run.rates;
        rooms = run.whole.rooms;
      }

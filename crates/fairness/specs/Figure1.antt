-- 001, Figure 1 (Centralized B-Neck), over one common denominator, as a definition that computes. F_e and R_e are the sessions at e whose rate is
-- fixed and those whose is not (a link that has had the smallest share has nobody left to fix, so it drops out by itself). 01 adds D: one more link
-- that no other session crosses. Every session counts with a weight, which is 1 throughout the figure.
-- Assumes nothing: definitions.
use Rattle.std.specs.Prelude.{Bool, ◌&&◌, ◌||◌, cond, false, not, List, [], ◌∷◌, ℕ, zero, suc, ◌+◌, ◌-◌, ◌*◌, eqb, ltb, get_or}
use Rattle.fairness.specs.MaxMin.{Problem, of_link}
use Rattle.fairness.specs.Sum.{part, sum}

-- THE LINKS, WITH D AMONG THEM ----------------------------------------------------------------------------------------

-- links with their capacities, sessions with their weights, and who is on which link
pub record Net : Type 0 where
  pub links : ℕ
  pub sessions : ℕ
  pub capacity : ℕ → ℕ
  pub on : ℕ → ℕ → Bool
  pub weight : ℕ → ℕ

-- the own limit of session s is link (links + s); a session that is not active is on that link alone, and gets 0 there
unfoldable pub net : Problem → Net
net p =
    record {
      links = p.links + p.sessions;
      sessions = p.sessions;
      capacity = λ e. cond (ltb e p.links) (p.capacity e) (part (p.active (e - p.links)) (p.D (e - p.links)));
      on = λ e s. cond (ltb e p.links) (of_link p e s) (eqb e (p.links + s));
      weight = λ s. 1;
    }

-- N times the rates at e
unfoldable pub load_at : Net → (ℕ → ℕ) → ℕ → ℕ
load_at w x e = sum w.sessions (λ s. part (w.on e s) (x s))

-- N times C_e - Σ_{s ∈ F_e} λ_s: a session that is not fixed has the rate 0 so far
unfoldable pub left_at : Net → ℕ → (ℕ → ℕ) → ℕ → ℕ
left_at w N x e = N * w.capacity e - load_at w x e

-- |R_e|: the sessions at e that are not fixed (d: fixed), each counted with its weight of 1
unfoldable pub open_at : Net → (ℕ → Bool) → ℕ → ℕ
open_at w d e = sum w.sessions (λ s. part (w.on e s) (part (not (d s)) (w.weight s)))

-- all sessions that are not fixed
unfoldable pub open_all : Net → (ℕ → Bool) → ℕ
open_all w d = sum w.sessions (λ s. part (not (d s)) (w.weight s))

-- ONE ROUND -----------------------------------------------------------------------------------------------------------

-- the list of f i .. f (i + n - 1)
unfoldable pub values : {A : Type 0} → ℕ → ℕ → (ℕ → A) → List A
values i zero f = []
values i (suc n) f = f i ∷ values (suc i) n f

-- how far the rounds are: the rates times den, and who is fixed
pub record State : Type 0 where
  pub den : ℕ
  pub rates : List ℕ
  pub fixed : List Bool

abbrev pub rate : State → ℕ → ℕ
rate z s = get_or z.rates s 0

abbrev pub is_fixed : State → ℕ → Bool
is_fixed z s = get_or z.fixed s false

-- a link of L, or that L is empty
pub data Pick : Type 0 where
  nobody : Pick
  at : ℕ → Pick

-- of link e and the one found so far the one whose share a / c is smaller; "L ← {e ∈ E : R_e ≠ ∅}": a link with nobody to fix has c = 0 and is never taken
unfoldable pub smaller : (ℕ → ℕ) → (ℕ → ℕ) → ℕ → Pick → Pick
smaller a c e nobody = cond (ltb 0 (c e)) (at e) nobody
smaller a c e (at b) = cond (ltb (a e * c b) (a b * c e)) (at e) (at b)

-- "B ← min_{e ∈ L} {B_e}": the first of the links below n that has the smallest share
unfoldable pub smallest : (ℕ → ℕ) → (ℕ → ℕ) → ℕ → Pick
smallest a c zero = nobody
smallest a c (suc e) = smaller a c e (smallest a c e)

-- some i < n passes the test
unfoldable pub any : ℕ → (ℕ → Bool) → Bool
any zero f = false
any (suc n) f = f n || any n f

-- "L' ← {e ∈ L : B_e = B}; X ← ∪_{e ∈ L'} R_e": s is not fixed, and is on a link whose share is that of b
unfoldable pub chosen : Net → (a c : ℕ → ℕ) → ℕ → State → ℕ → Bool
chosen w a c b z s = not (is_fixed z s) && any w.links (λ e. w.on e s && eqb (a e * c b) (a b * c e))

-- "for each s ∈ X do λ_s ← B": B is a b / (den * c b), so the new denominator is den * c b.
-- "F_e ← F_e ∪ (R_e ∩ X); R_e ← R_e \ F_e; L ← {e ∈ (L \ L') : R_e ≠ ∅}": the sessions of X are fixed from now on, at every link
unfoldable pub fix_at : Net → (a c : ℕ → ℕ) → State → Pick → State
fix_at w a c z nobody = z
fix_at w a c z (at b) =
    record {
      den = z.den * c b;
      rates = values 0 w.sessions (λ s. cond (chosen w a c b z s) (a b * w.weight s) (c b * rate z s));
      fixed = values 0 w.sessions (λ s. is_fixed z s || chosen w a c b z s);
    }

-- "for each e ∈ L do B_e ← (C_e - Σ_{s ∈ F_e} λ_s) / |R_e|": numerators and denominators
unfoldable pub lefts : Net → State → List ℕ
lefts w z = values 0 w.links (left_at w z.den (rate z))

unfoldable pub counts : Net → State → List ℕ
counts w z = values 0 w.links (open_at w (is_fixed z))

unfoldable pub round_on : Net → State → List ℕ → List ℕ → State
round_on w z ls cs = fix_at w (λ e. get_or ls e 0) (λ e. get_or cs e 0) z (smallest (λ e. get_or ls e 0) (λ e. get_or cs e 0) w.links)

unfoldable pub one_round : Net → State → State
one_round w z = round_on w z (lefts w z) (counts w z)

-- THE FIGURE ----------------------------------------------------------------------------------------------------------

-- "while L ≠ ∅", for k rounds at most
unfoldable pub rounds : Net → ℕ → State → State
rounds w zero z = z
rounds w (suc k) z = let r = rounds w k (one_round w z) in cond (ltb 0 (open_all w (is_fixed z))) r z

-- "R_e ← S_e; F_e ← ∅": nobody has a rate yet, and those that are not active count as fixed
unfoldable pub begin : Problem → State
begin p = record { den = 1; rates = []; fixed = values 0 p.sessions (λ s. not (p.active s)) }

-- every round fixes a session, so as many rounds as sessions are enough
unfoldable pub figure1 : Problem → State
figure1 p = rounds (net p) p.sessions (begin p)

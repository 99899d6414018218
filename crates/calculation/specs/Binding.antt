-- 02, §2: the binding place of a session, at the rates x s / N of the declared lines: what it is, and what it means.
-- Assumes nothing: definitions.
use Rattle.std.specs.Prelude.{Bool, ◌&&◌, cond, false, true, List, [], ◌∷◌, ◌⊎◌, ◌≡◌, ℕ, ◌*◌, ◌<◌, eqb, leb, ltb, get_or}
use Rattle.fairness.specs.Figure1.{values}
use Rattle.fairness.specs.MaxMin.{Bottleneck}
use Rattle.fairness.proofs.Bottlenecks.{bottleneck_or_not}
use Rattle.search.specs.Crossing.{byte_at}
use Rattle.declarations.specs.declared.Declared.{Declared}
use Rattle.filling.specs.Lines.{problem_of}

-- what stands in the answer for "own"
abbrev pub own : ℕ
own = 64

-- WHAT IT MEANS -------------------------------------------------------------------------------------------------------

-- t has less than D, and e is the first link of its path, in path order, that is a bottleneck of t (001, Definition 1)
pub record BindingLink (d : Declared) (N : ℕ) (x : ℕ → ℕ) (t e : ℕ) : Type 0 where
  pub below : x t < N * (problem_of d).D t
  pub hop : ℕ
  pub within : hop < 8
  pub there : e ≡ byte_at d.path t hop
  pub bottleneck : Bottleneck (problem_of d) N x t e
  pub first : (h : ℕ) → h < hop → Bottleneck (problem_of d) N x t (byte_at d.path t h) → ⊥

-- the place of session t: 64 where its rate is D, else such a link
abbrev pub Binds : Declared → ℕ → (ℕ → ℕ) → ℕ → ℕ → Type 0
Binds d N x t place = ((place ≡ own) × (x t ≡ N * (problem_of d).D t)) ⊎ BindingLink d N x t place

-- WHAT IT IS ----------------------------------------------------------------------------------------------------------

-- the first of a list that passes the test, or 64 where none does. At max-min fair rates that stands for no session below D: `binding_binds`, `own_exactly`
unfoldable pub first_of : (ℕ → Bool) → List ℕ → ℕ
first_of test [] = own
first_of test (e ∷ l) = cond (test e) e (first_of test l)

-- the eight bytes of the path of session t, in path order
abbrev pub path_bytes : List ℕ → ℕ → List ℕ
path_bytes path t = values 0 8 (byte_at path t)

-- a decision as a test
unfoldable pub says : {A : Type 0} → Dec A → Bool
says (yes a) = true
says (no n) = false

-- whether link e is a bottleneck of session t
abbrev pub is_bottleneck : Declared → ℕ → (ℕ → ℕ) → ℕ → ℕ → Bool
is_bottleneck d N x t e = says (bottleneck_or_not (problem_of d) N x t e)

-- "own" if the rate equals D, else the first link of the path that is a bottleneck of the session
unfoldable pub binding_of : Declared → ℕ → (ℕ → ℕ) → ℕ → ℕ
binding_of d N x t = cond (eqb (x t) (N * (problem_of d).D t)) own (first_of (is_bottleneck d N x t) (path_bytes d.path t))

-- BY WHAT THE ROUNDS LEAVE --------------------------------------------------------------------------------------------

-- a link of the path of a session of this rate is a bottleneck of it: nothing is left of the link, and the session that was fixed last there has no more
abbrev pub bottleneck_by_last : List ℕ → List ℕ → List ℕ → ℕ → ℕ → Bool
bottleneck_by_last rates room last rate e = ltb e 64 && (eqb (get_or room e 0) 0 && leb (get_or rates (get_or last e 0) 0) rate)

-- the binding place by that
abbrev pub binding_by_last : List ℕ → List ℕ → List ℕ → List ℕ → ℕ → ℕ → ℕ
binding_by_last path rates room last limit t =
    cond (eqb (get_or rates t 0) limit) own (first_of (bottleneck_by_last rates room last (get_or rates t 0)) (path_bytes path t))

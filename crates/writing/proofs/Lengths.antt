-- How many bytes the records of a set have: six for each link and nineteen for each session, and so never more than 992.
-- Assumes nothing.
use mathlib.Core.Bool.{Bool, cond}
use mathlib.Core.List.{List, []}
use mathlib.Core.Path.{◌≡◌, ap, ap₂, refl, ◌∙◌}
use Prim.Native.Nat.{ℕ, zero, suc, ◌+◌, ◌*◌, ◌/◌, ◌%◌, ◌<◌, ◌≤◌}
use native.Mathlib.Omega.{arith}
use lib.Dec.{eqb}
use lib.Count.{ones_in}
use lib.ListN.{length, length-append}
use Rattle.sessions.specs.Set.{has, has_of}
use Rattle.sessions.proofs.Counts.{count_most}
use Rattle.fairness.specs.Figure1.{values}
use Rattle.declarations.specs.declared.Declared.{Declared}
use Rattle.writing.specs.Writing.{link_from, link_records, records_from, records_of, session_from, session_records}

-- where the numbers that pass are the members of v, counted from b on, and every record has m bytes
records_long_from : (k b v : ℕ) (test : ℕ → Bool) (f : ℕ → List ℕ) (m : ℕ) → ((i : ℕ) → test (b + i) ≡ has_of i v) → ((i : ℕ) → length (f i) ≡ m)
    → length (records_from k b test f) ≡ ones_in k v * m
unfolding records_from ones_in has
records_long_from zero b v test f m t h = omega arith
records_long_from (suc k) b v test f m t h =
    let rest = records_long_from k (suc b) (v / 2) test f m (λ i. ap test {x = suc b + i} {y = b + suc i} (omega arith) ∙ t (suc i)) h in
    length-append (cond (test b) (f b) []) (records_from k (suc b) test f)
    ∙ ap₂ ◌+◌ (one (v % 2) (omega arith) (ap test {x = b} {y = b + 0} (omega arith) ∙ t 0)) rest
    ∙ omega arith
  where
    one : (d : ℕ) → d < 2 → test b ≡ eqb d 1 → length (cond (test b) (f b) []) ≡ d * m
    one zero l e = rw e (omega arith)
    one (suc zero) l e = rw e (h b ∙ omega arith)
    one (suc (suc d)) l e = absurd (omega arith)

-- as many records of m bytes as the word has members
pub records_long : (k w : ℕ) (f : ℕ → List ℕ) (m : ℕ) → ((i : ℕ) → length (f i) ≡ m) → length (records_from k 0 (λ i. has_of i w) f) ≡ ones_in k w * m
records_long k w f m h = records_long_from k 0 w (λ i. has_of i w) f m (λ i. ap (λ (k : ℕ). has_of k w) {x = 0 + i} {y = i} (omega arith)) h

pub links_long : (links : ℕ) (capacity : List ℕ) → length (link_records links capacity) ≡ ones_in 64 links * 6
links_long links capacity = records_long 64 links (link_from capacity) 6 (λ e. refl)

pub sessions_long : (sessions : ℕ) (access maximum path : List ℕ) → length (session_records sessions access maximum path) ≡ ones_in 32 sessions * 19
unfolding values
sessions_long sessions access maximum path = records_long 32 sessions (session_from access maximum path) 19 (λ t. refl)

module _ (d : Declared) where
  pub output_long : length (records_of d) ≡ ones_in 64 d.links * 6 + ones_in 32 d.sessions * 19
  unfolding records_of
  output_long =
      length-append (link_records d.links d.capacity) (session_records d.sessions d.access d.maximum d.path)
      ∙ ap₂ ◌+◌ (links_long d.links d.capacity) (sessions_long d.sessions d.access d.maximum d.path)

  pub output_most : length (records_of d) ≤ 992
  output_most = omega (arith, output_long, count_most 64 d.links, count_most 32 d.sessions)

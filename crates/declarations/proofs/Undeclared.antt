-- A link that an input does not declare has no capacity.
-- Assumes nothing.
use mathlib.Core.List.{List}
use mathlib.Core.Path.{◌≡◌, ap, sym, ◌∙◌}
use Prim.Native.Nat.{ℕ}
use native.Mathlib.Decide.{ℕ_discrete}
use native.Mathlib.Omega.{arith}
use lib.ListN.{get_or, length, set}
use lib.Seq.{get_or-set_other}
use Rattle.sessions.specs.Set.{has, put}
use Rattle.sessions.proofs.Members.{has_put_other, has_put_same}
use Rattle.records.specs.Format.{Bytes}
use Rattle.records.specs.declared.Call.TheVariants as call
use Rattle.records.specs.declared.Record.{Record}
use Rattle.records.specs.declared.Record.TheVariants as rec
use Rattle.records.proofs.Runs.{run_keeps}
use Rattle.declarations.specs.Declaring.{declarations_of, declare_of, judging, none_declared}
use Rattle.declarations.specs.declared.Declared.{Declared}
use Rattle.declarations.proofs.KeepsRanges.{zeros_at_most}

pub undeclared_none : (s : List ℕ) → Bytes s → (e : ℕ) → has e (declarations_of s).declared.links ≡ 0 → get_or (declarations_of s).declared.capacity e 0 ≡ 0
unfolding declarations_of declare_of none_declared
undeclared_none s bytes = run_keeps None call.Calculation (judging s) (declare_of s) s bytes (λ z x p o t. keeps z x p) (length s) none_declared 0 0 start
  where
    None : Declared → Type 0
    None d = (e : ℕ) → has e d.links ≡ 0 → get_or d.capacity e 0 ≡ 0

    start : None none_declared
    start e m = omega (arith, zeros_at_most 0 64 e)

    keeps : (z : Declared) (x : Record) → None z → None (declare_of s z x)
    keeps z (rec.Link e c) p i m = other (ℕ_discrete e i)
      where
        other : Dec (e ≡ i) → get_or (set z.capacity e c) i 0 ≡ 0
        other (yes q) = absurd (omega (arith, m, ap (λ (v : ℕ). has v (put e z.links)) (sym q), has_put_same e z.links))
        other (no n) = get_or-set_other z.capacity e i c 0 (λ q. n (sym q)) ∙ p i (sym (has_put_other e i z.links n) ∙ m)
    keeps z (rec.Session b) p i k = p i k
    keeps z (rec.Leave u) p i k = p i k
    keeps z (rec.Change u m) p i k = p i k
    keeps z (rec.Deliver q) p i k = p i k

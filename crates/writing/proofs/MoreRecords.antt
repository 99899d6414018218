-- Records by rising number, by which numbers pass: none, one more above all that did, more of them, the same.
-- Assumes nothing.
use mathlib.Core.Bool.{Bool, cond, false, true}
use mathlib.Core.List.{List, [], ◌++◌, append_assoc, append-nil}
use mathlib.Core.Logic.{◌⊎◌, inl, inr}
use mathlib.Core.Path.{◌≡◌, ap, ap₂, refl, sym, ◌∙◌}
use Prim.Native.Nat.{ℕ, zero, suc, ◌+◌, ◌<◌, ◌≤◌}
use native.Mathlib.Omega.{arith}
use lib.ListN.{length, length-append}
use Rattle.fractions.proofs.Cases.{order}
use Rattle.writing.specs.Writing.{records_from}

module _ (f : ℕ → List ℕ) where
  pub records_none : (k b : ℕ) (test : ℕ → Bool) → ((i : ℕ) → b ≤ i → i < b + k → test i ≡ false) → records_from k b test f ≡ []
  unfolding records_from
  records_none zero b test none = refl
  records_none (suc k) b test none = rw (none b (omega arith) (omega arith)) (records_none k (suc b) test (λ i h l. none i (omega arith) (omega arith)))

  -- u is test with e, and none above e passes: the record of e comes last
  pub records_more : (k b e : ℕ) (test u : ℕ → Bool) → b ≤ e → e < b + k → ((i : ℕ) → i < e → u i ≡ test i) → ((i : ℕ) → e ≤ i → test i ≡ false)
      → u e ≡ true → ((i : ℕ) → e < i → u i ≡ false) → records_from k b u f ≡ records_from k b test f ++ f e
  unfolding records_from
  records_more zero b e test u h l same none here above = absurd (omega arith)
  records_more (suc k) b e test u h l same none here above =
      go (order e b) (λ p. records_more k (suc b) e test u p (omega arith) same none here above)
    where
      go : (e ≤ b) ⊎ (b < e) → (suc b ≤ e → records_from k (suc b) u f ≡ records_from k (suc b) test f ++ f e)
          → cond (u b) (f b) [] ++ records_from k (suc b) u f ≡ (cond (test b) (f b) [] ++ records_from k (suc b) test f) ++ f e
      go (inl p) more =
          let q : e ≡ b = omega arith in
          let yes-here : u b ≡ true = ap u (sym q) ∙ here in
          let rest : records_from k (suc b) u f ≡ [] = records_none k (suc b) u (λ i r m. above i (omega arith)) in
          let old : records_from k (suc b) test f ≡ [] = records_none k (suc b) test (λ i r m. none i (omega arith)) in
          rw (yes-here, rest, none b (omega arith), old, q) (append-nil (f b))
      go (inr p) more =
          rw (same b p, more (omega arith)) (sym (append_assoc (cond (test b) (f b) []) (records_from k (suc b) test f) (f e)))

  -- more pass: no fewer bytes
  pub records_fewer : (k b : ℕ) (test u : ℕ → Bool) → ((i : ℕ) → test i ≡ true → u i ≡ true) → length (records_from k b test f) ≤ length (records_from k b u f)
  unfolding records_from
  records_fewer zero b test u h = omega arith
  records_fewer (suc k) b test u h =
      omega (
        arith,
        length-append (cond (test b) (f b) []) (records_from k (suc b) test f),
        length-append (cond (u b) (f b) []) (records_from k (suc b) u f),
        one (test b) (u b) (h b),
        records_fewer k (suc b) test u h,
      )
    where
      one : (t v : Bool) → (t ≡ true → v ≡ true) → length (cond t (f b) []) ≤ length (cond v (f b) [])
      one false v g = omega arith
      one true v g = rw (g refl) (omega arith)

-- tests that agree, and records that do where the test passes
pub records_same : (k b : ℕ) (test u : ℕ → Bool) (f g : ℕ → List ℕ) → ((i : ℕ) → test i ≡ u i) → ((i : ℕ) → i < b + k → test i ≡ true → f i ≡ g i)
    → records_from k b test f ≡ records_from k b u g
unfolding records_from
records_same zero b test u f g p q = refl
records_same (suc k) b test u f g p q = ap₂ ◌++◌ (one (test b) (u b) (p b) (q b (omega arith))) (records_same k (suc b) test u f g p (λ i h. q i (omega arith)))
  where
    same : (t : Bool) → (t ≡ true → f b ≡ g b) → cond t (f b) [] ≡ cond t (g b) []
    same true r = r refl
    same false r = refl

    one : (t v : Bool) → t ≡ v → (t ≡ true → f b ≡ g b) → cond t (f b) [] ≡ cond v (g b) []
    one t v e r = same t r ∙ ap (λ (y : Bool). cond y (g b) []) e

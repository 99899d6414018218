-- The sessions that the search finds at the links with the smallest share, and those whose own limit has it, are the open sessions at the links that
-- have it.
-- Assumes nothing.
use mathlib.Core.List.{List}
use mathlib.Core.Logic.{◌⊎◌, inl, inr}
use mathlib.Core.Path.{◌≡◌, refl, sym, ap, ◌∙◌, subst}
use Prim.Native.Nat.{ℕ, ◌+◌, ◌*◌, ◌^◌, ◌<◌, ◌≤◌}
use native.Mathlib.Decide.{ℕ_discrete}
use native.Mathlib.Nat.{add-sub_cancel_left}
use native.Mathlib.Omega.{arith}
use borrow.Author.Tests.{lt-ltb, le-ltb}
use lib.Bits.{bit_or}
use lib.Count.{ones}
use lib.Dec.{T, eqb, eqb_refl, eqb→eq}
use lib.ListN.{get_or}
use Rattle.sessions.specs.Set.{has}
use Rattle.sessions.proofs.Members.{has_high, has_lt, has_or_not, has_pos}
use Rattle.sessions.proofs.Counts.{ones_pos, ones_zero}
use Rattle.sessions.proofs.Operations.{has_or, has_two_other, has_two_same}
use Rattle.fairness.specs.Figure1.{Net, net}
use Rattle.fairness.proofs.Anys.{any_at, any_found}
use Rattle.fairness.proofs.NetOfProblem.{on_link}
use Rattle.fractions.proofs.Cases.{and_join, and_split, order}
use Rattle.declarations.specs.declared.Declared.{Declared}
use Rattle.search.specs.Crossing.{AllAt, Meets}
use Rattle.filling.specs.Lines.{crosses_of, problem_of}
use Rattle.filling.specs.OneRound.{Running}
use Rattle.filling.specs.SmallestShare.{GivenAmong, SmallestAmong, below, bit_of, count_of, limits_of, room_of, word_of}
use Rattle.filling.specs.State.{Fill}
use Rattle.filling.specs.declared.Smallest.{Smallest}
use Rattle.filling.proofs.OpenSessions.{T-one, T-open, count_is, each, is_member_link, member_link, open-T, word_open, word_shut}

-- a session that meets a set of links crosses one of them, and the other way round
meets_at : (path : List ℕ) (links s : ℕ) → links < 2 ^ 64 → Meets path links s → (e : ℕ) × (e < 64) × (has e links ≡ 1) × T (crosses_of path e s)
meets_at path links s h m =
    let e : ℕ = get_or path (s * 8 + m.0) 0 in
    (e, small e m.2 (order 64 e), m.2, any_at 8 (λ i. eqb (get_or path (s * 8 + i) 0) e) m.0 m.1 (eqb_refl e))
  where
    small : (e : ℕ) → has e links ≡ 1 → (64 ≤ e) ⊎ (e < 64) → e < 64
    small e q (inr l) = l
    small e q (inl l) = absurd (omega (arith, q, has_high 64 e links h l))

at_meets : (path : List ℕ) (links s e : ℕ) → has e links ≡ 1 → T (crosses_of path e s) → Meets path links s
at_meets path links s e q t =
    let a = any_found 8 (λ i. eqb (get_or path (s * 8 + i) 0) e) t in
    (a.0, a.1, ap (λ (v : ℕ). has v links) (eqb→eq (get_or path (s * 8 + a.0) 0) e a.2) ∙ q)

module _ (d : Declared) (z : Fill) (run : Running d z) where
  abbrev w : Net
  w = net (problem_of d)

  abbrev R : ℕ → ℕ
  R = room_of z.links.room z.den (limits_of d.access d.maximum)

  abbrev W : ℕ → ℕ
  W = word_of z.links z.opens

  abbrev K : ℕ → ℕ
  K = count_of z.links.count z.opens

  -- a link with a count has somebody in its word
  some_there : (e : ℕ) → e < 96 → 0 < K e → 0 < W e
  some_there e h p = go (order (W e) 0)
    where
      go : (W e ≤ 0) ⊎ (0 < W e) → 0 < W e
      go (inl n) = absurd (omega (arith, p, count_is d z run e h, ap ones {x = W e} {y = 0} (omega arith), ones_zero))
      go (inr q) = q

  own_open : (s : ℕ) → 0 < W (64 + s) → has s z.opens ≡ 1
  own_open s p = go (has_or_not s z.opens)
    where
      go : (has s z.opens ≡ 0) ⊎ (has s z.opens ≡ 1) → has s z.opens ≡ 1
      go (inl q) = absurd (omega (arith, word_shut d z run s q))
      go (inr q) = q

  pub on_crosses : (e : ℕ) → e < 64 → (s : ℕ) → T (w.on e s) → T (crosses_of d.path e s)
  unfolding problem_of
  on_crosses e h s o = (and_split (eqb (has s d.sessions) 1) (crosses_of d.path e s) (subst T (on_link (problem_of d) e s h) o)).1

  crosses_on : (e : ℕ) → e < 64 → (s : ℕ) → s < 32 → has s z.opens ≡ 1 → T (crosses_of d.path e s) → T (w.on e s)
  unfolding problem_of
  crosses_on e h s l q c =
      subst T (sym (on_link (problem_of d) e s h))
      (and_join (eqb (has s d.sessions) 1) (crosses_of d.path e s)
      (T-one (has s d.sessions) (omega (arith, run.declared s l, has_lt s d.sessions))) c)

  module _ (f : Smallest) (best : SmallestAmong (below 96) R K f) (links-lt : f.links < 2 ^ 64) (r : ℕ)
      (found : AllAt d.path z.opens f.links r) where
    bits_link : (e : ℕ) → e < 64 → bit_of f.own f.links e ≡ has e f.links
    bits_link e h = rw (lt-ltb e 64 h) refl

    bits_own : (s : ℕ) → bit_of f.own f.links (64 + s) ≡ has s f.own
    bits_own s = rw (le-ltb (64 + s) 64 (omega arith), add-sub_cancel_left 64 s) refl

    ok : (e : ℕ) → e < 96 → bit_of f.own f.links e ≡ 1 → (0 < W e) × (R e * f.count ≡ f.room * ones (W e))
    ok e h q = let o = best.ok e h q in (some_there e h o.0, o.1 ∙ ap (λ (v : ℕ). f.room * v) (count_is d z run e h))

    from : ((f.room ≡ 1) × (f.count ≡ 0)) ⊎ ((b : ℕ) × (b < 96) × (f.room ≡ R b) × (f.count ≡ K b) × (0 < K b))
        → ((f.room ≡ 1) × (f.count ≡ 0)) ⊎ ((b : ℕ) × (b < 96) × (f.room ≡ R b) × (f.count ≡ ones (W b)) × (0 < W b))
    from (inl n) = inl n
    from (inr o) = inr (o.0, o.1, o.2, o.3 ∙ count_is d z run o.0 o.1, some_there o.0 o.1 o.4)

    abbrev Why : ℕ → Type 0
    Why s = (e : ℕ) × (e < 96) × (has s (W e) ≡ 1) × (R e * f.count ≡ f.room * ones (W e))

    why_own : (s : ℕ) → s < 32 → has s f.own ≡ 1 → Why s
    why_own s h q =
        let o = ok (64 + s) (omega arith) (bits_own s ∙ q) in
        (64 + s, omega arith, ap (has s) (word_open d z run s (own_open s o.0)) ∙ has_two_same s, o.1)

    why_link : (s : ℕ) → s < 32 → has s r ≡ 1 → Why s
    why_link s h q =
        let m = found.only s h q in
        let a = meets_at d.path f.links s links-lt m.1 in
        let o = ok a.0 (omega (arith, a.1)) (bits_link a.0 a.1 ∙ a.2) in
        let on = crosses_on a.0 a.1 s h m.0 a.3 in
        (a.0, omega (arith, a.1), is_member_link d z run a.0 a.1 s h on (T-open (has s z.opens) m.0), o.1)

    gets : (s : ℕ) → s < 32 → (e : ℕ) → e < 96 → has s (W e) ≡ 1 → R e * f.count ≡ f.room * ones (W e) → has s (bit_or f.own r) ≡ 1
    gets s h e k q v =
        let same = count_is d z run e k in
        go e k q (best.all e k k (omega (arith, same, ones_pos s (W e) q)) (v ∙ ap (λ (y : ℕ). f.room * y) (sym same)))
      where
        link : (e : ℕ) → e < 64 → has s (W e) ≡ 1 → bit_of f.own f.links e ≡ 1 → has s (bit_or f.own r) ≡ 1
        link e k q b =
            let m = member_link d z run e k s h q in
            omega (
              arith,
              has_or s f.own r,
              has_lt s f.own,
              found.every s h (open-T (has s z.opens) (has_lt s z.opens) m.1)
                  (at_meets d.path f.links s e (sym (bits_link e k) ∙ b) (on_crosses e k s m.0)),
            )

        own : (j : ℕ) → j < 32 → has s (W (64 + j)) ≡ 1 → bit_of f.own f.links (64 + j) ≡ 1 → has s (bit_or f.own r) ≡ 1
        own j k q b = same (ℕ_discrete j s)
          where
            same : Dec (j ≡ s) → has s (bit_or f.own r) ≡ 1
            same (yes x) = omega (arith, has_or s f.own r, has_lt s r, ap (λ (v : ℕ). has v f.own) x, bits_own j)
            same (no x) = absurd (omega (arith, q, ap (has s) (word_open d z run j (own_open j (has_pos s (W (64 + j)) q))), has_two_other j s x))

        go : (e : ℕ) → e < 96 → has s (W e) ≡ 1 → bit_of f.own f.links e ≡ 1 → has s (bit_or f.own r) ≡ 1
        go = each (λ e. has s (W e) ≡ 1 → bit_of f.own f.links e ≡ 1 → has s (bit_or f.own r) ≡ 1) link own

    pub joined : GivenAmong R W (record { room = f.room; count = f.count; chosen = bit_or f.own r })
    joined =
        record {
          low = λ e h. subst (λ (v : ℕ). f.room * v ≤ R e * f.count) (count_is d z run e h) (best.low e h);
          from = from best.from;
          some = λ s h q. why s h (has_or_not s f.own) q;
          every = gets;
        }
      where
        why : (s : ℕ) → s < 32 → (has s f.own ≡ 0) ⊎ (has s f.own ≡ 1) → has s (bit_or f.own r) ≡ 1 → Why s
        why s h (inr p) q = why_own s h p
        why s h (inl n) q = why_link s h (omega (arith, has_or s f.own r))

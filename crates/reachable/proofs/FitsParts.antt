-- That the words in use are within their ranges, by parts: each link with its entries, each session, and the packets. Each part goes by its own
-- words, so a writer of one part has only that part to answer for.
-- Assumes nothing.
use mathlib.Core.Bool.{true}
use mathlib.Core.List.{List}
use mathlib.Core.Logic.{◌⊎◌, inl, inr, ⊎_elim}
use mathlib.Core.Path.{◌≡◌, subst, ◌∙◌}
use Prim.Native.Nat.{ℕ, ◌+◌, ◌*◌, ◌≤◌, ◌<◌}
use native.Mathlib.Nat.{eq-or-lt_of_le}
use native.Mathlib.Omega.{arith}
use lib.ListN.{get_or, length}
use Rattle.fractions.proofs.Cases.{order}
use Rattle.links.specs.declared.Place.{Place}
use Rattle.soundness.specs.Sound.{Held}
use Rattle.ranges.specs.Ranges.{count_fits, entry_fits, link_fits, packet_fits, source_fits, standing_fits}
use Rattle.table.specs.Words.{count_of, hops_of, place_of}
use Rattle.ranges.proofs.FitsLinks.{entry_fits_agree, link_fits_agree}
use Rattle.ranges.proofs.FitsPackets.{count_fits_agree, packet_fits_agree}
use Rattle.ranges.proofs.FitsSources.{source_fits_agree, standing_fits_agree}
use Rattle.table.proofs.InRange.{count_most}
use Rattle.table.proofs.Places.{count_agree, hops_agree, link_agree, row_agree}
use Rattle.table.proofs.Store.{Agree, Off}
use Rattle.reachable.specs.Invariant.{Fits}

-- PARTS ---------------------------------------------------------------------------------------------------------------

-- a link, and the entries that it holds
pub record LinkFit (w : List ℕ) (e : ℕ) : Type 0 where
  pub link : link_fits w e ≡ true
  pub entries : (s : ℕ) → s < 32 → Held (place_of w e) s → entry_fits w e s ≡ true

pub record SessionFit (w : List ℕ) (s : ℕ) : Type 0 where
  pub standing : standing_fits w s ≡ true
  pub source : 0 < hops_of w s → source_fits w s ≡ true

pub record PacketsFit (w : List ℕ) : Type 0 where
  pub count : count_fits w ≡ true
  pub packets : (i : ℕ) → i < count_of w → packet_fits w i ≡ true

fits_link_part : {w : List ℕ} → Fits w → (e : ℕ) → e < 64 → LinkFit w e
fits_link_part f e l = record { link = f.links e l; entries = λ s m h. f.entries e s l m h }

fits_session_part : {w : List ℕ} → Fits w → (s : ℕ) → s < 32 → SessionFit w s
fits_session_part f s l = record { standing = f.standing s l; source = f.sources s l }

fits_packets_part : {w : List ℕ} → Fits w → PacketsFit w
fits_packets_part f = record { count = f.count; packets = f.packets }

fits_all : {w : List ℕ}
    → length w ≡ 9153
    → ((e : ℕ) → e < 64 → LinkFit w e)
    → ((s : ℕ) → s < 32 → SessionFit w s)
    → PacketsFit w
    → Fits w
fits_all n f g h = record {
  long = n;
  count = h.count;
  links = λ e l. (f e l).link;
  entries = λ e s l m q. (f e l).entries s m q;
  standing = λ s l. (g s l).standing;
  sources = λ s l. (g s l).source;
  packets = h.packets;
}

-- THE SAME WORDS ------------------------------------------------------------------------------------------------------

link_fit_agree : (v w : List ℕ) (e : ℕ) → Agree v w (e * 3) 3 → Agree v w (192 + e * 96) 96 → LinkFit w e → LinkFit v e
link_fit_agree v w e a b f =
    let p : place_of v e ≡ place_of w e = rw (link_agree v w e a, row_agree v w e b) in
    record {
      link = link_fits_agree v w e a ∙ f.link;
      entries =
          λ s l h.
          entry_fits_agree v w e s (λ i c d. b i (omega arith) (omega arith)) ∙ f.entries s l (subst (λ (q : Place). Held q s) p h);
    }

session_fit_agree : (v w : List ℕ) (s : ℕ) → Agree v w (6336 + s * 24) 24 → SessionFit w s → SessionFit v s
session_fit_agree v w s a f =
    let p : hops_of v s ≡ hops_of w s = hops_agree v w s (λ i c d. a i (omega arith) (omega arith)) in
    record {
      standing = standing_fits_agree v w s (λ i c d. a i c (omega arith)) ∙ f.standing;
      source = λ h. source_fits_agree v w s a ∙ f.source (rw p at h);
    }

packets_fit_agree : (v w : List ℕ) → Agree v w 7104 2049 → PacketsFit w → PacketsFit v
packets_fit_agree v w a f =
    let p : count_of v ≡ count_of w = count_agree v w (λ i c d. a i (omega arith) (omega arith)) in
    let m : count_of w ≤ 256 = count_most w in
    record {
      count = count_fits_agree v w (λ i c d. a i (omega arith) (omega arith)) ∙ f.count;
      packets =
          λ i l.
          packet_fits_agree v w i (λ j c d. a j (omega arith) (omega arith)) ∙ f.packets i (rw p at l);
    }

-- ONE PART WRITTEN ----------------------------------------------------------------------------------------------------

-- the same number, or below it, or above
same_or_off : (a b : ℕ) → (a ≡ b) ⊎ ((a < b) ⊎ (b < a))
same_or_off a b =
    ⊎_elim
    (λ (h : a ≤ b). ⊎_elim (λ (q : a ≡ b). inl q) (λ (q : a < b). inr (inl q)) (eq-or-lt_of_le h))
    (λ (h : b < a). inr (inr h))
    (order a b)

-- a writer of link e and of its entries
pub fits_at_link : (w v : List ℕ) (e : ℕ)
    → e < 64
    → length v ≡ length w
    → ((i : ℕ) → Off i (e * 3) 3 → Off i (192 + e * 96) 96 → get_or v i 0 ≡ get_or w i 0)
    → LinkFit v e
    → Fits w
    → Fits v
fits_at_link w v e l n off f t =
    fits_all
    (n ∙ t.long)
    (λ d m.
    ⊎_elim
    (λ (q : e ≡ d). subst (LinkFit v) q f)
    (⊎_elim
    (λ (q : e < d).
    link_fit_agree v w d
    (λ i a b. off i (inr (omega arith)) (inl (omega arith)))
    (λ i a b. off i (inr (omega arith)) (inr (omega arith)))
    (fits_link_part t d m))
    (λ (q : d < e).
    link_fit_agree v w d
    (λ i a b. off i (inl (omega arith)) (inl (omega arith)))
    (λ i a b. off i (inr (omega arith)) (inl (omega arith)))
    (fits_link_part t d m)))
    (same_or_off e d))
    (λ s m. session_fit_agree v w s (λ i a b. off i (inr (omega arith)) (inr (omega arith))) (fits_session_part t s m))
    (packets_fit_agree v w (λ i a b. off i (inr (omega arith)) (inr (omega arith))) (fits_packets_part t))

-- a writer of session s
pub fits_at_session : (w v : List ℕ) (s : ℕ)
    → s < 32
    → length v ≡ length w
    → ((i : ℕ) → Off i (6336 + s * 24) 24 → get_or v i 0 ≡ get_or w i 0)
    → SessionFit v s
    → Fits w
    → Fits v
fits_at_session w v s l n off f t =
    fits_all
    (n ∙ t.long)
    (λ e m.
    link_fit_agree v w e
    (λ i a b. off i (inl (omega arith)))
    (λ i a b. off i (inl (omega arith)))
    (fits_link_part t e m))
    (λ r m.
    ⊎_elim
    (λ (q : s ≡ r). subst (SessionFit v) q f)
    (⊎_elim
    (λ (q : s < r). session_fit_agree v w r (λ i a b. off i (inr (omega arith))) (fits_session_part t r m))
    (λ (q : r < s). session_fit_agree v w r (λ i a b. off i (inl (omega arith))) (fits_session_part t r m)))
    (same_or_off s r))
    (packets_fit_agree v w (λ i a b. off i (inr (omega arith))) (fits_packets_part t))

-- a writer of packets
pub fits_at_packets : (w v : List ℕ)
    → length v ≡ length w
    → ((i : ℕ) → Off i 7104 2049 → get_or v i 0 ≡ get_or w i 0)
    → PacketsFit v
    → Fits w
    → Fits v
fits_at_packets w v n off f t =
    fits_all
    (n ∙ t.long)
    (λ e m.
    link_fit_agree v w e
    (λ i a b. off i (inl (omega arith)))
    (λ i a b. off i (inl (omega arith)))
    (fits_link_part t e m))
    (λ s m. session_fit_agree v w s (λ i a b. off i (inl (omega arith))) (fits_session_part t s m))
    f

-- `filling::filled` meets its contract.
-- Assumes nothing.
use borrow.Author.Rules.{rules}
use mathlib.Core.Path.{◌≡◌, refl, subst, sym}
use Prim.Native.Nat.{ℕ, ◌^◌, ◌<◌}
use native.Mathlib.Omega.{arith}
use lib.Bits.{bit_or, or_lt}
use lib.ListN.{length, replicate}
use Rattle.declarations.specs.declared.Declared.{Declared}
use Rattle.search.specs.Crossing.{AllAt}
use Rattle.filling.specs.OneRound.{Enough, Running, Without}
use Rattle.filling.specs.SmallestShare.{GivenAmong, LeastLink, LeastOwn, SmallestFits, limits_of, room_of, word_of}
use Rattle.filling.specs.State.{Fill, fill_of}
use Rattle.filling.specs.declared.Given.{Given}
use Rattle.filling.specs.declared.Smallest.{Smallest}
use Rattle.filling.specs.declared.Links.{Links}
use Rattle.filling.proofs.AfterRound.{den_after, fewer, running}
use Rattle.filling.proofs.BeginAndEnd.{end_filled, start_running}
use Rattle.filling.proofs.Chosen.{joined}
use Rattle.filling.proofs.LinksOfRound.{enough, links_after, shares_fit}
use Rattle.filling.proofs.RoundOfFigure1.{den_before, others, rate_before, turn}
use Rattle.filling.proofs.filled.Goals as goal

-- what a round gives: the smallest share, and the sessions of the own limits and of the links that have it
abbrev given_of : Smallest → ℕ → Given
given_of t found = record { room = t.room; count = t.count; chosen = bit_or t.own found }

best : (d : Declared) (z : Fill) (l t : Smallest) (found : ℕ) → Running d z → LeastLink z.links.room z.links.count l
    → LeastOwn l z.den z.opens d.access d.maximum t → AllAt d.path z.opens t.links found
    → GivenAmong (room_of z.links.room z.den (limits_of d.access d.maximum)) (word_of z.links z.opens) (given_of t found)
best d z l t found run link own all =
    let among = own.among z.links.room z.links.count (link.among z.den z.opens (limits_of d.access d.maximum)) in
    joined d z run t among (omega (arith, own.fits.links)) found all

chosen_lt : (t : Smallest) (found : ℕ) → SmallestFits t → found < 4294967296 → bit_or t.own found < 2 ^ 32
chosen_lt t found fits small = or_lt 32 t.own found (omega (arith, fits.own)) (omega (arith, small))

pub count_all-requires : goal.count_all-requires
count_all-requires c = let x = c.join_all.ensures in (x.0.busy, x.1.1, x.0.small)

pub loop-opens-init : goal.loop-opens-init
loop-opens-init c =
    let d = c.args.d in
    let small : d.sessions < 4294967296 = omega arith in
    let long : length d.capacity ≡ 64 = search rules in
    let x = c.join_all.ensures in
    let n = c.count_all.ensures in
    subst (λ (k : Links). Running d (fill_of 1 d.sessions k (replicate 32 0))) (sym n.2)
    (start_running d c.requires small long _ _ _ x.0 n.0 n.1 x.1.0 x.1.2 refl)

pub least-requires : goal.least-requires
least-requires c = shares_fit c.args.d _ c.loop-opens.invariant

pub or_own-least-requires : goal.or_own-least-requires
or_own-least-requires c =
    let run = c.loop-opens.invariant in
    (c.least.ensures.fits, den_before c.args.d _ run, run.ranges.access)

pub grow-requires : goal.grow-requires
grow-requires c =
    let run = c.loop-opens.invariant in
    (c.or_own-least.ensures.fits.count, run.whole.rooms, run.links.room)

pub leave_all-requires : goal.leave_all-requires
leave_all-requires c =
    let run = c.loop-opens.invariant in
    let b = best _ _ _ _ _ run c.least.ensures c.or_own-least.ensures c.all_at.ensures in
    subst (Enough c.or_own-least.result.room) (sym c.grow.ensures.1) (enough _ _ run _ b _ c.grow.ensures.0)

pub rates_after-requires : goal.rates_after-requires
rates_after-requires c =
    let run = c.loop-opens.invariant in
    let fits = c.or_own-least.ensures.fits in
    let lt = chosen_lt _ _ fits c.all_at.ensures.small in (
      record { room = fits.room; count = fits.count; chosen = omega (arith, lt) },
      record {
        long = run.rates;
        small = rate_before _ _ run;
        others = others _ _ run _ (best _ _ _ _ _ run c.least.ensures c.or_own-least.ensures c.all_at.ensures) lt;
      },
    )

pub overflow_mul-den : goal.overflow_mul-den
overflow_mul-den c =
    let run = c.loop-opens.invariant in
    let lt = chosen_lt _ _ c.or_own-least.ensures.fits c.all_at.ensures.small in
    let x = c.rates_after.ensures in
    let b = best _ _ _ _ _ run c.least.ensures c.or_own-least.ensures c.all_at.ensures in
    omega (arith, den_after _ _ run _ lt _ x.long (turn _ _ run _ b lt (omega arith) _ x))

pub loop-opens-smaller : goal.loop-opens-smaller
loop-opens-smaller c =
    let run = c.loop-opens.invariant in
    let lt = chosen_lt _ _ c.or_own-least.ensures.fits c.all_at.ensures.small in
    let x = c.rates_after.ensures in
    let b = best _ _ _ _ _ run c.least.ensures c.or_own-least.ensures c.all_at.ensures in
    fewer _ _ run _ lt _ x.long (turn _ _ run _ b lt (omega arith) _ x)

pub loop-opens-preserved : goal.loop-opens-preserved
loop-opens-preserved c =
    let run = c.loop-opens.invariant in
    let lt = chosen_lt _ _ c.or_own-least.ensures.fits c.all_at.ensures.small in
    let x = c.rates_after.ensures in
    let b = best _ _ _ _ _ run c.least.ensures c.or_own-least.ensures c.all_at.ensures in
    let without = subst (λ (k : Links). Without c.args.d.path (bit_or c.or_own-least.result.own c.all_at.result) c.or_own-least.result.room k c.leave_all.new.self) c.grow.ensures.1 c.leave_all.ensures in
    let links = links_after _ _ run _ b _ c.grow.ensures.0 _ without in
    running _ _ run _ lt _ x.long (turn _ _ run _ b lt (omega arith) _ x) _ links

pub returns : goal.returns
returns c =
    let z = c.loop-opens in
    end_filled c.args.d (fill_of z.den z.opens z.links z.rate) z.invariant (omega arith)

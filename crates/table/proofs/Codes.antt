-- Codes: each stands for what it is the code of, and is within its range.
-- Assumes nothing.
use Rattle.std.specs.Prelude.{None, Option, Some}
use mathlib.Core.Bool.{Bool, false, true}
use mathlib.Core.Path.{◌≡◌, ap, refl}
use native.Mathlib.Omega.{arith}
use borrow.Author.Tests.{le-leb, ne_eqb}
use lib.Dec.{eqb, leb}
use Rattle.fractions.proofs.Ranges.{kept_same}
use Rattle.tasks.specs.declared.Eta.{Eta}
use Rattle.tasks.specs.declared.Eta.TheVariants as eta
use Rattle.links.specs.declared.Mu.{Mu}
use Rattle.links.specs.declared.Mu.TheVariants as mu
use Rattle.tasks.specs.declared.Tau.{Tau}
use Rattle.tasks.specs.declared.Tau.TheVariants as tau
use Rattle.table.specs.Values.{EtaInRange, ToldInRange}
use Rattle.table.specs.Codes.{bit_of, eta_code, eta_of, mu_code, mu_of, tau_code, tau_of, told_code, told_of, told_rate}
use Rattle.table.proofs.InRange.{field_same}
use Rattle.fractions.specs.declared.Rate.{Rate}

pub mu_back : (m : Mu) → mu_of (mu_code m) ≡ m
unfolding mu_of
mu_back mu.Idle = refl
mu_back mu.WaitingProbe = refl
mu_back mu.WaitingResponse = refl

pub tau_back : (t : Tau) → tau_of (tau_code t) ≡ t
unfolding tau_of
tau_back tau.Response = refl
tau_back tau.Update = refl
tau_back tau.Bottleneck = refl

pub bit_back : (b : Bool) → eqb (bit_of b) 1 ≡ b
bit_back true = refl
bit_back false = refl

pub eta_back : (n : Eta) → EtaInRange n → eta_of (eta_code n) ≡ n
unfolding eta_of
eta_back eta.Own h = refl
eta_back (eta.Link e) h = rw (ne_eqb e 64 (λ q. omega arith), field_same 63 e (omega arith))

pub told_back : (x : Option Rate) → ToldInRange x → told_of (told_code x) (told_rate x).num (told_rate x).den ≡ x
unfolding told_of
told_back None h = refl
told_back (Some x) h = ap Some (kept_same h)

-- AND IS WITHIN ITS RANGE ---------------------------------------------------------------------------------------------

pub mu_most : (m : Mu) → leb (mu_code m) 2 ≡ true
mu_most mu.Idle = refl
mu_most mu.WaitingProbe = refl
mu_most mu.WaitingResponse = refl

pub tau_most : (t : Tau) → leb (tau_code t) 2 ≡ true
tau_most tau.Response = refl
tau_most tau.Update = refl
tau_most tau.Bottleneck = refl

pub bit_most : (b : Bool) → leb (bit_of b) 1 ≡ true
bit_most true = refl
bit_most false = refl

pub eta_most : (n : Eta) → EtaInRange n → leb (eta_code n) 64 ≡ true
eta_most eta.Own h = refl
eta_most (eta.Link e) h = le-leb e 64 (omega arith)

pub told_most : (x : Option Rate) → leb (told_code x) 1 ≡ true
told_most None = refl
told_most (Some x) = refl

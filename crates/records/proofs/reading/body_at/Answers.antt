-- `records::reading::body_at` meets its contract.
-- Assumes nothing.
use mathlib.Core.Path.{◌≡◌, sym, ap, ◌∙◌}
use lib.ListN.{get_or}
use native.Mathlib.Omega.{arith}
use Rattle.records.specs.Format.{body_at, body_of}
use Rattle.records.proofs.TakenKinds.{last_kind}
use Rattle.records.proofs.reading.body_at.Goals as goal

pub link_at-requires : goal.link_at-requires
unfolding body_of
link_at-requires c = let e : body_of c.args.kind ≡ 5 = ap body_of c.in-1.is in
    omega arith

pub session_at-requires : goal.session_at-requires
unfolding body_of
session_at-requires c = let e : body_of c.args.kind ≡ 18 = ap body_of c.in-2.is in
    omega arith

pub leave_at-requires : goal.leave_at-requires
unfolding body_of
leave_at-requires c = let e : body_of c.args.kind ≡ 1 = ap body_of c.in-3.is in
    omega arith

pub change_at-requires : goal.change_at-requires
unfolding body_of
change_at-requires c = let e : body_of c.args.kind ≡ 5 = ap body_of c.in-4.is in
    omega arith

pub deliver_at-requires : goal.deliver_at-requires
unfolding body_of
deliver_at-requires c = let k : c.args.kind ≡ 5 = last_kind _ c.requires.0 c.requires.1 (λ q. omega arith) (λ q. omega arith) (λ q. omega arith) (λ q. omega arith) in
    let e : body_of c.args.kind ≡ 2 = ap body_of k in
    omega arith

pub returns-in-1 : goal.returns-in-1
unfolding body_at
returns-in-1 c = let a = c.args in
    let k : get_or a.s.now a.at 0 ≡ 1 = sym c.requires.2 ∙ c.in-1.is in
    rw k c.link_at.ensures

pub returns-in-2 : goal.returns-in-2
unfolding body_at
returns-in-2 c = let a = c.args in
    let k : get_or a.s.now a.at 0 ≡ 2 = sym c.requires.2 ∙ c.in-2.is in
    rw k c.session_at.ensures

pub returns-in-3 : goal.returns-in-3
unfolding body_at
returns-in-3 c = let a = c.args in
    let k : get_or a.s.now a.at 0 ≡ 3 = sym c.requires.2 ∙ c.in-3.is in
    rw k c.leave_at.ensures

pub returns-in-4 : goal.returns-in-4
unfolding body_at
returns-in-4 c = let a = c.args in
    let k : get_or a.s.now a.at 0 ≡ 4 = sym c.requires.2 ∙ c.in-4.is in
    rw k c.change_at.ensures

pub returns-in_default : goal.returns-in_default
unfolding body_at
returns-in_default c = let a = c.args in
    let k : get_or a.s.now a.at 0 ≡ 5 = sym c.requires.2 ∙ last_kind _ c.requires.0 c.requires.1 (λ q. omega arith) (λ q. omega arith) (λ q. omega arith) (λ q. omega arith) in
    rw k c.deliver_at.ensures

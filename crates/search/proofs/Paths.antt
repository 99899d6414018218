-- The eight path bytes of a session, as a part of all path bytes.
-- Assumes nothing.
use mathlib.Core.List.{List}
use mathlib.Core.Path.{◌≡◌}
use Prim.Native.Nat.{ℕ, ◌+◌, ◌-◌, ◌*◌, ◌<◌, ◌≤◌}
use native.Mathlib.Omega.{arith}
use lib.ListN.{get_or, length}
use Rattle.std.specs.List.{slice_range}
use Rattle.std.proofs.Common.{length-drop, length-take, get_or-drop, get_or-take}
use Rattle.search.specs.Crossing.{byte_at}

eight : (s : ℕ) → s * 8 + 8 - s * 8 ≡ 8
eight s = omega arith

pub path_length : (path : List ℕ) (s : ℕ) → s * 8 + 8 ≤ length path → length (slice_range path (s * 8) (s * 8 + 8)) ≡ 8
path_length path s fits = rw (eight s) (simp (length-take, length-drop) (omega arith))

pub path_byte : (path : List ℕ) (s h : ℕ) → h < 8 → get_or (slice_range path (s * 8) (s * 8 + 8)) h 0 ≡ byte_at path s h
path_byte path s h l = rw (eight s, get_or-take, get_or-drop)

-- The bit of a block, below 16, as the machine makes it by a shift. Assumes nothing.
use mathlib.Core.Path.{◌≡◌, ◌∙◌, sym}
use Prim.Native.Nat.{ℕ, ◌*◌, ◌%◌, ◌^◌, ◌<◌}
use Rattle.basics.proofs.Table.{at}

pub shifted : (b : ℕ) → b < 16 → 1 * 2 ^ b % 65536 ≡ 2 ^ b
shifted b h = sym (at (λ (k : ℕ). 1 * 2 ^ k % 65536) 16 b 0 h) ∙ at (λ (k : ℕ). 2 ^ k) 16 b 0 h

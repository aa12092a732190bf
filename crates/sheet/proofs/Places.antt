-- What the layout's test tells: how long the bytes are, and what stands where. Assumes nothing.
use mathlib.Core.Path.{◌≡◌}
use mathlib.Core.Bool.{true}
use mathlib.Core.List.{List}
use Prim.Native.Nat.{ℕ, zero, suc, ◌+◌, ◌*◌, ◌/◌, ◌%◌, ◌<◌}
use native.Mathlib.Omega.{arith}
use borrow.Author.Tests.{eqb-true}
use lib.ListN.{length, get_or, drop, drop_of_length-le}
use lib.Seq.{drop-cons}
use Rattle.basics.proofs.All.{holds}
use Rattle.basics.proofs.Table.{from}
use Rattle.basics.specs.Bytes.{two_at}
use Rattle.sheet.specs.Sheet.{field_at, of_layout}

pub thirteen : (s : List ℕ) → of_layout s ≡ true → length s ≡ 13
unfolding of_layout
thirteen s e = eqb-true _ _ (holds _ 0 e)

-- a field's tag, and its length byte by byte
pub head : (s : List ℕ) (at tag size : ℕ)
    → size < 256
    → field_at s at tag size ≡ true
    → (get_or s at 0 ≡ tag) × (get_or s (at + 1) 0 ≡ size) × (get_or s (at + 1 + 1) 0 ≡ 0)
unfolding field_at
head s at tag size h e =
    let n : two_at s (at + 1) ≡ size = eqb-true _ _ (holds _ 1 e) in
    (eqb-true _ _ (holds _ 0 e), omega arith, omega arith)

-- a list is its elements, one after the other
spelled_from : (s : List ℕ) (n i : ℕ) → length s ≡ i + n → drop i s ≡ from (λ (k : ℕ). get_or s k 0) i n
spelled_from s zero i e = drop_of_length-le s {i = i} (omega arith)
spelled_from s (suc n) i e =
    rw (drop-cons s i 0 (omega arith)) (rw (spelled_from s n (suc i) (omega arith)))

pub spelled : (s : List ℕ) (n : ℕ) → length s ≡ n → s ≡ from (λ (k : ℕ). get_or s k 0) 0 n
spelled s n e = spelled_from s n 0 (omega arith)

-- a number and its two bytes
pub halves : (n : ℕ) → n % 256 + 256 * (n / 256) ≡ n
halves n = omega arith

pub halved : (lower higher : ℕ)
    → lower < 256
    → ((lower + 256 * higher) % 256 ≡ lower) × ((lower + 256 * higher) / 256 ≡ higher)
halved lower higher h = (omega arith, omega arith)

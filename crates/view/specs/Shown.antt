-- Document 01, "Block view": a block's part of the image, or as much of the lent page of zeros where the block is
-- read-locked, as bytes and as numbers. Assumes nothing.
use Rattle.std.specs.Prelude.{ℕ, ◌*◌, ◌≡◌, Bool, true, false, cond, ◌&&◌, List, [], ◌∷◌, eqb, ltb, length, get_or, take, drop}
use Rattle.std.specs.Int.Bits.{bit_and}
use Rattle.basics.specs.All.{all}
use Rattle.record.specs.declared.Device.{Device}
use Rattle.soundness.specs.Sound.{sound_of}
use Rattle.view.specs.declared.Piece.{Piece}
use Rattle.view.specs.declared.Sight.{Sight}
use Rattle.view.specs.declared.Sight.TheVariants.{Nothing, Page, Block}

abbrev pub all_zero : List ℕ → Bool
all_zero [] = true
all_zero (x ∷ xs) = eqb x 0 && all_zero xs

-- the page is 65,536 bytes of 00h
unfoldable pub is_zeros : List ℕ → Bool
is_zeros page = all (eqb (length page) 65536 ∷ all_zero page ∷ [])

-- a sound device, a whole image, a block of the sixteen, and a page of zeros
unfoldable pub can_show : Device → List ℕ → List ℕ → ℕ → Bool
can_show d image page block = all (sound_of d ∷ eqb (length image) 1048576 ∷ ltb block 16 ∷ is_zeros page ∷ [])

-- a block is read-locked by bit 2 of its lock register
unfoldable pub read_locked : Device → ℕ → Bool
read_locked d block = eqb (bit_and (get_or d.locks block 0) 4) 4

-- what a reader sees: nothing where nothing can be shown; the page where the block is read-locked; else the block
abbrev pub Sees : Device → List ℕ → List ℕ → ℕ → Sight → Type 0
Sees d image page block Nothing = can_show d image page block ≡ false
Sees d image page block Page = (can_show d image page block ≡ true) × (read_locked d block ≡ true)
Sees d image page block (Block b) = (b ≡ block) × (can_show d image page block ≡ true) × (read_locked d block ≡ false)

-- the bytes shown: the page's where the block is read-locked, else the block's own; nothing where nothing can be shown
unfoldable pub shown : Device → List ℕ → List ℕ → ℕ → List ℕ
shown d image page block =
    cond (can_show d image page block)
    (cond (read_locked d block) (take 65536 page) (take 65536 (drop (block * 65536) image)))
    []

abbrev pub piece : ℕ → ℕ → ℕ → Piece
piece from start length = record { from = from; start = start; length = length }

-- the same as numbers: 0 the page's empty front, 1 the image, 2 the page
unfoldable pub piece_shown : Device → List ℕ → List ℕ → ℕ → Piece
piece_shown d image page block =
    cond (can_show d image page block) (cond (read_locked d block) (piece 2 0 65536) (piece 1 (block * 65536) 65536))
    (piece 0 0 0)

-- the bytes that the numbers name
unfoldable pub bytes_named : Piece → List ℕ → List ℕ → List ℕ
bytes_named p image page = take p.length (drop p.start (cond (eqb p.from 1) image page))

-- what a view gives for a device, an image, a page and a block: the bytes
abbrev pub Shows : Device → List ℕ → List ℕ → ℕ → List ℕ → Type 0
Shows d image page block bytes = bytes ≡ shown d image page block

-- the same as numbers
abbrev pub ShowsPiece : Device → List ℕ → List ℕ → ℕ → Piece → Type 0
ShowsPiece d image page block r = r ≡ piece_shown d image page block

-- The contents of a block, under an effect in another block and under what is left of an operation on it. Assumes nothing.
use Prim.Native.Nat.{ℕ, ◌+◌, ◌-◌, ◌*◌, ◌%◌, ◌≤◌, ◌<◌}
use mathlib.Core.Path.{◌≡◌, ◌∙◌, sym, refl, ap}
use mathlib.Core.Bool.{true, cond}
use mathlib.Core.List.{List, ◌++◌}
use native.Mathlib.Omega.{arith}
use lib.Bits.{bit_and}
use lib.Dec.{ltb}
use lib.ListN.{length, get_or, set, take, drop, replicate, length-append, length-drop, length-replicate, get_or-replicate, get_or-append}
use lib.Seq.{length-take-le, get_or-take, get_or-drop, get_or-append-add, get_or-set_other, drop-set-add, take-set-lt, ext_get_or}
use borrow.Author.Tests.{ltb-true, ltb-false, eqb-false}
use Rattle.basics.proofs.Rules.{Answer, yes, no, ask}
use Rattle.record.specs.declared.Operation.{Operation}
use Rattle.record.specs.Record.{is_absent, is_program, block_of}
use Rattle.effect.specs.declared.Effect.{Effect}
use Rattle.effect.specs.declared.Effect.TheVariants.{Nothing, Program, Fill}
use Rattle.basics.specs.Bytes.{filled}
use Rattle.effect.specs.Effect.{FitsIn, InBlock, applied}
use Rattle.soundness.specs.Sound.{operation_fits}
use Rattle.operation.specs.Clock.{slice_at}
use Rattle.operation.specs.Whole.{rest}
use Rattle.operation.proofs.Facts.{slices}
use Rattle.clock.proofs.Kept.{applied_length}
use Rattle.demands.specs.History.{contents}

-- a byte of a filled list
module _ (d : List ℕ) (s n v i : ℕ) (h : s + n ≤ length d) where
  front : length (take s d) ≡ s
  front = length-take-le s d (omega arith)

  middle : length (take s d ++ replicate n v) ≡ s + n
  middle = simp (length-append, length-replicate, front)

  below : i < s → get_or (filled d s n v) i 0 ≡ get_or d i 0
  below l =
      get_or-append (take s d ++ replicate n v) (drop (s + n) d) 0 i (omega (arith, middle))
      ∙ get_or-append (take s d) (replicate n v) 0 i (omega (arith, front))
      ∙ get_or-take s d i 0 l

  inside : s ≤ i → i < s + n → get_or (filled d s n v) i 0 ≡ v
  inside l u =
      let e : i ≡ length (take s d) + (i - s) = omega (arith, front) in
      get_or-append (take s d ++ replicate n v) (drop (s + n) d) 0 i (omega (arith, middle))
      ∙ ap (λ (k : ℕ). get_or (take s d ++ replicate n v) k 0) e
      ∙ get_or-append-add (take s d) (replicate n v) (i - s) 0
      ∙ get_or-replicate n (i - s) v 0 (omega arith)

  above : s + n ≤ i → get_or (filled d s n v) i 0 ≡ get_or d i 0
  above l =
      let e : i ≡ length (take s d ++ replicate n v) + (i - (s + n)) = omega (arith, middle) in
      let f : s + n + (i - (s + n)) ≡ i = omega arith in
      ap (λ (k : ℕ). get_or (filled d s n v) k 0) e
      ∙ get_or-append-add (take s d ++ replicate n v) (drop (s + n) d) (i - (s + n)) 0
      ∙ get_or-drop (s + n) d (i - (s + n)) 0
      ∙ ap (λ (k : ℕ). get_or d k 0) f

-- the length and the bytes of a block
pub contents_length : (b : ℕ) (d : List ℕ) → length d ≡ 1048576 → b < 16 → length (contents b d) ≡ 65536
contents_length b d l h = length-take-le 65536 (drop (b * 65536) d) (simp length-drop (omega arith))

contents_at : (b : ℕ) (d : List ℕ) (i : ℕ) → i < 65536 → get_or (contents b d) i 0 ≡ get_or d (b * 65536 + i) 0
contents_at b d i h = get_or-take 65536 (drop (b * 65536) d) i 0 h ∙ get_or-drop (b * 65536) d i 0

-- an effect leaves the bytes outside its block
applied_at : (b : ℕ) (e : Effect) (d : List ℕ) (j : ℕ)
    → InBlock b e
    → FitsIn e (length d)
    → (b * 65536 ≤ j → j < b * 65536 + 65536 → ⊥)
    → get_or (applied e d) j 0 ≡ get_or d j 0
applied_at b Nothing d j i w n = refl
applied_at b (Program a v) d j i w n = get_or-set_other d a j _ 0 (λ e. n (omega arith) (omega arith))
applied_at b (Fill s c v) d j i w n = pick (ask (ltb j s)) (ask (ltb j (s + c)))
  where
    pick : Answer (ltb j s) → Answer (ltb j (s + c)) → get_or (applied (Fill s c v) d) j 0 ≡ get_or d j 0
    pick (yes l) u = below d s c v j w (ltb-true j s l)
    pick (no l) (yes u) =
        let x = ltb-false j s l in
        let y = ltb-true j (s + c) u in
        absurd (n (omega arith) (omega arith))
    pick (no l) (no u) = above d s c v j w (ltb-false j (s + c) u)

pub inside_image : (b : ℕ) (e : Effect) (n : ℕ) → b < 16 → n ≡ 1048576 → InBlock b e → FitsIn e n
inside_image b Nothing n h l i = tt
inside_image b (Program a v) n h l i = omega arith
inside_image b (Fill s c v) n h l i = omega arith

apart : (b k j : ℕ) → k * 65536 ≤ b * 65536 + j → b * 65536 + j < k * 65536 + 65536 → j < 65536 → b ≡ k
apart b k j p q g = omega arith

-- an effect in another block leaves the contents
pub contents_other : (b k : ℕ) (e : Effect) (d : List ℕ)
    → b < 16
    → k < 16
    → (b ≡ k → ⊥)
    → length d ≡ 1048576
    → InBlock k e
    → contents b (applied e d) ≡ contents b d
contents_other b k e d hb hk n l i =
    let w = inside_image k e (length d) hk l i in
    let m : length (applied e d) ≡ 1048576 = applied_length e d w ∙ l in
    let x = contents_length b (applied e d) m hb in
    let y = contents_length b d l hb in
    ext_get_or 0 (contents b (applied e d)) (contents b d) (x ∙ sym y)
    (λ j h.
    let g = rw x at h in
    contents_at b (applied e d) j g
    ∙ applied_at k e d (b * 65536 + j) i w (λ p q. n (apart b k j p q g))
    ∙ sym (contents_at b d j g))

-- what is left of an operation, done to the contents of its block at once
unfoldable pub rest_in : Operation → List ℕ → List ℕ
rest_in o x =
    cond (is_absent o) x
    (cond (is_program o)
    (set x (o.address % 65536) (bit_and (get_or x (o.address % 65536) 0) o.«data»))
    (filled x ((256 - o.slices) * 256) (o.slices * 256) 255))

contents_set : (b a v : ℕ) (d : List ℕ) → block_of a ≡ b → contents b (set d a v) ≡ set (contents b d) (a % 65536) v
contents_set b a v d e =
    let x : a ≡ b * 65536 + a % 65536 = omega arith in
    ap (λ (k : ℕ). contents b (set d k v)) x
    ∙ ap (take 65536) (drop-set-add (b * 65536) d (a % 65536) v)
    ∙ take-set-lt 65536 (drop (b * 65536) d) (a % 65536) v (omega arith)

contents_byte : (b a : ℕ) (d : List ℕ) → block_of a ≡ b → get_or (contents b d) (a % 65536) 0 ≡ get_or d a 0
contents_byte b a d e =
    let x : b * 65536 + a % 65536 ≡ a = omega arith in
    contents_at b d (a % 65536) (omega arith) ∙ ap (λ (k : ℕ). get_or d k 0) x

low : (b j s : ℕ) → j < s → b * 65536 + j < b * 65536 + s
low b j s h = omega arith

mid : (b s j : ℕ) → s ≤ j → b * 65536 + s ≤ b * 65536 + j
mid b s j h = omega arith

mid2 : (b j s n : ℕ) → j < s + n → b * 65536 + j < b * 65536 + s + n
mid2 b j s n h = omega arith

high : (b s n j : ℕ) → s + n ≤ j → b * 65536 + s + n ≤ b * 65536 + j
high b s n j h = omega arith

same : (b s n v : ℕ) (d : List ℕ) (j : ℕ)
    → b * 65536 + s + n ≤ length d
    → s + n ≤ length (contents b d)
    → j < 65536
    → get_or (filled d (b * 65536 + s) n v) (b * 65536 + j) 0 ≡ get_or (filled (contents b d) s n v) j 0
same b s n v d j w u q = pick (ask (ltb j s)) (ask (ltb j (s + n)))
  where
    pick : Answer (ltb j s) → Answer (ltb j (s + n)) → get_or (filled d (b * 65536 + s) n v) (b * 65536 + j) 0 ≡ get_or (filled (contents b d) s n v) j 0
    pick (yes l) r =
        let x = ltb-true j s l in
        below d (b * 65536 + s) n v (b * 65536 + j) w (low b j s x) ∙ sym (contents_at b d j q) ∙ sym (below (contents b d) s n v j u x)
    pick (no l) (yes r) =
        let x = ltb-false j s l in
        let y = ltb-true j (s + n) r in
        inside d (b * 65536 + s) n v (b * 65536 + j) w (mid b s j x) (mid2 b j s n y) ∙ sym (inside (contents b d) s n v j u x y)
    pick (no l) (no r) =
        let y = ltb-false j (s + n) r in
        above d (b * 65536 + s) n v (b * 65536 + j) w (high b s n j y) ∙ sym (contents_at b d j q) ∙ sym (above (contents b d) s n v j u y)

contents_filled : (b s n v : ℕ) (d : List ℕ)
    → length d ≡ 1048576
    → b < 16
    → s + n ≤ 65536
    → contents b (filled d (b * 65536 + s) n v) ≡ filled (contents b d) s n v
contents_filled b s n v d l h f =
    let w : b * 65536 + s + n ≤ length d = omega arith in
    let m : length (filled d (b * 65536 + s) n v) ≡ 1048576 = applied_length (Fill (b * 65536 + s) n v) d w ∙ l in
    let x = contents_length b (filled d (b * 65536 + s) n v) m h in
    let y = contents_length b d l h in
    let u : s + n ≤ length (contents b d) = rw y f in
    let z : length (filled (contents b d) s n v) ≡ 65536 = applied_length (Fill s n v) (contents b d) u ∙ y in
    ext_get_or 0 (contents b (filled d (b * 65536 + s) n v)) (filled (contents b d) s n v) (x ∙ sym z)
    (λ j q. contents_at b (filled d (b * 65536 + s) n v) j (rw x at q) ∙ same b s n v d j w u (rw x at q))

pub contents_rest : (b : ℕ) (o : Operation) (d : List ℕ)
    → b < 16
    → operation_fits o ≡ true
    → block_of o.address ≡ b
    → length d ≡ 1048576
    → contents b (rest o d) ≡ rest_in o (contents b d)
unfolding rest rest_in slice_at
contents_rest b o d h e k l = pick (ask (is_absent o)) (ask (is_program o))
  where
    pick : Answer (is_absent o) → Answer (is_program o) → contents b (rest o d) ≡ rest_in o (contents b d)
    pick (yes a) p = rw a
    pick (no a) (yes p) =
        rw (a, p)
        (contents_set b o.address (bit_and (get_or d o.address 0) o.«data») d k
        ∙ ap (λ (x : ℕ). set (contents b d) (o.address % 65536) (bit_and x o.«data»)) (sym (contents_byte b o.address d k)))
    pick (no a) (no p) =
        let w = slices o e (eqb-false o.kind 1 p) in
        rw (a, p, k) (contents_filled b ((256 - o.slices) * 256) (o.slices * 256) 255 d l h (omega arith))

-- A table is the list of its rule's values, by computation, and so has the rule's value at every entry; a law of
-- every byte is the same with two rules. Assumes nothing.
use mathlib.Core.Path.{◌≡◌, ◌∙◌, ap, sym}
use mathlib.Core.List.{List, [], ◌∷◌}
use Prim.Native.Nat.{ℕ, zero, suc, ◌+◌, ◌<◌}
use native.Mathlib.Nat.{add-zero, zero-add, add-suc, suc-add, le_of_suc-le-suc, not-suc-le-zero}
use lib.ListN.{get_or}

module _ {A : Type 0} where
  -- the n values of f from i on
  abbrev pub from : (ℕ → A) → ℕ → ℕ → List A
  from f i zero = []
  from f i (suc n) = f i ∷ from f (suc i) n

  from_at : (f : ℕ → A) (n i k : ℕ) (d : A) → k < n → get_or (from f i n) k d ≡ f (i + k)
  from_at f zero i k d h = absurd (not-suc-le-zero h)
  from_at f (suc n) i zero d h = ap f (sym (add-zero i))
  from_at f (suc n) i (suc k) d h =
      from_at f n (suc i) k d (le_of_suc-le-suc h) ∙ ap f (suc-add i k ∙ sym (add-suc i k))

  pub at : (f : ℕ → A) (n k : ℕ) (d : A) → k < n → get_or (from f 0 n) k d ≡ f k
  at f n k d h = from_at f n 0 k d h ∙ ap f (zero-add k)

module _ {A : Type 0} where
  pub at2 : (f : ℕ → ℕ → A) (m n r k : ℕ) (e : List A) (d : A)
      → r < m
      → k < n
      → get_or (get_or (from (λ (i : ℕ). from (f i) 0 n) 0 m) r e) k d ≡ f r k
  at2 f m n r k e d h l =
      ap (λ (t : List A). get_or t k d) (at (λ (i : ℕ). from (f i) 0 n) m r e h) ∙ at (f r) n k d l

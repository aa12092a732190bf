-- A definition by tests, at a place where the tests' answers are known: `search cases` rewrites by them.
-- Assumes nothing.
use mathlib.Core.Path.{◌≡◌, refl, subst}
use mathlib.Core.Bool.{Bool, true, false, cond, not, ◌&&◌, ◌||◌}
use borrow.Author.Tests.{eq-eqb, ne_eqb, lt-ltb, le-ltb, le-leb, lt-leb, not-true, not-false}

module _ {A : Type 0} (t : Bool) (a b : A) where
  pub cond_yes : t ≡ true → cond t a b ≡ a
  cond_yes e = rw e

  pub cond_no : t ≡ false → cond t a b ≡ b
  cond_no e = rw e

  pub cond_not : not t ≡ true → cond t a b ≡ b
  cond_not e = rw (not-true t e)

  pub cond_not_not : not t ≡ false → cond t a b ≡ a
  cond_not_not e = rw (not-false t e)

module _ (t b : Bool) where
  pub and_yes : t ≡ true → (t && b) ≡ b
  and_yes e = rw e

  pub and_no : t ≡ false → (t && b) ≡ false
  and_no e = rw e

  pub or_yes : t ≡ true → (t || b) ≡ true
  or_yes e = rw e

  pub or_no : t ≡ false → (t || b) ≡ b
  or_no e = rw e

-- no test is both
pub clash : {A : Type 0} → false ≡ true → A
clash {A} e = subst (λ (t : Bool). cond t A Unit) e tt

pub ruleset cases = (
  eq-eqb,
  ne_eqb,
  lt-ltb,
  le-ltb,
  le-leb,
  lt-leb,
  cond_yes,
  cond_no,
  cond_not,
  cond_not_not,
  and_yes,
  and_no,
  or_yes,
  or_no,
)

-- A conjunction taken apart, and put together.
pub and_left : (a b : Bool) → (a && b) ≡ true → a ≡ true
and_left true b e = refl
and_left false b e = e

pub and_right : (a b : Bool) → (a && b) ≡ true → b ≡ true
and_right true b e = e
and_right false b e = clash e

pub and_both : (a b : Bool) → a ≡ true → b ≡ true → (a && b) ≡ true
and_both a b e f = rw (e, f)

-- A test has two answers.
pub data Answer (t : Bool) : Type 0 where
  yes : t ≡ true → Answer t
  no : t ≡ false → Answer t

pub ask : (t : Bool) → Answer t
ask true = yes refl
ask false = no refl

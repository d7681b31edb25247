-- When the outcome is 11, 12 and a word. Assumes nothing.
use mathlib.Core.Path.{◌≡◌, refl}
use mathlib.Core.Bool.{Bool, true, false, cond}
use mathlib.Core.List.{List}
use Prim.Native.Nat.{ℕ, ◌-◌, ◌≤◌, ◌<◌}
use borrow.Author.Tests.{lt-ltb, le-ltb}
use lib.Dec.{ltb}
use Rattle.refusals.specs.Outcome.{Outcome, accepted, refused}
use Rattle.levels.specs.Levels.{least_of, greatest_of, middle_of, word_of, unsure_of, code_of}

-- the outcome by its two tests
abbrev pub outcome : Bool → Bool → ℕ → Outcome ℕ
outcome flat doubtful w = cond flat (refused 11) (cond doubtful (refused 12) (accepted w))

outcome_word : (flat doubtful : Bool) (v w : ℕ) → outcome flat doubtful v ≡ accepted w → w ≡ v
outcome_word true doubtful v w e = cc
outcome_word false true v w e = cc
outcome_word false false v w e = cc

-- an accepted value changed by f, a refusal as it is
abbrev pub on_accepted : {A B : Type 0} → (A → B) → Outcome A → Outcome B
on_accepted f (accepted a) = accepted (f a)
on_accepted f (refused n) = refused n

pub outcome_accepted : (f : ℕ → ℕ) (flat doubtful : Bool) (w : ℕ) → outcome flat doubtful (f w) ≡ on_accepted f (outcome flat doubtful w)
outcome_accepted f true doubtful w = refl
outcome_accepted f false true w = refl
outcome_accepted f false false w = refl

module _ (levels : List ℕ) (band allowed : ℕ) where
  pub code_flat : greatest_of levels - least_of levels < 50 → code_of levels band allowed ≡ refused 11
  unfolding code_of
  code_flat h = simp (lt-ltb _ _ h)

  pub code_unsure : 50 ≤ greatest_of levels - least_of levels → allowed < unsure_of (middle_of levels) band levels → code_of levels band allowed ≡ refused 12
  unfolding code_of
  code_unsure h k = simp (le-ltb _ _ h, lt-ltb _ _ k)

  pub code_word : 50 ≤ greatest_of levels - least_of levels → unsure_of (middle_of levels) band levels ≤ allowed
      → code_of levels band allowed ≡ accepted (word_of (middle_of levels) levels)
  unfolding code_of
  code_word h k = simp (le-ltb _ _ h, le-ltb _ _ k)

  -- whatever word is accepted is the word of the levels
  pub code_accepted : (w : ℕ) → code_of levels band allowed ≡ accepted w → w ≡ word_of (middle_of levels) levels
  unfolding code_of
  code_accepted w e =
      outcome_word (ltb (greatest_of levels - least_of levels) 50) (ltb allowed (unsure_of (middle_of levels) band levels)) (word_of (middle_of levels) levels) w e

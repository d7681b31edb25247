-- The outcome of `init_saddle_clusters` by the tests that a call fails or passes. Assumes nothing.
use Rattle.std.specs.Float.{float_is_finite}
use mathlib.Core.Path.{◌≡◌, refl, ap, ◌∙◌}
use mathlib.Core.Bool.{Bool, true, false, not}
use mathlib.Core.List.{List}
use Prim.Native.Nat.{ℕ, ◌+◌, ◌*◌, ◌<◌, ◌≤◌}
use borrow.Author.Tests.{lt-ltb, le-ltb}
use lib.ListN.{length}
use lib.Ieee.{Float, nan, inf, fin}
use lib.Ieee.Scale.{finite}
use Rattle.lists.specs.Tab.{all}
use Rattle.refusals.specs.declared.Shape.{Shape}
use Rattle.refusals.specs.Outcome.{accepted, refused}
use Rattle.refusals.specs.Plane.{bad_plane}
use Rattle.samples.specs.Samples.{tame}
use Rattle.clusters.specs.Clusters.{Found, saddle_clusters}
use Rattle.muosleap_picture.specs.SaddleClusters.{Call, call, init_saddle_clusters}

-- the library's test of a float
pub finite_is : (t : Float) → float_is_finite t ≡ finite t
unfolding float_is_finite
finite_is nan = refl
finite_is (inf s) = refl
finite_is (fin s m e) = refl

module _ (plane : List Float) (shape : Shape) (threshold : Float) (worklist : ℕ) (rows : List ℕ) where
  abbrev misshapen : Bool
  misshapen = bad_plane (length plane) shape.width shape.height

  abbrev wild : Bool
  wild = not (all tame plane)

  abbrev endless : Bool
  endless = not (finite threshold)

  abbrev needed : ℕ
  needed = 3 * shape.width * shape.height + 1

  abbrev outcome : Call
  outcome = init_saddle_clusters plane shape threshold worklist rows

  module _ (a : misshapen ≡ false) where
    pub refused_3 : wild ≡ true → call (refused 3) plane rows ≡ outcome
    unfolding init_saddle_clusters
    refused_3 b = simp (a, b)

    module _ (b : wild ≡ false) where
      pub refused_4 : endless ≡ true → call (refused 4) plane rows ≡ outcome
      unfolding init_saddle_clusters
      refused_4 c = simp (a, b, c)

      module _ (c : endless ≡ false) where
        pub refused_5 : worklist < needed → call (refused 5) plane rows ≡ outcome
        unfolding init_saddle_clusters
        refused_5 d = simp (a, b, c, lt-ltb worklist needed d)

        pub passed : needed ≤ worklist → (f : Found) → f ≡ saddle_clusters threshold shape plane rows → call (accepted f.total) f.plane f.rows ≡ outcome
        unfolding init_saddle_clusters
        passed d f e = ap (λ (g : Found). call (accepted g.total) g.plane g.rows) e ∙ simp (a, b, c, le-ltb worklist needed d)

-- The search for a sample below the threshold, over blocks of 32 samples and then sample by sample. Assumes nothing.
use Rattle.std.proofs.Common.{◌≡◌, refl, sym, ap, ap₂, ◌∙◌, subst, ℕ, zero, suc, ◌+◌, ◌-◌, ◌*◌, ◌^◌, ◌%◌, ◌≤◌, ◌<◌, Bool, true, false, ◌||◌, cond, List, [], ◌∷◌, map, length, get_or, drop, nat_eq, Option, None, Some, IfNone, IfSome, arith}
use Rattle.std.proofs.lemmas.Simd.{mask_l-mod, length-chunk, get_or-chunk}
use Rattle.std.specs.Option.{MatchOption, unwrap_or}
use Rattle.std.specs.Simd.Lanes.{mask_l, zip2, top, chunk}
use Rattle.std.proofs.lemmas.List.{get_or-drop}
use mathlib.Core.Bool.{not, or-false, or_assoc, true≢false}
use mathlib.Core.Logic.{⊎_elim}
use native.Mathlib.Nat.{zero-add}
use native.Mathlib.Decide.{dec_lt}
use lib.ListN.{replicate, length-drop}
use lib.Ieee.{Float, nan, lt}
use Rattle.lists.specs.Each.{any}
use Rattle.std.proofs.lemmas.Bool.{cases_Bool}
use Rattle.lists.proofs.Each.{any_found, any_ext}
use Rattle.clusters.specs.Connected.{below}
use Rattle.clusters.specs.Walk.{NoneBelow}

-- ---- a block, whose lanes are compared side by side

one_more : (b : Bool) (m : ℕ) → not (nat_eq (cond b 1 0 + 2 * m) 0) ≡ b || not (nat_eq m 0)
one_more true m = grind arith
one_more false m = grind arith

-- the first number stands apart
any_first : (n : ℕ) (f : ℕ → Bool) → any (suc n) f ≡ f 0 || any n (λ j. f (suc j))
unfolding any
any_first zero f = sym (or-false (f 0))
any_first (suc n) f = ap (λ (b : Bool). b || f (suc n)) (any_first n f) ∙ or_assoc (f 0) (any n (λ j. f (suc j))) (f (suc n))

-- a mask is not zero where one lane passes
mask_any : {X : Type 0} (p : X → Bool) (d : X) (xs : List X) → not (nat_eq (mask_l (map p xs)) 0) ≡ any (length xs) (λ j. p (get_or xs j d))
unfolding any
mask_any p d [] = refl
mask_any p d (x ∷ xs) =
    one_more (p x) (mask_l (map p xs)) ∙ ap (λ (b : Bool). p x || b) (mask_any p d xs) ∙ sym (any_first (length xs) (λ j. p (get_or (x ∷ xs) j d)))

lane_mask : (b : Bool) → top 31 (cond b 4294967295 0) ≡ b
lane_mask true = refl
lane_mask false = refl

abbrev lanes_below : ℕ → Float → List Float → List Bool
lanes_below n t xs = map (top 31) (zip2 (λ a b. cond (lt a b) 4294967295 0) xs (replicate n t))

lanes_tested : (t : Float) (xs : List Float) → lanes_below (length xs) t xs ≡ map (λ v. lt v t) xs
lanes_tested t [] = refl
lanes_tested t (x ∷ xs) = ap₂ ◌∷◌ (lane_mask (lt x t)) (lanes_tested t xs)

length-map : {X Y : Type 0} (f : X → Y) (xs : List X) → length (map f xs) ≡ length xs
length-map f [] = refl
length-map f (x ∷ xs) = ap suc (length-map f xs)

lanes_any : (t : Float) (xs : List Float) (n : ℕ) → length xs ≡ n → n ≤ 64 → not (nat_eq (mask_l (lanes_below n t xs) % 2 ^ 64) 0) ≡ any n (λ j. lt (get_or xs j nan) t)
lanes_any t xs n long few =
    subst (λ (k : ℕ). not (nat_eq (mask_l (lanes_below k t xs) % 2 ^ 64) 0) ≡ any k (λ j. lt (get_or xs j nan) t)) long
    (ap (λ (ms : List Bool). not (nat_eq (mask_l ms % 2 ^ 64) 0)) (lanes_tested t xs)
    ∙ ap (λ (m : ℕ). not (nat_eq m 0)) (mask_l-mod (map (λ v. lt v t) xs) 64 (omega (arith, length-map (λ v. lt v t) xs)))
    ∙ mask_any (λ v. lt v t) nan xs)

pub block_any : (t : Float) (mat : List Float) (a : ℕ) → a + 32 ≤ length mat
    → not (nat_eq (mask_l (lanes_below 32 t (chunk 0 32 (drop a mat))) % 2 ^ 64) 0) ≡ any 32 (λ j. below t mat (a + j))
block_any t mat a h =
    let rest = drop a mat in
    lanes_any t (chunk 0 32 rest) 32 (length-chunk 0 32 rest (omega (arith, length-drop a mat))) (omega arith)
    ∙ any_ext 32 (λ j. lt (get_or (chunk 0 32 rest) j nan) t) (λ j. below t mat (a + j)) (λ j l. ap (λ (v : Float). lt v t) (get_or-chunk 0 32 rest j nan l ∙ ap (λ (k : ℕ). get_or rest k nan) (zero-add j) ∙ get_or-drop a mat j nan))

-- ---- the search

module _ (t : Float) (plane : List Float) (a : ℕ) where
  -- block k holds a sample below the threshold
  abbrev pub block : ℕ → Bool
  block k = any 32 (λ j. below t plane (a + 32 * k + j))

  none_in : (k : ℕ) → block k ≡ false → (j : ℕ) → j < 32 → below t plane (a + 32 * k + j) ≡ false
  none_in k e j l = ⊎_elim
      (λ b. absurd (true≢false (sym (any_found 32 j (λ j. below t plane (a + 32 * k + j)) l b) ∙ e)))
      (λ b. b)
      (cases_Bool (below t plane (a + 32 * k + j)))

  none_before : (n : ℕ) → ((k : ℕ) → 0 ≤ k → k < n → block k ≡ false) → NoneBelow t plane a (a + 32 * n)
  none_before zero h j l m = absurd (omega arith)
  none_before (suc n) h j l m = elim (dec_lt j (a + 32 * n)) [
    | yes b ↦ none_before n (λ k x y. h k x (omega arith)) j l b
    | no b ↦
        let e : a + 32 * n + (j - (a + 32 * n)) ≡ j = omega (arith, b) in
        subst (λ (k : ℕ). below t plane k ≡ false) e (none_in n (h n (omega arith) (omega arith)) (j - (a + 32 * n)) (omega (arith, b)))
  ]

  -- the blocks before the one that `find` gives are passed over, or all
  pub blocks_passed : (n : ℕ) (r : Option ℕ) → MatchOption r ((k : ℕ) → 0 ≤ k → k < n → block k ≡ false) (λ i. (0 ≤ i) × (i < n) × (block i ≡ true) × ((k : ℕ) → 0 ≤ k → k < i → block k ≡ false))
      → (unwrap_or r n ≤ n) × NoneBelow t plane a (a + 32 * unwrap_or r n)
  blocks_passed n None h = (omega arith, none_before n h)
  blocks_passed n (Some i) h = (omega (arith, h.1), none_before i h.3)

  module _ (s end : ℕ) (onward : a ≤ s) (none : NoneBelow t plane a s) where
    from_here : (r : ℕ) → ((k : ℕ) → s ≤ k → k < r → below t plane k ≡ false) → NoneBelow t plane a r
    from_here r h k l m = elim (dec_lt k s) [ yes b ↦ none k l b | no b ↦ h k (omega (arith, b)) m ]

    -- what is found behind the blocks that are passed over
    pub found_behind : (r : Option ℕ) → MatchOption r ((k : ℕ) → s ≤ k → k < end → below t plane k ≡ false) (λ i. (s ≤ i) × (i < end) × (below t plane i ≡ true) × ((k : ℕ) → s ≤ k → k < i → below t plane k ≡ false))
        → IfNone r (NoneBelow t plane a end) × IfSome r (λ i. (a ≤ i) × (i < end) × (below t plane i ≡ true) × NoneBelow t plane a i)
    found_behind None h = (from_here end h, tt)
    found_behind (Some i) h = (tt, (omega (arith, h.0, onward), h.1, h.2, from_here i h.3))
